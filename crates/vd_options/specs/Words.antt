-- The words of a run, and the options that they ask for.
use Rattle.std.specs.Prelude.{◌≡◌, ◌<◌, ◌≤◌, ℕ, ◌+◌, ◌-◌, ◌*◌, ◌/◌, ◌%◌, List, [], ◌∷◌, codes, length, Bool, true, false, ◌==◌, nat_le, nat_lt, ◌&&◌, ◌||◌, if◌then◌else◌, Option, Some, None, is_some, unwrap_or}
use Rattle.std.specs.Option.{option_map, option_and_then}
use Rattle.std.specs.Str.{bytes_eq}
use Rattle.vd_options.specs.declared.words.Chosen.{Chosen}
use Rattle.vd_options.specs.declared.words.Page.{Page}
use Rattle.vd_options.specs.declared.words.Page.TheVariants.{Small, Large}
use Rattle.vd_options.specs.declared.options.Options.{Options}

-- the number that decimal digits after n make, if all of these are digits
abbrev pub decimal_from : ℕ → List ℕ → Option ℕ
decimal_from n [] = Some n
decimal_from n (b ∷ bytes) = if nat_le 48 b && nat_le b 57 then decimal_from (10 * n + (b - 48)) bytes else None

-- a decimal number without leading zeros
abbrev pub decimal_of : List ℕ → Option ℕ
decimal_of [] = None
decimal_of (b ∷ []) = decimal_from 0 (b ∷ [])
decimal_of (b ∷ c ∷ bytes) = if b == 48 then None else decimal_from 0 (b ∷ c ∷ bytes)

-- the number, if it is from lo to hi
abbrev pub between : ℕ → ℕ → Option ℕ → Option ℕ
between lo hi None = None
between lo hi (Some n) = if nat_le lo n && nat_le n hi then Some n else None

-- the page of so many bytes
abbrev pub page_size_of : List ℕ → Option Page
page_size_of value = if bytes_eq value (codes "4096") then Some Small else (if bytes_eq value (codes "65536") then Some Large else None)

-- the slots of a page
abbrev pub slots_of : Page → ℕ
slots_of Small = 1
slots_of Large = 16

-- the disk was chosen: its sectors in memory, or its image in a file
abbrev pub has_disk : Chosen → Bool
has_disk chosen = is_some chosen.sectors || chosen.image

-- what was chosen, with a page, with slots of bounce memory, with slots of I/O memory, or with a disk, unless they were chosen before
abbrev pub with_page : Chosen → Option Page → Option Chosen
with_page chosen page = if is_some chosen.page then None else option_map (λ p. record chosen { page = Some p }) page

abbrev pub with_bounce : Chosen → Option ℕ → Option Chosen
with_bounce chosen slots = if is_some chosen.bounce then None else option_map (λ n. record chosen { bounce = Some n }) slots

abbrev pub with_iova : Chosen → Option ℕ → Option Chosen
with_iova chosen slots = if is_some chosen.iova then None else option_map (λ n. record chosen { iova = Some n }) slots

abbrev pub with_sectors : Chosen → Option ℕ → Option Chosen
with_sectors chosen sectors = if has_disk chosen then None else option_map (λ n. record chosen { sectors = Some n }) sectors

abbrev pub with_image : Chosen → List ℕ → Option Chosen
with_image chosen path = if has_disk chosen || (length path == 0) then None else Some (record chosen { image = true })

-- what was chosen, with one pair of words more
abbrev pub with_pair : Chosen → List ℕ → List ℕ → Option Chosen
with_pair chosen flag value =
    if bytes_eq flag (codes "--page") then with_page chosen (page_size_of value)
    else (if bytes_eq flag (codes "--bounce-pages") then with_bounce chosen (between 2 16384 (decimal_of value))
    else (if bytes_eq flag (codes "--iova-pages") then with_iova chosen (between 0 65536 (decimal_of value))
    else (if bytes_eq flag (codes "--sectors") then with_sectors chosen (between 0 131072 (decimal_of value))
    else (if bytes_eq flag (codes "--image") then with_image chosen value else None))))

-- what is chosen by pairs of words
abbrev pub with_pairs : Chosen → List (List ℕ) → Option Chosen
with_pairs chosen [] = Some chosen
with_pairs chosen (flag ∷ []) = None
with_pairs chosen (flag ∷ value ∷ rest) = option_and_then (λ more. with_pairs more rest) (with_pair chosen flag value)

-- the slots of bounce memory, of I/O memory and of a page, and the sectors of a disk in memory
pub record Sizes : Type 0 where
  pub bounce : ℕ
  pub iova : ℕ
  pub per_page : ℕ
  pub sectors : ℕ

-- whether sizes are whole pages of bounce memory, two at least, and more I/O memory, at most 65,536 slots
abbrev pub are_fit : Sizes → Bool
are_fit s = nat_le (2 * s.per_page) s.bounce && (s.bounce % s.per_page == 0) && nat_lt s.bounce s.iova && nat_le s.iova 65536

-- what was chosen, else pages of one slot, 16,384 slots, 32,768 slots and 2,048 sectors
abbrev pub chosen_sizes : Chosen → Sizes
chosen_sizes chosen = record {
  bounce = unwrap_or chosen.bounce 16384;
  iova = unwrap_or chosen.iova 32768;
  per_page = slots_of (unwrap_or chosen.page Small);
  sectors = unwrap_or chosen.sectors 2048;
}

abbrev pub sizes_of : Chosen → Option Sizes
sizes_of chosen = if are_fit (chosen_sizes chosen) then Some (chosen_sizes chosen) else None

-- nothing was chosen yet
abbrev pub nothing_chosen : Chosen
nothing_chosen = record { page = None; bounce = None; iova = None; sectors = None; image = false }

-- the sizes that pairs of words ask for, in any order, each at most once
abbrev pub sizes_of_pairs : List (List ℕ) → Option Sizes
sizes_of_pairs pairs = option_and_then sizes_of (with_pairs nothing_chosen pairs)

-- the sizes that the words of a run ask for: `run` and then pairs
abbrev pub asked_sizes : List (List ℕ) → Option Sizes
asked_sizes [] = None
asked_sizes (first ∷ rest) = if bytes_eq first (codes "run") then sizes_of_pairs rest else None

-- the path in pairs of words, if one names it
abbrev pub path_in : List (List ℕ) → Option (List ℕ)
path_in [] = None
path_in (flag ∷ []) = None
path_in (flag ∷ value ∷ rest) = if bytes_eq flag (codes "--image") then Some value else path_in rest

-- the path of the image that the words of a run ask for
abbrev pub asked_image : List (List ℕ) → Option (List ℕ)
asked_image [] = None
asked_image (first ∷ rest) = path_in rest

-- sizes that a device and a disk can have
pub record AreFit (s : Sizes) : Type 0 where
  pub some : 0 < s.per_page
  pub few : s.per_page ≤ 16
  pub whole : s.bounce ≡ s.per_page * (s.bounce / s.per_page)
  pub low : 2 * s.per_page ≤ s.bounce
  pub order : s.bounce < s.iova
  pub small : s.iova ≤ 65536

-- the sizes in options, whose page has its size in bytes
abbrev pub sizes_in : Options → Sizes
sizes_in o = record { bounce = o.bounce_pages; iova = o.iova_pages; per_page = o.page / 4096; sectors = o.sectors }

-- the options have these sizes
pub record AreNumbers (o : Options) (sizes : Option Sizes) : Type 0 where
  pub asked : sizes ≡ Some (sizes_in o)
  pub fit : AreFit (sizes_in o)

-- the options have these sizes, and this path of an image
pub record IsOptions (o : Options) (sizes : Option Sizes) (path : Option (List ℕ)) : Type 0 where
  pub numbers : AreNumbers o sizes
  pub image : o.image ≡ path
