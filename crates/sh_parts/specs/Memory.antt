-- What is kept of the memory, and the acts that it stands for.
use Rattle.std.specs.Prelude.{ℕ, ◌≡◌, ◌≢◌, ◌⊎◌, ◌+◌, ◌-◌, ◌*◌, ◌<◌, ◌≤◌, List, [], ◌∷◌, ◌++◌, ◌==◌, if◌then◌else◌, is_some, map}
use Rattle.vd_num.specs.Number.{pages_of}
use Rattle.vd_model.specs.declared.memory.Region.{Region}
use Rattle.vd_model.specs.Acts.{Act, Streaming, Coherent}
use Rattle.vd_model.specs.Live.{live_mappings, live_regions, registration_of, is_bounce_live}
use Rattle.vd_model.specs.Place.{Slots}
use Rattle.vd_model.specs.AreaTurns.{read_write}
use Rattle.vd_iova.specs.Space.{Space, taken_at}
use Rattle.sh_parts.specs.declared.entry.DomainStep.{DomainStep}
use Rattle.sh_parts.specs.declared.entry.DomainAnswer.{DomainAnswer}
use Rattle.sh_parts.specs.declared.memory.Live.{Live}
use Rattle.sh_parts.specs.declared.memory.Memory.{Memory}
use Rattle.sh_parts.specs.Legal.{Numbers, next_number, domain_turn}

-- what is kept of a mapping, and of a coherent region
abbrev pub kept_mapping : Streaming → Live
kept_mapping m = record { number = m.number; page = m.slot; count = pages_of m.want.len }

abbrev pub kept_region : Coherent → Live
kept_region r = record { number = r.number; page = r.slot; count = pages_of r.len }

-- its slots, and its bytes as a region
abbrev pub slots_of : Live → Slots
slots_of k = record { start = k.page; count = k.count }

abbrev pub range_of : Live → Region
range_of k = record { start = 4096 * k.page; last = 4096 * (k.page + k.count) - 1; offset = 4096 * k.page; perm = read_write }

-- none of them has its number or its first page
abbrev pub IsNew : Live → List Live → Type 0
IsNew k [] = Unit {0}
IsNew k (j ∷ js) = (j.number ≢ k.number) × (j.page ≢ k.page) × IsNew k js

-- each has a number below next and some pages from lo to hi - 1, and no two share a number or a first page
abbrev pub AreApart : ℕ → ℕ → ℕ → List Live → Type 0
AreApart next lo hi [] = Unit {0}
AreApart next lo hi (k ∷ ks) = (k.number < next) × (0 < k.count) × (lo ≤ k.page) × (k.page + k.count ≤ hi) × IsNew k ks × AreApart next lo hi ks

-- how many pages the one that starts at this page has, zero where none does
abbrev pub count_at : List Live → ℕ → ℕ
count_at [] q = 0
count_at (k ∷ ks) q = if k.page == q then k.count else count_at ks q

-- an address space has just these taken
pub record IsKept (next lo hi : ℕ) (ks : List Live) (space : Space) : Type 0 where
  pub apart : AreApart next lo hi ks
  pub counts : (q : ℕ) → taken_at space q ≡ count_at ks q
  pub first : space.first ≡ lo
  pub last : space.«end» ≡ hi

-- the region is one of the list
abbrev pub IsIn : Region → List Region → Type 0
IsIn r [] = ⊥
IsIn r (q ∷ qs) = (q ≡ r) ⊎ IsIn r qs

-- the two lists have the same regions
abbrev pub HaveSame : List Region → List Region → Type 0
HaveSame qs rs = (r : Region) → (IsIn r qs → IsIn r rs) × (IsIn r rs → IsIn r qs)

-- the parts of what is kept agree
pub record IsSound (m : Memory) : Type 0 where
  pub some : 2 ≤ m.bounce_pages
  pub more : m.bounce_pages < m.coherent.«end»
  pub few : m.coherent.«end» ≤ 4096
  pub mappings : IsKept m.next 1 m.bounce_pages m.mappings.items m.bounce
  pub areas : IsKept m.next m.bounce_pages m.coherent.«end» m.areas.items m.coherent
  pub regions : HaveSame m.regions (map range_of m.areas.items)

-- what is kept stands for these acts
pub record Stands (x : Numbers) (done : List Act) (m : Memory) : Type 0 where
  pub bounce : m.bounce_pages ≡ x.bounce
  pub pages : m.coherent.«end» ≡ x.pages
  pub next : m.next ≡ next_number done
  pub mapped : m.mapped ≡ is_bounce_live done
  pub registered : m.registered ≡ is_some (registration_of done)
  pub mappings : m.mappings.items ≡ map kept_mapping (live_mappings done)
  pub areas : m.areas.items ≡ map kept_region (live_regions done)

-- the step is answered so, and what is kept stands for its acts too
abbrev pub Makes : Numbers → List Act → DomainStep → DomainAnswer → Memory → Type 0
Makes x done step answer m = (answer ≡ (domain_turn x done step).answer) × Stands x ((domain_turn x done step).acts ++ done) m
