-- What some wants were given in order, each after those before it.
use Rattle.std.specs.Prelude.{ℕ, ◌+◌, ◌*◌, ◌≤◌, ◌≡◌, ◌==◌, if◌then◌else◌, List, [], ◌∷◌, ◌++◌, ◌^◌, length, true, Some}
use Rattle.std.specs.List.{list_any}
use Rattle.vd_num.specs.Number.{pages_of, is_within}
use Rattle.vd_iova.specs.Space.{Space, taken_of, taken_at}
use Rattle.vd_model.specs.declared.memory.Want.{Want}
use Rattle.vd_model.specs.Acts.{Streaming}
use Rattle.vd_model.specs.Place.{Slots, place_of, meets}
use Rattle.vd_domain.specs.declared.streaming.Bounced.{Bounced}
use Rattle.vd_domain.specs.declared.booking.Booked.{Booked}
use Rattle.vd_domain.specs.Slots.{meets_slots}
use Rattle.vd_bounce.specs.Bounce.{Bounce}
use Rattle.vd_domain.specs.Held.{Held, IsFit, Holding}

-- a want was given a number, the place that it has in the space, and the pages of that place
pub record IsGiven (g : ℕ) (space : Space) (made : ℕ) (want : Want) (b : Booked) (next : Space) : Type 0 where
  pub number : b.number ≡ made
  pub place : Some b.slot ≡ place_of (taken_of space) (pages_of want.len) space.first space.«end»
  pub first : next.first ≡ space.first
  pub top : next.«end» ≡ space.«end»
  pub low : space.first ≤ b.slot
  pub high : b.slot + pages_of want.len ≤ space.«end»
  pub fresh : taken_at space b.slot ≡ 0
  pub taken : (q : ℕ) → taken_at next q ≡ (if q == b.slot then pages_of want.len else taken_at space q)
  pub pages : (page : ℕ) → is_within b.pages.first b.pages.count page ≡ meets_slots g page b.slot (pages_of want.len)
  pub inside : (n : ℕ) → b.slot + pages_of want.len ≤ g * n → b.pages.first + b.pages.count ≤ n

-- each was given what it has after those before it
abbrev pub AreGiven : ℕ → Space → ℕ → List Want → List Booked → Space → Type 0
AreGiven g space made [] [] after = after ≡ space
AreGiven g space made (want ∷ wants) (b ∷ bs) after = (next : Space) × IsGiven g space made want b next × AreGiven g next (made + 1) wants bs after
AreGiven g space made _ _ after = ⊥

-- the mappings of the wants
abbrev pub streamings : List Want → List Booked → List Streaming
streamings (want ∷ wants) (b ∷ bs) = record { number = b.number; slot = b.slot; want = want } ∷ streamings wants bs
streamings _ _ = []

-- the same under their numbers
abbrev pub entries_of : List Want → List Booked → List (ℕ × Bounced)
entries_of (want ∷ wants) (b ∷ bs) = (b.number, record { slot = b.slot; want = want }) ∷ entries_of wants bs
entries_of _ _ = []

-- how many pages they meet, counted for each
abbrev pub pages_met : List Booked → ℕ
pages_met [] = 0
pages_met (b ∷ bs) = b.pages.count + pages_met bs

-- between the ends of the space, some slots meet what the ranges that are held meet
abbrev pub IsSeen : Space → List Holding → List Slots → Type 0
IsSeen space holds held = (start n : ℕ) → space.first ≤ start → start + n ≤ space.«end»
    → list_any (meets start n) held ≡ list_any (λ (h : Holding). meets start n (record { start = h.slot; count = h.count })) holds

-- a domain after these mappings, with this bounce memory
abbrev pub with_mappings : Held → Bounce → List Streaming → Held
with_mappings h b [] = record h { bounce = b }
with_mappings h b (m ∷ ms) = with_mappings (record h { live = h.live ++ m ∷ []; maps = h.maps + 1; is_shown = true }) b ms

-- there is a domain with this bounce memory, in whose space the wants are given what they have
pub record IsReady (b : Bounce) (uses : List ℕ) (wants : List Want) (booked : List Booked) : Type 0 where
  pub domain : Held
  pub low : Space
  pub high : Space
  pub after : Space
  pub bounce : domain.bounce ≡ b
  pub fit : IsFit domain low high uses
  pub given : AreGiven domain.bounce.per_page low domain.maps wants booked after
  pub few : domain.maps + length wants ≤ 2 ^ 62
