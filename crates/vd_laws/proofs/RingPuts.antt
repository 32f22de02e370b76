-- A driver writes a ring past the bounce memory.
use Rattle.std.proofs.Common.{◌≡◌, ℕ, suc, zero, ◌+◌, ◌*◌, ◌%◌, ◌^◌, ◌<◌, ◌≤◌, Bool, true, false, refl, ◌∙◌, arith, Option, None, Some, cond, List, [], ◌∷◌, ◌++◌, ◌==◌, nat_le, if◌then◌else◌}
use Rattle.std.proofs.lemmas.Bool.{and_parts, eqb-true}
use Rattle.std.proofs.lemmas.Nat.{mod_below}
use Rattle.std.proofs.Math.Nat.{mod-eq_of_lt}
use Rattle.vd_num.specs.Number.{pages_of, doubled_to, power_from}
use Rattle.vd_model.specs.declared.queue.RingPlace.{RingPlace}
use Rattle.vd_model.specs.declared.parts.Part.{Part}
use Rattle.vd_model.specs.Setting.{Setting, bounce_size}
use Rattle.vd_model.specs.Acts.{Act, Driver, Streaming, Driver_put}
use Rattle.vd_model.specs.Live.{maps, live_mappings}
use Rattle.vd_model.specs.Queues.{chains_out}
use Rattle.vd_model.specs.Rings.{ring_address, available_slot_at, available_index_at, used_event_at}
use Rattle.vd_model.specs.DaemonTurns.{has_event_idx}
use Rattle.vd_model.specs.Raw.{little_bytes}
use Rattle.vd_model.specs.RingTurns.{ring_bytes, driver_offset, ring_at, is_ring_size, descriptor_puts, table_puts, last_after, used_event_puts, AskedRequest, parts_count, request_puts}
use Rattle.vd_laws.specs.Runs.{IsAddressed}
use Rattle.vd_laws.proofs.Legal.{IsHigh, Legal}

-- puts of the driver past the bounce memory
abbrev IsPut : Setting → Act → Type 0
IsPut x (Driver (Driver_put at bytes)) = IsAddressed x → bounce_size x ≤ at
IsPut x _ = ⊥

abbrev pub ArePuts : Setting → List Act → Type 0
ArePuts x [] = Unit {0}
ArePuts x (act ∷ acts) = IsPut x act × ArePuts x acts

pub puts_append : (x : Setting) (first more : List Act) → ArePuts x first → ArePuts x more → ArePuts x (first ++ more)
puts_append x [] more p r = r
puts_append x (act ∷ first) more p r = (p.0, puts_append x first more p.1 r)

next_put : (x : Setting) (act : Act) (acts : List Act) → IsPut x act → Legal x acts → Legal x (act ∷ acts)
next_put x (Driver (Driver_put at bytes)) acts p h = (p, h)
next_put x _ acts p h = absurd p

pub puts_legal : (x : Setting) (puts acts : List Act) → ArePuts x puts → Legal x acts → Legal x (puts ++ acts)
puts_legal x [] acts p h = h
puts_legal x (act ∷ puts) acts p h = next_put x act (puts ++ acts) p.0 (puts_legal x puts acts p.1 h)

next_maps : (x : Setting) (act : Act) (acts : List Act) → IsPut x act → maps (act ∷ acts) ≡ maps acts
next_maps x (Driver (Driver_put at bytes)) acts p = refl
next_maps x _ acts p = absurd p

-- they make no mapping and take no chain
pub puts_maps : (x : Setting) (puts acts : List Act) → ArePuts x puts → maps (puts ++ acts) ≡ maps acts
puts_maps x [] acts p = refl
puts_maps x (act ∷ puts) acts p = next_maps x act (puts ++ acts) p.0 ∙ puts_maps x puts acts p.1

next_out : (x : Setting) (act : Act) (acts : List Act) (q : ℕ) → IsPut x act → chains_out (act ∷ acts) q ≡ chains_out acts q
next_out x (Driver (Driver_put at bytes)) acts q p = refl
next_out x _ acts q p = absurd p

pub puts_out : (x : Setting) (puts acts : List Act) (q : ℕ) → ArePuts x puts → chains_out (puts ++ acts) q ≡ chains_out acts q
puts_out x [] acts q p = refl
puts_out x (act ∷ puts) acts q p = next_out x act (puts ++ acts) q p.0 ∙ puts_out x puts acts q p.1

next_live : (x : Setting) (act : Act) (acts : List Act) → IsPut x act → live_mappings (act ∷ acts) ≡ live_mappings acts
next_live x (Driver (Driver_put at bytes)) acts p = refl
next_live x _ acts p = absurd p

pub puts_live : (x : Setting) (puts acts : List Act) → ArePuts x puts → live_mappings (puts ++ acts) ≡ live_mappings acts
puts_live x [] acts p = refl
puts_live x (act ∷ puts) acts p = next_live x act (puts ++ acts) p.0 ∙ puts_live x puts acts p.1

-- ---- the addresses

doubled_low : (k p n : ℕ) → 0 < p → 0 < doubled_to k p n
unfolding doubled_to
doubled_low zero p n h = h
doubled_low (suc k) p n h = by (nat_le n p) (doubled_low k (2 * p) n (omega arith)) where
  by : (b : Bool) → 0 < doubled_to k (2 * p) n → 0 < cond b p (doubled_to k (2 * p) n)
  by true low = h
  by false low = low

sized : (size : ℕ) → is_ring_size size ≡ true → 0 < size
unfolding power_from
sized size e =
    let p = and_parts (nat_le size 32768) (power_from size == size) e in
    let same : power_from size ≡ size = eqb-true (power_from size) size p.1 in
    let low : 0 < power_from size = doubled_low 64 1 size (omega arith) in
    omega arith

paged : (len : ℕ) → len ≤ 4096 * pages_of len
paged len = omega arith

behind : (size : ℕ) → driver_offset size + 6 + 2 * size ≤ ring_bytes size
behind size = omega arith

pub place_high : (x : Setting) (size slot : ℕ) → is_ring_size size ≡ true → x.bounce ≤ slot → slot + pages_of (ring_bytes size) ≤ x.iova → IsHigh x (ring_at size slot)
place_high x size slot e low high =
    let a = paged (ring_bytes size) in
    let b = behind size in
    record { desc = omega arith; driver = omega arith; ends = ends (pages_of (ring_bytes size)) high a b; sized = sized size e } where
      ends : (n : ℕ) → slot + n ≤ x.iova → ring_bytes size ≤ 4096 * n → driver_offset size + 6 + 2 * size ≤ ring_bytes size → 4096 * slot + driver_offset size + 6 + 2 * size ≤ 4096 * x.iova
      ends n h a b = omega arith

high_address : (x : Setting) (place : RingPlace) → IsHigh x place → (offset : ℕ) → offset < 6 + 2 * place.size → IsAddressed x → bounce_size x ≤ ring_address place.driver offset
high_address x place h offset inside small =
    let e = h.ends in
    let d = h.driver in
    let s : 4096 * x.iova ≤ 2 ^ 64 = small in
    let under : place.driver + offset < 2 ^ 64 = omega arith in
    let same : (place.driver + offset) % 2 ^ 64 ≡ place.driver + offset = mod-eq_of_lt under in
    omega arith

-- ---- the puts

module _ (x : Setting) (place : RingPlace) (high : IsHigh x place) where
  pub descriptors_put : (parts : List Part) (ds : List ℕ) → ArePuts x (descriptor_puts place parts ds)
  descriptors_put [] ds = tt
  descriptors_put (part ∷ parts) [] = tt
  descriptors_put (part ∷ parts) (d ∷ []) = ((λ s. (let h = high.desc in omega arith)), tt)
  descriptors_put (part ∷ parts) (d ∷ e ∷ ds) =
      puts_append x (descriptor_puts place parts (e ∷ ds)) _ (descriptors_put parts (e ∷ ds)) ((λ s. (let h = high.desc in omega arith)), tt)

  table_put : (o : Option Streaming) (ds : List ℕ) → ArePuts x (table_puts place o ds)
  table_put None ds = tt
  table_put (Some m) ds = ((λ s. (let h = high.desc in omega arith)), tt)

  pub request_put : (indirect : Bool) (a : AskedRequest) (ms : List Streaming) (parts : List Part) (ds : List ℕ) → ArePuts x (request_puts indirect place a ms parts ds)
  request_put true a ms parts ds = table_put (last_after (parts_count a) ms) ds
  request_put false a ms parts ds = descriptors_put parts ds

  pub slot_high : (n : ℕ) → IsAddressed x → bounce_size x ≤ available_slot_at place n
  slot_high n = let low = mod_below n place.size high.sized in high_address x place high (4 + 2 * (n % place.size)) (omega arith)

  pub index_high : IsAddressed x → bounce_size x ≤ available_index_at place
  index_high = high_address x place high 2 (omega arith)

  pub event_put : (done : List Act) (position : ℕ) → ArePuts x (used_event_puts done place position)
  event_put done position = by (has_event_idx done) where
    by : (b : Bool) → ArePuts x (if b then Driver (Driver_put (used_event_at place) (little_bytes 2 position)) ∷ [] else [])
    by true = (high_address x place high (4 + 2 * place.size) (omega arith), tt)
    by false = tt
