-- What is told by a ring's memory, and what a domain stands for.
use Rattle.std.proofs.Common.{◌≡◌, ℕ, ◌+◌, ◌-◌, ◌<◌, ◌≤◌, Bool, true, false, nat_lt, if◌then◌else◌, refl, ap, sym, ◌∙◌, subst, arith, List, [], ◌∷◌, ◌++◌, length, Some, None, Option, Result, Ok, Err, MatchResult}
use Rattle.std.specs.Result.{OnErr}
use Rattle.std.specs.List.{slice_index}
use Rattle.std.specs.Option.{option_and_then}
use Rattle.std.proofs.lemmas.Bool.Decides.{nat_tests}
use Rattle.std.proofs.Math.Logic.{∥∥₁_elim, ∥∥₁_map}
use Rattle.vd_num.specs.Number.{is_within}
use Rattle.vd_num.specs.declared.number.Bus.{Bus}
use Rattle.vd_pool.specs.Memory.{PoolMemory as Pool}
use Rattle.vd_model.specs.declared.memory.Origin.TheVariants.{Handed}
use Rattle.vd_model.specs.Memory.{Memory, read, written}
use Rattle.vd_model.specs.Setting.{Setting}
use Rattle.vd_model.specs.Acts.{Act, Driver, Driver_put}
use Rattle.vd_model.specs.Live.{Registration, registration_of}
use Rattle.vd_model.specs.Puts.{Iova, Area, shown_put, last_put, put_or, home_cell, text_at, is_moved, address_put, address_put_if, area_address, bus_bytes}
use Rattle.vd_model.specs.AreaTurns.{first_failing}
use Rattle.vd_domain.specs.Held.{Held}
use Rattle.vd_domain.specs.Handed.{is_coherent}
use Rattle.vd_domain.specs.Seen.{ring_map, ring_memory}
use Rattle.vd_domain.specs.Stands.{Stands}
use Rattle.vd_domain.proofs.Failing.{first_failing_none}
use Rattle.vd_domain.proofs.Putting.{text_put}
use Rattle.vr_split.specs.Mem.{Loads, Stores}
use Rattle.std.specs.Prelude.{IsSome}
use Rattle.vr_split.specs.Reach.{InMap}
use Rattle.vd_ring_memory.specs.RingPutLemmas.{as_ring_put, coherent_same}
use Rattle.vd_ring_memory.specs.RingPuts.{after_puts, IsRingPut, AreRingPuts, RingPutsAfter, IsRingReached}
use Rattle.vd_ring_memory.proofs.Reading.{read_is, read_or_fail}
use Rattle.vd_ring_memory.proofs.Writing.{written_is}
use Rattle.vd_ring_memory.proofs.Telling.{loads_prop, ok_prop, option_prop, ok_of}

pub ring_reads : (x : Setting) (acts : List Act) (m : Memory) → m ≡ ring_memory x acts → (at n : ℕ) (o : Option ℕ) → first_failing (is_coherent acts) at n ≡ o
    → read m at n ≡ read_or_fail o (bus_bytes x.per_page acts at n)
ring_reads x acts m e at n o f =
    ap (λ (t : Memory). read t at n) e ∙ read_is (is_coherent acts) (λ a. (shown_put x.per_page acts a).byte) at n
    ∙ ap (λ o. read_or_fail o (bus_bytes x.per_page acts at n)) f

pub ring_loads : (x : Setting) (acts : List Act) (m : Memory) → m ≡ ring_memory x acts → (at n : ℕ) (r : Result (Unit {0}) Bus) (out : List ℕ)
    → MatchResult r (λ _. (first_failing (is_coherent acts) at n ≡ None) × (out ≡ bus_bytes x.per_page acts at n)) (λ bus. first_failing (is_coherent acts) at n ≡ Some bus.at) → Loads m at n r out
ring_loads x acts m e at n (Ok u) out h = ring_reads x acts m e at n None h.0 ∙ ap Ok (sym h.1)
ring_loads x acts m e at n (Err bus) out h = ring_reads x acts m e at n (Some bus.at) h

module _ (g : ℕ) (acts : List Act) (at : ℕ) (bytes : List ℕ) where
  abbrev pub ring_put_act : Act
  ring_put_act = Driver (Driver_put at bytes)

  cell_put : (a : ℕ) (r : Option Registration) → registration_of acts ≡ r → last_put g (ring_put_act ∷ acts) (home_cell r a) ≡ put_or (text_at bytes at a (Handed None)) (last_put g acts) (home_cell r a)
  cell_put a None e = ap (λ r. put_or (address_put_if (is_moved r a) g (last_put g acts) acts ring_put_act a) (last_put g acts) (Iova a)) e
  cell_put a (Some r) e = by (nat_lt a r.size) refl where
    by : (t : Bool) → nat_lt a r.size ≡ t
        → last_put g (ring_put_act ∷ acts) (if nat_lt a r.size then Area (r.base + a) else Iova a) ≡ put_or (text_at bytes at a (Handed None)) (last_put g acts) (if nat_lt a r.size then Area (r.base + a) else Iova a)
    by true f =
        let within : is_within r.base r.size (r.base + a) ≡ true = grind (arith, nat_tests, f) in
        let back : r.base + a - r.base ≡ a = omega arith in
        ap (λ t. last_put g (ring_put_act ∷ acts) (if t then Area (r.base + a) else Iova a)) f
        ∙ ap (λ o. put_or (option_and_then (address_put g (last_put g acts) acts ring_put_act) o) (last_put g acts) (Area (r.base + a)))
        (ap (λ o. area_address o (r.base + a)) e ∙ ap (λ t. if t then Some (r.base + a - r.base) else None) within ∙ ap Some back)
        ∙ sym (ap (λ t. put_or (text_at bytes at a (Handed None)) (last_put g acts) (if t then Area (r.base + a) else Iova a)) f)
    by false f =
        ap (λ t. last_put g (ring_put_act ∷ acts) (if t then Area (r.base + a) else Iova a)) f
        ∙ ap (λ o. put_or (address_put_if (is_moved o a) g (last_put g acts) acts ring_put_act a) (last_put g acts) (Iova a)) e
        ∙ ap (λ t. put_or (address_put_if t g (last_put g acts) acts ring_put_act a) (last_put g acts) (Iova a)) f
        ∙ sym (ap (λ t. put_or (text_at bytes at a (Handed None)) (last_put g acts) (if t then Area (r.base + a) else Iova a)) f)

  pub shown_ring_put : (a : ℕ) → (shown_put g (ring_put_act ∷ acts) a).byte ≡ (if is_within at (length bytes) a then slice_index bytes (a - at) else (shown_put g acts a).byte)
  shown_ring_put a = ap (λ p. p.byte) (cell_put a (registration_of acts) refl) ∙ text_put bytes at a (Handed None) (last_put g acts) (home_cell (registration_of acts) a)

-- a put into coherent memory writes it, and nothing else
pub ring_put : (x : Setting) (acts : List Act) (at : ℕ) (bytes : List ℕ) → ((a : ℕ) → at ≤ a → a < at + length bytes → is_coherent acts a ≡ true)
    → ring_memory x (Driver (Driver_put at bytes) ∷ acts) ≡ written (ring_memory x acts) at bytes
ring_put x acts at bytes there = λ j a.
    written_is (is_coherent acts) (is_coherent acts) (λ a. (shown_put x.per_page acts a).byte) (λ a. (shown_put x.per_page (Driver (Driver_put at bytes) ∷ acts) a).byte)
    at bytes (λ a. refl) (shown_ring_put x.per_page acts at bytes) there a j

module _ (h k : Held) (at : ℕ) (bytes : List ℕ) where
  abbrev pub RingStored : Result (Unit {0}) Bus → Type 0
  RingStored r = (x : Setting) (acts : List Act) (m : Pool) → Stands x acts h m → MatchResult r
      (λ _. (first_failing (is_coherent acts) at (length bytes) ≡ None) × Stands x (Driver (Driver_put at bytes) ∷ acts) k m)
      (λ bus. first_failing (is_coherent acts) at (length bytes) ≡ Some bus.at)

  abbrev pub SeesRings : Held → Type 0
  SeesRings h = (x : Setting) (acts : List Act) (m : Pool) → Stands x acts h m → ring_map h ≡ ring_memory x acts

  pub ring_stores : (r : Result (Unit {0}) Bus) → ∥ IsRingReached h ∥₁ → SeesRings h → SeesRings k → RingStored r → OnErr r (k ≡ h) → Stores (ring_map h) at bytes r (Some (ring_map k))
  ring_stores (Ok u) reached before after stored same = (
    ∥∥₁_elim reached (ok_prop (read (ring_map h) at (length bytes))) (λ r.
        ok_of _ _ (ring_reads r.setting r.acts _ (before r.setting r.acts r.pool r.stands) at (length bytes) None (stored r.setting r.acts r.pool r.stands).0)),
    ap Some (λ j a. ∥∥₁_elim reached (option_prop (ring_map k a) (written (ring_map h) at bytes a)) (λ r.
        let s = stored r.setting r.acts r.pool r.stands in
        let e = after r.setting (Driver (Driver_put at bytes) ∷ r.acts) r.pool s.1
        ∙ ring_put r.setting r.acts at bytes (first_failing_none (is_coherent r.acts) at (length bytes) s.0)
        ∙ ap (λ (t : Memory). written t at bytes) (sym (before r.setting r.acts r.pool r.stands)) in
        ap (λ (t : Memory). t a) e) j),
  )
  ring_stores (Err bus) reached before after stored same = (
    ∥∥₁_elim reached (loads_prop (ring_map h) at (length bytes) (Err bus) []) (λ r. ring_reads r.setting r.acts _ (before r.setting r.acts r.pool r.stands) at (length bytes) (Some bus.at) (stored r.setting r.acts r.pool r.stands)),
    ap Some (ap (λ (t : Held). ring_map t) same),
  )

  pub ring_reaches : (r : Result (Unit {0}) Bus) → ∥ IsRingReached h ∥₁ → RingStored r → OnErr r (k ≡ h) → ∥ IsRingReached k ∥₁
  ring_reaches (Ok u) reached stored same = ∥∥₁_map reached (λ r. record { setting = r.setting; acts = Driver (Driver_put at bytes) ∷ r.acts; pool = r.pool; stands = (stored r.setting r.acts r.pool r.stands).1 })
  ring_reaches (Err bus) reached stored same = subst (λ (t : Held). ∥ IsRingReached t ∥₁) (sym same) reached

  pub ring_puts_after : (r : Result (Unit {0}) Bus) → RingStored r → OnErr r (k ≡ h) → (x : Setting) (done : List Act) (m : Pool) → Stands x done h m → RingPutsAfter x done k m
  ring_puts_after (Ok u) stored same x done m s =
      let t = stored x done m s in
      record { puts = Driver (Driver_put at bytes) ∷ []; only = (first_failing_none (is_coherent done) at (length bytes) t.0, tt); stands = t.1 }
  ring_puts_after (Err bus) stored same x done m s = record { puts = []; only = tt; stands = subst (λ (t : Held). Stands x done t m) (sym same) s }

-- a ring in live coherent regions is in reach of its code
pub ring_there : (x : Setting) (acts : List Act) (m : Memory) → m ≡ ring_memory x acts → (at n : ℕ) → ((a : ℕ) → at ≤ a → a < at + n → is_coherent acts a ≡ true) → InMap (Some m) at n
ring_there x acts m e at n there i below =
    subst (λ (t : Memory). IsSome (t (at + i))) (sym e)
    (subst (λ t. IsSome (if t then Some (shown_put x.per_page acts (at + i)).byte else None)) (sym (there (at + i) (omega arith) (omega arith))) refl)

-- some puts into coherent memory write it one after another
pub ring_after_puts : (x : Setting) (done puts : List Act) → AreRingPuts done puts → ring_memory x (puts ++ done) ≡ after_puts (ring_memory x done) puts
ring_after_puts x done [] only = refl
ring_after_puts x done (act ∷ puts) only =
    let p = as_ring_put done act only.0 in
    let there = subst (λ (t : Act). IsRingPut done t) p.2 only.0 in
    ap (λ (t : Act). ring_memory x (t ∷ puts ++ done)) p.2
    ∙ ring_put x (puts ++ done) p.0 p.1 (λ a low high. coherent_same done puts done only.1 a ∙ there a low high)
    ∙ ap (λ (w : Memory). written w p.0 p.1) (ring_after_puts x done puts only.1)
    ∙ sym (ap (λ (t : Act). after_puts (ring_memory x done) (t ∷ puts)) p.2)
