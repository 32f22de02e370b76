-- Accesses to coherent memory alone.
use Rattle.std.proofs.Common.{◌≡◌, ℕ, ◌+◌, ◌-◌, ◌/◌, ◌<◌, ◌≤◌, inl, inr, refl, ap, sym, subst, ◌∙◌, arith, Bool, true, false, if◌then◌else◌, List, [], ◌∷◌, length, Option, None, Some, IfNone}
use Rattle.std.specs.Prelude.{unwrap_or}
use Rattle.std.proofs.lemmas.Bool.Decides.{nat_tests, leb_tells}
use Rattle.std.specs.List.{slice_index}
use Rattle.vd_num.specs.Number.{is_within}
use Rattle.vd_pool.specs.Memory.{PoolMemory}
use Rattle.vd_bounce.specs.Bounce as b
use Rattle.vd_bounce.specs.Bounce.{Bounce, Place, value, over, home_by, bounce_len, page_size, IsThere, SameShape}
use Rattle.vd_iova.specs.Space.{Space}
use Rattle.vd_model.specs.declared.memory.Origin.TheVariants.{Handed}
use Rattle.vd_model.specs.Setting.{Setting}
use Rattle.vd_model.specs.Acts.{Act, Driver, Driver_put}
use Rattle.vd_model.specs.Puts.{Iova, shown_put, bus_bytes, text_at}
use Rattle.vd_model.specs.AreaTurns.{first_failing}
use Rattle.vd_domain.specs.Reached.{is_reached}
use Rattle.vd_domain.specs.Held.{Held, IsFit, bounce_slots}
use Rattle.vd_domain.specs.Handed.{is_coherent}
use Rattle.vd_domain.specs.Stands.{Stands, last_byte}
use Rattle.vd_domain.proofs.Failing.{first_failing_here, first_failing_none, first_failing_same}
use Rattle.vd_domain.proofs.Reaches.{high_same}
use Rattle.vd_domain.proofs.Puttings.{or_byte, text_byte, driver_addressed, size_is, shown_put_high, next_bytes, next_shared, next_area}
use Rattle.vd_domain.proofs.Steps.{list_each, none_low, high_covers}

-- where none fails, each lies in a page of coherent memory
pub there_of : (c d : Bounce) (at len : ℕ) → (0 < len → bounce_len c ≤ at) → (o : Option ℕ) → first_failing (is_reached c d) at len ≡ o → IfNone o (IsThere d (at - bounce_len c) len)
there_of c d at len above None none = λ a from below.
    let past = above (omega arith) in
    let far : bounce_len c ≤ a + bounce_len c = omega arith in
    let back : a + bounce_len c - bounce_len c ≡ a = omega arith in
    ap (λ i. b.is_page_present d (i / page_size d)) (sym back) ∙ sym (high_same c d (a + bounce_len c) far)
    ∙ first_failing_none (is_reached c d) at len none (a + bounce_len c) (omega arith) (omega arith)
there_of c d at len above (Some bad) e = tt

module _ (x : Setting) (acts : List Act) (h : Held) (m : PoolMemory) (s : Stands x acts h m) (low high : Space) (uses : List ℕ) (fit : IsFit h low high uses) where
  -- what fails at addresses behind bounce memory, and below its end
  pub outside_is : (at len : ℕ) → (0 < len → bounce_len h.bounce ≤ at) → first_failing (is_reached h.bounce h.shared) at len ≡ first_failing (is_coherent acts) at len
  outside_is at len above = first_failing_same (is_reached h.bounce h.shared) (is_coherent acts) at len (λ a from below.
      let past = above (omega arith) in
      let far : bounce_len h.bounce ≤ a = omega arith in
      high_same h.bounce h.shared a far ∙ high_covers x acts h m s low high uses fit a far)

  pub below_is : (at len : ℕ) → 0 < len → at < bounce_len h.bounce → Some at ≡ first_failing (is_coherent acts) at len
  below_is at len some below = sym (first_failing_here (is_coherent acts) at len some (none_low x acts h m s low high uses fit at below))

  pub ring_loaded : (at len : ℕ) (out : List ℕ) → length out ≡ len → (0 < len → bounce_len h.bounce ≤ at) → first_failing (is_coherent acts) at len ≡ None
      → ((i : ℕ) → i < len → slice_index out i ≡ value h.shared h.store (b.home_place h.shared (at - bounce_len h.bounce + i))) → out ≡ bus_bytes x.per_page acts at len
  ring_loaded at len out long above none bytes = list_each (λ a. (shown_put x.per_page acts a).byte) out at len long (λ i below.
      let past = above (omega arith) in
      let far : at - bounce_len h.bounce + i ≡ at + i - bounce_len h.bounce = omega arith in
      bytes i below ∙ ap (λ u. value h.shared h.store (home_by u (at - bounce_len h.bounce + i))) fit.plain
      ∙ ap (λ k. value h.shared h.store (b.Iova k)) far
      ∙ shown_put_high x acts h m s (at + i) (omega arith) (first_failing_none (is_coherent acts) at len none (at + i) (omega arith) (omega arith)))

  module _ (at : ℕ) (bytes : List ℕ) (above : 0 < length bytes → bounce_len h.bounce ≤ at) where
    off : (a : ℕ) → a < bounce_len h.bounce → (t : Bool) → is_within at (length bytes) a ≡ t → is_within at (length bytes) a ≡ false
    off a below false e = e
    off a below true e =
        let from : at ≤ a = grind (arith, nat_tests) in
        let to : a < at + length bytes = grind (arith, nat_tests) in
        let past = above (omega arith) in
        absurd (omega arith)

    -- nothing is put into bounce memory
    unput : (a old : ℕ) → a < bounce_len h.bounce → old ≡ or_byte (text_at bytes at a (Handed None)) old
    unput a old below =
        sym (ap (λ t. if t then slice_index bytes (a - at) else old) (off a below (is_within at (length bytes) a) refl))
        ∙ text_byte bytes at a old (Handed None)

    -- what is put behind it
    behind : (a old : ℕ) → bounce_len h.bounce ≤ a → over (b.Iova (at - bounce_len h.bounce)) bytes (b.Iova (a - bounce_len h.bounce)) old ≡ (if is_within at (length bytes) a then slice_index bytes (a - at) else old)
    behind a old far = elim (leb_tells 1 (length bytes)) [
      | inl some ↦
          (let past = above some.1 in
          let test : is_within (at - bounce_len h.bounce) (length bytes) (a - bounce_len h.bounce) ≡ is_within at (length bytes) a = moved (bounce_len h.bounce) (length bytes) past far in
          let place : a - bounce_len h.bounce - (at - bounce_len h.bounce) ≡ a - at = omega arith in
          ap (λ t. if t then slice_index bytes (a - bounce_len h.bounce - (at - bounce_len h.bounce)) else old) test
          ∙ ap (λ k. if is_within at (length bytes) a then slice_index bytes k else old) place)
      | inr empty ↦
          (let none = empty.1 in
          let left : is_within (at - bounce_len h.bounce) (length bytes) (a - bounce_len h.bounce) ≡ false = nothing (at - bounce_len h.bounce) (length bytes) (a - bounce_len h.bounce) (omega arith) in
          let right : is_within at (length bytes) a ≡ false = nothing at (length bytes) a (omega arith) in
          ap (λ t. if t then slice_index bytes (a - bounce_len h.bounce - (at - bounce_len h.bounce)) else old) left
          ∙ sym (ap (λ t. if t then slice_index bytes (a - at) else old) right))
    ] where
      moved : (top n : ℕ) → top ≤ at → top ≤ a → is_within (at - top) n (a - top) ≡ is_within at n a
      moved top n past far = by (is_within at n a) refl where
        by : (t : Bool) → is_within at n a ≡ t → is_within (at - top) n (a - top) ≡ t
        by true e = grind (arith, nat_tests)
        by false e = grind (arith, nat_tests)

      nothing : (from n k : ℕ) → n ≡ 0 → is_within from n k ≡ false
      nothing from n k e = grind (arith, nat_tests)

    pub ring_stored : (d : Bounce) (store : PoolMemory) → SameShape h.shared d
        → ((p : Place) → value d store p ≡ over (b.home_place h.shared (at - bounce_len h.bounce)) bytes p (value h.shared h.store p))
        → Stands x (Driver (Driver_put at bytes) ∷ acts) (record h { shared = d; store = store }) m
    ring_stored d store same values = record {
      bounce = s.bounce;
      iova = s.iova ∙ ap (λ k. bounce_slots h + k) (sym same.pages);
      per_page = s.per_page;
      live = s.live;
      maps = s.maps;
      regions = s.regions;
      made = s.made;
      is_shown = s.is_shown;
      area = s.area;
      registered = s.registered;
      present = s.present;
      bytes = λ a none below seen. next_bytes x acts h m s (Driver (Driver_put at bytes)) (driver_addressed x.per_page acts (Driver_put at bytes)) (record h { shared = d; store = store }) m
          (λ a below seen none. s.bytes a none (subst (λ k. a < k) (sym (size_is x acts h m s)) below) seen ∙ unput a (last_byte x acts (Iova a)) below) none a below seen;
      area_bytes = next_area x acts h m s (Driver (Driver_put at bytes)) (driver_addressed x.per_page acts (Driver_put at bytes)) (record h { shared = d; store = store }) m (length (unwrap_or h.bounce.area []))
          (λ o below none. refl) (λ u o below some off. refl) (λ u a below some. unput a (value h.bounce m (b.Area (u + a))) below) (omega arith);
      shared = next_shared x acts h m s (Driver (Driver_put at bytes)) (driver_addressed x.per_page acts (Driver_put at bytes)) (record h { shared = d; store = store }) m
          (λ a far covered.
          let old = value h.shared h.store (b.Iova (a - bounce_len h.bounce)) in
          values (b.Iova (a - bounce_len h.bounce))
          ∙ ap (λ u. over (home_by u (at - bounce_len h.bounce)) bytes (b.Iova (a - bounce_len h.bounce)) old) fit.plain
          ∙ behind a old far
          ∙ text_byte bytes at a old (Handed None)
          ∙ ap (λ v. or_byte (text_at bytes at a (Handed None)) v) (ap (λ k. value h.shared h.store (b.Iova (a - k))) (sym (size_is x acts h m s)) ∙ s.shared a (subst (λ k. k ≤ a) (sym (size_is x acts h m s)) far) covered));
    }
