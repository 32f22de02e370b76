-- The lines on the bytes of a coherent region.
use Rattle.std.proofs.Common.{◌≡◌, ℕ, ◌+◌, ◌*◌, ◌/◌, ◌<◌, ◌≤◌, Bool, true, false, refl, ap, subst, ◌∙◌, sym, arith, cond, ◌||◌, Option, None, Some, Result, Ok, Err, List, [], ◌∷◌, ◌++◌, ◌==◌, nat_lt, find, length}
use Rattle.std.specs.List.{list_any}
use Rattle.std.proofs.lemmas.Bool.Decides.{nat_tests}
use Rattle.vd_num.specs.Number.{pages_of}
use Rattle.vd_num.specs.declared.errno.Errno.{Errno}
use Rattle.vd_num.specs.declared.errno.Errno.TheVariants.{Noent, Inval}
use Rattle.vd_pool.specs.Memory.{PoolMemory as Pool}
use Rattle.vd_model.specs.declared.answer.Answer.{Answer}
use Rattle.vd_model.specs.declared.answer.Answer.TheVariants as answer
use Rattle.vd_model.specs.declared.answer.Item.TheVariants.{Text}
use Rattle.vd_model.specs.Setting.{Setting}
use Rattle.vd_model.specs.Acts.{Act, Driver, DriverAct, Driver_put, Coherent}
use Rattle.vd_model.specs.Live.{live_regions, region_covers}
use Rattle.vd_model.specs.Puts.{bus_bytes}
use Rattle.vd_model.specs.Turn.{Turn, lift, refuse, refusal_turn, refusal_if, done_with}
use Rattle.vd_model.specs.AreaTurns.{first_failing}
use Rattle.vd_model.specs.DriverTurns.{on_region, cput_turn, cget_turn}
use Rattle.vd_domain.specs.Held.{Held, coherent_of}
use Rattle.vd_domain.specs.Handed.{is_coherent, region_place}
use Rattle.vd_domain.specs.Stands as domain
use Rattle.vd_domain.proofs.Failing.{first_failing_all}
use Rattle.vd_answers.specs.Tells.{Tells}
use Rattle.vd_answers.proofs.Telling.{tells_by}
use Rattle.vd_memory_lines.specs.declared.memory.Memory.{Memory}
use Rattle.vd_memory_lines.specs.Stands.{Stands}
use Rattle.vd_memory_lines.proofs.Parts.{domain_act}
use Rattle.vd_memory_lines.proofs.RegionLines.{on_is}

-- what is found is one of the list
any_found : {X : Type 0} (p q : X → Bool) (xs : List X) (x : X) → find p xs ≡ Some x → q x ≡ true → list_any q xs ≡ true
any_found p q [] x e h = absurd (let f = e in cc)
any_found {X} p q (y ∷ ys) x e h = by (p y) refl (λ f. any_found p q ys x f h) where
  or_true : (b : Bool) → (b || true) ≡ true
  or_true true = refl
  or_true false = refl

  by : (b : Bool) → p y ≡ b → (find p ys ≡ Some x → list_any q ys ≡ true) → (q y || list_any q ys) ≡ true
  by true here later =
      let hit : Some y ≡ Some x = sym (ap (λ b. cond b (Some y) (find p ys)) here) ∙ e in
      let same : y ≡ x = cc in
      ap (λ b. b || list_any q ys) (ap q same ∙ h)
  by false here later = ap (λ b. q y || b) (later (sym (ap (λ b. cond b (Some y) (find p ys)) here) ∙ e)) ∙ or_true (q y)

same_refusal : (r : Result ℕ Errno) (a e : Errno) → r ≡ Err a → r ≡ Err e → a ≡ e
same_refusal r a e f g = (let both = sym f ∙ g in cc)

same_place : (r : Result ℕ Errno) (a b : ℕ) → r ≡ Ok a → r ≡ Ok b → b ≡ a
same_place r a b f g = (let both = sym f ∙ g in cc)

not_both : (r : Result ℕ Errno) (a : ℕ) (e : Errno) → r ≡ Ok a → r ≡ Err e → ⊥
not_both r a e f g = (let both = sym f ∙ g in cc)

-- an address within the slots of a region
covered : (r : Coherent) (a : ℕ) → 4096 * r.slot ≤ a → a < 4096 * (r.slot + pages_of r.len) → region_covers r a ≡ true
covered r a low high =
    let first : r.slot ≤ a / 4096 = omega arith in
    let last : a / 4096 < r.slot + pages_of r.len = omega arith in
    grind (arith, nat_tests)

-- a turn on bytes that have to be within the slots of a region
abbrev pub part_turn : ℕ → ℕ → (Coherent → Turn DriverAct) → Coherent → Turn DriverAct
part_turn offset len rest r = refuse (refusal_if (nat_lt (4096 * pages_of r.len) (offset + len)) Inval) (rest r)

module _ (x : Setting) (acts : List Act) (k : Memory) (p : Pool) (s : Stands x acts k p) (number offset len : ℕ) (rest : Coherent → Turn DriverAct) where
  pub part_refused : (e : Errno) (o : Option Coherent) → coherent_of k.domain number ≡ o → region_place o offset len ≡ Err e → lift Driver (on_region acts number (part_turn offset len rest)) ≡ lift Driver (refusal_turn e)
  part_refused e None is bad = on_is x acts k p s number (part_turn offset len rest) None is ∙ ap (λ t. lift Driver (refusal_turn t)) (same_refusal (region_place None offset len) Noent e refl bad)
  part_refused e (Some r) is bad = on_is x acts k p s number (part_turn offset len rest) (Some r) is ∙ by (nat_lt (4096 * pages_of r.len) (offset + len)) refl where
    by : (t : Bool) → nat_lt (4096 * pages_of r.len) (offset + len) ≡ t → lift Driver (part_turn offset len rest r) ≡ lift Driver (refusal_turn e)
    by true f =
        let same : Inval ≡ e = same_refusal (region_place (Some r) offset len) Inval e (ap (λ t. cond t (Err Inval) (Ok (4096 * r.slot + offset))) f) bad in
        ap (λ t. lift Driver (refuse (refusal_if t Inval) (rest r))) f ∙ ap (λ t. lift Driver (refusal_turn t)) same
    by false f = absurd (not_both (region_place (Some r) offset len) (4096 * r.slot + offset) e (ap (λ t. cond t (Err Inval) (Ok (4096 * r.slot + offset))) f) bad)

  pub record Part (at : ℕ) : Type 0 where
    pub region : Coherent
    pub turn : lift Driver (on_region acts number (part_turn offset len rest)) ≡ lift Driver (rest region)
    pub is : at ≡ 4096 * region.slot + offset
    pub reached : first_failing (is_coherent acts) at len ≡ None

  pub part_found : (at : ℕ) (o : Option Coherent) → coherent_of k.domain number ≡ o → region_place o offset len ≡ Ok at → Part at
  part_found at None is good = absurd (not_both (region_place None offset len) at Noent good refl)
  part_found at (Some r) is good = by (nat_lt (4096 * pages_of r.len) (offset + len)) refl where
    by : (t : Bool) → nat_lt (4096 * pages_of r.len) (offset + len) ≡ t → Part at
    by true f = absurd (not_both (region_place (Some r) offset len) at Inval good (ap (λ t. cond t (Err Inval) (Ok (4096 * r.slot + offset))) f))
    by false f =
        let same : at ≡ 4096 * r.slot + offset = same_place (region_place (Some r) offset len) (4096 * r.slot + offset) at (ap (λ t. cond t (Err Inval) (Ok (4096 * r.slot + offset))) f) good in
        let fits : offset + len ≤ 4096 * pages_of r.len = grind (arith, nat_tests, f) in
        let found : find (λ (r : Coherent). r.number == number) (live_regions acts) ≡ Some r = ap (λ (l : List Coherent). find (λ (r : Coherent). r.number == number) l) (sym s.domain.regions) ∙ is in
        record {
          region = r;
          turn = on_is x acts k p s number (part_turn offset len rest) (Some r) is ∙ ap (λ t. lift Driver (refuse (refusal_if t Inval) (rest r))) f;
          is = same;
          reached = first_failing_all (is_coherent acts) at len (λ a low high.
              any_found (λ (r : Coherent). r.number == number) (λ (r : Coherent). region_covers r a) (live_regions acts) r found (covered r a (omega arith) (omega arith)));
        }

module _ (x : Setting) (acts : List Act) (k : Memory) (p : Pool) (s : Stands x acts k p) (heard : Answer → Type 0) (number offset : ℕ) where
  put_rest : List ℕ → Coherent → Turn DriverAct
  put_rest bytes r = done_with [] (Driver_put (4096 * r.slot + offset) bytes ∷ [])

  get_rest : ℕ → Coherent → Turn DriverAct
  get_rest len r = done_with (Text (bus_bytes x.per_page acts (4096 * r.slot + offset) len) ∷ []) []

  pub cput_refused : (bytes : List ℕ) (e : Errno) → region_place (coherent_of k.domain number) offset (length bytes) ≡ Err e → heard (answer.Err e)
      → Tells heard (lift Driver (on_region acts number (cput_turn offset bytes))) (λ more. Stands x (more ++ acts) k p)
  unfolding put_rest
  cput_refused bytes e is h = tells_by (part_refused x acts k p s number offset (length bytes) (put_rest bytes) e (coherent_of k.domain number) refl is) refl h s

  pub cput_done : (bytes : List ℕ) (at : ℕ) (d : Held) → region_place (coherent_of k.domain number) offset (length bytes) ≡ Ok at → domain.Stands x (Driver (Driver_put at bytes) ∷ acts) d p → heard (answer.Done [])
      → Tells heard (lift Driver (on_region acts number (cput_turn offset bytes))) (λ more. Stands x (more ++ acts) (record k { domain = d }) p)
  unfolding put_rest
  cput_done bytes at d is stands h =
      let f = part_found x acts k p s number offset (length bytes) (put_rest bytes) at (coherent_of k.domain number) refl is in
      tells_by f.turn refl h (domain_act x acts k p s (Driver (Driver_put (4096 * f.region.slot + offset) bytes)) d p refl refl
      (subst (λ a. domain.Stands x (Driver (Driver_put a bytes) ∷ acts) d p) f.is stands))

  pub part_reached : (len at : ℕ) → region_place (coherent_of k.domain number) offset len ≡ Ok at → first_failing (is_coherent acts) at len ≡ None
  part_reached len at is = (part_found x acts k p s number offset len (get_rest len) at (coherent_of k.domain number) refl is).reached

  pub cget_refused : (len : ℕ) (e : Errno) → region_place (coherent_of k.domain number) offset len ≡ Err e → heard (answer.Err e)
      → Tells heard (lift Driver (on_region acts number (cget_turn x acts offset len))) (λ more. Stands x (more ++ acts) k p)
  unfolding get_rest
  cget_refused len e is h = tells_by (part_refused x acts k p s number offset len (get_rest len) e (coherent_of k.domain number) refl is) refl h s

  pub cget_is : (len at : ℕ) → region_place (coherent_of k.domain number) offset len ≡ Ok at
      → lift Driver (on_region acts number (cget_turn x acts offset len)) ≡ lift Driver (done_with (Text (bus_bytes x.per_page acts at len) ∷ []) [])
  unfolding get_rest
  cget_is len at is =
      let f = part_found x acts k p s number offset len (get_rest len) at (coherent_of k.domain number) refl is in
      f.turn ∙ ap (λ a. lift Driver (done_with (Text (bus_bytes x.per_page acts a len) ∷ []) [])) (sym f.is)
