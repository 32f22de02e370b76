-- The lines on coherent regions.
use Rattle.std.proofs.Common.{◌≡◌, ℕ, ◌*◌, ◌/◌, ◌<◌, ◌↔◌, true, false, refl, ap, subst, ◌∙◌, sym, arith, Option, None, Some, Result, Ok, Err, IfOk, OnErr, List, [], ◌∷◌, ◌++◌, ◌==◌, find}
use Rattle.std.specs.Option.{option_map_or}
use Rattle.std.proofs.lemmas.Bool.Decides.{nat_tests}
use Rattle.vd_num.specs.Number.{pages_of}
use Rattle.vd_num.specs.declared.errno.Errno.TheVariants.{Nospc, Noent, Inval}
use Rattle.vd_pool.specs.Memory.{PoolMemory as Pool}
use Rattle.vd_model.specs.declared.memory.Mapping.{Mapping}
use Rattle.vd_model.specs.declared.memory.MapError.{MapError}
use Rattle.vd_model.specs.declared.memory.MapError.TheVariants.{Empty, NoSpace}
use Rattle.vd_model.specs.declared.memory.MapError.TheVariants as error
use Rattle.vd_model.specs.declared.answer.Answer.{Answer}
use Rattle.vd_model.specs.declared.answer.Answer.TheVariants as answer
use Rattle.vd_model.specs.declared.answer.Item.TheVariants.{Number, Word, Address}
use Rattle.vd_model.specs.declared.answer.Tag.TheVariants.{Iova}
use Rattle.vd_model.specs.Setting.{Setting}
use Rattle.vd_model.specs.Acts.{Act, Driver, DriverAct, Region_made, Region_freed, Coherent}
use Rattle.vd_model.specs.Live.{regions}
use Rattle.vd_model.specs.Place.{place_of as slot_of, taken_slots}
use Rattle.vd_model.specs.Turn.{Turn, lift, refuse, refusal_turn, refusal_if}
use Rattle.vd_model.specs.DriverTurns.{coherent_turn, coherent_at, on_region, freecoherent_turn}
use Rattle.vd_domain.specs.Held.{Held, coherent_of}
use Rattle.vd_domain.specs.Handed.{coherent_made}
use Rattle.vd_domain.specs.Stands as domain
use Rattle.vd_answers.specs.Tells.{Tells, MayTell}
use Rattle.vd_answers.proofs.Telling.{tells_by}
use Rattle.vd_memory_lines.specs.declared.memory.Memory.{Memory}
use Rattle.vd_memory_lines.specs.Mapped.{TellsMapped}
use Rattle.vd_memory_lines.specs.Stands.{Stands}
use Rattle.vd_memory_lines.proofs.Parts.{domain_act, told_ok, told_none}

module _ (x : Setting) (acts : List Act) (k : Memory) (p : Pool) (s : Stands x acts k p) where
  -- what the domain answered
  pub record Makes (len : ℕ) (r : Result Mapping MapError) (d : Held) : Type 0 where
    pub ok : IfOk r (λ m. domain.Stands x (Driver (Region_made (coherent_made m len)) ∷ acts) d p)
    pub place : IfOk r (λ m. (m.number ≡ regions acts) × (m.iova ≡ 4096 * (m.iova / 4096)) × (slot_of (taken_slots acts) (pages_of len) x.bounce x.iova ≡ Some (m.iova / 4096)))
    pub full : 0 < len → r ≡ Err NoSpace ↔ (slot_of (taken_slots acts) (pages_of len) x.bounce x.iova ≡ None)
    pub empty : r ≡ Err Empty ↔ (len ≡ 0)
    pub err : OnErr r (domain.Stands x acts d p)

  abbrev placed_or : ℕ → Option ℕ → Turn DriverAct
  placed_or len place = option_map_or (coherent_at acts len) place (refusal_turn Nospc)

  turn_is : (len : ℕ) (place : Option ℕ) → (len == 0) ≡ false → slot_of (taken_slots acts) (pages_of len) x.bounce x.iova ≡ place → lift Driver (coherent_turn x acts len) ≡ lift Driver (placed_or len place)
  unfolding slot_of
  turn_is len place e f =
      ap (λ t. lift Driver (refuse (refusal_if t Inval) (placed_or len (slot_of (taken_slots acts) (pages_of len) x.bounce x.iova)))) e
      ∙ ap (λ o. lift Driver (placed_or len o)) f

  stands_as : (d : Held) → domain.Stands x acts d p → Stands x acts (record k { domain = d }) p
  stands_as d stands = record { domain = stands; buffers = s.buffers; inside = s.inside }

  pub coherent_line : {E : Type 0} (heard : Answer → Type 0) (len : ℕ) (r : Result Mapping MapError) (result : Result (Unit {0}) E) (d : Held) → TellsMapped heard r result → Makes len r d
      → MayTell heard (lift Driver (coherent_turn x acts len)) (λ more. Stands x (more ++ acts) (record k { domain = d }) p) result
  unfolding slot_of
  coherent_line heard len (Ok m) result d t h =
      let some : (len ≡ 0) → ⊥ = λ z. (let bad = h.empty.1 z in cc) in
      let any : (len == 0) ≡ false = grind (arith, nat_tests) in
      told_ok result t.0 (tells_by (turn_is len (Some (m.iova / 4096)) any h.place.2)
      (ap (λ n. answer.Done (Number n ∷ Word Iova ∷ Address m.iova ∷ [])) h.place.0 ∙ ap (λ a. answer.Done (Number (regions acts) ∷ Word Iova ∷ Address a ∷ [])) h.place.1) t.1
      (subst (λ n. Stands x (Driver (Region_made (record { number = n; slot = m.iova / 4096; len = len })) ∷ acts) (record k { domain = d }) p) h.place.0
      (domain_act x acts k p s (Driver (Region_made (coherent_made m len))) d p refl refl h.ok)))
  coherent_line heard len (Err Empty) result d t h =
      let none : (len == 0) ≡ true = (let z = h.empty.0 refl in grind (arith, nat_tests)) in
      told_ok result t.0 (tells_by (ap (λ t. lift Driver (refuse (refusal_if t Inval) (placed_or len (slot_of (taken_slots acts) (pages_of len) x.bounce x.iova)))) none) refl t.1 (stands_as d h.err))
  coherent_line heard len (Err NoSpace) result d t h =
      let some : (len ≡ 0) → ⊥ = λ z. (let bad = h.empty.1 z in cc) in
      let any : (len == 0) ≡ false = grind (arith, nat_tests) in
      let full : slot_of (taken_slots acts) (pages_of len) x.bounce x.iova ≡ None = (h.full (omega arith)).0 refl in
      told_ok result t.0 (tells_by (turn_is len None any full) refl t.1 (stands_as d h.err))
  coherent_line heard len (Err error.Memory) result d t h = told_none result t (stands_as d h.err)

  pub on_is : (number : ℕ) (turn : Coherent → Turn DriverAct) (o : Option Coherent) → coherent_of k.domain number ≡ o → lift Driver (on_region acts number turn) ≡ lift Driver (option_map_or turn o (refusal_turn Noent))
  on_is number turn o e = ap (λ o. lift Driver (option_map_or turn o (refusal_turn Noent))) (ap (λ (l : List Coherent). find (λ r. r.number == number) l) (sym s.domain.regions) ∙ e)

  pub no_region : (heard : Answer → Type 0) (number : ℕ) (turn : Coherent → Turn DriverAct) (d : Held) → coherent_of k.domain number ≡ None → d ≡ k.domain → heard (answer.Err Noent)
      → Tells heard (lift Driver (on_region acts number turn)) (λ more. Stands x (more ++ acts) (record k { domain = d }) p)
  no_region heard number turn d e same h = tells_by (on_is number turn None e) refl h (subst (λ (t : Held). Stands x acts (record k { domain = t }) p) (sym same) s)

  pub region_freed : (heard : Answer → Type 0) (number : ℕ) (d : Held) (o : Option Coherent) → coherent_of k.domain number ≡ o → ((coherent_of k.domain number ≡ None) → ⊥) → ((r : Coherent) → coherent_of k.domain number ≡ Some r → domain.Stands x (Driver (Region_freed r) ∷ acts) d p)
      → heard (answer.Done []) → Tells heard (lift Driver (on_region acts number freecoherent_turn)) (λ more. Stands x (more ++ acts) (record k { domain = d }) p)
  region_freed heard number d None e some freed h = absurd (some e)
  region_freed heard number d (Some r) e some freed h = tells_by (on_is number freecoherent_turn (Some r) e) refl h (domain_act x acts k p s (Driver (Region_freed r)) d p refl refl (freed r e))
