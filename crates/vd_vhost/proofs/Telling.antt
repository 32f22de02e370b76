-- How a step is told.
use Rattle.std.proofs.Common.{◌≡◌, ℕ, ◌≤◌, refl, ap, subst, sym, ◌∙◌, arith, Bool, false, nat_lt, List, [], ◌∷◌, ◌++◌, Option, Some, None}
use Rattle.std.specs.Option.{option_map_or}
use Rattle.std.proofs.lemmas.Bool.Decides.{nat_tests}
use Rattle.vd_num.specs.declared.errno.Errno.TheVariants.{Inval}
use Rattle.vd_model.specs.declared.memory.Region.{Region}
use Rattle.vd_model.specs.declared.answer.Answer.{Answer}
use Rattle.vd_model.specs.AreaTurns.{first_region}
use Rattle.vd_model.specs.Turn.{Turn, refuse, refusal_if, refusal_turn}
use Rattle.vd_vhost_model.specs.declared.step.VhostStep.{VhostStep}
use Rattle.vd_vhost_model.specs.GuestTable.{VhostAct, table}
use Rattle.vd_vhost_model.specs.VhostTurns.{VhostTurn, vhost_turn, plain, guest_lookup_turn, found_turn}
use Rattle.vd_vhost.specs.Told.{Tells, TellsOrDenies}
use Rattle.vd_vhost.specs.After.{BusParts, IsAfter}

module _ (heard : Answer → Type 0) (size : ℕ) (done : List VhostAct) where
  -- a turn that breaks no permission
  pub plainly : (quiet : Type 0) (turn : Turn VhostAct) (bus : BusParts) → Tells heard turn (λ acts. IsAfter size (acts ++ done) bus)
      → TellsOrDenies heard quiet (plain turn) (λ acts. IsAfter size (acts ++ done) bus) None
  plainly quiet turn bus t = record { says = (refl, t.says); stands = t.stands }

  -- what is told of a step is told of the same step
  pub by_step : (quiet : Type 0) (bus : BusParts) (told : Option ℕ) (step other : VhostStep) → step ≡ other
      → TellsOrDenies heard quiet (vhost_turn size done other) (λ acts. IsAfter size (acts ++ done) bus) told
      → TellsOrDenies heard quiet (vhost_turn size done step) (λ acts. IsAfter size (acts ++ done) bus) told
  by_step quiet bus told step other is t = subst (λ st. TellsOrDenies heard quiet (vhost_turn size done st) (λ acts. IsAfter size (acts ++ done) bus) told) (sym is) t

  -- and of the same bus
  pub by_view : (quiet : Type 0) (turn : VhostTurn) (bus same : BusParts) (told : Option ℕ) → bus ≡ same → TellsOrDenies heard quiet turn (λ acts. IsAfter size (acts ++ done) bus) told
      → TellsOrDenies heard quiet turn (λ acts. IsAfter size (acts ++ done) same) told
  by_view quiet turn bus same told is t = subst (λ b. TellsOrDenies heard quiet turn (λ acts. IsAfter size (acts ++ done) b) told) is t

  pub lookup_found : (bus : BusParts) (s : IsAfter size done bus) (start last : ℕ) (r : Region) → start ≤ last → Some r ≡ first_region bus.guest.regions start last → heard (found_turn r).answer
      → Tells heard (guest_lookup_turn done start last) (λ acts. IsAfter size (acts ++ done) bus)
  lookup_found bus s start last r order found says =
      let isnt : nat_lt last start ≡ false = grind (arith, nat_tests) in
      subst (λ b. Tells heard (refuse (refusal_if b Inval) (option_map_or found_turn (first_region (table done) start last) (refusal_turn Inval))) (λ acts. IsAfter size (acts ++ done) bus)) (sym isnt)
      (subst (λ o. Tells heard (option_map_or found_turn o (refusal_turn Inval)) (λ acts. IsAfter size (acts ++ done) bus))
      (found ∙ s.guest.table.same start last) (record { says = says; stands = s }))
