-- A small run in which a byte is shown, one is changed, and accesses are denied by either rule.
use Rattle.std.specs.Prelude.{List, [], ◌∷◌, ◌++◌, codes, ◌≡◌}
use Rattle.vd_model.specs.declared.answer.Answer.TheVariants.{Done, Bus}
use Rattle.vd_model.specs.declared.answer.Item.TheVariants.{Text}
use Rattle.vd_vhost_model.specs.declared.step.VhostAnswer.TheVariants.{Plain, Perm}
use Rattle.vd_vhost_model.specs.GuestTable.{VhostAct, guest}
use Rattle.vd_vhost_model.specs.VhostTurns.{guest_load_turn, guest_store_turn}
use Rattle.vd_vhost_laws.specs.TableLaw.{done_by_lines}

-- bytes 2 and 3 can be read at the last two addresses, and byte 0 written at address 0
abbrev pub run : List VhostAct
run = done_by_lines 4 [] (codes "poke 0 0a0b0c0d" ∷ codes "setmap 0xfffffffffffffffe:0xffffffffffffffff:2:1 0:0:0:2" ∷ [])

pub record TableInstances : Type 0 where
  pub shown : (guest_load_turn run 0xfffffffffffffffe 2).answer ≡ Plain (Done (Text (12 ∷ 13 ∷ []) ∷ []))
  pub denied : (guest_load_turn run 0xfffffffffffffffe 3).answer ≡ Perm 0
  pub nowhere : (guest_load_turn run 1 1).answer ≡ Plain (Bus 1)
  pub changed : guest ((guest_store_turn run 0 (9 ∷ [])).acts ++ run) 0 ≡ 9
  pub unchanged : (guest_store_turn run 0 (9 ∷ 9 ∷ [])).acts ≡ []
