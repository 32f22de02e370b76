use Rattle.std.proofs.Common.{◌-◌, ◌^◌, refl, sym, ◌∙◌, [], ◌∷◌}
use Rattle.vd_num.specs.declared.errno.Errno.TheVariants.{Busy}
use Rattle.vd_model.specs.Acts.{State, Bus, Detached}
use Rattle.vd_model.specs.State.{Cleared}
use Rattle.vd_model.specs.BusTurns.{is_busy}
use Rattle.vd_model.specs.Turn.{done_with}
use Rattle.vd_answers.proofs.Telling.{tells_by}
use Rattle.vd_control_path.proofs.Parts.{within_more}
use Rattle.vd_device.proofs.Parts.{path_act}
use Rattle.vd_device.proofs.Turns.{test_holds, test_fails}
use Rattle.vd_device.proofs.device.Device.detach.Goals as goal

pub clear-requires : goal.clear-requires
clear-requires g c = (c.detach.ensures.within (2 ^ 62 - 1) c.requires.room.path).state

pub returns-then-is_busy-clause-line : goal.returns-then-is_busy-clause-line
returns-then-is_busy-clause-line g c = λ x made acts m s.
    tells_by (test_holds (is_busy acts) Busy (done_with [] (State Cleared ∷ Bus Detached ∷ [])) (sym (c.is_busy.ensures x made acts m s) ∙ c.if-is_busy.true)) refl c.refused.ensures s

pub returns-clause-line : goal.returns-clause-line
returns-clause-line g c = λ x made acts m s.
    tells_by (test_fails (is_busy acts) Busy (done_with [] (State Cleared ∷ Bus Detached ∷ [])) (sym (c.is_busy.ensures x made acts m s) ∙ c.if-is_busy.false)) refl c.done.ensures
    (c.clear.ensures.stands x made (Bus Detached ∷ acts) m (record { path = c.detach.ensures.stands made acts s.path; memory = path_act x acts _ m (Bus Detached) refl s.memory }))

pub returns-clause-path : goal.returns-clause-path
returns-clause-path g c = λ most w. c.clear.ensures.path most (c.detach.ensures.within most w)

pub returns-then-is_busy-clause-path : goal.returns-then-is_busy-clause-path
returns-then-is_busy-clause-path g c = λ most w. within_more most _ w
