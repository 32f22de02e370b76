use Rattle.std.proofs.Common.{List, [], ◌∷◌, not, refl, sym, ap, ◌∙◌}
use Rattle.vd_num.specs.declared.errno.Errno.TheVariants.{Exist, Inval}
use Rattle.vd_model.specs.Acts.{Act, Bus, Attached, state_acts}
use Rattle.vd_model.specs.Live.{is_attached}
use Rattle.vd_model.specs.Turn.{Turn, refuse, refusal_if, done_with}
use Rattle.vd_model.specs.BusTurns.{shape_of}
use Rattle.vd_answers.proofs.Telling.{tells_by}
use Rattle.vd_control_path.proofs.Parts.{path_stays}
use Rattle.vd_control_path.proofs.path.ControlPath.attach.Goals as goal

-- the turn of a device whose queues have their largest sizes
abbrev once : List Act → Turn Act
once done = refuse (refusal_if (is_attached done) Exist) (done_with [] (Bus Attached ∷ []))

pub returns-then-not-all_set_up-clause-line : goal.returns-then-not-all_set_up-clause-line
returns-then-not-all_set_up-clause-line g c = λ made done s.
    tells_by (ap (λ b. refuse (refusal_if (not b) Inval) (once done)) (sym (c.if-not-all_set_up.ensures (shape_of made) (state_acts done) s.state))) refl c.refused.ensures
    (path_stays s)

pub returns-then-self-clause-line : goal.returns-then-self-clause-line
returns-then-self-clause-line g c = λ made done s.
    tells_by
    (ap (λ b. refuse (refusal_if (not b) Inval) (once done)) (sym (c.if-not-all_set_up.ensures (shape_of made) (state_acts done) s.state))
    ∙ ap (λ b. refuse (refusal_if b Exist) (done_with [] (Bus Attached ∷ []))) (sym s.attached ∙ c.if-self.true))
    refl c.refused-then-self.ensures (path_stays s)

pub returns-clause-line : goal.returns-clause-line
returns-clause-line g c = λ made done s.
    tells_by
    (ap (λ b. refuse (refusal_if (not b) Inval) (once done)) (sym (c.if-not-all_set_up.ensures (shape_of made) (state_acts done) s.state))
    ∙ ap (λ b. refuse (refusal_if b Exist) (done_with [] (Bus Attached ∷ []))) (sym s.attached ∙ c.if-self.false))
    refl c.done.ensures
    (record {
      only = refl;
      stands = record {
        messages = s.messages;
        state = s.state;
        config = record { bytes = s.config.bytes; size = s.config.size };
        opened = s.opened;
        sessions = s.sessions;
        closings = s.closings;
        attached = refl;
      };
    })
