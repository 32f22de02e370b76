use Rattle.std.proofs.Common.{◌++◌, ap, sym, ◌∙◌}
use Rattle.std.specs.Prelude.{is_some}
use Rattle.vd_model.specs.Live.{registration_of}
use Rattle.vd_model.specs.NodeTurns.{registration_end}
use Rattle.vd_domain.specs.Held.{Held}
use Rattle.vd_domain.proofs.Opened.{stands_same}
use Rattle.vd_domain.proofs.Sessions.{ended_registration, no_registration}
use Rattle.vd_domain.proofs.domain.Domain.end_session.Goals.{then-is_registered, else-is_registered}
use Rattle.vd_domain.proofs.domain.Domain.end_session.Goals as goal

pub returns-clause-ok : goal.returns-clause-ok
returns-clause-ok c = λ x acts s.
    let seen = ap (λ (h : Held). is_some h.bounce.user) (sym c.self.view_is) ∙ sym c.is_registered.ensures in
    c.drop_area.ensures.ok x (registration_end (registration_of acts) ++ acts) c.if-is_registered.pool (elim c.if-is_registered.branch [
      | then-is_registered w ↦ stands_same w.self-is w.pool-is (ended_registration (seen ∙ w.if-is_registered.true) s (w.release.ensures.ok x acts s))
      | else-is_registered w ↦ stands_same w.self-is w.pool-is (no_registration (seen ∙ w.if-is_registered.false) s)
    ])
