use Rattle.std.proofs.Common.{sym, subst, ap, ◌∙◌}
use Rattle.vd_vhost_model.specs.declared.step.VhostStep.TheVariants.{Store, Poke}
use Rattle.vd_vhost.specs.After.{IsAfter}
use Rattle.vd_vhost.proofs.Telling.{by_step, by_view, plainly}
use Rattle.vd_vhost.proofs.vhost.Vhost.tell.Goals as goal

pub returns-in-Store-clause-line : goal.returns-in-Store-clause-line
returns-in-Store-clause-line g c size done s =
    by_step _ size done _ _ _ _ _ (c.in-Store.is ∙ ap (Store c.in-Store.at) (sym c.as_slice.ensures)) (c.store.ensures.line size done (subst (λ bus. IsAfter size done bus) (sym c.self.view_is) s))

pub returns-in-Poke-clause-line : goal.returns-in-Poke-clause-line
returns-in-Poke-clause-line g c size done s =
    by_step _ size done _ _ _ _ _ (c.in-Poke.is ∙ ap (Poke c.in-Poke.offset) (sym c.as_slice-in-Poke.ensures))
    (plainly _ size done _ _ _ (c.poke.ensures size done (subst (λ bus. IsAfter size done bus) (sym c.self.view_is) s)))

pub returns-in_ok-peek-in-Peek-clause-line : goal.returns-in_ok-peek-in-Peek-clause-line
returns-in_ok-peek-in-Peek-clause-line g c size done s =
    by_step _ size done _ _ _ _ _ c.in-Peek.is
    (by_view _ size done _ _ _ _ _ c.self.view_is
    (plainly _ size done _ _ _ (c.in_ok-peek-in-Peek.ensures size done (subst (λ bus. IsAfter size done bus) (sym c.self.view_is) s))))

pub returns-in-Recv-clause-line : goal.returns-in-Recv-clause-line
returns-in-Recv-clause-line g c size done s =
    by_step _ size done _ _ _ _ _ c.in-Recv.is
    (plainly _ size done _ _ _ (c.recv.ensures size done (subst (λ bus. IsAfter size done bus) (sym c.self.view_is) s)))

pub returns-in-Answer-clause-line : goal.returns-in-Answer-clause-line
returns-in-Answer-clause-line g c size done s =
    by_step _ size done _ _ _ _ _ c.in-Answer.is
    (plainly _ size done _ _ _ (c.answer.ensures size done (subst (λ bus. IsAfter size done bus) (sym c.self.view_is) s)))

pub returns-in-Lost-clause-line : goal.returns-in-Lost-clause-line
returns-in-Lost-clause-line g c size done s =
    by_step _ size done _ _ _ _ _ c.in-Lost.is
    (plainly _ size done _ _ _ (c.lost.ensures size done (subst (λ bus. IsAfter size done bus) (sym c.self.view_is) s)))

pub returns-in-Tick-clause-line : goal.returns-in-Tick-clause-line
returns-in-Tick-clause-line g c size done s =
    by_step _ size done _ _ _ _ _ c.in-Tick.is
    (plainly _ size done _ _ _ (c.tick.ensures size done (subst (λ bus. IsAfter size done bus) (sym c.self.view_is) s)))

pub returns-in-Take-clause-line : goal.returns-in-Take-clause-line
returns-in-Take-clause-line g c size done s =
    by_step _ size done _ _ _ _ _ c.in-Take.is
    (plainly _ size done _ _ _ (c.take.ensures size done (subst (λ bus. IsAfter size done bus) (sym c.self.view_is) s)))
