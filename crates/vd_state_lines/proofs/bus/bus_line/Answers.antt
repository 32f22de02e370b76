use Rattle.std.proofs.Common.{sym, ◌∙◌, refl, ap, subst, [], ◌∷◌}
use Rattle.vd_model.specs.Acts.{state_acts}
use Rattle.vd_model.specs.BusTurns.{attached_turn, shape_of}
use Rattle.vd_model.specs.Turn.{done_with}
use Rattle.vd_model.specs.State.{is_queue_or_config, Callback_set}
use Rattle.vd_model.specs.declared.answer.Item.TheVariants.{Address, Number}
use Rattle.vd_state.specs.Stands.{Does}
use Rattle.vd_answers.proofs.Telling.{tells_as, tells_by}
use Rattle.vd_state_lines.proofs.Lines.{does_line, vqaddr_tests, stays, counted_more}
use Rattle.vd_state_lines.proofs.bus.bus_line.Goals as goal

pub returns-in-Offered-clause-line : goal.returns-in-Offered-clause-line
returns-in-Offered-clause-line g c = λ made acts s.
    tells_by
    (ap (attached_turn made c.args.now acts) c.in-Offered.is ∙ ap (λ n. done_with (Address n ∷ []) []) (sym (c.offered.ensures (shape_of made) (state_acts acts) s)))
    refl c.fields.ensures (stays made acts _ s)

pub returns-in-SetFeatures-clause-line : goal.returns-in-SetFeatures-clause-line
returns-in-SetFeatures-clause-line g c = λ made acts s. does_line made acts _ _ c.set_features.result _ (ap (attached_turn made c.args.now acts) c.in-SetFeatures.is) c.tell.ensures refl (c.set_features.ensures.does (shape_of made) (state_acts acts) s)

pub returns-in-SetFeatures-clause-counts : goal.returns-in-SetFeatures-clause-counts
returns-in-SetFeatures-clause-counts g c = λ most w. counted_more most _ (c.set_features.ensures.counts most w)

pub returns-in-GetStatus-clause-line : goal.returns-in-GetStatus-clause-line
returns-in-GetStatus-clause-line g c = λ made acts s. tells_by (ap (attached_turn made c.args.now acts) c.in-GetStatus.is ∙ ap (λ n. done_with (Number n ∷ []) []) (sym (c.from.ensures ∙ c.status.ensures (shape_of made) (state_acts acts) s))) refl c.fields-in-GetStatus.ensures (stays made acts _ s)

pub returns-in-VqNum-clause-line : goal.returns-in-VqNum-clause-line
returns-in-VqNum-clause-line g c = λ made acts s. tells_as (ap (attached_turn made c.args.now acts) c.in-VqNum.is) (c.vqnum.ensures.line made acts s)

pub returns-in-VqAddr-clause-line : goal.returns-in-VqAddr-clause-line
returns-in-VqAddr-clause-line g c = λ made acts s. does_line made acts _ _ c.set_addr.result _ (ap (attached_turn made c.args.now acts) c.in-VqAddr.is ∙ vqaddr_tests made c.in-VqAddr.queue c.in-VqAddr.desc c.in-VqAddr.driver c.in-VqAddr.device) c.tell-in-VqAddr.ensures refl (c.set_addr.ensures.does (shape_of made) (state_acts acts) s)

pub returns-in-VqReady-clause-line : goal.returns-in-VqReady-clause-line
returns-in-VqReady-clause-line g c = λ made acts s. does_line made acts _ _ c.set_ready.result _ (ap (attached_turn made c.args.now acts) c.in-VqReady.is) c.tell-in-VqReady.ensures refl (c.set_ready.ensures.does (shape_of made) (state_acts acts) s)

pub returns-in-SetVqState-clause-line : goal.returns-in-SetVqState-clause-line
returns-in-SetVqState-clause-line g c = λ made acts s. does_line made acts _ _ c.set_avail.result _ (ap (attached_turn made c.args.now acts) c.in-SetVqState.is) c.tell-in-SetVqState.ensures refl (c.set_avail.ensures.does (shape_of made) (state_acts acts) s)

pub returns-in-SetVqState-clause-counts : goal.returns-in-SetVqState-clause-counts
returns-in-SetVqState-clause-counts g c = λ most w. counted_more most _ (c.set_avail.ensures.counts most w)

pub returns-in-Kick-clause-line : goal.returns-in-Kick-clause-line
returns-in-Kick-clause-line g c = λ made acts s. does_line made acts _ _ c.kick.result _ (ap (attached_turn made c.args.now acts) c.in-Kick.is) c.tell-in-Kick.ensures refl (c.kick.ensures.does (shape_of made) (state_acts acts) s)

pub returns-in-Callback-clause-line : goal.returns-in-Callback-clause-line
returns-in-Callback-clause-line g c = λ made acts s. does_line made acts _ _ c.set_callback.result _ (ap (attached_turn made c.args.now acts) c.in-Callback.is) c.tell-in-Callback.ensures refl (subst (λ on. Does (shape_of made) (state_acts acts) (is_queue_or_config (shape_of made) on) (Callback_set on c.in-Callback.flag) c.set_callback.result c.set_callback.new.self) c.index_of.ensures (c.set_callback.ensures.does (shape_of made) (state_acts acts) s))

pub returns-in-Callback-clause-counts : goal.returns-in-Callback-clause-counts
returns-in-Callback-clause-counts g c = λ most w. counted_more most _ (c.set_callback.ensures.counts most w)

pub returns-in-Irqs-clause-line : goal.returns-in-Irqs-clause-line
returns-in-Irqs-clause-line g c = λ made acts s. tells_as (ap (attached_turn made c.args.now acts) c.in-Irqs.is) (c.irqs.ensures.line made acts s)

pub returns-in-Irqs-clause-counts : goal.returns-in-Irqs-clause-counts
returns-in-Irqs-clause-counts g c = λ most w. counted_more most _ (c.irqs.ensures.counts most w)
