use Rattle.std.proofs.Common.{ap, sym, ◌∙◌, arith}
use Rattle.vd_model.specs.Acts.{state_acts}
use Rattle.vd_model.specs.State.{queue_info}
use Rattle.vd_model.specs.BusTurns.{is_missing}
use Rattle.vd_model.specs.DaemonTurns.{walk_turn}
use Rattle.vd_answers.proofs.Telling.{may_tell_as}
use Rattle.vd_device.proofs.Turns.{session_open}
use Rattle.vd_instance.proofs.Walked.{small_by, walk_tells, walk_none}
use Rattle.vd_instance.proofs.instance.Instance.walk.Goals as goal

pub walk-requires-clause-reached : goal.walk-requires-clause-reached
walk-requires-clause-reached g c = let r = c.requires.reached in record { setting = r.setting; acts = r.acts; stands = r.stands.device.memory.domain }

pub walk-requires-clause-small : goal.walk-requires-clause-small
walk-requires-clause-small g c =
    let r = c.requires.reached in
    let known = c.chain_at-chain.ensures.known r.setting r.made r.acts c.args.pool.now r.stands in
    small_by (is_missing r.made c.args.queue) (queue_info (state_acts r.acts) c.args.queue) c.chain_at-chain.result.queue known.info (r.stands.sizes c.args.queue)

pub returns-clause-line : goal.returns-clause-line
returns-clause-line g c = λ x made acts s.
    let known = c.chain_at-chain.ensures.known x made acts c.args.pool.now s in
    may_tell_as
    (session_open acts (walk_turn x made acts c.args.queue c.args.head) (sym s.device.path.opened ∙ c.if-not-self.false) ∙ ap (walk_turn x made acts c.args.queue) (sym c.chain_at-chain.ensures.head))
    (walk_tells c.walk.new.domain c.walk.result (walk_none x made acts c.args.queue c.chain_at-chain.result.head) s (c.walk.ensures.line x made acts c.args.queue s.device.memory.domain known))

pub returns-clause-rest : goal.returns-clause-rest
returns-clause-rest g c =
    let counts = c.walk.ensures.counts in
    record {
      kept = c.walk.ensures.kept;
      page = counts.page;
      maps = (let e = counts.maps in omega arith);
      made = (let e = counts.made in omega arith);
    }
