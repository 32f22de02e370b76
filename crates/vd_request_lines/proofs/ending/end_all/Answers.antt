use Rattle.std.proofs.Common.{ℕ, ◌≡◌, ◌<◌, ◌^◌, ◌++◌, sym, ◌∙◌, arith}
use Rattle.vd_model.specs.Live.{live_mappings}
use Rattle.vd_request_lines.specs.Ending.{pending_end_acts}
use Rattle.vd_request_lines.proofs.Ended.{next_fewer, next_few, next_ended, last_ended, out_after, keeps_after, maps_after}
use Rattle.vd_request_lines.proofs.ending.end_all.Goals as goal

small : {a b : ℕ} → a < 2 ^ 62 → a ≡ b → b < 2 ^ 62
small h e = omega (arith, h, e)

pub abandon_least-requires-clause-standing : goal.abandon_least-requires-clause-standing
abandon_least-requires-clause-standing c =
    let h = c.requires.owned in
    let e = c.loop-made.invariant.ended h.setting h.acts h.memory h.pending in
    record { setting = h.setting; acts = pending_end_acts (live_mappings h.acts) c.args.driver.now.pending e.below ++ h.acts; stands = e.stands }

pub free_made-requires : goal.free_made-requires
free_made-requires c =
    let h = c.requires.owned in
    let a = c.abandon_least.ensures in
    record {
      numbers = next_few c.loop-made.driver c.abandon_least.new.driver c.in-Some.made (sym c.in-Some.is ∙ a.made) a.state h.setting h.acts c.args.driver.now.pending h.pending c.loop-made.memory c.loop-made.pool
          (c.loop-made.invariant.ended h.setting h.acts h.memory h.pending) (small c.count-made.ensures.few (c.count-made.ensures.count ∙ h.memory.buffers.count));
    }

pub loop-made-preserved : goal.loop-made-preserved
loop-made-preserved c =
    let l = c.loop-made in
    let a = c.abandon_least.ensures in
    let f = c.free_made.ensures in
    record {
      out = out_after l.invariant.out a.rest f.rest;
      ended = λ x acts s can. next_ended l.driver c.abandon_least.new.driver c.in-Some.made (sym c.in-Some.is ∙ a.made) a.state x acts c.args.driver.now.pending can l.memory l.pool
          (l.invariant.ended x acts s can) c.abandon_least.new.memory c.free_made.new.memory c.abandon_least.new.pool a.unmapped f.freed;
      rest = keeps_after l.invariant.rest a.rest f.rest;
      maps = maps_after c.args.memory.now l.memory c.abandon_least.new.memory c.free_made.new.memory l.invariant.maps a.maps f.rest;
    }

pub loop-made-smaller : goal.loop-made-smaller
loop-made-smaller c =
    let a = c.abandon_least.ensures in
    next_fewer c.loop-made.driver c.abandon_least.new.driver c.in-Some.made (sym c.in-Some.is ∙ a.made) a.state

pub returns-clause-ended : goal.returns-clause-ended
returns-clause-ended c = λ x acts n s can past.
    let a = c.abandon_least.ensures in
    last_ended x acts c.args.driver.now.pending c.loop-made.driver c.loop-made.memory c.abandon_least.new.memory c.loop-made.pool c.abandon_least.new.pool (c.loop-made.invariant.ended x acts s can) (a.none.0 c.in_default.is) a.unmapped n past
