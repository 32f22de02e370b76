use Rattle.std.proofs.Common.{Option, Ok, ap, subst, sym, ◌∙◌}
use Rattle.std.specs.Prelude.{IfSome}
use Rattle.std.specs.declared.alloc.AllocError.{AllocError}
use Rattle.vd_domain.specs.Seen.{ring_map}
use Rattle.vd_answers.proofs.Telling.{tells_ok}
use Rattle.vd_rings.proofs.Lying.{ring_reached}
use Rattle.blk_driver.specs.Asked.{IsAsked, asked_in}
use Rattle.blk_driver.specs.declared.ask.Ask.{Ask}
use Rattle.blk_driver.specs.declared.driver.Submitted.{Submitted}
use Rattle.vd_request_lines.specs.Stands.{ring_held}
use Rattle.vd_request_lines.specs.Submitting.{IsPlaced, IsNotPlaced}
use Rattle.vd_request_lines.specs.Asking.{asked_refusal}
use Rattle.vd_request_lines.proofs.Asks.{is_asked}
use Rattle.vd_request_lines.proofs.Lines.{refused_told, none_told, placed_told}
use Rattle.vd_request_lines.proofs.submitting.submit_on.Goals as goal

pub returns-in-Some-clause-line : goal.returns-in-Some-clause-line
returns-in-Some-clause-line g c = λ x made acts q s r here known busy.
    tells_ok (refused_told x made acts q c.args.held.now r here c.args.wanted.now.form c.args.wanted.now.queue.features known c.args.wanted.now.busy busy c.args.memory.now c.args.pool.now s c.ask_of-ask.result c.ask_of-ask.ensures
    (λ said. g.T.Hears.heard c.args.told.now said c.refused.new.self) c.in-Some.errno c.in-Some.ensures c.refused.ensures)

pub placed-requires-clause-in_reach : goal.placed-requires-clause-in_reach
placed-requires-clause-in_reach g c =
    let h = c.requires.kept in
    ring_reached h.acts (ring_held c.args.held.now) h.requests.lies h.setting (ring_map c.args.memory.now.domain) (c.sees_rings.ensures h.setting h.acts c.args.pool.now h.memory.domain)

pub placed-requires-clause-asked : goal.placed-requires-clause-asked
placed-requires-clause-asked g c =
    let h = c.requires.kept in
    subst (λ (a : Ask). IsAsked a) (sym c.ask_of-ask.ensures)
    (is_asked h.setting.per_page h.acts c.args.memory.now.buffers c.args.wanted.now.form c.args.wanted.now.busy h.memory.buffers
    (sym (c.in_default.ensures ∙ ap (λ (a : Ask). asked_refusal c.args.memory.now.buffers c.args.wanted.now.busy (asked_in a)) c.ask_of-ask.ensures)))

pub returns-in-Some-found-clause-line : goal.returns-in-Some-found-clause-line
returns-in-Some-found-clause-line g c = λ x made acts q s r here known busy.
    tells_ok (placed_told x made acts q c.args.held.now r here c.args.wanted.now.form c.args.wanted.now.queue.features known c.args.wanted.now.busy busy c.args.memory.now c.args.pool.now s c.ask_of-ask.result c.ask_of-ask.ensures
    (λ said. g.T.Hears.heard c.args.told.now said c.tell_submitted.new.told) c.in_default.ensures c.placed.new.memory c.placed.new.pool c.placed.new.driver
    (c.sees_rings.ensures x acts c.args.pool.now s.domain) c.sees_rings-2.ensures (c.keeps_apart.ensures x acts c.args.pool.now s.domain) (c.keeps_numbers.ensures x acts c.args.pool.now s.domain)
    c.in-Some-found.request
    (subst (λ (o : Option Submitted). IfSome o (λ r. IsPlaced c.args.memory.now c.args.pool.now c.ask_of-ask.result c.args.wanted.now.queue.features c.args.held.now.driver c.placed.new.driver r c.placed.new.memory c.placed.new.pool)) c.in-Some-found.is c.in_ok-found.ensures.placed)
    c.count-buffer.result c.count-buffer.ensures.count c.tell_submitted.ensures)

pub returns-in-None-clause-line : goal.returns-in-None-clause-line
returns-in-None-clause-line g c = λ x made acts q s r here known busy.
    let none : IsNotPlaced {E = AllocError} (Ok c.in_ok-found.found) = subst (λ (o : Option Submitted). IsNotPlaced {E = AllocError} (Ok o)) (sym c.in-None.is) tt in
    tells_ok (none_told x made acts q c.args.held.now r here c.args.wanted.now.form c.args.wanted.now.queue.features known c.args.wanted.now.busy busy c.args.memory.now c.args.pool.now s c.ask_of-ask.result c.ask_of-ask.ensures
    (λ said. g.T.Hears.heard c.args.told.now said c.refused-in-None.new.self) c.in_default.ensures c.placed.new.memory c.placed.new.pool c.placed.new.driver
    (c.in_ok-found.ensures.same none) (c.in_ok-found.ensures.none x acts s c.in-None.is) (c.in_ok-found.ensures.stays x acts s none) c.refused-in-None.ensures)
