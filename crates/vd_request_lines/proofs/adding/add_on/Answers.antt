use Rattle.std.proofs.Common.{refl, sym, ◌∙◌}
use Rattle.vd_answers.proofs.Telling.{tells_by}
use Rattle.vd_domain.specs.Seen.{ring_map}
use Rattle.vd_rings.proofs.Lying.{ring_reached}
use Rattle.vd_request_lines.specs.Stands.{ring_held}
use Rattle.vd_request_lines.proofs.Adds.{disordered, full_turn, refused_after, adds}
use Rattle.vd_request_lines.proofs.adding.add_on.Goals as goal

pub added-ended-requires-clause-reached : goal.added-ended-requires-clause-reached
added-ended-requires-clause-reached g c = let h = c.requires.held in record { setting = h.setting; acts = h.acts; pool = h.pool; stands = h.memory.domain }

pub added-ended-requires-clause-in_reach : goal.added-ended-requires-clause-in_reach
added-ended-requires-clause-in_reach g c =
    let h = c.requires.held in
    ring_reached h.acts (ring_held c.args.held.now) h.requests.lies h.setting (ring_map c.args.memory.now.domain) (c.sees_rings.ensures h.setting h.acts h.pool h.memory.domain)

pub added-ended-requires-clause-owners : goal.added-ended-requires-clause-owners
added-ended-requires-clause-owners g c = c.requires.held.requests.side.owners_len

pub returns-then-is_out_of_order-clause-line : goal.returns-then-is_out_of_order-clause-line
returns-then-is_out_of_order-clause-line g c = λ x made acts m q s r here.
    tells_by (disordered made acts q here c.args.held.now r c.args.parts.now (sym c.if-is_out_of_order.ensures)) refl c.refused.ensures (record { memory = s; requests = r })

pub returns-in-Ok-clause-line : goal.returns-in-Ok-clause-line
returns-in-Ok-clause-line g c = λ x made acts m q s r here.
    let p = c.in-Ok.ensures in
    adds x acts m q _ _ c.args.held.now s r c.sees_rings.ensures c.sees_rings-2.ensures c.added-ended.ensures.after refl c.args.parts.now c.requires.some p.fits p.told
    made here (sym c.if-is_out_of_order.ensures) (λ said. g.T.Hears.heard c.args.told.now said c.fields.new.self)
    c.from.result c.added-ended.new.driver (c.from.ensures ∙ p.head) p.state c.fields.ensures

pub returns-in-Err-clause-line : goal.returns-in-Err-clause-line
returns-in-Err-clause-line g c = λ x made acts m q s r here.
    let p = c.in-Err.ensures in
    tells_by (full_turn made acts q here c.args.held.now r c.args.parts.now (sym c.if-is_out_of_order.ensures) p.full) refl c.refused-in-Err.ensures
    (refused_after x acts m q _ _ c.args.held.now s r c.sees_rings.ensures c.sees_rings-2.ensures c.added-ended.ensures.after refl c.args.parts.now c.added-ended.new.driver p.same_driver p.same_told)
