use Rattle.std.proofs.Common.{refl, ◌∙◌}
use Rattle.vd_domain.specs.Seen.{ring_map}
use Rattle.vd_rings.proofs.Lying.{ring_reached}
use Rattle.vd_rings.proofs.Kicks.{one_is}
use Rattle.vd_request_lines.specs.Stands.{ring_held}
use Rattle.vd_request_lines.proofs.Publishes.{publishes}
use Rattle.vd_request_lines.proofs.publishing.publish_on.Goals as goal

pub published-idx-requires-clause-reached : goal.published-idx-requires-clause-reached
published-idx-requires-clause-reached g c = let h = c.requires.held in record { setting = h.setting; acts = h.acts; pool = h.pool; stands = h.memory.domain }

pub published-idx-requires-clause-in_reach : goal.published-idx-requires-clause-in_reach
published-idx-requires-clause-in_reach g c =
    let h = c.requires.held in
    ring_reached h.acts (ring_held c.args.held.now) h.requests.lies h.setting (ring_map c.args.memory.now.domain) (c.sees_rings.ensures h.setting h.acts h.pool h.memory.domain)

pub returns-clause-line : goal.returns-clause-line
returns-clause-line g c = λ x made acts m q s r here is.
    let p = c.published-idx.ensures in
    publishes x acts m q _ _ c.args.held.now s r c.sees_rings.ensures c.sees_rings-2.ensures p.after refl p.told
    made here c.args.event_idx is (λ said. g.T.Hears.heard c.args.told.now said c.fields.new.self)
    c.from.result c.from-2.result c.published-idx.result.kick c.published-idx.new.driver (c.from.ensures ∙ p.idx) p.kick (c.from-2.ensures ∙ one_is c.published-idx.result.kick) p.state c.fields.ensures
