use Rattle.std.proofs.Common.{ℕ, ◌≡◌, ◌+◌, ◌<◌, ◌^◌, arith, Option, subst, sym, ◌∙◌}
use Rattle.std.specs.Prelude.{IfSome}
use Rattle.blk_driver.specs.declared.driver.Made.{Made}
use Rattle.vd_domain.specs.Seen.{ring_map}
use Rattle.vd_rings.proofs.Lying.{ring_reached}
use Rattle.vd_request_lines.specs.Stands.{ring_held}
use Rattle.vd_request_lines.proofs.Told.{made_small, line_told}
use Rattle.vd_request_lines.proofs.polling.poll_on.Goals as goal

small : {a b : ℕ} → a < 2 ^ 62 → a ≡ b → b < 2 ^ 62
small h e = omega (arith, h, e)

pub polled-ended-requires-clause-reached : goal.polled-ended-requires-clause-reached
polled-ended-requires-clause-reached g c =
    let h = c.requires.held in
    record { setting = h.setting; acts = h.acts; stands = h.memory; apart = c.keeps_apart.ensures h.setting h.acts c.args.pool.now h.memory.domain }

pub polled-ended-requires-clause-in_reach : goal.polled-ended-requires-clause-in_reach
polled-ended-requires-clause-in_reach g c =
    let h = c.requires.held in
    ring_reached h.acts (ring_held c.args.held.now) h.requests.lies h.setting (ring_map c.args.memory.now.domain) (c.sees_rings.ensures h.setting h.acts c.args.pool.now h.memory.domain)

pub end_request-status-requires : goal.end_request-status-requires
end_request-status-requires g c =
    let h = c.requires.held in
    let p = c.polled-ended.ensures in
    record {
      numbers = subst (λ (o : Option Made). IfSome o (λ d. d.buffer + d.count < 2 ^ 64)) (sym c.made_by-made.ensures)
          (made_small h.acts h.queue c.args.held.now h.requests h.owned (small c.count-made.ensures.few (c.count-made.ensures.count ∙ h.memory.buffers.count)) c.polled-ended.result p.waiting p.request);
    }

pub returns-clause-line : goal.returns-clause-line
returns-clause-line g c = λ x made acts q s r owned here is.
    let p = c.polled-ended.ensures in
    let e = c.end_request-status.ensures in
    line_told x acts c.args.pool.now c.polled-ended.new.pool q c.args.memory.now c.polled-ended.new.memory c.args.held.now s r c.sees_rings.ensures c.sees_rings-2.ensures
    (c.keeps_apart.ensures x acts c.args.pool.now s.domain) owned
    (λ said. g.T.Hears.heard c.args.told.now said c.tell_completion.new.told) c.end_request-status.new.memory c.end_request-status.result
    made here _ is c.polled-ended.result c.polled-ended.new.driver c.made_by-made.result p.ring p.waiting p.request p.state p.told p.ends c.made_by-made.ensures e.none e.status e.freed c.tell_completion.ensures
