use Rattle.std.proofs.Common.{refl}
use Rattle.vd_request_lines.proofs.Drops.{can_end, past_ring, region_after}
use Rattle.vd_request_lines.proofs.rings.drop_ring.Goals as goal

pub end_all-requires-clause-owned : goal.end_all-requires-clause-owned
end_all-requires-clause-owned c =
    let h = c.requires.held in
    record { setting = h.setting; acts = h.acts; memory = h.memory; pending = can_end h.acts h.queue c.args.held.now h.requests h.owned }

pub returns-clause-dropped : goal.returns-clause-dropped
returns-clause-dropped c = λ x acts q s r owned.
    let f = c.free_coherent.ensures in
    region_after x acts c.end_all.new.pool q c.args.held.now r c.end_all.new.memory (record c.end_all.new.memory { domain = c.free_coherent.new.self }) refl
    (c.end_all.ensures.ended x acts c.args.held.now.driver.ring.place.size s (can_end acts q c.args.held.now r owned) (past_ring acts q c.args.held.now r))
    c.free_coherent.result f.none f.err (λ g done e stands. f.ok x done c.end_all.new.pool g e stands)
