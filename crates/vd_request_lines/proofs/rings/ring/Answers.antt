use Rattle.std.proofs.Common.{◌≡◌, true, refl, subst}
use Rattle.vd_model.specs.RingTurns.{is_ring_size}
use Rattle.vd_rings.proofs.MadeRings.{Makes}
use Rattle.vd_request_lines.proofs.Turning.{not_missing}
use Rattle.vd_request_lines.proofs.MadeRings.{none_line}
use Rattle.vd_request_lines.proofs.rings.ring.Goals as goal

pub returns-in-Ok-clause-line : goal.returns-in-Ok-clause-line
returns-in-Ok-clause-line g c = λ x made acts m q s k known.
    let a = c.in-Ok.ensures.ok in
    let f = c.made-ring.ensures in
    none_line x made acts m q c.args.wanted.now.size c.args.memory.now (record c.args.memory.now { domain = c.made-ring.new.domain }) (λ said. g.T.Hears.heard c.args.told.now said c.keep.new.told) c.args.kept.now s refl
    a.3 (not_missing made acts q c.args.wanted.now.queue known a.2) (subst (λ n. is_ring_size n ≡ true) a.0 a.1) k
    c.made-ring.result c.keep.new.kept c.keep.result c.keep.ensures
    (subst (λ n. Makes x acts m n c.made-ring.result c.made-ring.new.domain) a.0
    (record { ok = f.ok x acts m s.domain; ring = f.ring x acts m s.domain; place = f.place x acts m s.domain; full = f.full x acts m s.domain; some = f.some; err = f.err x acts m s.domain }))
