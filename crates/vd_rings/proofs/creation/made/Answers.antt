use Rattle.std.proofs.Common.{◌≡◌, ℕ, ◌+◌, ◌*◌, ◌/◌, ◌<◌, ap, sym, subst, ◌∙◌, arith, ◌∷◌, Some, None, Err}
use Rattle.std.proofs.lemmas.Result.{err_from_is_err_and}
use Rattle.vd_num.specs.Number.{pages_of}
use Rattle.vd_model.specs.Acts.{Driver, Region_made}
use Rattle.vd_model.specs.Place.{place_of, taken_slots}
use Rattle.vd_model.specs.declared.queue.RingPlace.{RingPlace}
use Rattle.vd_model.specs.RingTurns.{ring_bytes}
use Rattle.vd_domain.specs.Stands.{Stands}
use Rattle.vr_driver.specs.Side.{DriverSide, side_of}
use Rattle.vd_rings.proofs.Lying.{some_size}
use Rattle.vd_rings.proofs.RingSizes.{ring_size_is, laid_bytes}
use Rattle.vd_rings.proofs.MadeRings.{moved_stands, moved_place, moved_side}
use Rattle.vd_rings.proofs.creation.made.Goals as goal

pub new-requires-clause-some : goal.new-requires-clause-some
new-requires-clause-some c = subst (λ (p : RingPlace). 0 < p.size) (sym c.place_at.ensures) (some_size c.args.size (ring_size_is c.args.size c.requires.size))

pub returns-in_err-region-clause-full : goal.returns-in_err-region-clause-full
returns-in_err-region-clause-full c = λ x acts m s e.
    let l = c.layout_of.ensures in
    let bytes = laid_bytes c.args.size c.layout_of.result.driver_at c.layout_of.result.device_at c.layout_of.result.bytes l.driver l.behind l.near l.aligned l.bytes in
    let a : ℕ = c.layout_of.result.bytes in
    let b = l.bytes in
    let some : 0 < a = omega arith in
    let r = c.from_residual.ensures in
    let f = c.in_err-region.ensures.full x acts m s some in
    subst (λ n. place_of (taken_slots acts) (pages_of n) x.bounce x.iova ≡ None) bytes (f.0 (let p = err_from_is_err_and c.from_residual.result r.1 in let y = p.1 in let z = p.2 in cc))

pub returns-clause-ok : goal.returns-clause-ok
returns-clause-ok c = λ x acts m s.
    let l = c.layout_of.ensures in
    let bytes = laid_bytes c.args.size c.layout_of.result.driver_at c.layout_of.result.device_at c.layout_of.result.bytes l.driver l.behind l.near l.aligned l.bytes in
    moved_stands c.args.size c.in_ok-region.region.iova c.in-Ok.ring c.set_place.new.self c.place_at.result c.place_at-2.result c.set_place.ensures c.in-Ok.ensures (ap (λ (p : RingPlace). p.size) c.place_at.ensures) c.place_at-2.ensures
    x acts c.alloc_coherent.new.self m c.in_ok-region.region.number c.layout_of.result.bytes bytes (c.in_ok-region.ensures.ok x acts m s)

pub returns-clause-ring : goal.returns-clause-ring
returns-clause-ring c = λ x acts m s.
    let l = c.layout_of.ensures in
    let bytes = laid_bytes c.args.size c.layout_of.result.driver_at c.layout_of.result.device_at c.layout_of.result.bytes l.driver l.behind l.near l.aligned l.bytes in
    let place = c.in_ok-region.ensures.place x acts m s in
    let stands = subst (λ n. Stands x (Driver (Region_made (record { number = c.in_ok-region.region.number; slot = c.in_ok-region.region.iova / 4096; len = n })) ∷ acts) c.alloc_coherent.new.self m) bytes (c.in_ok-region.ensures.ok x acts m s) in (
      place.0,
      moved_side c.args.size c.in_ok-region.region.iova c.in-Ok.ring c.set_place.new.self c.place_at.result c.place_at-2.result c.set_place.ensures c.in-Ok.ensures (ap (λ (p : RingPlace). p.size) c.place_at.ensures) c.place_at-2.ensures
          x acts c.alloc_coherent.new.self m c.in_ok-region.region.number c.layout_of.result.bytes (ring_size_is c.args.size c.requires.size) bytes place.1
          (c.sees_rings.ensures x (Driver (Region_made (record { number = c.in_ok-region.region.number; slot = c.in_ok-region.region.iova / 4096; len = ring_bytes c.args.size })) ∷ acts) m stands),
    )

pub returns-clause-place : goal.returns-clause-place
returns-clause-place c = λ x acts m s.
    let l = c.layout_of.ensures in
    let bytes = laid_bytes c.args.size c.layout_of.result.driver_at c.layout_of.result.device_at c.layout_of.result.bytes l.driver l.behind l.near l.aligned l.bytes in
    moved_place c.args.size c.in_ok-region.region.iova c.in-Ok.ring c.set_place.new.self c.place_at.result c.place_at-2.result c.set_place.ensures c.in-Ok.ensures (ap (λ (p : RingPlace). p.size) c.place_at.ensures) c.place_at-2.ensures
    x acts c.layout_of.result.bytes bytes (c.in_ok-region.ensures.place x acts m s).2
