use Rattle.std.proofs.Common.{◌≡◌, ◌*◌, ℕ, Some, refl, rules, ap, sym, subst, ◌∙◌}
use Rattle.byteorder.specs.Endian.{little_bytes}
use Rattle.vd_model.specs.Memory.{Memory, written}
use Rattle.vd_model.specs.Rings.{available_slot_at}
use Rattle.vd_model.specs.declared.queue.RingPlace.{RingPlace}
use Rattle.vr_split.specs.Reach.{Reaches, RingInReach}
use Rattle.vr_split.specs.ReachLemmas.{ring_still, available_slot-reached}
use Rattle.vr_driver.specs.Side.{DriverSide, next_head}
use Rattle.vr_driver.specs.Driver.{with_descriptor, with_table}
use Rattle.vr_driver.proofs.ring.DriverRing.add_indirect.Goals as goal

pub store16_in_reach-requires : goal.store16_in_reach-requires
store16_in_reach-requires g c =
    let place : c.self-2.inside.place ≡ c.args.self.now.place = ap (λ (s : DriverSide). s.place) (c.self-2.view_is ∙ c.place_table-head.ensures.side) in
    let still = ring_still c.place_table-head.ensures.memory c.args.self.now.place c.requires.in_reach in
    let ring = subst (λ (p : RingPlace). RingInReach (g.M.Mem.told c.place_table-head.new.mem) (g.M.Mem.span c.place_table-head.new.mem) p) (sym place) still in
    subst (λ (a : ℕ). Reaches (g.M.Mem.told c.place_table-head.new.mem) (g.M.Mem.span c.place_table-head.new.mem) a 2) (sym c.available_slot.ensures)
    (available_slot-reached (g.M.Mem.told c.place_table-head.new.mem) (g.M.Mem.span c.place_table-head.new.mem) c.self-2.inside.place (g.met.M.Mem.told_ends c.place_table-head.new.mem) (g.met.M.Mem.span_ends c.place_table-head.new.mem) c.self-2.invariant.3 c.self-2.inside.added ring.driver)

-- what stands after a table is placed and its head is stored
table_written : (m : Memory) (s : DriverSide) (table count head flags slot : ℕ) → head ≡ next_head s 1 → flags ≡ 4 → slot ≡ available_slot_at s.place s.added
    → Some (written (with_descriptor m s.place head (record { at = table; len = 16 * count; flags = flags; next = 0 })) slot (little_bytes 2 head)) ≡ Some (with_table m s table count)
table_written m s table count head flags slot h f e = rw (e, f, h) refl

pub returns-clause-written : goal.returns-clause-written
returns-clause-written g c m told =
    let side = c.self-2.view_is ∙ c.place_table-head.ensures.side in
    let one = c.store16_in_reach.ensures.stored _ (c.place_table-head.ensures.written m told) in
    let slot : c.available_slot.result ≡ available_slot_at c.args.self.now.place c.args.self.now.added = c.available_slot.ensures ∙ ap (λ (s : DriverSide). available_slot_at s.place s.added) side in
    let flags : c.bits.result ≡ 4 = search rules in
    one ∙ table_written m c.args.self.now c.args.table c.args.count _ _ _ c.place_table-head.ensures.head flags slot
