use Rattle.std.proofs.Common.{◌≡◌, ◌+◌, ◌≤◌, ap, subst, sym, ◌∙◌, true, length, Option, Some, List, [], ℕ}
use Rattle.std.specs.Prelude.{is_some}
use Rattle.std.proofs.Props.{props}
use Rattle.std.proofs.Math.Logic.{∥∥₁_elim}
use Rattle.vd_model.specs.declared.memory.Want.{Want}
use Rattle.vd_buffers.specs.Places.{place_of}
use Rattle.vd_memory_lines.proofs.MappingLines.{info_live, room_of}
use Rattle.vd_driver_port.proofs.Stepping.{told_same, reached_after, unmap_steps, unmap_done}
use Rattle.vd_driver_port.proofs.steps.unmap.Goals as goal

test_prop : {X : Type 0} (o : Option X) → IsProp (is_some o ≡ true)
test_prop o = Prim.hlevel props

least_prop : (a b : ℕ) → IsProp (a ≤ b)
least_prop a b = Prim.hlevel props

pub end_held-requires-clause-there : goal.end_held-requires-clause-there
end_held-requires-clause-there c =
    let live = info_live _ c.in-Some.info (sym c.info.ensures ∙ c.in-Some.is) in
    ∥∥₁_elim c.requires.reached (test_prop (place_of c.args.memory.now.buffers c.in-Some.info.want.buffer)) (λ r.
    let room = room_of r.setting r.acts _ _ r.stands c.args.number live.0 live.1 in
    subst (λ (w : Want). is_some (place_of c.args.memory.now.buffers w.buffer) ≡ true) live.2 (ap is_some room.1))

pub end_held-requires-clause-range : goal.end_held-requires-clause-range
end_held-requires-clause-range c = λ bytes there.
    let live = info_live _ c.in-Some.info (sym c.info.ensures ∙ c.in-Some.is) in
    ∥∥₁_elim c.requires.reached (least_prop (c.in-Some.info.want.offset + c.in-Some.info.want.len) (length bytes)) (λ r.
    let room = room_of r.setting r.acts _ _ r.stands c.args.number live.0 live.1 in
    let at = subst (λ (w : Want). place_of c.args.memory.now.buffers w.buffer ≡ Some room.0) live.2 room.1 in
    let same : Some room.0 ≡ Some bytes = sym at ∙ there in
    let is : room.0 ≡ bytes = cc in
    subst (λ (l : List ℕ). c.in-Some.info.want.offset + c.in-Some.info.want.len ≤ length l) is (subst (λ (w : Want). w.offset + w.len ≤ length room.0) live.2 room.2))

pub returns-clause-unmapped : goal.returns-clause-unmapped
returns-clause-unmapped c =
    let live = info_live _ c.in-Some.info (sym c.info.ensures ∙ c.in-Some.is) in
    unmap_done c.args.memory.now c.end_held.new.memory c.args.pool.now c.end_held.new.pool c.args.number live.0 live.1 c.end_held.ensures.ended

pub returns-clause-told : goal.returns-clause-told
returns-clause-told c =
    let live = info_live _ c.in-Some.info (sym c.info.ensures ∙ c.in-Some.is) in
    told_same c.args.memory.now c.end_held.new.memory c.args.pool.now c.end_held.new.pool
    (unmap_steps c.args.memory.now c.end_held.new.memory c.args.pool.now c.end_held.new.pool c.args.number live.0 live.1 c.end_held.ensures.ended c.requires.reached)
    c.sees_rings.ensures c.sees_rings-2.ensures

pub returns-clause-reached : goal.returns-clause-reached
returns-clause-reached c =
    let live = info_live _ c.in-Some.info (sym c.info.ensures ∙ c.in-Some.is) in
    reached_after c.args.memory.now c.end_held.new.memory c.args.pool.now c.end_held.new.pool
    (unmap_steps c.args.memory.now c.end_held.new.memory c.args.pool.now c.end_held.new.pool c.args.number live.0 live.1 c.end_held.ensures.ended c.requires.reached)
