use Rattle.std.proofs.Common.{◌≡◌, ◌+◌, ◌≤◌, refl, ap, subst, sym, ◌∙◌, true, length, Some, None, List, ◌∷◌, ℕ}
use Rattle.std.specs.Prelude.{is_some, slice_set}
use Rattle.std.proofs.lemmas.List.{set-set}
use Rattle.vd_model.specs.declared.memory.Want.{Want}
use Rattle.vd_model.specs.Acts.{Driver, Unmapped}
use Rattle.vd_buffers.specs.Places.{Places, place_of}
use Rattle.vd_buffers.specs.Stands as buffers
use Rattle.vd_memory_lines.proofs.Seams.{refilled}
use Rattle.vd_memory_lines.proofs.MappingLines.{info_live, room_of, unmapped, fetches}
use Rattle.vd_memory_lines.proofs.memory.Memory.unmap.Goals as goal

pub lend-bytes-requires : goal.lend-bytes-requires
lend-bytes-requires g c =
    let r = c.requires.reached in
    let live = info_live _ c.in-Some.info (sym c.info.ensures ∙ c.in-Some.is) in
    let room = room_of r.setting r.acts _ _ r.stands c.args.number live.0 live.1 in
    subst (λ (w : Want). is_some (place_of c.args.self.now.buffers w.buffer) ≡ true) live.2 (ap is_some room.1)

pub end_mapping-requires-clause-range : goal.end_mapping-requires-clause-range
end_mapping-requires-clause-range g c =
    let r = c.requires.reached in
    let live = info_live _ c.in-Some.info (sym c.info.ensures ∙ c.in-Some.is) in
    let room = room_of r.setting r.acts _ _ r.stands c.args.number live.0 live.1 in
    let at = subst (λ (w : Want). place_of c.args.self.now.buffers w.buffer ≡ Some room.0) live.2 room.1 in
    let same : Some room.0 ≡ Some c.lend-bytes.result.items = sym at ∙ c.lend-bytes.ensures.bytes in
    let is : room.0 ≡ c.lend-bytes.result.items = cc in
    let h = subst (λ (w : Want). w.offset + w.len ≤ length room.0) live.2 room.2 in
    subst (λ (l : List ℕ). c.in-Some.info.want.offset + c.in-Some.info.want.len ≤ length l) (is ∙ sym c.deref_mut.ensures.value) h

pub returns-clause-line : goal.returns-clause-line
returns-clause-line g c = λ x acts s.
    let live = info_live _ c.in-Some.info (sym c.info.ensures ∙ c.in-Some.is) in
    let there : place_of c.args.self.now.buffers live.0.want.buffer ≡ Some c.deref_mut.result.now =
    subst (λ (w : Want). place_of c.args.self.now.buffers w.buffer ≡ Some c.deref_mut.result.now) (sym live.2) (c.lend-bytes.ensures.bytes ∙ ap Some (sym c.deref_mut.ensures.value)) in
    let kept = fetches x.per_page acts c.args.self.now.buffers s.buffers live.0 (Unmapped live.0) c.deref_mut.result.now c.end_mapping.new.bytes
    (record { count = refl; lens = λ k. refl; total = refl; puts = λ k i. refl }) there c.end_mapping.ensures.len (c.end_mapping.ensures.given x acts live.0 live.1 s.domain) in
    let gave : c.give.new.self ≡ slice_set c.args.self.now.buffers live.0.want.buffer (Some c.end_mapping.new.bytes) =
    c.give.ensures
    ∙ ap (λ (l : List ℕ). slice_set c.lend-bytes.new.self c.in-Some.info.want.buffer (Some l)) (refilled c.lend-bytes.result.len c.end_mapping.new.bytes c.lend-bytes.result.items (c.end_mapping.ensures.len ∙ c.deref_mut.ensures.len))
    ∙ ap (λ (places : Places). slice_set places c.in-Some.info.want.buffer (Some c.end_mapping.new.bytes)) c.lend-bytes.ensures.rest
    ∙ set-set c.args.self.now.buffers c.in-Some.info.want.buffer None (Some c.end_mapping.new.bytes)
    ∙ ap (λ (w : Want). slice_set c.args.self.now.buffers w.buffer (Some c.end_mapping.new.bytes)) (sym live.2) in
    unmapped x acts c.args.self.now c.args.pool.now s c.args.number _ live.0 c.end_mapping.new.domain c.give.new.self c.end_mapping.new.pool live.1 c.done.ensures
    (c.end_mapping.ensures.ok x acts live.0 live.1 s.domain)
    (subst (λ (places : Places). buffers.Stands x.per_page (Driver (Unmapped live.0) ∷ acts) places) (sym gave) kept)
