use Rattle.std.proofs.Common.{◌≡◌, ◌+◌, ◌≤◌, refl, ap, subst, sym, ◌∙◌, true, false, arith, length, Some, None, List, ◌∷◌, ℕ}
use Rattle.std.specs.Prelude.{is_some, slice_set}
use Rattle.std.proofs.lemmas.Grind.{common_steps}
use Rattle.std.proofs.lemmas.List.{set-set}
use Rattle.vd_model.specs.declared.memory.Want.{Want}
use Rattle.vd_model.specs.Acts.{Driver, Synced_cpu}
use Rattle.vd_model.specs.Puts.{is_from_device}
use Rattle.vd_buffers.specs.Places.{Places, place_of}
use Rattle.vd_buffers.specs.Stands as buffers
use Rattle.vd_memory_lines.proofs.Seams.{refilled}
use Rattle.vd_memory_lines.proofs.MappingLines.{info_live, room_of, fetched, fetches, wrong_way}
use Rattle.vd_memory_lines.proofs.memory.Memory.synccpu.Goals as goal

pub lend-bytes-requires : goal.lend-bytes-requires
lend-bytes-requires g c =
    let r = c.requires.reached in
    let live = info_live _ c.in-Some.info (sym c.info.ensures ∙ c.in-Some.is) in
    let room = room_of r.setting r.acts _ _ r.stands c.args.number live.0 live.1 in
    subst (λ (w : Want). is_some (place_of c.args.self.now.buffers w.buffer) ≡ true) live.2 (ap is_some room.1)

pub fetch-requires-clause-range : goal.fetch-requires-clause-range
fetch-requires-clause-range g c =
    let r = c.requires.reached in
    let live = info_live _ c.in-Some.info (sym c.info.ensures ∙ c.in-Some.is) in
    let room = room_of r.setting r.acts _ _ r.stands c.args.number live.0 live.1 in
    let at = subst (λ (w : Want). place_of c.args.self.now.buffers w.buffer ≡ Some room.0) live.2 room.1 in
    let same : Some room.0 ≡ Some c.lend-bytes.result.items = sym at ∙ c.lend-bytes.ensures.bytes in
    let is : room.0 ≡ c.lend-bytes.result.items = cc in
    let h = subst (λ (w : Want). w.offset + w.len ≤ length room.0) live.2 room.2 in
    subst (λ (l : List ℕ). c.in-Some.info.want.offset + c.in-Some.info.want.len ≤ length l) (is ∙ sym c.deref_mut.ensures.value) h

pub returns-clause-line : goal.returns-clause-line
returns-clause-line g c = λ x acts s.
    let live = info_live _ c.in-Some.info (sym c.info.ensures ∙ c.in-Some.is) in
    let on : c.is_from_device.result ≡ true = grind (arith, common_steps) in
    let way : is_from_device live.0.want.dir ≡ true = ap (λ (w : Want). is_from_device w.dir) live.2 ∙ sym c.is_from_device.ensures ∙ on in
    let there : place_of c.args.self.now.buffers live.0.want.buffer ≡ Some c.deref_mut.result.now =
    subst (λ (w : Want). place_of c.args.self.now.buffers w.buffer ≡ Some c.deref_mut.result.now) (sym live.2) (c.lend-bytes.ensures.bytes ∙ ap Some (sym c.deref_mut.ensures.value)) in
    let kept = fetches x.per_page acts c.args.self.now.buffers s.buffers live.0 (Synced_cpu live.0) c.deref_mut.result.now c.fetch.new.bytes
    (record { count = refl; lens = λ k. refl; total = refl; puts = λ k i. refl }) there c.fetch.ensures.len (c.fetch.ensures.given x acts live.0 live.1 s.domain) in
    let gave : c.give.new.self ≡ slice_set c.args.self.now.buffers live.0.want.buffer (Some c.fetch.new.bytes) =
    c.give.ensures
    ∙ ap (λ (l : List ℕ). slice_set c.lend-bytes.new.self c.in-Some.info.want.buffer (Some l)) (refilled c.lend-bytes.result.len c.fetch.new.bytes c.lend-bytes.result.items (c.fetch.ensures.len ∙ c.deref_mut.ensures.len))
    ∙ ap (λ (places : Places). slice_set places c.in-Some.info.want.buffer (Some c.fetch.new.bytes)) c.lend-bytes.ensures.rest
    ∙ set-set c.args.self.now.buffers c.in-Some.info.want.buffer None (Some c.fetch.new.bytes)
    ∙ ap (λ (w : Want). slice_set c.args.self.now.buffers w.buffer (Some c.fetch.new.bytes)) (sym live.2) in
    fetched x acts c.args.self.now c.args.pool.now s c.args.number _ live.0 c.fetch.new.domain c.give.new.self c.fetch.new.pool live.1 way c.done.ensures
    (c.fetch.ensures.ok x acts live.0 live.1 s.domain)
    (subst (λ (places : Places). buffers.Stands x.per_page (Driver (Synced_cpu live.0) ∷ acts) places) (sym gave) kept)

pub returns-then-not-is_from_device-clause-line : goal.returns-then-not-is_from_device-clause-line
returns-then-not-is_from_device-clause-line g c = λ x acts s.
    let live = info_live _ c.in-Some.info (sym c.info.ensures ∙ c.in-Some.is) in
    let off : c.is_from_device.result ≡ false = grind (arith, common_steps) in
    let way : is_from_device live.0.want.dir ≡ false = ap (λ (w : Want). is_from_device w.dir) live.2 ∙ sym c.is_from_device.ensures ∙ off in
    wrong_way x acts c.args.self.now c.args.pool.now s c.args.number _ live.0 live.1 way c.refused-then-not-is_from_device.ensures
