use Rattle.std.proofs.Common.{◌≡◌, Some, subst, sym, ◌∙◌}
use Rattle.vd_model.specs.declared.memory.Want.{Want}
use Rattle.vd_model.specs.Live.{buffer_len}
use Rattle.vd_model.specs.Turn.{range_refusal}
use Rattle.vd_domain.specs.Handed.{IsOf}
use Rattle.vd_memory_lines.proofs.MappingLines.{info_live, synced, mapping_allowed, way_is}
use Rattle.vd_memory_lines.proofs.memory.Memory.syncdev.Goals as goal

pub returns-in-Ok-sync_device-clause-line : goal.returns-in-Ok-sync_device-clause-line
returns-in-Ok-sync_device-clause-line g c = λ x acts s.
    let live = info_live _ c.in-Some.info (sym c.info.ensures ∙ c.in-Some.is) in
    let text : IsOf x.per_page acts live.0.want c.in-Ok.bytes.now = subst (λ (w : Want). IsOf x.per_page acts w c.in-Ok.bytes.now) (sym live.2) ((c.in-Ok.ensures.bytes x.per_page acts s.buffers).1) in
    synced x acts c.args.self.now c.args.pool.now s c.args.number _ live.0 c.sync_device.new.self c.sync_device.new.pool live.1 (way_is _ (λ e. let bad = (c.in-Ok-sync_device.ensures.wrong live.0 live.1).1 e in cc)) c.done.ensures
    (c.in-Ok-sync_device.ensures.ok x acts live.0 live.1 s.domain text)

pub returns-in-Err-clause-line : goal.returns-in-Err-clause-line
returns-in-Err-clause-line g c = λ x acts s.
    let live = info_live _ c.in-Some.info (sym c.info.ensures ∙ c.in-Some.is) in
    let refused : range_refusal (buffer_len acts live.0.want.buffer) live.0.want.offset live.0.want.len ≡ Some c.in-Err.errno =
    subst (λ (w : Want). range_refusal (buffer_len acts w.buffer) w.offset w.len ≡ Some c.in-Err.errno) (sym live.2) (c.in-Err.ensures.bytes x.per_page acts s.buffers) in
    let none = mapping_allowed x acts c.args.self.now c.args.pool.now s c.args.number live.0 live.1 in
    let both = sym none ∙ refused in
    absurd (cc)
