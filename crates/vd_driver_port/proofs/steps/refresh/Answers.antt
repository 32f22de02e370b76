use Rattle.std.proofs.Common.{◌≡◌, Some, None, subst, sym, ◌∙◌}
use Rattle.vd_model.specs.declared.memory.Want.{Want}
use Rattle.vd_model.specs.Live.{buffer_len}
use Rattle.vd_model.specs.Turn.{range_refusal}
use Rattle.vd_domain.specs.Held.{mapping_of}
use Rattle.vd_domain.specs.Handed.{IsOf}
use Rattle.vd_memory_lines.proofs.MappingLines.{info_live, mapping_allowed}
use Rattle.vd_driver_port.proofs.Mapping.{done_of, sync_steps}
use Rattle.vd_driver_port.proofs.Stepping.{told_same, reached_after, refreshed, live_is, info_of}
use Rattle.vd_driver_port.proofs.steps.refresh.Goals as goal

pub returns-in-Ok-clause-refreshed : goal.returns-in-Ok-clause-refreshed
returns-in-Ok-clause-refreshed c = λ x acts m s e way.
    let is : mapping_of c.args.memory.now.domain c.args.number ≡ Some m = live_is x acts c.args.memory.now c.args.pool.now s c.args.number ∙ e in
    let want : m.want ≡ c.in-Some.info.want = info_of _ m c.in-Some.info is (sym c.info.ensures ∙ c.in-Some.is) in
    let text : IsOf x.per_page acts m.want c.in-Ok.bytes.now = subst (λ (w : Want). IsOf x.per_page acts w c.in-Ok.bytes.now) (sym want) ((c.in-Ok.ensures.bytes x.per_page acts s.buffers).1) in
    let d = c.sync_device-synced.ensures in
    refreshed x acts c.args.memory.now c.args.pool.now s c.args.number m c.sync_device-synced.new.self c.sync_device-synced.new.pool
    (done_of _ c.sync_device-synced.result (λ bad. let none = d.not_live.0 bad in let both : None ≡ Some m = sym none ∙ is in absurd (cc)) (λ bad. let wrong = (d.wrong m is).0 bad in absurd (cc)) (d.ok x acts m is s.domain text))

pub returns-in-Ok-clause-told : goal.returns-in-Ok-clause-told
returns-in-Ok-clause-told c =
    let live = info_live _ c.in-Some.info (sym c.info.ensures ∙ c.in-Some.is) in
    let d = c.sync_device-synced.ensures in
    told_same c.args.memory.now _ c.args.pool.now c.sync_device-synced.new.pool
    (sync_steps c.args.memory.now c.args.pool.now c.args.number live.0 live.1 c.sync_device-synced.new.self c.sync_device-synced.new.pool c.sync_device-synced.result c.requires.reached
    (λ x acts s. d.ok x acts live.0 live.1 s.domain (subst (λ (w : Want). IsOf x.per_page acts w c.in-Ok.bytes.now) (sym live.2) ((c.in-Ok.ensures.bytes x.per_page acts s.buffers).1))) d.err)
    c.sees_rings.ensures c.sees_rings-in-Ok.ensures

pub returns-in-Ok-clause-reached : goal.returns-in-Ok-clause-reached
returns-in-Ok-clause-reached c =
    let live = info_live _ c.in-Some.info (sym c.info.ensures ∙ c.in-Some.is) in
    let d = c.sync_device-synced.ensures in
    reached_after c.args.memory.now _ c.args.pool.now c.sync_device-synced.new.pool
    (sync_steps c.args.memory.now c.args.pool.now c.args.number live.0 live.1 c.sync_device-synced.new.self c.sync_device-synced.new.pool c.sync_device-synced.result c.requires.reached
    (λ x acts s. d.ok x acts live.0 live.1 s.domain (subst (λ (w : Want). IsOf x.per_page acts w c.in-Ok.bytes.now) (sym live.2) ((c.in-Ok.ensures.bytes x.per_page acts s.buffers).1))) d.err)

pub returns-in-Err-clause-refreshed : goal.returns-in-Err-clause-refreshed
returns-in-Err-clause-refreshed c = λ x acts m s e way.
    let is : mapping_of c.args.memory.now.domain c.args.number ≡ Some m = live_is x acts c.args.memory.now c.args.pool.now s c.args.number ∙ e in
    let want : m.want ≡ c.in-Some.info.want = info_of _ m c.in-Some.info is (sym c.info.ensures ∙ c.in-Some.is) in
    let refused : range_refusal (buffer_len acts m.want.buffer) m.want.offset m.want.len ≡ Some c.in-Err.field-0 =
    subst (λ (w : Want). range_refusal (buffer_len acts w.buffer) w.offset w.len ≡ Some c.in-Err.field-0) (sym want) (c.in-Err.ensures.bytes x.per_page acts s.buffers) in
    let none = mapping_allowed x acts c.args.memory.now c.args.pool.now s c.args.number m is in
    let both = sym none ∙ refused in
    absurd (cc)
