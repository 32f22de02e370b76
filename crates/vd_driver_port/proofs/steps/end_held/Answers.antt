use Rattle.std.proofs.Common.{◌≡◌, ap, subst, sym, ◌∙◌, Some, None, List, ℕ}
use Rattle.std.specs.Prelude.{slice_set}
use Rattle.std.specs.Option.{IfSome}
use Rattle.std.proofs.lemmas.List.{set-set}
use Rattle.vd_model.specs.Acts.{Streaming}
use Rattle.vd_buffers.specs.Places.{Places}
use Rattle.vd_memory_lines.proofs.Seams.{refilled}
use Rattle.vd_driver_port.proofs.Stepping.{given_back, unmapped}
use Rattle.vd_driver_port.proofs.steps.end_held.Goals as goal

pub end_mapping-requires-clause-range : goal.end_mapping-requires-clause-range
end_mapping-requires-clause-range c = c.requires.range c.deref_mut.result.now (c.lend-bytes.ensures.bytes ∙ ap Some (sym c.deref_mut.ensures.value))

pub returns-clause-ended : goal.returns-clause-ended
returns-clause-ended c = λ x acts m e s.
    let want : m.want ≡ c.args.want.now = subst (λ o. IfSome o (λ (k : Streaming). k.want ≡ c.args.want.now)) e c.requires.live in
    let gave : c.give.new.self ≡ slice_set c.args.memory.now.buffers c.args.want.now.buffer (Some c.end_mapping.new.bytes) =
    c.give.ensures
    ∙ ap (λ (l : List ℕ). slice_set c.lend-bytes.new.self c.args.want.now.buffer (Some l)) (refilled c.lend-bytes.result.len c.end_mapping.new.bytes c.lend-bytes.result.items (c.end_mapping.ensures.len ∙ c.deref_mut.ensures.len))
    ∙ ap (λ (places : Places). slice_set places c.args.want.now.buffer (Some c.end_mapping.new.bytes)) c.lend-bytes.ensures.rest
    ∙ set-set c.args.memory.now.buffers c.args.want.now.buffer None (Some c.end_mapping.new.bytes) in
    unmapped x acts c.args.memory.now c.args.pool.now s c.args.number m c.end_mapping.new.domain c.give.new.self c.end_mapping.new.pool (c.end_mapping.ensures.ok x acts m e s.domain)
    (given_back x acts c.args.memory.now c.args.pool.now s m c.args.want.now want c.deref_mut.result.now c.end_mapping.new.bytes (c.lend-bytes.ensures.bytes ∙ ap Some (sym c.deref_mut.ensures.value))
    c.end_mapping.ensures.len (c.end_mapping.ensures.given x acts m e s.domain) c.give.new.self gave)
