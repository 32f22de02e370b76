use Rattle.std.proofs.Common.{◌≡◌, ◌++◌, ap, subst, sym, ◌∙◌, List, ℕ}
use Rattle.std.specs.List.{slice_index}
use Rattle.std.specs.Option.{IfSome}
use Rattle.vd_model.specs.declared.memory.Want.{Want}
use Rattle.vd_model.specs.Acts.{Streaming}
use Rattle.vd_memory_lines.specs.Given.{given}
use Rattle.vd_memory_lines.proofs.Seams.{given_is}
use Rattle.vd_driver_port.proofs.steps.end_mapping.Goals as goal

pub returns-clause-given : goal.returns-clause-given
returns-clause-given c = λ x acts m e s j below.
    let want : m.want ≡ c.args.want.now = subst (λ o. IfSome o (λ (k : Streaming). k.want ≡ c.args.want.now)) e c.requires.live in
    let offset : c.args.want.now.offset ≡ m.want.offset = ap (λ (w : Want). w.offset) (sym want) in
    let len : c.args.want.now.len ≡ m.want.len = ap (λ (w : Want). w.len) (sym want) in
    let pre : List ℕ = c.split_at_mut-before.result.0.now in
    let mid : List ℕ = c.split_at_mut-part.result.0.now in
    let post : List ℕ = c.split_at_mut-part.result.1.now in
    given_is x.per_page acts m pre mid c.unmap-ended.new.out post (c.split_at_mut-before.ensures.front_len ∙ offset) (c.split_at_mut-part.ensures.front_len ∙ len)
    (λ f. c.unmap-ended.ensures.given x acts m e s f) (λ f. c.unmap-ended.ensures.left m e f) j
    ∙ ap (λ (l : List ℕ). given x.per_page acts m j (slice_index l j)) (sym (c.split_at_mut-before.ensures.value ∙ ap (λ (l : List ℕ). pre ++ l) c.split_at_mut-part.ensures.value))
