use Rattle.std.proofs.Common.{◌≡◌, ◌++◌, ap, subst, sym, ◌∙◌, refl, List, ℕ, Result, Ok, Err, OnOk, Option, None, Some, true, true≢false}
use Rattle.std.specs.List.{slice_index}
use Rattle.std.specs.Option.{IfSome}
use Rattle.vd_model.specs.declared.memory.Want.{Want}
use Rattle.vd_model.specs.Acts.{Streaming}
use Rattle.vd_model.specs.Live.{iova_of}
use Rattle.vd_model.specs.Puts.{is_from_device, bus_bytes}
use Rattle.vd_domain.specs.declared.domain.SyncError.{SyncError}
use Rattle.vd_domain.specs.declared.domain.SyncError.TheVariants.{NotLive, WrongDir}
use Rattle.vd_memory_lines.specs.Given.{given}
use Rattle.vd_memory_lines.proofs.Seams.{given_is}
use Rattle.vd_memory_lines.proofs.mappings.fetch.Goals as goal

-- a synchronization that isn't refused is done
done_of : (P : Type 0) (r : Result (Unit {0}) SyncError) → (r ≡ Err NotLive → ⊥) → (r ≡ Err WrongDir → ⊥) → OnOk r P → P
done_of P (Ok u) live way h = h
done_of P (Err NotLive) live way h = absurd (live refl)
done_of P (Err WrongDir) live way h = absurd (way refl)

no_mapping : {o : Option Streaming} (m : Streaming) → o ≡ Some m → o ≡ None → ⊥
no_mapping m e f = (let both = sym e ∙ f in cc)

pub returns-clause-given : goal.returns-clause-given
returns-clause-given c = λ x acts m e s j below.
    let want : m.want ≡ c.args.want.now = subst (λ o. IfSome o (λ (k : Streaming). k.want ≡ c.args.want.now)) e c.requires.live in
    let way : is_from_device m.want.dir ≡ true = ap (λ (w : Want). is_from_device w.dir) want ∙ c.requires.way in
    let offset : c.args.want.now.offset ≡ m.want.offset = ap (λ (w : Want). w.offset) (sym want) in
    let len : c.args.want.now.len ≡ m.want.len = ap (λ (w : Want). w.len) (sym want) in
    let pre : List ℕ = c.split_at_mut-before.result.0.now in
    let mid : List ℕ = c.split_at_mut-part.result.0.now in
    let post : List ℕ = c.split_at_mut-part.result.1.now in
    let got = done_of (c.sync_cpu-synced.new.out ≡ bus_bytes x.per_page acts (iova_of m) m.want.len) c.sync_cpu-synced.result (λ f. no_mapping m e (c.sync_cpu-synced.ensures.not_live.0 f)) (λ f. true≢false (sym way ∙ (c.sync_cpu-synced.ensures.wrong m e).0 f)) (c.sync_cpu-synced.ensures.given x acts m e s) in
    given_is x.per_page acts m pre mid c.sync_cpu-synced.new.out post (c.split_at_mut-before.ensures.front_len ∙ offset) (c.split_at_mut-part.ensures.front_len ∙ len)
    (λ f. got) (λ f. absurd (true≢false (sym way ∙ f))) j
    ∙ ap (λ (l : List ℕ). given x.per_page acts m j (slice_index l j)) (sym (c.split_at_mut-before.ensures.value ∙ ap (λ (l : List ℕ). pre ++ l) c.split_at_mut-part.ensures.value))
