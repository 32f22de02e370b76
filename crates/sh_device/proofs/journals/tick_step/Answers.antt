use Rattle.std.proofs.Common.{◌≡◌, ◌-◌, ◌++◌, ◌∷◌, [], List, length, length-append, max, arith, refl, ap, ◌∙◌}
use Rattle.sh_parts.specs.declared.entry.Entry.{Entry}
use Rattle.sh_parts.specs.declared.entry.Entry.TheVariants as entry
use Rattle.sh_parts.specs.declared.entry.MessageStep.TheVariants as asks
use Rattle.sh_parts.specs.declared.entry.MessageAnswer.{MessageAnswer}
use Rattle.sh_parts.specs.declared.entry.MessageAnswer.TheVariants as tells
use Rattle.sh_parts.specs.Journals.{NoteView, StateView}
use Rattle.sh_device.proofs.journals.tick_step.Goals as goal

pub returns : goal.returns
returns g c =
    let before : List Entry = c.deref_mut-state.result.now.entries in
    let moment = c.max-moment.result in
    let done : c.in_ok-value.value ≡ tells.Done = c.in_ok-value.ensures.answer in
    let all : c.apply.new.self.entries ≡ before ++ entry.Message asks.Tick moment tells.Done ∷ [] =
    ap (λ (s : StateView). s.entries) c.in_ok-value.ensures.entry ∙ ap (λ (a : MessageAnswer). before ++ entry.Message asks.Tick moment a ∷ []) done in
    let place : length c.apply.new.self.entries - 1 ≡ length before = ap (λ (l : List Entry). length l - 1) all ∙ omega (arith, length-append before (entry.Message asks.Tick moment tells.Done ∷ [])) in
    record {
      noted = record {
        before = before;
        moment = moment;
        entries = ap (λ (n : NoteView). n.entries) c.note.ensures.note ∙ all;
        place = ap (λ (n : NoteView). n.place) c.note.ensures.note ∙ place;
        kind = ap (λ (n : NoteView). n.kind) c.note.ensures.note;
        on_time = omega (arith, c.max-moment.ensures, c.now.ensures.last);
        right = refl;
      };
      moment = c.max-moment.ensures ∙ ap (λ n. max c.args.now n) c.now.ensures.last;
    }
