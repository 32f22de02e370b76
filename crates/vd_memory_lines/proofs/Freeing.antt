-- The line that frees a buffer.
use Rattle.std.proofs.Common.{◌≡◌, ℕ, Bool, true, false, refl, ap, ◌∙◌, sym, cond, not, None, is_some, List, [], ◌∷◌, ◌++◌, ◌==◌, ◌||◌, All, true≢false}
use Rattle.std.specs.List.{list_any}
use Rattle.std.proofs.lemmas.List.Elements.{All-head, All-tail, All-cons, All-nil}
use Rattle.vd_num.specs.declared.errno.Errno.TheVariants.{Noent, Busy}
use Rattle.vd_pool.specs.Memory.{PoolMemory as Pool}
use Rattle.vd_model.specs.declared.answer.Answer.{Answer}
use Rattle.vd_model.specs.declared.answer.Answer.TheVariants as answer
use Rattle.vd_model.specs.Setting.{Setting}
use Rattle.vd_model.specs.Acts.{Act, Driver, Freed, Streaming}
use Rattle.vd_model.specs.Live.{live_mappings, buffer_len}
use Rattle.vd_model.specs.Turn.{lift, refuse, refusal_if, done_with}
use Rattle.vd_model.specs.DriverTurns.{free_turn}
use Rattle.vd_buffers.specs.Places.{Places, len_of}
use Rattle.vd_buffers.specs.Stands as buffers
use Rattle.vd_answers.specs.Tells.{Tells}
use Rattle.vd_answers.proofs.Telling.{tells_by}
use Rattle.vd_memory_lines.specs.declared.memory.Memory.{Memory}
use Rattle.vd_memory_lines.specs.Stands.{Stands, IsInside}
use Rattle.vd_memory_lines.proofs.Parts.{buffers_act}

-- mappings of other buffers lie in theirs still
pub free_inside : (acts : List Act) (buffer : ℕ) (ms : List Streaming) → list_any (λ (m : Streaming). m.want.buffer == buffer) ms ≡ false → All (IsInside acts) ms → All (IsInside (Driver (Freed buffer) ∷ acts)) ms
free_inside acts buffer [] none all = All-nil (IsInside (Driver (Freed buffer) ∷ acts))
free_inside acts buffer (m ∷ ms) none all = by (m.want.buffer == buffer) refl (λ rest. free_inside acts buffer ms rest (All-tail (IsInside acts) m ms all)) where
  by : (t : Bool) → (m.want.buffer == buffer) ≡ t → (list_any (λ (l : Streaming). l.want.buffer == buffer) ms ≡ false → All (IsInside (Driver (Freed buffer) ∷ acts)) ms) → All (IsInside (Driver (Freed buffer) ∷ acts)) (m ∷ ms)
  by true e rest = absurd (true≢false (sym (ap (λ t. t || list_any (λ (l : Streaming). l.want.buffer == buffer) ms) e) ∙ none))
  by false e rest = All-cons (IsInside (Driver (Freed buffer) ∷ acts)) m ms here (rest (sym (ap (λ t. t || list_any (λ (l : Streaming). l.want.buffer == buffer) ms) e) ∙ none)) where
    here : IsInside (Driver (Freed buffer) ∷ acts) m
    here = (let h = All-head (IsInside acts) m ms all in
        record { some = h.some; size = h.size; there = ap (λ t. cond t None (buffer_len acts m.want.buffer)) e ∙ h.there; within = h.within })

module _ (x : Setting) (acts : List Act) (k : Memory) (m : Pool) (s : Stands x acts k m) (heard : Answer → Type 0) (buffer : ℕ) where
  turn_is : (there used : Bool) → is_some (len_of k.buffers buffer) ≡ there → list_any (λ (m : Streaming). m.want.buffer == buffer) k.domain.live ≡ used
      → lift Driver (free_turn acts buffer) ≡ lift Driver (refuse (refusal_if (not there) Noent) (refuse (refusal_if used Busy) (done_with [] (Freed buffer ∷ []))))
  turn_is there used e f =
      ap (λ t. lift Driver (refuse (refusal_if (not t) Noent) (refuse (refusal_if (list_any (λ (m : Streaming). m.want.buffer == buffer) (live_mappings acts)) Busy) (done_with [] (Freed buffer ∷ [])))))
      (ap is_some (sym (s.buffers.lens buffer)) ∙ e)
      ∙ ap (λ t. lift Driver (refuse (refusal_if (not there) Noent) (refuse (refusal_if t Busy) (done_with [] (Freed buffer ∷ [])))))
      (ap (λ (l : List Streaming). list_any (λ (m : Streaming). m.want.buffer == buffer) l) (sym s.domain.live) ∙ f)

  pub not_there : is_some (len_of k.buffers buffer) ≡ false → heard (answer.Err Noent) → Tells heard (lift Driver (free_turn acts buffer)) (λ more. Stands x (more ++ acts) k m)
  not_there e h = tells_by (turn_is false (list_any (λ (m : Streaming). m.want.buffer == buffer) k.domain.live) e refl) refl h s

  pub in_use : is_some (len_of k.buffers buffer) ≡ true → list_any (λ (m : Streaming). m.want.buffer == buffer) k.domain.live ≡ true → heard (answer.Err Busy)
      → Tells heard (lift Driver (free_turn acts buffer)) (λ more. Stands x (more ++ acts) k m)
  in_use e f h = tells_by (turn_is true true e f) refl h s

  pub freed : (new : Places) → is_some (len_of k.buffers buffer) ≡ true → list_any (λ (m : Streaming). m.want.buffer == buffer) k.domain.live ≡ false → heard (answer.Done [])
      → buffers.Stands x.per_page (Driver (Freed buffer) ∷ acts) new → Tells heard (lift Driver (free_turn acts buffer)) (λ more. Stands x (more ++ acts) (record k { buffers = new }) m)
  freed new e f h stands = tells_by (turn_is true false e f) refl h (buffers_act x acts k m s (Driver (Freed buffer)) new refl refl stands
      (free_inside acts buffer (live_mappings acts) (ap (λ (l : List Streaming). list_any (λ (m : Streaming). m.want.buffer == buffer) l) (sym s.domain.live) ∙ f) s.inside))
