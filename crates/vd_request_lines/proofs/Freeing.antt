-- A buffer that no live mapping is of is freed, where it is there.
use Rattle.std.proofs.Common.{◌≡◌, ℕ, suc, ◌+◌, ◌<◌, Bool, true, false, refl, ap, ◌∙◌, sym, cond, None, List, [], ◌∷◌, ◌++◌, ◌==◌, ◌||◌, All, true≢false}
use Rattle.std.specs.List.{list_any}
use Rattle.std.proofs.lemmas.List.Elements.{All-head, All-tail, All-cons, All-nil}
use Rattle.vd_pool.specs.Memory.{PoolMemory as Pool}
use Rattle.vd_model.specs.Setting.{Setting}
use Rattle.vd_model.specs.Acts.{Act, Driver, Freed, Streaming}
use Rattle.vd_model.specs.Live.{live_mappings, buffer_len}
use Rattle.vd_model.specs.RingTurns.{free_acts}
use Rattle.vd_buffers.specs.Places.{Places}
use Rattle.vd_buffers.specs.Stands as buffers
use Rattle.vd_memory_lines.specs.declared.memory.Memory.{Memory}
use Rattle.vd_memory_lines.specs.Stands.{Stands, IsInside}
use Rattle.vd_memory_lines.proofs.Parts.{buffers_act}
use Rattle.blk_driver.specs.declared.driver.Made.{Made}
use Rattle.vd_request_lines.specs.Ended.{IsLeft}
use Rattle.vd_request_lines.proofs.Left.{free_live, none_left}

-- mappings of other buffers lie in theirs still
free_inside : (acts : List Act) (buffer : ℕ) (ms : List Streaming) → list_any (λ (m : Streaming). m.want.buffer == buffer) ms ≡ false → All (IsInside acts) ms → All (IsInside (Driver (Freed buffer) ∷ acts)) ms
free_inside acts buffer [] none all = All-nil (IsInside (Driver (Freed buffer) ∷ acts))
free_inside acts buffer (m ∷ ms) none all = by (m.want.buffer == buffer) refl (λ rest. free_inside acts buffer ms rest (All-tail (IsInside acts) m ms all)) where
  by : (t : Bool) → (m.want.buffer == buffer) ≡ t → (list_any (λ (l : Streaming). l.want.buffer == buffer) ms ≡ false → All (IsInside (Driver (Freed buffer) ∷ acts)) ms) → All (IsInside (Driver (Freed buffer) ∷ acts)) (m ∷ ms)
  by true e rest = absurd (true≢false (sym (ap (λ t. t || list_any (λ (l : Streaming). l.want.buffer == buffer) ms) e) ∙ none))
  by false e rest = All-cons (IsInside (Driver (Freed buffer) ∷ acts)) m ms here (rest (sym (ap (λ t. t || list_any (λ (l : Streaming). l.want.buffer == buffer) ms) e) ∙ none)) where
    here : IsInside (Driver (Freed buffer) ∷ acts) m
    here = (let h = All-head (IsInside acts) m ms all in
        record { some = h.some; size = h.size; there = ap (λ t. cond t None (buffer_len acts m.want.buffer)) e ∙ h.there; within = h.within })

module _ (x : Setting) (acts : List Act) (k : Memory) (m : Pool) (s : Stands x acts k m) (buffer : ℕ) (none : list_any (λ (m : Streaming). m.want.buffer == buffer) (live_mappings acts) ≡ false) where
  pub freed_there : (new : Places) → buffers.Stands x.per_page (Driver (Freed buffer) ∷ acts) new → Stands x (Driver (Freed buffer) ∷ acts) (record k { buffers = new }) m
  freed_there new stands = buffers_act x acts k m s (Driver (Freed buffer)) new refl refl stands (free_inside acts buffer (live_mappings acts) none s.inside)

-- after the first n of them another is freed
pub freed_more : (x : Setting) (acts : List Act) (made : Made) (n : ℕ) (h k : Memory) (m : Pool) → n < made.count → IsLeft acts made → Stands x (free_acts made.buffer n ++ acts) h m
    → ((acts : List Act) → Stands x acts h m → list_any (λ (m : Streaming). m.want.buffer == made.buffer + n) (live_mappings acts) ≡ false → Stands x (Driver (Freed (made.buffer + n)) ∷ acts) k m)
    → Stands x (free_acts made.buffer (suc n) ++ acts) k m
freed_more x acts made n h k m below left s free =
    free (free_acts made.buffer n ++ acts) s (ap (list_any (λ (m : Streaming). m.want.buffer == made.buffer + n)) (free_live made.buffer n acts) ∙ none_left acts made n below left)
