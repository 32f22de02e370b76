-- The lines on buffers.
use Rattle.std.proofs.Common.{◌≡◌, ℕ, zero, suc, ◌+◌, ◌<◌, ◌≤◌, false, cond, refl, ap, subst, ◌∙◌, sym, arith, None, Some, Result, Ok, Err, MatchResult, OnErr, List, [], ◌∷◌, ◌++◌, ◌==◌, length, nat_lt}
use Rattle.std.proofs.lemmas.Bool.Decides.{nat_tests}
use Rattle.vd_num.specs.declared.errno.Errno.{Errno}
use Rattle.vd_num.specs.declared.errno.Errno.TheVariants.{Nospc}
use Rattle.vd_pool.specs.Memory.{PoolMemory as Pool}
use Rattle.vd_model.specs.declared.answer.Answer.{Answer}
use Rattle.vd_model.specs.declared.answer.Answer.TheVariants as answer
use Rattle.vd_model.specs.declared.answer.Item.TheVariants.{Number}
use Rattle.vd_model.specs.Setting.{Setting}
use Rattle.vd_model.specs.Acts.{Act, Driver, DriverAct, Buffer, Zeroed, Poked}
use Rattle.vd_model.specs.Live.{live_mappings, buffers, buffer_len, buffers_len}
use Rattle.vd_model.specs.Turn.{lift, refuse, refusal_if, done_with, range_refusal}
use Rattle.vd_model.specs.DriverTurns.{buffer_limit, buf_turn, zeros_turn, poke_turn}
use Rattle.vd_buffers.specs.Places.{Places, len_of, total_of}
use Rattle.vd_buffers.specs.Stands as buffers
use Rattle.vd_answers.specs.Tells.{Tells, answer_of}
use Rattle.vd_answers.proofs.Telling.{tells_by}
use Rattle.vd_memory_lines.specs.declared.memory.Memory.{Memory}
use Rattle.vd_memory_lines.specs.Stands.{Stands}
use Rattle.vd_memory_lines.proofs.Parts.{stay_inside, buffers_act}

-- a buffer that is there was made
there_below : (places : Places) (b size : ℕ) → len_of places b ≡ Some size → b < length places
there_below [] b size e = cc
there_below (p ∷ ps) zero size e = omega arith
there_below (p ∷ ps) (suc b) size e = let below = there_below ps b size e in omega arith

module _ (x : Setting) (acts : List Act) (k : Memory) (m : Pool) (s : Stands x acts k m) (heard : Answer → Type 0) where
  -- a new buffer is none of those that are there
  is_other : (b size : ℕ) → buffer_len acts b ≡ Some size → (b == buffers acts) ≡ false
  is_other b size e = (let below = there_below k.buffers b size (s.buffers.lens b ∙ e) in let count = s.buffers.count in grind (arith, nat_tests))

  -- there is room for a buffer of so many bytes
  has_room : (len : ℕ) → total_of k.buffers + len ≤ buffer_limit → nat_lt buffer_limit (buffers_len acts + len) ≡ false
  has_room len fits = (let total = s.buffers.total in grind (arith, nat_tests))

  added : (len number : ℕ) (act : DriverAct) (new : Memory) → nat_lt buffer_limit (buffers_len acts + len) ≡ false → number ≡ buffers acts → heard (answer.Done (Number number ∷ [])) → Stands x (Driver act ∷ acts) new m
      → Tells heard (lift Driver (refuse (refusal_if (nat_lt buffer_limit (buffers_len acts + len)) Nospc) (done_with (Number (buffers acts) ∷ []) (act ∷ [])))) (λ more. Stands x (more ++ acts) new m)
  added len number act new e f h stands =
      tells_by (ap (λ t. lift Driver (refuse (refusal_if t Nospc) (done_with (Number (buffers acts) ∷ []) (act ∷ [])))) e) (ap (λ n. answer.Done (Number n ∷ [])) f) h stands

  pub buf_made : (bytes : List ℕ) (number : ℕ) (new : Places) → total_of k.buffers + length bytes ≤ buffer_limit → heard (answer.Done (Number number ∷ []))
      → (number ≡ buffers acts) × buffers.Stands x.per_page (Driver (Buffer bytes) ∷ acts) new → Tells heard (lift Driver (buf_turn acts bytes)) (λ more. Stands x (more ++ acts) (record k { buffers = new }) m)
  buf_made bytes number new room h made = added (length bytes) number (Buffer bytes) (record k { buffers = new }) (has_room (length bytes) room) made.0 h
      (buffers_act x acts k m s (Driver (Buffer bytes)) new refl refl made.1
      (stay_inside acts (Driver (Buffer bytes) ∷ acts) (live_mappings acts) (λ b size e. ap (λ t. cond t (Some (length bytes)) (buffer_len acts b)) (is_other b size e) ∙ e) s.inside))

  pub zeros_made : (len number : ℕ) (new : Places) → total_of k.buffers + len ≤ buffer_limit → heard (answer.Done (Number number ∷ []))
      → (number ≡ buffers acts) × buffers.Stands x.per_page (Driver (Zeroed len) ∷ acts) new → Tells heard (lift Driver (zeros_turn acts len)) (λ more. Stands x (more ++ acts) (record k { buffers = new }) m)
  zeros_made len number new room h made = added len number (Zeroed len) (record k { buffers = new }) (has_room len room) made.0 h
      (buffers_act x acts k m s (Driver (Zeroed len)) new refl refl made.1
      (stay_inside acts (Driver (Zeroed len) ∷ acts) (live_mappings acts) (λ b size e. ap (λ t. cond t (Some len) (buffer_len acts b)) (is_other b size e) ∙ e) s.inside))

  pub poke_line : (buffer offset : ℕ) (bytes : List ℕ) (r : Result (Unit {0}) Errno) (new : Places) → heard (answer_of r)
      → MatchResult r (λ _. (range_refusal (buffer_len acts buffer) offset (length bytes) ≡ None) × buffers.Stands x.per_page (Driver (Poked buffer offset bytes) ∷ acts) new)
      (λ errno. range_refusal (buffer_len acts buffer) offset (length bytes) ≡ Some errno)
      → OnErr r (new ≡ k.buffers) → Tells heard (lift Driver (poke_turn acts buffer offset bytes)) (λ more. Stands x (more ++ acts) (record k { buffers = new }) m)
  poke_line buffer offset bytes (Ok u) new h t same =
      tells_by (ap (λ o. lift Driver (refuse o (done_with [] (Poked buffer offset bytes ∷ [])))) t.0) refl h
      (buffers_act x acts k m s (Driver (Poked buffer offset bytes)) new refl refl t.1 (stay_inside acts (Driver (Poked buffer offset bytes) ∷ acts) (live_mappings acts) (λ b size e. e) s.inside))
  poke_line buffer offset bytes (Err errno) new h t same =
      tells_by (ap (λ o. lift Driver (refuse o (done_with [] (Poked buffer offset bytes ∷ [])))) t) refl h (subst (λ (places : Places). Stands x acts (record k { buffers = places }) m) (sym same) s)
