-- The replies of a run are those that are due to its lines, wherever it stopped.
use Rattle.std.proofs.Common.{◌≡◌, ◌≢◌, ℕ, ◌<◌, ◌≤◌, Bool, refl, ap, subst, sym, ◌∙◌, arith, inl, inr, Option, List, [], ◌∷◌, ◌++◌, length, take}
use Rattle.std.proofs.lemmas.Bool.Decides.{leb_tells}
use Rattle.std.proofs.lemmas.List.{take-append-le, take_all}
use Rattle.std.specs.List.{concat}
use Rattle.vd_loop.specs.declared.progress.Stop.{Stop}
use Rattle.vd_loop.specs.declared.progress.Stop.TheVariants.{End, SourceFailed, SinkFailed, Memory, BadLine, TooLong}
use Rattle.vd_loop.specs.Runs.{Ran, Reached, ReachedBy}

module _ (out : List (List ℕ) → List ℕ) where
  abbrev Due : (done replies : List (List ℕ)) → Type 0
  Due done replies = (k : ℕ) → concat (take k replies) ≡ out (take k done)

  -- without the last line
  due_less : (done replies : List (List ℕ)) (line reply : List ℕ) → length replies ≡ length done → Due (done ++ line ∷ []) (replies ++ reply ∷ []) → Due done replies
  due_less done replies line reply each due k = elim (leb_tells k (length done)) [ inl low ↦ within k low.1 | inr high ↦ beyond high.1 ] where
    within : (n : ℕ) → n ≤ length done → concat (take n replies) ≡ out (take n done)
    within n low = ap concat (sym (take-append-le n replies (reply ∷ []) (omega (arith, each, low)))) ∙ due n ∙ ap out (take-append-le n done (line ∷ []) low)

    beyond : length done < k → concat (take k replies) ≡ out (take k done)
    beyond high =
        ap concat (take_all k replies (omega (arith, each, high)) ∙ sym (take_all (length done) replies (omega (arith, each))))
        ∙ within (length done) (omega arith)
        ∙ ap out (take_all (length done) done (omega arith) ∙ sym (take_all k done (omega (arith, high))))

  module _ (reads alone : List ℕ → Bool) (done replies carried : List (List ℕ)) (answered : List (List ℕ) → List (List ℕ) → Type 0) (short : List (List ℕ) → List (List ℕ) → List ℕ → Type 0)
      (each : length replies ≡ length done) (tells : (d r : List (List ℕ)) → answered d r → Due d r) (tells_short : (d r : List (List ℕ)) (line : List ℕ) → short d r line → Due d r) where
    due_reached : (quiet : Type 0) → Reached reads alone quiet done replies carried answered short → Due done replies
    due_reached quiet (inl run) = tells done replies run.1
    due_reached quiet (inr (inl s)) = tells_short done replies s.line s.run
    due_reached quiet (inr (inr u)) =
        due_less done replies u.line u.reply each (tells (done ++ u.line ∷ []) (replies ++ u.reply ∷ []) (subst (λ c. answered c (replies ++ u.reply ∷ [])) u.is u.run))

    due_at : (stop : Stop) → ReachedBy stop reads alone (stop ≢ SinkFailed) done replies carried answered short → Due done replies
    due_at End r = tells done replies r.1
    due_at SourceFailed r = tells done replies r.1
    due_at BadLine r = tells done replies r.1
    due_at TooLong r = tells done replies r.1
    due_at SinkFailed r = due_reached (SinkFailed ≢ SinkFailed) r
    due_at Memory r = due_reached (Memory ≢ SinkFailed) r

  -- where a machine tells of all lines that it has answered that their replies were those that are due
  pub due_replies : (reads alone : List ℕ → Bool) (answered : List (List ℕ) → List (List ℕ) → Type 0) (short : List (List ℕ) → List (List ℕ) → List ℕ → Type 0) (told : Option (List ℕ)) (stop : Stop) (line lines : ℕ)
      (left old new : Option (List ℕ)) (r : Ran reads alone answered short told stop line lines left old new) → ((d s : List (List ℕ)) → answered d s → (k : ℕ) → concat (take k s) ≡ out (take k d))
      → ((d s : List (List ℕ)) (l : List ℕ) → short d s l → (k : ℕ) → concat (take k s) ≡ out (take k d)) → (k : ℕ) → concat (take k r.replies) ≡ out (take k r.done)
  due_replies reads alone answered short told stop line lines left old new r tells tells_short =
      due_at reads alone r.done r.replies r.carried answered short r.each tells tells_short stop r.reached
