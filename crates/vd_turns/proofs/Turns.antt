-- Lines that are answered one after another by what the lines before led to.
use Rattle.std.proofs.Common.{◌≡◌, ℕ, zero, suc, ◌+◌, ◌<◌, ◌≤◌, refl, ap, subst, sym, ◌∙◌, arith, inl, inr, List, [], ◌∷◌, ◌++◌, length, take, length-append, append_assoc, append-nil}
use Rattle.std.proofs.Math.Seq.{take-length}
use Rattle.std.proofs.lemmas.List.{take-append-le, take_all}
use Rattle.std.proofs.lemmas.List.Folds.{concat-append}
use Rattle.std.proofs.lemmas.Bool.Decides.{leb_tells}
use Rattle.std.specs.List.{concat}
use Rattle.vd_loop.specs.Outs.{Grows}
use Rattle.vd_turns.specs.Turns.{state_after, replies_from, RepliesFollow}

module _ {S : Type 0} (step : S → List ℕ → S) (reply : S → List ℕ → List ℕ) where
  state_both : (s : S) (xs ys : List (List ℕ)) → state_after step s (xs ++ ys) ≡ state_after step (state_after step s xs) ys
  state_both s [] ys = refl
  state_both s (x ∷ xs) ys = state_both (step s x) xs ys

  replies_both : (s : S) (xs ys : List (List ℕ)) → replies_from step reply s (xs ++ ys) ≡ replies_from step reply s xs ++ replies_from step reply (state_after step s xs) ys
  replies_both s [] ys = refl
  replies_both s (x ∷ xs) ys = ap (λ t. reply s x ++ t) (replies_both (step s x) xs ys) ∙ sym (append_assoc (reply s x) (replies_from step reply (step s x) xs) (replies_from step reply (state_after step (step s x) xs) ys))

  -- what is written for more lines begins with what is written for the first of them
  pub replies_grow : (s : S) → Grows (replies_from step reply s)
  replies_grow s xs ys = (replies_from step reply (state_after step s xs) ys, replies_both s xs ys)

  pub follows_first : (s : S) → RepliesFollow step reply s [] [] s
  follows_first s = record { state = refl; count = refl; each = none } where
    none : (k : ℕ) → concat (take k []) ≡ replies_from step reply s (take k [])
    none zero = refl
    none (suc k) = refl

  -- a line more
  pub follows_more : (first now : S) (done replies : List (List ℕ)) (line : List ℕ) → RepliesFollow step reply first done replies now
      → RepliesFollow step reply first (done ++ line ∷ []) (replies ++ reply now line ∷ []) (step now line)
  follows_more first now done replies line f = record {
    state = ap (λ s. step s line) f.state ∙ sym (state_both first done (line ∷ []));
    count = (let count = f.count in let one = length-append done (line ∷ []) in let other = length-append replies (reply now line ∷ []) in omega (arith, count, one, other));
    each = λ k. elim (leb_tells k (length done)) [ inl low ↦ before k low.1 | inr high ↦ beyond k high.1 ];
  } where
    before : (k : ℕ) → k ≤ length done → concat (take k (replies ++ reply now line ∷ [])) ≡ replies_from step reply first (take k (done ++ line ∷ []))
    before k low =
        let count = f.count in
        ap concat (take-append-le k replies (reply now line ∷ []) (omega (arith, count, low))) ∙ f.each k
        ∙ ap (replies_from step reply first) (sym (take-append-le k done (line ∷ []) low))

    whole : concat replies ≡ replies_from step reply first done
    whole = ap concat (sym (take-length replies)) ∙ f.each (length replies) ∙ ap (λ n. replies_from step reply first (take n done)) f.count ∙ ap (replies_from step reply first) (take-length done)

    all : concat (replies ++ reply now line ∷ []) ≡ replies_from step reply first (done ++ line ∷ [])
    all =
        concat-append replies (reply now line ∷ []) ∙ ap (λ t. t ++ (reply now line ++ [])) whole
        ∙ ap (λ s. replies_from step reply first done ++ (reply s line ++ [])) f.state ∙ sym (replies_both first done (line ∷ []))

    beyond : (k : ℕ) → length done < k → concat (take k (replies ++ reply now line ∷ [])) ≡ replies_from step reply first (take k (done ++ line ∷ []))
    beyond k high =
        let count = f.count in let one = length-append done (line ∷ []) in let other = length-append replies (reply now line ∷ []) in
        ap concat (take_all k (replies ++ reply now line ∷ []) (omega (arith, count, other, high))) ∙ all
        ∙ ap (replies_from step reply first) (sym (take_all k (done ++ line ∷ []) (omega (arith, one, high))))
