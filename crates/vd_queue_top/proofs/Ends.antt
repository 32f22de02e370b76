-- How a run of lines ends: where a text is answered whole, and that it is, or memory runs out.
use Rattle.std.proofs.Common.{◌≡◌, ◌≢◌, ℕ, ◌+◌, ◌≤◌, Bool, true, false, cond, leb, refl, ap, subst, sym, ◌∙◌, arith, Option, List, [], ◌∷◌, length, take, drop, ◌⊎◌, inl, inr}
use Rattle.std.proofs.lemmas.Bool.Decides.{nat_tests, eqb_tells}
use Rattle.std.proofs.lemmas.List.Sums.{take_while-cons}
use Rattle.std.specs.List.{take_while}
use Rattle.vd_model.specs.Reading.{lines}
use Rattle.vd_output.specs.Out.{Stop, At_the_end, Not_in_grammar, Too_long, ended_lines, good_lines_in, is_good_in, line_limit, script_lines, stop_at, stop_in, text_limit}
use Rattle.vd_loop.specs.Outs.{TextStops, TextWrites}
use Rattle.vd_loop.specs.Statuses.{is_status, stop_of_status}
use Rattle.vd_loop.specs.Written.{Appended}

-- ---- a text that is answered whole

all_taken : (p : List ℕ → Bool) (ls : List (List ℕ)) → drop (length (take_while p ls)) ls ≡ [] → take_while p ls ≡ ls
all_taken p [] e = refl
all_taken p (l ∷ ls) e = take_while-cons p l ls ∙ by (all_taken p ls) (p l) (subst (λ t. drop (length t) (l ∷ ls) ≡ []) (take_while-cons p l ls) e) where
  by : (drop (length (take_while p ls)) ls ≡ [] → take_while p ls ≡ ls) → (b : Bool) → drop (length (cond b (l ∷ take_while p ls) [])) (l ∷ ls) ≡ [] → cond b (l ∷ take_while p ls) [] ≡ l ∷ ls
  by rest true e = ap (λ t. l ∷ t) (rest e)
  by rest false e = absurd (cc)

stops_nowhere : (n : ℕ) (ls : List (List ℕ)) (more : Bool) → stop_at n ls more ≡ At_the_end → (ls ≡ []) × (more ≡ false)
stops_nowhere n [] true e = absurd (cc)
stops_nowhere n [] false e = (refl, refl)
stops_nowhere n (l ∷ ls) more e = by (leb (length l) line_limit) e where
  by : (b : Bool) → cond b (Not_in_grammar (n + 1)) (Too_long (n + 1)) ≡ At_the_end → (l ∷ ls ≡ []) × (more ≡ false)
  by true e = absurd (cc)
  by false e = absurd (cc)

-- all of its lines are answered
pub whole_lines : (reads : List ℕ → Bool) (text : List ℕ) → stop_in reads text ≡ At_the_end → good_lines_in reads text ≡ lines text
whole_lines reads text e =
    let ends = stops_nowhere (length (good_lines_in reads text)) (drop (length (good_lines_in reads text)) (script_lines text)) _ e in
    let more = ends.1 in
    let small : leb (length text) text_limit ≡ true = grind (arith, nat_tests, more) in
    all_taken (is_good_in reads) (script_lines text) ends.0 ∙ ap (λ b. cond b (lines text) (ended_lines (take text_limit text))) small

module _ (reads : List ℕ → Bool) (text : List ℕ) (status line done : ℕ) (left : Option (List ℕ)) (stops : TextStops reads text (stop_of_status status) line done left) where
  -- at status 0 the replies to all lines of the text were written
  pub all_written : (out : List (List ℕ) → List ℕ) (old new : Option (List ℕ)) → TextWrites out (good_lines_in reads text) (stop_of_status status) done old new → status ≡ 0 → Appended old new (out (lines text))
  all_written out old new writes zero =
      let ends = subst (λ s. TextStops reads text (stop_of_status s) line done left) zero stops in
      let whole = subst (λ s. TextWrites out (good_lines_in reads text) (stop_of_status s) done old new) zero writes in
      subst (λ ls. Appended old new (out ls)) (whole_lines reads text ends.0) whole

  -- without a fault, a text whose lines are all good ends with 0, or for want of memory
  nat_tells : (a b : ℕ) → (a ≡ b) ⊎ (a ≢ b)
  nat_tells a b = elim (eqb_tells a b) [ inl h ↦ inl h.1 | inr h ↦ inr h.1 ]

  pub complete : is_status status ≡ true → stop_in reads text ≡ At_the_end → (status ≡ 3 → ⊥) → (status ≡ 4 → ⊥) → (status ≡ 0) ⊎ (status ≡ 5)
  complete known whole source sink = by (nat_tells status 6) (nat_tells status 7) where
    bad : status ≡ 6 → ⊥
    bad six =
        let e = subst (λ s. TextStops reads text (stop_of_status s) line done left) six stops in
        let f : Not_in_grammar line ≡ At_the_end = sym e.0 ∙ whole in
        cc

    long : status ≡ 7 → ⊥
    long seven =
        let e = subst (λ s. TextStops reads text (stop_of_status s) line done left) seven stops in
        let f : Too_long line ≡ At_the_end = sym e.0 ∙ whole in
        cc

    rest : (status ≡ 6 → ⊥) → (status ≡ 7 → ⊥) → ((status ≡ 0) ⊎ (status ≢ 0)) → (status ≡ 0) ⊎ (status ≡ 5)
    rest six seven (inl zero) = inl zero
    rest six seven (inr other) = inr (let five : status ≡ 5 = grind (arith, nat_tests, known, other, source, sink, six, seven) in five)

    by : ((status ≡ 6) ⊎ (status ≢ 6)) → ((status ≡ 7) ⊎ (status ≢ 7)) → (status ≡ 0) ⊎ (status ≡ 5)
    by (inl six) seven = absurd (bad six)
    by (inr six) (inl seven) = absurd (long seven)
    by (inr six) (inr seven) = rest six seven (nat_tells status 0)
