-- The lines of a text, cut at its first LF.
use Rattle.std.proofs.Common.{◌≡◌, ◌≢◌, ℕ, suc, ◌<◌, ◌≤◌, false, refl, ap, subst, ◌∙◌, sym, arith, ◌⊎◌, inl, inr, cond, List, [], ◌∷◌, ◌++◌, ◌==◌, length, append_assoc}
use Rattle.std.proofs.lemmas.Bool.Decides.{nat_tests}
use Rattle.vd_model.specs.Reading.{lines, onto_first}
use Rattle.vd_output.specs.Out.{ended_lines, onto_first_line}
use Rattle.vd_lines.specs.Ahead.{IsOneLine}
use Rattle.vd_lines.specs.IsAt.{Cuts}

unequal : (b : ℕ) → b ≢ 10 → (b == 10) ≡ false
unequal b h = grind (arith, nat_tests)

pub lines_none : lines [] ≡ []
unfolding lines
lines_none = refl

-- a byte that is no LF, before a text
lines_byte : (b : ℕ) (bytes : List ℕ) → b ≢ 10 → lines (b ∷ bytes) ≡ onto_first b (lines bytes)
unfolding lines
lines_byte b bytes other = ap (λ t. cond t ([] ∷ lines bytes) (onto_first b (lines bytes))) (unequal b other)

ended_lines_byte : (b : ℕ) (bytes : List ℕ) → b ≢ 10 → ended_lines (b ∷ bytes) ≡ onto_first_line b (ended_lines bytes)
unfolding ended_lines
ended_lines_byte b bytes other = ap (λ t. cond t ([] ∷ ended_lines bytes) (onto_first_line b (ended_lines bytes))) (unequal b other)

lines_feed : (bytes : List ℕ) → lines (10 ∷ bytes) ≡ [] ∷ lines bytes
unfolding lines
lines_feed bytes = refl

ended_lines_feed : (bytes : List ℕ) → ended_lines (10 ∷ bytes) ≡ [] ∷ ended_lines bytes
unfolding ended_lines
ended_lines_feed bytes = refl

ended_lines_none : ended_lines [] ≡ []
unfolding ended_lines
ended_lines_none = refl

-- the rest of a line is one line
shorter : (b : ℕ) (line : List ℕ) → IsOneLine (b ∷ line) → IsOneLine line
shorter b line one = λ k below. one (suc k) (omega arith)

first_byte : (b : ℕ) (line : List ℕ) → IsOneLine (b ∷ line) → b ≢ 10
first_byte b line one = one 0 (omega arith)

-- a line that an LF ends
pub lines_ended : (line rest : List ℕ) → IsOneLine line → lines (line ++ (10 ∷ rest)) ≡ line ∷ lines rest
lines_ended [] rest one = lines_feed rest
lines_ended (b ∷ line) rest one =
    lines_byte b (line ++ (10 ∷ rest)) (first_byte b line one) ∙ ap (onto_first b) (lines_ended line rest (shorter b line one))

pub ended_lines_line : (line rest : List ℕ) → IsOneLine line → ended_lines (line ++ (10 ∷ rest)) ≡ line ∷ ended_lines rest
ended_lines_line [] rest one = ended_lines_feed rest
ended_lines_line (b ∷ line) rest one =
    ended_lines_byte b (line ++ (10 ∷ rest)) (first_byte b line one) ∙ ap (onto_first_line b) (ended_lines_line line rest (shorter b line one))

-- a last line that no LF ends
pub lines_last : (line : List ℕ) → 0 < length line → IsOneLine line → lines line ≡ line ∷ []
lines_last [] some one = absurd (omega arith)
lines_last (b ∷ []) some one = lines_byte b [] (first_byte b [] one) ∙ ap (onto_first b) lines_none
lines_last (b ∷ c ∷ line) some one =
    lines_byte b (c ∷ line) (first_byte b (c ∷ line) one) ∙ ap (onto_first b) (lines_last (c ∷ line) (omega arith) (shorter b (c ∷ line) one))

pub ended_lines_last : (line : List ℕ) → IsOneLine line → ended_lines line ≡ []
ended_lines_last [] one = ended_lines_none
ended_lines_last (b ∷ line) one = ended_lines_byte b line (first_byte b line one) ∙ ap (onto_first_line b) (ended_lines_last line (shorter b line one))

-- the first line of a text is at least as long as a part without an LF that it begins with
pub record IsLong (n : ℕ) (of : List (List ℕ)) : Type 0 where
  pub line : List ℕ
  pub after : List (List ℕ)
  pub lines_are : of ≡ line ∷ after
  pub long : n ≤ length line

long_onto : (b n : ℕ) (of : List (List ℕ)) → IsLong n of → IsLong (suc n) (onto_first b of)
long_onto b n of l = record { line = b ∷ l.line; after = l.after; lines_are = ap (onto_first b) l.lines_are; long = (let long = l.long in omega (arith, long)) }

first_onto : (b : ℕ) (of : List (List ℕ)) → IsLong 1 (onto_first b of)
first_onto b [] = record { line = b ∷ []; after = []; lines_are = refl; long = omega arith }
first_onto b (line ∷ after) = record { line = b ∷ line; after = after; lines_are = refl; long = omega arith }

pub lines_long : (part rest : List ℕ) → 0 < length part → IsOneLine part → IsLong (length part) (lines (part ++ rest))
lines_long [] rest some one = absurd (omega arith)
lines_long (b ∷ []) rest some one = subst (IsLong 1) (sym (lines_byte b rest (first_byte b [] one))) (first_onto b (lines rest))
lines_long (b ∷ c ∷ part) rest some one =
    subst (IsLong (length (b ∷ c ∷ part))) (sym (lines_byte b (c ∷ part ++ rest) (first_byte b (c ∷ part) one)))
    (long_onto b (length (c ∷ part)) (lines (c ∷ part ++ rest)) (lines_long (c ∷ part) rest (omega arith) (shorter b (c ∷ part) one)))

ended_lines_onto : (b n : ℕ) (of : List (List ℕ)) → ((of ≡ []) ⊎ IsLong n of) → ((onto_first_line b of ≡ []) ⊎ IsLong (suc n) (onto_first_line b of))
ended_lines_onto b n of (inl none) = inl (ap (onto_first_line b) none)
ended_lines_onto b n of (inr l) = inr (record { line = b ∷ l.line; after = l.after; lines_are = ap (onto_first_line b) l.lines_are; long = (let long = l.long in omega (arith, long)) })

any_long : (of : List (List ℕ)) → (of ≡ []) ⊎ IsLong 0 of
any_long [] = inl refl
any_long (line ∷ after) = inr (record { line = line; after = after; lines_are = refl; long = omega arith })

pub ended_lines_long : (part rest : List ℕ) → IsOneLine part → (ended_lines (part ++ rest) ≡ []) ⊎ IsLong (length part) (ended_lines (part ++ rest))
ended_lines_long [] rest one = any_long (ended_lines rest)
ended_lines_long (b ∷ part) rest one =
    subst (λ of. (of ≡ []) ⊎ IsLong (length (b ∷ part)) of) (sym (ended_lines_byte b (part ++ rest) (first_byte b part one)))
    (ended_lines_onto b (length part) (ended_lines (part ++ rest)) (ended_lines_long part rest (shorter b part one)))

-- no bytes are no lines, and a line more
pub cuts_none : Cuts [] []
cuts_none = record { all = λ more. refl; whole = λ more. refl }

pub cuts_more : (seen line : List ℕ) (done : List (List ℕ)) → IsOneLine line → Cuts seen done → Cuts (seen ++ (line ++ (10 ∷ []))) (done ++ line ∷ [])
cuts_more seen line done one c = record {
  all = λ more. ap lines (regroup more) ∙ c.all (line ++ (10 ∷ more)) ∙ ap (λ l. done ++ l) (lines_ended line more one) ∙ sym (append_assoc done (line ∷ []) (lines more));
  whole = λ more. ap ended_lines (regroup more) ∙ c.whole (line ++ (10 ∷ more)) ∙ ap (λ l. done ++ l) (ended_lines_line line more one) ∙ sym (append_assoc done (line ∷ []) (ended_lines more));
} where
  regroup : (more : List ℕ) → (seen ++ (line ++ (10 ∷ []))) ++ more ≡ seen ++ (line ++ (10 ∷ more))
  regroup more = append_assoc seen (line ++ (10 ∷ [])) more ∙ ap (λ t. seen ++ t) (append_assoc line (10 ∷ []) more)
