-- Where a run stops.
use Rattle.std.proofs.Common.{◌≡◌, ℕ, ◌+◌, ◌<◌, ◌≤◌, Bool, true, false, refl, ap, ◌∙◌, sym, arith, cond, nat_le, nat_lt, ◌&&◌, List, [], ◌∷◌, ◌++◌, length, take, drop, append-nil, true≢false}
use Rattle.std.specs.List.{list_all, take_while}
use Rattle.std.proofs.lemmas.List.Sums.{take_while-cons}
use Rattle.std.proofs.lemmas.Bool.Decides.{nat_tests}
use Rattle.vd_model.specs.Reading.{lines}
use Rattle.vd_output.specs.Out.{At_the_end, Not_in_grammar, Too_long, ended_lines, script_lines, is_good_in, good_lines_in, stop_at, stop_in}

-- ---- the lines of a script

pub script_whole : (text : List ℕ) → length text ≤ 67108864 → script_lines text ≡ lines text
script_whole text fits = let small : nat_le (length text) 67108864 ≡ true = grind (arith, nat_tests) in ap (λ b. cond b (lines text) (ended_lines (take 67108864 text))) small

pub script_cut : (text : List ℕ) → 67108864 < length text → script_lines text ≡ ended_lines (take 67108864 text)
script_cut text past = let large : nat_le (length text) 67108864 ≡ false = grind (arith, nat_tests) in ap (λ b. cond b (lines text) (ended_lines (take 67108864 text))) large

-- ---- those before the stop

-- all of the lines are good
and_left : (a b : Bool) → (a && b) ≡ true → a ≡ true
and_left true b e = refl
and_left false b e = e

and_right : (a b : Bool) → (a && b) ≡ true → b ≡ true
and_right true b e = e
and_right false b e = absurd (true≢false (sym e))

pub good_all : (reads : List ℕ → Bool) (done : List (List ℕ)) → list_all (is_good_in reads) done ≡ true → take_while (is_good_in reads) done ≡ done
good_all reads [] e = refl
good_all reads (line ∷ done) e =
    take_while-cons (is_good_in reads) line done ∙ ap (λ b. cond b (line ∷ take_while (is_good_in reads) done) []) (and_left (is_good_in reads line) (list_all (is_good_in reads) done) e)
    ∙ ap (λ l. line ∷ l) (good_all reads done (and_right (is_good_in reads line) (list_all (is_good_in reads) done) e))

pub good_some : (reads : List ℕ → Bool) (done : List (List ℕ)) (line : List ℕ) (after : List (List ℕ)) → list_all (is_good_in reads) done ≡ true → is_good_in reads line ≡ false → take_while (is_good_in reads) (done ++ line ∷ after) ≡ done
good_some reads [] line after e bad = take_while-cons (is_good_in reads) line after ∙ ap (λ b. cond b (line ∷ take_while (is_good_in reads) after) []) bad
good_some reads (d ∷ done) line after e bad =
    take_while-cons (is_good_in reads) d (done ++ line ∷ after) ∙ ap (λ b. cond b (d ∷ take_while (is_good_in reads) (done ++ line ∷ after)) []) (and_left (is_good_in reads d) (list_all (is_good_in reads) done) e)
    ∙ ap (λ l. d ∷ l) (good_some reads done line after (and_right (is_good_in reads d) (list_all (is_good_in reads) done) e) bad)

past : {X : Type 0} (xs ys : List X) → drop (length xs) (xs ++ ys) ≡ ys
past [] ys = refl
past (x ∷ xs) ys = past xs ys

-- a line that isn't good
module _ (reads : List ℕ → Bool) (text : List ℕ) (done : List (List ℕ)) (line : List ℕ) (after : List (List ℕ)) (are : script_lines text ≡ done ++ line ∷ after) (good : list_all (is_good_in reads) done ≡ true) (bad : is_good_in reads line ≡ false) where
  pub good_are : good_lines_in reads text ≡ done
  good_are = ap (take_while (is_good_in reads)) are ∙ good_some reads done line after good bad

  stop_line : stop_in reads text ≡ stop_at (length done) (line ∷ after) (nat_lt 67108864 (length text))
  stop_line =
      ap (λ g. stop_at (length g) (drop (length g) (script_lines text)) (nat_lt 67108864 (length text))) good_are
      ∙ ap (λ l. stop_at (length done) (drop (length done) l) (nat_lt 67108864 (length text))) are
      ∙ ap (λ l. stop_at (length done) l (nat_lt 67108864 (length text))) (past done (line ∷ after))

  pub stop_long : 65536 < length line → stop_in reads text ≡ Too_long (length done + 1)
  stop_long long =
      let large : nat_le (length line) 65536 ≡ false = grind (arith, nat_tests) in
      stop_line ∙ ap (λ b. cond b (Not_in_grammar (length done + 1)) (Too_long (length done + 1))) large

  pub stop_bad : length line ≤ 65536 → stop_in reads text ≡ Not_in_grammar (length done + 1)
  stop_bad short =
      let small : nat_le (length line) 65536 ≡ true = grind (arith, nat_tests) in
      stop_line ∙ ap (λ b. cond b (Not_in_grammar (length done + 1)) (Too_long (length done + 1))) small

-- a line that is too long isn't good
pub long_bad : (reads : List ℕ → Bool) (line : List ℕ) → 65536 < length line → is_good_in reads line ≡ false
long_bad reads line long = let large : nat_le (length line) 65536 ≡ false = grind (arith, nat_tests) in rw large refl

-- all lines are good
module _ (reads : List ℕ → Bool) (text : List ℕ) (done : List (List ℕ)) (are : script_lines text ≡ done) (good : list_all (is_good_in reads) done ≡ true) where
  pub all_good : good_lines_in reads text ≡ done
  all_good = ap (take_while (is_good_in reads)) are ∙ good_all reads done good

  stop_end : stop_in reads text ≡ stop_at (length done) [] (nat_lt 67108864 (length text))
  stop_end =
      ap (λ g. stop_at (length g) (drop (length g) (script_lines text)) (nat_lt 67108864 (length text))) all_good
      ∙ ap (λ l. stop_at (length done) (drop (length done) l) (nat_lt 67108864 (length text))) (are ∙ sym (append-nil done))
      ∙ ap (λ l. stop_at (length done) l (nat_lt 67108864 (length text))) (past done [])

  pub stop_none : length text ≤ 67108864 → stop_in reads text ≡ At_the_end
  stop_none short =
      let small : nat_lt 67108864 (length text) ≡ false = grind (arith, nat_tests) in
      stop_end ∙ ap (λ b. cond b (Too_long (length done + 1)) At_the_end) small

  pub stop_limit : 67108864 < length text → stop_in reads text ≡ Too_long (length done + 1)
  stop_limit past =
      let large : nat_lt 67108864 (length text) ≡ true = grind (arith, nat_tests) in
      stop_end ∙ ap (λ b. cond b (Too_long (length done + 1)) At_the_end) large
