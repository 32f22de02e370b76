-- Failures of later lines change nothing of the lines before.
use Rattle.std.proofs.Common.{◌≡◌, ℕ, suc, ◌+◌, ◌<◌, ◌≤◌, refl, ap, subst, sym, ◌∙◌, arith, Bool, Option, List, [], ◌∷◌, ◌++◌, length, take, append_assoc, append-nil}
use Rattle.std.proofs.lemmas.List.{length-take-le}
use Rattle.vd_model.specs.Setting.{Setting}
use Rattle.vd_model.specs.History.{History}
use Rattle.vd_model.specs.Reading.{reading}
use Rattle.vd_output.specs.Out.{has_failed, later_of, reply_to, history_after, output_from}
use Rattle.vd_top.specs.Pictures.{Shown, HoldsRun, Holds}
use Rattle.vd_loop.specs.Replies.{Replies, line_at}
use Rattle.vd_top.specs.Played.{IsIn, Waits}

-- the image failed at the same of so many lines, of which the first is line n
abbrev pub Agree : List ℕ → List ℕ → ℕ → ℕ → Type 0
Agree one other n count = (m : ℕ) → n ≤ m → m < n + count → has_failed one m ≡ has_failed other m

pub fewer : (one other : List ℕ) (n count less : ℕ) → less ≤ count → Agree one other n count → Agree one other n less
fewer one other n count less low a m from to = a m from (omega (arith, to, low))

next : (one other : List ℕ) (n count : ℕ) → Agree one other n (count + 1) → Agree one other (n + 1) count
next one other n count a m from to = a m (omega (arith, from)) (omega (arith, to))

pub history_agrees : (one other : List ℕ) (lines : List (List ℕ)) (n : ℕ) (h : History) → Agree one other n (length lines) → history_after one n h lines ≡ history_after other n h lines
unfolding history_after
history_agrees one other [] n h a = refl
history_agrees one other (line ∷ lines) n h a =
    ap (λ b. history_after one (n + 1) (later_of b (reading line) h) lines) (a n (omega arith) (omega arith))
    ∙ history_agrees one other lines (n + 1) (later_of (has_failed other n) (reading line) h) (λ m from to. a m (omega (arith, from)) (omega (arith, to)))

pub output_agrees : (one other : List ℕ) (x : Setting) (lines : List (List ℕ)) (n : ℕ) (h : History) → Agree one other n (length lines) → output_from one x n h lines ≡ output_from other x n h lines
unfolding output_from
output_agrees one other x [] n h a = refl
output_agrees one other x (line ∷ lines) n h a =
    ap (λ b. reply_to b x h (reading line) ++ output_from one x (n + 1) (later_of b (reading line) h) lines) (a n (omega arith) (omega arith))
    ∙ ap (λ t. reply_to (has_failed other n) x h (reading line) ++ t)
    (output_agrees one other x lines (n + 1) (later_of (has_failed other n) (reading line) h) (λ m from to. a m (omega (arith, from)) (omega (arith, to))))

module _ (one other : List ℕ) (lines : List (List ℕ)) (a : Agree one other 1 (length lines)) where
  front_agrees : (x : Setting) (k : ℕ) → k ≤ length lines → output_from one x 1 [] (take k lines) ≡ output_from other x 1 [] (take k lines)
  front_agrees x k within = output_agrees one other x (take k lines) 1 [] (fewer one other 1 (length lines) (length (take k lines)) (let size = length-take-le k lines within in omega (arith, size, within)) a)

  in_agrees : (x : Setting) (k n : ℕ) → IsIn x one lines k n → IsIn x other lines k n
  in_agrees x k n i =
      let within = i.within in
      record {
        within = within;
        begins = subst (λ t. length t ≤ n) (front_agrees x k (omega (arith, within))) i.begins;
        ends = subst (λ t. n < length t) (front_agrees x (k + 1) (omega (arith, within))) i.ends;
      }

  pub waits_agrees : (x : Setting) (waiting : Replies) (old now : Option (List ℕ)) → Waits x one lines waiting old now → Waits x other lines waiting old now
  waits_agrees x waiting old now w = record {
    front = w.front;
    written = w.written;
    all = w.all ∙ output_agrees one other x lines 1 [] a;
    line = λ n below. in_agrees x (line_at waiting n) (length w.front + n) (w.line n below);
  }

  pub holds_agrees : (x : Setting) (m size : ℕ) (first now : Shown) → m ≤ length lines → Holds x one lines m size first now → Holds x other lines m size first now
  holds_agrees x m size first now within h =
      subst (λ h. HoldsRun x h size first now)
      (history_agrees one other (take m lines) 1 [] (fewer one other 1 (length lines) (length (take m lines)) (let size = length-take-le m lines within in omega (arith, size, within)) a)) h

-- ---- the history and the replies, one line more

pub history_none : (failures : List ℕ) → history_after failures 1 [] [] ≡ []
unfolding history_after
history_none failures = refl

pub script_output_none : (failures : List ℕ) (x : Setting) → output_from failures x 1 [] [] ≡ []
unfolding output_from
script_output_none failures x = refl

module _ (failures : List ℕ) (line : List ℕ) (failed : Bool) where
  pub history_more : (done : List (List ℕ)) (n : ℕ) (h : History) → has_failed failures (n + length done) ≡ failed
      → history_after failures n h (done ++ line ∷ []) ≡ later_of failed (reading line) (history_after failures n h done)
  unfolding history_after
  history_more [] n h is = ap (λ b. later_of b (reading line) h) (ap (has_failed failures) (let e : n ≡ n + 0 = omega arith in e) ∙ is)
  history_more (d ∷ done) n h is =
      history_more done (n + 1) (later_of (has_failed failures n) (reading d) h) (ap (has_failed failures) (let e : n + 1 + length done ≡ n + suc (length done) = omega arith in e) ∙ is)

  pub script_output_more : (x : Setting) (done : List (List ℕ)) (n : ℕ) (h : History) → has_failed failures (n + length done) ≡ failed
      → output_from failures x n h (done ++ line ∷ []) ≡ output_from failures x n h done ++ reply_to failed x (history_after failures n h done) (reading line)
  unfolding output_from history_after
  script_output_more x [] n h is = append-nil (reply_to (has_failed failures n) x h (reading line)) ∙ ap (λ b. reply_to b x h (reading line)) (ap (has_failed failures) (let e : n ≡ n + 0 = omega arith in e) ∙ is)
  script_output_more x (d ∷ done) n h is =
      let more = script_output_more x done (n + 1) (later_of (has_failed failures n) (reading d) h) (ap (has_failed failures) (let e : n + 1 + length done ≡ n + suc (length done) = omega arith in e) ∙ is) in
      ap (λ t. reply_to (has_failed failures n) x h (reading d) ++ t) more
      ∙ sym (append_assoc (reply_to (has_failed failures n) x h (reading d)) (output_from failures x (n + 1) (later_of (has_failed failures n) (reading d) h) done)
      (reply_to failed x (history_after failures (n + 1) (later_of (has_failed failures n) (reading d) h) done) (reading line)))

pub script_output_split : (failures : List ℕ) (x : Setting) (done more : List (List ℕ)) (n : ℕ) (h : History) → (rest : List ℕ) × (output_from failures x n h (done ++ more) ≡ output_from failures x n h done ++ rest)
unfolding output_from
script_output_split failures x [] more n h = (output_from failures x n h more, refl)
script_output_split failures x (d ∷ done) more n h =
    let r = script_output_split failures x done more (n + 1) (later_of (has_failed failures n) (reading d) h) in (
      r.0,
      ap (λ t. reply_to (has_failed failures n) x h (reading d) ++ t) r.1
          ∙ sym (append_assoc (reply_to (has_failed failures n) x h (reading d)) (output_from failures x (n + 1) (later_of (has_failed failures n) (reading d) h) done) r.0),
    )
