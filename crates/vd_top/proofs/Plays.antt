-- A script, line after line.
use Rattle.std.proofs.Common.{◌≡◌, ◌≢◌, ℕ, ◌+◌, ◌<◌, ◌≤◌, Bool, true, false, refl, ap, subst, sym, ◌∙◌, arith, Option, None, Some, cond, nat_le, ◌&&◌, is_some, List, [], ◌∷◌, ◌++◌, length, take, length-append, true≢false, inl, inr}
use Rattle.std.proofs.Math.Seq.{take-length}
use Rattle.std.specs.List.{list_all, take_while}
use Rattle.std.proofs.lemmas.List.{take-append-le}
use Rattle.std.proofs.lemmas.List.Sums.{take_while-cons}
use Rattle.std.proofs.lemmas.List.Folds.{list_all-append}
use Rattle.std.proofs.lemmas.Bool.Decides.{nat_tests, leb_tells}
use Rattle.vd_model.specs.declared.step.Step.{Step}
use Rattle.vd_model.specs.Setting.{Setting}
use Rattle.vd_model.specs.History.{deeds_of}
use Rattle.vd_model.specs.Reading.{reading}
use Rattle.vd_output.specs.Out.{is_good, good_lines, script_lines, has_failed, later_of, reply_to, history_after}
use Rattle.vd_engine.specs.declared.engine.Engine.{Engine}
use Rattle.vd_engine.specs.Image.{IsImage}
use Rattle.vd_engine.specs.Machine.{StandsFor}
use Rattle.vd_top.specs.declared.player.Player.{Player}
use Rattle.vd_top.specs.Executes.{asks_execution, is_execute_line, executes, AreFailures, AreUpTo, failed_more}
use Rattle.vd_engine.specs.Flushes.{flushes}
use Rattle.vd_top.specs.Pictures.{Shown, HoldsRun, Holds}
use Rattle.vd_loop.specs.Replies.{Replies, Flushed, line_at}
use Rattle.vd_top.specs.Played.{Answered, Carried, IsSetting, IsLast, Waits}
use Rattle.vd_top.proofs.Failures.{none_above, failed_here, failed_else, up_to_more, executes_by, failures_none, failures_more}
use Rattle.vd_top.proofs.Agree.{Agree, history_agrees, holds_agrees, waits_agrees, history_none, history_more}
use Rattle.vd_loop.proofs.Waits.{appended_none}
use Rattle.vd_top.proofs.Waits.{waits_first, waits_more, waits_flushed}

-- ---- good lines

and_left : (a b : Bool) → (a && b) ≡ true → a ≡ true
and_left true b e = refl
and_left false b e = e

and_right : (a b : Bool) → (a && b) ≡ true → b ≡ true
and_right true b e = e
and_right false b e = absurd (true≢false (sym e))

and_both : (a b : Bool) → a ≡ true → b ≡ true → (a && b) ≡ true
and_both true b p q = q
and_both false b p q = p

-- a line that is short enough and says something is good, and one that says nothing isn't
pub good_line : (line : List ℕ) → length line ≤ 65536 → is_some (reading line) ≡ true → is_good line ≡ true
good_line line short said = let small : nat_le (length line) 65536 ≡ true = grind (arith, nat_tests) in and_both (nat_le (length line) 65536) (is_some (reading line)) small said

pub bad_line : (line : List ℕ) → reading line ≡ None → is_good line ≡ false
bad_line line none = ap (λ o. nat_le (length line) 65536 && is_some o) none ∙ and_false (nat_le (length line) 65536) where
  and_false : (b : Bool) → (b && false) ≡ false
  and_false true = refl
  and_false false = refl

pub good_more : (done : List (List ℕ)) (line : List ℕ) → list_all is_good done ≡ true → is_good line ≡ true → list_all is_good (done ++ line ∷ []) ≡ true
good_more done line good here = list_all-append is_good done (line ∷ []) ∙ and_both (list_all is_good done) (list_all is_good (line ∷ [])) good (and_both (is_good line) true here refl)

good_front : (done after : List (List ℕ)) → list_all is_good done ≡ true → take_while is_good (done ++ after) ≡ done ++ take_while is_good after
good_front [] after e = refl
good_front (line ∷ done) after e =
    take_while-cons is_good line (done ++ after) ∙ ap (λ b. cond b (line ∷ take_while is_good (done ++ after)) []) (and_left (is_good line) (list_all is_good done) e)
    ∙ ap (λ l. line ∷ l) (good_front done after (and_right (is_good line) (list_all is_good done) e))

-- these lines are answered first
pub good_from : (text : List ℕ) (done after : List (List ℕ)) → script_lines text ≡ done ++ after → list_all is_good done ≡ true → good_lines text ≡ done ++ take_while is_good after
good_from text done after are good = ap (take_while is_good) are ∙ good_front done after good

-- the lines behind, of which this one is good
pub good_next : (text : List ℕ) (done : List (List ℕ)) (line : List ℕ) (after : List (List ℕ)) → script_lines text ≡ done ++ line ∷ after → list_all is_good done ≡ true → is_good line ≡ true
    → good_lines text ≡ done ++ line ∷ take_while is_good after
good_next text done line after are good here =
    good_from text done (line ∷ after) are good ∙ ap (λ l. done ++ l) (take_while-cons is_good line after ∙ ap (λ b. cond b (line ∷ take_while is_good after) []) here)

said_of : (read : Option (Option Step)) → asks_execution read ≡ true → is_some read ≡ true
said_of None e = absurd (true≢false (sym e))
said_of (Some read) e = refl

-- where no line that is answered asks for an execute, the next one doesn't
pub quiet_line : (text : List ℕ) (done : List (List ℕ)) (line : List ℕ) (after : List (List ℕ)) → script_lines text ≡ done ++ line ∷ after → list_all is_good done ≡ true → length line ≤ 65536 → executes text ≡ false
    → is_execute_line line ≡ false
quiet_line text done line after are good short none = by (is_execute_line line) refl where
  by : (b : Bool) → is_execute_line line ≡ b → b ≡ false
  by true e =
      let here = good_line line short (said_of (reading line) e) in
      absurd (true≢false (sym (executes_by text done line (take_while is_good after) (good_next text done line after are good here) e) ∙ none))
  by false e = refl

-- ---- what stays

pub flushed_same : (waiting : Replies) (held : Option (List ℕ)) → Flushed waiting waiting held held
flushed_same waiting held = record { front = []; written = appended_none held; rest = refl; line = λ n below. ap (line_at waiting) (let e : n ≡ 0 + n = omega arith in e) }

pub holds_first : (x : Setting) (size : ℕ) (first : Shown) → IsImage x [] size first.content → HoldsRun x [] size first first
unfolding deeds_of flushes
holds_first x size first i = record { image = i; flushed = omega arith }

pub holds_none : (x : Setting) (failures : List ℕ) (m size : ℕ) (first : Shown) → m ≡ 0 → IsImage x [] size first.content → Holds x failures [] m size first first
holds_none x failures m size first none i =
    subst (λ k. Holds x failures [] k size first first) (sym none) (subst (λ h. HoldsRun x h size first first) (sym (history_none failures)) (holds_first x size first i))

-- a reply that waits after a flush waited before it, to the same line
pub line_flushed : (old new : Replies) (held later : Option (List ℕ)) (last : ℕ) → Flushed old new held later → ((n : ℕ) → n < length old.bytes → last ≤ line_at old n + 1) → (n : ℕ) → n < length new.bytes → last ≤ line_at new n + 1
line_flushed old new held later last f line n below =
    let both = length-append f.front new.bytes in let same = ap length f.rest in
    subst (λ k. last ≤ k + 1) (sym (f.line n below)) (line (length f.front + n) (omega (arith, both, same, below)))

-- ---- the run

-- the engine stands for the run of these lines, and their replies are written or wait
pub record Runs (x : Setting) (p : Player) (done : List (List ℕ)) (old now : Option (List ℕ)) : Type 0 where
  pub stands : StandsFor x (history_after p.failures.items 1 [] done) p.engine
  pub waits : Waits x p.failures.items done p.waiting old now

-- these lines were answered
pub record SoFar (text : List ℕ) (lines : ℕ) (engine : Engine) (p : Player) (old now : Option (List ℕ)) (size : ℕ) (before after : Shown) : Type 0 where
  pub done : List (List ℕ)
  pub good : list_all is_good done ≡ true
  pub count : lines ≡ length done
  pub numbers : AreFailures done p.failures.items
  pub last : ℕ
  pub is_last : IsLast p.failures.items p.waiting last lines
  pub run : (x : Setting) → IsSetting x text engine size before → Runs x p done old now
  pub image : (x : Setting) → StandsFor x [] engine → IsImage x [] size before.content → (m : ℕ) → last ≤ m → m ≤ lines → Holds x p.failures.items done m size before after

abbrev pub so_first : (text : List ℕ) (p : Player) (held : Option (List ℕ)) (size : ℕ) (before : Shown) → p.waiting.bytes ≡ [] → p.failures.items ≡ [] → SoFar text 0 p.engine p held held size before before
so_first text p held size before none never = record {
  done = [];
  good = refl;
  count = refl;
  numbers = subst (AreFailures []) (sym never) failures_none;
  last = 0;
  is_last = record { low = omega arith; early = subst (AreUpTo 0) (sym never) (λ n e. absurd (true≢false (sym e))); line = λ n below. omega arith };
  run = λ x s. record { stands = subst (λ h. StandsFor x h p.engine) (sym (history_none p.failures.items)) s.stands; waits = waits_first x p.failures.items p.waiting held none };
  image = λ x s i m low high. holds_none x p.failures.items m size before (omega (arith, high)) i;
}

executes_if : (b failed : Bool) → (b ≡ false → failed ≡ false) → failed ≡ true → b ≡ true
executes_if true failed quiet e = refl
executes_if false failed quiet e = absurd (true≢false (sym e ∙ quiet refl))

-- the place and what is known of a line more
pub record Next (text : List ℕ) (lines : ℕ) (engine : Engine) (done : List (List ℕ)) (p : Player) (size : ℕ) (before after : Shown) : Type 0 where
  pub last : ℕ
  pub is_last : IsLast p.failures.items p.waiting last lines
  pub image : (x : Setting) → StandsFor x [] engine → IsImage x [] size before.content → (m : ℕ) → last ≤ m → m ≤ lines → Holds x p.failures.items done m size before after

module _ (text : List ℕ) (lines : ℕ) (engine : Engine) (p : Player) (old now : Option (List ℕ)) (size : ℕ) (before content : Shown) (g : SoFar text lines engine p old now size before content) where
  -- the image at the last of the lines
  holds_now : (x : Setting) → StandsFor x [] engine → IsImage x [] size before.content → HoldsRun x (history_after p.failures.items 1 [] g.done) size before content
  holds_now x s i =
      let low = g.is_last.low in
      subst (λ l. HoldsRun x (history_after p.failures.items 1 [] l) size before content) (ap (λ k. take k g.done) g.count ∙ take-length g.done) (g.image x s i lines low (omega arith))

  -- ---- a line that was carried out
  module _ (line : List ℕ) (failed : Bool) (new : Player) (after : Shown) (c : Carried (reading line) lines failed p new size content after) where
    pub here : has_failed new.failures.items (1 + length g.done) ≡ failed
    here =
        let low = g.is_last.low in let count = g.count in
        let none = none_above g.last (lines + 1) p.failures.items g.is_last.early (omega (arith, low)) in
        ap (has_failed new.failures.items) (let e : 1 + length g.done ≡ lines + 1 = omega (arith, count) in e)
        ∙ ap (λ l. has_failed l (lines + 1)) c.failures ∙ failed_here failed (lines + 1) p.failures.items none

    pub same : Agree p.failures.items new.failures.items 1 (length g.done)
    same m from to =
        let count = g.count in
        sym (ap (λ l. has_failed l m) c.failures ∙ failed_else failed (lines + 1) m p.failures.items (λ e. omega (arith, count, to, e)))

    pub numbers_more : AreFailures (g.done ++ line ∷ []) new.failures.items
    numbers_more =
        subst (AreFailures (g.done ++ line ∷ [])) (ap (λ n. failed_more failed (n + 1) p.failures.items) (sym g.count) ∙ sym c.failures)
        (failures_more g.done line p.failures.items g.numbers failed (executes_if (is_execute_line line) failed (λ e. (c.quiet e).0)))

    pub up_to : AreUpTo (lines + 1) new.failures.items
    up_to = let low = g.is_last.low in subst (AreUpTo (lines + 1)) (sym c.failures) (up_to_more failed g.last (lines + 1) p.failures.items g.is_last.early (omega (arith, low)))

    history_now : history_after new.failures.items 1 [] (g.done ++ line ∷ []) ≡ later_of failed (reading line) (history_after p.failures.items 1 [] g.done)
    history_now =
        history_more new.failures.items line failed g.done 1 [] here
        ∙ ap (later_of failed (reading line)) (sym (history_agrees p.failures.items new.failures.items g.done 1 [] same))

    -- the image with what it stored
    whole : (x : Setting) → StandsFor x [] engine → IsImage x [] size before.content → HoldsRun x (history_after new.failures.items 1 [] (g.done ++ line ∷ [])) size before after
    whole x s i =
        subst (λ h. HoldsRun x h size before after) (sym history_now)
        (c.image x (history_after p.failures.items 1 [] g.done) before (g.run x (record { stands = s; image = λ e. i })).stands (holds_now x s i))

    take_all : take (lines + 1) (g.done ++ line ∷ []) ≡ g.done ++ line ∷ []
    take_all = let size = length-append g.done (line ∷ []) in let count = g.count in ap (λ k. take k (g.done ++ line ∷ [])) (let e : lines + 1 ≡ length (g.done ++ line ∷ []) = omega (arith, size, count) in e) ∙ take-length (g.done ++ line ∷ [])

    pub holds_whole : (x : Setting) → StandsFor x [] engine → IsImage x [] size before.content → Holds x new.failures.items (g.done ++ line ∷ []) (lines + 1) size before after
    holds_whole x s i = subst (λ l. HoldsRun x (history_after new.failures.items 1 [] l) size before after) (sym take_all) (whole x s i)

    -- the image as it was at a line before
    holds_before : (x : Setting) → StandsFor x [] engine → IsImage x [] size before.content → after ≡ content → (m : ℕ) → g.last ≤ m → m ≤ lines → Holds x new.failures.items (g.done ++ line ∷ []) m size before after
    holds_before x s i still m low high =
        let count = g.count in
        subst (λ l. HoldsRun x (history_after new.failures.items 1 [] l) size before after) (sym (take-append-le m g.done (line ∷ []) (omega (arith, count, high))))
        (holds_agrees p.failures.items new.failures.items g.done same x m size before after (omega (arith, count, high))
        (subst (λ o. Holds x p.failures.items g.done m size before o) (sym still) (g.image x s i m low high)))

  -- ---- a line that was answered
  module _ (line : List ℕ) (new : Player) (next : Option (List ℕ)) (after : Shown) (a : Answered (reading line) lines p new now next size content after) where
    pub next_line : (b : Bool) → is_execute_line line ≡ b → Next text (lines + 1) engine (g.done ++ line ∷ []) new size before after
    next_line true e = record {
      last = lines + 1;
      is_last = record {
        low = omega arith;
        early = up_to line a.failed new after a.carried;
        line = λ n below.
            let none = ap length (a.alone e) in
            subst (λ k. lines + 1 ≤ k + 1) (sym (a.waits.added n (omega (arith, none)) below)) (omega arith);
      };
      image = λ x s i m low high.
          subst (λ k. Holds x new.failures.items (g.done ++ line ∷ []) k size before after) (let is : lines + 1 ≡ m = omega (arith, low, high) in is) (holds_whole line a.failed new after a.carried x s i);
    }
    next_line false e =
        let quiet = a.carried.quiet e in
        let low = g.is_last.low in
        record {
          last = g.last;
          is_last = record {
            low = omega (arith, low);
            early = subst (AreUpTo g.last) (ap (λ b. failed_more b (lines + 1) p.failures.items) (sym quiet.0) ∙ sym a.carried.failures) g.is_last.early;
            line = λ n below. elim (leb_tells (length a.kept.bytes) n) [
              | inl past ↦ subst (λ k. g.last ≤ k + 1) (sym (a.waits.added n past.1 below)) (omega (arith, low))
              | inr early ↦ subst (λ k. g.last ≤ k + 1) (sym (a.waits.kept n early.1)) (line_flushed p.waiting a.kept now next g.last a.flushed g.is_last.line n early.1)
            ];
          };
          image = λ x s i m low high. elim (leb_tells m lines) [
            | inl under ↦ holds_before line a.failed new after a.carried x s i quiet.1 m low under.1
            | inr over ↦
                (let past = over.1 in
                subst (λ k. Holds x new.failures.items (g.done ++ line ∷ []) k size before after) (let is : lines + 1 ≡ m = omega (arith, past, high) in is) (holds_whole line a.failed new after a.carried x s i))
          ];
        }

    module _ (rest : List (List ℕ)) (are : good_lines text ≡ g.done ++ line ∷ rest) where
      pub run_more : (x : Setting) → IsSetting x text engine size before → Runs x new (g.done ++ line ∷ []) old next
      run_more x s =
          let r = g.run x s in
          let told = a.run x (history_after p.failures.items 1 [] g.done) r.stands (λ e. (holds_now x s.stands (s.image (executes_by text g.done line rest are e))).image) in
          let agree = same line a.failed new after a.carried in
          record {
            stands = subst (λ h. StandsFor x h new.engine) (sym (history_now line a.failed new after a.carried)) told.stands;
            waits = waits_more x new.failures.items g.done a.kept old next
                (waits_flushed x new.failures.items g.done p.waiting old now (waits_agrees p.failures.items new.failures.items g.done agree x p.waiting old now r.waits) a.kept next a.flushed)
                line a.reply a.failed lines new.waiting a.waits g.count (here line a.failed new after a.carried)
                (told.text ∙ ap (λ h. reply_to a.failed x h (reading line)) (history_agrees p.failures.items new.failures.items g.done 1 [] agree));
          }

      abbrev pub so_more : is_good line ≡ true → SoFar text (lines + 1) engine new old next size before after
      so_more good =
          let n = next_line (is_execute_line line) refl in
          record {
            done = g.done ++ line ∷ [];
            good = good_more g.done line g.good good;
            count = ap (λ n. n + 1) g.count ∙ sym (length-append g.done (line ∷ []));
            numbers = numbers_more line a.failed new after a.carried;
            last = n.last;
            is_last = n.is_last;
            run = run_more;
            image = n.image;
          }

  -- the replies that wait are written, or wait still
  abbrev pub so_flushed : (next : Option (List ℕ)) (kept : Replies) → Flushed p.waiting kept now next → SoFar text lines engine (record p { waiting = kept }) old next size before content
  so_flushed next kept f = record {
    done = g.done;
    good = g.good;
    count = g.count;
    numbers = g.numbers;
    last = g.last;
    is_last = record { low = g.is_last.low; early = g.is_last.early; line = line_flushed p.waiting kept now next g.last f g.is_last.line };
    run = λ x s. let r = g.run x s in record { stands = r.stands; waits = waits_flushed x p.failures.items g.done p.waiting old now r.waits kept next f };
    image = g.image;
  }
