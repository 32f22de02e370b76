-- Where a run stops.
use Rattle.std.proofs.Common.{◌≡◌, ℕ, ◌+◌, ◌≤◌, refl, ap, subst, sym, ◌∙◌, arith, true, false, Option, List, [], ◌∷◌, ◌++◌, length, take, length-append, append_assoc, append-nil, inl, inr}
use Rattle.std.specs.List.{list_all, take_while}
use Rattle.std.proofs.lemmas.List.{take-append-le}
use Rattle.std.proofs.lemmas.Bool.Decides.{leb_tells}
use Rattle.vd_model.specs.Setting.{Setting}
use Rattle.vd_model.specs.Reading.{reading}
use Rattle.vd_output.specs.Out.{is_script_line, is_good, good_lines, script_lines, history_after}
use Rattle.vd_lines.specs.IsAt.{IsAt, Leads, IsRead, IsTaken, StopsLong}
use Rattle.vd_lines.specs.Ahead.{Ahead}
use Rattle.vd_lines.proofs.Places.{script_from}
use Rattle.vd_lines.proofs.Stops.{good_are, stop_bad, all_good, stop_none}
use Rattle.vd_engine.specs.declared.engine.Engine.{Engine}
use Rattle.vd_engine.specs.Image.{IsImage}
use Rattle.vd_engine.specs.Machine.{StandsFor}
use Rattle.vd_top.specs.declared.player.Player.{Player}
use Rattle.vd_loop.specs.declared.progress.Stop.{Stop}
use Rattle.vd_loop.specs.declared.progress.Stop.TheVariants.{End, SourceFailed, SinkFailed, Memory, BadLine, TooLong}
use Rattle.vd_top.specs.Executes.{is_execute_line, executes, AreFailures, AreUpTo}
use Rattle.vd_top.specs.Pictures.{Shown, HoldsRun, Holds, ImageAt}
use Rattle.vd_loop.specs.Replies.{Replies, Cut, Flushed}
use Rattle.vd_top.specs.Played.{Answered, Untold, Unchanged, StoppedBy, StopsAt, Waits, Played, PlayedTo, PlayedCut, most_of}
use Rattle.vd_top.proofs.Failures.{failures_in}
use Rattle.vd_top.proofs.Agree.{waits_agrees}
use Rattle.vd_top.proofs.Waits.{waits_flushed, cut_of}
use Rattle.vd_top.proofs.Plays.{SoFar, good_line, bad_line, good_from, good_next, quiet_line, flushed_same, so_more, so_flushed, line_flushed, same, numbers_more, up_to, holds_whole}

-- no stop but want of memory leaves a line that was carried out and isn't answered
most_low : (stop : Stop) (lines : ℕ) → lines ≤ most_of stop lines
most_low End lines = omega arith
most_low SourceFailed lines = omega arith
most_low SinkFailed lines = omega arith
most_low Memory lines = omega arith
most_low BadLine lines = omega arith
most_low TooLong lines = omega arith

-- of lines that are answered first, an image that holds their run
holds_in : (x : Setting) (failures : List ℕ) (text : List ℕ) (done rest : List (List ℕ)) (m size : ℕ) (first now : Shown) → good_lines text ≡ done ++ rest → m ≤ length done → Holds x failures done m size first now
    → Holds x failures (good_lines text) m size first now
holds_in x failures text done rest m size first now are within h =
    subst (λ l. HoldsRun x (history_after failures 1 [] l) size first now) (sym (ap (take m) are ∙ take-append-le m done rest within)) h

-- the sink fails at the replies that wait
module _ (text : List ℕ) (stop : Stop) (lines : ℕ) (engine : Engine) (p : Player) (left held now : Option (List ℕ)) (size : ℕ) (before after : Shown) (g : PlayedTo text stop lines engine p left held now size before after)
    (written : ℕ) (next : Option (List ℕ)) (c : Cut p.waiting written now next) where
  last_low : g.last ≤ written + 1
  last_low = let line = g.is_last.line c.size c.less in subst (λ k. g.last ≤ k + 1) (sym c.line) line

  image_cut : (x : Setting) → StandsFor x [] engine → IsImage x [] size before.content → ImageAt x text p.failures.items SinkFailed written size before after
  image_cut x s i = elim (leb_tells g.last written) [
    | inl low ↦
        (let waits = g.waits x (record { stands = s; image = λ e. i }) in
        let within = (waits.line c.size c.less).within in let line = c.line in let count = g.count in
        let total = ap length g.first in let both = length-append g.done g.rest in
        record {
          run = written;
          near = inl refl;
          there = omega (arith, within, line, total, both);
          holds = g.image x s i written low.1 (inr (omega (arith, within, line, count)));
        })
    | inr high ↦
        (let above = high.1 in let below = last_low in
        record { run = g.last; near = inr (omega (arith, above, below)); there = g.there; holds = g.image x s i g.last (omega arith) (inl refl) })
  ]

  pub cut_to : PlayedCut text p.failures.items written engine held next size before after
  cut_to = record {
    numbers = g.numbers;
    early = λ n e. let early = g.is_last.early n e in let low = last_low in omega (arith, early, low);
    cut = λ x s. cut_of x p.failures.items g.done p.waiting held now (g.waits x s) text g.rest g.first next written c;
    image = image_cut;
  }

module _ (text : List ℕ) (lines : ℕ) (engine : Engine) (p : Player) (old now : Option (List ℕ)) (size : ℕ) (before content : Shown) (g : SoFar text lines engine p old now size before content)
    (rest : List (List ℕ)) (first : good_lines text ≡ g.done ++ rest) where
  -- it stops here, and nothing more was carried out
  stop_with : (stop : Stop) (later : Option (List ℕ)) (new : Player) (next : Option (List ℕ)) (after : Shown) → StopsAt text g.done later stop → Flushed p.waiting new.waiting now next → Unchanged p new content after
      → PlayedTo text stop lines engine new later old next size before after
  stop_with stop later new next after stops f u =
      let low = g.is_last.low in let count = g.count in
      let total = ap length first in let both = length-append g.done rest in
      record {
        done = g.done;
        count = g.count;
        stops = stops;
        rest = rest;
        first = first;
        numbers = subst (AreFailures (good_lines text)) (sym u.failures) (subst (λ l. AreFailures l p.failures.items) (sym first) (failures_in g.done rest p.failures.items g.numbers));
        last = g.last;
        there = omega (arith, low, count, total, both);
        is_last = record {
          low = (let most = most_low stop lines in omega (arith, low, most));
          early = subst (AreUpTo g.last) (sym u.failures) g.is_last.early;
          line = line_flushed p.waiting new.waiting now next g.last f g.is_last.line;
        };
        waits = λ x s.
            subst (λ l. Waits x l g.done new.waiting old next) (sym u.failures)
            (waits_flushed x p.failures.items g.done p.waiting old now (g.run x s).waits new.waiting next f);
        image = λ x s i m high under.
            let within : m ≤ lines = elim under [ inl is ↦ omega (arith, is, low) | inr less ↦ less ] in
            subst (λ l. Holds x l (good_lines text) m size before after) (sym u.failures)
            (holds_in x p.failures.items text g.done rest m size before after first (omega (arith, within, count))
            (subst (λ o. Holds x p.failures.items g.done m size before o) (sym u.image) (g.image x s i m high within)));
      }

  stop_here : (stop : Stop) (later : Option (List ℕ)) → StopsAt text g.done later stop → PlayedTo text stop lines engine p later old now size before content
  stop_here stop later stops = stop_with stop later p now content stops (flushed_same p.waiting now) (record { failures = refl; image = refl })

  -- the sink fails at the replies that wait
  pub stop_cut : (written : ℕ) (next : Option (List ℕ)) → Cut p.waiting written now next → PlayedCut text p.failures.items written engine old next size before content
  stop_cut written next c = cut_to text Memory lines engine p now old now size before content (stop_here Memory now tt) written next c

  -- an execute was carried out, and there was no memory for its reply
  stop_untold : (line : List ℕ) (after : List (List ℕ)) (later : Option (List ℕ)) (new : Player) (next : Option (List ℕ)) (reached : Shown) → good_lines text ≡ g.done ++ line ∷ after
      → Flushed p.waiting new.waiting now next → Untold (reading line) lines p new size content reached → PlayedTo text Memory lines engine new later old next size before reached
  stop_untold line after later new next reached are f u =
      let low = g.is_last.low in let count = g.count in
      let c = u.carried in
      let behind : good_lines text ≡ (g.done ++ line ∷ []) ++ after = are ∙ sym (append_assoc g.done (line ∷ []) after) in
      let total = ap length behind in let both = length-append (g.done ++ line ∷ []) after in let one = length-append g.done (line ∷ []) in
      let agree = same text lines engine p old now size before content g line u.failed new reached c in
      record {
        done = g.done;
        count = g.count;
        stops = tt;
        rest = rest;
        first = first;
        numbers = subst (λ l. AreFailures l new.failures.items) (sym behind) (failures_in (g.done ++ line ∷ []) after new.failures.items (numbers_more text lines engine p old now size before content g line u.failed new reached c));
        last = lines + 1;
        there = omega (arith, count, total, both, one);
        is_last = record {
          low = omega arith;
          early = up_to text lines engine p old now size before content g line u.failed new reached c;
          line = λ n below. absurd (let none = ap length u.none in omega (arith, none, below));
        };
        waits = λ x s.
            waits_flushed x new.failures.items g.done p.waiting old now
            (waits_agrees p.failures.items new.failures.items g.done agree x p.waiting old now (g.run x s).waits) new.waiting next f;
        image = λ x s i m high under.
            let is : lines + 1 ≡ m = elim under [ inl e ↦ sym e | inr less ↦ absurd (omega (arith, less, high)) ] in
            subst (λ k. Holds x new.failures.items (good_lines text) k size before reached) is
            (holds_in x new.failures.items text (g.done ++ line ∷ []) after (lines + 1) size before reached behind (omega (arith, count, one))
            (holds_whole text lines engine p old now size before content g line u.failed new reached c x s i));
      }

  cut_unchanged : (written : ℕ) (new : Player) (next : Option (List ℕ)) (after : Shown) → Unchanged p new content after → PlayedCut text p.failures.items written engine old next size before content
      → PlayedCut text new.failures.items written engine old next size before after
  cut_unchanged written new next after u c =
      subst (λ l. PlayedCut text l written engine old next size before after) (sym u.failures) (subst (λ o. PlayedCut text p.failures.items written engine old next size before o) (sym u.image) c)

  -- a line that isn't answered
  pub stop_line : (line : List ℕ) (after : List (List ℕ)) (stop : Stop) (written : ℕ) (new : Player) (later next : Option (List ℕ)) (reached : Shown) → script_lines text ≡ g.done ++ line ∷ after → length line ≤ 65536
      → StoppedBy stop written (reading line) lines p new now next size content reached → Played text stop written engine new later old next size before reached
  stop_line line after BadLine written new later next reached are short (is, none, f, u) =
      subst (λ n. PlayedTo text BadLine n engine new later old next size before reached) (sym is)
      (stop_with BadLine later new next reached (stop_bad is_script_line text g.done line after are g.good (bad_line line none) short, good_are is_script_line text g.done line after are g.good (bad_line line none)) f u)
  stop_line line after Memory written new later next reached are short (is, f, inl u) =
      subst (λ n. PlayedTo text Memory n engine new later old next size before reached) (sym is) (stop_with Memory later new next reached tt f u)
  stop_line line after Memory written new later next reached are short (is, f, inr u) =
      subst (λ n. PlayedTo text Memory n engine new later old next size before reached) (sym is)
      (stop_untold line (take_while is_good after) later new next reached (good_next text g.done line after are g.good (good_line line short u.carried.said)) f u)
  stop_line line after SinkFailed written new later next reached are short (c, u) = cut_unchanged written new next reached u (stop_cut written next c)
  stop_line line after End written new later next reached are short none = absurd none
  stop_line line after SourceFailed written new later next reached are short none = absurd none
  stop_line line after TooLong written new later next reached are short none = absurd none

  pub stop_end : (later : Option (List ℕ)) → IsRead text g.done later → Played text End lines engine p later old now size before content
  stop_end later read = stop_here End later (stop_none is_script_line text g.done read.lines_are g.good read.short, all_good is_script_line text g.done read.lines_are g.good, read.none_left)

  pub stop_failed : (later : Option (List ℕ)) → IsTaken text g.done later → Played text SourceFailed lines engine p later old now size before content
  stop_failed later taken = stop_here SourceFailed later taken

  pub stop_long : (later : Option (List ℕ)) → StopsLong text g.done → Played text TooLong lines engine p later old now size before content
  stop_long later long = stop_here TooLong later (long is_script_line g.good)

  pub stop_memory : (later : Option (List ℕ)) → Played text Memory lines engine p later old now size before content
  stop_memory later = stop_here Memory later tt

-- the lines that are answered first, where a reader stands behind so many
pub first_of : (text : List ℕ) (done : List (List ℕ)) (reader : Ahead) (left : Option (List ℕ)) → IsAt text done reader left → list_all is_good done ≡ true → (rest : List (List ℕ)) × (good_lines text ≡ done ++ rest)
first_of text done reader left at good =
    let taken = at.taken in let room = at.room in
    let from = script_from text at.seen (reader.pending ++ at.rest) done at.cuts at.bytes (omega (arith, taken, room)) in
    (take_while is_good from.0, good_from text done from.0 from.1 good)

pub first_read : (text : List ℕ) (done : List (List ℕ)) (left : Option (List ℕ)) → IsRead text done left → list_all is_good done ≡ true → good_lines text ≡ done ++ []
first_read text done left read good = all_good is_script_line text done read.lines_are good ∙ sym (append-nil done)

-- ---- the loop

-- these lines were answered, and the reader stands behind them
pub record Playing (text : List ℕ) (lines : ℕ) (engine : Engine) (p : Player) (reader : Ahead) (left old now : Option (List ℕ)) (size : ℕ) (before after : Shown) : Type 0 where
  pub so : SoFar text lines engine p old now size before after
  pub at : IsAt text so.done reader left

module _ (text : List ℕ) (lines : ℕ) (engine : Engine) (p : Player) (reader : Ahead) (left old now : Option (List ℕ)) (size : ℕ) (before content : Shown) (g : Playing text lines engine p reader left old now size before content) where
  first : (rest : List (List ℕ)) × (good_lines text ≡ g.so.done ++ rest)
  first = first_of text g.so.done reader left g.at g.so.good

  pub halt_end : (later : Option (List ℕ)) → IsRead text g.so.done later → Played text End lines engine p later old now size before content
  halt_end later read = stop_end text lines engine p old now size before content g.so first.0 first.1 later read

  pub halt_failed : (later : Option (List ℕ)) → IsTaken text g.so.done later → Played text SourceFailed lines engine p later old now size before content
  halt_failed later taken = stop_failed text lines engine p old now size before content g.so first.0 first.1 later taken

  pub halt_long : (later : Option (List ℕ)) → StopsLong text g.so.done → Played text TooLong lines engine p later old now size before content
  halt_long later long = stop_long text lines engine p old now size before content g.so first.0 first.1 later long

  pub halt_memory : (later : Option (List ℕ)) → Played text Memory lines engine p later old now size before content
  halt_memory later = stop_memory text lines engine p old now size before content g.so first.0 first.1 later

  pub halt_line : (line : List ℕ) (after : List (List ℕ)) (stop : Stop) (written : ℕ) (new : Player) (later next : Option (List ℕ)) (reached : Shown) → script_lines text ≡ g.so.done ++ line ∷ after → length line ≤ 65536
      → StoppedBy stop written (reading line) lines p new now next size content reached → Played text stop written engine new later old next size before reached
  halt_line line after stop written new later next reached are short stopped =
      stop_line text lines engine p old now size before content g.so first.0 first.1 line after stop written new later next reached are short stopped

  -- the last line is answered
  pub halt_last : (line : List ℕ) (new : Player) (later next : Option (List ℕ)) (reached : Shown) → IsRead text (g.so.done ++ line ∷ []) later → length line ≤ 65536
      → Answered (reading line) lines p new now next size content reached → Played text End (lines + 1) engine new later old next size before reached
  halt_last line new later next reached read short a =
      let good = good_line line short a.carried.said in
      let are = good_next text g.so.done line [] read.lines_are g.so.good good in
      let more = so_more text lines engine p old now size before content g.so line new next reached a [] are good in
      stop_end text (lines + 1) engine new old next size before reached more [] (first_read text (g.so.done ++ line ∷ []) later read more.good) later read

  -- a line is answered
  pub go_on : (line : List ℕ) (new : Player) (ahead : Ahead) (later next : Option (List ℕ)) (reached : Shown) → IsAt text (g.so.done ++ line ∷ []) ahead later × Leads text g.so.done line × (length line ≤ 65536)
      → Answered (reading line) lines p new now next size content reached → Playing text (lines + 1) engine new ahead later old next size before reached
  go_on line new ahead later next reached (at, leads, short) a =
      let good = good_line line short a.carried.said in
      let are = good_next text g.so.done line leads.after leads.lines_are g.so.good good in
      record { so = so_more text lines engine p old now size before content g.so line new next reached a (take_while is_good leads.after) are good; at = at }

  pub go_flushed : (next : Option (List ℕ)) (kept : Replies) → Flushed p.waiting kept now next → Playing text lines engine (record p { waiting = kept }) reader left old next size before content
  go_flushed next kept f = record { so = so_flushed text lines engine p old now size before content g.so next kept f; at = g.at }

  pub halt_sink : (next : Option (List ℕ)) (written : ℕ) → Cut p.waiting written now next → PlayedCut text p.failures.items written engine old next size before content
  halt_sink next written c = stop_cut text lines engine p old now size before content g.so first.0 first.1 written next c

  -- the next line leaves the image alone, where none that is answered asks for an execute
  pub goes_quiet : (line : List ℕ) (after : List (List ℕ)) → script_lines text ≡ g.so.done ++ line ∷ after → length line ≤ 65536 → executes text ≡ false → is_execute_line line ≡ false
  goes_quiet line after are short none = quiet_line text g.so.done line after are g.so.good short none
