-- What a run of lines says of a text, whose replies are known for each line.
use Rattle.std.proofs.Common.{◌≡◌, ◌≢◌, ℕ, ◌+◌, ◌<◌, ◌≤◌, Bool, true, false, ap, subst, sym, ◌∙◌, arith, cond, Option, None, Some, List, [], ◌∷◌, ◌++◌, length, take, length-append, append_assoc, append-nil, inl, inr}
use Rattle.std.proofs.Math.Seq.{take-length, take-append_seam}
use Rattle.std.proofs.lemmas.List.{take-append-le}
use Rattle.std.specs.List.{concat}
use Rattle.vd_output.specs.Out.{good_lines_in}
use Rattle.vd_lines.specs.IsAt.{IsTaken}
use Rattle.vd_loop.specs.declared.progress.Stop.{Stop}
use Rattle.vd_loop.specs.declared.progress.Stop.TheVariants.{End, SourceFailed, SinkFailed, Memory, BadLine, TooLong}
use Rattle.vd_loop.specs.Outs.{Grows, AppendedFront, IsTextCut, AppendedCut, AppendedLines, TextStops, TextWrites}
use Rattle.vd_loop.specs.Runs.{AllWritten, IsCut, IsFront, Ran, Reached, ReachedBy, StopsBy, WritesBy}
use Rattle.vd_loop.specs.Written.{Appended}

front_same : (done carried whole : List (List ℕ)) → carried ≡ done → IsFront carried whole → IsFront done whole
front_same done carried whole is f = record { rest = f.rest; is = f.is ∙ ap (λ l. l ++ f.rest) is }

front_less : (done carried whole : List (List ℕ)) (line : List ℕ) → carried ≡ done ++ line ∷ [] → IsFront carried whole → IsFront done whole
front_less done carried whole line is f = record { rest = line ∷ f.rest; is = f.is ∙ ap (λ l. l ++ f.rest) is ∙ append_assoc done (line ∷ []) f.rest }

front_if : (done carried whole : List (List ℕ)) (line : List ℕ) (b : Bool) → carried ≡ cond b (done ++ line ∷ []) done → IsFront carried whole → IsFront done whole
front_if done carried whole line true is f = front_less done carried whole line is f
front_if done carried whole line false is f = front_same done carried whole is f

front_all : (done whole : List (List ℕ)) → whole ≡ done → IsFront done whole
front_all done whole e = record { rest = []; is = e ∙ sym (append-nil done) }

-- the lines that were answered are the first of those that are to be
front_reached : (reads alone : List ℕ → Bool) (quiet : Type 0) (done replies carried whole : List (List ℕ)) (answered : List (List ℕ) → List (List ℕ) → Type 0) (short : List (List ℕ) → List (List ℕ) → List ℕ → Type 0)
    → Reached reads alone quiet done replies carried answered short → IsFront carried whole → IsFront done whole
front_reached reads alone quiet done replies carried whole answered short (inl run) f = front_same done carried whole run.0 f
front_reached reads alone quiet done replies carried whole answered short (inr (inl s)) f = front_if done carried whole s.line (reads s.line) s.is f
front_reached reads alone quiet done replies carried whole answered short (inr (inr u)) f = front_less done carried whole u.line u.is f

module _ (out : List (List ℕ) → List ℕ) (done replies good : List (List ℕ)) (each : length replies ≡ length done) (same : (k : ℕ) → concat (take k replies) ≡ out (take k done)) (grows : Grows out)
    (f : IsFront done good) (lines : ℕ) (old new : Option (List ℕ)) where
  all_same : concat replies ≡ out done
  all_same = ap concat (sym (take-length replies)) ∙ same (length replies) ∙ ap (λ n. out (take n done)) each ∙ ap out (take-length done)

  out_front : (more : List ℕ) × (out good ≡ out done ++ more)
  out_front = let g = grows done f.rest in (g.0, ap out f.is ∙ g.1)

  first_lines : (k : ℕ) → k ≤ length done → take k good ≡ take k done
  first_lines k within = ap (take k) f.is ∙ take-append-le k done f.rest within

  all_done : take (length done) good ≡ done
  all_done = ap (take (length done)) f.is ∙ take-append_seam done f.rest

  few : AllWritten done replies lines old new → lines ≤ length good
  few a = let count = a.count in let size = ap length f.is in let both = length-append done f.rest in omega (arith, count, size, both)

  whole_of : good ≡ done → AllWritten done replies lines old new → Appended old new (out good)
  whole_of e a = subst (Appended old new) (all_same ∙ ap out (sym e)) a.written

  lines_of : AllWritten done replies lines old new → AppendedLines out good lines old new
  lines_of a = record {
    there = few a;
    written = subst (Appended old new) (all_same ∙ ap out (sym (ap (λ n. take n good) a.count ∙ all_done))) a.written;
    front = by old (subst (Appended old new) all_same a.written);
  } where
    by : (from : Option (List ℕ)) → Appended from new (out done) → AppendedFront from new (out good)
    by None b = tt
    by (Some base) b = (out done, out_front.0, sym out_front.1, b)

  cut_of : (alone : List ℕ → Bool) → IsCut alone done replies lines old new → AppendedCut out good lines old new
  cut_of alone c = by old c.written where
    is_cut : IsTextCut out good lines c.bytes
    is_cut =
        let within = c.within in
        record {
          back = c.back ++ out_front.0;
          front = sym (append_assoc c.bytes c.back out_front.0) ∙ ap (λ t. t ++ out_front.0) (c.front ∙ all_same) ∙ sym out_front.1;
          whole = subst (λ l. length l ≤ length c.bytes) (same lines ∙ ap out (sym (first_lines lines (omega (arith, within, each))))) c.whole;
          not_next = subst (λ l. length c.bytes < length l) (same (lines + 1) ∙ ap out (sym (first_lines (lines + 1) (omega (arith, within, each))))) c.not_next;
        }

    by : (from : Option (List ℕ)) → Appended from new c.bytes → AppendedCut out good lines from new
    by None b = tt
    by (Some base) b = (c.bytes, is_cut, b)

module _ (reads alone : List ℕ → Bool) (answered : List (List ℕ) → List (List ℕ) → Type 0) (short : List (List ℕ) → List (List ℕ) → List ℕ → Type 0) (text : List ℕ) (line lines : ℕ) (left old new : Option (List ℕ))
    (done replies carried : List (List ℕ)) where
  ran_stops : (stop : Stop) → ReachedBy stop reads alone (stop ≢ SinkFailed) done replies carried answered short → StopsBy reads text done carried stop line left → WritesBy alone done replies stop lines old new
      → TextStops reads text stop line lines left
  ran_stops End r s w = (s.0, s.2, w.count ∙ sym (ap length s.1))
  ran_stops BadLine r s w = (s.0, w.count ∙ sym (ap length s.1))
  ran_stops TooLong r s w = (s.0, w.count ∙ sym (ap length s.1))
  ran_stops SourceFailed r s w =
      let count = w.count in let size = ap length s.0.is in let both = length-append done s.0.rest in
      record {
        there = omega (arith, count, size, both);
        taken = subst (λ l. IsTaken text l left) (sym (ap (λ n. take n (good_lines_in reads text)) w.count ∙ ap (take (length done)) s.0.is ∙ take-append_seam done s.0.rest)) s.1;
      }
  ran_stops SinkFailed r s w = tt
  ran_stops Memory r s w =
      let f = front_reached reads alone (Memory ≢ SinkFailed) done replies carried (good_lines_in reads text) answered short r s in
      let count = w.count in let size = ap length f.is in let both = length-append done f.rest in
      omega (arith, count, size, both)

  module _ (out : List (List ℕ) → List ℕ) (each : length replies ≡ length done) (same : (k : ℕ) → concat (take k replies) ≡ out (take k done)) (grows : Grows out) where
    ran_writes : (stop : Stop) → ReachedBy stop reads alone (stop ≢ SinkFailed) done replies carried answered short → StopsBy reads text done carried stop line left → WritesBy alone done replies stop lines old new
        → TextWrites out (good_lines_in reads text) stop lines old new
    ran_writes End r s w = whole_of out done replies (good_lines_in reads text) each same grows (front_all done (good_lines_in reads text) s.1) lines old new s.1 w
    ran_writes BadLine r s w = whole_of out done replies (good_lines_in reads text) each same grows (front_all done (good_lines_in reads text) s.1) lines old new s.1 w
    ran_writes TooLong r s w = whole_of out done replies (good_lines_in reads text) each same grows (front_all done (good_lines_in reads text) s.1) lines old new s.1 w
    ran_writes SourceFailed r s w = lines_of out done replies (good_lines_in reads text) each same grows s.0 lines old new w
    ran_writes SinkFailed r s w =
        cut_of out done replies (good_lines_in reads text) each same grows
        (front_reached reads alone (SinkFailed ≢ SinkFailed) done replies carried (good_lines_in reads text) answered short r s) lines old new alone w
    ran_writes Memory r s w =
        lines_of out done replies (good_lines_in reads text) each same grows
        (front_reached reads alone (Memory ≢ SinkFailed) done replies carried (good_lines_in reads text) answered short r s) lines old new w

-- where a run stopped in a text, and what was written
module _ (reads alone : List ℕ → Bool) (answered : List (List ℕ) → List (List ℕ) → Type 0) (short : List (List ℕ) → List (List ℕ) → List ℕ → Type 0) (told : Option (List ℕ)) (stop : Stop) (line lines : ℕ)
    (left old new : Option (List ℕ)) (r : Ran reads alone answered short told stop line lines left old new) (text : List ℕ) (is : told ≡ Some text) where
  pub text_stops : TextStops reads text stop line lines left
  text_stops = ran_stops reads alone answered short text line lines left old new r.done r.replies r.carried stop r.reached (r.stopped text is) r.written

  pub text_writes : (out : List (List ℕ) → List ℕ) → ((k : ℕ) → concat (take k r.replies) ≡ out (take k r.done)) → Grows out → TextWrites out (good_lines_in reads text) stop lines old new
  text_writes out same grows = ran_writes reads alone answered short text line lines left old new r.done r.replies r.carried out r.each same grows stop r.reached (r.stopped text is) r.written
