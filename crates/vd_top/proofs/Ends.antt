-- How a run ends once the last replies are written.
use Rattle.std.proofs.Common.{◌≡◌, ◌≢◌, ℕ, ◌+◌, ◌≤◌, refl, ap, subst, sym, ◌∙◌, arith, Option, List, [], length, take, length-append, ◌⊎◌, inl, inr, true}
use Rattle.std.proofs.Math.Seq.{take-append_seam}
use Rattle.std.proofs.lemmas.Bool.Decides.{nat_tests, eqb_tells, leb_tells}
use Rattle.vd_model.specs.Setting.{Setting}
use Rattle.vd_output.specs.Out.{good_lines, stop_of, At_the_end, Not_in_grammar, Too_long, output_from, script_output}
use Rattle.vd_lines.specs.IsAt.{IsTaken}
use Rattle.vd_engine.specs.declared.engine.Engine.{Engine}
use Rattle.vd_engine.specs.Image.{IsImage}
use Rattle.vd_engine.specs.Machine.{StandsFor}
use Rattle.vd_top.specs.declared.player.Player.{Player}
use Rattle.vd_loop.specs.declared.exit.Exit.{Exit}
use Rattle.vd_loop.specs.declared.progress.Stop.{Stop}
use Rattle.vd_loop.specs.declared.progress.Stop.TheVariants.{End, SourceFailed, SinkFailed, Memory, BadLine, TooLong}
use Rattle.vd_top.specs.Executes.{AreFailures, AreUpTo}
use Rattle.vd_top.specs.Pictures.{Shown, ImageAt}
use Rattle.vd_loop.specs.Replies.{Cut}
use Rattle.vd_loop.specs.Written.{Appended}
use Rattle.vd_loop.specs.Statuses.{stop_of_status, is_status}
use Rattle.vd_top.specs.Written.{AppendedLines, StopsBy, WritesBy}
use Rattle.vd_loop.specs.Statuses.{line_of, status_of}
use Rattle.vd_top.specs.Played.{IsSetting, Played, PlayedTo, PlayedCut, most_of}
use Rattle.vd_top.proofs.Waits.{all_written, lines_of}
use Rattle.vd_top.proofs.Halts.{cut_to}

-- what a run says at its end
pub record Ends (text : List ℕ) (stop : Stop) (line lines : ℕ) (failures : List ℕ) (engine : Engine) (left held later : Option (List ℕ)) (size : ℕ) (before after : Shown) : Type 0 where
  pub stopped : StopsBy text stop line lines left
  pub numbers : AreFailures (good_lines text) failures
  pub early : AreUpTo (lines + 1) failures
  pub written : (x : Setting) → IsSetting x text engine size before → WritesBy x text failures stop lines held later
  pub image : (x : Setting) → StandsFor x [] engine → IsImage x [] size before.content → ImageAt x text failures stop lines size before after

-- the replies that waited are written
module _ (text : List ℕ) (lines : ℕ) (engine : Engine) (p : Player) (left held now next : Option (List ℕ)) (size : ℕ) (before after : Shown) (a : Appended now next p.waiting.bytes) where
  module _ (stop : Stop) (g : PlayedTo text stop lines engine p left held now size before after) where
    within : lines ≤ length (good_lines text)
    within = let total = ap length g.first in let both = length-append g.done g.rest in let count = g.count in omega (arith, count, total, both)

    whole : good_lines text ≡ g.done → (x : Setting) → IsSetting x text engine size before → Appended held next (script_output x text p.failures.items)
    whole are x s =
        subst (λ l. Appended held next (output_from p.failures.items x 1 [] l)) (sym are)
        (all_written x p.failures.items g.done p.waiting held now (g.waits x s) text g.rest g.first next a)

    part : (x : Setting) → IsSetting x text engine size before → AppendedLines x text p.failures.items lines held next
    part x s = lines_of x p.failures.items g.done p.waiting held now (g.waits x s) text g.rest g.first next lines g.count a

    front_is : take lines (good_lines text) ≡ g.done
    front_is = ap (λ n. take n (good_lines text)) g.count ∙ ap (take (length g.done)) g.first ∙ take-append_seam g.done g.rest

  stops_by : (stop : Stop) → PlayedTo text stop lines engine p left held now size before after → StopsBy text stop (line_of stop lines) lines left
  stops_by End g = (g.stops.0, g.stops.2, g.count ∙ sym (ap length g.stops.1))
  stops_by BadLine g = (g.stops.0 ∙ ap (λ n. Not_in_grammar (n + 1)) (sym g.count), g.count ∙ sym (ap length g.stops.1))
  stops_by TooLong g = (g.stops.0 ∙ ap (λ n. Too_long (n + 1)) (sym g.count), g.count ∙ sym (ap length g.stops.1))
  stops_by SourceFailed g = record { there = within SourceFailed g; taken = subst (λ l. IsTaken text l left) (sym (front_is SourceFailed g)) g.stops }
  stops_by SinkFailed g = tt
  stops_by Memory g = within Memory g

  writes_by : (stop : Stop) → PlayedTo text stop lines engine p left held now size before after → (x : Setting) → IsSetting x text engine size before → WritesBy x text p.failures.items stop lines held next
  writes_by End g x s = whole End g g.stops.1 x s
  writes_by BadLine g x s = whole BadLine g g.stops.1 x s
  writes_by TooLong g x s = whole TooLong g g.stops.1 x s
  writes_by SourceFailed g x s = part SourceFailed g x s
  writes_by SinkFailed g x s = absurd g.stops
  writes_by Memory g x s = part Memory g x s

  image_at : (stop : Stop) → PlayedTo text stop lines engine p left held now size before after → (x : Setting) → StandsFor x [] engine → IsImage x [] size before.content → ImageAt x text p.failures.items stop lines size before after
  image_at End g x s i = record { run = lines; near = refl; there = within End g; holds = g.image x s i lines g.is_last.low (inr (omega arith)) }
  image_at BadLine g x s i = record { run = lines; near = refl; there = within BadLine g; holds = g.image x s i lines g.is_last.low (inr (omega arith)) }
  image_at TooLong g x s i = record { run = lines; near = refl; there = within TooLong g; holds = g.image x s i lines g.is_last.low (inr (omega arith)) }
  image_at SourceFailed g x s i = record { run = lines; near = refl; there = within SourceFailed g; holds = g.image x s i lines g.is_last.low (inr (omega arith)) }
  image_at SinkFailed g x s i = absurd g.stops
  image_at Memory g x s i = elim (leb_tells g.last lines) [
    | inl low ↦ record { run = lines; near = inl refl; there = within Memory g; holds = g.image x s i lines low.1 (inr (omega arith)) }
    | inr high ↦
        (let above = high.1 in let below = g.is_last.low in
        record { run = g.last; near = inr (omega (arith, above, below)); there = g.there; holds = g.image x s i g.last (omega arith) (inl refl) })
  ]

  most_small : (stop : Stop) → most_of stop lines ≤ lines + 1
  most_small End = omega arith
  most_small SourceFailed = omega arith
  most_small SinkFailed = omega arith
  most_small Memory = omega arith
  most_small BadLine = omega arith
  most_small TooLong = omega arith

  ends_to : (stop : Stop) → PlayedTo text stop lines engine p left held now size before after → Ends text stop (line_of stop lines) lines p.failures.items engine left held next size before after
  ends_to stop g = record {
    stopped = stops_by stop g;
    numbers = g.numbers;
    early = λ n e. let early = g.is_last.early n e in let low = g.is_last.low in let most = most_small stop in omega (arith, early, low, most);
    written = writes_by stop g;
    image = image_at stop g;
  }

  pub ends_written : (stop : Stop) → stop ≢ SinkFailed → Played text stop lines engine p left held now size before after → Ends text stop (line_of stop lines) lines p.failures.items engine left held next size before after
  ends_written End other g = ends_to End g
  ends_written SourceFailed other g = ends_to SourceFailed g
  ends_written SinkFailed other g = absurd (other refl)
  ends_written Memory other g = ends_to Memory g
  ends_written BadLine other g = ends_to BadLine g
  ends_written TooLong other g = ends_to TooLong g

-- the sink failed
pub ends_sink : (text : List ℕ) (lines : ℕ) (engine : Engine) (failures : List ℕ) (left held later : Option (List ℕ)) (size : ℕ) (before after : Shown) → PlayedCut text failures lines engine held later size before after
    → Ends text SinkFailed 0 lines failures engine left held later size before after
ends_sink text lines engine failures left held later size before after c =
    record { stopped = tt; numbers = c.numbers; early = c.early; written = c.cut; image = c.image }

pub ends_cut : (text : List ℕ) (lines : ℕ) (engine : Engine) (p : Player) (left held now next : Option (List ℕ)) (size : ℕ) (before after : Shown) (written : ℕ) (stop : Stop) → stop ≢ SinkFailed
    → Played text stop lines engine p left held now size before after → Cut p.waiting written now next → Ends text SinkFailed 0 written p.failures.items engine left held next size before after
ends_cut text lines engine p left held now next size before after written stop other g c = ends_sink text written engine p.failures.items left held next size before after (by stop other g) where
  by : (stop : Stop) → stop ≢ SinkFailed → Played text stop lines engine p left held now size before after → PlayedCut text p.failures.items written engine held next size before after
  by End other g = cut_to text End lines engine p left held now size before after g written next c
  by SourceFailed other g = cut_to text SourceFailed lines engine p left held now size before after g written next c
  by SinkFailed other g = absurd (other refl)
  by Memory other g = cut_to text Memory lines engine p left held now size before after g written next c
  by BadLine other g = cut_to text BadLine lines engine p left held now size before after g written next c
  by TooLong other g = cut_to text TooLong lines engine p left held now size before after g written next c

-- an end that tells the stop and the lines
pub ends_by : (text : List ℕ) (stop : Stop) (lines : ℕ) (e : Exit) (failures : List ℕ) (engine : Engine) (left held later : Option (List ℕ)) (size : ℕ) (before after : Shown) → stop_of_status e.status ≡ stop
    → e.line ≡ line_of stop lines → e.lines_done ≡ lines → e.disk_failures ≡ failures → Ends text stop (line_of stop lines) lines failures engine left held later size before after
    → Ends text (stop_of_status e.status) e.line e.lines_done e.disk_failures engine left held later size before after
ends_by text stop lines e failures engine left held later size before after is line done fails ends =
    subst (λ s. Ends text s e.line e.lines_done e.disk_failures engine left held later size before after) (sym is)
    (subst (λ n. Ends text stop n e.lines_done e.disk_failures engine left held later size before after) (sym line)
    (subst (λ n. Ends text stop (line_of stop lines) n e.disk_failures engine left held later size before after) (sym done)
    (subst (λ l. Ends text stop (line_of stop lines) lines l engine left held later size before after) (sym fails) ends)))

-- ---- statuses

pub known_status : (stop : Stop) → is_status (status_of stop) ≡ true
known_status End = refl
known_status SourceFailed = refl
known_status SinkFailed = refl
known_status Memory = refl
known_status BadLine = refl
known_status TooLong = refl

pub status_three : (stop : Stop) → status_of stop ≡ 3 → stop ≡ SourceFailed
status_three End e = absurd (omega arith)
status_three SourceFailed e = refl
status_three SinkFailed e = absurd (omega arith)
status_three Memory e = absurd (omega arith)
status_three BadLine e = absurd (omega arith)
status_three TooLong e = absurd (omega arith)

pub status_four : (stop : Stop) → status_of stop ≡ 4 → stop ≡ SinkFailed
status_four End e = absurd (omega arith)
status_four SourceFailed e = absurd (omega arith)
status_four SinkFailed e = refl
status_four Memory e = absurd (omega arith)
status_four BadLine e = absurd (omega arith)
status_four TooLong e = absurd (omega arith)

-- without a fault, a text whose lines are all good ends with 0, or for want of memory
nat_tells : (a b : ℕ) → (a ≡ b) ⊎ (a ≢ b)
nat_tells a b = elim (eqb_tells a b) [ inl h ↦ inl h.1 | inr h ↦ inr h.1 ]

pub complete : (text : List ℕ) (status line lines : ℕ) (left : Option (List ℕ)) → is_status status ≡ true → StopsBy text (stop_of_status status) line lines left
    → stop_of text ≡ At_the_end → (status ≡ 3 → ⊥) → (status ≡ 4 → ⊥) → (status ≡ 0) ⊎ (status ≡ 5)
complete text status line lines left known ends whole source sink = by (nat_tells status 6) (nat_tells status 7) where
  bad : status ≡ 6 → ⊥
  bad six = let e = subst (λ s. StopsBy text (stop_of_status s) line lines left) six ends in let f : Not_in_grammar line ≡ At_the_end = sym e.0 ∙ whole in cc

  long : status ≡ 7 → ⊥
  long seven = let e = subst (λ s. StopsBy text (stop_of_status s) line lines left) seven ends in let f : Too_long line ≡ At_the_end = sym e.0 ∙ whole in cc

  rest : (status ≡ 6 → ⊥) → (status ≡ 7 → ⊥) → ((status ≡ 0) ⊎ (status ≢ 0)) → (status ≡ 0) ⊎ (status ≡ 5)
  rest six seven (inl zero) = inl zero
  rest six seven (inr other) = inr (let five : status ≡ 5 = grind (arith, nat_tests, known, other, source, sink, six, seven) in five)

  by : ((status ≡ 6) ⊎ (status ≢ 6)) → ((status ≡ 7) ⊎ (status ≢ 7)) → (status ≡ 0) ⊎ (status ≡ 5)
  by (inl six) seven = absurd (bad six)
  by (inr six) (inl seven) = absurd (long seven)
  by (inr six) (inr seven) = rest six seven (nat_tells status 0)
