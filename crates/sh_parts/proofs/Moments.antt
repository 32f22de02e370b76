-- The messages' journal with one entry more.
use Rattle.std.proofs.Common.{◌≡◌, ◌≢◌, ℕ, ◌≤◌, List, [], ◌∷◌, ◌++◌, arith, refl, reverse}
use Rattle.std.proofs.lemmas.List.{reverse-append}
use Rattle.sh_parts.specs.declared.entry.Entry.{Entry}
use Rattle.sh_parts.specs.declared.entry.Entry.TheVariants as entry
use Rattle.sh_parts.specs.declared.entry.MessageStep.{MessageStep}
use Rattle.sh_parts.specs.declared.entry.MessageStep.TheVariants as message
use Rattle.sh_parts.specs.declared.entry.JournalKind.TheVariants as kind
use Rattle.sh_parts.specs.Legal.{Numbers, AreRight, IsMoment, now_of, NoneLater}

-- the newest first, the last entry is the first
pub newest : {A : Type 0} (xs : List A) (x : A) → reverse (xs ++ x ∷ []) ≡ x ∷ reverse xs
newest xs x = reverse-append xs (x ∷ [])

later_up : (m n : ℕ) (before : List Entry) → m ≤ n → NoneLater m before → NoneLater n before
later_up m n [] le a = tt
later_up m n (entry.Domain step answer ∷ before) le a = later_up m n before le a
later_up m n (entry.Message (message.Send body) moment answer ∷ before) le a = later_up m n before le a
later_up m n (entry.Message message.Recv moment answer ∷ before) le a = later_up m n before le a
later_up m n (entry.Message (message.Answer id result avail) moment answer ∷ before) le a = later_up m n before le a
later_up m n (entry.Message message.Lost moment answer ∷ before) le a = later_up m n before le a
later_up m n (entry.Message message.Tick moment answer ∷ before) le a = let first = a.0 in (omega arith, later_up m n before le a.1)
later_up m n (entry.Message (message.Take id) moment answer ∷ before) le a = later_up m n before le a

-- the last tick has the greatest moment
pub none_later : (x : Numbers) (before : List Entry) → AreRight x kind.Messages before → NoneLater (now_of before) before
none_later x [] a = tt
none_later x (entry.Domain step answer ∷ before) a = absurd a.0
none_later x (entry.Message (message.Send body) moment answer ∷ before) a = none_later x before a.1
none_later x (entry.Message message.Recv moment answer ∷ before) a = none_later x before a.1
none_later x (entry.Message (message.Answer id result avail) moment answer ∷ before) a = none_later x before a.1
none_later x (entry.Message message.Lost moment answer ∷ before) a = none_later x before a.1
none_later x (entry.Message message.Tick moment answer ∷ before) a = (omega arith, later_up (now_of before) moment before a.0.0 (none_later x before a.1))
none_later x (entry.Message (message.Take id) moment answer ∷ before) a = none_later x before a.1

-- time stands still but for ticks
pub moment_now : (before : List Entry) (step : MessageStep) → step ≢ message.Tick → IsMoment before step (now_of before)
moment_now before (message.Send body) other = refl
moment_now before message.Recv other = refl
moment_now before (message.Answer id result avail) other = refl
moment_now before message.Lost other = refl
moment_now before message.Tick other = absurd (other refl)
moment_now before (message.Take id) other = refl
