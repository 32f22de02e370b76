-- What contracts see of the replies that wait to be written.
use Rattle.std.specs.Prelude.{ℕ, ◌+◌, ◌<◌, ◌≤◌, ◌≡◌, List, ◌++◌, Bool, true, Option, Some, None, is_some, length, take, find, nat_lt}
use Rattle.vd_loop.specs.declared.waiting.Mark.{Mark}
use Rattle.vd_loop.specs.Written.{Appended}

-- the bytes, and where each reply ends
pub record Replies : Type 0 where
  pub bytes : List ℕ
  pub marks : List Mark

-- the reply ends behind the byte at place n
abbrev pub ends_after : ℕ → Mark → Bool
ends_after n m = nat_lt n m.end

abbrev pub before : Option Mark → ℕ
before None = 0
before (Some m) = m.before

-- how many lines stand before the one whose reply has the byte at place n
abbrev pub line_at : Replies → ℕ → ℕ
line_at w n = before (find (ends_after n) w.marks)

-- what is true of each: a reply ends behind each byte, and none behind the last
pub record IsMarked (w : Replies) : Type 0 where
  pub within : (n : ℕ) → n < length w.bytes → is_some (find (ends_after n) w.marks) ≡ true
  pub beyond : (n : ℕ) → length w.bytes ≤ n → find (ends_after n) w.marks ≡ None

-- new is old with the reply to a line before which so many others stand
pub record IsReplyAdded (reply : List ℕ) (lines : ℕ) (old new : Replies) : Type 0 where
  pub bytes : new.bytes ≡ old.bytes ++ reply
  pub kept : (n : ℕ) → n < length old.bytes → line_at new n ≡ line_at old n
  pub added : (n : ℕ) → length old.bytes ≤ n → n < length new.bytes → line_at new n ≡ lines

-- a front was written that ends within the reply to the line after so many others
pub record Cut (w : Replies) (lines : ℕ) (old new : Option (List ℕ)) : Type 0 where
  pub size : ℕ
  pub less : size < length w.bytes
  pub written : Appended old new (take size w.bytes)
  pub line : lines ≡ line_at w size

-- the replies that waited were written, or wait still
pub record Flushed (before waiting : Replies) (old new : Option (List ℕ)) : Type 0 where
  pub front : List ℕ
  pub written : Appended old new front
  pub rest : front ++ waiting.bytes ≡ before.bytes
  pub line : (n : ℕ) → n < length waiting.bytes → line_at waiting n ≡ line_at before (length front + n)
