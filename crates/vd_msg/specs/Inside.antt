-- The lists as they are kept.
use Rattle.std.specs.Prelude.{ℕ, ◌+◌, ◌≤◌}
use Rattle.std.specs.VecDeque.{deque_len, deque_capacity}
use Rattle.vd_msg.specs.declared.messages.Messages.TheInside.{Inside}
use Rattle.vd_msg.specs.Lists.{Lists}

-- what is kept, without the room
abbrev pub lists_of : Inside → Lists
lists_of m = record {
  timeout = m.timeout;
  next = m.next;
  broken = m.broken;
  waiting = m.waiting.items;
  held = m.held.items;
  ended = m.ended.items;
}

-- the messages that are kept
abbrev pub kept_count : Inside → ℕ
kept_count m = deque_len m.held + deque_len m.waiting + deque_len m.ended

-- each list has room for all that is kept, which has an id below the next
pub record HasRoom (m : Inside) : Type 0 where
  pub ids : kept_count m ≤ m.next
  pub few : kept_count m ≤ m.room
  pub waiting : m.room ≤ deque_capacity m.waiting
  pub held : m.room ≤ deque_capacity m.held
  pub ended : m.room ≤ deque_capacity m.ended
