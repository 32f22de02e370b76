use Rattle.std.proofs.Common.{◌≡◌, ◌+◌, ◌++◌, map}
use Rattle.std.specs.VecDeque.{deque_len, deque_capacity}
use Rattle.vd_msg.specs.Lists.{timeout_end}
use Rattle.vd_msg.proofs.lists.fail_all.Given as goal

abbrev pub invariant-loop-message : goal.invariant-loop-message
invariant-loop-message l = record {
  items : l.ended.items ++ map (timeout_end l.deadline l.now) l.list.items ≡ l.initial.ended.items ++ map (timeout_end l.deadline l.now) l.initial.list.items;
  lens : deque_len l.ended + deque_len l.list ≡ deque_len l.initial.ended + deque_len l.initial.list;
  room : deque_capacity l.ended ≡ deque_capacity l.initial.ended;
  other_room : deque_capacity l.list ≡ deque_capacity l.initial.list;
}

abbrev pub decreases-loop-message : goal.decreases-loop-message
decreases-loop-message l = deque_len l.list
