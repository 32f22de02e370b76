use Rattle.std.proofs.Common.{◌≡◌}
use Rattle.sh_device.proofs.messages.take_end.Given as goal

abbrev pub invariant-loop : goal.invariant-loop
invariant-loop g l = l.sent ≡ l.initial.sent
