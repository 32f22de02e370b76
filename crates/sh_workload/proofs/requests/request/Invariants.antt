-- the state before the request at the place
use Rattle.std.proofs.Common.{◌≡◌}
use Rattle.sh_workload.specs.Requests.{state_at}
use Rattle.sh_workload.proofs.requests.request.Given as goal

abbrev pub invariant-loop : goal.invariant-loop
invariant-loop l = l.generator.state ≡ state_at l.start l.driver l.counter
