-- each byte so far is its own
use Rattle.std.proofs.Common.{◌≡◌, ◌<◌, ℕ, get_or}
use Rattle.sh_workload.specs.Requests.{byte_of}
use Rattle.sh_workload.proofs.requests.fill.Given as goal

abbrev pub invariant-loop-j : goal.invariant-loop-j
invariant-loop-j l = (k : ℕ) → k < l.j → get_or l.bytes k 0 ≡ byte_of l.driver l.place k
