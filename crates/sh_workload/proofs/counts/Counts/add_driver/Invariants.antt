-- the counts after so many requests of the driver
use Rattle.std.proofs.Common.{◌≡◌, ◌+◌, ◌*◌, ℕ}
use Rattle.sh_workload.specs.Requests.{state_at}
use Rattle.sh_workload.specs.Workload.{with_driver, AreAtMost}
use Rattle.sh_workload.proofs.counts.Counts.add_driver.Given as goal

abbrev pub invariant-loop : goal.invariant-loop
invariant-loop l =
    (l.self ≡ with_driver l.start l.driver l.initial.self l.counter)
    × (l.generator.state ≡ state_at l.start l.driver l.counter)
    × ((k : ℕ) → AreAtMost k l.initial.self → AreAtMost (k + 4 * l.counter) l.self)
