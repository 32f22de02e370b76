-- The summary of a run: how many requests of each kind there were, and the digest of what they left.
use Rattle.std.specs.Prelude.{ℕ, zero, suc, ◌+◌, ◌*◌, ◌≤◌, ◌==◌, List, [], ◌++◌, codes, decimal, if◌then◌else◌}
use Rattle.hex.specs.Hex.{encode_lower}
use Rattle.sha2.specs.Sha256.{sha256}
use Rattle.sh_workload.specs.declared.plan.Plan.{Plan}
use Rattle.sh_workload.specs.declared.counts.Counts.{Counts}
use Rattle.sh_workload.specs.declared.options.WorkOptions.{WorkOptions}
use Rattle.sh_workload.specs.Requests.{state_at, plan_from, part_after}

-- COUNTS

abbrev pub no_requests : Counts
no_requests = record { reads = 0; writes = 0; flushes = 0; sectors = 0 }

abbrev pub one_of : ℕ → ℕ → ℕ
one_of kind k = if k == kind then 1 else 0

-- one request more; a flush has no sectors
abbrev pub with_plan : Counts → Plan → Counts
with_plan n plan = record {
  reads = n.reads + one_of 0 plan.kind;
  writes = n.writes + one_of 1 plan.kind;
  flushes = n.flushes + one_of 4 plan.kind;
  sectors = n.sectors + plan.sectors;
}

-- the first requests of a driver more
abbrev pub with_driver : ℕ → ℕ → Counts → ℕ → Counts
with_driver start driver n zero = n
with_driver start driver n (suc place) = with_plan (with_driver start driver n place) (plan_from (state_at start driver place))

-- those of each of the first drivers
abbrev pub counts_of : ℕ → ℕ → ℕ → Counts
counts_of start requests zero = no_requests
counts_of start requests (suc driver) = with_driver start driver (counts_of start requests driver) requests

-- no count is above a bound
abbrev pub AreAtMost : ℕ → Counts → Type 0
AreAtMost k n = (n.reads ≤ k) × (n.writes ≤ k) × (n.flushes ≤ k) × (n.sectors ≤ k)

-- THE LINE

-- the parts of the first drivers, one after another
abbrev pub parts_after : ℕ → ℕ → ℕ → List ℕ
parts_after start requests zero = []
parts_after start requests (suc driver) = parts_after start requests driver ++ part_after start driver requests

abbrev pub line_of : ℕ → ℕ → Counts → List ℕ → List ℕ
line_of drivers requests n digest =
    codes "drivers " ++ decimal drivers ++ codes " requests " ++ decimal (drivers * requests) ++ codes " reads " ++ decimal n.reads
    ++ codes " writes " ++ decimal n.writes ++ codes " flushes " ++ decimal n.flushes ++ codes " sectors " ++ decimal n.sectors
    ++ codes " digest " ++ encode_lower digest ++ codes "\n"

-- with a digest that stands for the parts
abbrev pub summary_with : WorkOptions → List ℕ → List ℕ
summary_with o digest = line_of o.drivers o.requests (counts_of o.start o.requests o.drivers) digest

-- the summary line of a run
abbrev pub summary_of : WorkOptions → List ℕ
summary_of o = summary_with o (sha256 (parts_after o.start o.requests o.drivers))
