-- One request more.
use Rattle.std.proofs.Common.{◌≡◌, ℕ, ◌+◌, refl, add-one}
use Rattle.sh_workload.specs.declared.counts.Counts.{Counts}
use Rattle.sh_workload.specs.Requests.{state_at, third, plan_from}
use Rattle.sh_workload.specs.Workload.{with_driver, with_plan, counts_of}

pub state_more : (start driver place : ℕ) → state_at start driver (place + 1) ≡ third (state_at start driver place)
state_more start driver place = rw (add-one place) refl

pub driver_more : (start driver : ℕ) (n : Counts) (place : ℕ) →
    with_driver start driver n (place + 1) ≡ with_plan (with_driver start driver n place) (plan_from (state_at start driver place))
driver_more start driver n place = rw (add-one place) refl

pub counts_more : (start requests driver : ℕ) → counts_of start requests (driver + 1) ≡ with_driver start driver (counts_of start requests driver) requests
counts_more start requests driver = rw (add-one driver) refl
