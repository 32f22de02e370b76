-- The requests of each driver of a run, and what they leave of its part of the image.
use Rattle.std.specs.Prelude.{ℕ, zero, suc, ◌+◌, ◌-◌, ◌*◌, ◌%◌, ◌==◌, nat_lt, List, [], false, replicate, slice_index, if◌then◌else◌}
use Rattle.vd_model.specs.Block.{Block, Disk, result_of}
use Rattle.vd_model.specs.Puts.{each_from}
use Rattle.vd_io.specs.Sectors.{with_sectors}
use Rattle.sh_workload.specs.declared.plan.Plan.{Plan}
use Rattle.sh_workload.specs.declared.requests.WorkRequest.{WorkRequest}
use Rattle.sh_workload.specs.Generator.{first_state, stepped, drawn}

-- WHAT IS ASKED

-- four in eight are writes, three reads, and one a flush: their types are 1, 0 and 4
abbrev pub kind_by : ℕ → ℕ
kind_by a = if nat_lt (a % 8) 4 then 1 else if nat_lt (a % 8) 7 then 0 else 4

-- a read or a write has one to four sectors, and lies in the 128 of its driver's part
abbrev pub plan_by : ℕ → ℕ → ℕ → Plan
plan_by a b c =
    if kind_by a == 4 then record { kind = 4; sector = 0; sectors = 0 }
    else record { kind = kind_by a; sector = c % (129 - (1 + b % 4)); sectors = 1 + b % 4 }

-- the state after the three draws of a request, and the request that they give
abbrev pub third : ℕ → ℕ
third x = stepped (stepped (stepped x))

abbrev pub plan_from : ℕ → Plan
plan_from x = plan_by (drawn (stepped x)) (drawn (stepped (stepped x))) (drawn (third x))

-- the state before a driver's request at a place, counted from 0
abbrev pub state_at : ℕ → ℕ → ℕ → ℕ
state_at start driver zero = first_state start driver
state_at start driver (suc place) = third (state_at start driver place)

-- the bytes of a write; the other kinds have none
abbrev pub byte_of : ℕ → ℕ → ℕ → ℕ
byte_of driver place j = (31 * driver + 7 * place + j) % 256

abbrev pub bytes_of : Plan → ℕ → ℕ → List ℕ
bytes_of plan driver place = if plan.kind == 1 then each_from (byte_of driver place) 0 (512 * plan.sectors) else []

abbrev pub request_by : Plan → ℕ → ℕ → WorkRequest
request_by plan driver place = record { kind = plan.kind; sector = plan.sector; sectors = plan.sectors; bytes = bytes_of plan driver place }

-- a driver's request at a place, in a run that begins at a number
abbrev pub request_at : ℕ → ℕ → ℕ → WorkRequest
request_at start driver place = request_by (plan_from (state_at start driver place)) driver place

-- WHAT IT LEAVES

-- how many bytes the device writes: a read's, and the status
abbrev pub answer_len : WorkRequest → ℕ
answer_len r = if r.kind == 0 then 512 * r.sectors + 1 else 1

abbrev pub asked_block : WorkRequest → Block
asked_block r = record { kind = r.kind; sector = r.sector; payload = r.bytes; writable = answer_len r }

-- what the device of a run offers: bits 9, 29, 32 and 33
abbrev pub offered : ℕ
offered = 13421773312

-- a driver's part of the image, as a disk of its own
abbrev pub part_disk : List ℕ → Disk
part_disk part = record { sectors = 128; byte = λ i. slice_index part i; features = offered; name = [] }

abbrev pub applied : WorkRequest → List ℕ → List ℕ
applied r part = if (result_of (part_disk part) (asked_block r) false).stores then with_sectors r.sector r.bytes part else part

-- a driver's part after so many of its requests, which begins as zeros
abbrev pub part_after : ℕ → ℕ → ℕ → List ℕ
part_after start driver zero = replicate 65536 0
part_after start driver (suc place) = applied (request_at start driver place) (part_after start driver place)
