-- Why no request is fetched, by why no chain is taken.
use Rattle.std.specs.Prelude.{◌≡◌, Result, Err}
use Rattle.vr_chain.specs.declared.error.WalkError.TheVariants.{Fault, Bus, Memory}
use Rattle.vr_device.specs.declared.error.PopError.{PopError}
use Rattle.vr_device.specs.declared.error.PopError.TheVariants.{Ahead, Walk}
use Rattle.blk_daemon.specs.declared.error.FetchError.{FetchError}
use Rattle.blk_daemon.specs.declared.error.FetchError.TheVariants as fetch

abbrev pub fetch_error : PopError → FetchError
fetch_error (Ahead found known) = fetch.Ahead found known
fetch_error (Walk (Fault fault)) = fetch.Fault fault
fetch_error (Walk (Bus at)) = fetch.Bus at
fetch_error (Walk Memory) = fetch.Memory

-- the answer is this one, or want of memory
abbrev pub IsUnlessMemory : {T : Type 0} → Result T FetchError → Result T FetchError → Type 0
IsUnlessMemory (Err fetch.Memory) answer = Unit {0}
IsUnlessMemory given answer = given ≡ answer
