-- How a request ends.
use Rattle.std.specs.Prelude.{ℕ, ◌≡◌, ◌++◌, nat_le, List, [], true, Option, Some, None, Result, Ok, Err}
use Rattle.std.specs.Option.{option_map, option_map_or}
use Rattle.vd_model.specs.Memory.{Memory}
use Rattle.vd_model.specs.Setting.{Setting}
use Rattle.vd_model.specs.Acts.{Act}
use Rattle.vd_model.specs.Live.{live_mappings}
use Rattle.vd_model.specs.RingTurns.{unmap_acts}
use Rattle.vr_driver.specs.Side.{without_chain}
use Rattle.vr_driver.specs.declared.completion.Completion.{Completion}
use Rattle.vr_driver.specs.declared.completion.UsedError.{UsedError}
use Rattle.blk_driver.specs.Driver.{Driver, pending_of, without_head, made_in, maps_in}
use Rattle.blk_driver.specs.declared.driver.Polled.{Polled}
use Rattle.blk_driver.specs.declared.pending.Pending.{Pending}

-- what a poll says of the ring alone
abbrev pub completion_of : Polled → Completion
completion_of p = record { head = p.head; len = p.len }

abbrev pub completion_in : Result (Option Polled) UsedError → Result (Option Completion) UsedError
completion_in (Ok found) = Ok (option_map completion_of found)
completion_in (Err error) = Err error

-- what it says of the request that the chain was placed for: what was made for it, and whether as many bytes were used as
-- the device was to write; a chain without a request has no buffers, and is complete
pub record IsOutcome (request : Option Pending) (p : Polled) : Type 0 where
  pub made : p.made ≡ option_map made_in request
  pub complete : p.complete ≡ option_map_or (λ r. nat_le r.writable p.len) request true

-- the driver after it: the chain is taken back, and its request is forgotten
abbrev pub driver_after : Driver → Result (Option Polled) UsedError → Driver
driver_after d (Ok (Some p)) = record (without_head p.head d) { ring = without_chain d.ring p.head }
driver_after d (Ok None) = d
driver_after d (Err error) = d

-- the mappings of the request that ended
abbrev pub maps_of : Driver → Result (Option Polled) UsedError → List ℕ
maps_of d (Ok (Some p)) = option_map_or maps_in (pending_of d p.head) []
maps_of d (Ok None) = []
maps_of d (Err error) = []

-- after the ring's calls, which keep what a memory's calls keep, these mappings were unmapped in order
pub record Ends {S : Type 0} (told : S → Option Memory) (keeps : S → S → Type 0) (stands : S → Setting → List Act → Type 0) (old new : S) (numbers : List ℕ) : Type 0 where
  pub between : S
  pub ring : keeps old between
  pub same_told : told new ≡ told between
  pub unmapped : (x : Setting) (acts : List Act) → stands between x acts → stands new x (unmap_acts (live_mappings acts) numbers ++ acts)
