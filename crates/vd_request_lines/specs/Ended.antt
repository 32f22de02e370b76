-- A memory after a driver took back a chain.
use Rattle.std.specs.Prelude.{ℕ, ◌≡◌, ◌+◌, ◌&&◌, nat_le, nat_lt, List, ◌++◌, Bool, false, Option, Some, None, Result, Ok, Err}
use Rattle.std.specs.List.{All}
use Rattle.vd_pool.specs.Memory.{PoolMemory as Pool}
use Rattle.vd_model.specs.Setting.{Setting}
use Rattle.vd_model.specs.Acts.{Act, Streaming}
use Rattle.vd_model.specs.Live.{live_mappings}
use Rattle.vd_model.specs.RingTurns.{unmap_acts}
use Rattle.vd_domain.specs.Seen.{ring_map}
use Rattle.vd_memory_lines.specs.declared.memory.Memory.{Memory}
use Rattle.vd_memory_lines.specs.Stands.{Stands}
use Rattle.vr_driver.specs.declared.completion.UsedError.{UsedError}
use Rattle.blk_driver.specs.declared.driver.Polled.{Polled}
use Rattle.blk_driver.specs.declared.driver.Made.{Made}
use Rattle.vd_driver_port.specs.Rest.{IsAfterPuts}

-- after the ring's puts these mappings were unmapped in order
pub record Ends (old : Memory) (before : Pool) (new : Memory) (after : Pool) (numbers : List ℕ) : Type 0 where
  pub between : Memory
  pub pool : Pool
  pub ring : IsAfterPuts old between before pool
  pub same_told : ring_map new.domain ≡ ring_map between.domain
  pub unmapped : (x : Setting) (acts : List Act) → Stands x acts between pool → Stands x (unmap_acts (live_mappings acts) numbers ++ acts) new after

-- the buffers that were made for the request that ended, if one did
abbrev pub made_by : Result (Option Polled) UsedError → Option Made
made_by (Ok (Some p)) = p.made
made_by (Ok None) = None
made_by (Err error) = None

-- a buffer is one of those that were made
abbrev pub is_of : Made → ℕ → Bool
is_of made buffer = nat_le made.buffer buffer && nat_lt buffer (made.buffer + made.count)

-- no live mapping is of them
abbrev pub IsLeft : List Act → Made → Type 0
IsLeft acts made = All (λ (m : Streaming). is_of made m.want.buffer ≡ false) (live_mappings acts)
