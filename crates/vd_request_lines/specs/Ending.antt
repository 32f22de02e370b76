-- How the pending requests of a queue end.
use Rattle.std.specs.Prelude.{ℕ, zero, suc, ◌≡◌, List, [], ◌∷◌, ◌++◌, map, None, find}
use Rattle.std.specs.Option.{option_map, option_map_or}
use Rattle.vd_pool.specs.Memory.{PoolMemory as Pool}
use Rattle.vd_model.specs.Setting.{Setting}
use Rattle.vd_model.specs.Acts.{Act, Streaming}
use Rattle.vd_model.specs.RingTurns.{request_end_acts}
use Rattle.vd_memory_lines.specs.declared.memory.Memory.{Memory}
use Rattle.vd_memory_lines.specs.Stands.{Stands}
use Rattle.blk_driver.specs.Driver.{request_in, has_head}
use Rattle.blk_driver.specs.declared.pending.Pending.{Pending}
use Rattle.vd_request_laws.specs.Owned.{AreOwn}

-- the acts that end those with a head below n, by ascending head
abbrev pub pending_end_acts : List Streaming → List Pending → ℕ → List Act
pending_end_acts mappings ps zero = []
pending_end_acts mappings ps (suc n) = option_map_or (request_end_acts mappings) (option_map request_in (find (has_head n) ps)) [] ++ pending_end_acts mappings ps n

-- no two have the same head
abbrev pub AreLone : List Pending → Type 0
AreLone [] = Unit {0}
AreLone (p ∷ ps) = (find (has_head p.head) ps ≡ None) × AreLone ps

-- each owns what it has, and no two have the same head
pub record CanEnd (acts : List Act) (ps : List Pending) : Type 0 where
  pub own : AreOwn acts (map request_in ps)
  pub lone : AreLone ps

-- some acts are those that a memory stands for, after which they can end
pub record IsEndable (k : Memory) (m : Pool) (ps : List Pending) : Type 0 where
  pub setting : Setting
  pub acts : List Act
  pub memory : Stands setting acts k m
  pub pending : CanEnd acts ps
