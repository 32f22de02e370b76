-- What a memory and a queue stand for before a line and after it.
use Rattle.std.specs.Prelude.{ℕ, List, ◌++◌, Option}
use Rattle.vd_pool.specs.Memory.{PoolMemory as Pool}
use Rattle.vd_model.specs.Setting.{Setting}
use Rattle.vd_model.specs.Acts.{Act}
use Rattle.vd_memory_lines.specs.declared.memory.Memory.{Memory}
use Rattle.vd_memory_lines.specs.Stands.{Stands}
use Rattle.vd_request_lines.specs.declared.held.HeldDriver.{HeldDriver}
use Rattle.vd_request_lines.specs.Stands.{RequestsStand}
use Rattle.vd_request_laws.specs.Owned.{QueueOwned}

-- both stand for these acts after those before the line
pub record After (x : Setting) (done : List Act) (q : ℕ) (k : Memory) (m : Pool) (kept : Option HeldDriver) (acts : List Act) : Type 0 where
  pub memory : Stands x (acts ++ done) k m
  pub requests : RequestsStand (acts ++ done) q kept

-- some acts are those that both stand for, after which the queue's requests own what they have
pub record IsHeld (k : Memory) (m : Pool) (kept : Option HeldDriver) : Type 0 where
  pub setting : Setting
  pub acts : List Act
  pub queue : ℕ
  pub memory : Stands setting acts k m
  pub requests : RequestsStand acts queue kept
  pub owned : QueueOwned acts queue

-- some acts are those that both stand for, over some pool
pub record IsKept (k : Memory) (kept : Option HeldDriver) : Type 0 where
  pub setting : Setting
  pub acts : List Act
  pub pool : Pool
  pub queue : ℕ
  pub memory : Stands setting acts k pool
  pub requests : RequestsStand acts queue kept
