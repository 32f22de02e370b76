-- A domain after puts of the driver into coherent memory alone.
use Rattle.std.specs.Prelude.{ℕ, ◌≡◌, ◌+◌, ◌<◌, ◌≤◌, List, [], ◌∷◌, ◌++◌, length, true}
use Rattle.vd_pool.specs.Memory.{PoolMemory as Pool}
use Rattle.vd_model.specs.Setting.{Setting}
use Rattle.vd_model.specs.Acts.{Act, Driver, Driver_put}
use Rattle.vd_model.specs.Memory.{Memory, written}
use Rattle.vd_domain.specs.Held.{Held, SameCounts}
use Rattle.vd_domain.specs.Handed.{is_coherent}
use Rattle.vd_domain.specs.Stands.{Stands}

-- a put of the driver at addresses of coherent regions
abbrev pub IsRingPut : List Act → Act → Type 0
IsRingPut done (Driver (Driver_put at bytes)) = (a : ℕ) → at ≤ a → a < at + length bytes → is_coherent done a ≡ true
IsRingPut done _ = ⊥

abbrev pub AreRingPuts : List Act → List Act → Type 0
AreRingPuts done [] = Unit {0}
AreRingPuts done (act ∷ puts) = IsRingPut done act × AreRingPuts done puts

pub record RingPutsAfter (x : Setting) (done : List Act) (h : Held) (m : Pool) : Type 0 where
  pub puts : List Act
  pub only : AreRingPuts done puts
  pub stands : Stands x (puts ++ done) h m

-- whatever acts a domain stands for, over whatever pool, another stands for such puts after them
pub record IsAfterRingPuts (h k : Held) : Type 0 where
  pub after : (x : Setting) (done : List Act) (m : Pool) → Stands x done h m → RingPutsAfter x done k m
  pub bounce : k.bounce ≡ h.bounce
  pub counts : SameCounts h k

-- some acts are those that it stands for, over some pool
pub record IsRingReached (h : Held) : Type 0 where
  pub setting : Setting
  pub acts : List Act
  pub pool : Pool
  pub stands : Stands setting acts h pool

-- memory after puts of the driver, the newest first
abbrev pub after_puts : Memory → List Act → Memory
after_puts m [] = m
after_puts m (Driver (Driver_put at bytes) ∷ acts) = written (after_puts m acts) at bytes
after_puts m (_ ∷ acts) = after_puts m acts
