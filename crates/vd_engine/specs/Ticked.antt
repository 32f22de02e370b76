-- What a tick leaves of devices.
use Rattle.std.specs.Prelude.{ℕ, ◌≡◌, List, ◌∷◌, length, Some, slice_get}
use Rattle.vd_pool.specs.Memory.{PoolMemory as Pool}
use Rattle.vd_model.specs.Setting.{Setting}
use Rattle.vd_model.specs.Creation.{Creation}
use Rattle.vd_model.specs.Acts.{Act, Message_act}
use Rattle.vd_model.specs.Messages.{Elapsed}
use Rattle.vd_instance.specs.Stands.{Stands, IsNamed, IsWithin}
use Rattle.vd_engine.specs.declared.devices.Named.{Named}

-- the device was told the time, and is as it was else
pub record IsTicked (now : ℕ) (old new : Named) : Type 0 where
  pub name : new.name ≡ old.name
  pub stands : (x : Setting) (made : Creation) (done : List Act) (m : Pool) → Stands x made done old.instance m → Stands x made (Message_act (Elapsed now) ∷ done) new.instance m
  pub memory : new.instance.device.memory ≡ old.instance.device.memory
  pub named : (name : List ℕ) → IsNamed name old.instance → IsNamed name new.instance
  pub within : (most : ℕ) → IsWithin most old.instance → IsWithin most new.instance

-- each was
pub record AreTicked (now : ℕ) (old new : List Named) : Type 0 where
  pub count : length new ≡ length old
  pub each : (i : ℕ) (c d : Named) → slice_get old i ≡ Some c → slice_get new i ≡ Some d → IsTicked now c d
