-- Which history an engine stands for.
use Rattle.std.specs.Prelude.{ℕ, ◌<◌, ◌≡◌, ◌≢◌, List, length, Bool, true, false, Option, Some, None, All, find, slice_get}
use Rattle.std.specs.List.{sum_by}
use Rattle.std.specs.Str.{bytes_eq}
use Rattle.vd_pool.specs.Memory.{PoolMemory as Pool}
use Rattle.vd_bounce.specs.Frames.{frame_of, held_count}
use Rattle.vd_model.specs.Setting.{Setting}
use Rattle.vd_model.specs.Creation.{Creation}
use Rattle.vd_model.specs.Deeds.{Deed, acts_of_device, made_with, devices, clock}
use Rattle.vd_model.specs.History.{History, deeds_of}
use Rattle.vd_device.specs.Sizes.{AreFit, IsSized}
use Rattle.vd_instance.specs.Stands.{Stands, IsHeld, IsNamed, IsWithin, frames}
use Rattle.vd_engine.specs.declared.devices.Named.{Named}
use Rattle.vd_engine.specs.declared.engine.Engine.{Engine}
use Rattle.vd_engine.specs.Windows.{HasWindows}

abbrev pub is_named : List ℕ → Named → Bool
is_named name d = bytes_eq name d.name

-- no device has the name; the first that has it is at place i
abbrev pub NoneIs : List ℕ → List Named → Type 0
NoneIs name ds = find (is_named name) ds ≡ None

pub record FirstIs (name : List ℕ) (ds : List Named) (i : ℕ) : Type 0 where
  pub within : i < length ds
  pub found : find (is_named name) ds ≡ slice_get ds i
  pub named : (d : Named) → slice_get ds i ≡ Some d → is_named name d ≡ true
  pub before : (k : ℕ) (d : Named) → k < i → slice_get ds k ≡ Some d → is_named name d ≡ false

-- a device stands for its name's acts
pub record IsThat (x : Setting) (name : List ℕ) (done : List Deed) (d : Named) (m : Pool) : Type 0 where
  pub made : Creation
  pub with_that : made_with name done ≡ Some made
  pub stands : Stands x made (acts_of_device name done) d.instance m
  pub named : IsNamed name d.instance

-- what is found under a name stands for that name's acts
abbrev pub DeviceIs : Setting → List ℕ → List Deed → Option Named → Pool → Type 0
DeviceIs x name done None m = made_with name done ≡ None
DeviceIs x name done (Some d) m = IsThat x name done d m

-- no frame is one of both rows
abbrev pub AreApart : List (Option ℕ) → List (Option ℕ) → Type 0
AreApart rows others = (p q f : ℕ) → frame_of rows p ≡ Some f → frame_of others q ≡ Some f → ⊥

-- each device holds frames of the pool, and no two the same
pub record AreHeld (ds : List Named) (m : Pool) : Type 0 where
  pub held : (i : ℕ) (d : Named) → slice_get ds i ≡ Some d → IsHeld d.instance m
  pub apart : (i j : ℕ) (c d : Named) → i ≢ j → slice_get ds i ≡ Some c → slice_get ds j ≡ Some d → AreApart (frames c.instance) (frames d.instance)

-- how many frames the devices hold
abbrev pub frames_out : List Named → ℕ
frames_out ds = sum_by (λ d. held_count (frames d.instance)) ds

-- all devices, over one pool, stand for what was done to all, each under a name of its own
pub record AllStand (x : Setting) (done : List Deed) (ds : List Named) (m : Pool) : Type 0 where
  pub each : (name : List ℕ) → DeviceIs x name done (find (is_named name) ds) m
  pub count : length ds ≡ devices done
  pub once : (i j : ℕ) (c d : Named) → i ≢ j → slice_get ds i ≡ Some c → slice_get ds j ≡ Some d → c.name ≢ d.name
  pub frames : AreHeld ds m

-- the engine stands for what was done, and no count of a device is above this number
pub record StandsAt (x : Setting) (done : List Deed) (most : ℕ) (e : Engine) : Type 0 where
  pub sizes : IsSized x e.sizes
  pub fit : AreFit e.sizes
  pub sectors : e.sectors ≡ x.sectors
  pub windows : HasWindows done e.sectors e.windows.items
  pub page : e.pool.per_page ≡ e.sizes.per_page
  pub now : e.now ≡ clock done
  pub devices : AllStand x done e.devices.items e.pool
  pub counts : All (λ d. IsWithin most d.instance) e.devices.items

-- the engine stands for a history
pub record StandsFor (x : Setting) (h : History) (e : Engine) : Type 0 where
  pub asked : e.asked ≡ length h
  pub stands : StandsAt x (deeds_of x h) e.asked e

-- it stands for something that was done
pub record IsReached (e : Engine) : Type 0 where
  pub setting : Setting
  pub done : List Deed
  pub stands : StandsAt setting done e.asked e
