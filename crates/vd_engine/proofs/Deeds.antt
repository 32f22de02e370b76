-- What was done to all devices.
use Rattle.std.proofs.Common.{◌≡◌, ℕ, false, refl, subst, ◌∙◌, sym, Option, None, Some, List, [], ◌∷◌, ◌++◌, map}
use Rattle.std.specs.List.{slice_get}
use Rattle.std.specs.Str.{bytes_eq}
use Rattle.vd_pool.specs.Memory.{PoolMemory as Pool}
use Rattle.vd_model.specs.Setting.{Setting}
use Rattle.vd_model.specs.Acts.{Act}
use Rattle.vd_model.specs.Creation.{Creation}
use Rattle.vd_model.specs.Deeds.{Deed, On, acts_of_device, made_with, devices, clock}
use Rattle.vd_instance.specs.Stands.{Stands}
use Rattle.vd_engine.specs.declared.devices.Named.{Named}
use Rattle.vd_engine.specs.Machine.{FirstIs, DeviceIs, IsThat, AllStand}
use Rattle.vd_engine.proofs.Names.{names_itself}

-- ---- acts of one name

pub acts_same : (name : List ℕ) (acts : List Act) (done : List Deed) → acts_of_device name (map (On name) acts ++ done) ≡ acts ++ acts_of_device name done
acts_same name [] done = refl
acts_same name (act ∷ acts) done = rw (names_itself name, acts_same name acts done) refl

pub acts_other : (other name : List ℕ) (acts : List Act) (done : List Deed) → bytes_eq other name ≡ false → acts_of_device other (map (On name) acts ++ done) ≡ acts_of_device other done
acts_other other name [] done h = refl
acts_other other name (act ∷ acts) done h = rw (h, acts_other other name acts done h) refl

pub made_on : (other name : List ℕ) (acts : List Act) (done : List Deed) → made_with other (map (On name) acts ++ done) ≡ made_with other done
made_on other name [] done = refl
made_on other name (act ∷ acts) done = made_on other name acts done

pub devices_on : (name : List ℕ) (acts : List Act) (done : List Deed) → devices (map (On name) acts ++ done) ≡ devices done
devices_on name [] done = refl
devices_on name (act ∷ acts) done = devices_on name acts done

pub clock_on : (name : List ℕ) (acts : List Act) (done : List Deed) → clock (map (On name) acts ++ done) ≡ clock done
clock_on name [] done = refl
clock_on name (act ∷ acts) done = clock_on name acts done

-- ---- what is found

-- over another pool, and after what leaves the name alone
pub device_moves : (x : Setting) (name : List ℕ) (done later : List Deed) (o : Option Named) (m n : Pool) → made_with name later ≡ made_with name done → acts_of_device name later ≡ acts_of_device name done
    → ((c : Named) → o ≡ Some c → (made : Creation) (acts : List Act) → Stands x made acts c.instance m → Stands x made acts c.instance n) → DeviceIs x name done o m → DeviceIs x name later o n
device_moves x name done later None m n with_made acts moves h = with_made ∙ h
device_moves x name done later (Some c) m n with_made acts moves h = record {
  made = h.made;
  with_that = with_made ∙ h.with_that;
  stands = subst (λ l. Stands x h.made l c.instance n) (sym acts) (moves c refl h.made (acts_of_device name done) h.stands);
  named = h.named;
}

-- the first of the name stands
pub found_stands : (x : Setting) (done : List Deed) (ds : List Named) (m : Pool) → AllStand x done ds m → (name : List ℕ) (i : ℕ) (d : Named) → FirstIs name ds i → slice_get ds i ≡ Some d → IsThat x name done d m
found_stands x done ds m s name i d first there = subst (λ o. DeviceIs x name done o m) (first.found ∙ there) (s.each name)
