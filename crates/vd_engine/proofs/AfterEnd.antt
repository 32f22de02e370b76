-- All devices after one was destroyed.
use Rattle.std.proofs.Common.{◌≡◌, ℕ, Bool, true, false, refl, ap, subst, ◌∙◌, sym, arith, Option, None, Some, cond, List, ◌∷◌, find}
use Rattle.std.specs.List.{slice_get, remove}
use Rattle.std.specs.Str.{bytes_eq}
use Rattle.std.proofs.lemmas.List.Edits.{length-remove}
use Rattle.vd_pool.specs.Memory.{PoolMemory as Pool}
use Rattle.vd_bounce.specs.Frames.{Keeps}
use Rattle.vd_model.specs.Setting.{Setting}
use Rattle.vd_model.specs.Deeds.{Deed, Destroyed, made_with}
use Rattle.vd_instance.specs.Stands.{frames}
use Rattle.vd_engine.specs.declared.devices.Named.{Named}
use Rattle.vd_engine.specs.Machine.{is_named, FirstIs, DeviceIs, AllStand}
use Rattle.vd_engine.proofs.Names.{find_none, find_remove_miss, named_is, place_before, removed_at, place_differs, places_differ}
use Rattle.vd_engine.proofs.Held.{held_removed}
use Rattle.vd_engine.proofs.AfterLine.{is_name, not_that, others_move}

module _ (x : Setting) (done : List Deed) (ds : List Named) (m : Pool) (s : AllStand x done ds m) (name : List ℕ) (i : ℕ) (d : Named) (first : FirstIs name ds i) (there : slice_get ds i ≡ Some d)
    (rows : List (Option ℕ)) (n : Pool) (keeps : Keeps (frames d.instance) rows m n) where
  -- no device is left that has the name
  left : (k : ℕ) (c : Named) → slice_get (remove ds i) k ≡ Some c → is_named name c ≡ false
  left k c at = by (is_named name c) refl where
    by : (b : Bool) → is_named name c ≡ b → is_named name c ≡ false
    by false e = e
    by true e = absurd (s.once (place_before i k) i c d (place_differs i k) (sym (removed_at ds i k) ∙ at) there (sym (named_is name c.name e) ∙ is_name x done ds m s name i d first there rows n keeps))

  pub all_gone : AllStand x (Destroyed name ∷ done) (remove ds i) n
  all_gone = record {
    each = λ other. each other (bytes_eq other name) refl;
    count = (let less = length-remove ds i first.within in let all = s.count in omega arith);
    once = λ j k c e differ atj atk. s.once (place_before i j) (place_before i k) c e (places_differ i j k differ) (sym (removed_at ds i j) ∙ atj) (sym (removed_at ds i k) ∙ atk);
    frames = held_removed ds m n s.frames i d there rows keeps;
  } where
    each : (other : List ℕ) (b : Bool) → bytes_eq other name ≡ b → DeviceIs x other (Destroyed name ∷ done) (find (is_named other) (remove ds i)) n
    each other true e =
        let none : find (is_named other) (remove ds i) ≡ None = subst (λ o. find (is_named o) (remove ds i) ≡ None) (sym (named_is other name e)) (find_none (is_named name) (remove ds i) left) in
        subst (λ o. DeviceIs x other (Destroyed name ∷ done) o n) (sym none) (ap (λ b. cond b None (made_with other done)) e)
    each other false e =
        subst (λ o. DeviceIs x other (Destroyed name ∷ done) o n) (sym (find_remove_miss (is_named other) ds i d there (not_that x done ds m s name i d first there rows n keeps other e)))
        (others_move x done ds m s name i d first there rows n keeps other (Destroyed name ∷ done) e (ap (λ b. cond b None (made_with other done)) e) refl)
