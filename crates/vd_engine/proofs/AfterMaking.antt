-- All devices after one was made.
use Rattle.std.proofs.Common.{◌≡◌, ◌≢◌, ℕ, ◌+◌, Bool, true, false, refl, ap, subst, ◌∙◌, sym, Some, cond, List, [], ◌∷◌, ◌++◌, length-append, find, map, inl, inr, true≢false}
use Rattle.std.specs.List.{slice_get}
use Rattle.std.specs.Str.{bytes_eq}
use Rattle.std.proofs.lemmas.List.{append-nil}
use Rattle.vd_pool.specs.Memory.{PoolMemory as Pool}
use Rattle.vd_bounce.specs.Frames.{frame_of}
use Rattle.vd_model.specs.Setting.{Setting}
use Rattle.vd_model.specs.Acts.{Act}
use Rattle.vd_model.specs.Creation.{Creation}
use Rattle.vd_model.specs.Deeds.{Deed, Made, On, acts_of_device, made_with}
use Rattle.vd_instance.specs.Stands.{Stands, IsHeld, IsNamed, frames}
use Rattle.vd_engine.specs.declared.devices.Named.{Named}
use Rattle.vd_engine.specs.Machine.{is_named, NoneIs, DeviceIs, AllStand}
use Rattle.vd_engine.proofs.Names.{find_push_hit, find_push_miss, missed_at, named_is, names_itself, pushed_at}
use Rattle.vd_engine.proofs.Deeds.{acts_same, acts_other, made_on, devices_on, device_moves}
use Rattle.vd_engine.proofs.Held.{held_pushed}

module _ (x : Setting) (done : List Deed) (ds : List Named) (m : Pool) (s : AllStand x done ds m) (name : List ℕ) (none : NoneIs name ds) (new : Named) (same : new.name ≡ name) (held : IsHeld new.instance m)
    (bare : (p f : ℕ) → frame_of (frames new.instance) p ≡ Some f → ⊥) where
  -- no other has the name
  fresh : (j : ℕ) (c : Named) → slice_get ds j ≡ Some c → c.name ≢ new.name
  fresh j c at = λ e. true≢false (sym (names_itself name) ∙ ap (bytes_eq name) (sym (e ∙ same)) ∙ missed_at (is_named name) ds none j c at)

  once : (j k : ℕ) (c e : Named) → j ≢ k → slice_get (ds ++ new ∷ []) j ≡ Some c → slice_get (ds ++ new ∷ []) k ≡ Some e → c.name ≢ e.name
  once j k c e differ atj atk = elim (pushed_at ds new j c atj) [
    | inl one ↦ (elim (pushed_at ds new k e atk) [
      | inl two ↦ absurd (differ (one.0 ∙ sym two.0))
      | inr two ↦ λ f. fresh k e two.1 (sym f ∙ ap (λ (t : Named). t.name) one.1)
    ])
    | inr one ↦ (elim (pushed_at ds new k e atk) [
      | inl two ↦ λ f. fresh j c one.1 (f ∙ ap (λ (t : Named). t.name) two.1)
      | inr two ↦ s.once j k c e differ one.1 two.1
    ])
  ]

  pub all_made : (made : Creation) (acts : List Act) → Stands x made acts new.instance m → IsNamed name new.instance → AllStand x (map (On name) acts ++ Made name made ∷ done) (ds ++ new ∷ []) m
  all_made made acts stands named = record {
    each = λ other. each other (bytes_eq other name) refl;
    count = length-append ds (new ∷ []) ∙ ap (λ n. n + 1) s.count ∙ sym (devices_on name acts (Made name made ∷ done));
    once = once;
    frames = held_pushed ds m s.frames new held bare;
  } where
    later : List Deed
    later = map (On name) acts ++ Made name made ∷ done

    its_acts : acts_of_device name (map (On name) acts ++ Made name made ∷ done) ≡ acts ++ []
    its_acts = acts_same name acts (Made name made ∷ done) ∙ ap (λ b. acts ++ cond b [] (acts_of_device name done)) (names_itself name)

    its_making : made_with name (map (On name) acts ++ Made name made ∷ done) ≡ Some made
    its_making = made_on name name acts (Made name made ∷ done) ∙ ap (λ b. cond b (Some made) (made_with name done)) (names_itself name)

    each : (other : List ℕ) (b : Bool) → bytes_eq other name ≡ b → DeviceIs x other (map (On name) acts ++ Made name made ∷ done) (find (is_named other) (ds ++ new ∷ [])) m
    each other true e =
        let is : is_named name new ≡ true = subst (λ t. bytes_eq name t ≡ true) (sym same) (names_itself name) in
        let here : DeviceIs x name (map (On name) acts ++ Made name made ∷ done) (find (is_named name) (ds ++ new ∷ [])) m =
        subst (λ o. DeviceIs x name (map (On name) acts ++ Made name made ∷ done) o m) (sym (find_push_hit (is_named name) ds new none is))
        (record { made = made; with_that = its_making; stands = subst (λ l. Stands x made l new.instance m) (sym (its_acts ∙ append-nil acts)) stands; named = named }) in
        subst (λ o. DeviceIs x o (map (On name) acts ++ Made name made ∷ done) (find (is_named o) (ds ++ new ∷ [])) m) (sym (named_is other name e)) here
    each other false e =
        let is : is_named other new ≡ false = subst (λ t. bytes_eq other t ≡ false) (sym same) e in
        subst (λ o. DeviceIs x other (map (On name) acts ++ Made name made ∷ done) o m) (sym (find_push_miss (is_named other) ds new is))
        (device_moves x other done (map (On name) acts ++ Made name made ∷ done) (find (is_named other) ds) m m
        (made_on other name acts (Made name made ∷ done) ∙ ap (λ b. cond b (Some made) (made_with other done)) e)
        (acts_other other name acts (Made name made ∷ done) e ∙ ap (λ b. cond b [] (acts_of_device other done)) e)
        (λ c f made acts stands. stands) (s.each other))
