-- All devices after a line on one of them.
use Rattle.std.proofs.Common.{◌≡◌, ◌≢◌, ℕ, Bool, true, false, refl, ap, subst, ◌∙◌, sym, Option, Some, List, ◌++◌, find, map, inl, inr, true≢false}
use Rattle.std.specs.List.{slice_get, slice_set}
use Rattle.std.specs.Str.{bytes_eq}
use Rattle.std.proofs.Math.ListN.{length-set}
use Rattle.vd_pool.specs.Memory.{PoolMemory as Pool}
use Rattle.vd_bounce.specs.Frames.{Keeps}
use Rattle.vd_model.specs.Setting.{Setting}
use Rattle.vd_model.specs.Acts.{Act}
use Rattle.vd_model.specs.Creation.{Creation}
use Rattle.vd_model.specs.Deeds.{Deed, On, acts_of_device, made_with}
use Rattle.vd_instance.specs.Stands.{Stands, IsNamed, KeepsOthers, frames}
use Rattle.vd_engine.specs.declared.devices.Named.{Named}
use Rattle.vd_engine.specs.Machine.{is_named, FirstIs, DeviceIs, AllStand}
use Rattle.vd_engine.proofs.Names.{find_set_hit, find_set_miss, found_at, named_is, names_itself, set_at}
use Rattle.vd_engine.proofs.Deeds.{acts_same, acts_other, made_on, devices_on, device_moves}
use Rattle.vd_engine.proofs.Beside.{stands_beside}
use Rattle.vd_engine.proofs.Held.{held_set}

-- ---- another device is left alone by a call on the one of this name

module _ (x : Setting) (done : List Deed) (ds : List Named) (m : Pool) (s : AllStand x done ds m) (name : List ℕ) (i : ℕ) (d : Named) (first : FirstIs name ds i) (there : slice_get ds i ≡ Some d)
    (rows : List (Option ℕ)) (n : Pool) (keeps : Keeps (frames d.instance) rows m n) where
  pub is_name : name ≡ d.name
  is_name = named_is name d.name (first.named d there)

  pub not_that : (other : List ℕ) → bytes_eq other name ≡ false → is_named other d ≡ false
  not_that other e = subst (λ t. bytes_eq other t ≡ false) is_name e

  pub others_move : (other : List ℕ) (later : List Deed) → bytes_eq other name ≡ false → made_with other later ≡ made_with other done → acts_of_device other later ≡ acts_of_device other done → DeviceIs x other later (find (is_named other) ds) n
  others_move other later e with_made acts = device_moves x other done later (find (is_named other) ds) m n with_made acts moves (s.each other) where
    moves : (c : Named) → find (is_named other) ds ≡ Some c → (made : Creation) (acts : List Act) → Stands x made acts c.instance m → Stands x made acts c.instance n
    moves c f made acts stands = stands_beside c.instance (frames d.instance) rows n (s.frames.held at.0 c at.1) (s.frames.apart at.0 i c d differs at.1 there) keeps stands where
      at : (j : ℕ) × (slice_get ds j ≡ Some c) × (is_named other c ≡ true)
      at = found_at (is_named other) ds c f

      differs : at.0 ≢ i
      differs j =
          let here : Some c ≡ Some d = sym at.1 ∙ ap (slice_get ds) j ∙ there in
          let same : c ≡ d = cc in
          true≢false (sym at.2 ∙ ap (is_named other) same ∙ not_that other e)

-- ---- the device stands for these acts besides

module _ (x : Setting) (done : List Deed) (ds : List Named) (m : Pool) (s : AllStand x done ds m) (name : List ℕ) (i : ℕ) (d new : Named) (n : Pool) (first : FirstIs name ds i) (there : slice_get ds i ≡ Some d)
    (same : new.name ≡ d.name) (keeps : KeepsOthers d.instance new.instance m n) where
  is_new : name ≡ new.name
  is_new = is_name x done ds m s name i d first there (frames new.instance) n keeps.kept ∙ sym same

  once : (j k : ℕ) (c e : Named) → j ≢ k → slice_get (slice_set ds i new) j ≡ Some c → slice_get (slice_set ds i new) k ≡ Some e → c.name ≢ e.name
  once j k c e differ atj atk = elim (set_at ds i new j c atj) [
    | inl one ↦ (elim (set_at ds i new k e atk) [
      | inl two ↦ absurd (differ (one.0 ∙ sym two.0))
      | inr two ↦ λ f. s.once i k d e (λ g. two.0 (sym g)) there two.1 (sym same ∙ ap (λ (t : Named). t.name) (sym one.1) ∙ f)
    ])
    | inr one ↦ (elim (set_at ds i new k e atk) [
      | inl two ↦ λ f. s.once j i c d one.0 one.1 there (f ∙ ap (λ (t : Named). t.name) two.1 ∙ same)
      | inr two ↦ s.once j k c e differ one.1 two.1
    ])
  ]

  pub all_stepped : (made : Creation) (acts : List Act) → made_with name done ≡ Some made → Stands x made (acts ++ acts_of_device name done) new.instance n → IsNamed name new.instance → AllStand x (map (On name) acts ++ done) (slice_set ds i new) n
  all_stepped made acts with_made stands named = record {
    each = λ other. each other (bytes_eq other name) refl;
    count = length-set ds i new ∙ s.count ∙ sym (devices_on name acts done);
    once = once;
    frames = held_set ds m n s.frames i d there (frames new.instance) keeps.kept new refl keeps.page;
  } where
    each : (other : List ℕ) (b : Bool) → bytes_eq other name ≡ b → DeviceIs x other (map (On name) acts ++ done) (find (is_named other) (slice_set ds i new)) n
    each other true e =
        let hit : find (is_named name) (slice_set ds i new) ≡ Some new =
        find_set_hit (is_named name) ds i d new there first.before (subst (λ t. bytes_eq name t ≡ true) is_new (names_itself name)) in
        let here : DeviceIs x name (map (On name) acts ++ done) (find (is_named name) (slice_set ds i new)) n =
        subst (λ o. DeviceIs x name (map (On name) acts ++ done) o n) (sym hit)
        (record { made = made; with_that = made_on name name acts done ∙ with_made; stands = subst (λ l. Stands x made l new.instance n) (sym (acts_same name acts done)) stands; named = named }) in
        subst (λ o. DeviceIs x o (map (On name) acts ++ done) (find (is_named o) (slice_set ds i new)) n) (sym (named_is other name e)) here
    each other false e =
        let was : is_named other d ≡ false = not_that x done ds m s name i d first there (frames new.instance) n keeps.kept other e in
        let is : is_named other new ≡ false = subst (λ t. bytes_eq other t ≡ false) is_new e in
        subst (λ o. DeviceIs x other (map (On name) acts ++ done) o n) (sym (find_set_miss (is_named other) ds i d new there was is))
        (others_move x done ds m s name i d first there (frames new.instance) n keeps.kept other (map (On name) acts ++ done) e (made_on other name acts done) (acts_other other name acts done e))
