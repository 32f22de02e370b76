-- Frames that devices hold of one pool.
use Rattle.std.proofs.Common.{◌≡◌, ◌≢◌, ℕ, refl, ap, subst, ◌∙◌, sym, arith, Option, Some, List, [], ◌∷◌, ◌++◌, length, nat_lt, nat_le, ◌&&◌, inl, inr, false, true≢false}
use Rattle.std.specs.List.{slice_get, slice_set, slice_index, remove}
use Rattle.std.proofs.lemmas.Bool.Decides.{nat_tests}
use Rattle.std.proofs.lemmas.Option.{slice_get_within}
use Rattle.vd_pool.specs.Memory.{PoolMemory as Pool, is_out}
use Rattle.vd_bounce.specs.Frames.{Holds, Keeps, frame_of}
use Rattle.vd_instance.specs.declared.instance.Instance.{Instance}
use Rattle.vd_instance.specs.Stands.{IsHeld, frames, page_size}
use Rattle.vd_engine.specs.declared.devices.Named.{Named}
use Rattle.vd_engine.specs.Machine.{AreApart, AreHeld}
use Rattle.vd_engine.proofs.Beside.{held_beside, apart_after}
use Rattle.vd_engine.proofs.Names.{set_at, pushed_at, front_at, last_at, place_before, removed_at, place_differs, places_differ}

turned : (a b : List (Option ℕ)) → AreApart a b → AreApart b a
turned a b apart = λ p q f e g. apart q p f g e

-- ---- a call on one device leaves this row of frames in place of its own

module _ (ds : List Named) (m n : Pool) (h : AreHeld ds m) (i : ℕ) (d : Named) (there : slice_get ds i ≡ Some d) (rows : List (Option ℕ)) (keeps : Keeps (frames d.instance) rows m n) where
  other_held : (j : ℕ) (e : Named) → j ≢ i → slice_get ds j ≡ Some e → IsHeld e.instance n
  other_held j e other at = held_beside e.instance (frames d.instance) rows n (h.held j e at) (h.apart j i e d other at there) keeps

  other_apart : (j : ℕ) (e : Named) → j ≢ i → slice_get ds j ≡ Some e → AreApart (frames e.instance) rows
  other_apart j e other at = apart_after (frames e.instance) (frames d.instance) rows m n (h.held j e at).holds (h.apart j i e d other at there) keeps

  -- the device is taken out
  pub held_removed : AreHeld (remove ds i) n
  held_removed = record {
    held = λ j e at. other_held (place_before i j) e (place_differs i j) (sym (removed_at ds i j) ∙ at);
    apart = λ j k c e differ atj atk. h.apart (place_before i j) (place_before i k) c e (places_differ i j k differ) (sym (removed_at ds i j) ∙ atj) (sym (removed_at ds i k) ∙ atk);
  }

  -- the device holds them
  pub held_set : (new : Named) → frames new.instance ≡ rows → page_size new.instance ≡ page_size d.instance → AreHeld (slice_set ds i new) n
  held_set new is size = record { held = held; apart = apart } where
    held : (j : ℕ) (e : Named) → slice_get (slice_set ds i new) j ≡ Some e → IsHeld e.instance n
    held j e at = elim (set_at ds i new j e at) [
      | inl here ↦ subst (λ (k : Named). IsHeld k.instance n) (sym here.1) (record { holds = subst (λ (r : List (Option ℕ)). Holds r n) (sym is) keeps.holds; size = keeps.size ∙ (h.held i d there).size ∙ sym size })
      | inr other ↦ other_held j e other.0 other.1
    ]

    new_apart : (j : ℕ) (e : Named) → j ≢ i → slice_get ds j ≡ Some e → AreApart (frames e.instance) (frames new.instance)
    new_apart j e other at = subst (λ (r : List (Option ℕ)). AreApart (frames e.instance) r) (sym is) (other_apart j e other at)

    apart : (j k : ℕ) (c e : Named) → j ≢ k → slice_get (slice_set ds i new) j ≡ Some c → slice_get (slice_set ds i new) k ≡ Some e → AreApart (frames c.instance) (frames e.instance)
    apart j k c e differ atj atk = elim (set_at ds i new j c atj) [
      | inl one ↦ (elim (set_at ds i new k e atk) [
        | inl two ↦ absurd (differ (one.0 ∙ sym two.0))
        | inr two ↦ subst (λ (t : Named). AreApart (frames t.instance) (frames e.instance)) (sym one.1) (turned (frames e.instance) (frames new.instance) (new_apart k e two.0 two.1))
      ])
      | inr one ↦ (elim (set_at ds i new k e atk) [
        | inl two ↦ subst (λ (t : Named). AreApart (frames c.instance) (frames t.instance)) (sym two.1) (new_apart j c one.0 one.1)
        | inr two ↦ h.apart j k c e differ one.1 two.1
      ])
    ]

-- the last device is taken off
pub held_popped : (ds : List Named) (d : Named) (m n : Pool) (rows : List (Option ℕ)) → AreHeld (ds ++ d ∷ []) m → Keeps (frames d.instance) rows m n → AreHeld ds n
held_popped ds d m n rows h keeps = record {
  held = λ j e at. other_held (ds ++ d ∷ []) m n h (length ds) d (last_at ds d) rows keeps j e (λ same. let under = slice_get_within ds j e at in omega arith) (front_at ds d j e at);
  apart = λ j k c e differ atj atk. h.apart j k c e differ (front_at ds d j c atj) (front_at ds d k e atk);
}

-- ---- a device without frames

below_none : (f : ℕ) → nat_lt f 0 ≡ false
below_none f = grind (arith, nat_tests)

-- what is held over every pool has no frames
pub no_frames : (i : Instance) (size : ℕ) → ((m : Pool) → m.per_page ≡ size → IsHeld i m) → (p f : ℕ) → frame_of (frames i) p ≡ Some f → ⊥
unfolding is_out
no_frames i size held p f e = true≢false (sym ((held (record { frames = []; place = []; spare = 0; per_page = size }) refl).holds.out p f e) ∙ ap (λ b. b && nat_le 0 (slice_index [] f)) (below_none f))

pub held_pushed : (ds : List Named) (m : Pool) → AreHeld ds m → (new : Named) → IsHeld new.instance m → ((p f : ℕ) → frame_of (frames new.instance) p ≡ Some f → ⊥) → AreHeld (ds ++ new ∷ []) m
held_pushed ds m h new held bare = record { held = all_held; apart = apart } where
  all_held : (j : ℕ) (e : Named) → slice_get (ds ++ new ∷ []) j ≡ Some e → IsHeld e.instance m
  all_held j e at = elim (pushed_at ds new j e at) [
    | inl here ↦ subst (λ (k : Named). IsHeld k.instance m) (sym here.1) held
    | inr other ↦ h.held j e other.1
  ]

  apart : (j k : ℕ) (c e : Named) → j ≢ k → slice_get (ds ++ new ∷ []) j ≡ Some c → slice_get (ds ++ new ∷ []) k ≡ Some e → AreApart (frames c.instance) (frames e.instance)
  apart j k c e differ atj atk = elim (pushed_at ds new j c atj) [
    | inl one ↦ subst (λ (t : Named). AreApart (frames t.instance) (frames e.instance)) (sym one.1) (λ p q f here other. absurd (bare p f here))
    | inr one ↦ (elim (pushed_at ds new k e atk) [
      | inl two ↦ subst (λ (t : Named). AreApart (frames c.instance) (frames t.instance)) (sym two.1) (λ p q f other here. absurd (bare q f here))
      | inr two ↦ h.apart j k c e differ one.1 two.1
    ])
  ]
