-- All devices after a tick.
use Rattle.std.proofs.Common.{◌≡◌, ◌≢◌, ℕ, zero, suc, ◌+◌, ◌<◌, ◌≤◌, Bool, true, false, refl, ap, subst, ◌∙◌, sym, arith, Option, None, Some, List, [], ◌∷◌, ◌++◌, length, take, drop, find, inl, inr}
use Rattle.std.proofs.Math.Seq.{take-append_seam}
use Rattle.std.specs.List.{slice_get, slice_set, slice_index_or}
use Rattle.std.proofs.Math.ListN.{length-set}
use Rattle.std.specs.Str.{bytes_eq}
use Rattle.std.proofs.lemmas.Option.{slice_get_within, slice_get-get_or}
use Rattle.vd_pool.specs.Memory.{PoolMemory as Pool}
use Rattle.vd_bounce.specs.Frames.{Holds, frame_of}
use Rattle.vd_model.specs.Setting.{Setting}
use Rattle.vd_model.specs.Deeds.{Deed, Passed, acts_of_device}
use Rattle.vd_memory_lines.specs.declared.memory.Memory.{Memory}
use Rattle.vd_instance.specs.Stands.{IsHeld, frames}
use Rattle.vd_engine.specs.declared.devices.Named.{Named}
use Rattle.vd_engine.specs.Machine.{is_named, DeviceIs, AllStand}
use Rattle.vd_engine.specs.Ticked.{IsTicked, AreTicked}
use Rattle.vd_engine.proofs.Names.{find_hit, find_miss, set_at}

-- what was where something is
pub entry_before : (old new : List Named) → length new ≡ length old → (i : ℕ) (d : Named) → slice_get new i ≡ Some d → (c : Named) × (slice_get old i ≡ Some c)
entry_before [] new same i d at = absurd (let under = slice_get_within new i d at in omega arith)
entry_before (c ∷ old) [] same i d at = cc
entry_before (c ∷ old) (e ∷ new) same zero d at = (c, refl)
entry_before (c ∷ old) (e ∷ new) same (suc i) d at = entry_before old new (omega arith) i d at

-- the same is found
AreFound : ℕ → Option Named → Option Named → Type 0
AreFound now None None = Unit {0}
AreFound now (Some c) (Some d) = IsTicked now c d
AreFound now _ _ = ⊥

found : (now : ℕ) (name : List ℕ) (old new : List Named) → AreTicked now old new → AreFound now (find (is_named name) old) (find (is_named name) new)
unfolding AreFound
found now name [] [] t = tt
found now name [] (d ∷ new) t = absurd (let count = t.count in omega arith)
found now name (c ∷ old) [] t = absurd (let count = t.count in omega arith)
found now name (c ∷ old) (d ∷ new) t = by (is_named name c) refl (found now name old new (record { count = (let count = t.count in omega arith); each = λ i a b at here. t.each (suc i) a b at here })) where
  one : IsTicked now c d
  one = t.each 0 c d refl refl

  by : (b : Bool) → is_named name c ≡ b → AreFound now (find (is_named name) old) (find (is_named name) new) → AreFound now (find (is_named name) (c ∷ old)) (find (is_named name) (d ∷ new))
  by true e rest = subst (λ o. AreFound now o (find (is_named name) (d ∷ new))) (sym (find_hit (is_named name) c old e))
      (subst (λ o. AreFound now (Some c) o) (sym (find_hit (is_named name) d new (ap (bytes_eq name) one.name ∙ e))) one)
  by false e rest = subst (λ o. AreFound now o (find (is_named name) (d ∷ new))) (sym (find_miss (is_named name) c old e))
      (subst (λ o. AreFound now (find (is_named name) old) o) (sym (find_miss (is_named name) d new (ap (bytes_eq name) one.name ∙ e))) rest)

module _ (x : Setting) (done : List Deed) (old new : List Named) (m : Pool) (now : ℕ) (s : AllStand x done old m) (t : AreTicked now old new) where
  each : (name : List ℕ) (c d : Option Named) → AreFound now c d → DeviceIs x name done c m → DeviceIs x name (Passed now ∷ done) d m
  unfolding AreFound
  each name None None h that = that
  each name None (Some d) h that = absurd h
  each name (Some c) None h that = absurd h
  each name (Some c) (Some d) h that = record { made = that.made; with_that = that.with_that; stands = h.stands x that.made (acts_of_device name done) m that.stands; named = h.named name that.named }

  module _ (i : ℕ) (d : Named) (at : slice_get new i ≡ Some d) where
    before : (c : Named) × (slice_get old i ≡ Some c)
    before = entry_before old new t.count i d at

    one : IsTicked now before.0 d
    one = t.each i before.0 d before.1 at

    same_frames : frames d.instance ≡ frames before.0.instance
    same_frames = ap (λ (k : Memory). k.domain.bounce.frames) one.memory

    still_held : IsHeld d.instance m
    still_held = record {
      holds = subst (λ (r : List (Option ℕ)). Holds r m) (sym same_frames) (s.frames.held i before.0 before.1).holds;
      size = (s.frames.held i before.0 before.1).size ∙ sym (ap (λ (k : Memory). k.domain.bounce.per_page) one.memory);
    }

  pub all_ticked : AllStand x (Passed now ∷ done) new m
  all_ticked = record {
    each = λ name. each name (find (is_named name) old) (find (is_named name) new) (found now name old new t) (s.each name);
    count = t.count ∙ s.count;
    once = λ j k c e differ atj atk f. s.once j k (before j c atj).0 (before k e atk).0 differ (before j c atj).1 (before k e atk).1 (sym (one j c atj).name ∙ f ∙ (one k e atk).name);
    frames = record {
      held = λ i d at. still_held i d at;
      apart = λ j k c e differ atj atk p q f here there.
          s.frames.apart j k (before j c atj).0 (before k e atk).0 differ (before j c atj).1 (before k e atk).1 p q f
          (subst (λ (r : List (Option ℕ)). frame_of r p ≡ Some f) (same_frames j c atj) here) (subst (λ (r : List (Option ℕ)). frame_of r q ≡ Some f) (same_frames k e atk) there);
    };
  }

-- ---- one more is told the time

set_other : {X : Type 0} (xs : List X) (i : ℕ) (y : X) (j : ℕ) → j ≢ i → slice_get (slice_set xs i y) j ≡ slice_get xs j
set_other [] i y j ne = refl
set_other (x ∷ xs) zero y zero ne = absurd (ne refl)
set_other (x ∷ xs) zero y (suc j) ne = refl
set_other (x ∷ xs) (suc i) y zero ne = refl
set_other (x ∷ xs) (suc i) y (suc j) ne = set_other xs i y j (λ e. ne (ap suc e))

module _ (old devices : List Named) (index : ℕ) (new : Named) (others : (i : ℕ) → index ≤ i → slice_get devices i ≡ slice_get old i) where
  pub others_more : (i : ℕ) → index + 1 ≤ i → slice_get (slice_set devices index new) i ≡ slice_get old i
  others_more i above = set_other devices index new i (λ e. omega arith) ∙ others i (omega arith)

pub count_more : (old devices : List Named) (index : ℕ) (new : Named) → length devices ≡ length old → length (slice_set devices index new) ≡ length old
count_more old devices index new same = length-set devices index new ∙ same

pub told_more : (now : ℕ) (old devices : List Named) (index : ℕ) (any new : Named) → index < length devices → ((i : ℕ) (c d : Named) → i < index → slice_get old i ≡ Some c → slice_get devices i ≡ Some d → IsTicked now c d)
    → ((i : ℕ) → index ≤ i → slice_get devices i ≡ slice_get old i) → IsTicked now (slice_index_or devices index any) new
    → (i : ℕ) (c d : Named) → i < index + 1 → slice_get old i ≡ Some c → slice_get (slice_set devices index new) i ≡ Some d → IsTicked now c d
told_more now old devices index any new under told others one i c d below was is = elim (set_at devices index new i d is) [
  | inl here ↦
      let there : Some (slice_index_or devices index any) ≡ Some c = sym (slice_get-get_or devices index any under) ∙ others index (omega arith) ∙ ap (slice_get old) (sym here.0) ∙ was in
      let same : slice_index_or devices index any ≡ c = cc in
      subst (λ k. IsTicked now k d) same (subst (λ k. IsTicked now (slice_index_or devices index any) k) (sym here.1) one)
  | inr other ↦ told i c d (let ne : i ≢ index = other.0 in omega arith) was other.1
]

-- what is written back of a whole list
pub refilled : {X : Type 0} (n : ℕ) (new old : List X) → length new ≡ n → take n (new ++ drop (length new) old) ≡ new
refilled n new old e = subst (λ k. take k (new ++ drop (length new) old) ≡ new) e (take-append_seam new (drop (length new) old))
