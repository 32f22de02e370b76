-- What was tested before a region was made and before a driver's put, and how the live regions lie then.
use Rattle.std.proofs.Common.{◌≡◌, ℕ, ◌<◌, Bool, true, false, refl, ap, subst, ◌∙◌, sym, arith, cond, List, [], ◌∷◌, ◌++◌, ◌==◌, not, Some, ◌⊎◌, inl, inr}
use Rattle.std.specs.List.{filter}
use Rattle.std.proofs.lemmas.Bool.Decides.{nat_tests}
use Rattle.vd_num.specs.Number.{pages_of, is_within}
use Rattle.vd_model.specs.Setting.{Setting}
use Rattle.vd_model.specs.Acts.{Act, Coherent, Driver, Region_made, Region_freed, Driver_put}
use Rattle.vd_model.specs.Live.{regions, live_regions}
use Rattle.vd_model.specs.Place.{place_of, meets, region_slots, taken_slots}
use Rattle.vd_laws.specs.Among.{Among}
use Rattle.vd_laws.specs.Runs.{IsAddressed}
use Rattle.vd_laws.proofs.Lists.{pushed, filtered, any_false, among_map}
use Rattle.vd_laws.proofs.Places.{place_free}
use Rattle.vd_region_laws.specs.RegionLaw.{AreAscending, IsBeyond, IsInside}

-- the slot is one of the region's
abbrev pub has_slot : Coherent → ℕ → Bool
has_slot r slot = is_within r.slot (pages_of r.len) slot

-- a region that can be made
pub record IsNew (x : Setting) (acts : List Act) (r : Coherent) : Type 0 where
  pub number : r.number ≡ regions acts
  pub beyond : IsBeyond x r
  pub apart : (s : Coherent) → Among s (live_regions acts) → (slot : ℕ) → has_slot r slot ≡ true → has_slot s slot ≡ true → ⊥

abbrev pub Allows : Setting → List Act → Act → Type 0
Allows x acts (Driver (Region_made r)) = IsNew x acts r
Allows x acts (Driver (Driver_put at bytes)) = IsAddressed x → IsInside (live_regions acts) at bytes
Allows x acts _ = Unit {0}

abbrev pub Allowed : Setting → List Act → Type 0
Allowed x [] = Unit {0}
Allowed x (act ∷ acts) = Allows x acts act × Allowed x acts

pub earlier_allowed : (x : Setting) (later acts : List Act) → Allowed x (later ++ acts) → Allowed x acts
earlier_allowed x [] acts h = h
earlier_allowed x (act ∷ later) acts h = earlier_allowed x later acts h.1

-- ---- a place that was found

among_right : {X : Type 0} (m : X) (xs ys : List X) → Among m ys → Among m (xs ++ ys)
among_right m [] ys h = h
among_right m (x ∷ xs) ys h = inr (among_right m xs ys h)

apart : (slot len : ℕ) (s : Coherent) (k : ℕ) → meets slot (pages_of len) (region_slots s) ≡ false → is_within slot (pages_of len) k ≡ true → has_slot s k ≡ true → ⊥
apart slot len s k free c d = grind (arith, nat_tests)

pub new_region : (x : Setting) (acts : List Act) (len slot : ℕ) → 0 < len → place_of (taken_slots acts) (pages_of len) x.bounce x.iova ≡ Some slot
    → IsNew x acts (record { number = regions acts; slot = slot; len = len })
new_region x acts len slot some e =
    let p = place_free (taken_slots acts) (pages_of len) x.bounce x.iova slot e in
    record {
      number = refl;
      beyond = record { low = p.low; high = p.high; some = some };
      apart = λ s h k c d. apart slot len s k (any_false (meets slot (pages_of len)) (region_slots s) (taken_slots acts) p.free
          (among_right (region_slots s) _ _ (among_map region_slots s (live_regions acts) h))) c d;
    }

-- ---- the live regions

pub record Spread (x : Setting) (acts : List Act) : Type 0 where
  pub below : (r : Coherent) → Among r (live_regions acts) → r.number < regions acts
  pub ascend : AreAscending (live_regions acts)
  pub beyond : (r : Coherent) → Among r (live_regions acts) → IsBeyond x r
  pub one : (r s : Coherent) → Among r (live_regions acts) → Among s (live_regions acts) → (slot : ℕ) → has_slot r slot ≡ true → has_slot s slot ≡ true → r ≡ s

push_ascending : (rs : List Coherent) (r : Coherent) → AreAscending rs → ((s : Coherent) → Among s rs → s.number < r.number) → AreAscending (rs ++ r ∷ [])
push_ascending [] r a below = ((λ s h. absurd h), tt)
push_ascending (s ∷ rs) r a below = ((λ t h. by t (pushed t r rs h)), push_ascending rs r a.1 (λ t h. below t (inr h))) where
  by : (t : Coherent) → Among t rs ⊎ (t ≡ r) → s.number < t.number
  by t (inl h) = a.0 t h
  by t (inr e) = subst (λ t. s.number < t.number) (sym e) (below s (inl refl))

filter_ascending : (p : Coherent → Bool) (rs : List Coherent) → AreAscending rs → AreAscending (filter p rs)
filter_ascending p [] a = tt
filter_ascending p (r ∷ rs) a = by (p r) (filter_ascending p rs a.1) where
  by : (b : Bool) → AreAscending (filter p rs) → AreAscending (cond b (r ∷ filter p rs) (filter p rs))
  by true rest = ((λ s h. a.0 s (filtered p s rs h).0), rest)
  by false rest = rest

made_spread : (x : Setting) (acts : List Act) (r : Coherent) → IsNew x acts r → Spread x acts → Spread x (Driver (Region_made r) ∷ acts)
made_spread x acts r new s = record {
  below = λ t h. elim (pushed t r (live_regions acts) h) [ inl k ↦ (let b = s.below t k in omega arith) | inr e ↦ (let b : t.number ≡ regions acts = ap (λ t. t.number) e ∙ new.number in omega arith) ];
  ascend = push_ascending (live_regions acts) r s.ascend (λ t h. (let b = s.below t h in let n = new.number in omega arith));
  beyond = λ t h. elim (pushed t r (live_regions acts) h) [ inl k ↦ s.beyond t k | inr e ↦ subst (IsBeyond x) (sym e) new.beyond ];
  one = λ t u h k. one t u (pushed t r (live_regions acts) h) (pushed u r (live_regions acts) k);
} where
  one : (t u : Coherent) → Among t (live_regions acts) ⊎ (t ≡ r) → Among u (live_regions acts) ⊎ (u ≡ r) → (slot : ℕ) → has_slot t slot ≡ true → has_slot u slot ≡ true → t ≡ u
  one t u (inl h) (inl k) slot c d = s.one t u h k slot c d
  one t u (inl h) (inr e) slot c d = absurd (new.apart t h slot (subst (λ u. has_slot u slot ≡ true) e d) c)
  one t u (inr e) (inl k) slot c d = absurd (new.apart u k slot (subst (λ t. has_slot t slot ≡ true) e c) d)
  one t u (inr e) (inr f) slot c d = e ∙ sym f

freed_spread : (x : Setting) (acts : List Act) (r : Coherent) → Spread x acts → Spread x (Driver (Region_freed r) ∷ acts)
freed_spread x acts r s = record {
  below = λ t h. s.below t (less t h);
  ascend = filter_ascending (λ l. not (l.number == r.number)) (live_regions acts) s.ascend;
  beyond = λ t h. s.beyond t (less t h);
  one = λ t u h k slot c d. s.one t u (less t h) (less u k) slot c d;
} where
  less : (t : Coherent) → Among t (live_regions (Driver (Region_freed r) ∷ acts)) → Among t (live_regions acts)
  less t h = (filtered (λ l. not (l.number == r.number)) t (live_regions acts) h).0

next_spread : (x : Setting) (act : Act) (acts : List Act) → Allows x acts act → Spread x acts → Spread x (act ∷ acts)
next_spread x (Driver (Region_made r)) acts h s = made_spread x acts r h s
next_spread x (Driver (Region_freed r)) acts h s = freed_spread x acts r s
next_spread x _ acts h s = record { below = s.below; ascend = s.ascend; beyond = s.beyond; one = s.one }

pub spread : (x : Setting) (acts : List Act) → Allowed x acts → Spread x acts
spread x [] h = record { below = λ r k. absurd k; ascend = tt; beyond = λ r k. absurd k; one = λ r s k l slot c d. absurd k }
spread x (act ∷ acts) h = next_spread x act acts h.0 (spread x acts h.1)
