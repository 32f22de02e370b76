-- A domain seen by its fields.
use Rattle.std.proofs.Common.{◌≡◌, ℕ, subst, sym, ◌∙◌, List, Option, Some, None}
use Rattle.vd_pool.specs.Memory.{PoolMemory, Grows}
use Rattle.vd_bounce.specs.Frames.{Holds}
use Rattle.vd_iova.specs.Space.{Space}
use Rattle.vd_model.specs.Setting.{Setting}
use Rattle.vd_model.specs.Acts.{Act, Streaming}
use Rattle.vd_domain.specs.Held.{Held, IsFit, mapping_of}
use Rattle.vd_domain.specs.Stands.{Stands}

pub stands_inside : {x : Setting} {acts : List Act} {h k : Held} {m : PoolMemory} → h ≡ k → Stands x acts k m → Stands x acts h m
stands_inside {x} {acts} {h} {k} {m} e s = subst (λ (t : Held). Stands x acts t m) (sym e) s

pub stands_same : {x : Setting} {acts : List Act} {h k : Held} {m n : PoolMemory} → h ≡ k → m ≡ n → Stands x acts k n → Stands x acts h m
stands_same {x} {acts} {h} {k} {m} {n} e f s = subst (λ (t : PoolMemory). Stands x acts h t) (sym f) (stands_inside e s)

pub found_inside : {h k : Held} (a : ℕ) (m : Streaming) → h ≡ k → mapping_of k a ≡ Some m → mapping_of h a ≡ Some m
found_inside a m e f = subst (λ (t : Held). mapping_of t a ≡ Some m) (sym e) f

pub found_outside : {h k : Held} (a : ℕ) (o : Option Streaming) → h ≡ k → mapping_of h a ≡ o → mapping_of k a ≡ o
found_outside a o e f = subst (λ (t : Held). mapping_of t a ≡ o) e f

pub not_found : {m : Streaming} → None ≡ Some m → ⊥
not_found e = cc

-- with other mappings
pub stands_with : {x : Setting} {acts : List Act} {m : PoolMemory} (h : Held) (l k : List Streaming) (i j : ℕ) → l ≡ k → i ≡ j → Stands x acts (record h { live = k; maps = j }) m → Stands x acts (record h { live = l; maps = i }) m
stands_with {x} {acts} {m} h l k i j p q s = subst (λ (t : List Streaming). Stands x acts (record h { live = t; maps = i }) m) (sym p) (subst (λ n. Stands x acts (record h { live = k; maps = n }) m) (sym q) s)

pub fit_with : {low high : Space} {uses : List ℕ} (h : Held) (l k : List Streaming) (i j : ℕ) → l ≡ k → i ≡ j → IsFit (record h { live = k; maps = j }) low high uses → IsFit (record h { live = l; maps = i }) low high uses
fit_with {low} {high} {uses} h l k i j p q s = subst (λ (t : List Streaming). IsFit (record h { live = t; maps = i }) low high uses) (sym p) (subst (λ n. IsFit (record h { live = k; maps = n }) low high uses) (sym q) s)

pub same_found : (h : Held) (a : ℕ) (m k : Streaming) → mapping_of h a ≡ Some m → mapping_of h a ≡ Some k → m ≡ k
same_found h a m k e f = let both : Some m ≡ Some k = sym e ∙ f in cc

pub holds_grown : (frames : List (Option ℕ)) (m n : PoolMemory) → Holds frames m → Grows m n → Holds frames n
holds_grown frames m n h g = record { out = λ page f e. g.out f ∙ h.out page f e; apart = h.apart }
