-- The lowest of the regions that overlap a range, found one after another.
use Rattle.std.proofs.Common.{◌≡◌, ℕ, ◌<◌, ◌≤◌, Bool, true, false, cond, refl, ap, sym, ◌∙◌, arith, Option, None, Some, nat_le, ◌&&◌, if◌then◌else◌, List, [], ◌∷◌, map, filter, All}
use Rattle.std.proofs.lemmas.Bool.Decides.{nat_tests}
use Rattle.std.proofs.lemmas.List.Elements.{All-cons, All-head, All-tail}
use Rattle.vd_iova.specs.Space.{Space}
use Rattle.vd_model.specs.declared.memory.Region.{Region}
use Rattle.vd_model.specs.AreaTurns.{lower, lowest, overlaps, first_region}
use Rattle.vd_domain.specs.declared.streaming.Extent.{Extent}
use Rattle.vd_domain.specs.Held.{IsTaken, region_holds}
use Rattle.vd_domain.specs.Lists.{region_at, regions_of}
use Rattle.vd_domain.specs.Lookup.{Lies, lower_or}

-- it doesn't matter which two are compared first
pub lower_or_lower : (first : Option Region) (r : Region) (o : Option Region) → lower_or (lower_or first (Some r)) o ≡ lower_or first (Some (lower r o))
lower_or_lower None r o = refl
lower_or_lower (Some b) r None = refl
lower_or_lower (Some b) r (Some s) = ap (λ k. Some k) (by (nat_le b.start r.start) refl (nat_le r.start s.start) refl (nat_le b.start s.start) refl) where
  by : (p : Bool) → nat_le b.start r.start ≡ p → (q : Bool) → nat_le r.start s.start ≡ q → (t : Bool) → nat_le b.start s.start ≡ t
      → lower (lower b (Some r)) (Some s) ≡ lower b (Some (lower r (Some s)))
  by true p true q t e = left ∙ sym right where
    left : lower (lower b (Some r)) (Some s) ≡ b
    left = ap (λ k. lower (if k then b else r) (Some s)) p ∙ ap (λ k. if k then b else s) (let below : nat_le b.start s.start ≡ true = grind (arith, nat_tests) in below)

    right : lower b (Some (lower r (Some s))) ≡ b
    right = ap (λ k. lower b (Some (if k then r else s))) q ∙ ap (λ k. if k then b else r) p
  by true p false q t e =
      ap (λ k. lower (if k then b else r) (Some s)) p ∙ sym (ap (λ k. lower b (Some (if k then r else s))) q)
  by false p true q t e =
      ap (λ k. lower (if k then b else r) (Some s)) p ∙ ap (λ k. if k then r else s) q
      ∙ sym (ap (λ k. lower b (Some (if k then r else s))) q ∙ ap (λ k. if k then b else r) p)
  by false p false q t e =
      ap (λ k. lower (if k then b else r) (Some s)) p ∙ ap (λ k. if k then r else s) q
      ∙ sym (ap (λ k. lower b (Some (if k then r else s))) q ∙ ap (λ k. if k then b else s) (let above : nat_le b.start s.start ≡ false = grind (arith, nat_tests) in above))

-- ---- a region and a range

pub meets_both : (start last : ℕ) (r : Region) → r.start ≤ last → start ≤ r.last → overlaps start last r ≡ true
meets_both start last r p q = grind (arith, nat_tests)

pub ends_before : (start last : ℕ) (r : Region) → r.last < start → overlaps start last r ≡ false
ends_before start last r p = ap (λ b. nat_le r.start last && b) (let off : nat_le start r.last ≡ false = grind (arith, nat_tests) in off) ∙ and_false (nat_le r.start last) where
  and_false : (b : Bool) → (b && false) ≡ false
  and_false true = refl
  and_false false = refl

pub begins_after : (start last : ℕ) (r : Region) → last < r.start → overlaps start last r ≡ false
begins_after start last r p = ap (λ b. b && nat_le start r.last) (let off : nat_le r.start last ≡ false = grind (arith, nat_tests) in off)

-- one region more was looked at
pub next_hit : (start last : ℕ) (first : Option Region) (r : Region) (rs : List Region) → overlaps start last r ≡ true
    → lower_or (lower_or first (Some r)) (first_region rs start last) ≡ lower_or first (first_region (r ∷ rs) start last)
next_hit start last first r rs hit =
    lower_or_lower first r (first_region rs start last)
    ∙ sym (ap (λ b. lower_or first (lowest (cond b (r ∷ filter (overlaps start last) rs) (filter (overlaps start last) rs)))) hit)

pub next_miss : (start last : ℕ) (first : Option Region) (r : Region) (rs : List Region) → overlaps start last r ≡ false
    → lower_or first (first_region rs start last) ≡ lower_or first (first_region (r ∷ rs) start last)
next_miss start last first r rs miss = sym (ap (λ b. lower_or first (lowest (cond b (r ∷ filter (overlaps start last) rs) (filter (overlaps start last) rs)))) miss)

-- ---- the live regions lie in the space

pub all_lie : (high : Space) (made : ℕ) (es : List (ℕ × Extent)) → high.«end» ≤ 65536 → All (IsTaken high made) (map region_holds (regions_of es)) → All (λ (e : ℕ × Extent). Lies e.1) es
all_lie high made [] small all = λ k d below. absurd (omega (arith, below))
all_lie high made (e ∷ es) small all =
    let t : IsTaken high made (region_holds (region_at e)) = All-head (IsTaken high made) (region_holds (region_at e)) (map region_holds (regions_of es)) all in
    let to = t.high in
    All-cons (λ (e : ℕ × Extent). Lies e.1) e es (record { some = t.some; «end» = omega arith })
    (all_lie high made es small (All-tail (IsTaken high made) (region_holds (region_at e)) (map region_holds (regions_of es)) all))
