-- Entries that were passed one after another: what is left decides.
use Rattle.std.proofs.Common.{◌≡◌, ℕ, zero, suc, ◌+◌, ◌<◌, ◌≤◌, Bool, true, false, ◌==◌, ◌||◌, refl, ap, sym, ◌∙◌, arith, Option, None, Some, List, [], ◌∷◌, length, map, drop, get_or, All}
use Rattle.std.specs.List.{list_any}
use Rattle.std.proofs.Math.Seq.{drop-cons}
use Rattle.std.proofs.lemmas.Bool.Decides.{nat_tests}
use Rattle.std.proofs.lemmas.List.Elements.{All-get_or}
use Rattle.vd_model.specs.Acts.{Streaming}
use Rattle.vd_model.specs.declared.memory.Region.{Region}
use Rattle.vd_model.specs.AreaTurns.{first_region, overlaps, region_of}
use Rattle.vd_domain.specs.declared.streaming.Bounced.{Bounced}
use Rattle.vd_domain.specs.declared.streaming.Extent.{Extent}
use Rattle.vd_domain.specs.Lists.{mappings_of, region_at, regions_of}
use Rattle.vd_domain.specs.Lookup.{Lies, lower_or}
use Rattle.vd_domain.proofs.LookedUp.{next_hit, next_miss}

abbrev pub any_of : ℕ → List (ℕ × Bounced) → Bool
any_of buffer es = list_any (λ (m : Streaming). m.want.buffer == buffer) (mappings_of es)

abbrev pub first_of_regions : ℕ → ℕ → List (ℕ × Extent) → Option Region
first_of_regions start last es = first_region (map region_of (regions_of es)) start last

next_of : {T : Type 0} (i : ℕ) (es : List (ℕ × T)) (d : ℕ × T) → i < length es → drop i es ≡ get_or es i d ∷ drop (i + 1) es
next_of i es d within = drop-cons es i d within ∙ ap (λ k. get_or es i d ∷ drop k es) (let e : suc i ≡ i + 1 = omega arith in e)

past_of : {T : Type 0} (i : ℕ) (es : List (ℕ × T)) → length es ≤ i → drop i es ≡ []
past_of zero [] past = refl
past_of (suc i) [] past = refl
past_of zero (e ∷ es) past = absurd (omega (arith, past))
past_of (suc i) (e ∷ es) past = past_of i es (omega (arith, past))

pub any_later : (buffer i : ℕ) (es : List (ℕ × Bounced)) (d : ℕ × Bounced) → i < length es → ((get_or es i d).1.want.buffer ≡ buffer → ⊥)
    → any_of buffer (drop (i + 1) es) ≡ any_of buffer (drop i es)
any_later buffer i es d within other =
    let miss : ((get_or es i d).1.want.buffer == buffer) ≡ false = grind (arith, nat_tests, other) in
    sym (ap (any_of buffer) (next_of i es d within) ∙ ap (λ b. b || any_of buffer (drop (i + 1) es)) miss)

pub any_here : (buffer i : ℕ) (es : List (ℕ × Bounced)) (d : ℕ × Bounced) → i < length es → (get_or es i d).1.want.buffer ≡ buffer
    → any_of buffer (drop i es) ≡ true
any_here buffer i es d within same =
    let hit : ((get_or es i d).1.want.buffer == buffer) ≡ true = grind (arith, nat_tests, same) in
    ap (any_of buffer) (next_of i es d within) ∙ ap (λ b. b || any_of buffer (drop (i + 1) es)) hit

pub any_past : (buffer i : ℕ) (es : List (ℕ × Bounced)) → length es ≤ i → any_of buffer (drop i es) ≡ false
any_past buffer i es past = ap (any_of buffer) (past_of i es past)

pub first_met : (start last i : ℕ) (lowest new : Option Region) (es : List (ℕ × Extent)) (d : ℕ × Extent) (region : Region) → i < length es
    → region ≡ region_of (region_at (0, (get_or es i d).1)) → overlaps start last region ≡ true → new ≡ lower_or lowest (Some region)
    → lower_or new (first_of_regions start last (drop (i + 1) es)) ≡ lower_or lowest (first_of_regions start last (drop i es))
first_met start last i lowest new es d region within is hit more =
    ap (λ o. lower_or o (first_of_regions start last (drop (i + 1) es))) more
    ∙ next_hit start last lowest region (map region_of (regions_of (drop (i + 1) es))) hit
    ∙ ap (λ (r : Region). lower_or lowest (first_region (r ∷ map region_of (regions_of (drop (i + 1) es))) start last)) is
    ∙ ap (λ (xs : List (ℕ × Extent)). lower_or lowest (first_of_regions start last xs)) (sym (next_of i es d within))

pub first_missed : (start last i : ℕ) (lowest : Option Region) (es : List (ℕ × Extent)) (d : ℕ × Extent) (region : Region) → i < length es
    → region ≡ region_of (region_at (0, (get_or es i d).1)) → overlaps start last region ≡ false
    → lower_or lowest (first_of_regions start last (drop (i + 1) es)) ≡ lower_or lowest (first_of_regions start last (drop i es))
first_missed start last i lowest es d region within is miss =
    next_miss start last lowest region (map region_of (regions_of (drop (i + 1) es))) miss
    ∙ ap (λ (r : Region). lower_or lowest (first_region (r ∷ map region_of (regions_of (drop (i + 1) es))) start last)) is
    ∙ ap (λ (xs : List (ℕ × Extent)). lower_or lowest (first_of_regions start last xs)) (sym (next_of i es d within))

lower_or_none : (start last : ℕ) (o : Option Region) → lower_or o (first_of_regions start last []) ≡ o
lower_or_none start last None = refl
lower_or_none start last (Some r) = refl

pub first_past : (start last i : ℕ) (lowest : Option Region) (es : List (ℕ × Extent)) → length es ≤ i
    → lower_or lowest (first_of_regions start last (drop i es)) ≡ lowest
first_past start last i lowest es past =
    ap (λ (xs : List (ℕ × Extent)). lower_or lowest (first_of_regions start last xs)) (past_of i es past) ∙ lower_or_none start last lowest

pub lie_at : (i : ℕ) (es : List (ℕ × Extent)) (d : ℕ × Extent) → i < length es → All (λ (e : ℕ × Extent). Lies e.1) es → Lies (get_or es i d).1
lie_at i es d within all = All-get_or (λ (e : ℕ × Extent). Lies e.1) es i d within all
