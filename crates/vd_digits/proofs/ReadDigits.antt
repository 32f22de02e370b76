-- Reading a number digit by digit, as a loop does.
use Rattle.std.proofs.Common.{◌≡◌, ℕ, ◌+◌, ◌-◌, ◌*◌, ◌^◌, ◌<◌, ◌≤◌, true, false, cond, ltb, List, [], ◌∷◌, length, get_or, drop, Option, Some, None, refl, sym, ap, ◌∙◌, arith, add-one}
use Rattle.std.proofs.Math.Seq.{drop-cons}
use Rattle.std.proofs.Math.ListN.{drop_of_length-le}
use Rattle.std.proofs.Math.Nat.{mul-le-mul_left}
use Rattle.std.proofs.lemmas.Grind.{common_steps}
use Rattle.vd_model.specs.Fields.{digit, digits_from, number_within}

above : (n : ℕ) → 2 ^ 64 ≤ n → number_within 0 (2 ^ 64 - 1) (Some n) ≡ None
above n h = grind (arith, common_steps)

fits : (n : ℕ) → n < 2 ^ 64 → number_within 0 (2 ^ 64 - 1) (Some n) ≡ Some n
fits n h = grind (arith, common_steps)

too_big : (radix n : ℕ) (ds : List ℕ) → 1 ≤ radix → 2 ^ 64 ≤ n → number_within 0 (2 ^ 64 - 1) (digits_from radix n ds) ≡ None
too_big radix n [] r h = above n h
too_big radix n (d ∷ ds) r h =
    let grows : n * 1 ≤ n * radix = mul-le-mul_left n r in
    let next = too_big radix (n * radix + digit d) ds r (omega (arith, grows)) in
    elim (ltb (digit d) radix) as (λ b. number_within 0 (2 ^ 64 - 1) (cond b (digits_from radix (n * radix + digit d) ds) None) ≡ None) [ true ↦ next | false ↦ refl ]

step : (radix n i : ℕ) (ds : List ℕ) → i < length ds → digit (get_or ds i 0) < radix → digits_from radix n (drop i ds) ≡ digits_from radix (n * radix + digit (get_or ds i 0)) (drop (i + 1) ds)
step radix n i ds lt below = rw (add-one, drop-cons ds i 0) (grind (arith, common_steps))

pub goes_on : (radix n i d : ℕ) (ds : List ℕ) (total : Option ℕ) → i < length ds → d ≡ digit (get_or ds i 0) → d < radix
    → digits_from radix n (drop i ds) ≡ total → digits_from radix (n * radix + d) (drop (i + 1) ds) ≡ total
goes_on radix n i d ds total lt is below so_far =
    let digit_below : digit (get_or ds i 0) < radix = rw (← is) below in
    ap (λ x. digits_from radix (n * radix + x) (drop (i + 1) ds)) is ∙ sym (step radix n i ds lt digit_below) ∙ so_far

pub passes_end : (radix n i d : ℕ) (ds : List ℕ) (total : Option ℕ) → i < length ds → 1 ≤ radix → d ≡ digit (get_or ds i 0) → d < radix → (n * radix + d < 2 ^ 64 → ⊥)
    → digits_from radix n (drop i ds) ≡ total → None ≡ number_within 0 (2 ^ 64 - 1) total
passes_end radix n i d ds total lt r is below big so_far =
    let large : 2 ^ 64 ≤ n * radix + digit (get_or ds i 0) = rw (← is) (omega (arith, big)) in
    let digit_below : digit (get_or ds i 0) < radix = rw (← is) below in
    sym (ap (number_within 0 (2 ^ 64 - 1)) (sym so_far ∙ step radix n i ds lt digit_below) ∙ too_big radix (n * radix + digit (get_or ds i 0)) (drop (i + 1) ds) r large)

pub is_read : (radix n i : ℕ) (ds : List ℕ) (total : Option ℕ) → length ds ≤ i → n < 2 ^ 64 → digits_from radix n (drop i ds) ≡ total → Some n ≡ number_within 0 (2 ^ 64 - 1) total
is_read radix n i ds total le lt so_far =
    let nothing : drop i ds ≡ [] = drop_of_length-le ds le in
    sym (ap (number_within 0 (2 ^ 64 - 1)) (sym so_far ∙ ap (digits_from radix n) nothing) ∙ fits n lt)
