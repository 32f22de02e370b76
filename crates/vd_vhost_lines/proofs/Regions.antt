-- Reading the regions of a line one after the other, as a loop does.
use Rattle.std.proofs.Common.{◌≡◌, ℕ, ◌+◌, ◌<◌, ◌≤◌, List, [], ◌∷◌, ◌++◌, length, Option, Some, None, Result, Ok, Err, refl, sym, ap, subst, ◌∙◌, arith, append_assoc}
use Rattle.std.specs.Prelude.{option_map}
use Rattle.std.proofs.lemmas.List.{append-nil, length-append}
use Rattle.std.proofs.lemmas.Grind.{common_steps}
use Rattle.vd_model.specs.declared.memory.Region.{Region}
use Rattle.vd_model.specs.Forms.{each_word}
use Rattle.vd_words.specs.declared.error.LineError.{LineError}
use Rattle.vd_words.specs.declared.error.LineError.TheVariants.{Bad, Memory}
use Rattle.vd_words.specs.Gives.{Fails, Gives, Ends}
use Rattle.vd_vhost_model.specs.VhostLines.{region_field, regions_form}

-- what was read before, and what is still read
abbrev pub with_front : List Region → Option (List Region) → Option (List Region)
with_front front read = option_map (λ regions. front ++ regions) read

pub record RegionsSoFar (regions : List Region) (words total : List (List ℕ)) (count : ℕ) : Type 0 where
  pub read : with_front regions (each_word region_field words) ≡ each_word region_field total
  pub lengths : length regions + length words ≡ length total
  pub counted : 0 < length words → length regions ≡ count
  pub below : length regions ≤ count

no_front : (read : Option (List Region)) → with_front [] read ≡ read
no_front None = refl
no_front (Some rs) = refl

pub begins : (words : List (List ℕ)) → RegionsSoFar [] words words 0
begins words = record { read = no_front (each_word region_field words); lengths = omega arith; counted = λ h. refl; below = omega arith }

regroup : (front : List Region) (r : Region) (read : Option (List Region)) → with_front front (option_map (λ rs. r ∷ rs) read) ≡ with_front (front ++ r ∷ []) read
regroup front r None = refl
regroup front r (Some rs) = ap Some (simp append_assoc)

pub goes_on : (regions : List Region) (r : Region) (words total : List (List ℕ)) (w : List ℕ) (rest : List (List ℕ)) (count : ℕ) → RegionsSoFar regions words total count
    → words ≡ w ∷ rest → region_field w ≡ Some r → RegionsSoFar (regions ++ r ∷ []) rest total (count + 1)
goes_on regions r words total w rest count so_far e read =
    let len = ap length e in
    let one : with_front regions (each_word region_field words) ≡ with_front (regions ++ r ∷ []) (each_word region_field rest) = rw (e, read) (regroup regions r (each_word region_field rest)) in
    let more = length-append regions (r ∷ []) in
    let grown : length regions ≡ count = so_far.counted (omega (arith, len)) in
    record { read = sym one ∙ so_far.read; lengths = omega (arith, so_far.lengths, len, more); counted = λ h. omega (arith, more, grown); below = omega (arith, more, grown) }

pub stays : (regions : List Region) (words rest total : List (List ℕ)) (count : ℕ) → RegionsSoFar regions words total count → words ≡ [] → rest ≡ [] → RegionsSoFar regions rest total (count + 1)
stays regions words rest total count so_far e f =
    let same : words ≡ rest = e ∙ sym f in
    let none = ap length f in
    record {
      read = subst (λ (ws : List (List ℕ)). with_front regions (each_word region_field ws) ≡ each_word region_field total) same so_far.read;
      lengths = subst (λ (ws : List (List ℕ)). length regions + length ws ≡ length total) same so_far.lengths;
      counted = λ h. absurd (omega (arith, none));
      below = omega (arith, so_far.below);
    }

none_read : (total : List (List ℕ)) → each_word region_field total ≡ None → regions_form total ≡ None
unfolding regions_form
none_read total e = grind (arith, common_steps)

pub fails : (e : LineError) (regions : List Region) (words total : List (List ℕ)) (w : List ℕ) (rest : List (List ℕ)) (count : ℕ) → RegionsSoFar regions words total count
    → words ≡ w ∷ rest → Fails e (region_field w) → Fails e (regions_form total)
fails Memory regions words total w rest count so_far e read = tt
fails Bad regions words total w rest count so_far e read =
    let one : with_front regions (each_word region_field words) ≡ None = rw (e, read) refl in
    none_read total (sym so_far.read ∙ one)

too_many : (total : List (List ℕ)) → 64 < length total → regions_form total ≡ None
unfolding regions_form
too_many total lt = grind (arith, common_steps)

all_read : (total : List (List ℕ)) → length total ≤ 64 → regions_form total ≡ each_word region_field total
unfolding regions_form
all_read total high = grind (arith, common_steps)

pub ends : (r : Result (List Region) LineError) (regions : List Region) (words total : List (List ℕ)) (count : ℕ) → RegionsSoFar regions words total count → 64 ≤ count → count ≤ 64
    → Ends regions words r → Gives r (regions_form total)
ends (Ok r) regions [] total count so_far le ge end =
    let whole : each_word region_field total ≡ Some regions = sym so_far.read ∙ ap Some (append-nil regions) in
    all_read total (omega (arith, so_far.lengths, so_far.below)) ∙ whole ∙ ap Some (sym end.0)
ends (Ok r) regions (w ∷ ws) total count so_far le ge end = absurd (let h = end.1 in cc)
ends (Err e) regions [] total count so_far le ge end = absurd (let h = end.1 in cc)
ends (Err e) regions (w ∷ ws) total count so_far le ge end =
    let counted = so_far.counted (omega arith) in
    rw end.0 (too_many total (omega (arith, so_far.lengths, counted)))
