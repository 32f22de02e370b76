-- Reading the parts of a line one after the other, as a loop does.
use Rattle.std.proofs.Common.{◌≡◌, ℕ, ◌+◌, ◌<◌, ◌≤◌, Bool, true, false, cond, ltb, leb, ◌&&◌, List, [], ◌∷◌, ◌++◌, length, Option, Some, None, Result, Ok, Err, refl, sym, ap, subst, ◌∙◌, arith, append_assoc}
use Rattle.std.specs.Prelude.{option_map}
use Rattle.std.proofs.lemmas.List.{append-nil, length-append}
use Rattle.std.proofs.lemmas.Grind.{common_steps}
use Rattle.vd_model.specs.declared.parts.Part.{Part}
use Rattle.vd_words.specs.declared.error.LineError.{LineError}
use Rattle.vd_words.specs.declared.error.LineError.TheVariants.{Bad, Memory}
use Rattle.vd_words.specs.Gives.{Fails, Gives, Ends}
use Rattle.vd_model.specs.Forms.{each_word, part_field, parts_form}

-- what was read before, and what is still read
abbrev pub with_front : List Part → Option (List Part) → Option (List Part)
with_front front read = option_map (λ parts. front ++ parts) read

pub record PartsSoFar (parts : List Part) (words total : List (List ℕ)) (count : ℕ) : Type 0 where
  pub read : with_front parts (each_word part_field words) ≡ each_word part_field total
  pub lengths : length parts + length words ≡ length total
  pub counted : 0 < length words → length parts ≡ count
  pub below : length parts ≤ count

no_front : (read : Option (List Part)) → with_front [] read ≡ read
no_front None = refl
no_front (Some ps) = refl

pub begins : (words : List (List ℕ)) → PartsSoFar [] words words 0
begins words = record { read = no_front (each_word part_field words); lengths = omega arith; counted = λ h. refl; below = omega arith }

regroup : (front : List Part) (p : Part) (read : Option (List Part)) → with_front front (option_map (λ xs. p ∷ xs) read) ≡ with_front (front ++ p ∷ []) read
regroup front p None = refl
regroup front p (Some ps) = ap Some (simp append_assoc)

pub goes_on : (parts : List Part) (p : Part) (words total : List (List ℕ)) (w : List ℕ) (rest : List (List ℕ)) (count : ℕ) → PartsSoFar parts words total count
    → words ≡ w ∷ rest → part_field w ≡ Some p → PartsSoFar (parts ++ p ∷ []) rest total (count + 1)
goes_on parts p words total w rest count so_far e read =
    let len = ap length e in
    let one : with_front parts (each_word part_field words) ≡ with_front (parts ++ p ∷ []) (each_word part_field rest) = rw (e, read) (regroup parts p (each_word part_field rest)) in
    let more = length-append parts (p ∷ []) in
    let grown : length parts ≡ count = so_far.counted (omega (arith, len)) in
    record { read = sym one ∙ so_far.read; lengths = omega (arith, so_far.lengths, len, more); counted = λ h. omega (arith, more, grown); below = omega (arith, more, grown) }

pub stays : (parts : List Part) (words rest total : List (List ℕ)) (count : ℕ) → PartsSoFar parts words total count → words ≡ [] → rest ≡ [] → PartsSoFar parts rest total (count + 1)
stays parts words rest total count so_far e f =
    let same : words ≡ rest = e ∙ sym f in
    let none = ap length f in
    record {
      read = subst (λ (ws : List (List ℕ)). with_front parts (each_word part_field ws) ≡ each_word part_field total) same so_far.read;
      lengths = subst (λ (ws : List (List ℕ)). length parts + length ws ≡ length total) same so_far.lengths;
      counted = λ h. absurd (omega (arith, none));
      below = omega (arith, so_far.below);
    }

either : {A : Type 0} (b : Bool) (x : A) → cond b x x ≡ x
either true x = refl
either false x = refl

none_read : (total : List (List ℕ)) → each_word part_field total ≡ None → parts_form total ≡ None
unfolding parts_form
none_read total e = rw e (either (ltb 0 (length total) && leb (length total) 64) None)

pub fails : (e : LineError) (parts : List Part) (words total : List (List ℕ)) (w : List ℕ) (rest : List (List ℕ)) (count : ℕ) → PartsSoFar parts words total count
    → words ≡ w ∷ rest → Fails e (part_field w) → Fails e (parts_form total)
fails Memory parts words total w rest count so_far e read = tt
fails Bad parts words total w rest count so_far e read =
    let one : with_front parts (each_word part_field words) ≡ None = rw (e, read) refl in
    none_read total (sym so_far.read ∙ one)

no_parts : (total : List (List ℕ)) → length total ≡ 0 → parts_form total ≡ None
unfolding parts_form
no_parts total e = rw e refl

too_many : (total : List (List ℕ)) → 64 < length total → parts_form total ≡ None
unfolding parts_form
too_many total lt = grind (arith, common_steps)

all_read : (total : List (List ℕ)) → 0 < length total → length total ≤ 64 → parts_form total ≡ each_word part_field total
unfolding parts_form
all_read total low high = grind (arith, common_steps)

pub ends_empty : (parts : List Part) (words total : List (List ℕ)) (count : ℕ) → PartsSoFar parts words total count → 64 ≤ count → length parts ≡ 0 → parts_form total ≡ None
ends_empty parts [] total count so_far le e = no_parts total (omega (arith, so_far.lengths))
ends_empty parts (w ∷ ws) total count so_far le e =
    let counted = so_far.counted (omega arith) in
    absurd (omega (arith, counted))

pub ends : (r : Result (List Part) LineError) (parts : List Part) (words total : List (List ℕ)) (count : ℕ) → PartsSoFar parts words total count → 64 ≤ count → count ≤ 64
    → 0 < length parts → Ends parts words r → Gives r (parts_form total)
ends (Ok r) parts [] total count so_far le ge some end =
    let whole : each_word part_field total ≡ Some parts = sym so_far.read ∙ ap Some (append-nil parts) in
    all_read total (omega (arith, so_far.lengths)) (omega (arith, so_far.lengths, so_far.below)) ∙ whole ∙ ap Some (sym end.0)
ends (Ok r) parts (w ∷ ws) total count so_far le ge some end = absurd (let h = end.1 in cc)
ends (Err e) parts [] total count so_far le ge some end = absurd (let h = end.1 in cc)
ends (Err e) parts (w ∷ ws) total count so_far le ge some end =
    let counted = so_far.counted (omega arith) in
    rw end.0 (too_many total (omega (arith, so_far.lengths, counted)))
