-- How a run of a bus ends.
use Rattle.std.proofs.Common.{◌≡◌, ◌≢◌, ℕ, ◌≤◌, ◌⊎◌, inl, inr, refl, ap, subst, sym, ◌∙◌, arith, List, [], ◌∷◌, ◌++◌, append-nil, length, Option, Some, None, Bool, true, false, if◌then◌else◌}
use Rattle.std.proofs.lemmas.Bool.Decides.{nat_tests, eqb_tells}
use Rattle.std.specs.Prelude.{codes}
use Rattle.std.specs.Str.{bytes_eq}
use Rattle.vd_output.specs.Out.{stop_in, At_the_end, Not_in_grammar, Too_long}
use Rattle.vd_loop.specs.declared.progress.Stop.TheVariants.{Memory}
use Rattle.vd_loop.specs.Outs.{AppendedFront, AppendedLines, TextStops, TextWrites}
use Rattle.vd_loop.specs.Statuses.{stop_of_status, is_status}
use Rattle.vd_loop.specs.Written.{Appended}
use Rattle.vd_options.specs.Words.{between, decimal_of}
use Rattle.vd_options.specs.Programs.{asked_guest}

-- ---- no memory for the bus

module _ (out : List (List ℕ) → List ℕ) (good : List (List ℕ)) where
  none_more : (held : Option (List ℕ)) (bytes : List ℕ) → bytes ≡ [] → Appended held held bytes
  none_more None bytes e = tt
  none_more (Some base) bytes e = ap Some (sym (append-nil base) ∙ ap (λ t. base ++ t) (sym e))

  no_front : (held : Option (List ℕ)) → AppendedFront held held (out good)
  no_front None = tt
  no_front (Some base) = ([], out good, refl, ap Some (sym (append-nil base)))

  -- nothing is written
  pub nothing : (held : Option (List ℕ)) → out [] ≡ [] → TextWrites out good Memory 0 held held
  nothing held e = record { there = omega arith; written = none_more held (out []) e; front = no_front held }

-- ---- the words

between_range : (o : Option ℕ) (n : ℕ) → between 1 67108864 o ≡ Some n → (1 ≤ n) × (n ≤ 67108864)
between_range None n e = absurd (cc)
between_range (Some m) n e = grind (arith, nat_tests)

asked_so : (b : Bool) (o : Option ℕ) (n : ℕ) → (if b then o else None) ≡ Some n → o ≡ Some n
asked_so true o n e = e
asked_so false o n e = absurd (cc)

-- a memory that words ask for has so many bytes
pub asked_range : (words : List (List ℕ)) (n : ℕ) → asked_guest words ≡ Some n → (1 ≤ n) × (n ≤ 67108864)
asked_range [] n e = absurd (cc)
asked_range (first ∷ []) n e = absurd (cc)
asked_range (first ∷ bytes ∷ []) n e = between_range (decimal_of bytes) n (asked_so (bytes_eq first (codes "vhost")) (between 1 67108864 (decimal_of bytes)) n e)
asked_range (first ∷ bytes ∷ more ∷ rest) n e = absurd (cc)

-- ---- without a fault

nat_tells : (a b : ℕ) → (a ≡ b) ⊎ (a ≢ b)
nat_tells a b = elim (eqb_tells a b) [ inl h ↦ inl h.1 | inr h ↦ inr h.1 ]

pub complete : (reads : List ℕ → Bool) (text : List ℕ) (status line lines : ℕ) (left : Option (List ℕ)) → is_status status ≡ true → TextStops reads text (stop_of_status status) line lines left
    → stop_in reads text ≡ At_the_end → (status ≡ 3 → ⊥) → (status ≡ 4 → ⊥) → (status ≡ 0) ⊎ (status ≡ 5)
complete reads text status line lines left known ends whole source sink = by (nat_tells status 6) (nat_tells status 7) where
  bad : status ≡ 6 → ⊥
  bad six = let e = subst (λ s. TextStops reads text (stop_of_status s) line lines left) six ends in let f : Not_in_grammar line ≡ At_the_end = sym e.0 ∙ whole in cc

  long : status ≡ 7 → ⊥
  long seven = let e = subst (λ s. TextStops reads text (stop_of_status s) line lines left) seven ends in let f : Too_long line ≡ At_the_end = sym e.0 ∙ whole in cc

  rest : (status ≡ 6 → ⊥) → (status ≡ 7 → ⊥) → ((status ≡ 0) ⊎ (status ≢ 0)) → (status ≡ 0) ⊎ (status ≡ 5)
  rest six seven (inl zero) = inl zero
  rest six seven (inr other) = inr (let five : status ≡ 5 = grind (arith, nat_tests, known, other, source, sink, six, seven) in five)

  by : ((status ≡ 6) ⊎ (status ≢ 6)) → ((status ≡ 7) ⊎ (status ≢ 7)) → (status ≡ 0) ⊎ (status ≡ 5)
  by (inl six) seven = absurd (bad six)
  by (inr six) (inl seven) = absurd (long seven)
  by (inr six) (inr seven) = rest six seven (nat_tells status 0)
