-- Whether parts are out of order is decided one after another.
use Rattle.std.proofs.Common.{◌≡◌, ℕ, suc, ◌+◌, ◌<◌, arith, Bool, true, false, ◌||◌, ◌&&◌, refl, ap, sym, ◌∙◌, List, [], ◌∷◌, length, drop, get_or, true≢false}
use Rattle.std.proofs.Math.Seq.{drop-cons}
use Rattle.std.specs.Prelude.{not}
use Rattle.std.specs.List.{list_any}
use Rattle.vd_model.specs.declared.parts.Part.{Part}
use Rattle.vd_model.specs.RingTurns.{is_out_of_order}

-- of the parts that are left, where one before them is written or none is
abbrev pub is_out_after : Bool → List Part → Bool
is_out_after written [] = false
is_out_after written (part ∷ parts) = (written && not part.writable) || is_out_after (written || part.writable) parts

out_written : (parts : List Part) → is_out_after true parts ≡ (list_any (λ p. not p.writable) parts || is_out_of_order parts)
out_written [] = refl
out_written (part ∷ parts) = by part.writable (out_written parts) where
  by : (w : Bool) → is_out_after true parts ≡ (list_any (λ p. not p.writable) parts || is_out_of_order parts)
      → (not w || is_out_after true parts) ≡ ((not w || list_any (λ p. not p.writable) parts) || ((w && list_any (λ p. not p.writable) parts) || is_out_of_order parts))
  by false e = refl
  by true e = e ∙ twice (list_any (λ p. not p.writable) parts) where
    twice : (a : Bool) → (a || is_out_of_order parts) ≡ (a || (a || is_out_of_order parts))
    twice true = refl
    twice false = refl

pub out_first : (parts : List Part) → is_out_of_order parts ≡ is_out_after false parts
out_first [] = refl
out_first (part ∷ parts) = by part.writable (out_first parts) (out_written parts) where
  by : (w : Bool) → is_out_of_order parts ≡ is_out_after false parts → is_out_after true parts ≡ (list_any (λ p. not p.writable) parts || is_out_of_order parts)
      → ((w && list_any (λ p. not p.writable) parts) || is_out_of_order parts) ≡ is_out_after w parts
  by false e f = e
  by true e f = sym f

-- a part that breaks no order decides what comes after it
pub next_part : (w v : Bool) (parts : List Part) → (w && not v) ≡ false → ((w && not v) || is_out_after (w || v) parts) ≡ is_out_after v parts
next_part true true parts e = refl
next_part true false parts e = absurd (true≢false e)
next_part false v parts e = refl

pub at_part : (w : Bool) (parts : List Part) (i : ℕ) (d : Part) → i < length parts
    → is_out_after w (drop i parts) ≡ ((w && not (get_or parts i d).writable) || is_out_after (w || (get_or parts i d).writable) (drop (i + 1) parts))
at_part w parts i d below = ap (is_out_after w) (drop-cons parts i d below) ∙ ap (λ k. (w && not (get_or parts i d).writable) || is_out_after (w || (get_or parts i d).writable) (drop k parts)) (let e : suc i ≡ i + 1 = omega arith in e)

pub found_part : (w v : Bool) (parts : List Part) → (w && not v) ≡ true → ((w && not v) || is_out_after (w || v) parts) ≡ true
found_part true false parts e = refl
found_part true true parts e = absurd (true≢false (sym e))
found_part false v parts e = absurd (true≢false (sym e))
