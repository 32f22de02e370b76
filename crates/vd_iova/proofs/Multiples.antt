-- Multiples of a step.
use Rattle.std.proofs.Common.{◌≡◌, ◌≢◌, ℕ, zero, suc, ◌+◌, ◌-◌, ◌*◌, ◌/◌, ◌%◌, ◌<◌, ◌≤◌, inl, inr, ap, sym, ◌∙◌, arith, mul_assoc}
use Rattle.std.proofs.lemmas.Bool.Decides.{leb_tells}
use Rattle.std.proofs.Math.Nat.{mul-mod_left, suc-mul, zero-mul, mul_comm, add-mul-mod_self_right}
use Rattle.std.proofs.lemmas.Nat.{mod-mul-add}

pub no_multiple : (step q k : ℕ) → q * step < k → k < q * step + step → k % step ≢ 0
no_multiple step q k low high e =
    let rest : q * step + (k - q * step) ≡ k = omega arith in
    let left : (q * step + (k - q * step)) % step ≡ k - q * step = mod-mul-add q step (k - q * step) (omega arith) in
    let zero_left : k - q * step ≡ 0 = sym left ∙ ap (λ x. x % step) rest ∙ e in
    omega arith

pub is_multiple : (step q k : ℕ) → k ≡ q * step → k % step ≡ 0
is_multiple step q k e = ap (λ x. x % step) e ∙ mul-mod_left q step

suc_step : (r step : ℕ) → suc r * step ≡ r * step + step
suc_step r step = suc-mul r step

pub between : (step q next k : ℕ) → next ≡ q * step → k < next → next < k + step → k % step ≢ 0
between step zero next k e below near = absurd (let none : next ≡ 0 = e ∙ zero-mul step in omega arith)
between step (suc r) next k e below near =
    let split : next ≡ r * step + step = e ∙ suc_step r step in
    no_multiple step r k (omega arith) (omega arith)

pub at_least : (step q next : ℕ) → next ≡ q * step → 0 < next → step ≤ next
at_least step zero next e pos = absurd (let none : next ≡ 0 = e ∙ zero-mul step in omega arith)
at_least step (suc r) next e pos = let split : next ≡ r * step + step = e ∙ suc_step r step in omega arith

pub prev : (step q next : ℕ) → 0 < step → step ≤ next → next ≡ q * step → (r : ℕ) × (next - step ≡ r * step)
prev step zero next pos fits e = absurd (let none : next ≡ 0 = e ∙ zero-mul step in omega arith)
prev step (suc r) next pos fits e = (r, (let split : next ≡ r * step + step = e ∙ suc_step r step in omega arith))

pub first_step : (step x : ℕ) → (q : ℕ) × (x / step * step + step ≡ q * step)
first_step step x = (suc (x / step), sym (suc_step (x / step) step))

pub beyond : (step x : ℕ) → 0 < step → x < x / step * step + step
beyond step x pos = omega (arith, mul_comm (x / step) step)

pub under : (step x : ℕ) → 0 < step → x / step * step ≤ x
under step x pos = omega (arith, mul_comm (x / step) step)

-- a multiple below 64 leaves room for a whole step, where 64 is a multiple too
pub room_in : (step q i : ℕ) → 64 ≡ q * step → i < 64 → i % step ≡ 0 → i + step ≤ 64
room_in step q i whole below e = elim (leb_tells (i + step) 64) [
  | inl fits ↦ fits.1
  | inr past ↦ absurd (between step q 64 i whole below past.1 e)
]

-- within a word, an index has the remainder of its bit
pub same_rest : (step q w i : ℕ) → 64 ≡ q * step → (64 * w + i) % step ≡ i % step
same_rest step q w i whole =
    let turned : 64 * w + i ≡ i + w * q * step = omega (arith, mul_comm 64 w, ap (λ x. w * x) whole, mul_assoc w q step) in
    ap (λ x. x % step) turned ∙ add-mul-mod_self_right i (w * q) step
