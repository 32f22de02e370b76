-- The loop of align_of and the least power of two.
use Rattle.std.proofs.Common.{◌≡◌, ℕ, zero, suc, ◌+◌, ◌*◌, ◌<◌, ◌≤◌, ◌^◌, refl, arith, rules, nat_le, false, true, cond, ap, sym, ◌∙◌, mul_assoc}
use Rattle.std.proofs.Math.Nat.{pow-succ'}
use Rattle.std.proofs.lemmas.Grind.{common_steps}
use Rattle.vd_num.specs.Number.{doubled_to, power_from}

-- from p on, enough doublings are left, and they lead where all of them do
pub record Doubles (p n : ℕ) : Type 0 where
  pub left : ℕ
  pub enough : p * 2 ^ left ≡ 2 ^ 64
  pub same : doubled_to left p n ≡ power_from n

pub doubles_first : (n : ℕ) → Doubles 1 n
unfolding power_from
doubles_first n = record { left = 64; enough = refl; same = refl }

pub doubled_at : (k p n : ℕ) → n ≤ p → doubled_to k p n ≡ p
unfolding doubled_to
doubled_at zero p n h = refl
doubled_at (suc k) p n h = grind (arith, common_steps)

pub doubled_more : (k p n : ℕ) → p < n → doubled_to (suc k) p n ≡ doubled_to k (2 * p) n
unfolding doubled_to
doubled_more k p n h = grind (arith, common_steps)

pub doubles_more : (p n : ℕ) → Doubles p n → p < n → n < 2 ^ 64 → Doubles (p * 2) n
doubles_more p n d below fits = more d.left d.enough d.same where
  more : (k : ℕ) → p * 2 ^ k ≡ 2 ^ 64 → doubled_to k p n ≡ power_from n → Doubles (p * 2) n
  more zero e s = absurd (omega arith)
  more (suc k) e s = record {
    left = k;
    enough = mul_assoc p 2 (2 ^ k) ∙ ap (λ x. p * x) (sym (pow-succ' 2 k)) ∙ e;
    same = grind (arith, doubled_more k p n below);
  }

pub doubles_end : (p n : ℕ) → Doubles p n → n ≤ p → p ≡ power_from n
doubles_end p n d h = sym (doubled_at d.left p n h) ∙ d.same
