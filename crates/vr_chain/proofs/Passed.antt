-- What holds of a descriptor that passes the tests.
use Rattle.std.proofs.Common.{◌≡◌, ℕ, ◌+◌, ◌/◌, ◌%◌, ◌<◌, ◌≤◌, Bool, true, false, not, cond, ◌&&◌, ◌||◌, nat_lt, nat_le, ◌==◌, List, Some, None, arith}
use Rattle.std.proofs.lemmas.Bool.Decides.{nat_tests}
use Rattle.vd_model.specs.declared.parts.Part.{Part}
use Rattle.vd_model.specs.declared.answer.ChainKind.TheVariants.{Loop, Next, Order, Shape, Nested, Long}
use Rattle.vd_model.specs.declared.descriptor.Descriptor.{Descriptor}
use Rattle.vd_model.specs.declared.descriptor.Position.{Position}
use Rattle.vd_model.specs.Trace.{first_kind, is_indirect, has_next, is_misshapen, is_long, leaves_table, breaks_order, total_len}

-- no test holds
record PassedTests (indirect in_table misshapen long out next seen : Bool) : Type 0 where
  in_ring : indirect ≡ true → in_table ≡ false
  shape : indirect ≡ true → misshapen ≡ false
  fits : indirect ≡ false → long ≡ false
  inside : indirect ≡ false → out ≡ false
  unseen : indirect ≡ false → next ≡ true → seen ≡ false

tests_passed : (indirect in_table misshapen order long out next seen : Bool)
    → cond indirect (cond in_table (Some Nested) (cond misshapen (Some Shape) None))
    (cond order (Some Order) (cond long (Some Long) (cond out (Some Next) (cond (next && seen) (Some Loop) None)))) ≡ None
    → PassedTests indirect in_table misshapen long out next seen
tests_passed indirect in_table misshapen order long out next seen h = record {
  in_ring = λ i. grind arith;
  shape = λ i. grind arith;
  fits = λ i. grind arith;
  inside = λ i. grind arith;
  unseen = λ i n. grind arith;
}

-- what a descriptor that passes is
pub record Passed (parts : List Part) (seen : Bool) (p : Position) (d : Descriptor) : Type 0 where
  pub in_ring : is_indirect d ≡ true → p.table.number ≡ 1 → ⊥
  pub shape : is_indirect d ≡ true → (0 < d.len / 16) × (d.len ≤ 524288)
  pub fits : is_indirect d ≡ false → total_len parts + d.len ≤ 16777216
  pub inside : is_indirect d ≡ false → has_next d ≡ true → d.next < p.table.entries
  pub unseen : is_indirect d ≡ false → has_next d ≡ true → seen ≡ false

shaped : (n next : Bool) (len : ℕ) → (not n || next || len == 0 || not (len % 16 == 0) || nat_lt 524288 len) ≡ false → (0 < len / 16) × (len ≤ 524288)
shaped n next len h = grind (arith, nat_tests)

within : (next : Bool) (entries index : ℕ) → next ≡ true → (next && nat_le entries index) ≡ false → index < entries
within next entries index e h = grind (arith, nat_tests)

pub passed : (n : Bool) (parts : List Part) (seen : Bool) (p : Position) (d : Descriptor) → first_kind n parts seen p d ≡ None → Passed parts seen p d
passed n parts seen p d h =
    let t = tests_passed (is_indirect d) (p.table.number == 1) (is_misshapen n d) (breaks_order parts d) (is_long parts d) (leaves_table p d) (has_next d) seen h in
    record {
      in_ring = λ i e. let f = t.in_ring i in grind (arith, nat_tests);
      shape = λ i. shaped n (has_next d) d.len (t.shape i);
      fits = λ i. let f = t.fits i in grind (arith, nat_tests);
      inside = λ i g. within (has_next d) p.table.entries d.next g (t.inside i);
      unseen = λ i g. t.unseen i g;
    }
