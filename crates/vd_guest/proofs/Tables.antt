-- A table is made of its last region, and then of one more each time.
use Rattle.std.proofs.Common.{◌≡◌, ℕ, zero, suc, ◌+◌, ◌<◌, ◌≤◌, refl, ap, subst, sym, ◌∙◌, arith, Bool, true, false, ◌&&◌, not, nat_le, List, [], ◌∷◌, length, drop, get_or, true≢false}
use Rattle.std.proofs.lemmas.List.{drop_more}
use Rattle.std.proofs.lemmas.Bool.{and_from, and_parts}
use Rattle.std.proofs.lemmas.Bool.Decides.{nat_tests}
use Rattle.std.specs.Prelude.{is_some}
use Rattle.std.specs.List.{list_any, list_all}
use Rattle.vd_model.specs.declared.memory.Region.{Region}
use Rattle.vd_model.specs.AreaTurns.{overlaps, first_region}
use Rattle.vd_regions.specs.Ordered.{with_region}
use Rattle.vd_vhost_model.specs.GuestTable.{are_apart, is_region_of}
use Rattle.vd_guest.specs.Kept.{StandsFor, IsTableFor}
use Rattle.vd_guest.proofs.Ordering.{are_long, behind_one, inserted, each_with, met_is_found}

pub empty_table : (size : ℕ) → IsTableFor size [] []
empty_table size = record {
  stands = record { apart = refl; same = λ start last. refl };
  within = refl;
}

region_long : (size : ℕ) (r : Region) → is_region_of size r ≡ true → nat_le r.start r.last ≡ true
region_long size r e = grind (arith, nat_tests, e)

all_long : (size : ℕ) (rs : List Region) → list_all (is_region_of size) rs ≡ true → are_long rs ≡ true
all_long size [] e = refl
all_long size (r ∷ rs) e =
    let parts = and_parts (is_region_of size r) (list_all (is_region_of size) rs) e in
    and_from (nat_le r.start r.last) (are_long rs) (region_long size r parts.0) (all_long size rs parts.1)

-- the region meets one of what was given exactly where it meets one of what is kept
pub meets_same : (given kept : List Region) → StandsFor given kept → (start last : ℕ) → list_any (overlaps start last) kept ≡ list_any (overlaps start last) given
meets_same given kept s start last =
    met_is_found (overlaps start last) kept ∙ ap is_some (s.same start last) ∙ sym (met_is_found (overlaps start last) given)

pub one_more : (size : ℕ) (given kept : List Region) (r : Region) → IsTableFor size given kept → is_region_of size r ≡ true → list_any (overlaps r.start r.last) kept ≡ false
    → IsTableFor size (r ∷ given) (with_region r kept)
one_more size given kept r t good none =
    let long : r.start ≤ r.last = (let l = region_long size r good in grind (arith, nat_tests, l)) in
    record {
      stands = record {
        apart = and_from (not (list_any (overlaps r.start r.last) given)) (are_apart given) (ap not (sym (meets_same given kept t.stands r.start r.last) ∙ none)) t.stands.apart;
        same = λ start last. inserted (overlaps start last) r kept long (all_long size kept t.within) none ∙ behind_one (overlaps start last) r kept given (t.stands.same start last);
      };
      within = each_with (is_region_of size) r kept good t.within;
    }

-- ---- the regions from one on

pub apart_from : (n : ℕ) (rs : List Region) → are_apart rs ≡ true → are_apart (drop n rs) ≡ true
apart_from zero rs e = e
apart_from (suc n) [] e = refl
apart_from (suc n) (r ∷ rs) e = apart_from n rs (and_parts (not (list_any (overlaps r.start r.last) rs)) (are_apart rs) e).1

is_no : (b : Bool) → (b ≡ true → ⊥) → b ≡ false
is_no false h = refl
is_no true h = absurd (h refl)

-- regions of which one meets a later one aren't apart
pub not_apart : (n : ℕ) (rs given kept : List Region) (r : Region) → drop n rs ≡ r ∷ given → StandsFor given kept → list_any (overlaps r.start r.last) kept ≡ true → are_apart rs ≡ false
not_apart n rs given kept r at s meets = is_no (are_apart rs) (λ yes.
    let here : are_apart (r ∷ given) ≡ true = sym (ap are_apart at) ∙ apart_from n rs yes in
    let none : not (list_any (overlaps r.start r.last) given) ≡ true = (and_parts (not (list_any (overlaps r.start r.last) given)) (are_apart given) here).0 in
    true≢false (sym (sym (ap not (sym (meets_same given kept s r.start r.last) ∙ meets)) ∙ none)))

-- ---- the loop

pub region_good : (size : ℕ) (rs : List Region) (i : ℕ) (d : Region) → i < length rs → list_all (is_region_of size) rs ≡ true → is_region_of size (get_or rs i d) ≡ true
region_good size [] i d below all = absurd (omega arith)
region_good size (r ∷ rs) zero d below all = (and_parts (is_region_of size r) (list_all (is_region_of size) rs) all).0
region_good size (r ∷ rs) (suc i) d below all = region_good size rs i d (omega arith) (and_parts (is_region_of size r) (list_all (is_region_of size) rs) all).1

-- the table has one region more, the one before those that it had
pub loop_goes_on : (size : ℕ) (rs kept new : List Region) (i j : ℕ) (d : Region) → i + 1 ≡ j → j ≤ length rs → list_all (is_region_of size) rs ≡ true → IsTableFor size (drop j rs) kept
    → list_any (overlaps (get_or rs i d).start (get_or rs i d).last) kept ≡ false → new ≡ with_region (get_or rs i d) kept → IsTableFor size (drop i rs) new
loop_goes_on size rs kept new i j d next within good t none is =
    let below : i < length rs = omega arith in
    subst (λ given. IsTableFor size given new) (sym (drop_more rs i d below))
    (subst (λ k. IsTableFor size (get_or rs i d ∷ drop k rs) new) (sym next)
    (subst (λ k. IsTableFor size (get_or rs i d ∷ drop j rs) k) (sym is) (one_more size (drop j rs) kept (get_or rs i d) t (region_good size rs i d below good) none)))

-- two of the regions meet
pub loop_ends : (size : ℕ) (rs kept : List Region) (i j : ℕ) (d : Region) → i + 1 ≡ j → j ≤ length rs → IsTableFor size (drop j rs) kept
    → list_any (overlaps (get_or rs i d).start (get_or rs i d).last) kept ≡ true → (list_all (is_region_of size) rs && are_apart rs) ≡ false
loop_ends size rs kept i j d next within t meets =
    let below : i < length rs = omega arith in
    let at : drop i rs ≡ get_or rs i d ∷ drop j rs = drop_more rs i d below ∙ ap (λ k. get_or rs i d ∷ drop k rs) next in
    ap (λ b. list_all (is_region_of size) rs && b) (not_apart i rs (drop j rs) kept (get_or rs i d) at t.stands meets) ∙ and_no (list_all (is_region_of size) rs) where
      and_no : (b : Bool) → (b && false) ≡ false
      and_no true = refl
      and_no false = refl
