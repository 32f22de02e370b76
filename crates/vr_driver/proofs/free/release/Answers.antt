use Rattle.std.proofs.Common.{◌≡◌, ℕ, zero, suc, ◌+◌, ◌<◌, List, [], ◌∷◌, ◌++◌, length, take, drop, get_or, Option, None, refl, sym, ◌∙◌, arith, rules, append_assoc}
use Rattle.std.specs.Prelude.{map}
use Rattle.std.proofs.Math.ListN.{set}
use Rattle.std.proofs.Math.Seq.{drop-cons, take-suc-set}
use Rattle.std.proofs.lemmas.Grind.{common_steps}
use Rattle.vr_driver.specs.Side.{other_owner, without_owner}
use Rattle.vr_driver.proofs.free.release.Goals as goal

drop_past : {X : Type 0} (xs : List X) (i : ℕ) (x : X) → drop (suc i) (set xs i x) ≡ drop (suc i) xs
drop_past [] i x = refl
drop_past (y ∷ ys) zero x = refl
drop_past (y ∷ ys) (suc i) x = drop_past ys i x

-- one descriptor more is given back
one_more : (f : Option ℕ → Option ℕ) (xs all : List (Option ℕ)) (i : ℕ) (y : Option ℕ) → i < length xs → y ≡ f (get_or xs i None) → take i xs ++ map f (drop i xs) ≡ all
    → take (i + 1) (set xs i y) ++ map f (drop (i + 1) (set xs i y)) ≡ all
one_more f xs all i y h e before =
    let on : i + 1 ≡ suc i = omega arith in
    let front : take (suc i) (set xs i y) ≡ take i xs ++ (y ∷ []) = take-suc-set xs i y h in
    let back : drop (suc i) (set xs i y) ≡ drop (suc i) xs = drop_past xs i y in
    let split : drop i xs ≡ get_or xs i None ∷ drop (suc i) xs = drop-cons xs i None h in
    let joined : (take i xs ++ (y ∷ [])) ++ map f (drop (suc i) xs) ≡ take i xs ++ (y ∷ map f (drop (suc i) xs)) = rw append_assoc refl in
    let same : take i xs ++ (y ∷ map f (drop (suc i) xs)) ≡ take i xs ++ map f (drop i xs) = rw (split, e) refl in
    rw (on, front, back) (joined ∙ same ∙ before)

pub loop-i-preserved : goal.loop-i-preserved
loop-i-preserved c = one_more (other_owner c.args.head) c.loop-i.owners (without_owner c.args.owners.now c.args.head) c.loop-i.i c.after_release.result (search rules) c.after_release.ensures c.loop-i.invariant

pub returns : goal.returns
returns c =
    let none : drop c.loop-i.i c.loop-i.owners ≡ [] = grind (arith, common_steps) in
    let whole : take c.loop-i.i c.loop-i.owners ≡ c.loop-i.owners = grind (arith, common_steps) in
    let split : take c.loop-i.i c.loop-i.owners ++ map (other_owner c.args.head) (drop c.loop-i.i c.loop-i.owners) ≡ c.loop-i.owners = rw (none, whole) (search rules) in
    sym split ∙ c.loop-i.invariant
