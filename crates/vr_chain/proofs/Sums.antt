-- Sums over parts.
use Rattle.std.proofs.Common.{◌≡◌, ℕ, ◌+◌, Bool, true, false, cond, ◌||◌, List, [], ◌∷◌, ◌++◌, refl, ap, ◌∙◌, arith}
use Rattle.std.specs.List.{list_any, sum_by}
use Rattle.std.proofs.lemmas.List.Sums.{sum_by-append, sum_by-cons}
use Rattle.std.proofs.lemmas.List.Folds.{list_any-append}
use Rattle.vd_model.specs.declared.parts.Part.{Part}
use Rattle.vd_model.specs.Trace.{readable_len, writable_len, total_len}

either : (w : Bool) (len r v t : ℕ) → r + v ≡ t → cond w 0 len + r + (cond w len 0 + v) ≡ len + t
either true len r v t e = omega arith
either false len r v t e = omega arith

-- each byte is readable or writable
pub total-split : (parts : List Part) → readable_len parts + writable_len parts ≡ total_len parts
total-split [] = refl
total-split (p ∷ parts) =
    let r = sum_by-cons (λ (q : Part). cond q.writable 0 q.len) p parts in
    let w = sum_by-cons (λ (q : Part). cond q.writable q.len 0) p parts in
    let t = sum_by-cons (λ (q : Part). q.len) p parts in
    let rest = either p.writable p.len _ _ _ (total-split parts) in
    omega (arith, r, w, t, rest)

-- the sum with one more
pub sum_by-push : (f : Part → ℕ) (parts : List Part) (p : Part) → sum_by f (parts ++ p ∷ []) ≡ sum_by f parts + f p
sum_by-push f parts p = sum_by-append f parts (p ∷ []) ∙ ap (λ (n : ℕ). sum_by f parts + n) (omega arith)

-- a part at the end
pub readable-push : (parts : List Part) (p : Part) (w : Bool) → p.writable ≡ w → readable_len (parts ++ p ∷ []) ≡ readable_len parts + cond w 0 p.len
readable-push parts p w e = sum_by-push (λ (q : Part). cond q.writable 0 q.len) parts p ∙ ap (λ (b : Bool). readable_len parts + cond b 0 p.len) e

pub writable-push : (parts : List Part) (p : Part) (w : Bool) → p.writable ≡ w → writable_len (parts ++ p ∷ []) ≡ writable_len parts + cond w p.len 0
writable-push parts p w e = sum_by-push (λ (q : Part). cond q.writable q.len 0) parts p ∙ ap (λ (b : Bool). writable_len parts + cond b p.len 0) e

any_of : (a : Bool) (w : Bool) → (a || (w || false)) ≡ cond w true a
any_of true true = refl
any_of true false = refl
any_of false true = refl
any_of false false = refl

pub any-push : (parts : List Part) (p : Part) (w : Bool) → p.writable ≡ w → list_any (λ q. q.writable) (parts ++ p ∷ []) ≡ cond w true (list_any (λ q. q.writable) parts)
any-push parts p w e = list_any-append (λ (q : Part). q.writable) parts (p ∷ []) ∙ ap (λ (b : Bool). list_any (λ (q : Part). q.writable) parts || (b || false)) e ∙ any_of (list_any (λ (q : Part). q.writable) parts) w
