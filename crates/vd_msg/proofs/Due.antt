-- The least deadline that is due.
use Rattle.std.proofs.Common.{◌≡◌, ℕ, Bool, true, false, ◌||◌, Option, Some, None, refl, ap, ◌∙◌, sym, arith, cond, List, [], ◌∷◌, ◌++◌, map, filter, fold, min}
use Rattle.std.specs.Option.{is_some, option_map_or}
use Rattle.vd_model.specs.declared.message.Message.{Message}
use Rattle.vd_model.specs.Messages.{is_due, deadline_of, least, least_due, breaks}
use Rattle.vd_msg.specs.Lists.{min_option, due_deadline}

min_option-assoc : (a b c : Option ℕ) → min_option (min_option a b) c ≡ min_option a (min_option b c)
min_option-assoc None b c = refl
min_option-assoc (Some a) None c = refl
min_option-assoc (Some a) (Some b) None = refl
min_option-assoc (Some a) (Some b) (Some c) = ap (λ n. Some n) (omega arith)

min_option-none : (a : Option ℕ) → min_option a None ≡ a
min_option-none None = refl
min_option-none (Some a) = refl

least_is : (n : ℕ) (o : Option ℕ) → Some (option_map_or (min n) o n) ≡ min_option (Some n) o
least_is n None = refl
least_is n (Some k) = refl

-- one message before others
pub least_due_more : (now : ℕ) (m : Message) (ms : List Message) → least_due now (m ∷ ms) ≡ min_option (due_deadline now m) (least_due now ms)
least_due_more now m ms = by (is_due now m) where
  by : (b : Bool) → least (map deadline_of (cond b (m ∷ filter (is_due now) ms) (filter (is_due now) ms))) ≡ min_option (cond b (Some (deadline_of m)) None) (least_due now ms)
  by true = least_is (deadline_of m) (least_due now ms)
  by false = refl

pub fold_due : (now : ℕ) (before : Option ℕ) (ms : List Message) → fold (λ l m. min_option l (due_deadline now m)) before ms ≡ min_option before (least_due now ms)
fold_due now before [] = sym (min_option-none before)
fold_due now before (m ∷ ms) =
    fold_due now (min_option before (due_deadline now m)) ms ∙ (min_option-assoc before (due_deadline now m) (least_due now ms) ∙ ap (min_option before) (sym (least_due_more now m ms)))

pub least_due-append : (now : ℕ) (ms ns : List Message) → least_due now (ms ++ ns) ≡ min_option (least_due now ms) (least_due now ns)
least_due-append now [] ns = refl
least_due-append now (m ∷ ms) ns =
    least_due_more now m (ms ++ ns) ∙ (ap (min_option (due_deadline now m)) (least_due-append now ms ns)
    ∙ (sym (min_option-assoc (due_deadline now m) (least_due now ms) (least_due now ns)) ∙ ap (λ l. min_option l (least_due now ns)) (sym (least_due_more now m ms))))

-- a tick breaks exactly where there is a least deadline that is due
pub breaks_is : (now : ℕ) (ms : List Message) → breaks now ms ≡ is_some (least_due now ms)
breaks_is now [] = refl
breaks_is now (m ∷ ms) = by (is_due now m) (breaks_is now ms) where
  by : (b : Bool) → breaks now ms ≡ is_some (least_due now ms) → (b || breaks now ms) ≡ is_some (least (map deadline_of (cond b (m ∷ filter (is_due now) ms) (filter (is_due now) ms))))
  by true e = refl
  by false e = e

-- the least of two lists, one after the other
pub both_due : (now : ℕ) (ms ns : List Message) (first second : Option ℕ) → first ≡ fold (λ l m. min_option l (due_deadline now m)) None ms
    → second ≡ fold (λ l m. min_option l (due_deadline now m)) first ns → least_due now (ms ++ ns) ≡ second
both_due now ms ns first second a b =
    least_due-append now ms ns ∙ sym (b ∙ (fold_due now first ns ∙ ap (λ l. min_option l (least_due now ns)) (a ∙ fold_due now None ms)))
