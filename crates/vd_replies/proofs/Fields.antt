-- The fields of an answer, written one behind the other.
use Rattle.std.proofs.Common.{◌≡◌, ◌≤◌, ◌<◌, ◌+◌, ◌*◌, ◌∙◌, ◌∷◌, ◌++◌, ℕ, List, length, take, map, get_or, not, true, false, Bool, ap, refl, arith}
use Rattle.std.specs.Prelude.{Vec, vec_len, vec_capacity}
use Rattle.std.proofs.lemmas.List.Sums.{AllPass-from_list_all}
use Rattle.vd_model.specs.declared.answer.Item.{Item}
use Rattle.vd_model.specs.Text.{behind}
use Rattle.vd_model.specs.Replies.{item_text}
use Rattle.vd_answers.specs.Short.{is_text, are_short}
use Rattle.vd_digits.specs.Adds.{Adds, HasRoom}
use Rattle.vd_replies.proofs.Spacing.{words_step}

-- the first i fields are written, and the others have room
pub record AreWritten {A : Type 0} (into old : Vec ℕ A) (i : ℕ) (fields : List Item) : Type 0 where
  pub items : into.items ≡ old.items ++ behind 32 (map item_text (take i fields))
  pub len : vec_len into ≤ vec_len old + 41 * i
  pub room : vec_len old + 41 * length fields ≤ vec_capacity into
  pub capacity : vec_capacity old ≤ vec_capacity into

pub field_written : {A : Type 0} (into new old : Vec ℕ A) (i : ℕ) (d field : Item) (fields : List Item) → i < length fields → AreWritten into old i fields
    → field ≡ get_or fields i d → Adds into new (32 ∷ item_text field) 41 → AreWritten new old (i + 1) fields
field_written into new old i d field fields lt w is a = record {
  items = words_step item_text old.items into.items new.items fields i d lt w.items (a.items ∙ ap (λ f. into.items ++ (32 ∷ item_text f)) is);
  len = omega (arith, a.len, w.len);
  room = omega (arith, a.capacity, w.room);
  capacity = omega (arith, a.capacity, w.capacity);
}

pub field_fits : {A : Type 0} (into old : Vec ℕ A) (i : ℕ) (fields : List Item) → i < length fields → AreWritten into old i fields → HasRoom 41 into
field_fits into old i fields lt w = omega (arith, lt, w.len, w.room)

not_true : (b : Bool) → not b ≡ true → b ≡ false
not_true true h = cc
not_true false h = refl

pub field_short : (i : ℕ) (d : Item) (fields : List Item) → i < length fields → are_short fields ≡ true → is_text (get_or fields i d) ≡ false
field_short i d fields lt h = not_true (is_text (get_or fields i d)) (AllPass-from_list_all (λ f. not (is_text f)) fields h i d lt)
