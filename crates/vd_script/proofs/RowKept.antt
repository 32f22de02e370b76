-- What is shown of a row: its first word is known again, and what stands behind is read again.
use Rattle.std.proofs.Common.{◌≡◌, ℕ, ◌^◌, ltb, Bool, true, false, ◌&&◌, eqb, List, [], ◌∷◌, Some, refl}
use Rattle.std.specs.Prelude.{not, decimal}
use Rattle.std.proofs.lemmas.Bool.{ltb-true}
use Rattle.vd_model.specs.declared.word.Keyword.{Keyword}
use Rattle.vd_model.specs.Fields.{number_in}
use Rattle.vd_model.specs.Forms.{Form}
use Rattle.vd_model.specs.Reading.{keyword}
use Rattle.vd_script.proofs.Kept.{has_no, Kept, number_kept}
use Rattle.vd_script.proofs.FormsKept.{FormKept}

-- a first word: no comment, and no space in it
abbrev pub is_first : List ℕ → Bool
is_first [] = false
is_first (c ∷ cs) = not (eqb c 35) && has_no 32 (c ∷ cs)

pub record RowKept {S : Type 0} (k : Keyword) (name : List ℕ) (form : Form S) (text : S → List (List ℕ)) : Type 0 where
  pub known : keyword name ≡ Some k
  pub first : is_first name ≡ true
  pub kept : FormKept 32 text (name ∷ []) form

pub row : {S : Type 0} {k : Keyword} {name : List ℕ} {form : Form S} {text : S → List (List ℕ)} → keyword name ≡ Some k → is_first name ≡ true → FormKept 32 text (name ∷ []) form → RowKept k name form text
row a b c = record { known = a; first = b; kept = c }

pub bounded : (low high : ℕ) → ltb high (2 ^ 64) ≡ true → Kept 32 (number_in low high) decimal
bounded low high h = number_kept 32 refl low high (ltb-true _ _ h)
