-- What a run is given.
use Rattle.std.specs.Prelude.{ℕ, ◌≡◌, List, Option, Some}
use Rattle.vd_model.specs.Setting.{Setting}
use Rattle.vd_options.specs.Words.{Sizes, asked_sizes}

-- a setting has the sizes that words ask for
pub record HasSizes (x : Setting) (sizes : Sizes) : Type 0 where
  pub bounce : x.bounce ≡ sizes.bounce
  pub iova : x.iova ≡ sizes.iova
  pub per_page : x.per_page ≡ sizes.per_page

-- the words are those of a run with these sizes, and this text is left in the source
pub record IsGiven (words : List (List ℕ)) (sizes : Sizes) (left : Option (List ℕ)) (text : List ℕ) : Type 0 where
  pub asked : asked_sizes words ≡ Some sizes
  pub told : left ≡ Some text
