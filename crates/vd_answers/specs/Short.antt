-- Which answers are short.
use Rattle.std.specs.Prelude.{List, Bool, true, false, not}
use Rattle.std.specs.List.{list_all}
use Rattle.vd_model.specs.declared.answer.Item.{Item}
use Rattle.vd_model.specs.declared.answer.Item.TheVariants.{Text}
use Rattle.vd_model.specs.declared.answer.Answer.{Answer}
use Rattle.vd_model.specs.declared.answer.Answer.TheVariants.{Done}

abbrev pub is_text : Item → Bool
is_text (Text bytes) = true
is_text _ = false

-- none of the fields is a text
abbrev pub are_short : List Item → Bool
are_short fields = list_all (λ field. not (is_text field)) fields

abbrev pub is_done : Answer → Bool
is_done (Done fields) = true
is_done _ = false
