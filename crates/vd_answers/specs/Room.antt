-- The room of an answer that is kept.
use Rattle.std.specs.Prelude.{◌≡◌, ◌≤◌, [], vec_capacity}
use Rattle.vd_answers.specs.declared.kept.Kept.{Kept}

-- there is room for twelve fields, and for 256 bytes
pub record HasRoom (kept : Kept) : Type 0 where
  pub no_fields : kept.fields.items ≡ []
  pub fields : 12 ≤ vec_capacity kept.fields
  pub no_bytes : kept.bytes.items ≡ []
  pub bytes : 256 ≤ vec_capacity kept.bytes
