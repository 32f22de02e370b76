-- A range that is in its buffer is never refused.
use Rattle.std.proofs.Common.{◌≡◌, ℕ, ◌+◌, nat_lt, nat_le, ◌&&◌, true, false, ap, sym, ◌∙◌, List, Some, None, Option, true≢false}
use Rattle.std.specs.Prelude.{not}
use Rattle.std.specs.Option.{option_map_or}
use Rattle.vd_num.specs.declared.errno.Errno.{Errno}
use Rattle.vd_num.specs.declared.errno.Errno.TheVariants.{Inval}
use Rattle.vd_model.specs.Acts.{Act}
use Rattle.vd_model.specs.Live.{buffer_len}
use Rattle.vd_model.specs.Turn.{range_refusal, refusal_if}
use Rattle.blk_driver.specs.Buffers.{has_range}

pub never_refused : (acts : List Act) (buffer : ℕ) (e : Errno) → has_range acts buffer 16 1 ≡ true → range_refusal (buffer_len acts buffer) 16 1 ≡ Some e → ⊥
never_refused acts buffer e there refused = by (buffer_len acts buffer) there refused where
  no : None ≡ Some e → ⊥
  no f = cc

  by : (o : Option ℕ) → option_map_or (λ size. nat_le (16 + 1) size) o false ≡ true → range_refusal o 16 1 ≡ Some e → ⊥
  by None f g = true≢false (sym f)
  by (Some size) f g = no (sym (ap (λ t. refusal_if (not (nat_lt 0 1 && t)) Inval) f) ∙ g)
