-- A range of a buffer, and what the acts say of it.
use Rattle.std.proofs.Common.{◌≡◌, ℕ, ◌+◌, ◌<◌, true, ap, ◌∙◌, sym, arith, None, Some, List, length, drop, not, nat_lt, nat_le, ◌&&◌, length-take, length-drop}
use Rattle.std.specs.List.{slice_index}
use Rattle.std.specs.Option.{option_map}
use Rattle.std.proofs.lemmas.Bool.Decides.{nat_tests}
use Rattle.std.proofs.lemmas.List.{get_or-take, get_or-drop}
use Rattle.vd_num.specs.declared.errno.Errno.TheVariants.{Inval}
use Rattle.vd_model.specs.Acts.{Act}
use Rattle.vd_model.specs.Live.{buffer_len}
use Rattle.vd_model.specs.Puts.{ram, ram_bytes}
use Rattle.vd_model.specs.Turn.{refusal_if, range_refusal}
use Rattle.vd_buffers.specs.Places.{Places, IsRange}
use Rattle.vd_buffers.specs.Stands.{Stands}
use Rattle.vd_buffers.proofs.EachFrom.{each_from_is}

module _ (g : ℕ) (acts : List Act) (places : Places) (s : Stands g acts places) (buffer offset len : ℕ) (text : List ℕ) (range : IsRange places buffer offset len text) where
  pub buffer_is : buffer_len acts buffer ≡ Some (length range.bytes)
  buffer_is = sym (s.lens buffer) ∙ ap (option_map length) range.there

  pub text_len : length text ≡ len
  text_len = (let within = range.within in ap length range.is ∙ simp (length-take, length-drop) (omega arith))

  -- it isn't refused
  pub allowed : range_refusal (buffer_len acts buffer) offset len ≡ None
  allowed = ap (λ o. range_refusal o offset len) buffer_is ∙ ap (λ t. refusal_if (not t) Inval) both where
    both : (nat_lt 0 len && nat_le (offset + len) (length range.bytes)) ≡ true
    both = (let some = range.nonzero in let within = range.within in grind (arith, nat_tests))

  pub text_is : text ≡ ram_bytes g acts buffer offset len
  text_is = each_from_is (λ i. ram g acts buffer i) offset len text text_len each where
    each : (i : ℕ) → i < len → slice_index text i ≡ ram g acts buffer (offset + i)
    each i below =
        let within = range.within in
        ap (λ (t : List ℕ). slice_index t i) range.is ∙ get_or-take len (drop offset range.bytes) i 0 below ∙ get_or-drop offset range.bytes i 0
        ∙ s.bytes buffer range.bytes range.there (offset + i) (omega arith)
