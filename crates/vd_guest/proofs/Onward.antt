-- An access behind its first part.
use Rattle.std.proofs.Common.{◌≡◌, ℕ, zero, suc, ◌+◌, ◌-◌, ◌%◌, ◌^◌, ◌<◌, ◌≤◌, refl, ap, subst, sym, ◌∙◌, arith, List, [], ◌∷◌, ◌++◌, Option, Some, None, length, append_assoc}
use Rattle.std.specs.Prelude.{unwrap_or}
use Rattle.std.specs.List.{slice_index}
use Rattle.std.proofs.Math.Nat.{mod-lt}
use Rattle.vd_model.specs.declared.memory.Region.{Region}
use Rattle.vd_model.specs.Puts.{each_from, byte_in}
use Rattle.vd_model.specs.Reading.{or_else}
use Rattle.vd_vhost_model.specs.declared.access.Access.{Access}
use Rattle.vd_vhost_model.specs.declared.access.Access.TheVariants.{Read, Write}
use Rattle.vd_vhost_model.specs.declared.access.Denied.{Denied}
use Rattle.vd_vhost_model.specs.GuestTable.{denial_at, first_denial, next_address, loaded, stored_byte}
use Rattle.vd_guest.specs.declared.part.Part.{Part}
use Rattle.vd_guest.specs.Parts.{Reaches}
use Rattle.vd_guest.proofs.Walks.{wrapped, is_itself, passes, shows, gives, over_two}

pub below_end : (n at len : ℕ) → n ≡ (at + len) % 2 ^ 64 → n < 2 ^ 64
below_end n at len is = subst (λ k. k < 2 ^ 64) (sym is) (mod-lt (at + len) {m = 2 ^ 64} (omega arith))

pub denied_at_once : (given : List Region) (access : Access) (at left : ℕ) (why : Denied) → 0 < left → denial_at given access at ≡ Some why → first_denial given access at left ≡ Some why
denied_at_once given access at zero why some e = absurd (omega arith)
denied_at_once given access at (suc left) why some e = ap (λ o. or_else o (first_denial given access (next_address at) left)) e

module _ (given : List Region) (at left n : ℕ) (part : Part) (within : at < 2 ^ 64) (past : n ≡ (at + part.len) % 2 ^ 64) where
  pub denied_past : (access : Access) → Reaches given access at left part → first_denial given access n (left - part.len) ≡ first_denial given access at left
  denied_past access r =
      let few = r.few in
      let whole : left ≡ part.len + (left - part.len) = omega arith in
      ap (λ a. first_denial given access a (left - part.len)) past
      ∙ sym (ap (first_denial given access at) whole
      ∙ ap (λ a. first_denial given access a (part.len + (left - part.len))) (sym (is_itself at within))
      ∙ passes given access part.len (left - part.len) at r.short r.free)

  pub shown_past : (f : ℕ → ℕ) → Reaches given Read at left part → loaded given f at left ≡ each_from f part.offset part.len ++ loaded given f n (left - part.len)
  shown_past f r =
      let few = r.few in
      let whole : left ≡ part.len + (left - part.len) = omega arith in
      ap (loaded given f at) whole
      ∙ ap (λ a. loaded given f a (part.len + (left - part.len))) (sym (is_itself at within))
      ∙ shows given f part.len (left - part.len) at part.offset r.short r.seen
      ∙ ap (λ a. each_from f part.offset part.len ++ loaded given f a (left - part.len)) (sym past)

-- the part's piece is written, and the rest is stored behind it
pub stored_past : (given : List Region) (at left n : ℕ) (part : Part) → at < 2 ^ 64 → n ≡ (at + part.len) % 2 ^ 64 → Reaches given Write at left part
    → (rest piece after old new : List ℕ) → rest ≡ piece ++ after → length piece ≡ part.len
    → ((o : ℕ) → slice_index new o ≡ unwrap_or (byte_in piece part.offset o) (slice_index old o))
    → (o : ℕ) → unwrap_or (stored_byte given n after o) (slice_index new o) ≡ unwrap_or (stored_byte given at rest o) (slice_index old o)
stored_past given at left n part within past r rest piece after old new cut len written o =
    let short : at + length piece ≤ 2 ^ 64 = subst (λ k. at + k ≤ 2 ^ 64) (sym len) r.short in
    let step : n ≡ wrapped (at + length piece) = past ∙ ap (λ k. wrapped (at + k)) (sym len) in
    ap (unwrap_or (stored_byte given n after o)) (written o)
    ∙ sym (over_two (stored_byte given n after o) (byte_in piece part.offset o) (slice_index old o))
    ∙ ap (λ a. unwrap_or (or_else (stored_byte given a after o) (byte_in piece part.offset o)) (slice_index old o)) step
    ∙ ap (λ x. unwrap_or x (slice_index old o)) (sym (gives given after o piece at part.offset short (λ i below. r.seen i (subst (λ k. i < k) len below))))
    ∙ ap (λ a. unwrap_or (stored_byte given a (piece ++ after) o) (slice_index old o)) (is_itself at within)
    ∙ ap (λ bytes. unwrap_or (stored_byte given at bytes o) (slice_index old o)) (sym cut)
