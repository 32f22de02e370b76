-- An access goes on behind a part of it.
use Rattle.std.proofs.Common.{◌≡◌, ℕ, zero, suc, ◌+◌, ◌-◌, ◌%◌, ◌^◌, ◌<◌, ◌≤◌, ◌<◌, inl, inr, refl, ap, subst, sym, ◌∙◌, arith, Bool, true, false, cond, ◌&&◌, ◌==◌, nat_le, nat_lt, if◌then◌else◌, List, [], ◌∷◌, ◌++◌, Option, Some, None, length, true≢false}
use Rattle.std.specs.Prelude.{unwrap_or}
use Rattle.std.specs.List.{slice_get, slice_index}
use Rattle.std.specs.Option.{option_map_or}
use Rattle.std.proofs.Math.Nat.{mod-eq_of_lt}
use Rattle.std.proofs.lemmas.Bool.Decides.{nat_tests, leb_tells, eqb_tells}
use Rattle.std.proofs.lemmas.Option.{slice_get-get_or, slice_get_past}
use Rattle.vd_num.specs.Number.{is_within}
use Rattle.vd_model.specs.declared.memory.Region.{Region}
use Rattle.vd_model.specs.Puts.{each_from, byte_in}
use Rattle.vd_model.specs.Reading.{or_else}
use Rattle.vd_vhost_model.specs.declared.access.Access.{Access}
use Rattle.vd_vhost_model.specs.declared.access.Access.TheVariants.{Read, Write}
use Rattle.vd_vhost_model.specs.GuestTable.{sees, denial_at, first_denial, next_address, loaded, stored_byte, byte_if}

-- an address as it is counted on past the last one
abbrev pub wrapped : ℕ → ℕ
wrapped at = at % 2 ^ 64

pub is_itself : (at : ℕ) → at < 2 ^ 64 → wrapped at ≡ at
is_itself at h = mod-eq_of_lt h

module _ (given : List Region) (access : Access) where
  pub passes : (n m at : ℕ) → at + n ≤ 2 ^ 64 → ((i : ℕ) → i < n → denial_at given access (at + i) ≡ None)
      → first_denial given access (wrapped at) (n + m) ≡ first_denial given access (wrapped (at + n)) m
  passes zero m at short free =
      let none : 0 + m ≡ m = omega arith in
      let here : at ≡ at + 0 = omega arith in
      ap (first_denial given access (wrapped at)) none ∙ ap (λ a. first_denial given access (wrapped a) m) here
  passes (suc n) m at short free =
      let more : suc n + m ≡ suc (n + m) = omega arith in
      let within : at < 2 ^ 64 = omega arith in
      let first : at + 0 ≡ at = omega arith in
      let there : at + 1 + n ≡ at + suc n = omega arith in
      ap (first_denial given access (wrapped at)) more
      ∙ ap (λ a. first_denial given access a (suc (n + m))) (is_itself at within)
      ∙ ap (λ o. or_else o (first_denial given access (next_address at) (n + m))) (ap (denial_at given access) (sym first) ∙ free 0 (omega arith))
      ∙ passes n m (at + 1) (omega arith) (λ i below. let same : at + 1 + i ≡ at + suc i = omega arith in ap (denial_at given access) same ∙ free (suc i) (omega arith))
      ∙ ap (λ a. first_denial given access (wrapped a) m) there

module _ (given : List Region) (memory : ℕ → ℕ) where
  pub shows : (n m at offset : ℕ) → at + n ≤ 2 ^ 64 → ((i : ℕ) → i < n → sees given Read (at + i) ≡ Some (offset + i))
      → loaded given memory (wrapped at) (n + m) ≡ each_from memory offset n ++ loaded given memory (wrapped (at + n)) m
  shows zero m at offset short seen =
      let none : 0 + m ≡ m = omega arith in
      let here : at ≡ at + 0 = omega arith in
      ap (loaded given memory (wrapped at)) none ∙ ap (λ a. loaded given memory (wrapped a) m) here
  shows (suc n) m at offset short seen =
      let more : suc n + m ≡ suc (n + m) = omega arith in
      let within : at < 2 ^ 64 = omega arith in
      let first : at + 0 ≡ at = omega arith in
      let from : offset + 0 ≡ offset = omega arith in
      let there : at + 1 + n ≡ at + suc n = omega arith in
      ap (loaded given memory (wrapped at)) more
      ∙ ap (λ a. loaded given memory a (suc (n + m))) (is_itself at within)
      ∙ ap (λ o. option_map_or memory o 0 ∷ loaded given memory (next_address at) (n + m))
      (ap (sees given Read) (sym first) ∙ seen 0 (omega arith) ∙ ap (λ o. Some o) from)
      ∙ ap (λ bytes. memory offset ∷ bytes)
      (shows n m (at + 1) (offset + 1) (omega arith)
      (λ i below.
      let same : at + 1 + i ≡ at + suc i = omega arith in
      let next : offset + suc i ≡ offset + 1 + i = omega arith in
      ap (sees given Read) same ∙ seen (suc i) (omega arith) ∙ ap (λ o. Some o) next)
      ∙ ap (λ a. each_from memory (offset + 1) n ++ loaded given memory (wrapped a) m) there)

-- ---- stores

or_else_twice : {X : Type 0} → (a b c : Option X) → or_else (or_else a b) c ≡ or_else a (or_else b c)
or_else_twice None b c = refl
or_else_twice (Some x) b c = refl

-- the byte o of a text, where it starts one byte later
byte_next : (b : ℕ) (bytes : List ℕ) (offset o : ℕ) → or_else (byte_in bytes (offset + 1) o) (byte_if (offset == o) b) ≡ byte_in (b ∷ bytes) offset o
byte_next b bytes offset o = elim (leb_tells (offset + 1) o) [
  | inl past ↦
      (let later = past.1 in
      let low : nat_le offset o ≡ true = grind (arith, nat_tests) in
      let other : (offset == o) ≡ false = grind (arith, nat_tests) in
      let next : o - offset ≡ suc (o - (offset + 1)) = omega arith in
      ap (λ t. or_else (if t then slice_get bytes (o - (offset + 1)) else None) (byte_if (offset == o) b)) past.0
      ∙ ap (λ t. or_else (slice_get bytes (o - (offset + 1))) (byte_if t b)) other
      ∙ or_none (slice_get bytes (o - (offset + 1)))
      ∙ sym (ap (λ t. if t then slice_get (b ∷ bytes) (o - offset) else None) low ∙ ap (slice_get (b ∷ bytes)) next))
  | inr before ↦ ap (λ t. or_else (if t then slice_get bytes (o - (offset + 1)) else None) (byte_if (offset == o) b)) before.0 ∙ at (offset == o) refl before.1
] where
  or_none : (x : Option ℕ) → or_else x None ≡ x
  or_none None = refl
  or_none (Some x) = refl

  at : (t : Bool) → (offset == o) ≡ t → o < offset + 1 → byte_if (offset == o) b ≡ byte_in (b ∷ bytes) offset o
  at true e low =
      let low_is : nat_le offset o ≡ true = grind (arith, nat_tests, e) in
      let none : o - offset ≡ 0 = grind (arith, nat_tests, e) in
      ap (λ t. byte_if t b) e ∙ sym (ap (λ t. if t then slice_get (b ∷ bytes) (o - offset) else None) low_is ∙ ap (slice_get (b ∷ bytes)) none)
  at false e low =
      let low_is : nat_le offset o ≡ false = grind (arith, nat_tests, e) in
      ap (λ t. byte_if t b) e ∙ sym (ap (λ t. if t then slice_get (b ∷ bytes) (o - offset) else None) low_is)

module _ (given : List Region) (after : List ℕ) (o : ℕ) where
  pub gives : (piece : List ℕ) (at offset : ℕ) → at + length piece ≤ 2 ^ 64 → ((i : ℕ) → i < length piece → sees given Write (at + i) ≡ Some (offset + i))
      → stored_byte given (wrapped at) (piece ++ after) o ≡ or_else (stored_byte given (wrapped (at + length piece)) after o) (byte_in piece offset o)
  gives [] at offset short seen =
      let here : at ≡ at + 0 = omega arith in
      ap (λ a. stored_byte given (wrapped a) after o) here ∙ sym (or_nothing (stored_byte given (wrapped (at + 0)) after o) (nat_le offset o)) where
        or_nothing : (x : Option ℕ) (t : Bool) → or_else x (if t then slice_get [] (o - offset) else None) ≡ x
        or_nothing None true = refl
        or_nothing None false = refl
        or_nothing (Some x) t = refl
  gives (b ∷ piece) at offset short seen =
      let within : at < 2 ^ 64 = omega arith in
      let first : at + 0 ≡ at = omega arith in
      let from : offset + 0 ≡ offset = omega arith in
      let there : at + 1 + length piece ≡ at + suc (length piece) = omega arith in
      ap (λ a. stored_byte given a (b ∷ (piece ++ after)) o) (is_itself at within)
      ∙ ap (λ s. or_else (stored_byte given (next_address at) (piece ++ after) o) (byte_if (option_map_or (λ p. p == o) s false) b))
      (ap (sees given Write) (sym first) ∙ seen 0 (omega arith) ∙ ap (λ p. Some p) from)
      ∙ ap (λ x. or_else x (byte_if (offset == o) b))
      (gives piece (at + 1) (offset + 1) (omega arith)
      (λ i below.
      let same : at + 1 + i ≡ at + suc i = omega arith in
      let next : offset + suc i ≡ offset + 1 + i = omega arith in
      ap (sees given Write) same ∙ seen (suc i) (omega arith) ∙ ap (λ p. Some p) next))
      ∙ or_else_twice (stored_byte given (wrapped (at + 1 + length piece)) after o) (byte_in piece (offset + 1) o) (byte_if (offset == o) b)
      ∙ ap (or_else (stored_byte given (wrapped (at + 1 + length piece)) after o)) (byte_next b piece offset o)
      ∙ ap (λ a. or_else (stored_byte given (wrapped a) after o) (byte_in (b ∷ piece) offset o)) there

-- bytes that were written over others, each as it is looked up
pub written_over : (at i : ℕ) (text : List ℕ) (old : ℕ) → unwrap_or (byte_in text at i) old ≡ (if is_within at (length text) i then slice_index text (i - at) else old)
written_over at i text old = by (is_within at (length text) i) refl where
  off : (t : Bool) → nat_le at i ≡ t → (nat_le at i ≡ true → length text ≤ i - at) → unwrap_or (if t then slice_get text (i - at) else None) old ≡ old
  off false f past = refl
  off true f past = ap (λ x. unwrap_or x old) (slice_get_past text (i - at) (past f))

  by : (t : Bool) → is_within at (length text) i ≡ t → unwrap_or (byte_in text at i) old ≡ (if t then slice_index text (i - at) else old)
  by true e =
      let low : nat_le at i ≡ true = grind (arith, nat_tests, e) in
      let high : i - at < length text = grind (arith, nat_tests, e) in
      ap (λ t. unwrap_or (if t then slice_get text (i - at) else None) old) low
      ∙ ap (λ x. unwrap_or x old) (slice_get-get_or text (i - at) 0 high)
  by false e = off (nat_le at i) refl (λ f. grind (arith, nat_tests, e, f))

-- the one that is found later, and else the one before
pub over_two : (a b : Option ℕ) (old : ℕ) → unwrap_or (or_else a b) old ≡ unwrap_or a (unwrap_or b old)
over_two None b old = refl
over_two (Some x) b old = refl
