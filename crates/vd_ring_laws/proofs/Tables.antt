-- What the driver's puts leave in a ring's table.
use Rattle.std.proofs.Common.{◌≡◌, ℕ, zero, suc, ◌+◌, ◌*◌, ◌-◌, ◌<◌, ◌≤◌, Bool, true, false, refl, ap, subst, ◌∙◌, sym, arith, cond, Option, None, Some, Ok, List, [], ◌∷◌, ◌++◌, nat_lt, length, get_or, unwrap_or, append_assoc, inl, inr}
use Rattle.std.specs.List.{slice_get}
use Rattle.std.specs.Option.{option_map}
use Rattle.std.proofs.lemmas.Bool.{le-leb, ltb-true, ltb-false}
use Rattle.std.proofs.lemmas.Option.{slice_get-get_or}
use Rattle.vd_num.specs.Number.{is_within}
use Rattle.vd_model.specs.declared.queue.RingPlace.{RingPlace}
use Rattle.vd_model.specs.declared.parts.Part.{Part}
use Rattle.vd_model.specs.declared.memory.Origin.TheVariants.{Handed}
use Rattle.vd_model.specs.Setting.{Setting, bounce_size}
use Rattle.vd_model.specs.Acts.{Act, Driver, Driver_put}
use Rattle.vd_model.specs.Memory.{Memory, read, byte_then}
use Rattle.vd_model.specs.Puts.{Put, byte_in, shown_put}
use Rattle.vd_model.specs.RingTurns.{descriptor_bytes, flags_of, descriptor_puts}
use Rattle.vd_model.specs.History.{History}
use Rattle.vd_laws.specs.Among.{Among}
use Rattle.vd_laws.specs.Runs.{IsWhole}
use Rattle.vd_laws.proofs.Sound.{earlier_legal}
use Rattle.vd_laws.proofs.Turns.{acts_of_device_legal}
use Rattle.vd_ring_laws.specs.ChainLaw.{AreDistinct}
use Rattle.vd_ring_laws.specs.TraceLaw.{IsLinked}
use Rattle.vd_ring_laws.specs.TableLaw.{shown_memory, TableLaw}
use Rattle.vd_laws.proofs.Legal.{Legal}
use Rattle.vd_laws.proofs.Coherence.{high_shown}
use Rattle.vd_laws.proofs.Texts.{text_absent}
use Rattle.vd_laws.proofs.Ranges.{past_range, before_range}

read_is : (m : Memory) (bytes : List ℕ) (at : ℕ) → ((i : ℕ) → i < length bytes → m (at + i) ≡ Some (get_or bytes i 0)) → read m at (length bytes) ≡ Ok bytes
unfolding read
read_is m [] at h = refl
read_is m (b ∷ bytes) at h =
    let first : m at ≡ Some b = ap m (let e : at ≡ at + 0 = omega arith in e) ∙ h 0 (omega arith) in
    let rest = read_is m bytes (at + 1) (λ i l. ap m (let e : at + 1 + i ≡ at + suc i = omega arith in e) ∙ h (suc i) (omega arith)) in
    ap (λ o. byte_then at o (read m (at + 1) (length bytes))) first ∙ ap (λ l. byte_then at (Some b) l) rest

abbrev text_of : Option ℕ → Option Put
text_of o = option_map (λ b. record { byte = b; origin = Handed None }) o

module _ (x : Setting) (whole : IsWhole x) (acts : List Act) (at : ℕ) (bytes : List ℕ) (legal : Legal x (Driver (Driver_put at bytes) ∷ acts)) where
  put_there : bounce_size x ≤ at → (i : ℕ) → i < length bytes → shown_memory x (Driver (Driver_put at bytes) ∷ acts) (at + i) ≡ Some (get_or bytes i 0)
  put_there high i low =
      let first : byte_in bytes at (at + i) ≡ Some (get_or bytes i 0) =
      ap (λ b. cond b (slice_get bytes (at + i - at)) None) (le-leb at (at + i) (omega arith)) ∙ (ap (slice_get bytes) (let e : at + i - at ≡ i = omega arith in e) ∙ slice_get-get_or bytes i 0 low) in
      ap (λ p. Some p.byte) (high_shown x whole acts (at + i) (omega arith) (Driver (Driver_put at bytes)) legal ∙ now (byte_in bytes at (at + i)) (get_or bytes i 0) first) where
        now : (o : Option ℕ) (v : ℕ) → o ≡ Some v → unwrap_or (text_of o) (shown_put x.per_page acts (at + i)) ≡ record { byte = v; origin = Handed None }
        now o v e = ap (λ o. unwrap_or (text_of o) (shown_put x.per_page acts (at + i))) e

  put_kept : (a : ℕ) → bounce_size x ≤ a → is_within at (length bytes) a ≡ false → shown_memory x (Driver (Driver_put at bytes) ∷ acts) a ≡ shown_memory x acts a
  put_kept a high out = ap (λ p. Some p.byte) (high_shown x whole acts a high (Driver (Driver_put at bytes)) legal ∙ ap (λ o. unwrap_or (text_of o) (shown_put x.per_page acts a)) (text_absent bytes at a out))

read_same : (m n : Memory) (at len : ℕ) → ((i : ℕ) → i < len → m (at + i) ≡ n (at + i)) → read m at len ≡ read n at len
unfolding read
read_same m n at zero h = refl
read_same m n at (suc len) h =
    let first : m at ≡ n at = ap m (let e : at ≡ at + 0 = omega arith in e) ∙ (h 0 (omega arith) ∙ ap n (let e : at + 0 ≡ at = omega arith in e)) in
    let rest = read_same m n (at + 1) len (λ i l. ap m (let e : at + 1 + i ≡ at + suc i = omega arith in e) ∙ (h (suc i) (omega arith) ∙ ap n (let e : at + suc i ≡ at + 1 + i = omega arith in e))) in
    ap (λ o. byte_then at o (read m (at + 1) len)) first ∙ ap (λ l. byte_then at (n at) l) rest

apart : (desc k d i : ℕ) → (d ≡ k → ⊥) → i < 16 → is_within (desc + 16 * k) 16 (desc + 16 * d + i) ≡ false
apart desc k d i other low = by (nat_lt d k) (nat_lt k d) refl refl where
  by : (b c : Bool) → nat_lt d k ≡ b → nat_lt k d ≡ c → is_within (desc + 16 * k) 16 (desc + 16 * d + i) ≡ false
  by true c e f = let l = ltb-true d k e in before_range (desc + 16 * k) 16 (desc + 16 * d + i) (omega arith)
  by false true e f = let l = ltb-true k d f in past_range (desc + 16 * k) 16 (desc + 16 * d + i) (omega arith)
  by false false e f = let l = ltb-false d k e in let g = ltb-false k d f in absurd (other (omega arith))

module _ (x : Setting) (whole : IsWhole x) (r : RingPlace) (high : bounce_size x ≤ r.desc) where
  abbrev put_of : ℕ → Part → Bool → ℕ → Act
  put_of d part more next = Driver (Driver_put (r.desc + 16 * d) (descriptor_bytes part.at part.len (flags_of more part.writable) next))

  one_kept : (d k : ℕ) (part : Part) (more : Bool) (next : ℕ) (acts : List Act) → Legal x (put_of k part more next ∷ acts) → (d ≡ k → ⊥)
      → (i : ℕ) → i < 16 → shown_memory x (put_of k part more next ∷ acts) (r.desc + 16 * d + i) ≡ shown_memory x acts (r.desc + 16 * d + i)
  one_kept d k part more next acts legal other i low =
      put_kept x whole acts (r.desc + 16 * k) (descriptor_bytes part.at part.len (flags_of more part.writable) next) legal (r.desc + 16 * d + i) (omega arith) (apart r.desc k d i other low)

  all_kept : (d : ℕ) (parts : List Part) (ds : List ℕ) (acts : List Act) → Legal x (descriptor_puts r parts ds ++ acts) → (Among d ds → ⊥)
      → (i : ℕ) → i < 16 → shown_memory x (descriptor_puts r parts ds ++ acts) (r.desc + 16 * d + i) ≡ shown_memory x acts (r.desc + 16 * d + i)
  all_kept d [] ds acts legal other i low = refl
  all_kept d (part ∷ parts) [] acts legal other i low = refl
  all_kept d (part ∷ parts) (k ∷ []) acts legal other i low = one_kept d k part false 0 acts legal (λ e. other (inl e)) i low
  all_kept d (part ∷ parts) (k ∷ e ∷ ds) acts legal other i low =
      let front = append_assoc (descriptor_puts r parts (e ∷ ds)) (put_of k part true e ∷ []) acts in
      let moved = subst (Legal x) front legal in
      ap (λ l. shown_memory x l (r.desc + 16 * d + i)) front
      ∙ (all_kept d parts (e ∷ ds) (put_of k part true e ∷ acts) moved (λ h. other (inr h)) i low
      ∙ one_kept d k part true e acts (earlier_legal x (descriptor_puts r parts (e ∷ ds)) (put_of k part true e ∷ acts) moved) (λ f. other (inl f)) i low)

  one_there : (d : ℕ) (part : Part) (more : Bool) (next : ℕ) (acts : List Act) → Legal x (put_of d part more next ∷ acts)
      → read (shown_memory x (put_of d part more next ∷ acts)) (r.desc + 16 * d) 16 ≡ Ok (descriptor_bytes part.at part.len (flags_of more part.writable) next)
  one_there d part more next acts legal =
      let bytes = descriptor_bytes part.at part.len (flags_of more part.writable) next in
      read_is (shown_memory x (put_of d part more next ∷ acts)) bytes (r.desc + 16 * d) (λ i low. put_there x whole acts (r.desc + 16 * d) bytes legal (omega arith) i low)

  all_there : (parts : List Part) (ds : List ℕ) (acts : List Act) → Legal x (descriptor_puts r parts ds ++ acts) → AreDistinct ds → length parts ≡ length ds → 0 < length ds
      → IsLinked (shown_memory x (descriptor_puts r parts ds ++ acts)) r parts ds
  all_there [] [] acts legal d e some = absurd (omega arith)
  all_there [] (k ∷ ds) acts legal d e some = absurd (omega arith)
  all_there (part ∷ parts) [] acts legal d e some = absurd (omega arith)
  all_there (part ∷ []) (k ∷ []) acts legal d e some = one_there k part false 0 acts legal
  all_there (part ∷ []) (k ∷ j ∷ ds) acts legal d e some = absurd (omega arith)
  all_there (part ∷ next ∷ parts) (k ∷ []) acts legal d e some = absurd (omega arith)
  all_there (part ∷ next ∷ parts) (k ∷ j ∷ ds) acts legal d e some =
      let front = append_assoc (descriptor_puts r (next ∷ parts) (j ∷ ds)) (put_of k part true j ∷ []) acts in
      let moved = subst (Legal x) front legal in
      let first = one_there k part true j acts (earlier_legal x (descriptor_puts r (next ∷ parts) (j ∷ ds)) (put_of k part true j ∷ acts) moved) in
      let kept = read_same (shown_memory x (descriptor_puts r (next ∷ parts) (j ∷ ds) ++ put_of k part true j ∷ acts)) (shown_memory x (put_of k part true j ∷ acts)) (r.desc + 16 * k) 16
      (all_kept k (next ∷ parts) (j ∷ ds) (put_of k part true j ∷ acts) moved d.0) in
      let rest = all_there (next ∷ parts) (j ∷ ds) (put_of k part true j ∷ acts) moved d.1 (omega arith) (omega arith) in
      subst (λ l. IsLinked (shown_memory x l) r (part ∷ next ∷ parts) (k ∷ j ∷ ds)) (sym front) (kept ∙ first, rest)

pub table_law : (x : Setting) (h : History) → TableLaw x h
table_law x h whole d r parts ds earlier m high distinct same some =
    all_there x whole r high parts ds earlier (earlier_legal x m.0 (descriptor_puts r parts ds ++ earlier) (subst (Legal x) m.1 (acts_of_device_legal x h d))) distinct same some
