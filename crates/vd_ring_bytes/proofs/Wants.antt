-- What a request maps, and the parts that it makes of it.
use Rattle.std.proofs.Common.{◌≡◌, ℕ, zero, suc, ◌+◌, ◌%◌, ◌==◌, ◌<◌, ◌≤◌, Bool, true, false, refl, ap, subst, ◌∙◌, sym, arith, cond, Option, None, Some, is_some, List, [], ◌∷◌, ◌++◌, length, take, map, filter, not, nat_lt, ◌&&◌, ◌||◌, if◌then◌else◌, inl, inr}
use Rattle.std.specs.Option.{option_map}
use Rattle.std.specs.List.{list_any}
use Rattle.std.proofs.lemmas.Bool.{ltb-false}
use Rattle.std.proofs.lemmas.List.Sums.{sum_by-cons}
use Rattle.vd_num.specs.Number.{pages_of}
use Rattle.vd_num.specs.declared.errno.Errno.{Errno}
use Rattle.vd_num.specs.declared.errno.Errno.TheVariants.{Noent, Busy, Inval}
use Rattle.vd_model.specs.declared.memory.Dir.TheVariants.{To, From}
use Rattle.vd_model.specs.declared.memory.Want.{Want}
use Rattle.vd_model.specs.declared.parts.Part.{Part}
use Rattle.vd_model.specs.declared.step.SubmitForm.{SubmitForm}
use Rattle.vd_model.specs.declared.step.SubmitForm.TheVariants as form
use Rattle.vd_model.specs.Setting.{Setting}
use Rattle.vd_model.specs.Creation.{Creation}
use Rattle.vd_model.specs.Acts.{Act, AddedChain, Streaming}
use Rattle.vd_model.specs.Live.{buffers, buffer_len}
use Rattle.vd_model.specs.Place.{Slots, place_of}
use Rattle.vd_model.specs.Queues.{numbers_below, is_in_chains, free_descriptors, some_pending, made_buffer}
use Rattle.vd_model.specs.Trace.{total_len}
use Rattle.vd_model.specs.Turn.{refusal_if}
use Rattle.vd_model.specs.RingTurns.{AskedRequest, asked_by, is_bad_len, want_refusal, parts_count, given_want, part_wants, table_wants, placed_mapping, placed_mappings, mapping_part, is_out_of_order}
use Rattle.vd_model.specs.Puts.{is_from_device}
use Rattle.vd_laws.specs.Among.{Among}
use Rattle.std.proofs.lemmas.List.{length-map}
use Rattle.vd_laws.proofs.Places.{there_made}
use Rattle.vd_laws.proofs.Lists.{pushed, filtered, among_map}
use Rattle.vd_ring_laws.specs.ChainLaw.{AreDistinct}
use Rattle.vd_ring_laws.proofs.Distincts.{distinct_push}

-- ---- the wants of the mappings

next_wants : (want : Want) (wants : List Want) (number slot : ℕ) (ms : List Streaming) → (o : Option (List Streaming)) → ((rest : List Streaming) → o ≡ Some rest → map (λ m. m.want) rest ≡ wants)
    → option_map (λ ms. record { number = number; slot = slot; want = want } ∷ ms) o ≡ Some ms → map (λ m. m.want) ms ≡ want ∷ wants
next_wants want wants number slot ms None later e = cc
next_wants want wants number slot ms (Some rest) later e =
    let m : Streaming = record { number = number; slot = slot; want = want } in
    let is : m ∷ rest ≡ ms = cc in
    subst (λ ms. map (λ m. m.want) ms ≡ want ∷ wants) is (ap (λ l. want ∷ l) (later rest refl))

pub wants_are : (x : Setting) (held : List Slots) (number : ℕ) (wants : List Want) (ms : List Streaming) → placed_mappings x held number wants ≡ Some ms → map (λ m. m.want) ms ≡ wants
wants_are x held number [] ms e = let none : [] ≡ ms = cc in subst (λ ms. map (λ m. m.want) ms ≡ []) none refl
wants_are x held number (want ∷ wants) ms e = by (place_of held (pages_of want.len) x.per_page x.bounce) e (λ slot. wants_are x (held ++ record { start = slot; count = pages_of want.len } ∷ []) (number + 1) wants) where
  by : (o : Option ℕ) → placed_mapping want number o (λ slot. placed_mappings x (held ++ record { start = slot; count = pages_of want.len } ∷ []) (number + 1) wants) ≡ Some ms
      → ((slot : ℕ) (rest : List Streaming) → placed_mappings x (held ++ record { start = slot; count = pages_of want.len } ∷ []) (number + 1) wants ≡ Some rest → map (λ m. m.want) rest ≡ wants) → map (λ m. m.want) ms ≡ want ∷ wants
  by None f later = cc
  by (Some slot) f later = next_wants want wants number slot ms (placed_mappings x (held ++ record { start = slot; count = pages_of want.len } ∷ []) (number + 1) wants) (later slot) f

pub map_take : {X Y : Type 0} (f : X → Y) (n : ℕ) (xs : List X) → map f (take n xs) ≡ take n (map f xs)
map_take f zero xs = refl
map_take f (suc n) [] = refl
map_take f (suc n) (x ∷ xs) = ap (λ l. f x ∷ l) (map_take f n xs)

pub first_wants : (indirect : Bool) (n : ℕ) (a : AskedRequest) → take (parts_count a) (part_wants n a ++ table_wants indirect n a) ≡ part_wants n a
first_wants indirect n a = by a.want where
  by : (o : Option Want) → take (if is_some o then 3 else 2) ((record { buffer = n; offset = 0; len = 16; dir = To } ∷ given_want o ++ record { buffer = n; offset = 16; len = 1; dir = From } ∷ []) ++ table_wants indirect n a)
      ≡ record { buffer = n; offset = 0; len = 16; dir = To } ∷ given_want o ++ record { buffer = n; offset = 16; len = 1; dir = From } ∷ []
  by None = refl
  by (Some w) = refl

-- those of the parts
pub parts_want : (x : Setting) (held : List Slots) (number n : ℕ) (indirect : Bool) (a : AskedRequest) (ms : List Streaming) → placed_mappings x held number (part_wants n a ++ table_wants indirect n a) ≡ Some ms
    → map (λ m. m.want) (take (parts_count a) ms) ≡ part_wants n a
parts_want x held number n indirect a ms e = map_take (λ m. m.want) (parts_count a) ms ∙ (ap (take (parts_count a)) (wants_are x held number (part_wants n a ++ table_wants indirect n a) ms e) ∙ first_wants indirect n a)

-- ---- their order and their length

abbrev wants_out : List Want → Bool
wants_out [] = false
wants_out (w ∷ ws) = (is_from_device w.dir && list_any (λ v. not (is_from_device v.dir)) ws) || wants_out ws

any_is : (ms : List Streaming) → list_any (λ (p : Part). not p.writable) (map mapping_part ms) ≡ list_any (λ v. not (is_from_device v.dir)) (map (λ m. m.want) ms)
any_is [] = refl
any_is (m ∷ ms) = ap (λ b. not (is_from_device m.want.dir) || b) (any_is ms)

out_is : (ms : List Streaming) → is_out_of_order (map mapping_part ms) ≡ wants_out (map (λ m. m.want) ms)
out_is [] = refl
out_is (m ∷ ms) = ap (λ b. (is_from_device m.want.dir && b) || is_out_of_order (map mapping_part ms)) (any_is ms) ∙ ap (λ b. (is_from_device m.want.dir && list_any (λ v. not (is_from_device v.dir)) (map (λ m. m.want) ms)) || b) (out_is ms)

wants_len : List Want → ℕ
wants_len [] = 0
wants_len (w ∷ ws) = w.len + wants_len ws

len_is : (ms : List Streaming) → total_len (map mapping_part ms) ≡ wants_len (map (λ m. m.want) ms)
unfolding wants_len
len_is [] = refl
len_is (m ∷ ms) = sum_by-cons (λ (q : Part). q.len) (mapping_part m) (map mapping_part ms) ∙ ap (λ n. m.want.len + n) (len_is ms)

and_false : (b : Bool) → (b && false) ≡ false
and_false true = refl
and_false false = refl

module _ (n : ℕ) (a : AskedRequest) (ms : List Streaming) (e : map (λ m. m.want) ms ≡ part_wants n a) where
  pub in_order : is_out_of_order (map mapping_part ms) ≡ false
  in_order = out_is ms ∙ (ap wants_out e ∙ by a.want) where
    by : (o : Option Want) → wants_out (record { buffer = n; offset = 0; len = 16; dir = To } ∷ given_want o ++ record { buffer = n; offset = 16; len = 1; dir = From } ∷ []) ≡ false
    by None = refl
    by (Some w) = ap (λ b. b || false) (and_false (is_from_device w.dir))

  pub not_long : ((w : Want) → a.want ≡ Some w → w.len ≤ 1048576) → total_len (map mapping_part ms) ≤ 16777216
  unfolding wants_len
  not_long short = subst (λ k. k ≤ 16777216) (sym (len_is ms ∙ ap wants_len e)) (by a.want short) where
    by : (o : Option Want) → ((w : Want) → o ≡ Some w → w.len ≤ 1048576) → wants_len (record { buffer = n; offset = 0; len = 16; dir = To } ∷ given_want o ++ record { buffer = n; offset = 16; len = 1; dir = From } ∷ []) ≤ 16777216
    by None h = omega arith
    by (Some w) h = let l = h w refl in omega arith

  pub count_is : length ms ≡ parts_count a
  count_is = sym (length-map ms (λ m. m.want)) ∙ (ap length e ∙ by a.want) where
    by : (o : Option Want) → length (record { buffer = n; offset = 0; len = 16; dir = To } ∷ given_want o ++ record { buffer = n; offset = 16; len = 1; dir = From } ∷ []) ≡ (if is_some o then 3 else 2)
    by None = refl
    by (Some w) = refl

  -- each want of a part is short
  pub short_want : ((w : Want) → a.want ≡ Some w → w.len ≤ 1048576) → (m : Streaming) → Among m ms → m.want.len ≤ 1048576
  short_want short m i = by a.want short (subst (Among m.want) e (among_map (λ m. m.want) m ms i)) where
    by : (o : Option Want) → ((w : Want) → o ≡ Some w → w.len ≤ 1048576) → Among m.want (record { buffer = n; offset = 0; len = 16; dir = To } ∷ given_want o ++ record { buffer = n; offset = 16; len = 1; dir = From } ∷ []) → m.want.len ≤ 1048576
    by o h (inl f) = let g : m.want.len ≡ 16 = ap (λ w. w.len) f in omega arith
    by None h (inr (inl f)) = let g : m.want.len ≡ 1 = ap (λ w. w.len) f in omega arith
    by None h (inr (inr f)) = absurd f
    by (Some w) h (inr (inl f)) = let g : m.want.len ≡ w.len = ap (λ w. w.len) f in let l = h w refl in omega arith
    by (Some w) h (inr (inr (inl f))) = let g : m.want.len ≡ 1 = ap (λ w. w.len) f in omega arith
    by (Some w) h (inr (inr (inr f))) = absurd f

-- ---- the range that a form asks for is short

busy_or : (p b : Bool) → cond {A = Option Errno} p (Some Busy) (refusal_if b Inval) ≡ None → b ≡ false
busy_or true b e = cc
busy_or false true e = cc
busy_or false false e = refl

first_false : (a b c d : Bool) → (((a || b) || c) || d) ≡ false → b ≡ false
first_false true b c d e = cc
first_false false true c d e = cc
first_false false false c d e = refl

module _ (made : Creation) (done : List Act) where
  range_ok : (kind : ℕ) (want : Want) → want_refusal made done kind (Some want) ≡ None → (size : ℕ) × ((is_bad_len kind want.len || nat_lt size (want.offset + want.len)) ≡ false)
  range_ok kind want e = by (buffer_len done want.buffer) refl where
    by : (o : Option ℕ) → buffer_len done want.buffer ≡ o → (size : ℕ) × ((is_bad_len kind want.len || nat_lt size (want.offset + want.len)) ≡ false)
    by None g = let h : Some Noent ≡ None = rw g at e in cc
    by (Some size) g =
        let h : cond {A = Option Errno} (some_pending (made_buffer want.buffer) done made.queues) (Some Busy) (refusal_if (is_bad_len kind want.len || nat_lt size (want.offset + want.len)) Inval) ≡ None = rw g at e in
        (size, busy_or (some_pending (made_buffer want.buffer) done made.queues) (is_bad_len kind want.len || nat_lt size (want.offset + want.len)) h)

  -- its buffer was there before
  pub wanted : (kind : ℕ) (o : Option Want) → want_refusal made done kind o ≡ None → (w : Want) → o ≡ Some w → w.buffer < buffers done
  wanted kind None e w f = cc
  wanted kind (Some want) e w f = by (buffer_len done want.buffer) refl where
    by : (o : Option ℕ) → buffer_len done want.buffer ≡ o → w.buffer < buffers done
    by None g = let h : Some Noent ≡ None = rw g at e in cc
    by (Some size) g = let same : want ≡ w = cc in subst (λ w. w.buffer < buffers done) same (there_made done want.buffer size g)

  pub asked_short : (asked : SubmitForm) → want_refusal made done (asked_by asked).kind (asked_by asked).want ≡ None → (w : Want) → (asked_by asked).want ≡ Some w → w.len ≤ 1048576
  asked_short (form.Read sector buffer offset len) e w f =
      let r = range_ok 0 (record { buffer = buffer; offset = offset; len = len; dir = From }) e in
      let l = ltb-false 1048576 len (first_false (nat_lt len 512) (nat_lt 1048576 len) (not (len % 512 == 0)) (nat_lt r.0 (offset + len)) r.1) in
      let is : record { buffer = buffer; offset = offset; len = len; dir = From } ≡ w = cc in
      subst (λ (w : Want). w.len ≤ 1048576) is l
  asked_short (form.Write sector buffer offset len) e w f =
      let r = range_ok 1 (record { buffer = buffer; offset = offset; len = len; dir = To }) e in
      let l = ltb-false 1048576 len (first_false (nat_lt len 512) (nat_lt 1048576 len) (not (len % 512 == 0)) (nat_lt r.0 (offset + len)) r.1) in
      let is : record { buffer = buffer; offset = offset; len = len; dir = To } ≡ w = cc in
      subst (λ (w : Want). w.len ≤ 1048576) is l
  asked_short form.Flush e w f = cc
  asked_short (form.Id buffer offset) e w f =
      let is : record { buffer = buffer; offset = offset; len = 20; dir = From } ≡ w = cc in
      subst (λ (w : Want). w.len ≤ 1048576) is (omega arith)

-- ---- free descriptors

distinct_below : (n : ℕ) → AreDistinct (numbers_below n)
distinct_below zero = tt
distinct_below (suc n) = distinct_push (numbers_below n) n (distinct_below n) (λ h. (let l = among_below n n h in omega arith)) where
  among_below : (n k : ℕ) → Among k (numbers_below n) → k < n
  among_below zero k h = absurd h
  among_below (suc n) k h = elim (pushed k n (numbers_below n) h) [ inl j ↦ (let l = among_below n k j in omega arith) | inr e ↦ omega arith ]

distinct_some : (p : ℕ → Bool) (ns : List ℕ) → AreDistinct ns → AreDistinct (filter p ns)
distinct_some p [] d = tt
distinct_some p (n ∷ ns) d = by (p n) (distinct_some p ns d.1) where
  by : (b : Bool) → AreDistinct (filter p ns) → AreDistinct (cond b (n ∷ filter p ns) (filter p ns))
  by true rest = ((λ h. d.0 (filtered p n ns h).0), rest)
  by false rest = rest

taken_among : (n k : ℕ) (ns : List ℕ) → Among k (take n ns) → Among k ns
taken_among zero k ns h = absurd h
taken_among (suc n) k [] h = absurd h
taken_among (suc n) k (m ∷ ns) (inl e) = inl e
taken_among (suc n) k (m ∷ ns) (inr h) = inr (taken_among n k ns h)

distinct_take : (n : ℕ) (ns : List ℕ) → AreDistinct ns → AreDistinct (take n ns)
distinct_take zero ns d = tt
distinct_take (suc n) [] d = tt
distinct_take (suc n) (m ∷ ns) d = ((λ h. d.0 (taken_among n m ns h)), distinct_take n ns d.1)

pub free_distinct : (size : ℕ) (chains : List AddedChain) (n : ℕ) → AreDistinct (take n (free_descriptors size chains))
free_distinct size chains n = distinct_take n (free_descriptors size chains) (distinct_some (λ d. not (is_in_chains chains d)) (numbers_below size) (distinct_below size))

pub length_take : {X : Type 0} (n : ℕ) (xs : List X) → n ≤ length xs → length (take n xs) ≡ n
length_take zero xs h = refl
length_take (suc n) [] h = absurd (omega arith)
length_take (suc n) (x ∷ xs) h = ap (λ k. suc k) (length_take n xs (omega arith))
