-- What the end of a request's mappings brings back to its buffers.
use Rattle.std.proofs.Common.{◌≡◌, ℕ, zero, suc, ◌+◌, ◌-◌, ◌==◌, ◌<◌, ◌≤◌, Bool, true, false, refl, ap, subst, ◌∙◌, sym, arith, Option, None, Some, is_some, List, [], ◌∷◌, ◌++◌, length, get_or, take, drop, map, not, find, append_assoc, eqb-true, ◌&&◌, if◌then◌else◌, true≢false, ◌⊎◌, inl, inr}
use Rattle.std.specs.Option.{option_map_or}
use Rattle.std.proofs.lemmas.Bool.{ne_eqb}
use Rattle.vd_num.specs.Number.{is_within}
use Rattle.vd_model.specs.declared.memory.Dir.TheVariants.{To, From}
use Rattle.vd_model.specs.declared.memory.Want.{Want}
use Rattle.vd_model.specs.Setting.{Setting}
use Rattle.vd_model.specs.Acts.{Act, Driver, Streaming, Unmapped}
use Rattle.vd_model.specs.Live.{live_mappings, registration_of, iova_of, maps_address}
use Rattle.vd_model.specs.Puts.{Ram, is_from_device, put_if, put_or, home_cell, last_put, shown_put, ram, ram_bytes}
use Rattle.vd_model.specs.RingTurns.{AskedRequest, given_want, part_wants, table_wants, parts_count, unmap_acts, free_acts}
use Rattle.vd_laws.specs.Among.{Among}
use Rattle.vd_laws.specs.Runs.{IsAddressed, IsWhole}
use Rattle.vd_ring_laws.specs.DiskRequest.{answer_len}
use Rattle.vd_laws.proofs.Lists.{found, found_passes, filter_in, among_map}
use Rattle.vd_laws.proofs.Legal.{Distinct, Legal}
use Rattle.vd_laws.proofs.Sound.{Sound, sound}
use Rattle.vd_laws.proofs.Ranges.{in_range}
use Rattle.vd_model.specs.Direct.{brings_back}
use Rattle.vd_model.specs.History.{History}
use Rattle.vd_laws.proofs.MemoryLaw.{moment_legal}
use Rattle.vd_ring_bytes.specs.UnmapLaw.{acts_of_unmaps, UnmapLaw}
use Rattle.vd_ring_bytes.proofs.Mappings.{one_map}
use Rattle.vd_ring_bytes.proofs.Numbers.{same_number}
use Rattle.vd_ring_bytes.proofs.StandingBytes.{Stands, each_is}
use Rattle.vd_ring_bytes.proofs.RequestSource.{IsOneWay}
use Rattle.vd_ring_bytes.proofs.RingMemory.{map_still, spread_over}

find_some : (p : Streaming → Bool) (m : Streaming) (xs : List Streaming) → Among m xs → p m ≡ true → (y : Streaming) × (find p xs ≡ Some y)
find_some p m [] h e = absurd h
find_some p m (y ∷ ys) h e = by (p y) refl h (λ i. find_some p m ys i e) where
  by : (b : Bool) → p y ≡ b → Among m (y ∷ ys) → (Among m ys → (z : Streaming) × (find p ys ≡ Some z)) → (z : Streaming) × ((if b then Some y else find p ys) ≡ Some z)
  by true f i later = (y, refl)
  by false f (inl is) later = absurd (true≢false (sym e ∙ (ap p is ∙ f)))
  by false f (inr i) later = later i

-- those of a request's numbers are those of its mappings
pub unmaps_are : (x : Setting) (acts : List Act) → Sound x acts → (ms : List Streaming) → ((m : Streaming) → Among m ms → Among m (live_mappings acts)) → unmap_acts (live_mappings acts) (map (λ m. m.number) ms) ≡ acts_of_unmaps ms
unmaps_are x acts s [] alive = refl
unmaps_are x acts s (m ∷ ms) alive =
    let p : Streaming → Bool = λ l. l.number == m.number in
    let f = find_some p m (live_mappings acts) (alive m (inl refl)) (same_number m.number) in
    let is : f.0 ≡ m = s.same f.0 m (found p f.0 (live_mappings acts) f.1) (alive m (inl refl)) (eqb-true f.0.number m.number (found_passes p f.0 (live_mappings acts) f.1)) in
    ap (λ o. unmap_acts (live_mappings acts) (map (λ m. m.number) ms) ++ option_map_or (λ m. Driver (Unmapped m) ∷ []) o []) (f.1 ∙ ap (λ m. Some m) is)
    ∙ ap (λ l. l ++ Driver (Unmapped m) ∷ []) (unmaps_are x acts s ms (λ n i. alive n (inr i)))

-- ---- a byte of a buffer

one_left : (g : ℕ) (m : Streaming) (acts : List Act) (k i : ℕ) → brings_back m k i ≡ false → last_put g (Driver (Unmapped m) ∷ acts) (Ram k i) ≡ last_put g acts (Ram k i)
one_left g m acts k i e = ap (λ b. put_or (put_if b (last_put g acts) (home_cell (registration_of acts) (iova_of m + (i - m.want.offset)))) (last_put g acts) (Ram k i)) e

all_left : (g : ℕ) (ms : List Streaming) (acts : List Act) (k i : ℕ) → ((n : Streaming) → Among n ms → brings_back n k i ≡ false) → last_put g (acts_of_unmaps ms ++ acts) (Ram k i) ≡ last_put g acts (Ram k i)
all_left g [] acts k i h = refl
all_left g (m ∷ ms) acts k i h =
    ap (λ l. last_put g l (Ram k i)) (append_assoc (acts_of_unmaps ms) (Driver (Unmapped m) ∷ []) acts)
    ∙ (all_left g ms (Driver (Unmapped m) ∷ acts) k i (λ n j. h n (inr j)) ∙ one_left g m acts k i (h m (inl refl)))

one_brought : (g : ℕ) (m : Streaming) (acts : List Act) (j : ℕ) → m.want.dir ≡ From → j < m.want.len → last_put g (Driver (Unmapped m) ∷ acts) (Ram m.want.buffer (m.want.offset + j)) ≡ shown_put g acts (iova_of m + j)
one_brought g m acts j from low =
    let yes : brings_back m m.want.buffer (m.want.offset + j) ≡ true =
    ap (λ d. is_from_device d && (m.want.buffer == m.want.buffer) && is_within m.want.offset m.want.len (m.want.offset + j)) from
    ∙ (ap (λ b. b && is_within m.want.offset m.want.len (m.want.offset + j)) (same_number m.want.buffer) ∙ in_range m.want.offset m.want.len (m.want.offset + j) (omega arith) (omega arith)) in
    let index : iova_of m + (m.want.offset + j - m.want.offset) ≡ iova_of m + j = omega arith in
    ap (λ b. put_or (put_if b (last_put g acts) (home_cell (registration_of acts) (iova_of m + (m.want.offset + j - m.want.offset)))) (last_put g acts) (Ram m.want.buffer (m.want.offset + j))) yes
    ∙ ap (λ a. last_put g acts (home_cell (registration_of acts) a)) index

module _ (x : Setting) (small : IsAddressed x) (full : IsWhole x) where
  -- what stands over a mapping comes back, where no other mapping brings back the same bytes
  pub brought : (ms : List Streaming) (acts : List Act) → Legal x acts → ((m : Streaming) → Among m ms → Among m (live_mappings acts)) → Distinct (map (λ m. m.number) ms)
      → (m : Streaming) → Among m ms → m.want.dir ≡ From → ((n : Streaming) → Among n ms → (n ≡ m → ⊥) → (i : ℕ) → brings_back n m.want.buffer i ≡ false)
      → (bytes : List ℕ) → length bytes ≤ m.want.len → Stands x acts (iova_of m) bytes → (i : ℕ) → i < length bytes → ram x.per_page (acts_of_unmaps ms ++ acts) m.want.buffer (m.want.offset + i) ≡ get_or bytes i 0
  brought [] acts legal alive d m there from others bytes short stands i low = absurd there
  brought (n ∷ ms) acts legal alive d m (inl e) from others bytes short stands i low =
      let last : Act = Driver (Unmapped n) in
      ap (λ l. ram x.per_page l m.want.buffer (m.want.offset + i)) (append_assoc (acts_of_unmaps ms) (last ∷ []) acts)
      ∙ (ap (λ p. p.byte) (all_left x.per_page ms (last ∷ acts) m.want.buffer (m.want.offset + i)
      (λ l j. others l (inr j) (λ is. d.0 (subst (λ k. Among k (map (λ m. m.number) ms)) (ap (λ m. m.number) (is ∙ e)) (among_map (λ m. m.number) l ms j))) (m.want.offset + i)))
      ∙ (subst (λ n. ram x.per_page (Driver (Unmapped n) ∷ acts) m.want.buffer (m.want.offset + i) ≡ (shown_put x.per_page acts (iova_of m + i)).byte) e (ap (λ p. p.byte) (one_brought x.per_page m acts i from (omega arith)))
      ∙ stands i low))
  brought (n ∷ ms) acts legal alive d m (inr j) from others bytes short stands i low =
      let s = sound x acts legal in
      let last : Act = Driver (Unmapped n) in
      let now : Legal x (last ∷ acts) = (alive n (inl refl), legal) in
      let apart : (l : Streaming) → Among l ms → l.number ≡ n.number → ⊥ = λ l k e. d.0 (subst (λ k. Among k (map (λ m. m.number) ms)) e (among_map (λ m. m.number) l ms k)) in
      let there = alive m (inr j) in
      let here : (i : ℕ) → i < length bytes → maps_address m (iova_of m + i) ≡ true = λ i lo. in_range (iova_of m) m.want.len (iova_of m + i) (omega arith) (omega arith) in
      ap (λ l. ram x.per_page l m.want.buffer (m.want.offset + i)) (append_assoc (acts_of_unmaps ms) (last ∷ []) acts)
      ∙ brought ms (last ∷ acts) now (λ l k. filter_in (λ o. not (o.number == n.number)) l (live_mappings acts) (alive l (inr k)) (ap not (ne_eqb l.number n.number (apart l k)))) d.1 m j from (λ l k. others l (inr k)) bytes short
      (map_still x small full (last ∷ []) acts now m there (iova_of m) bytes here (λ i lo. (one_map x acts m n (iova_of m + i) s there (alive n (inl refl)) (here i lo) (λ e. apart m j (ap (λ m. m.number) e)), tt)) stands) i low

-- frees change no byte
pub frees_ram : (g buffer count : ℕ) (acts : List Act) (k i : ℕ) → ram g (free_acts buffer count ++ acts) k i ≡ ram g acts k i
frees_ram g buffer zero acts k i = refl
frees_ram g buffer (suc count) acts k i = frees_ram g buffer count acts k i

-- ---- the mappings of a request

not_back : (n : Streaming) (k i : ℕ) → (n.want.dir ≡ To) ⊎ (k ≡ n.want.buffer → ⊥) → brings_back n k i ≡ false
not_back n k i (inl e) = ap (λ d. is_from_device d && (k == n.want.buffer) && is_within n.want.offset n.want.len i) e
not_back n k i (inr h) = ap (λ b. is_from_device n.want.dir && b && is_within n.want.offset n.want.len i) (ne_eqb k n.want.buffer h) ∙ none (is_from_device n.want.dir) where
  none : (b : Bool) → (b && false && is_within n.want.offset n.want.len i) ≡ false
  none true = refl
  none false = refl

skips : (m : Streaming) (ms : List Streaming) (bytes : List ℕ) → m.want.dir ≡ To → spread_over (m ∷ ms) bytes ≡ spread_over ms bytes
skips m ms bytes e = ap (λ d. if is_from_device d then (m, take m.want.len bytes) ∷ spread_over ms (drop m.want.len bytes) else spread_over ms bytes) e

takes : (m : Streaming) (ms : List Streaming) (bytes : List ℕ) → m.want.dir ≡ From → spread_over (m ∷ ms) bytes ≡ (m, take m.want.len bytes) ∷ spread_over ms (drop m.want.len bytes)
takes m ms bytes e = ap (λ d. if is_from_device d then (m, take m.want.len bytes) ∷ spread_over ms (drop m.want.len bytes) else spread_over ms bytes) e

take_front : (n : ℕ) (xs ys : List ℕ) → length xs ≡ n → (take n (xs ++ ys) ≡ xs) × (drop n (xs ++ ys) ≡ ys)
take_front zero [] ys e = (refl, refl)
take_front zero (x ∷ xs) ys e = absurd (omega arith)
take_front (suc n) [] ys e = absurd (omega arith)
take_front (suc n) (x ∷ xs) ys e = let r = take_front n xs ys (omega arith) in (ap (λ l. x ∷ l) r.0, r.1)

-- the mapping of the status, and that of a range that comes from the device
pub record Pieces (n : ℕ) (o : Option Want) (ms part_maps : List Streaming) : Type 0 where
  pub status : Streaming
  pub there : Among status ms
  pub its : status.want ≡ record { buffer = n; offset = 16; len = 1; dir = From }
  pub others : (m : Streaming) → Among m ms → (m ≡ status → ⊥) → (m.want.dir ≡ To) ⊎ (n ≡ m.want.buffer → ⊥)
  pub told : (bytes : List ℕ) (last : ℕ) → length bytes ≡ answer_len o - 1 → Among (status, last ∷ []) (spread_over part_maps (bytes ++ last ∷ []))
  pub range : (w : Want) → o ≡ Some w → w.dir ≡ From → (m : Streaming) × Among m ms × (m.want ≡ w)
      × ((l : Streaming) → Among l ms → (l ≡ m → ⊥) → (l.want.dir ≡ To) ⊎ (w.buffer ≡ l.want.buffer → ⊥))
      × ((bytes : List ℕ) (last : ℕ) → length bytes ≡ w.len → Among (m, bytes) (spread_over part_maps (bytes ++ last ∷ [])))

tables_go : (indirect : Bool) (n : ℕ) (a : AskedRequest) (rest : List Streaming) → map (λ m. m.want) rest ≡ table_wants indirect n a → (m : Streaming) → Among m rest → m.want.dir ≡ To
tables_go true n a rest e m i = by (subst (Among m.want) e (among_map (λ m. m.want) m rest i)) where
  by : Among m.want (table_wants true n a) → m.want.dir ≡ To
  by (inl f) = ap (λ w. w.dir) f
  by (inr f) = absurd f
tables_go false n a rest e m i = absurd (subst (Among m.want) e (among_map (λ m. m.want) m rest i))

len_to : (w : Want) → w.dir ≡ To → answer_len (Some w) ≡ 1
len_to w k = rw k refl

len_from : (w : Want) → w.dir ≡ From → answer_len (Some w) ≡ w.len + 1
len_from w k = rw k refl

module _ (n : ℕ) (indirect : Bool) (a : AskedRequest) where
  abbrev H : Want
  H = record { buffer = n; offset = 0; len = 16; dir = To }

  abbrev S : Want
  S = record { buffer = n; offset = 16; len = 1; dir = From }

  told_short : (h s : Streaming) → h.want ≡ H → s.want ≡ S → (bytes : List ℕ) (last : ℕ) → length bytes ≡ 0 → Among (s, last ∷ []) (spread_over (h ∷ s ∷ []) (bytes ++ last ∷ []))
  told_short h s eh es [] last e =
      subst (Among (s, last ∷ [])) (sym (skips h (s ∷ []) (last ∷ []) (ap (λ w. w.dir) eh) ∙ takes s [] (last ∷ []) (ap (λ w. w.dir) es)))
      (inl (ap (λ k. (s, take k (last ∷ []))) (sym (ap (λ w. w.len) es))))
  told_short h s eh es (b ∷ bytes) last e = absurd (omega arith)

  without : (h s : Streaming) (rest : List Streaming) → h.want ≡ H → s.want ≡ S → map (λ m. m.want) rest ≡ table_wants indirect n a → Pieces n None (h ∷ s ∷ rest) (h ∷ s ∷ [])
  without h s rest eh es er = record {
    status = s;
    there = inr (inl refl);
    its = es;
    others = λ m i other. by m i other;
    told = λ bytes last e. told_short h s eh es bytes last e;
    range = λ w e. cc;
  } where
    by : (m : Streaming) → Among m (h ∷ s ∷ rest) → (m ≡ s → ⊥) → (m.want.dir ≡ To) ⊎ (n ≡ m.want.buffer → ⊥)
    by m (inl e) other = inl (ap (λ m. m.want.dir) e ∙ ap (λ w. w.dir) eh)
    by m (inr (inl e)) other = absurd (other e)
    by m (inr (inr i)) other = inl (tables_go indirect n a rest er m i)

  module _ (h r s : Streaming) (rest : List Streaming) (w : Want) (eh : h.want ≡ H) (ew : r.want ≡ w) (es : s.want ≡ S) (er : map (λ m. m.want) rest ≡ table_wants indirect n a) (low : w.buffer < n) where
    others_of : (m : Streaming) → Among m (h ∷ r ∷ s ∷ rest) → (m ≡ s → ⊥) → (m.want.dir ≡ To) ⊎ (n ≡ m.want.buffer → ⊥)
    others_of m (inl e) other = inl (ap (λ m. m.want.dir) e ∙ ap (λ w. w.dir) eh)
    others_of m (inr (inl e)) other = inr (λ f. (let g : m.want.buffer ≡ w.buffer = ap (λ m. m.want.buffer) e ∙ ap (λ w. w.buffer) ew in omega arith))
    others_of m (inr (inr (inl e))) other = absurd (other e)
    others_of m (inr (inr (inr i))) other = inl (tables_go indirect n a rest er m i)

    given_to : w.dir ≡ To → Pieces n (Some w) (h ∷ r ∷ s ∷ rest) (h ∷ r ∷ s ∷ [])
    given_to to = record {
      status = s;
      there = inr (inr (inl refl));
      its = es;
      others = others_of;
      told = λ bytes last e. subst (Among (s, last ∷ [])) (sym (skips h (r ∷ s ∷ []) (bytes ++ last ∷ []) (ap (λ w. w.dir) eh) ∙ skips r (s ∷ []) (bytes ++ last ∷ []) (ap (λ w. w.dir) ew ∙ to)))
          (subst (Among (s, last ∷ [])) (skips h (s ∷ []) (bytes ++ last ∷ []) (ap (λ w. w.dir) eh)) (told_short h s eh es bytes last (e ∙ ap (λ k. k - 1) (len_to w to))));
      range = λ v e from. absurd (let is : w ≡ v = cc in let both : To ≡ From = sym to ∙ (ap (λ w. w.dir) is ∙ from) in cc);
    }

    given_from : w.dir ≡ From → Pieces n (Some w) (h ∷ r ∷ s ∷ rest) (h ∷ r ∷ s ∷ [])
    given_from from = record {
      status = s;
      there = inr (inr (inl refl));
      its = es;
      others = others_of;
      told = λ bytes last e. (let f : length bytes ≡ w.len = (let g = len_from w from in omega arith) in subst (Among (s, last ∷ [])) (sym (spreads bytes last f)) (inr (inl refl)));
      range = λ v e g. subst (λ (v : Want). (m : Streaming) × Among m (h ∷ r ∷ s ∷ rest) × (m.want ≡ v)
          × ((l : Streaming) → Among l (h ∷ r ∷ s ∷ rest) → (l ≡ m → ⊥) → (l.want.dir ≡ To) ⊎ (v.buffer ≡ l.want.buffer → ⊥))
          × ((bytes : List ℕ) (last : ℕ) → length bytes ≡ v.len → Among (m, bytes) (spread_over (h ∷ r ∷ s ∷ []) (bytes ++ last ∷ [])))) (let is : w ≡ v = cc in is)
          (r, inr (inl refl), ew, by, λ bytes last f. subst (Among (r, bytes)) (sym (spreads bytes last f)) (inl refl));
    } where
      spreads : (bytes : List ℕ) (last : ℕ) → length bytes ≡ w.len → spread_over (h ∷ r ∷ s ∷ []) (bytes ++ last ∷ []) ≡ (r, bytes) ∷ (s, last ∷ []) ∷ []
      spreads bytes last f =
          let t = take_front r.want.len bytes (last ∷ []) (f ∙ sym (ap (λ w. w.len) ew)) in
          skips h (r ∷ s ∷ []) (bytes ++ last ∷ []) (ap (λ w. w.dir) eh)
          ∙ (takes r (s ∷ []) (bytes ++ last ∷ []) (ap (λ w. w.dir) ew ∙ from)
          ∙ (ap (λ l. (r, l) ∷ spread_over (s ∷ []) (drop r.want.len (bytes ++ last ∷ []))) t.0
          ∙ (ap (λ l. (r, bytes) ∷ spread_over (s ∷ []) l) t.1
          ∙ (ap (λ l. (r, bytes) ∷ l) (takes s [] (last ∷ []) (ap (λ w. w.dir) es)) ∙ ap (λ k. (r, bytes) ∷ (s, take k (last ∷ [])) ∷ []) (ap (λ w. w.len) es)))))

      by : (l : Streaming) → Among l (h ∷ r ∷ s ∷ rest) → (l ≡ r → ⊥) → (l.want.dir ≡ To) ⊎ (w.buffer ≡ l.want.buffer → ⊥)
      by l (inl e) other = inl (ap (λ m. m.want.dir) e ∙ ap (λ w. w.dir) eh)
      by l (inr (inl e)) other = absurd (other e)
      by l (inr (inr (inl e))) other = inr (λ f. (let g : l.want.buffer ≡ n = ap (λ m. m.want.buffer) e ∙ ap (λ w. w.buffer) es in omega arith))
      by l (inr (inr (inr i))) other = inl (tables_go indirect n a rest er l i)

  pub pieces : (ms : List Streaming) → IsOneWay a.want → ((w : Want) → a.want ≡ Some w → w.buffer < n) → map (λ m. m.want) ms ≡ part_wants n a ++ table_wants indirect n a → Pieces n a.want ms (take (parts_count a) ms)
  pieces ms ways low e = each a.want ms ways low e where
    each : (o : Option Want) (ms : List Streaming) → IsOneWay o → ((w : Want) → o ≡ Some w → w.buffer < n) → map (λ m. m.want) ms ≡ (H ∷ given_want o ++ S ∷ []) ++ table_wants indirect n a → Pieces n o ms (take (if is_some o then 3 else 2) ms)
    each None [] ways low e = cc
    each None (h ∷ []) ways low e = cc
    each None (h ∷ s ∷ rest) ways low e =
        let eh : h.want ≡ H = cc in
        let es : s.want ≡ S = cc in
        let er : map (λ m. m.want) rest ≡ table_wants indirect n a = cc in
        without h s rest eh es er
    each (Some w) [] ways low e = cc
    each (Some w) (h ∷ []) ways low e = cc
    each (Some w) (h ∷ r ∷ []) ways low e = cc
    each (Some w) (h ∷ r ∷ s ∷ rest) ways low e =
        let eh : h.want ≡ H = cc in
        let ew : r.want ≡ w = cc in
        let es : s.want ≡ S = cc in
        let er : map (λ m. m.want) rest ≡ table_wants indirect n a = cc in
        elim (ways w refl) [ inl to ↦ given_to h r s rest w eh ew es er (low w refl) to | inr from ↦ given_from h r s rest w eh ew es er (low w refl) from ]

-- ---- after the unmaps of a request

module _ (x : Setting) (small : IsAddressed x) (full : IsWhole x) (n : ℕ) (indirect : Bool) (a : AskedRequest) (ms : List Streaming) (ways : IsOneWay a.want) (low : (w : Want) → a.want ≡ Some w → w.buffer < n)
    (wants : map (λ m. m.want) ms ≡ part_wants n a ++ table_wants indirect n a) (acts : List Act) (legal : Legal x acts) (alive : (m : Streaming) → Among m ms → Among m (live_mappings acts)) (d : Distinct (map (λ m. m.number) ms))
    (bytes : List ℕ) (last : ℕ) (len : length bytes ≡ answer_len a.want - 1)
    (shows : (p : Streaming × List ℕ) → Among p (spread_over (take (parts_count a) ms) (bytes ++ last ∷ [])) → Stands x acts (iova_of p.0) p.1) where
  its_pieces : Pieces n a.want ms (take (parts_count a) ms)
  its_pieces = pieces n indirect a ms ways low wants

  -- the status is in byte 16 of the request's buffer
  pub status_back : ram x.per_page (acts_of_unmaps ms ++ acts) n 16 ≡ last
  status_back =
      let p = its_pieces in
      let is : p.status.want.buffer ≡ n = ap (λ w. w.buffer) p.its in
      let at : p.status.want.offset + 0 ≡ 16 = ap (λ w. w.offset + 0) p.its in
      let single : p.status.want.len ≡ 1 = ap (λ w. w.len) p.its in
      ap (λ k. ram x.per_page (acts_of_unmaps ms ++ acts) k 16) (sym is)
      ∙ (ap (ram x.per_page (acts_of_unmaps ms ++ acts) p.status.want.buffer) (sym at)
      ∙ brought x small full ms acts legal alive d p.status p.there (ap (λ w. w.dir) p.its)
      (λ l j other i. not_back l p.status.want.buffer i (subst (λ k. (l.want.dir ≡ To) ⊎ (k ≡ l.want.buffer → ⊥)) (sym is) (p.others l j other)))
      (last ∷ []) (omega arith) (shows (p.status, last ∷ []) (p.told bytes last len)) 0 (omega arith))

  -- and the range has the answer's bytes
  pub range_back : (w : Want) → a.want ≡ Some w → w.dir ≡ From → ram_bytes x.per_page (acts_of_unmaps ms ++ acts) w.buffer w.offset w.len ≡ bytes
  range_back w e from =
      let r = its_pieces.range w e from in
      let m = r.0 in
      let g = len_from w from in
      let f : length bytes ≡ w.len = (let h : answer_len a.want ≡ answer_len (Some w) = ap answer_len e in omega arith) in
      let same : m.want ≡ w = r.2 in
      let short : m.want.len ≡ w.len = ap (λ w. w.len) same in
      let go : (i : ℕ) → i < length bytes → ram x.per_page (acts_of_unmaps ms ++ acts) m.want.buffer (m.want.offset + i) ≡ get_or bytes i 0 =
      brought x small full ms acts legal alive d m r.1 (ap (λ w. w.dir) same ∙ from)
      (λ l j other i. not_back l m.want.buffer i (subst (λ k. (l.want.dir ≡ To) ⊎ (k ≡ l.want.buffer → ⊥)) (sym (ap (λ w. w.buffer) same)) (r.3 l j other)))
      bytes (omega arith) (shows (m, bytes) (r.4 bytes last f)) in
      ap (λ k. ram_bytes x.per_page (acts_of_unmaps ms ++ acts) w.buffer w.offset k) (sym f)
      ∙ each_is (λ i. ram x.per_page (acts_of_unmaps ms ++ acts) w.buffer i) bytes w.offset (subst (λ (w : Want). (i : ℕ) → i < length bytes → ram x.per_page (acts_of_unmaps ms ++ acts) w.buffer (w.offset + i) ≡ get_or bytes i 0) same go)

pub unmap_law : (x : Setting) (h : History) → UnmapLaw x h
unmap_law x h small whole d ms acts at alive distinct m there from others bytes short shows i low = brought x small whole ms acts (moment_legal x h d acts at) alive distinct m there from others bytes short shows i low
