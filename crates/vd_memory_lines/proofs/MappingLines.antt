-- The lines on mappings.
use Rattle.std.proofs.Common.{◌≡◌, ℕ, ◌+◌, ◌-◌, ◌*◌, ◌/◌, ◌<◌, ◌≤◌, ◌↔◌, Bool, true, false, refl, ap, subst, ◌∙◌, sym, arith, Option, None, Some, Result, Ok, Err, IfOk, OnErr, List, [], ◌∷◌, ◌++◌, length, ◌==◌, ◌&&◌, nat_lt, nat_le, if◌then◌else◌, not, find, filter}
use Rattle.std.specs.List.{slice_index, slice_set}
use Rattle.std.specs.Option.{option_map, option_map_or}
use Rattle.std.proofs.lemmas.Bool.Decides.{nat_tests}
use Rattle.std.proofs.lemmas.List.Elements.{All-append, All-cons, All-nil, All-filter}
use Rattle.vd_num.specs.Number.{pages_of, is_within}
use Rattle.vd_num.specs.declared.errno.Errno.{Errno}
use Rattle.vd_num.specs.declared.errno.Errno.TheVariants.{Nospc, Noent, Inval}
use Rattle.vd_pool.specs.Memory.{PoolMemory as Pool}
use Rattle.vd_model.specs.declared.memory.Want.{Want}
use Rattle.vd_model.specs.declared.memory.Mapping.{Mapping}
use Rattle.vd_model.specs.declared.memory.MapInfo.{MapInfo}
use Rattle.vd_model.specs.declared.memory.MapError.{MapError}
use Rattle.vd_model.specs.declared.memory.MapError.TheVariants.{Empty, NoSpace}
use Rattle.vd_model.specs.declared.memory.MapError.TheVariants as error
use Rattle.vd_model.specs.declared.answer.Answer.{Answer}
use Rattle.vd_model.specs.declared.answer.Answer.TheVariants as answer
use Rattle.vd_model.specs.declared.answer.Item.TheVariants.{Number, Word, Address}
use Rattle.vd_model.specs.declared.answer.Tag.TheVariants.{Iova}
use Rattle.vd_model.specs.Setting.{Setting}
use Rattle.vd_model.specs.Acts.{Act, Driver, DriverAct, Mapped, Unmapped, Synced_device, Synced_cpu, Streaming}
use Rattle.vd_model.specs.Live.{live_mappings, maps, buffers, buffer_len, buffers_len, registration_of, iova_of}
use Rattle.vd_model.specs.Puts.{ram, shown_put, last_put, is_from_device, is_to_device, put_or, put_if, home_cell, fetched_put, Ram}
use Rattle.vd_model.specs.Place.{place_of as slot_of, taken_slots}
use Rattle.vd_model.specs.Turn.{Turn, lift, refuse, refusal_turn, done_with, range_refusal, refusal_if as given_if}
use Rattle.vd_model.specs.DriverTurns.{map_turn, map_at, on_mapping, unmap_turn, syncdev_turn, synccpu_turn}
use Rattle.vd_domain.specs.Held.{Held, mapping_of}
use Rattle.vd_domain.specs.Handed.{streaming_of, map_info}
use Rattle.vd_domain.proofs.Holdings.{found_all}
use Rattle.vd_domain.specs.Stands as domain
use Rattle.vd_buffers.specs.Places.{Places, place_of, IsRange}
use Rattle.vd_buffers.specs.Stands as buffers
use Rattle.vd_buffers.proofs.Ranges.{allowed, buffer_is}
use Rattle.vd_buffers.proofs.Changed.{leaves_buffers, rewritten}
use Rattle.vd_answers.specs.Tells.{Tells, MayTell}
use Rattle.vd_answers.proofs.Telling.{tells_by}
use Rattle.vd_memory_lines.specs.declared.memory.Memory.{Memory}
use Rattle.vd_memory_lines.specs.Given.{given}
use Rattle.vd_memory_lines.specs.Mapped.{TellsMapped}
use Rattle.vd_memory_lines.specs.Stands.{Stands, IsInside}
use Rattle.vd_memory_lines.proofs.Parts.{stay_inside, domain_act, told_ok, told_none}

module _ (x : Setting) (acts : List Act) (k : Memory) (p : Pool) (s : Stands x acts k p) (want : Want) (text : List ℕ) (range : IsRange k.buffers want.buffer want.offset want.len text) where
  abbrev placed_or : Option ℕ → Turn DriverAct
  placed_or place = option_map_or (map_at acts want) place (refusal_turn Nospc)

  turn_is : (place : Option ℕ) → slot_of (taken_slots acts) (pages_of want.len) x.per_page x.bounce ≡ place → lift Driver (map_turn x acts want) ≡ lift Driver (placed_or place)
  unfolding slot_of
  turn_is place e =
      ap (λ o. lift Driver (refuse o (placed_or (slot_of (taken_slots acts) (pages_of want.len) x.per_page x.bounce)))) (allowed x.per_page acts k.buffers s.buffers want.buffer want.offset want.len text range)
      ∙ ap (λ o. lift Driver (placed_or o)) e

  -- after a mapping of this want was made
  stands_mapped : (m : Streaming) → m.want ≡ want → (d : Held) (q : Pool) → domain.Stands x (Driver (Mapped m) ∷ acts) d q → Stands x (Driver (Mapped m) ∷ acts) (record k { domain = d }) q
  stands_mapped m is d q stands = record {
    domain = stands;
    buffers = leaves_buffers x.per_page acts k.buffers s.buffers (Driver (Mapped m)) refl;
    inside = All-append (IsInside (Driver (Mapped m) ∷ acts)) (live_mappings acts) (m ∷ []) (stay_inside acts (Driver (Mapped m) ∷ acts) (live_mappings acts) (λ b size e. e) s.inside)
        (All-cons (IsInside (Driver (Mapped m) ∷ acts)) m [] inside (All-nil (IsInside (Driver (Mapped m) ∷ acts))));
  } where
    inside : IsInside (Driver (Mapped m) ∷ acts) m
    inside = record {
      some = (let h : 0 < want.len = range.nonzero in subst (λ (w : Want). 0 < w.len) (sym is) h);
      size = length range.bytes;
      there = ap (λ (w : Want). buffer_len acts w.buffer) is ∙ buffer_is x.per_page acts k.buffers s.buffers want.buffer want.offset want.len text range;
      within = (let h : want.offset + want.len ≤ length range.bytes = range.within in subst (λ (w : Want). w.offset + w.len ≤ length range.bytes) (sym is) h);
    }

  -- what the domain answered
  pub record Maps (r : Result Mapping MapError) (d : Held) (q : Pool) : Type 0 where
    pub ok : IfOk r (λ m. domain.Stands x (Driver (Mapped (streaming_of m want)) ∷ acts) d q)
    pub place : IfOk r (λ m. (m.number ≡ maps acts) × (m.iova ≡ 4096 * (m.iova / 4096)) × (slot_of (taken_slots acts) (pages_of want.len) x.per_page x.bounce ≡ Some (m.iova / 4096)))
    pub full : r ≡ Err NoSpace → slot_of (taken_slots acts) (pages_of want.len) x.per_page x.bounce ≡ None
    pub empty : r ≡ Err Empty ↔ (want.len ≡ 0)
    pub err : OnErr r (domain.Stands x acts d q)

  stands_as : (d : Held) (q : Pool) → domain.Stands x acts d q → Stands x acts (record k { domain = d }) q
  stands_as d q stands = record { domain = stands; buffers = s.buffers; inside = s.inside }

  pub map_line : {E : Type 0} (heard : Answer → Type 0) (r : Result Mapping MapError) (result : Result (Unit {0}) E) (d : Held) (q : Pool) → TellsMapped heard r result → Maps r d q
      → MayTell heard (lift Driver (map_turn x acts want)) (λ more. Stands x (more ++ acts) (record k { domain = d }) q) result
  map_line heard (Ok m) result d q t h =
      let is : maps acts ≡ m.number = sym h.place.0 in
      told_ok result t.0 (tells_by (turn_is (Some (m.iova / 4096)) h.place.2)
      (ap (λ n. answer.Done (Number n ∷ Word Iova ∷ Address m.iova ∷ [])) h.place.0 ∙ ap (λ a. answer.Done (Number (maps acts) ∷ Word Iova ∷ Address a ∷ [])) h.place.1) t.1
      (subst (λ n. Stands x (Driver (Mapped (record { number = n; slot = m.iova / 4096; want = want })) ∷ acts) (record k { domain = d }) q) h.place.0
      (stands_mapped (streaming_of m want) refl d q h.ok)))
  map_line heard (Err Empty) result d q t h = (let none = h.empty.0 refl in let some = range.nonzero in absurd (omega arith))
  map_line heard (Err NoSpace) result d q t h = told_ok result t.0 (tells_by (turn_is None (h.full refl)) refl t.1 (stands_as d q h.err))
  map_line heard (Err error.Memory) result d q t h = told_none result t (stands_as d q h.err)

-- ---- a mapping's bytes come back

module _ (g : ℕ) (acts : List Act) (places : Places) (b : buffers.Stands g acts places) (m : Streaming) (act : DriverAct) (old new : List ℕ) where
  after : ℕ → ℕ → Bool → Bool → Bool → ℕ
  after k i from t near = (put_or (put_if (from && t && near) (last_put g acts) (home_cell (registration_of acts) (iova_of m + (i - m.want.offset)))) (last_put g acts) (Ram k i)).byte

  -- the act leaves what buffers there are, and puts the mapping's bytes into its range
  pub record Fetches : Type 0 where
    pub count : buffers (Driver act ∷ acts) ≡ buffers acts
    pub lens : (k : ℕ) → buffer_len (Driver act ∷ acts) k ≡ buffer_len acts k
    pub total : buffers_len (Driver act ∷ acts) ≡ buffers_len acts
    pub puts : (k i : ℕ) → ram g (Driver act ∷ acts) k i ≡ (put_or (fetched_put (last_put g acts) acts m k i) (last_put g acts) (Ram k i)).byte

  pub fetches : Fetches → place_of places m.want.buffer ≡ Some old → length new ≡ length old → ((i : ℕ) → i < length old → slice_index new i ≡ given g acts m i (slice_index old i))
      → buffers.Stands g (Driver act ∷ acts) (slice_set places m.want.buffer (Some new))
  unfolding after
  fetches f there size written = rewritten g acts places b (Driver act) m.want.buffer old new there (record {
    count = f.count;
    lens = f.lens;
    total = f.total;
    size = size;
    here = here;
    others = others;
  }) where
    here : (i : ℕ) → i < length old → slice_index new i ≡ ram g (Driver act ∷ acts) m.want.buffer i
    here i near =
        let same : (m.want.buffer == m.want.buffer) ≡ true = grind (arith, nat_tests) in
        written i near ∙ by (is_from_device m.want.dir) (is_within m.want.offset m.want.len i)
        ∙ sym (f.puts m.want.buffer i ∙ ap (λ t. after m.want.buffer i (is_from_device m.want.dir) t (is_within m.want.offset m.want.len i)) same) where
          by : (from near : Bool) → (if from && near then (shown_put g acts (iova_of m + (i - m.want.offset))).byte else slice_index old i) ≡ after m.want.buffer i from true near
          by true true = refl
          by true false = b.bytes m.want.buffer old there i near
          by false t = b.bytes m.want.buffer old there i near

    others : (k i : ℕ) → (k == m.want.buffer) ≡ false → ram g (Driver act ∷ acts) k i ≡ ram g acts k i
    others k i e = f.puts k i ∙ ap (λ t. after k i (is_from_device m.want.dir) t (is_within m.want.offset m.want.len i)) e ∙ by (is_from_device m.want.dir) where
      by : (from : Bool) → after k i from false (is_within m.want.offset m.want.len i) ≡ ram g acts k i
      by true = refl
      by false = refl

module _ (x : Setting) (acts : List Act) (k : Memory) (p : Pool) (s : Stands x acts k p) (number : ℕ) where
  on_is : (turn : Streaming → Turn DriverAct) (o : Option Streaming) → mapping_of k.domain number ≡ o → lift Driver (on_mapping acts number turn) ≡ lift Driver (option_map_or turn o (refusal_turn Noent))
  on_is turn o e = ap (λ o. lift Driver (option_map_or turn o (refusal_turn Noent))) (ap (λ (l : List Streaming). find (λ m. m.number == number) l) (sym s.domain.live) ∙ e)

  -- its range lies in its buffer
  pub lies : (m : Streaming) → mapping_of k.domain number ≡ Some m → IsInside acts m
  lies m e = found_all (IsInside acts) (λ (l : Streaming). l.number == number) (live_mappings acts) m s.inside (ap (λ (l : List Streaming). find (λ m. m.number == number) l) (sym s.domain.live) ∙ e)

  pub not_mapped : (heard : Answer → Type 0) (turn : Streaming → Turn DriverAct) → mapping_of k.domain number ≡ None → heard (answer.Err Noent) → Tells heard (lift Driver (on_mapping acts number turn)) (λ more. Stands x (more ++ acts) k p)
  not_mapped heard turn e h = tells_by (on_is turn None e) refl h s

  pub unmapped : (heard : Answer → Type 0) (m : Streaming) (d : Held) (places : Places) (q : Pool) → mapping_of k.domain number ≡ Some m → heard (answer.Done []) → domain.Stands x (Driver (Unmapped m) ∷ acts) d q
      → buffers.Stands x.per_page (Driver (Unmapped m) ∷ acts) places → Tells heard (lift Driver (on_mapping acts number unmap_turn)) (λ more. Stands x (more ++ acts) (record k { domain = d; buffers = places }) q)
  unmapped heard m d places q e h memory kept = tells_by (on_is unmap_turn (Some m) e) refl h (record {
    domain = memory;
    buffers = kept;
    inside = stay_inside acts (Driver (Unmapped m) ∷ acts) (filter (λ (l : Streaming). not (l.number == m.number)) (live_mappings acts)) (λ b size e. e) (All-filter (λ (l : Streaming). not (l.number == m.number)) (IsInside acts) (live_mappings acts) s.inside);
  })

  pub synced : (heard : Answer → Type 0) (m : Streaming) (d : Held) (q : Pool) → mapping_of k.domain number ≡ Some m → is_to_device m.want.dir ≡ true → heard (answer.Done []) → domain.Stands x (Driver (Synced_device m) ∷ acts) d q
      → Tells heard (lift Driver (on_mapping acts number syncdev_turn)) (λ more. Stands x (more ++ acts) (record k { domain = d }) q)
  synced heard m d q e way h stands =
      tells_by (on_is syncdev_turn (Some m) e ∙ ap (λ t. lift Driver (refuse (given_if (not t) Inval) (done_with [] (Synced_device m ∷ [])))) way) refl h
      (domain_act x acts k p s (Driver (Synced_device m)) d q refl refl stands)

  fetch_is : (m : Streaming) (way : Bool) → mapping_of k.domain number ≡ Some m → is_from_device m.want.dir ≡ way
      → lift Driver (on_mapping acts number synccpu_turn) ≡ lift Driver (refuse (given_if (not way) Inval) (done_with [] (Synced_cpu m ∷ [])))
  fetch_is m way e f = on_is synccpu_turn (Some m) e ∙ ap (λ t. lift Driver (refuse (given_if (not t) Inval) (done_with [] (Synced_cpu m ∷ [])))) f

  pub wrong_way : (heard : Answer → Type 0) (m : Streaming) → mapping_of k.domain number ≡ Some m → is_from_device m.want.dir ≡ false → heard (answer.Err Inval)
      → Tells heard (lift Driver (on_mapping acts number synccpu_turn)) (λ more. Stands x (more ++ acts) k p)
  wrong_way heard m e way h = tells_by (fetch_is m false e way) refl h s

  pub fetched : (heard : Answer → Type 0) (m : Streaming) (d : Held) (places : Places) (q : Pool) → mapping_of k.domain number ≡ Some m → is_from_device m.want.dir ≡ true → heard (answer.Done [])
      → domain.Stands x (Driver (Synced_cpu m) ∷ acts) d q → buffers.Stands x.per_page (Driver (Synced_cpu m) ∷ acts) places
      → Tells heard (lift Driver (on_mapping acts number synccpu_turn)) (λ more. Stands x (more ++ acts) (record k { domain = d; buffers = places }) q)
  fetched heard m d places q e way h memory kept = tells_by (fetch_is m true e way) refl h (record {
    domain = memory;
    buffers = kept;
    inside = stay_inside acts (Driver (Synced_cpu m) ∷ acts) (live_mappings acts) (λ b size e. e) s.inside;
  })

  -- its range isn't refused
  pub mapping_allowed : (m : Streaming) → mapping_of k.domain number ≡ Some m → range_refusal (buffer_len acts m.want.buffer) m.want.offset m.want.len ≡ None
  mapping_allowed m e =
      let h = lies m e in
      let some = h.some in
      let within = h.within in
      let both : (nat_lt 0 m.want.len && nat_le (m.want.offset + m.want.len) h.size) ≡ true = grind (arith, nat_tests) in
      ap (λ o. range_refusal o m.want.offset m.want.len) h.there ∙ ap (λ t. given_if (not t) Inval) both

-- ---- what the code finds

-- what is told of a mapping is that of a live one
pub info_live : (o : Option Streaming) (i : MapInfo) → option_map map_info o ≡ Some i → (m : Streaming) × (o ≡ Some m) × (m.want ≡ i.want)
info_live None i e = cc
info_live (Some m) i e = (let same : map_info m ≡ i = cc in (m, refl, ap (λ (k : MapInfo). k.want) same))

there_of : (o : Option (List ℕ)) (n : ℕ) → option_map length o ≡ Some n → (bytes : List ℕ) × (o ≡ Some bytes) × (length bytes ≡ n)
there_of None n e = cc
there_of (Some bytes) n e = (let same : length bytes ≡ n = cc in (bytes, refl, same))

-- a live mapping's buffer is there, and long enough
pub room_of : (x : Setting) (acts : List Act) (k : Memory) (p : Pool) (s : Stands x acts k p) (number : ℕ) (m : Streaming) → mapping_of k.domain number ≡ Some m
    → (bytes : List ℕ) × (place_of k.buffers m.want.buffer ≡ Some bytes) × (m.want.offset + m.want.len ≤ length bytes)
room_of x acts k p s number m e =
    let inside = lies x acts k p s number m e in
    let found = there_of (place_of k.buffers m.want.buffer) inside.size (s.buffers.lens m.want.buffer ∙ inside.there) in
    let within = inside.within in
    (found.0, found.1, omega (arith, found.2))

pub map_refused : (x : Setting) (acts : List Act) (k : Memory) (p : Pool) (s : Stands x acts k p) (heard : Answer → Type 0) (want : Want) (errno : Errno) → range_refusal (buffer_len acts want.buffer) want.offset want.len ≡ Some errno
    → heard (answer.Err errno) → Tells heard (lift Driver (map_turn x acts want)) (λ more. Stands x (more ++ acts) k p)
unfolding slot_of
map_refused x acts k p s heard want errno e h =
    tells_by (ap (λ o. lift Driver (refuse o (option_map_or (map_at acts want) (slot_of (taken_slots acts) (pages_of want.len) x.per_page x.bounce) (refusal_turn Nospc)))) e) refl h s

pub way_is : (t : Bool) → ((t ≡ false) → ⊥) → t ≡ true
way_is true never = refl
way_is false never = absurd (never refl)
