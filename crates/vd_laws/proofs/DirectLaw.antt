-- What is marked is as in the direct machine.
use Rattle.std.proofs.Common.{◌≡◌, ℕ, ◌+◌, ◌-◌, ◌/◌, ◌<◌, ◌≤◌, Bool, true, false, refl, ap, subst, ◌∙◌, sym, arith, Option, None, Some, cond, List, [], ◌∷◌, ◌==◌, ◌&&◌, not, nat_lt, unwrap_or, true≢false, if◌then◌else◌, length, is_some, ◌⊎◌, inl, inr}
use Rattle.std.specs.Option.{option_map, option_and_then}
use Rattle.std.specs.List.{filter}
use Rattle.std.proofs.lemmas.Bool.Decides.{nat_tests}
use Rattle.std.proofs.lemmas.Bool.{and_parts, and_from, eqb-true, eq-eqb, ne_eqb}
use Rattle.vd_num.specs.Number.{is_within}
use Rattle.vd_model.specs.declared.memory.Origin.{Origin}
use Rattle.vd_model.specs.declared.memory.Origin.TheVariants.{Daemon, Handed}
use Rattle.vd_model.specs.Setting.{Setting}
use Rattle.vd_model.specs.Acts.{Act, NodeAct, Node, Driver, Streaming, Buffer, Zeroed, Poked, Mapped, Unmapped, Synced_device, Synced_cpu}
use Rattle.vd_model.specs.Live.{buffers, registration_of, live_mappings, iova_of, maps_address, page_of, meets_page, is_present}
use Rattle.vd_model.specs.Puts.{Cell, Ram, Put, byte_in, text_at, zero_if, put_if, put_or, or_put, handed_put, handed_put_if, is_to_device, is_from_device, home_cell, last_put, shown_put, ram}
use Rattle.vd_model.specs.Direct.{daemon_writes, brings_back, address_for, reaches, higher, highest, mapping_through, direct_put, direct_byte, Known, Told, mark_if, told_after, is_marked}
use Rattle.vd_model.specs.History.{History}
use Rattle.vd_laws.specs.Among.{Among}
use Rattle.vd_laws.specs.Runs.{acts_of, IsAddressed}
use Rattle.vd_laws.specs.DirectLaw.{DirectLaw}
use Rattle.vd_laws.proofs.Lists.{pushed, filtered}
use Rattle.vd_laws.proofs.Legal.{IsFresh, Admits, Legal}
use Rattle.vd_laws.proofs.Sound.{Sound, sound}
use Rattle.vd_laws.proofs.Ranges.{is_in, in_range}
use Rattle.vd_laws.proofs.Pages.{on_slot}
use Rattle.vd_laws.proofs.Shown.{by_address, arrives, stays}
use Rattle.vd_laws.proofs.Texts.{text_there, text_absent}
use Rattle.vd_laws.proofs.Turns.{acts_of_device_legal}
use Rattle.vd_laws.proofs.MemoryLaw.{moment_legal}
use Rattle.vd_laws.proofs.Coherence.{region_store}
use Rattle.vd_laws.proofs.Loads.{loaded_byte}

-- what the marks say of some acts
record IsDirect (g : ℕ) (acts : List Act) : Type 0 where
  known : (k i : ℕ) → is_marked acts (Known k i) ≡ true → ram g acts k i ≡ direct_byte acts k i
  told : (m : Streaming) → Among m (live_mappings acts) → (i : ℕ) → i < m.want.len → is_marked acts (Told m i) ≡ true → (shown_put g acts (iova_of m + i)).byte ≡ direct_byte acts m.want.buffer (m.want.offset + i)

-- the mapping through which a write goes is one that it reaches
highest_among : (i : ℕ) (ms : List Streaming) (l : Streaming) → highest i ms ≡ Some l → Among l ms
highest_among i [] l e = cc
highest_among i (m ∷ ms) l e = by (highest i ms) refl e (λ n f. highest_among i ms n f) where
  pick : (n : Streaming) (b : Bool) → highest i ms ≡ Some n → (if b then n else m) ≡ l → ((n : Streaming) → highest i ms ≡ Some n → Among n ms) → (l ≡ m) ⊎ Among l ms
  pick n true f g later = inr (subst (λ n. Among n ms) g (later n f))
  pick n false f g later = inl (sym g)

  by : (o : Option Streaming) → highest i ms ≡ o → Some (higher i m o) ≡ Some l → ((n : Streaming) → highest i ms ≡ Some n → Among n ms) → (l ≡ m) ⊎ Among l ms
  by None f g later = let same : m ≡ l = cc in inl (sym same)
  by (Some n) f g later = let same : higher i m (Some n) ≡ l = cc in pick n (nat_lt (address_for m i) (address_for n i)) f same later

mapping_through_reaches : (acts : List Act) (act : Act) (k i : ℕ) (l : Streaming) → mapping_through acts act k i ≡ Some l → Among l (live_mappings acts) × (reaches acts act k i l ≡ true)
mapping_through_reaches acts act k i l e = filtered (reaches acts act k i) l (live_mappings acts) (highest_among i (filter (reaches acts act k i) (live_mappings acts)) l e)

-- a text that is put in both machines
agree_text : (bytes : List ℕ) (at i : ℕ) (origin : Origin) (before : Cell → Put) (cell : Cell) (v : ℕ) (mark : Bool) → unwrap_or (mark_if (is_within at (length bytes) i) true) mark ≡ true
    → (mark ≡ true → (before cell).byte ≡ v) → (put_or (text_at bytes at i origin) before cell).byte ≡ unwrap_or (byte_in bytes at i) v
agree_text bytes at i origin before cell v mark m same = by (byte_in bytes at i) refl where
  by : (o : Option ℕ) → byte_in bytes at i ≡ o → (put_or (option_map (λ b. record { byte = b; origin = origin }) o) before cell).byte ≡ unwrap_or o v
  by (Some b) e = refl
  by None e = same (ap (λ b. unwrap_or (mark_if b true) mark) (sym (text_there bytes at i e)) ∙ m)

from_zero : (n i : ℕ) → is_within 0 n i ≡ nat_lt i n
from_zero n i = grind (arith, nat_tests)

never : {P : Type 0} → false ≡ true → P
never e = absurd (true≢false (sym e))

module _ (x : Setting) (small : IsAddressed x) (acts : List Act) (s : Sound x acts) (d : IsDirect x.per_page acts) where
  -- a live mapping's bytes are at its addresses
  its : (m : Streaming) (i : ℕ) → i < m.want.len → maps_address m (iova_of m + i) ≡ true
  its m i h = in_range (iova_of m) m.want.len (iova_of m + i) (omega arith) (omega arith)

  -- where nothing arrives and no value is put, a live mapping's byte stays
  kept : (act : Act) → Admits x acts act → (m : Streaming) → Among m (live_mappings acts) → (i : ℕ) → i < m.want.len → is_marked acts (Told m i) ≡ true
      → arrives x.per_page acts act (iova_of m + i) ≡ None → direct_put acts act m.want.buffer (m.want.offset + i) ≡ None
      → (shown_put x.per_page (act ∷ acts) (iova_of m + i)).byte ≡ direct_byte (act ∷ acts) m.want.buffer (m.want.offset + i)
  kept act h m there i below mark none same =
      ap (λ p. p.byte) (stays x acts m (iova_of m + i) s there (its m i below) small act h)
      ∙ ap (λ o. (unwrap_or o (shown_put x.per_page acts (iova_of m + i))).byte) none
      ∙ d.told m there i below mark
      ∙ sym (ap (λ o. unwrap_or o (direct_byte acts m.want.buffer (m.want.offset + i))) same)

  -- what carries over where an act puts no value
  carries : (act : Act) → Admits x acts act → ((m : Streaming) → Among m (live_mappings (act ∷ acts)) → Among m (live_mappings acts))
      → ((m : Streaming) (i : ℕ) → is_marked (act ∷ acts) (Told m i) ≡ is_marked acts (Told m i)) → ((a : ℕ) → arrives x.per_page acts act a ≡ None)
      → ((k i : ℕ) → direct_put acts act k i ≡ None)
      → (m : Streaming) → Among m (live_mappings (act ∷ acts)) → (i : ℕ) → i < m.want.len → is_marked (act ∷ acts) (Told m i) ≡ true
      → (shown_put x.per_page (act ∷ acts) (iova_of m + i)).byte ≡ direct_byte (act ∷ acts) m.want.buffer (m.want.offset + i)
  carries act h fewer same none quiet m there i below mark = kept act h m (fewer m there) i below (sym (same m i) ∙ mark) (none (iova_of m + i)) (quiet m.want.buffer (m.want.offset + i))

  buffer_direct : (bytes : List ℕ) → IsDirect x.per_page (Driver (Buffer bytes) ∷ acts)
  buffer_direct bytes = record {
    known = λ k i mark. by k i (k == buffers acts) mark;
    told = λ m there i below mark. kept (Driver (Buffer bytes)) tt m there i below mark refl
        (ap (λ b. cond b (byte_in bytes 0 (m.want.offset + i)) None) (ne_eqb m.want.buffer (buffers acts) (λ e. let low = s.buffers_there m there in omega arith)));
  } where
    by : (k i : ℕ) (b : Bool) → unwrap_or (cond b (mark_if (nat_lt i (length bytes)) true) None) (is_marked acts (Known k i)) ≡ true
        → (put_or (cond b (text_at bytes 0 i (Handed None)) None) (last_put x.per_page acts) (Ram k i)).byte ≡ unwrap_or (cond b (byte_in bytes 0 i) None) (direct_byte acts k i)
    by k i true mark = agree_text bytes 0 i (Handed None) (last_put x.per_page acts) (Ram k i) (direct_byte acts k i) (is_marked acts (Known k i))
        (ap (λ b. unwrap_or (mark_if b true) (is_marked acts (Known k i))) (from_zero (length bytes) i) ∙ mark) (d.known k i)
    by k i false mark = d.known k i mark

  zeroed_direct : (len : ℕ) → IsDirect x.per_page (Driver (Zeroed len) ∷ acts)
  zeroed_direct len = record {
    known = λ k i mark. by k i ((k == buffers acts) && nat_lt i len) mark;
    told = λ m there i below mark. kept (Driver (Zeroed len)) tt m there i below mark refl
        (ap (λ b. cond (b && nat_lt (m.want.offset + i) len) (Some 0) None) (ne_eqb m.want.buffer (buffers acts) (λ e. let low = s.buffers_there m there in omega arith)));
  } where
    by : (k i : ℕ) (b : Bool) → unwrap_or (mark_if b true) (is_marked acts (Known k i)) ≡ true
        → (put_or (zero_if b) (last_put x.per_page acts) (Ram k i)).byte ≡ unwrap_or (cond b (Some 0) None) (direct_byte acts k i)
    by k i true mark = refl
    by k i false mark = d.known k i mark

  poked_direct : (buffer at : ℕ) (bytes : List ℕ) → IsDirect x.per_page (Driver (Poked buffer at bytes) ∷ acts)
  poked_direct buffer at bytes = record {
    known = λ k i mark. by k i (k == buffer) mark;
    told = λ m there i below mark. told m there i below (m.want.buffer == buffer) refl (is_within at (length bytes) (m.want.offset + i)) refl mark;
  } where
    by : (k i : ℕ) (b : Bool) → unwrap_or (cond b (mark_if (is_within at (length bytes) i) true) None) (is_marked acts (Known k i)) ≡ true
        → (put_or (cond b (text_at bytes at i (Handed None)) None) (last_put x.per_page acts) (Ram k i)).byte ≡ unwrap_or (cond b (byte_in bytes at i) None) (direct_byte acts k i)
    by k i true mark = agree_text bytes at i (Handed None) (last_put x.per_page acts) (Ram k i) (direct_byte acts k i) (is_marked acts (Known k i)) mark (d.known k i)
    by k i false mark = d.known k i mark

    told : (m : Streaming) → Among m (live_mappings acts) → (i : ℕ) → i < m.want.len → (b : Bool) → (m.want.buffer == buffer) ≡ b → (c : Bool) → is_within at (length bytes) (m.want.offset + i) ≡ c
        → unwrap_or (cond b (mark_if c false) None) (is_marked acts (Told m i)) ≡ true
        → (shown_put x.per_page (Driver (Poked buffer at bytes) ∷ acts) (iova_of m + i)).byte ≡ direct_byte (Driver (Poked buffer at bytes) ∷ acts) m.want.buffer (m.want.offset + i)
    told m there i below true e true f mark = never mark
    told m there i below true e false f mark = kept (Driver (Poked buffer at bytes)) tt m there i below mark refl
        (ap (λ b. cond b (byte_in bytes at (m.want.offset + i)) None) e ∙ text_absent bytes at (m.want.offset + i) f)
    told m there i below false e c f mark = kept (Driver (Poked buffer at bytes)) tt m there i below mark refl
        (ap (λ b. cond b (byte_in bytes at (m.want.offset + i)) None) e)

  -- what a copy to the buffer gives
  fetched_known : (n : Streaming) → Among n (live_mappings acts) → (k i : ℕ) (b : Bool) → brings_back n k i ≡ b → unwrap_or (mark_if b (is_marked acts (Told n (i - n.want.offset)))) (is_marked acts (Known k i)) ≡ true
      → (put_or (put_if b (last_put x.per_page acts) (home_cell (registration_of acts) (iova_of n + (i - n.want.offset)))) (last_put x.per_page acts) (Ram k i)).byte ≡ direct_byte acts k i
  fetched_known n there k i false e mark = d.known k i mark
  fetched_known n there k i true e mark =
      let p = and_parts (is_from_device n.want.dir && (k == n.want.buffer)) (is_within n.want.offset n.want.len i) e in
      let q = and_parts (is_from_device n.want.dir) (k == n.want.buffer) p.0 in
      let r = is_in n.want.offset n.want.len i p.1 in
      let low : n.want.offset ≤ i = r.0 in
      let high : i < n.want.offset + n.want.len = r.1 in
      let same_buffer : k ≡ n.want.buffer = eqb-true k n.want.buffer q.1 in
      let same_place : n.want.offset + (i - n.want.offset) ≡ i = omega arith in
      d.told n there (i - n.want.offset) (omega arith) mark ∙ ap (λ j. direct_byte acts n.want.buffer j) same_place ∙ ap (λ b. direct_byte acts b i) (sym same_buffer)

  unmapped_direct : (n : Streaming) → Among n (live_mappings acts) → IsDirect x.per_page (Driver (Unmapped n) ∷ acts)
  unmapped_direct n h = record {
    known = λ k i mark. fetched_known n h k i (brings_back n k i) refl mark;
    told = carries (Driver (Unmapped n)) h (λ m k. (filtered (λ l. not (l.number == n.number)) m (live_mappings acts) k).0) (λ m i. refl) (λ a. refl) (λ k i. refl);
  }

  synced_cpu_direct : (n : Streaming) → (h : Admits x acts (Driver (Synced_cpu n))) → IsDirect x.per_page (Driver (Synced_cpu n) ∷ acts)
  synced_cpu_direct n h = record {
    known = λ k i mark. fetched_known n h.0 k i (brings_back n k i) refl mark;
    told = carries (Driver (Synced_cpu n)) h (λ m k. k) (λ m i. refl) (λ a. refl) (λ k i. refl);
  }

  -- what is handed at byte i of a mapping
  handed_put_is : (n : Streaming) (i : ℕ) → (handed_put (last_put x.per_page acts) n (iova_of n + i)).byte ≡ ram x.per_page acts n.want.buffer (n.want.offset + i)
  handed_put_is n i = let e : iova_of n + i - iova_of n ≡ i = omega arith in ap (λ j. ram x.per_page acts n.want.buffer (n.want.offset + j)) e

  synced_dev_direct : (n : Streaming) → (h : Admits x acts (Driver (Synced_device n))) → IsDirect x.per_page (Driver (Synced_device n) ∷ acts)
  synced_dev_direct n h = record {
    known = d.known;
    told = λ m there i below mark. by m there i below (n.number == m.number) refl (maps_address n (iova_of m + i)) refl mark;
  } where
    by : (m : Streaming) → Among m (live_mappings acts) → (i : ℕ) → i < m.want.len → (b : Bool) → (n.number == m.number) ≡ b → (c : Bool) → maps_address n (iova_of m + i) ≡ c
        → unwrap_or (mark_if b (is_marked acts (Known n.want.buffer (n.want.offset + i)))) (is_marked acts (Told m i)) ≡ true
        → (shown_put x.per_page (Driver (Synced_device n) ∷ acts) (iova_of m + i)).byte ≡ direct_byte acts m.want.buffer (m.want.offset + i)
    by m there i below true e c f mark =
        let is : n ≡ m = s.same n m h.0 there (eqb-true n.number m.number e) in
        subst (λ l. (shown_put x.per_page (Driver (Synced_device n) ∷ acts) (iova_of l + i)).byte ≡ direct_byte acts l.want.buffer (l.want.offset + i)) is
        (ap (λ p. p.byte) (stays x acts n (iova_of n + i) s h.0 (its n i (subst (λ l. i < l.want.len) (sym is) below)) small (Driver (Synced_device n)) h)
        ∙ ap (λ b. (unwrap_or (handed_put_if b (last_put x.per_page acts) n (iova_of n + i)) (shown_put x.per_page acts (iova_of n + i))).byte) (its n i (subst (λ l. i < l.want.len) (sym is) below))
        ∙ handed_put_is n i ∙ d.known n.want.buffer (n.want.offset + i) mark)
    by m there i below false e true f mark =
        let is : n ≡ m = s.one n m h.0 there ((iova_of m + i) / 4096) (on_slot n (iova_of m + i) f) (on_slot m (iova_of m + i) (its m i below)) in
        absurd (true≢false (sym (eq-eqb n.number m.number (ap (λ l. l.number) is)) ∙ e))
    by m there i below false e false f mark = kept (Driver (Synced_device n)) h m there i below mark (ap (λ b. handed_put_if b (last_put x.per_page acts) n (iova_of m + i)) f) refl

  mapped_direct : (n : Streaming) → IsFresh x acts n → IsDirect x.per_page (Driver (Mapped n) ∷ acts)
  mapped_direct n h = record {
    known = d.known;
    told = λ m there i below mark. either m (pushed m n (live_mappings acts) there) i below mark;
  } where
    new : (i : ℕ) → i < n.want.len → (b : Bool) → is_to_device n.want.dir ≡ b → b && is_marked acts (Known n.want.buffer (n.want.offset + i)) ≡ true
        → (shown_put x.per_page (Driver (Mapped n) ∷ acts) (iova_of n + i)).byte ≡ direct_byte acts n.want.buffer (n.want.offset + i)
    new i below false e mark = never mark
    new i below true e mark =
        ap (λ p. p.byte) (by_address x.per_page acts (Driver (Mapped n)) (iova_of n + i) refl (λ b. refl) (λ p. refl))
        ∙ ap (λ b. (unwrap_or (or_put (handed_put_if b (last_put x.per_page acts) n (iova_of n + i)) (zero_if (meets_page x.per_page (page_of x.per_page (iova_of n + i)) n && not (is_present x.per_page acts (page_of x.per_page (iova_of n + i)))))) (shown_put x.per_page acts (iova_of n + i))).byte)
        (and_from (is_to_device n.want.dir) (maps_address n (iova_of n + i)) e (its n i below))
        ∙ handed_put_is n i ∙ d.known n.want.buffer (n.want.offset + i) mark

    mark_is : (i : ℕ) → unwrap_or (mark_if (n.number == n.number) (is_to_device n.want.dir && is_marked acts (Known n.want.buffer (n.want.offset + i)))) (is_marked acts (Told n i)) ≡ true
        → is_to_device n.want.dir && is_marked acts (Known n.want.buffer (n.want.offset + i)) ≡ true
    mark_is i mark = sym (ap (λ b. unwrap_or (mark_if b (is_to_device n.want.dir && is_marked acts (Known n.want.buffer (n.want.offset + i)))) (is_marked acts (Told n i))) (eq-eqb n.number n.number refl)) ∙ mark

    either : (m : Streaming) → Among m (live_mappings acts) ⊎ (m ≡ n) → (i : ℕ) → i < m.want.len
        → unwrap_or (mark_if (n.number == m.number) (is_to_device n.want.dir && is_marked acts (Known n.want.buffer (n.want.offset + i)))) (is_marked acts (Told m i)) ≡ true
        → (shown_put x.per_page (Driver (Mapped n) ∷ acts) (iova_of m + i)).byte ≡ direct_byte acts m.want.buffer (m.want.offset + i)
    either m (inl there) i below mark =
        let other : (n.number == m.number) ≡ false = ne_eqb n.number m.number (λ e. let low = s.numbers m there in let fresh = h.number in omega arith) in
        kept (Driver (Mapped n)) h m there i below (sym (ap (λ b. unwrap_or (mark_if b (is_to_device n.want.dir && is_marked acts (Known n.want.buffer (n.want.offset + i)))) (is_marked acts (Told m i))) other) ∙ mark) refl refl
    either m (inr is) i below mark =
        subst (λ l. (shown_put x.per_page (Driver (Mapped n) ∷ acts) (iova_of l + i)).byte ≡ direct_byte acts l.want.buffer (l.want.offset + i)) (sym is)
        (new i (subst (λ l. i < l.want.len) is below) (is_to_device n.want.dir) refl
        (mark_is i (subst (λ l. unwrap_or (mark_if (n.number == l.number) (is_to_device n.want.dir && is_marked acts (Known n.want.buffer (n.want.offset + i)))) (is_marked acts (Told l i)) ≡ true) is mark)))

  -- any act of the daemon's node
  node_direct : (act : NodeAct) → Admits x acts (Node act) → IsDirect x.per_page (Node act ∷ acts)
  node_direct act h = record {
    known = λ k i mark. known k i (mapping_through acts (Node act) k i) mark;
    told = λ m there i below mark. told m there i below (mapping_through acts (Node act) m.want.buffer (m.want.offset + i)) refl (daemon_writes acts (Node act) (iova_of m + i)) refl mark;
  } where
    known : (k i : ℕ) (o : Option Streaming) → unwrap_or (mark_if (is_some o) false) (is_marked acts (Known k i)) ≡ true
        → ram x.per_page acts k i ≡ unwrap_or (option_and_then (λ m. daemon_writes acts (Node act) (address_for m i)) o) (direct_byte acts k i)
    known k i None mark = d.known k i mark
    known k i (Some m) mark = never mark

    told : (m : Streaming) → Among m (live_mappings acts) → (i : ℕ) → i < m.want.len → (o : Option Streaming) → mapping_through acts (Node act) m.want.buffer (m.want.offset + i) ≡ o
        → (w : Option ℕ) → daemon_writes acts (Node act) (iova_of m + i) ≡ w → unwrap_or (told_after o w m) (is_marked acts (Told m i)) ≡ true
        → (shown_put x.per_page (Node act ∷ acts) (iova_of m + i)).byte ≡ direct_byte (Node act ∷ acts) m.want.buffer (m.want.offset + i)
    told m there i below None e (Some b) f mark = never mark
    told m there i below None e None f mark = kept (Node act) h m there i below mark
        (ap (option_map (λ b. record { byte = b; origin = Daemon })) f) (ap (option_and_then (λ l. daemon_writes acts (Node act) (address_for l (m.want.offset + i)))) e)
    told m there i below (Some l) e w f mark =
        let through_it = mapping_through_reaches acts (Node act) m.want.buffer (m.want.offset + i) l e in
        let live_too : Among l (live_mappings acts) = through_it.0 in
        let is : l ≡ m = s.same l m live_too there (eqb-true l.number m.number mark) in
        let hit : is_some (daemon_writes acts (Node act) (address_for l (m.want.offset + i))) ≡ true = (and_parts (brings_back l m.want.buffer (m.want.offset + i)) (is_some (daemon_writes acts (Node act) (address_for l (m.want.offset + i)))) through_it.1).1 in
        let place : iova_of m + (m.want.offset + i - m.want.offset) ≡ iova_of m + i = (let k : m.want.offset + i - m.want.offset ≡ i = omega arith in ap (λ j. iova_of m + j) k) in
        let same : daemon_writes acts (Node act) (address_for l (m.want.offset + i)) ≡ w = ap (λ n. daemon_writes acts (Node act) (address_for n (m.want.offset + i))) is ∙ ap (daemon_writes acts (Node act)) place ∙ f in
        ap (λ p. p.byte) (stays x acts m (iova_of m + i) s there (its m i below) small (Node act) h)
        ∙ ap (λ o. (unwrap_or (option_map (λ b. record { byte = b; origin = Daemon }) o) (shown_put x.per_page acts (iova_of m + i))).byte) f
        ∙ same_byte w (ap is_some (sym same) ∙ hit)
        ∙ sym (ap (λ o. unwrap_or o (direct_byte acts m.want.buffer (m.want.offset + i))) (ap (option_and_then (λ n. daemon_writes acts (Node act) (address_for n (m.want.offset + i)))) e ∙ same))
      where
        same_byte : (o : Option ℕ) → is_some o ≡ true → (unwrap_or (option_map (λ b. record { byte = b; origin = Daemon }) o) (shown_put x.per_page acts (iova_of m + i))).byte ≡ unwrap_or o (direct_byte acts m.want.buffer (m.want.offset + i))
        same_byte (Some b) g = refl
        same_byte None g = never g

  -- an act that neither machine knows
  other_direct : (act : Act) → Admits x acts act → ((m : Streaming) → Among m (live_mappings (act ∷ acts)) → Among m (live_mappings acts))
      → ((m : Streaming) (i : ℕ) → is_marked (act ∷ acts) (Told m i) ≡ is_marked acts (Told m i)) → ((a : ℕ) → arrives x.per_page acts act a ≡ None) → ((k i : ℕ) → direct_put acts act k i ≡ None)
      → ((k i : ℕ) → is_marked (act ∷ acts) (Known k i) ≡ is_marked acts (Known k i)) → ((k i : ℕ) → ram x.per_page (act ∷ acts) k i ≡ ram x.per_page acts k i) → IsDirect x.per_page (act ∷ acts)
  other_direct act h fewer same none quiet marks bytes = record {
    known = λ k i mark. bytes k i ∙ d.known k i (sym (marks k i) ∙ mark) ∙ sym (ap (λ o. unwrap_or o (direct_byte acts k i)) (quiet k i));
    told = carries act h fewer same none quiet;
  }

  next_direct : (act : Act) → Admits x acts act → IsDirect x.per_page (act ∷ acts)
  next_direct (Driver (Buffer bytes)) h = buffer_direct bytes
  next_direct (Driver (Zeroed len)) h = zeroed_direct len
  next_direct (Driver (Poked buffer at bytes)) h = poked_direct buffer at bytes
  next_direct (Driver (Mapped n)) h = mapped_direct n h
  next_direct (Driver (Unmapped n)) h = unmapped_direct n h
  next_direct (Driver (Synced_device n)) h = synced_dev_direct n h
  next_direct (Driver (Synced_cpu n)) h = synced_cpu_direct n h
  next_direct (Node act) h = node_direct act h
  next_direct act h = other_direct act h (λ m k. k) (λ m i. refl) (λ a. refl) (λ k i. refl) (λ k i. refl) (λ k i. refl)

directs : (x : Setting) → IsAddressed x → (acts : List Act) → Legal x acts → IsDirect x.per_page acts
directs x small [] h = record { known = λ k i mark. never mark; told = λ m there i below mark. absurd there }
directs x small (act ∷ acts) h = next_direct x small acts (sound x acts h.1) (directs x small acts h.1) act h.0

pub direct_law : (x : Setting) (h : History) → DirectLaw x h
direct_law x h = record {
  known = λ small d acts at k i mark. (directs x small acts (moment_legal x h d acts at)).known k i mark;
  told = λ small d acts at m there i below mark. (directs x small acts (moment_legal x h d acts at)).told m there i below mark;
  loaded = λ small d at len failed bytes said m there i j below inside same mark.
      loaded_byte x h d at len failed bytes said j inside ∙ ap (λ a. (shown_put x.per_page (acts_of x h d) a).byte) same
      ∙ (directs x small (acts_of x h d) (acts_of_device_legal x h d)).told m there i below mark;
  coherent = λ whole d acts at r there a here. region_store x whole acts (moment_legal x h d acts at) r there a here;
}
