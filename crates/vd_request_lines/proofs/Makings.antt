-- The buffers of a request are made, and lie beside those that are there.
use Rattle.std.proofs.Common.{◌≡◌, ℕ, zero, suc, ◌+◌, ◌-◌, ◌<◌, ◌≤◌, Bool, true, false, cond, refl, ap, subst, ◌∙◌, sym, arith, None, Some, Option, List, [], ◌∷◌, ◌++◌, ◌==◌, length, take, true≢false}
use Rattle.std.specs.Prelude.{nat_le, IfSome}
use Rattle.std.specs.Option.{option_map_or}
use Rattle.std.proofs.lemmas.Bool.Decides.{nat_tests}
use Rattle.vd_pool.specs.Memory.{PoolMemory as Pool}
use Rattle.vd_model.specs.declared.memory.Want.{Want}
use Rattle.vd_model.specs.Setting.{Setting}
use Rattle.vd_model.specs.Acts.{Act, Driver, Buffer, Zeroed}
use Rattle.vd_model.specs.Live.{live_mappings, buffers, buffer_len}
use Rattle.vd_model.specs.RingTurns.{AskedRequest, part_wants, table_wants, table_len, made_len, header_and_status}
use Rattle.vd_buffers.specs.Places.{Places, len_of, total_of}
use Rattle.vd_buffers.specs.Stands as buffers
use Rattle.vd_memory_lines.specs.declared.memory.Memory.{Memory}
use Rattle.vd_memory_lines.specs.Stands.{Stands}
use Rattle.vd_memory_lines.proofs.Parts.{stay_inside, buffers_act}
use Rattle.vd_queue_sides.proofs.Daemons.{itself}
use Rattle.blk_proto.specs.Headers.{header_bytes}
use Rattle.blk_driver.specs.Asked.{asked_in, front_bytes}
use Rattle.blk_driver.specs.Buffers.{has_range}
use Rattle.blk_driver.specs.Mapped.{AreThere}
use Rattle.blk_driver.specs.declared.ask.Ask.{Ask}
use Rattle.blk_driver.proofs.Fronts.{front_len}
use Rattle.vd_request_acts.proofs.Back.{back_front}
use Rattle.vd_request_lines.specs.Submitting.{made_acts, made_count}

-- the front of a request is its header and its status byte
pub front_is : (ask : Ask) → front_bytes ask 0 ≡ header_and_status (asked_in ask)
unfolding header_bytes
front_is ask = refl

-- a buffer that is there was made
there_below : (places : Places) (b size : ℕ) → len_of places b ≡ Some size → b < length places
there_below [] b size e = cc
there_below (p ∷ ps) zero size e = omega arith
there_below (p ∷ ps) (suc b) size e = let below = there_below ps b size e in omega arith

module _ (x : Setting) (acts : List Act) (k : Memory) (m : Pool) (s : Stands x acts k m) where
  pub is_below : (b size : ℕ) → buffer_len acts b ≡ Some size → b < buffers acts
  is_below b size e = subst (λ n. b < n) s.buffers.count (there_below k.buffers b size (s.buffers.lens b ∙ e))

  is_other : (b size : ℕ) → buffer_len acts b ≡ Some size → (b == buffers acts) ≡ false
  is_other b size e = (let below = is_below b size e in grind (arith, nat_tests))

  pub bytes_made : (bytes : List ℕ) (new : Places) → buffers.Stands x.per_page (Driver (Buffer bytes) ∷ acts) new → Stands x (Driver (Buffer bytes) ∷ acts) (record k { buffers = new }) m
  bytes_made bytes new made =
      buffers_act x acts k m s (Driver (Buffer bytes)) new refl refl made
      (stay_inside acts (Driver (Buffer bytes) ∷ acts) (live_mappings acts) (λ b size e. ap (λ t. cond t (Some (length bytes)) (buffer_len acts b)) (is_other b size e) ∙ e) s.inside)

  pub zeros_made : (len : ℕ) (new : Places) → buffers.Stands x.per_page (Driver (Zeroed len) ∷ acts) new → Stands x (Driver (Zeroed len) ∷ acts) (record k { buffers = new }) m
  zeros_made len new made =
      buffers_act x acts k m s (Driver (Zeroed len)) new refl refl made
      (stay_inside acts (Driver (Zeroed len) ∷ acts) (live_mappings acts) (λ b size e. ap (λ t. cond t (Some len) (buffer_len acts b)) (is_other b size e) ∙ e) s.inside)

-- ---- lengths

-- those of other buffers stay
lens_front : (ask : Ask) (acts : List Act) (b size : ℕ) → b < buffers acts → buffer_len acts b ≡ Some size → buffer_len (made_acts false ask ++ acts) b ≡ Some size
lens_front ask acts b size below e =
    let off : (b == buffers acts) ≡ false = grind (arith, nat_tests) in
    ap (λ t. cond t (Some (length (front_bytes ask 0))) (buffer_len acts b)) off ∙ e

pub lens_stay : (i : Bool) (ask : Ask) (acts : List Act) (b size : ℕ) → b < buffers acts → buffer_len acts b ≡ Some size → buffer_len (made_acts i ask ++ acts) b ≡ Some size
lens_stay false ask acts b size below e = lens_front ask acts b size below e
lens_stay true ask acts b size below e =
    let off : (b == buffers acts + 1) ≡ false = grind (arith, nat_tests) in
    ap (λ t. cond t (Some (table_len (asked_in ask))) (buffer_len (made_acts false ask ++ acts) b)) off ∙ lens_front ask acts b size below e

front_first : (ask : Ask) (acts : List Act) → buffer_len (made_acts false ask ++ acts) (buffers acts) ≡ Some 17
front_first ask acts =
    ap (λ t. cond t (Some (length (front_bytes ask 0))) (buffer_len acts (buffers acts))) (itself (buffers acts)) ∙ ap Some (front_len ask 0)

pub front_there : (i : Bool) (ask : Ask) (acts : List Act) → buffer_len (made_acts i ask ++ acts) (buffers acts) ≡ Some 17
front_there false ask acts = front_first ask acts
front_there true ask acts =
    let off : (buffers acts == buffers acts + 1) ≡ false = grind (arith, nat_tests) in
    ap (λ t. cond t (Some (table_len (asked_in ask))) (buffer_len (made_acts false ask ++ acts) (buffers acts))) off ∙ front_first ask acts

pub table_there : (ask : Ask) (acts : List Act) → buffer_len (made_acts true ask ++ acts) (buffers acts + 1) ≡ Some (table_len (asked_in ask))
table_there ask acts = ap (λ t. cond t (Some (table_len (asked_in ask))) (buffer_len (made_acts false ask ++ acts) (buffers acts + 1))) (itself (buffers acts + 1))

-- a range within a buffer of this length
ranged : (acts : List Act) (b offset len size : ℕ) → buffer_len acts b ≡ Some size → offset + len ≤ size → has_range acts b offset len ≡ true
ranged acts b offset len size e fits =
    ap (λ o. option_map_or (λ size. nat_le (offset + len) size) o false) e ∙ (let within : nat_le (offset + len) size ≡ true = grind (arith, nat_tests) in within)

pub record SizeOf (acts : List Act) (b : ℕ) : Type 0 where
  pub size : ℕ
  pub is : buffer_len acts b ≡ Some size

pub size_of : (acts : List Act) (b offset len : ℕ) → has_range acts b offset len ≡ true → SizeOf acts b
size_of acts b offset len e = by (buffer_len acts b) refl e where
  by : (o : Option ℕ) → buffer_len acts b ≡ o → option_map_or (λ size. nat_le (offset + len) size) o false ≡ true → SizeOf acts b
  by None f e = absurd (true≢false (sym e))
  by (Some size) f e = record { size = size; is = f }

range_stays : (acts more : List Act) (b offset len : ℕ) → ((size : ℕ) → buffer_len acts b ≡ Some size → buffer_len more b ≡ Some size) → has_range acts b offset len ≡ true → has_range more b offset len ≡ true
range_stays acts more b offset len stay e =
    let s = size_of acts b offset len e in
    ap (λ o. option_map_or (λ size. nat_le (offset + len) size) o false) (stay s.size s.is ∙ sym s.is) ∙ e

there_of : (i : Bool) (acts : List Act) (b : ℕ) (a : AskedRequest) (want : Option Want) → has_range acts b 0 16 ≡ true → has_range acts b 16 1 ≡ true
    → IfSome want (λ w. has_range acts w.buffer w.offset w.len ≡ true) → (i ≡ true → has_range acts (b + 1) 0 (table_len (record a { want = want })) ≡ true)
    → AreThere acts (part_wants b (record a { want = want }) ++ table_wants i b (record a { want = want }))
there_of false acts b a None header status given table = (header, (status, tt))
there_of false acts b a (Some w) header status given table = (header, (given, (status, tt)))
there_of true acts b a None header status given table = (header, (status, (table refl, tt)))
there_of true acts b a (Some w) header status given table = (header, (given, (status, (table refl, tt))))

-- all that a request maps is there once its buffers are made
pub all_there : (x : Setting) (acts : List Act) (k : Memory) (m : Pool) → Stands x acts k m → (i : Bool) (ask : Ask) → IfSome (asked_in ask).want (λ w. has_range acts w.buffer w.offset w.len ≡ true)
    → AreThere (made_acts i ask ++ acts) (part_wants (buffers acts) (asked_in ask) ++ table_wants i (buffers acts) (asked_in ask))
all_there x acts k m s i ask given =
    there_of i (made_acts i ask ++ acts) (buffers acts) (asked_in ask) (asked_in ask).want
    (ranged (made_acts i ask ++ acts) (buffers acts) 0 16 17 (front_there i ask acts) (omega arith))
    (ranged (made_acts i ask ++ acts) (buffers acts) 16 1 17 (front_there i ask acts) (omega arith))
    (by (asked_in ask).want given) (table i) where
      by : (want : Option Want) → IfSome want (λ w. has_range acts w.buffer w.offset w.len ≡ true) → IfSome want (λ w. has_range (made_acts i ask ++ acts) w.buffer w.offset w.len ≡ true)
      by None given = tt
      by (Some w) given = range_stays acts (made_acts i ask ++ acts) w.buffer w.offset w.len (λ size e. lens_stay i ask acts w.buffer size (is_below x acts k m s w.buffer size e) e) given

      table : (i : Bool) → i ≡ true → has_range (made_acts i ask ++ acts) (buffers acts + 1) 0 (table_len (asked_in ask)) ≡ true
      table false e = absurd (true≢false (sym e))
      table true e = ranged (made_acts true ask ++ acts) (buffers acts + 1) 0 (table_len (asked_in ask)) (table_len (asked_in ask)) (table_there ask acts) (omega arith)

pub front_ranged : (i : Bool) (ask : Ask) (acts : List Act) → has_range (made_acts i ask ++ acts) (buffers acts) 0 17 ≡ true
front_ranged i ask acts = ranged (made_acts i ask ++ acts) (buffers acts) 0 17 17 (front_there i ask acts) (omega arith)

-- an act that is none on buffers leaves what is there
pub there_after : (acts more : List Act) (ws : List Want) → ((b : ℕ) → buffer_len more b ≡ buffer_len acts b) → AreThere acts ws → AreThere more ws
there_after acts more [] same there = tt
there_after acts more (w ∷ ws) same there =
    (ap (λ o. option_map_or (λ size. nat_le (w.offset + w.len) size) o false) (same w.buffer) ∙ there.0, there_after acts more ws same there.1)

-- how much is made
pub made_more : (i : Bool) (ask : Ask) (acts : List Act) → buffers (made_acts i ask ++ acts) ≡ buffers acts + made_count i
made_more false ask acts = refl
made_more true ask acts = omega arith

module _ (x : Setting) (acts : List Act) (k : Memory) (m : Pool) (s : Stands x acts k m) (ask : Ask) where
  -- the first buffer, and then both
  pub front_made : (bytes : List ℕ) → bytes ≡ front_bytes ask 0 → (new : Places) → buffers.Stands x.per_page (Driver (Buffer bytes) ∷ acts) new
      → Stands x (made_acts false ask ++ acts) (record k { buffers = new }) m
  front_made bytes e new made = subst (λ (l : List ℕ). Stands x (Driver (Buffer l) ∷ acts) (record k { buffers = new }) m) e (bytes_made x acts k m s bytes new made)

  pub both_made : (bytes : List ℕ) → bytes ≡ front_bytes ask 0 → (first new : Places) → buffers.Stands x.per_page (Driver (Buffer bytes) ∷ acts) first → (len : ℕ) → len ≡ table_len (asked_in ask)
      → ((g : ℕ) (acts : List Act) → buffers.Stands g acts first → buffers.Stands g (Driver (Zeroed len) ∷ acts) new) → Stands x (made_acts true ask ++ acts) (record k { buffers = new }) m
  both_made bytes e first new made len f more =
      let front = front_made bytes e first made in
      subst (λ n. Stands x (Driver (Zeroed n) ∷ made_acts false ask ++ acts) (record k { buffers = new }) m) f
      (zeros_made x (made_acts false ask ++ acts) (record k { buffers = first }) m front len new (more x.per_page (made_acts false ask ++ acts) front.buffers))

  -- the first is taken back
  pub front_back : (bytes : List ℕ) → bytes ≡ front_bytes ask 0 → (first : Places) → buffers.Stands x.per_page (Driver (Buffer bytes) ∷ acts) first
      → (new : Places) → new ≡ take (length first - 1) first → Stands x acts (record k { buffers = new }) m
  front_back bytes e first made new back =
      let count : length first ≡ buffers acts + 1 = made.count in
      let less : length first - 1 ≡ buffers acts = omega (arith, count) in
      subst (λ (p : Places). Stands x acts (record k { buffers = p }) m) (sym (back ∙ ap (λ n. take n first) less))
      (back_front x acts bytes (record k { buffers = first }) m s.inside (bytes_made x acts k m s bytes first made))

-- what the first buffer leaves of the room
pub room_left : (g : ℕ) (acts : List Act) (places first : Places) (bytes : List ℕ) (ask : Ask) (limit len : ℕ) → buffers.Stands g acts places → buffers.Stands g (Driver (Buffer bytes) ∷ acts) first
    → bytes ≡ front_bytes ask 0 → len ≡ table_len (asked_in ask) → total_of places + made_len true (asked_in ask) ≤ limit → total_of first + len ≤ limit
room_left g acts places first bytes ask limit len s t e f room =
    let before = s.total in
    let after = t.total in
    let size : length bytes ≡ 17 = ap length e ∙ front_len ask 0 in
    omega (arith, before, after, size, f, room)
