-- Where a request came from: what was asked, the acts before it, and the bytes that the device reads of it.
use Rattle.std.proofs.Common.{◌≡◌, ℕ, zero, suc, ◌+◌, ◌^◌, ◌<◌, Bool, true, false, refl, ap, subst, ◌∙◌, sym, arith, Option, None, Some, List, [], ◌∷◌, ◌++◌, take, map, append_assoc, if◌then◌else◌, ◌⊎◌, inl, inr}
use Rattle.std.proofs.lemmas.Bool.{ne_eqb}
use Rattle.std.proofs.lemmas.List.{append-nil}
use Rattle.std.proofs.lemmas.List.Sums.{sum_by-cons}
use Rattle.vd_model.specs.declared.memory.Dir.{Dir}
use Rattle.vd_model.specs.declared.memory.Dir.TheVariants.{To, From, Both}
use Rattle.vd_model.specs.declared.memory.Want.{Want}
use Rattle.vd_model.specs.declared.memory.Origin.TheVariants.{Handed}
use Rattle.vd_model.specs.declared.parts.Part.{Part}
use Rattle.vd_model.specs.declared.step.SubmitForm.{SubmitForm}
use Rattle.vd_model.specs.declared.step.SubmitForm.TheVariants as form
use Rattle.vd_model.specs.Setting.{Setting}
use Rattle.vd_model.specs.Acts.{Act, Driver, AddedChain, Streaming, Buffer}
use Rattle.vd_model.specs.Live.{buffers, live_mappings}
use Rattle.vd_model.specs.Raw.{little_bytes}
use Rattle.vd_model.specs.Puts.{Ram, text_at, put_or, last_put, ram, ram_bytes, each_from, is_from_device}
use Rattle.vd_model.specs.Trace.{writable_len}
use Rattle.vd_model.specs.Block.{Block, block_of}
use Rattle.vd_model.specs.DaemonTurns.{Hand}
use Rattle.vd_model.specs.RingTurns.{AskedRequest, asked_by, header_and_status, parts_count, given_want, part_wants, table_wants, mapping_part, table_bytes, buffer_acts, map_acts, writable_of}
use Rattle.vd_laws.specs.Among.{Among}
use Rattle.vd_ring_laws.specs.DiskRequest.{given_bytes, answer_len}
use Rattle.vd_laws.proofs.Lists.{among_map}
use Rattle.vd_laws.proofs.Legal.{maps_of}
use Rattle.vd_ring_bytes.proofs.Numbers.{same_number}
use Rattle.vd_ring_bytes.proofs.BlockAnswers.{header_back}
use Rattle.vd_ring_bytes.proofs.Wants.{map_take, first_wants}

-- the range goes to the device or comes from it
abbrev pub IsOneWay : Option Want → Type 0
IsOneWay o = (w : Want) → o ≡ Some w → (w.dir ≡ To) ⊎ (w.dir ≡ From)

pub one_way : (form : SubmitForm) → IsOneWay (asked_by form).want
one_way (form.Read sector buffer offset len) w e = inr (let is : record { buffer = buffer; offset = offset; len = len; dir = From } ≡ w = cc in sym (ap (λ (w : Want). w.dir) is))
one_way (form.Write sector buffer offset len) w e = inl (let is : record { buffer = buffer; offset = offset; len = len; dir = To } ≡ w = cc in sym (ap (λ (w : Want). w.dir) is))
one_way form.Flush w e = cc
one_way (form.Id buffer offset) w e = inr (let is : record { buffer = buffer; offset = offset; len = 20; dir = From } ≡ w = cc in sym (ap (λ (w : Want). w.dir) is))

-- a request's buffers and mappings were made one after another, for what was asked
pub record Comes (acts : List Act) (c : AddedChain) (ms : List Streaming) (a : AskedRequest) (done : List Act) : Type 0 where
  pub indirect : Bool
  pub since : List Act
  pub split : acts ≡ since ++ (map_acts ms ++ (buffer_acts indirect a (map mapping_part (take (parts_count a) ms)) ++ done))
  pub is : c.request ≡ Some (record { buffer = buffers done; buffers = (if indirect then 2 else 1); maps = map (λ m. m.number) ms; writable = writable_of (map mapping_part (take (parts_count a) ms)) })
  pub wants : map (λ m. m.want) ms ≡ part_wants (buffers done) a ++ table_wants indirect (buffers done) a
  pub ways : IsOneWay a.want
  pub low : (w : Want) → a.want ≡ Some w → w.buffer < buffers done

pub comes_still : (new acts : List Act) (c : AddedChain) (ms : List Streaming) (a : AskedRequest) (done : List Act) → Comes acts c ms a done → Comes (new ++ acts) c ms a done
comes_still new acts c ms a done h = record {
  indirect = h.indirect;
  since = new ++ h.since;
  split = ap (λ l. new ++ l) h.split ∙ sym (append_assoc new h.since (map_acts ms ++ (buffer_acts h.indirect a (map mapping_part (take (parts_count a) ms)) ++ done)));
  is = h.is;
  wants = h.wants;
  ways = h.ways;
  low = h.low;
}

-- its mappings
pub comes_own : (acts : List Act) (c : AddedChain) (ms : List Streaming) (a : AskedRequest) (done : List Act) → Comes acts c ms a done → (m : Streaming) → Among m ms → Among m.number (maps_of c.request)
comes_own acts c ms a done h m i = subst (λ o. Among m.number (maps_of o)) (sym h.is) (among_map (λ m. m.number) m ms i)

-- the wants of its parts
pub own_wants : (acts : List Act) (c : AddedChain) (ms : List Streaming) (a : AskedRequest) (done : List Act) → Comes acts c ms a done → map (λ m. m.want) (take (parts_count a) ms) ≡ part_wants (buffers done) a
own_wants acts c ms a done h = map_take (λ m. m.want) (parts_count a) ms ∙ (ap (take (parts_count a)) h.wants ∙ first_wants h.indirect (buffers done) a)

-- ---- the bytes that the device reads

-- the sixteen bytes of a header
abbrev pub header_of : AskedRequest → List ℕ
header_of a = little_bytes 4 a.kind ++ little_bytes 4 0 ++ little_bytes 8 a.sector

-- the bytes of some mappings, but of those that the device writes
abbrev pub read_bytes : (Streaming → List ℕ) → List Streaming → List ℕ
read_bytes read [] = []
read_bytes read (m ∷ ms) = if is_from_device m.want.dir then read_bytes read ms else read m ++ read_bytes read ms

abbrev wants_bytes : (Want → List ℕ) → List Want → List ℕ
wants_bytes f [] = []
wants_bytes f (w ∷ ws) = if is_from_device w.dir then wants_bytes f ws else f w ++ wants_bytes f ws

by_wants : (f : Want → List ℕ) (ms : List Streaming) → read_bytes (λ m. f m.want) ms ≡ wants_bytes f (map (λ m. m.want) ms)
by_wants f [] = refl
by_wants f (m ∷ ms) = ap (λ l. if is_from_device m.want.dir then l else f m.want ++ l) (by_wants f ms)

pub each_same : (f g : ℕ → ℕ) (from len : ℕ) → ((i : ℕ) → f i ≡ g i) → each_from f from len ≡ each_from g from len
each_same f g from zero h = refl
each_same f g from (suc len) h = ap (λ b. b ∷ each_from f (from + 1) len) (h from) ∙ ap (λ l. g from ∷ l) (each_same f g (from + 1) len h)

module _ (g : ℕ) (a : AskedRequest) (parts : List Part) (done : List Act) where
  -- the new buffers leave the others
  one_other : (bytes : List ℕ) (acts : List Act) (k i : ℕ) → (k ≡ buffers acts → ⊥) → ram g (Driver (Buffer bytes) ∷ acts) k i ≡ ram g acts k i
  one_other bytes acts k i other = ap (λ b. (put_or (if b then text_at bytes 0 i (Handed None) else None) (last_put g acts) (Ram k i)).byte) (ne_eqb k (buffers acts) other)

  older : (indirect : Bool) (k i : ℕ) → k < buffers done → ram g (buffer_acts indirect a parts ++ done) k i ≡ ram g done k i
  older true k i low =
      one_other (table_bytes 0 parts) (Driver (Buffer (header_and_status a)) ∷ done) k i (λ e. (let f : k ≡ buffers done + 1 = e in omega arith))
      ∙ one_other (header_and_status a) done k i (λ e. omega arith)
  older false k i low = one_other (header_and_status a) done k i (λ e. omega arith)

  -- the header is the first of them
  first_header : ram_bytes g (Driver (Buffer (header_and_status a)) ∷ done) (buffers done) 0 16 ≡ header_of a
  first_header = ap (λ b. each_from (λ i. (put_or (if b then text_at (header_and_status a) 0 i (Handed None) else None) (last_put g done) (Ram (buffers done) i)).byte) 0 16) (same_number (buffers done))

  its_header : (indirect : Bool) → ram_bytes g (buffer_acts indirect a parts ++ done) (buffers done) 0 16 ≡ header_of a
  its_header true =
      each_same (λ i. ram g (buffer_acts true a parts ++ done) (buffers done) i) (λ i. ram g (Driver (Buffer (header_and_status a)) ∷ done) (buffers done) i) 0 16
      (λ i. one_other (table_bytes 0 parts) (Driver (Buffer (header_and_status a)) ∷ done) (buffers done) i (λ e. (let f : buffers done ≡ buffers done + 1 = e in omega arith)))
      ∙ first_header
  its_header false = first_header

-- what the mappings of a request that was just made hand to the device: its header, and the bytes of its range
pub told_bytes : (g : ℕ) (a : AskedRequest) (parts : List Part) (done : List Act) (indirect : Bool) (x : Setting) → x.per_page ≡ g → ((w : Want) → a.want ≡ Some w → w.buffer < buffers done)
    → (ms : List Streaming) → map (λ m. m.want) ms ≡ part_wants (buffers done) a
    → read_bytes (λ m. ram_bytes g (buffer_acts indirect a parts ++ done) m.want.buffer m.want.offset m.want.len) ms ≡ header_of a ++ given_bytes x done a.want
told_bytes g a parts done indirect x same low ms e =
    by_wants f ms ∙ (ap (wants_bytes f) e ∙ (by a.want low ∙ ap (λ l. l ++ given_bytes x done a.want) (its_header g a parts done indirect))) where
      f : Want → List ℕ
      f w = ram_bytes g (buffer_acts indirect a parts ++ done) w.buffer w.offset w.len

      range : (w : Want) → w.buffer < buffers done → (d : Dir) → w.dir ≡ d → wants_bytes f (w ∷ record { buffer = buffers done; offset = 16; len = 1; dir = From } ∷ []) ≡ given_bytes x done (Some w)
      range w l To k = rw (k, same) (append-nil (each_from (λ i. ram g (buffer_acts indirect a parts ++ done) w.buffer i) w.offset w.len) ∙ each_same (λ i. ram g (buffer_acts indirect a parts ++ done) w.buffer i) (λ i. ram g done w.buffer i) w.offset w.len (λ i. older g a parts done indirect w.buffer i l))
      range w l From k = rw k refl
      range w l Both k = rw k refl

      by : (o : Option Want) → ((w : Want) → o ≡ Some w → w.buffer < buffers done) → wants_bytes f (record { buffer = buffers done; offset = 0; len = 16; dir = To } ∷ given_want o ++ record { buffer = buffers done; offset = 16; len = 1; dir = From } ∷ [])
          ≡ ram_bytes g (buffer_acts indirect a parts ++ done) (buffers done) 0 16 ++ given_bytes x done o
      by None l = refl
      by (Some w) l = ap (λ l. f (record { buffer = buffers done; offset = 0; len = 16; dir = To }) ++ l) (range w (l w refl) w.dir refl)

-- ---- how many bytes the device writes

wants_writable : List Want → ℕ
wants_writable [] = 0
wants_writable (w ∷ ws) = (if is_from_device w.dir then w.len else 0) + wants_writable ws

writable_is : (ms : List Streaming) → writable_of (map mapping_part ms) ≡ wants_writable (map (λ m. m.want) ms)
unfolding wants_writable
writable_is [] = refl
writable_is (m ∷ ms) = ap (λ n. (if is_from_device m.want.dir then m.want.len else 0) + n) (writable_is ms)

pub len_is_of : (parts : List Part) → writable_len parts ≡ writable_of parts
len_is_of [] = refl
len_is_of (p ∷ parts) = sum_by-cons (λ (q : Part). if q.writable then q.len else 0) p parts ∙ ap (λ n. (if p.writable then p.len else 0) + n) (len_is_of parts)

zero_plus : (n : ℕ) → 0 + n ≡ n
zero_plus n = omega arith

-- of the parts of a request the device writes the range, where it comes from the device, and the status
pub answers_are : (n : ℕ) (a : AskedRequest) (ms : List Streaming) → IsOneWay a.want → map (λ m. m.want) ms ≡ part_wants n a → writable_of (map mapping_part ms) ≡ answer_len a.want
unfolding wants_writable
answers_are n a ms ways e = writable_is ms ∙ (ap wants_writable e ∙ by a.want ways) where
  range : (w : Want) → (w.dir ≡ To) ⊎ (w.dir ≡ From) → wants_writable (w ∷ record { buffer = n; offset = 16; len = 1; dir = From } ∷ []) ≡ answer_len (Some w)
  range w (inl k) = rw k refl
  range w (inr k) = rw k refl

  by : (o : Option Want) → IsOneWay o → wants_writable (record { buffer = n; offset = 0; len = 16; dir = To } ∷ given_want o ++ record { buffer = n; offset = 16; len = 1; dir = From } ∷ []) ≡ answer_len o
  by None h = refl
  by (Some w) h = zero_plus (wants_writable (w ∷ record { buffer = n; offset = 16; len = 1; dir = From } ∷ [])) ∙ range w (h w refl)

-- ---- the request of the disk

-- what was asked, with the bytes that it gives after some acts
abbrev pub block_asked : Setting → List Act → AskedRequest → Block
block_asked x done a = record { kind = a.kind; sector = a.sector; payload = given_bytes x done a.want; writable = answer_len a.want }

-- a request in hand is one that was asked: the device read its header and its bytes, and may write as many as it answers
pub record Given (x : Setting) (acts : List Act) (c : AddedChain) (h : Hand) : Type 0 where
  pub ms : List Streaming
  pub asked : AskedRequest
  pub done : List Act
  pub comes : Comes acts c ms asked done
  pub alive : (m : Streaming) → Among m ms → Among m (live_mappings acts)
  pub parts : h.parts ≡ map mapping_part (take (parts_count asked) ms)
  pub bytes : h.bytes ≡ header_of asked ++ given_bytes x done asked.want
  pub writable : h.writable ≡ answer_len asked.want

abbrev pub given_still : (x : Setting) (new acts : List Act) (c : AddedChain) (h : Hand) → ((m : Streaming) → Among m (live_mappings acts) → Among m.number (maps_of c.request) → Among m (live_mappings (new ++ acts))) → Given x acts c h → Given x (new ++ acts) c h
given_still x new acts c h alive g = record { ms = g.ms; asked = g.asked; done = g.done; comes = comes_still new acts c g.ms g.asked g.done g.comes; alive = λ m i. alive m (g.alive m i) (comes_own acts c g.ms g.asked g.done g.comes m i); parts = g.parts; bytes = g.bytes; writable = g.writable }

-- the header that was read is that of the request
pub given_block : (x : Setting) (acts : List Act) (c : AddedChain) (h : Hand) (g : Given x acts c h) → g.asked.kind < 2 ^ 32 → g.asked.sector < 2 ^ 64 → block_of h.bytes h.writable ≡ block_asked x g.done g.asked
given_block x acts c h g k s =
    ap (λ l. block_of l h.writable) g.bytes ∙ (ap (block_of (header_of g.asked ++ given_bytes x g.done g.asked.want)) g.writable
    ∙ header_back g.asked.kind g.asked.sector (answer_len g.asked.want) (given_bytes x g.done g.asked.want) k s)
