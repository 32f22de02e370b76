-- A request came from one submit.
use Rattle.std.proofs.Common.{◌≡◌, ℕ, suc, ◌+◌, ◌<◌, ◌≤◌, Bool, true, false, refl, ap, subst, ◌∙◌, sym, arith, Option, None, Some, List, [], ◌∷◌, ◌++◌, length, take, map, append_assoc, if◌then◌else◌}
use Rattle.std.proofs.lemmas.List.{length-append, length-map, append_cancel_right}
use Rattle.vd_model.specs.declared.memory.Dir.TheVariants.{To, From}
use Rattle.vd_model.specs.declared.memory.Want.{Want}
use Rattle.vd_model.specs.declared.parts.Part.{Part}
use Rattle.vd_model.specs.Acts.{Act, Driver, AddedChain, Request, Streaming, Buffer, Zeroed, Mapped}
use Rattle.vd_model.specs.Live.{buffers}
use Rattle.vd_model.specs.RingTurns.{AskedRequest, header_and_status, given_want, part_wants, table_wants, parts_count, mapping_part, buffer_acts, map_acts, table_bytes, writable_of}
use Rattle.vd_ring_bytes.proofs.RequestSource.{Comes}

-- ---- lists of acts

more_buffers : (new acts : List Act) → buffers acts ≤ buffers (new ++ acts)
more_buffers [] acts = omega arith
more_buffers (Driver (Buffer bytes) ∷ new) acts = let l = more_buffers new acts in omega arith
more_buffers (Driver (Zeroed len) ∷ new) acts = let l = more_buffers new acts in omega arith
more_buffers (_ ∷ new) acts = more_buffers new acts

pub record AtOne (s t : List Act) (a b : List ℕ) (o p : List Act) : Type 0 where
  pub since : s ≡ t
  pub bytes : a ≡ b
  pub older : o ≡ p

-- a buffer's number tells its act
at_buffer : (s t : List Act) (a b : List ℕ) (o p : List Act) → s ++ Driver (Buffer a) ∷ o ≡ t ++ Driver (Buffer b) ∷ p → buffers o ≡ buffers p → AtOne s t a b o p
at_buffer [] [] a b o p e n = (
    let first : Driver (Buffer a) ≡ Driver (Buffer b) = cc in
    let bytes : a ≡ b = cc in
    let older : o ≡ p = cc in
    record { since = refl; bytes = bytes; older = older })
at_buffer [] (y ∷ t) a b o p e n =
    let tail : o ≡ t ++ Driver (Buffer b) ∷ p = cc in
    let same : buffers o ≡ buffers (t ++ Driver (Buffer b) ∷ p) = ap buffers tail in
    let l = more_buffers t (Driver (Buffer b) ∷ p) in
    let up : buffers (Driver (Buffer b) ∷ p) ≡ buffers p + 1 = refl in
    absurd (omega arith)
at_buffer (x ∷ s) [] a b o p e n =
    let tail : s ++ Driver (Buffer a) ∷ o ≡ p = cc in
    let same : buffers (s ++ Driver (Buffer a) ∷ o) ≡ buffers p = ap buffers tail in
    let l = more_buffers s (Driver (Buffer a) ∷ o) in
    let up : buffers (Driver (Buffer a) ∷ o) ≡ buffers o + 1 = refl in
    absurd (omega arith)
at_buffer (x ∷ s) (y ∷ t) a b o p e n =
    let first : x ≡ y = cc in
    let tail : s ++ Driver (Buffer a) ∷ o ≡ t ++ Driver (Buffer b) ∷ p = cc in
    let r = at_buffer s t a b o p tail n in
    record { since = ap (λ z. z ∷ s) first ∙ ap (λ l. y ∷ l) r.since; bytes = r.bytes; older = r.older }

-- of two equal lists the ends of one length are equal
ends_same : (s t m n : List Act) → s ++ m ≡ t ++ n → length m ≡ length n → m ≡ n
ends_same [] [] m n e l = e
ends_same [] (y ∷ t) m n e l =
    let k : length m ≡ length (y ∷ t ++ n) = ap length e in
    let j : length (t ++ n) ≡ length t + length n = length-append t n in
    absurd (omega arith)
ends_same (x ∷ s) [] m n e l =
    let k : length (x ∷ s ++ m) ≡ length n = ap length e in
    let j : length (s ++ m) ≡ length s + length m = length-append s m in
    absurd (omega arith)
ends_same (x ∷ s) (y ∷ t) m n e l = ends_same s t m n (let tail : s ++ m ≡ t ++ n = cc in tail) l

last_same : (s t : List Act) (a b : Act) → s ++ a ∷ [] ≡ t ++ b ∷ [] → s ≡ t
last_same s t a b e =
    let end : a ∷ [] ≡ b ∷ [] = ends_same s t (a ∷ []) (b ∷ []) e refl in
    let is : a ≡ b = cc in
    append_cancel_right s t (a ∷ []) (e ∙ ap (λ z. t ++ z ∷ []) (sym is))

map_length : (ms : List Streaming) → length (map_acts ms) ≡ length ms
map_length [] = refl
map_length (m ∷ ms) = length-append (map_acts ms) (Driver (Mapped m) ∷ []) ∙ (ap (λ n. n + 1) (map_length ms) ∙ (let e : length ms + 1 ≡ suc (length ms) = omega arith in e))

maps_same : (ms ns : List Streaming) → map_acts ms ≡ map_acts ns → length ms ≡ length ns → ms ≡ ns
maps_same [] [] e l = refl
maps_same [] (n ∷ ns) e l = absurd (omega arith)
maps_same (m ∷ ms) [] e l = absurd (omega arith)
maps_same (m ∷ ms) (n ∷ ns) e l =
    let end : Driver (Mapped m) ∷ [] ≡ Driver (Mapped n) ∷ [] = ends_same (map_acts ms) (map_acts ns) (Driver (Mapped m) ∷ []) (Driver (Mapped n) ∷ []) e refl in
    let is : m ≡ n = cc in
    ap (λ k. k ∷ ms) is ∙ ap (λ l. n ∷ l) (maps_same ms ns (last_same (map_acts ms) (map_acts ns) (Driver (Mapped m)) (Driver (Mapped n)) e) (omega arith))

-- ---- one request

-- the acts after the header's buffer
abbrev tail_of : Bool → List Act → List Streaming → List Part → List Act
tail_of indirect since ms parts = since ++ (map_acts ms ++ (if indirect then Driver (Buffer (table_bytes 0 parts)) ∷ [] else []))

split_is : (indirect : Bool) (since : List Act) (ms : List Streaming) (a : AskedRequest) (parts : List Part) (done : List Act)
    → since ++ (map_acts ms ++ (buffer_acts indirect a parts ++ done)) ≡ tail_of indirect since ms parts ++ Driver (Buffer (header_and_status a)) ∷ done
split_is true since ms a parts done =
    let t = Driver (Buffer (table_bytes 0 parts)) in
    let h = Driver (Buffer (header_and_status a)) in
    ap (λ l. since ++ l) (sym (append_assoc (map_acts ms) (t ∷ []) (h ∷ done))) ∙ sym (append_assoc since (map_acts ms ++ t ∷ []) (h ∷ done))
split_is false since ms a parts done =
    let h = Driver (Buffer (header_and_status a)) in
    ap (λ l. since ++ l) (sym (append_assoc (map_acts ms) [] (h ∷ done))) ∙ sym (append_assoc since (map_acts ms ++ []) (h ∷ done))

ms_same : (b c : Bool) → b ≡ c → (s t : List Act) (ms ns : List Streaming) (p r : List Part) → tail_of b s ms p ≡ tail_of c t ns r → length ms ≡ length ns → ms ≡ ns
ms_same b c e s t ms ns p r h l = by b c e h where
  lengths : length (map_acts ms) ≡ length (map_acts ns)
  lengths = map_length ms ∙ (l ∙ sym (map_length ns))

  by : (b c : Bool) → b ≡ c → tail_of b s ms p ≡ tail_of c t ns r → ms ≡ ns
  by true true e h =
      let u : Act = Driver (Buffer (table_bytes 0 p)) in
      let v : Act = Driver (Buffer (table_bytes 0 r)) in
      maps_same ms ns (ends_same s t (map_acts ms) (map_acts ns) (last_same (s ++ map_acts ms) (t ++ map_acts ns) u v (append_assoc s (map_acts ms) (u ∷ []) ∙ (h ∙ sym (append_assoc t (map_acts ns) (v ∷ []))))) lengths) l
  by false false e h =
      let k = ends_same s t (map_acts ms ++ []) (map_acts ns ++ []) h (length-append (map_acts ms) [] ∙ (ap (λ n. n + 0) lengths ∙ sym (length-append (map_acts ns) []))) in
      maps_same ms ns (append_cancel_right (map_acts ms) (map_acts ns) [] k) l
  by true false e h = cc
  by false true e h = cc

abbrev buffers_made : Bool → ℕ
buffers_made b = if b then 2 else 1

two_or_one : (b c : Bool) → buffers_made b ≡ buffers_made c → b ≡ c
two_or_one true true e = refl
two_or_one false false e = refl
two_or_one true false e = absurd (omega arith)
two_or_one false true e = absurd (omega arith)

-- the wants tell the range
range_same : (n : ℕ) (o p : Option Want) (t u : List Want) → ((w : Want) → o ≡ Some w → w.buffer < n) → ((w : Want) → p ≡ Some w → w.buffer < n)
    → (record { buffer = n; offset = 0; len = 16; dir = To } ∷ given_want o ++ record { buffer = n; offset = 16; len = 1; dir = From } ∷ []) ++ t ≡ (record { buffer = n; offset = 0; len = 16; dir = To } ∷ given_want p ++ record { buffer = n; offset = 16; len = 1; dir = From } ∷ []) ++ u → o ≡ p
range_same n None None t u lo lp e = refl
range_same n (Some w) (Some v) t u lo lp e = let is : w ≡ v = cc in ap (λ w. Some w) is
range_same n None (Some v) t u lo lp e = absurd (let is : record { buffer = n; offset = 16; len = 1; dir = From } ≡ v = cc in let b : n ≡ v.buffer = ap (λ w. w.buffer) is in let l = lp v refl in omega arith)
range_same n (Some w) None t u lo lp e = absurd (let is : w ≡ record { buffer = n; offset = 16; len = 1; dir = From } = cc in let b : w.buffer ≡ n = ap (λ w. w.buffer) is in let l = lo w refl in omega arith)

abbrev request_of : Bool → List Streaming → AskedRequest → List Act → Request
request_of indirect ms a done = record { buffer = buffers done; buffers = (if indirect then 2 else 1); maps = map (λ m. m.number) ms; writable = writable_of (map mapping_part (take (parts_count a) ms)) }

pub record SameRequest (ms ns : List Streaming) (a b : AskedRequest) (done old : List Act) : Type 0 where
  pub mappings : ms ≡ ns
  pub older : done ≡ old
  pub header : header_and_status a ≡ header_and_status b
  pub want : a.want ≡ b.want

pub same_request : (acts : List Act) (c : AddedChain) (ms ns : List Streaming) (a b : AskedRequest) (done old : List Act) → Comes acts c ms a done → Comes acts c ns b old → SameRequest ms ns a b done old
same_request acts c ms ns a b done old f g =
    let requests : request_of f.indirect ms a done ≡ request_of g.indirect ns b old = some_same (request_of f.indirect ms a done) (request_of g.indirect ns b old) (sym f.is ∙ g.is) in
    let number : buffers done ≡ buffers old = ap (λ (r : Request). r.buffer) requests in
    let count : buffers_made f.indirect ≡ buffers_made g.indirect = ap (λ (r : Request). r.buffers) requests in
    let lengths : length ms ≡ length ns = sym (length-map ms (λ m. m.number)) ∙ (ap (λ (r : Request). length r.maps) requests ∙ length-map ns (λ m. m.number)) in
    let p = map mapping_part (take (parts_count a) ms) in
    let r = map mapping_part (take (parts_count b) ns) in
    let whole : tail_of f.indirect f.since ms p ++ Driver (Buffer (header_and_status a)) ∷ done ≡ tail_of g.indirect g.since ns r ++ Driver (Buffer (header_and_status b)) ∷ old =
    sym (split_is f.indirect f.since ms a p done) ∙ (sym f.split ∙ (g.split ∙ split_is g.indirect g.since ns b r old)) in
    let at = at_buffer (tail_of f.indirect f.since ms p) (tail_of g.indirect g.since ns r) (header_and_status a) (header_and_status b) done old whole number in
    let is = ms_same f.indirect g.indirect (two_or_one f.indirect g.indirect count) f.since g.since ms ns p r at.since lengths in
    record {
      mappings = is;
      older = at.older;
      header = at.bytes;
      want = range_same (buffers old) a.want b.want (table_wants f.indirect (buffers done) a) (table_wants g.indirect (buffers old) b) (subst (λ n. (w : Want) → a.want ≡ Some w → w.buffer < n) number f.low) g.low
          (subst (λ n. part_wants n a ++ table_wants f.indirect (buffers done) a ≡ part_wants (buffers old) b ++ table_wants g.indirect (buffers old) b) number
          (sym f.wants ∙ (ap (map (λ m. m.want)) is ∙ g.wants)));
    } where
      some_same : (r s : Request) → Some r ≡ Some s → r ≡ s
      some_same r s e = cc
