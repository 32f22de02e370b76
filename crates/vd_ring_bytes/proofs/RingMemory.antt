-- What a calm ring has in memory, and that acts elsewhere leave it.
use Rattle.std.proofs.Common.{◌≡◌, ℕ, zero, suc, ◌+◌, ◌*◌, ◌%◌, ◌^◌, ◌<◌, ◌≤◌, Bool, true, false, refl, ap, ◌∙◌, subst, sym, arith, Some, append_assoc, if◌then◌else◌, List, [], ◌∷◌, ◌++◌, length, take, drop, map, get_or, ◌⊎◌, inl, inr}
use Rattle.vd_model.specs.declared.memory.Dir.TheVariants.{To}
use Rattle.vd_model.specs.declared.parts.Part.{Part}
use Rattle.vd_model.specs.declared.queue.RingPlace.{RingPlace}
use Rattle.vd_model.specs.Setting.{Setting, bounce_size}
use Rattle.vd_model.specs.Acts.{Act, Queue, AddedChain, Streaming, Coherent, Finished}
use Rattle.vd_model.specs.Live.{live_mappings, live_regions, region_covers, iova_of, maps_address}
use Rattle.vd_model.specs.Queues.{chains_out, reclaimed_count, in_hand, execution_of, Execution}
use Rattle.vd_model.specs.Raw.{little_bytes}
use Rattle.vd_model.specs.Trace.{total_len}
use Rattle.vd_model.specs.DaemonTurns.{hand}
use Rattle.vd_model.specs.RingTurns.{AskedRequest, descriptor_bytes, flags_of, first_of, is_out_of_order, mapping_part, parts_count}
use Rattle.vd_model.specs.Puts.{is_from_device}
use Rattle.vd_laws.specs.Among.{Among}
use Rattle.vd_laws.specs.Runs.{IsAddressed, IsWhole}
use Rattle.vd_ring_laws.specs.Heads.{placed_heads, pushed_heads}
use Rattle.vd_ring_laws.specs.DiskRequest.{given_bytes}
use Rattle.vd_laws.proofs.Legal.{maps_of, Legal}
use Rattle.vd_laws.proofs.Ranges.{in_range}
use Rattle.vd_ring_laws.specs.ChainLaw.{AreDistinct, heads}
use Rattle.vd_ring_bytes.specs.FirmLaw.{AllMiss}
use Rattle.vd_ring_bytes.specs.IndirectLaw.{indices}
use Rattle.vd_ring_bytes.proofs.StandingBytes.{Stands, stand_still}
use Rattle.vd_ring_bytes.proofs.RingLayout.{IsLaid, end_of, slot_low}
use Rattle.vd_ring_bytes.proofs.SameRing.{rings_made}
use Rattle.vd_ring_bytes.proofs.RequestSource.{Comes, comes_still, comes_own, header_of, read_bytes, Given}

-- ---- chains

-- a table has the descriptors of these parts, each but the last with the next one's index
abbrev pub Linked : Setting → List Act → ℕ → List Part → List ℕ → Type 0
Linked x acts base [] ds = ⊥
Linked x acts base (part ∷ parts) [] = ⊥
Linked x acts base (part ∷ []) (d ∷ []) = Stands x acts (base + 16 * d) (descriptor_bytes part.at part.len (flags_of false part.writable) 0)
Linked x acts base (part ∷ []) (d ∷ e ∷ ds) = ⊥
Linked x acts base (part ∷ next ∷ parts) (d ∷ []) = ⊥
Linked x acts base (part ∷ next ∷ parts) (d ∷ e ∷ ds) =
    Stands x acts (base + 16 * d) (descriptor_bytes part.at part.len (flags_of true part.writable) e) × Linked x acts base (next ∷ parts) (e ∷ ds)

-- the one descriptor of a chain names a table in a mapping that goes to the device, and the table has the parts
pub record IsNamed (x : Setting) (acts : List Act) (r : RingPlace) (c : AddedChain) (ms : List Streaming) (parts : List Part) : Type 0 where
  pub table : Streaming
  pub there : Among table ms
  pub goes : table.want.dir ≡ To
  pub len : table.want.len ≡ 16 * length parts
  pub some : 0 < length parts
  pub few : length parts ≤ 3
  pub names : Stands x acts (r.desc + 16 * c.head) (descriptor_bytes (iova_of table) table.want.len 4 0)
  pub linked : Linked x acts (iova_of table) parts (indices 0 parts)

-- a request's chain: its mappings are live, and its parts are theirs
pub record HasChain (x : Setting) (acts : List Act) (r : RingPlace) (c : AddedChain) : Type 0 where
  pub ms : List Streaming
  pub alive : (m : Streaming) → Among m ms → Among m (live_mappings acts)
  pub in_request : (m : Streaming) → Among m ms → Among m.number (maps_of c.request)
  pub parts : List Part
  pub mapped : (p : Part) → Among p parts → (m : Streaming) × Among m ms × (p ≡ mapping_part m)
  -- what was asked, and the acts before
  pub asked : AskedRequest
  pub done : List Act
  pub comes : Comes acts c ms asked done
  pub are : parts ≡ map mapping_part (take (parts_count asked) ms)
  pub ordered : is_out_of_order parts ≡ false
  pub short : total_len parts ≤ 16777216
  pub words : (p : Part) → Among p parts → (p.at < 2 ^ 64) × (p.len < 2 ^ 32)
  pub head : c.head ≡ first_of c.descriptors
  pub some : 0 < length c.descriptors
  pub distinct : AreDistinct c.descriptors
  pub low : (d : ℕ) → Among d c.descriptors → d < r.size
  pub form : Linked x acts r.desc parts c.descriptors ⊎ IsNamed x acts r c ms parts
  -- what its mappings that go to the device have
  pub read : Streaming → List ℕ
  pub full : (m : Streaming) → Among m ms → m.want.dir ≡ To → (length (read m) ≡ m.want.len) × Stands x acts (iova_of m) (read m)
  -- which are its header and the bytes of its range
  pub told : read_bytes read (take (parts_count asked) ms) ≡ header_of asked ++ given_bytes x done asked.want

abbrev pub slot_at : RingPlace → ℕ → ℕ
slot_at r k = r.driver + (4 + 2 * (k % r.size))

abbrev pub element_at : RingPlace → ℕ → ℕ
element_at r k = r.device + (4 + 8 * (k % r.size))

-- ---- answers

-- the bytes of an answer, over the mappings that the device writes
abbrev pub spread_over : List Streaming → List ℕ → List (Streaming × List ℕ)
spread_over [] bytes = []
spread_over (m ∷ ms) bytes = if is_from_device m.want.dir then (m, take m.want.len bytes) ∷ spread_over ms (drop m.want.len bytes) else spread_over ms bytes

-- what a finish answered: the request at place k of queue q was in hand, it was executed, and its used element and its mappings have the answer
pub record Answered (x : Setting) (acts : List Act) (r : RingPlace) (q made k : ℕ) (c : AddedChain) : Type 0 where
  pub since : List Act
  pub older : List Act
  pub split : acts ≡ since ++ Queue (Finished q) ∷ older
  pub place : length (pushed_heads x older q) ≡ k
  -- since that ring was made
  pub same_ring : rings_made older q ≡ made
  pub earlier : List Act
  pub taken : in_hand older q ≡ Some earlier
  pub end : Execution
  pub ended : execution_of older q ≡ Some end
  pub head : (hand x earlier q).head ≡ c.head
  pub given : Given x older c (hand x earlier q)
  pub alive : (m : Streaming) → Among m given.ms → Among m (live_mappings acts)
  pub len : Stands x acts (element_at r k) (little_bytes 4 c.head ++ little_bytes 4 (hand x earlier q).writable)
  pub shows : (p : Streaming × List ℕ) → Among p (spread_over (take (parts_count given.asked) given.ms) (end.bytes ++ end.status ∷ [])) → Stands x acts (iova_of p.0) p.1

-- ---- a ring

-- what became of a ring: the heads that were placed and pushed, the chains that are out, and how many were reclaimed
pub record Course : Type 0 where
  pub queue : ℕ
  pub made : ℕ
  pub placed : List ℕ
  pub pushed : List ℕ
  pub out : List AddedChain
  pub reclaimed : ℕ

abbrev pub course_of : Setting → List Act → ℕ → Course
course_of x acts q = record { queue = q; made = rings_made acts q; placed = placed_heads acts q; pushed = pushed_heads x acts q; out = chains_out acts q; reclaimed = reclaimed_count acts q }

-- a live region has the ring
pub record IsHeld (acts : List Act) (r : RingPlace) : Type 0 where
  pub region : Coherent
  pub there : Among region (live_regions acts)
  pub covers : (a : ℕ) → r.desc ≤ a → a < end_of r → region_covers region a ≡ true

pub record Holds (x : Setting) (acts : List Act) (r : RingPlace) (c : Course) : Type 0 where
  pub laid : IsLaid x r
  pub held : IsHeld acts r
  -- the heads that were pushed are the first ones, and of those the first ones were reclaimed
  pub rest : List ℕ
  pub first : c.placed ≡ c.pushed ++ rest
  pub back : c.reclaimed ≤ length c.pushed
  pub outs : heads c.out ≡ drop c.reclaimed c.placed
  -- the indices, the slots and the used elements
  pub index : Stands x acts (r.driver + 2) (little_bytes 2 (length c.placed))
  pub used : Stands x acts (r.device + 2) (little_bytes 2 (length c.pushed))
  pub slots : (k : ℕ) → length c.pushed ≤ k → k < length c.placed → Stands x acts (slot_at r k) (little_bytes 2 (get_or c.placed k 0))
  pub elements : (k : ℕ) → c.reclaimed ≤ k → k < length c.pushed → (len : ℕ) × Stands x acts (element_at r k) (little_bytes 4 (get_or c.placed k 0) ++ little_bytes 4 len)
  -- the chains that are out
  pub chains : (a : AddedChain) → Among a c.out → HasChain x acts r a
  -- and the answers of those that were pushed
  pub answers : (k : ℕ) → c.reclaimed ≤ k → k < length c.pushed → (a : AddedChain) → Among a c.out → a.head ≡ get_or c.placed k 0 → Answered x acts r c.queue c.made k a

pub short_take : (n : ℕ) (bytes : List ℕ) → length (take n bytes) ≤ n
short_take zero bytes = omega arith
short_take (suc n) [] = omega arith
short_take (suc n) (b ∷ bytes) = let l = short_take n bytes in omega arith

-- each piece of an answer lies in its mapping
pub spread_among : (ms : List Streaming) (bytes : List ℕ) (p : Streaming × List ℕ) → Among p (spread_over ms bytes) → Among p.0 ms × (length p.1 ≤ p.0.want.len) × (is_from_device p.0.want.dir ≡ true)
spread_among [] bytes p h = absurd h
spread_among (m ∷ ms) bytes p h = by (is_from_device m.want.dir) refl h (λ bytes i. (let r = spread_among ms bytes p i in (inr r.0, r.1, r.2))) where
  by : (b : Bool) → is_from_device m.want.dir ≡ b → Among p (if b then (m, take m.want.len bytes) ∷ spread_over ms (drop m.want.len bytes) else spread_over ms bytes)
      → ((bytes : List ℕ) → Among p (spread_over ms bytes) → Among p.0 (m ∷ ms) × (length p.1 ≤ p.0.want.len) × (is_from_device p.0.want.dir ≡ true)) → Among p.0 (m ∷ ms) × (length p.1 ≤ p.0.want.len) × (is_from_device p.0.want.dir ≡ true)
  by true e (inl is) rest = subst (λ (p : Streaming × List ℕ). Among p.0 (m ∷ ms) × (length p.1 ≤ p.0.want.len) × (is_from_device p.0.want.dir ≡ true)) (sym is) (inl refl, short_take m.want.len bytes, e)
  by true e (inr i) rest = rest (drop m.want.len bytes) i
  by false e i rest = rest bytes i

pub among_take : {X : Type 0} (n : ℕ) (m : X) (xs : List X) → Among m (take n xs) → Among m xs
among_take zero m xs h = absurd h
among_take (suc n) m [] h = absurd h
among_take (suc n) m (x ∷ xs) (inl e) = inl e
among_take (suc n) m (x ∷ xs) (inr h) = inr (among_take n m xs h)

-- ---- acts elsewhere

module _ (x : Setting) (small : IsAddressed x) (whole : IsWhole x) (new acts : List Act) (legal : Legal x (new ++ acts)) where
  -- bytes past bounce memory
  pub high_still : (at : ℕ) (bytes : List ℕ) → bounce_size x ≤ at → ((i : ℕ) → i < length bytes → AllMiss new (at + i)) → Stands x acts at bytes → Stands x (new ++ acts) at bytes
  high_still at bytes high miss stands = stand_still x small whole new acts at bytes legal miss (λ i low. inl (omega arith)) stands

  -- bytes of a live mapping
  pub map_still : (m : Streaming) → Among m (live_mappings acts) → (at : ℕ) (bytes : List ℕ) → ((i : ℕ) → i < length bytes → maps_address m (at + i) ≡ true)
      → ((i : ℕ) → i < length bytes → AllMiss new (at + i)) → Stands x acts at bytes → Stands x (new ++ acts) at bytes
  map_still m there at bytes inside miss stands = stand_still x small whole new acts at bytes legal miss (λ i low. inr (m, there, inside i low)) stands

  -- a table whose descriptors stay
  pub linked_still : (base : ℕ) (parts : List Part) (ds : List ℕ)
      → ((d : ℕ) → Among d ds → (bytes : List ℕ) → length bytes ≡ 16 → Stands x acts (base + 16 * d) bytes → Stands x (new ++ acts) (base + 16 * d) bytes)
      → Linked x acts base parts ds → Linked x (new ++ acts) base parts ds
  linked_still base [] ds stay h = h
  linked_still base (part ∷ parts) [] stay h = h
  linked_still base (part ∷ []) (d ∷ []) stay h = stay d (inl refl) (descriptor_bytes part.at part.len (flags_of false part.writable) 0) refl h
  linked_still base (part ∷ []) (d ∷ e ∷ ds) stay h = h
  linked_still base (part ∷ next ∷ parts) (d ∷ []) stay h = h
  linked_still base (part ∷ next ∷ parts) (d ∷ e ∷ ds) stay h =
      (stay d (inl refl) (descriptor_bytes part.at part.len (flags_of true part.writable) e) refl h.0, linked_still base (next ∷ parts) (e ∷ ds) (λ k i. stay k (inr i)) h.1)

  -- a chain whose descriptors stay, and whose mappings
  pub chain_still : (r : RingPlace) (c : AddedChain) → bounce_size x ≤ r.desc
      → ((d : ℕ) → Among d c.descriptors → (i : ℕ) → i < 16 → AllMiss new (r.desc + 16 * d + i))
      → ((m : Streaming) → Among m (live_mappings acts) → Among m.number (maps_of c.request) → Among m (live_mappings (new ++ acts)))
      → ((m : Streaming) → Among m (live_mappings acts) → Among m.number (maps_of c.request) → m.want.dir ≡ To → (a : ℕ) → maps_address m a ≡ true → AllMiss new a)
      → HasChain x acts r c → HasChain x (new ++ acts) r c
  chain_still r c high miss alive tables h = record {
    ms = h.ms;
    alive = λ m k. alive m (h.alive m k) (h.in_request m k);
    in_request = h.in_request;
    parts = h.parts;
    mapped = h.mapped;
    asked = h.asked;
    done = h.done;
    comes = comes_still new acts c h.ms h.asked h.done h.comes;
    are = h.are;
    told = h.told;
    ordered = h.ordered;
    short = h.short;
    words = h.words;
    head = h.head;
    some = h.some;
    distinct = h.distinct;
    low = h.low;
    form = by h.form;
    read = h.read;
    full = λ m k goes. (let f = h.full m k goes in (
      f.0,
      map_still m (h.alive m k) (iova_of m) (h.read m)
          (λ i low. in_range (iova_of m) m.want.len (iova_of m + i) (omega arith) (let e = f.0 in omega arith))
          (λ i low. tables m (h.alive m k) (h.in_request m k) goes (iova_of m + i) (in_range (iova_of m) m.want.len (iova_of m + i) (omega arith) (let e = f.0 in omega arith))) f.1,
    ));
  } where
    stay : (d : ℕ) → Among d c.descriptors → (bytes : List ℕ) → length bytes ≡ 16 → Stands x acts (r.desc + 16 * d) bytes → Stands x (new ++ acts) (r.desc + 16 * d) bytes
    stay d k bytes e stands = high_still (r.desc + 16 * d) bytes (omega arith) (λ i low. miss d k i (omega arith)) stands

    first_there : (ds : List ℕ) → 0 < length ds → Among (first_of ds) ds
    first_there [] h = absurd (omega arith)
    first_there (d ∷ ds) h = inl refl

    named : IsNamed x acts r c h.ms h.parts → IsNamed x (new ++ acts) r c h.ms h.parts
    named n = record {
      table = n.table;
      there = n.there;
      goes = n.goes;
      len = n.len;
      some = n.some;
      few = n.few;
      names = stay c.head (subst (λ d. Among d c.descriptors) (sym h.head) (first_there c.descriptors h.some)) (descriptor_bytes (iova_of n.table) n.table.want.len 4 0) refl n.names;
      linked = linked_still (iova_of n.table) h.parts (indices 0 h.parts) (λ d k bytes e stands.
          let lower : d < length h.parts = (let l = index_low 0 h.parts d k in omega arith) in
          let long = n.len in
          map_still n.table (h.alive n.table n.there) (iova_of n.table + 16 * d) bytes
          (λ i low. inside n.table d i (omega arith))
          (λ i low. tables n.table (h.alive n.table n.there) (h.in_request n.table n.there) n.goes (iova_of n.table + 16 * d + i) (inside n.table d i (omega arith))) stands) n.linked;
    } where
      index_low : (k : ℕ) (parts : List Part) (d : ℕ) → Among d (indices k parts) → d < k + length parts
      index_low k [] d h = absurd h
      index_low k (part ∷ parts) d (inl e) = omega arith
      index_low k (part ∷ parts) d (inr h) = let l = index_low (k + 1) parts d h in omega arith

      inside : (m : Streaming) (d i : ℕ) → 16 * d + i < m.want.len → maps_address m (iova_of m + 16 * d + i) ≡ true
      inside m d i low = in_range (iova_of m) m.want.len (iova_of m + 16 * d + i) (omega arith) (omega arith)

    by : Linked x acts r.desc h.parts c.descriptors ⊎ IsNamed x acts r c h.ms h.parts → Linked x (new ++ acts) r.desc h.parts c.descriptors ⊎ IsNamed x (new ++ acts) r c h.ms h.parts
    by (inl l) = inl (linked_still r.desc h.parts c.descriptors stay l)
    by (inr n) = inr (named n)

  -- an answer whose used element stays, and whose mappings
  pub answered_still : (r : RingPlace) (q made k : ℕ) (c : AddedChain) → bounce_size x ≤ element_at r k → ((i : ℕ) → i < 8 → AllMiss new (element_at r k + i))
      → ((m : Streaming) → Among m (live_mappings acts) → Among m.number (maps_of c.request) → Among m (live_mappings (new ++ acts)))
      → ((m : Streaming) → Among m (live_mappings acts) → Among m.number (maps_of c.request) → (a : ℕ) → maps_address m a ≡ true → AllMiss new a)
      → Answered x acts r q made k c → Answered x (new ++ acts) r q made k c
  answered_still r q made k c high miss alive tables h = record {
    since = new ++ h.since;
    older = h.older;
    split = ap (λ l. new ++ l) h.split ∙ sym (append_assoc new h.since (Queue (Finished q) ∷ h.older));
    place = h.place;
    same_ring = h.same_ring;
    earlier = h.earlier;
    taken = h.taken;
    end = h.end;
    ended = h.ended;
    head = h.head;
    given = h.given;
    alive = λ m i. alive m (h.alive m i) (in_request m i);
    len = high_still (element_at r k) (little_bytes 4 c.head ++ little_bytes 4 (hand x h.earlier q).writable) high (λ i lo. miss i (omega arith)) h.len;
    shows = λ p i. (
        let j = spread_among (take (parts_count h.given.asked) h.given.ms) (h.end.bytes ++ h.end.status ∷ []) p i in
        let short : length p.1 ≤ p.0.want.len = j.1 in
        let there = among_take (parts_count h.given.asked) p.0 h.given.ms j.0 in
        let here : (i : ℕ) → i < length p.1 → maps_address p.0 (iova_of p.0 + i) ≡ true = λ i lo. in_range (iova_of p.0) p.0.want.len (iova_of p.0 + i) (omega arith) (omega arith) in
        map_still p.0 (h.alive p.0 there) (iova_of p.0) p.1 here (λ i lo. tables p.0 (h.alive p.0 there) (in_request p.0 there) (iova_of p.0 + i) (here i lo)) (h.shows p i));
  } where
    in_request : (m : Streaming) → Among m h.given.ms → Among m.number (maps_of c.request)
    in_request m i = comes_own h.older c h.given.ms h.given.asked h.given.done h.given.comes m i

-- acts that leave a ring and what its requests hand to the device
pub record Weak (x : Setting) (new acts : List Act) (r : RingPlace) (chains : List AddedChain) : Type 0 where
  pub table : (a : ℕ) → r.desc ≤ a → a < r.desc + 16 * r.size → AllMiss new a
  pub driver : (a : ℕ) → r.driver + 2 ≤ a → a < r.driver + 4 + 2 * r.size → AllMiss new a
  pub device : (a : ℕ) → r.device + 2 ≤ a → a < r.device + 4 + 8 * r.size → AllMiss new a
  pub alive : (c : AddedChain) → Among c chains → (m : Streaming) → Among m (live_mappings acts) → Among m.number (maps_of c.request) → Among m (live_mappings (new ++ acts))
  pub tables : (c : AddedChain) → Among c chains → (m : Streaming) → Among m (live_mappings acts) → Among m.number (maps_of c.request) → m.want.dir ≡ To → (a : ℕ) → maps_address m a ≡ true → AllMiss new a
  pub regions : (c : Coherent) → Among c (live_regions acts) → Among c (live_regions (new ++ acts))

-- acts that leave a ring and what its requests map
pub record Spares (x : Setting) (new acts : List Act) (r : RingPlace) (chains : List AddedChain) : Type 0 where
  pub table : (a : ℕ) → r.desc ≤ a → a < r.desc + 16 * r.size → AllMiss new a
  pub driver : (a : ℕ) → r.driver + 2 ≤ a → a < r.driver + 4 + 2 * r.size → AllMiss new a
  pub device : (a : ℕ) → r.device + 2 ≤ a → a < r.device + 4 + 8 * r.size → AllMiss new a
  pub alive : (c : AddedChain) → Among c chains → (m : Streaming) → Among m (live_mappings acts) → Among m.number (maps_of c.request) → Among m (live_mappings (new ++ acts))
  pub tables : (c : AddedChain) → Among c chains → (m : Streaming) → Among m (live_mappings acts) → Among m.number (maps_of c.request) → (a : ℕ) → maps_address m a ≡ true → AllMiss new a
  pub regions : (c : Coherent) → Among c (live_regions acts) → Among c (live_regions (new ++ acts))

weaken : (x : Setting) (new acts : List Act) (r : RingPlace) (chains : List AddedChain) → Spares x new acts r chains → Weak x new acts r chains
weaken x new acts r chains s = record { table = s.table; driver = s.driver; device = s.device; alive = s.alive; tables = λ c i m j k goes. s.tables c i m j k; regions = s.regions }

pub holds_by : (x : Setting) → IsAddressed x → IsWhole x → (new acts : List Act) → Legal x (new ++ acts) → (r : RingPlace) (c : Course) → Weak x new acts r c.out
    → ((k : ℕ) → c.reclaimed ≤ k → k < length c.pushed → (a : AddedChain) → Among a c.out → a.head ≡ get_or c.placed k 0 → Answered x (new ++ acts) r c.queue c.made k a) → Holds x acts r c → Holds x (new ++ acts) r c
holds_by x small whole new acts legal r c s answers h = record {
  answers = answers;
  laid = h.laid;
  held = record { region = h.held.region; there = s.regions h.held.region h.held.there; covers = h.held.covers };
  rest = h.rest;
  first = h.first;
  back = h.back;
  outs = h.outs;
  index = high_still x small whole new acts legal (r.driver + 2) (little_bytes 2 (length c.placed)) (high (r.driver + 2) (omega arith)) (λ i low. s.driver (r.driver + 2 + i) (omega arith) (let z = h.laid.some in omega arith)) h.index;
  used = high_still x small whole new acts legal (r.device + 2) (little_bytes 2 (length c.pushed)) (high (r.device + 2) (behind (r.device + 2) (omega arith))) (λ i low. s.device (r.device + 2 + i) (omega arith) (let z = h.laid.some in omega arith)) h.used;
  slots = λ k from to. (let z = slot_low k r.size h.laid.some in high_still x small whole new acts legal (slot_at r k) (little_bytes 2 (get_or c.placed k 0)) (high (slot_at r k) (omega arith)) (λ i low. s.driver (slot_at r k + i) (omega arith) (omega arith)) (h.slots k from to));
  elements = λ k from to. (let z = slot_low k r.size h.laid.some in let e = h.elements k from to in
      (e.0, high_still x small whole new acts legal (element_at r k) (little_bytes 4 (get_or c.placed k 0) ++ little_bytes 4 e.0) (high (element_at r k) (behind (element_at r k) (omega arith))) (λ i low. s.device (element_at r k + i) (omega arith) (omega arith)) e.1));
  chains = λ a k. chain_still x small whole new acts legal r a h.laid.low
      (λ d i j low. s.table (r.desc + 16 * d + j) (omega arith) (let l = (h.chains a k).low d i in omega arith))
      (s.alive a k) (s.tables a k) (h.chains a k);
} where
  high : (a : ℕ) → r.driver ≤ a → bounce_size x ≤ a
  high a le = let l = h.laid.low in let d = h.laid.driver in omega arith

  behind : (a : ℕ) → r.device ≤ a → r.driver ≤ a
  behind a le = let d = h.laid.device in omega arith

pub holds_still : (x : Setting) → IsAddressed x → IsWhole x → (new acts : List Act) → Legal x (new ++ acts) → (r : RingPlace) (c : Course) → Spares x new acts r c.out → Holds x acts r c → Holds x (new ++ acts) r c
holds_still x small whole new acts legal r c s h = holds_by x small whole new acts legal r c (weaken x new acts r c.out s) (λ k from to a i e.
    let z = slot_low k r.size h.laid.some in
    let l = h.laid.low in
    let d = h.laid.driver in
    let v = h.laid.device in
    answered_still x small whole new acts legal r c.queue c.made k a (omega arith) (λ j lo. s.device (element_at r k + j) (omega arith) (omega arith)) (s.alive a i) (s.tables a i) (h.answers k from to a i e)) h
