-- What a poll tells of a request: the length, the status, and the bytes of its range.
use Rattle.std.proofs.Common.{◌≡◌, ℕ, ◌+◌, ◌-◌, ◌%◌, ◌^◌, ◌==◌, ◌<◌, ◌≤◌, true, false, ap, subst, ◌∙◌, sym, arith, Some, List, [], ◌∷◌, ◌++◌, length, get_or, take, map, find, append_assoc, if◌then◌else◌, inl}
use Rattle.byteorder.specs.Numbers.{little_number-reads_back}
use Rattle.vd_num.specs.Field.{field_at}
use Rattle.vd_model.specs.declared.memory.Dir.TheVariants.{From}
use Rattle.vd_model.specs.declared.memory.Want.{Want}
use Rattle.vd_model.specs.Setting.{Setting}
use Rattle.vd_model.specs.Acts.{Act, AddedChain, Request, Streaming, Queue, Chain_reclaimed, Finished}
use Rattle.vd_model.specs.Live.{buffers, live_mappings, iova_of, maps_address}
use Rattle.vd_model.specs.Rings.{used_element_at, used_index_at, used_event_at}
use Rattle.vd_model.specs.Raw.{little_bytes}
use Rattle.vd_model.specs.Puts.{shown_put, ram, ram_bytes, bus_bytes}
use Rattle.vd_model.specs.Queues.{Ring, ring_of, chains_out, reclaimed_count, published_chains_out}
use Rattle.vd_model.specs.DaemonTurns.{hand, has_event_idx}
use Rattle.vd_model.specs.RingTurns.{number_at, parts_count, mapping_part, writable_of, unmap_acts, free_acts, used_event_puts, request_end_acts}
use Rattle.vd_laws.specs.Among.{Among}
use Rattle.vd_laws.specs.Runs.{IsAddressed, IsWhole}
use Rattle.vd_ring_laws.specs.Heads.{placed_heads, pushed_heads}
use Rattle.vd_ring_laws.specs.DiskRequest.{answer_len}
use Rattle.vd_laws.proofs.Legal.{maps_of, Distinct, Legal}
use Rattle.vd_laws.proofs.Sound.{sound, earlier_legal}
use Rattle.vd_laws.proofs.Ranges.{in_range}
use Rattle.vd_laws.proofs.Chains.{chained}
use Rattle.vd_ring_laws.proofs.Fair.{Fair}
use Rattle.vd_ring_bytes.proofs.StandingBytes.{Stands, each_is}
use Rattle.vd_ring_bytes.proofs.RingLayout.{element_plain, used_event_plain}
use Rattle.vd_ring_bytes.proofs.SameRing.{rings_made}
use Rattle.vd_ring_bytes.proofs.RequestSource.{each_same, Comes, comes_still, own_wants, answers_are, Given}
use Rattle.vd_ring_bytes.proofs.RingMemory.{Answered, element_at, map_still, spread_over, spread_among, among_take}
use Rattle.vd_ring_turns.proofs.CalmRings.{HasRing, Calms}
use Rattle.vd_ring_turns.proofs.RingSpares.{AreWithin, within_all, within_live, map_below}
use Rattle.vd_ring_turns.proofs.EventFields.{used_event_within}
use Rattle.vd_ring_turns.proofs.PollTurns.{element_id, element_len, is_more, reclaims, is_first}
use Rattle.vd_ring_bytes.proofs.Unmaps.{unmaps_are, frees_ram, status_back, range_back}

module _ (x : Setting) (small : IsAddressed x) (full : IsWhole x) (n : ℕ) (acts : List Act) (legal : Legal x acts) (fair : Fair acts) (c : Calms x n acts) (q : ℕ) (ring : Ring) (there : ring_of acts q ≡ Some ring)
    (new_used : (number_at x acts (used_index_at ring.place) == reclaimed_count acts q % 65536) ≡ false) (chain : AddedChain) (is_found : find (λ c. c.head == element_id x acts q ring.place) (published_chains_out acts q) ≡ Some chain) where
  has : HasRing x acts q ring
  has = c.rings q ring there

  pub chain_out : Among chain (chains_out acts q)
  chain_out = reclaims x small full n acts legal fair c q ring there new_used chain is_found

  pub more : reclaimed_count acts q < length (pushed_heads x acts q)
  more = is_more x small full n acts legal fair c q ring there new_used chain is_found

  pub first : chain.head ≡ get_or (placed_heads acts q) (reclaimed_count acts q) 0
  first = is_first x small full n acts legal fair c q ring there new_used chain is_found

  pub answer : Answered x acts ring.place q (rings_made acts q) (reclaimed_count acts q) chain
  answer = has.holds.answers (reclaimed_count acts q) (omega arith) more chain chain_out first

  module _ (a : Answered x acts ring.place q (rings_made acts q) (reclaimed_count acts q) chain) where
    abbrev g : Given x a.older chain (hand x a.earlier q)
    g = a.given

    -- where the request came from
    pub came : Comes acts chain g.ms g.asked g.done
    came = subst (λ l. Comes l chain g.ms g.asked g.done) (append_assoc a.since (Queue (Finished q) ∷ []) a.older ∙ sym a.split) (comes_still (a.since ++ Queue (Finished q) ∷ []) a.older chain g.ms g.asked g.done g.comes)

    abbrev w : ℕ
    w = (hand x a.earlier q).writable

    pub told_len : w < 256 ^ 4 → element_len x acts q ring.place ≡ w
    told_len low =
        let bytes = little_bytes 4 chain.head ++ little_bytes 4 w in
        let is : bus_bytes x.per_page acts (used_element_at ring.place (reclaimed_count acts q)) 8 ≡ bytes =
        ap (λ a. bus_bytes x.per_page acts a 8) (element_plain x small ring.place has.holds.laid (reclaimed_count acts q)) ∙ each_is (λ a. (shown_put x.per_page acts a).byte) bytes (element_at ring.place (reclaimed_count acts q)) a.len in
        ap (λ l. field_at 4 l 4) is ∙ little_number-reads_back 4 w [] low

    abbrev request : Request
    request = record { buffer = buffers g.done; buffers = (if g.comes.indirect then 2 else 1); maps = map (λ m. m.number) g.ms; writable = writable_of (map mapping_part (take (parts_count g.asked) g.ms)) }

    pub its_request : chain.request ≡ Some request
    its_request = g.comes.is

    pub its_writable : request.writable ≡ w
    its_writable = answers_are (buffers g.done) g.asked (take (parts_count g.asked) g.ms) g.comes.ways (own_wants a.older chain g.ms g.asked g.done g.comes) ∙ sym g.writable

    numbers_distinct : Distinct (map (λ m. m.number) g.ms)
    numbers_distinct = subst (λ o. Distinct (maps_of o)) its_request (((chained x acts legal).own q).distinct chain chain_out)

    -- the status
    pub told_status : length a.end.bytes ≡ answer_len g.asked.want - 1 → ram x.per_page (unmap_acts (live_mappings acts) request.maps ++ acts) request.buffer 16 ≡ a.end.status
    told_status len =
        ap (λ l. ram x.per_page (l ++ acts) (buffers g.done) 16) (unmaps_are x acts (sound x acts legal) g.ms a.alive)
        ∙ status_back x small full (buffers g.done) g.comes.indirect g.asked g.ms g.comes.ways g.comes.low g.comes.wants acts legal a.alive numbers_distinct a.end.bytes a.end.status len a.shows

    -- the range, after the poll
    abbrev events : List Act
    events = used_event_puts acts ring.place (reclaimed_count acts q + 1)

    abbrev last : List Act
    last = Queue (Chain_reclaimed q chain.head) ∷ events

    last_within : AreWithin ring.place last
    last_within = (tt, used_event_within x ring.place has.holds.laid (reclaimed_count acts q + 1) (has_event_idx acts) (used_event_at ring.place) (used_event_plain x small ring.place has.holds.laid))

    pub told_range : length a.end.bytes ≡ answer_len g.asked.want - 1 → Legal x ((request_end_acts (live_mappings acts) request ++ last) ++ acts) → (v : Want) → g.asked.want ≡ Some v → v.dir ≡ From
        → ram_bytes x.per_page ((request_end_acts (live_mappings acts) request ++ last) ++ acts) v.buffer v.offset v.len ≡ a.end.bytes
    told_range len l v e from =
        let base = last ++ acts in
        let un = unmap_acts (live_mappings acts) request.maps in
        let fr = free_acts request.buffer request.buffers in
        let is : (request_end_acts (live_mappings acts) request ++ last) ++ acts ≡ fr ++ (un ++ base) = append_assoc (request_end_acts (live_mappings acts) request) last acts ∙ append_assoc fr un base in
        let base_legal : Legal x base = earlier_legal x un base (earlier_legal x fr (un ++ base) (subst (Legal x) is l)) in
        let live_is = (within_live ring.place last acts last_within).0 in
        let alive : (m : Streaming) → Among m g.ms → Among m (live_mappings base) = λ m i. subst (Among m) (sym live_is) (a.alive m i) in
        let shows : (p : Streaming × List ℕ) → Among p (spread_over (take (parts_count g.asked) g.ms) (a.end.bytes ++ a.end.status ∷ [])) → Stands x base (iova_of p.0) p.1 = λ p i. (
        let j = spread_among (take (parts_count g.asked) g.ms) (a.end.bytes ++ a.end.status ∷ []) p i in
        let short : length p.1 ≤ p.0.want.len = j.1 in
        let m_there = a.alive p.0 (among_take (parts_count g.asked) p.0 g.ms j.0) in
        let here : (i : ℕ) → i < length p.1 → maps_address p.0 (iova_of p.0 + i) ≡ true = λ i lo. in_range (iova_of p.0) p.0.want.len (iova_of p.0 + i) (omega arith) (omega arith) in
        map_still x small full last acts base_legal p.0 m_there (iova_of p.0) p.1 here
        (λ i lo. within_all ring.place last (iova_of p.0 + i) last_within (inl (let b = map_below x acts p.0 (iova_of p.0 + i) (sound x acts legal) m_there (here i lo) in let o = has.holds.laid.low in omega arith))) (a.shows p i)) in
        ap (λ l. ram_bytes x.per_page l v.buffer v.offset v.len) is
        ∙ (frees_range request.buffer request.buffers (un ++ base) v
        ∙ (ap (λ l. ram_bytes x.per_page (l ++ base) v.buffer v.offset v.len) (unmaps_are x acts (sound x acts legal) g.ms a.alive)
        ∙ range_back x small full (buffers g.done) g.comes.indirect g.asked g.ms g.comes.ways g.comes.low g.comes.wants base base_legal alive numbers_distinct a.end.bytes a.end.status len shows v e from)) where
          frees_range : (buffer count : ℕ) (acts : List Act) (v : Want) → ram_bytes x.per_page (free_acts buffer count ++ acts) v.buffer v.offset v.len ≡ ram_bytes x.per_page acts v.buffer v.offset v.len
          frees_range buffer count acts v = each_same (λ i. ram x.per_page (free_acts buffer count ++ acts) v.buffer i) (λ i. ram x.per_page acts v.buffer i) v.offset v.len (λ i. frees_ram x.per_page buffer count acts v.buffer i)
