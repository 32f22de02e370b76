-- A daemon can access a ring and what its requests map, and traces the chain that was placed.
use Rattle.std.proofs.Common.{◌≡◌, ℕ, ◌+◌, ◌*◌, ◌^◌, ◌<◌, ◌≤◌, Bool, true, false, refl, ap, subst, ◌∙◌, sym, arith, List, [], ◌∷◌, length, ◌&&◌, ◌||◌, nat_lt, ◌⊎◌, inl, inr}
use Rattle.std.specs.List.{list_any}
use Rattle.std.proofs.lemmas.Bool.{and_from, lt-ltb, ltb-true, ltb-false}
use Rattle.vd_model.specs.declared.parts.Part.{Part}
use Rattle.vd_model.specs.declared.parts.Chain.{Chain}
use Rattle.vd_model.specs.declared.queue.RingPlace.{RingPlace}
use Rattle.vd_model.specs.Setting.{Setting, bounce_size}
use Rattle.vd_model.specs.Acts.{Act, AddedChain, Streaming}
use Rattle.vd_model.specs.Live.{live_mappings, live_regions, region_covers, iova_of, maps_address, page_of, is_present}
use Rattle.vd_model.specs.Trace.{trace_start, whole, chain_of, ending_of}
use Rattle.vd_model.specs.AreaTurns.{is_accessible}
use Rattle.vd_model.specs.DaemonTurns.{daemon_memory}
use Rattle.vd_model.specs.RingTurns.{descriptor_bytes, flags_of, first_of}
use Rattle.vd_laws.specs.Among.{Among}
use Rattle.vd_laws.specs.Runs.{IsAddressed, IsWhole}
use Rattle.vd_laws.proofs.Lists.{any_true}
use Rattle.vd_laws.proofs.Sound.{Sound}
use Rattle.vd_laws.proofs.Ranges.{in_range}
use Rattle.vd_laws.proofs.Pages.{on_page, live_mappings_present, or_true}
use Rattle.vd_laws.proofs.Shown as shown
use Rattle.vd_ring_laws.specs.TraceLaw.{IsLinked}
use Rattle.vd_ring_laws.proofs.Traces.{trace_law}
use Rattle.vd_ring_bytes.specs.IndirectLaw.{indices, table_place, IsTable}
use Rattle.vd_ring_bytes.proofs.StandingBytes.{daemon_reads}
use Rattle.vd_ring_bytes.proofs.RingLayout.{IsLaid, end_of}
use Rattle.vd_ring_bytes.proofs.RingMemory.{Linked, IsNamed, HasChain, IsHeld}
use Rattle.vd_ring_bytes.proofs.TableTraces.{table_whole, table_faulty}

-- ---- access

pub ring_accessible : (x : Setting) (acts : List Act) (r : RingPlace) → IsHeld acts r → (a : ℕ) → r.desc ≤ a → a < end_of r → is_accessible x acts a ≡ true
ring_accessible x acts r h a lo hi =
    ap (λ b. (nat_lt a (bounce_size x) && is_present x.per_page acts (page_of x.per_page a)) || b) (any_true (λ c. region_covers c a) h.region (live_regions acts) h.there (h.covers a lo hi))
    ∙ or_true (nat_lt a (bounce_size x) && is_present x.per_page acts (page_of x.per_page a))

some_pages : (x : Setting) → IsWhole x → 0 < x.bounce → 0 < x.per_page
some_pages x pages some = by (nat_lt 0 x.per_page) refl where
  by : (b : Bool) → nat_lt 0 x.per_page ≡ b → 0 < x.per_page
  by true e = ltb-true 0 x.per_page e
  by false e =
      let none : x.per_page ≡ 0 = (let f = ltb-false 0 x.per_page e in omega arith) in
      let is : x.bounce ≡ pages.0 * x.per_page = pages.1 in
      let zeros : pages.0 * x.per_page ≡ pages.0 * 0 = ap (λ k. pages.0 * k) none in
      let no : pages.0 * 0 ≡ 0 = omega arith in
      absurd (omega arith)

pub map_accessible : (x : Setting) → IsWhole x → (acts : List Act) → Sound x acts → (m : Streaming) → Among m (live_mappings acts) → (a : ℕ) → maps_address m a ≡ true → is_accessible x acts a ≡ true
map_accessible x pages acts s m there a here =
    let low : a < bounce_size x = shown.low x acts m a s there here in
    let some = some_pages x pages (omega arith) in
    let present = live_mappings_present x.per_page acts m (page_of x.per_page a) there (on_page x.per_page m a some here) in
    ap (λ b. b || list_any (λ c. region_covers c a) (live_regions acts))
    (and_from (nat_lt a (bounce_size x)) (is_present x.per_page acts (page_of x.per_page a)) (lt-ltb a (bounce_size x) low) present)

-- ---- tables

linked_reads : (x : Setting) (acts : List Act) (r : RingPlace) (parts : List Part) (ds : List ℕ) → ((d : ℕ) → Among d ds → (i : ℕ) → i < 16 → is_accessible x acts (r.desc + 16 * d + i) ≡ true)
    → Linked x acts r.desc parts ds → IsLinked (daemon_memory x acts) r parts ds
linked_reads x acts r [] ds there h = h
linked_reads x acts r (part ∷ parts) [] there h = h
linked_reads x acts r (part ∷ []) (d ∷ []) there h = daemon_reads x acts (r.desc + 16 * d) (descriptor_bytes part.at part.len (flags_of false part.writable) 0) h (there d (inl refl))
linked_reads x acts r (part ∷ []) (d ∷ e ∷ ds) there h = h
linked_reads x acts r (part ∷ next ∷ parts) (d ∷ []) there h = h
linked_reads x acts r (part ∷ next ∷ parts) (d ∷ e ∷ ds) there h =
    (daemon_reads x acts (r.desc + 16 * d) (descriptor_bytes part.at part.len (flags_of true part.writable) e) h.0 (there d (inl refl)), linked_reads x acts r (next ∷ parts) (e ∷ ds) (λ k i. there k (inr i)) h.1)

indices_low : (k : ℕ) (parts : List Part) (d : ℕ) → Among d (indices k parts) → d < k + length parts
indices_low k [] d h = absurd h
indices_low k (part ∷ parts) d (inl e) = omega arith
indices_low k (part ∷ parts) d (inr h) = let l = indices_low (k + 1) parts d h in omega arith

-- ---- the trace

module _ (x : Setting) (small : IsAddressed x) (full : IsWhole x) (acts : List Act) (s : Sound x acts) (r : RingPlace) (laid : IsLaid x r) (held : IsHeld acts r) (c : AddedChain) (h : HasChain x acts r c) where
  table_access : (d : ℕ) → d < r.size → (i : ℕ) → i < 16 → is_accessible x acts (r.desc + 16 * d + i) ≡ true
  table_access d low i lo = ring_accessible x acts r held (r.desc + 16 * d + i) (omega arith) (let a = laid.driver in let b = laid.device in omega arith)

  table_ends : r.desc + 16 * r.size ≤ 2 ^ 64
  table_ends = let a = laid.driver in let b = laid.device in let e = laid.ends in let f : 4096 * x.iova ≤ 2 ^ 64 = small in omega arith

  head_low : (ds : List ℕ) → 0 < length ds → ((d : ℕ) → Among d ds → d < r.size) → first_of ds < r.size
  head_low [] some low = absurd (omega arith)
  head_low (d ∷ ds) some low = low d (inl refl)

  pub head_inside : c.head < r.size
  head_inside = subst (λ d. d < r.size) (sym h.head) (head_low c.descriptors h.some h.low)

  direct : Linked x acts r.desc h.parts c.descriptors → (negotiated : Bool) → ending_of (trace_start r c.head negotiated) (daemon_memory x acts) ≡ whole (chain_of c.head h.parts)
  direct l negotiated = subst (λ d. ending_of (trace_start r d negotiated) (daemon_memory x acts) ≡ whole (chain_of d h.parts)) (sym h.head)
      (trace_law (daemon_memory x acts) r h.parts c.descriptors negotiated (record {
        linked = linked_reads x acts r h.parts c.descriptors (λ d i. table_access d (h.low d i)) l;
        distinct = h.distinct;
        low = h.low;
        size = laid.small;
        ends = table_ends;
        words = h.words;
        ordered = h.ordered;
        short = h.short;
      }))

  named : (n : IsNamed x acts r c h.ms h.parts) → IsTable (daemon_memory x acts) r c.head (iova_of n.table) n.table.want.len h.parts
  named n = record {
    inside = head_inside;
    small = laid.small;
    ends = table_ends;
    names = daemon_reads x acts (r.desc + 16 * c.head) (descriptor_bytes (iova_of n.table) n.table.want.len 4 0) n.names (table_access c.head head_inside);
    fits = (let f = s.fits n.table (h.alive n.table n.there) in let e = laid.ends in let l = laid.low in let d = laid.driver in let v = laid.device in let z : 4096 * x.iova ≤ 2 ^ 64 = small in omega arith);
    is_len = n.len;
    some = n.some;
    few = n.few;
    linked = linked_reads x acts (table_place (iova_of n.table) (length h.parts)) h.parts (indices 0 h.parts) (λ d k i lo. (
        let low : d < 0 + length h.parts = indices_low 0 h.parts d k in
        let long = n.len in
        map_accessible x full acts s n.table (h.alive n.table n.there) (iova_of n.table + 16 * d + i) (in_range (iova_of n.table) n.table.want.len (iova_of n.table + 16 * d + i) (omega arith) (omega arith)))) n.linked;
    words = h.words;
    ordered = h.ordered;
    short = h.short;
  }

  -- a trace from its head that ends in a chain ends in the one that was placed
  pub traced : (negotiated : Bool) (chain : Chain) → ending_of (trace_start r c.head negotiated) (daemon_memory x acts) ≡ whole chain → chain ≡ chain_of c.head h.parts
  traced negotiated chain e = by h.form where
    by : Linked x acts r.desc h.parts c.descriptors ⊎ IsNamed x acts r c h.ms h.parts → chain ≡ chain_of c.head h.parts
    by (inl l) = let both : whole chain ≡ whole (chain_of c.head h.parts) = sym e ∙ direct l negotiated in cc
    by (inr n) = each negotiated refl where
      each : (b : Bool) → negotiated ≡ b → chain ≡ chain_of c.head h.parts
      each true f = let both : whole chain ≡ whole (chain_of c.head h.parts) = sym e ∙ table_whole (daemon_memory x acts) r c.head (iova_of n.table) n.table.want.len h.parts negotiated (named n) f in cc
      each false f = absurd (table_faulty (daemon_memory x acts) r c.head (iova_of n.table) n.table.want.len h.parts negotiated (named n) f chain e)
