-- A chain is added: what it leaves stands for the lists with it.
use Rattle.std.proofs.Common.{◌≡◌, ℕ, zero, suc, ◌+◌, ◌^◌, ◌<◌, ◌≤◌, ◌==◌, ◌&&◌, ◌||◌, Bool, true, false, not, if◌then◌else◌, List, [], ◌∷◌, ◌++◌, length, get_or, Option, Some, None, refl, sym, ap, subst, ◌∙◌, inl, inr, arith}
use Rattle.std.specs.Prelude.{slice_index, replicate}
use Rattle.std.specs.List.{list_any}
use Rattle.std.proofs.Math.ListN.{set}
use Rattle.std.proofs.lemmas.List.{length-set, length-replicate, get_or-set_same, get_or-set_other, length-take-le}
use Rattle.std.proofs.lemmas.List.Sums.{sum_by-cons}
use Rattle.vd_model.specs.Memory.{Memory}
use Rattle.vd_model.specs.Rings.{used_index_at, used_element_at}
use Rattle.vd_model.specs.RingTurns.{first_of, is_out_of_order}
use Rattle.vd_model.specs.Trace.{total_len}
use Rattle.vd_model.specs.declared.parts.Part.{Part}
use Rattle.vd_model.specs.declared.queue.RingPlace.{RingPlace}
use Rattle.vd_laws.specs.Among.{Among}
use Rattle.vd_ring_laws.specs.TraceLaw.{IsWritten}
use Rattle.vr_driver.specs.Side.{DriverSide, free_from, with_owner, unowned_descriptors, next_chain, next_head, with_chain, all_published}
use Rattle.vr_driver.specs.Driver.{with_parts, with_index}
use Rattle.vr_pair.specs.QueueLists.{QueueLists, is_all_writable, is_readable_first, bytes_in, chain_limit, finished_chains, with_added}
use Rattle.vr_split_pair.specs.Lies.{WaitsAt, IsKnown, Known, held_by, heads_of, taken_heads, one_if, occurs}
use Rattle.vr_split_pair.specs.Split.{Sides, SplitStands}
use Rattle.vr_split_pair.proofs.Fields.{used_index-plain, element-plain}
use Rattle.vr_split_pair.proofs.Owners.{either, same-number, other-number, same-test, among-or-not, AreFree, least-free, Claimed, claimed, held-none}
use Rattle.vr_split_pair.proofs.Chains.{waits-kept, waits-snoc, uses-kept, HeadStays, known-kept, known-snoc, known-few, known-absent, heads-snoc, occurs-snoc, length-snoc, count-snoc}
use Rattle.vr_split_pair.proofs.Writes.{Added, added_memory, published-is}

-- PARTS that the device reads come first

all_written : (ps : List Part) → is_all_writable ps ≡ true → list_any (λ p. not p.writable) ps ≡ false
all_written [] h = refl
all_written (p ∷ ps) h = by p.writable h (all_written ps) where
  by : (w : Bool) → (if w then is_all_writable ps else false) ≡ true → (is_all_writable ps ≡ true → list_any (λ q. not q.writable) ps ≡ false) → (not w || list_any (λ q. not q.writable) ps) ≡ false
  by true e rest = rest e
  by false e rest = absurd (cc e)

written_ordered : (ps : List Part) → is_all_writable ps ≡ true → is_out_of_order ps ≡ false
written_ordered [] h = refl
written_ordered (p ∷ ps) h = by p.writable h (all_written ps) (written_ordered ps) where
  by : (w : Bool) → (if w then is_all_writable ps else false) ≡ true → (is_all_writable ps ≡ true → list_any (λ q. not q.writable) ps ≡ false) → (is_all_writable ps ≡ true → is_out_of_order ps ≡ false)
      → ((w && list_any (λ q. not q.writable) ps) || is_out_of_order ps) ≡ false
  by true e none rest = rw (none e) (rest e)
  by false e none rest = absurd (cc e)

pub ordered : (ps : List Part) → is_readable_first ps ≡ true → is_out_of_order ps ≡ false
ordered [] h = refl
ordered (p ∷ ps) h = by p.writable h (ordered ps) where
  by : (w : Bool) → (if w then is_all_writable ps else is_readable_first ps) ≡ true → (is_readable_first ps ≡ true → is_out_of_order ps ≡ false) → ((w && list_any (λ q. not q.writable) ps) || is_out_of_order ps) ≡ false
  by true e rest = rw (all_written ps e) (written_ordered ps e)
  by false e rest = rest e

pub total_is : (ps : List Part) → total_len ps ≡ bytes_in ps
total_is [] = refl
total_is (p ∷ ps) = sum_by-cons (λ (q : Part). q.len) p ps ∙ ap (λ (n : ℕ). p.len + n) (total_is ps)

-- each part has no more bytes than all
part_short : (ps : List Part) (p : Part) → Among p ps → p.len ≤ bytes_in ps
part_short [] p h = absurd h
part_short (x ∷ ps) p (inl e) = let same : p.len ≡ x.len = ap (λ (q : Part). q.len) e in omega arith
part_short (x ∷ ps) p (inr h) = let rest = part_short ps p h in omega (arith, rest)

-- DESCRIPTORS

first_is : (ds : List ℕ) → slice_index ds 0 ≡ first_of ds
first_is [] = refl
first_is (d ∷ ds) = refl

first_among : (ds : List ℕ) → 0 < length ds → Among (first_of ds) ds
first_among [] h = absurd (omega arith)
first_among (d ∷ ds) h = inl refl

-- the head of a chain that was written is a descriptor of the ring
pub first_low : (m : Memory) (r : RingPlace) (ps : List Part) (ds : List ℕ) → IsWritten m r ps ds → first_of ds < r.size
first_low m r [] ds w = absurd w.linked
first_low m r (p ∷ ps) [] w = absurd w.linked
first_low m r (p ∷ ps) (d ∷ ds) w = w.low d (inl refl)

pub owner_below : (owners : List (Option ℕ)) (d head : ℕ) → get_or owners d None ≡ Some head → d < length owners
owner_below [] d head e = absurd (cc e)
owner_below (o ∷ owners) zero head e = omega arith
owner_below (o ∷ owners) (suc d) head e = let rest = owner_below owners d head e in omega (arith, rest)

all_told : (n d : ℕ) (x : Bool) → d < n → get_or (replicate n true) d x ≡ true
all_told zero d x h = absurd (omega arith)
all_told (suc n) zero x h = refl
all_told (suc n) (suc d) x h = all_told n d x (omega arith)

-- the head of the next chain is a descriptor of the ring
pub next_head_low : (driver : DriverSide) (n : ℕ) → 0 < n → n ≤ length (unowned_descriptors driver) → next_head driver n < length driver.owners
next_head_low driver n some room =
    let f = least-free driver.owners n in
    let len : length (next_chain driver n) ≡ n = length-take-le n (free_from 0 driver.owners) room in
    let first : first_of (next_chain driver n) < length driver.owners = f.below (first_of (next_chain driver n)) (first_among (next_chain driver n) (omega (arith, some, len))) in
    subst (λ (k : ℕ). k < length driver.owners) (sym (first_is (next_chain driver n))) first

-- A CHAIN THAT CAN BE ADDED

pub record CanAdd (s : Sides) (parts : List Part) : Type 0 where
  pub some : 0 < length parts
  pub room : length parts ≤ length (unowned_descriptors s.driver)
  pub ordered : is_readable_first parts ≡ true
  pub bytes : bytes_in parts ≤ chain_limit
  pub words : (p : Part) → Among p parts → p.at < 2 ^ 64
  pub bound : s.placed < 2 ^ 62

abbrev pub added_sides : Sides → List Part → Sides
added_sides s parts = record s {
  memory = with_index (with_parts s.memory s.driver parts) (with_chain s.driver (length parts));
  driver = all_published (with_chain s.driver (length parts));
  numbers = set s.numbers (next_head s.driver (length parts)) s.added;
  added = s.added + 1;
  placed = s.placed + length parts;
}

module _ (s : Sides) (q : QueueLists) (parts : List Part) (h : SplitStands s q) (a : CanAdd s parts) where
  abbrev ds : List ℕ
  ds = next_chain s.driver (length parts)

  abbrev head : ℕ
  head = next_head s.driver (length parts)

  abbrev new_owners : List (Option ℕ)
  new_owners = with_owner s.driver.owners ds head

  free : AreFree s.driver.owners ds
  free = least-free s.driver.owners (length parts)

  took : Claimed s.driver.owners new_owners ds head
  took = claimed ds s.driver.owners head free

  len : length ds ≡ length parts
  len = length-take-le (length parts) (free_from 0 s.driver.owners) a.room

  low : (d : ℕ) → Among d ds → d < s.driver.place.size
  low d i = let below = free.below d i in let all = h.owners.owners_len in omega (arith, below, all)

  head_among : Among head ds
  head_among = let some = a.some in subst (λ (k : ℕ). Among k ds) (sym (first_is ds)) (first_among ds (omega (arith, some, len)))

  head_free : get_or s.driver.owners head None ≡ None
  head_free = free.none head head_among

  wrote : Added s.memory (added_sides s parts).memory s.driver.place parts ds s.added
  wrote = subst (λ (w : Memory). Added s.memory w s.driver.place parts ds s.added)
      (sym (published-is s.memory s.driver.place h.laid parts ds s.added s.driver.added head h.counts.driver_added (first_is ds)))
      (added_memory s.memory s.driver.place h.laid parts ds s.added a.some len free.distinct low)

  -- what another chain holds isn't taken
  not_taken : (d x : ℕ) → get_or s.driver.owners d None ≡ Some x → Among d ds → ⊥
  not_taken d x e i = let none : get_or s.driver.owners d None ≡ None = free.none d i in let no : ⊥ = cc (e, none) in no

  kept_owner : (d x : ℕ) → get_or s.driver.owners d None ≡ Some x → get_or new_owners d None ≡ Some x
  kept_owner d x e = took.other d (not_taken d x e) ∙ e

  stays : (x : ℕ) → get_or s.driver.owners x None ≡ Some x → HeadStays s.driver.owners new_owners s.driver.announced (added_sides s parts).driver.announced s.numbers (added_sides s parts).numbers x
  stays x e =
      let differs : x ≡ head → ⊥ = λ f. not_taken x x e (subst (λ (k : ℕ). Among k ds) (sym f) head_among) in
      let other : (head == x) ≡ false = other-number head x (λ f. differs (sym f)) in
      let none : (if head == x then length ds else 0) ≡ 0 = rw other refl in
      let held = took.held x in
      let below = owner_below s.driver.owners x x e in
      let all = h.owners.owners_len in
      record {
        owner = kept_owner x x e;
        told = all_told s.driver.place.size x false (omega (arith, below, all));
        number = get_or-set_other s.numbers head x s.added 0 differs;
        count = omega (arith, held, none);
      }

  new_known : IsKnown new_owners (added_sides s parts).driver.announced (added_sides s parts).numbers (record { number = q.added; parts = parts }) head
  new_known =
      let inside = low head head_among in
      let numbers = h.owners.numbers_len in
      let within : head < length s.numbers = omega (arith, inside, numbers) in
      let itself : (head == head) ≡ true = same-number head head refl in
      let all : (if head == head then length ds else 0) ≡ length ds = rw itself refl in
      let held = took.held head in
      let none : held_by head s.driver.owners ≡ 0 = held-none s.driver.owners head (λ d e. let owner = h.owners.headed d head e in let no : ⊥ = cc (owner, head_free) in no) in
      let counted : held_by head new_owners ≡ length parts = omega (arith, held, all, none, len) in
      record {
        owner = took.own head head_among;
        told = all_told s.driver.place.size head false inside;
        number = get_or-set_same s.numbers head s.added 0 within ∙ sym h.counts.added;
        count = counted;
        some = a.some;
      }

  -- no more chains wait than descriptors are held
  few : length q.waiting < s.driver.place.size
  few =
      let waiting = known-few s.driver.owners s.driver.announced s.numbers q.waiting (heads_of h.descriptors) h.known_waiting in
      let all = h.owners.free in
      let some = a.some in
      let room = a.room in
      omega (arith, waiting, all, some, room)

  new_waits : WaitsAt (added_sides s parts).memory s.driver.place new_owners s.added (record { number = q.added; parts = parts }) ds
  new_waits =
      let l = h.laid in
      let driver = l.driver in
      let device = l.device in
      let ends = l.ends in
      record {
        slot = wrote.slot;
        written = record {
          linked = wrote.linked;
          distinct = free.distinct;
          low = low;
          size = l.small;
          ends = omega arith;
          words = λ p i. let short = part_short parts p i in let bytes = a.bytes in (a.words p i, omega (arith, short, bytes));
          ordered = ordered parts a.ordered;
          short = subst (λ (n : ℕ). n ≤ 16777216) (sym (total_is parts)) a.bytes;
        };
        owned = λ d i. took.own d i ∙ ap Some (first_is ds);
      }

  new_headed : (d x : ℕ) → get_or new_owners d None ≡ Some x → get_or new_owners x None ≡ Some x
  new_headed d x e = elim (among-or-not d ds) [
    | inl i ↦
        (let own : get_or new_owners d None ≡ Some head = took.own d i in
        let same : head ≡ x = cc (own, e) in
        subst (λ (k : ℕ). get_or new_owners k None ≡ Some k) same (took.own head head_among))
    | inr other ↦ (let was : get_or s.driver.owners d None ≡ Some x = sym (took.other d other) ∙ e in kept_owner x x (h.owners.headed d x was))
  ]

  new_once : (d : ℕ) → occurs d (heads_of (h.descriptors ++ ds ∷ [])) + (occurs d (taken_heads s.taken) + occurs d h.used_heads) ≤ 1
  new_once d =
      let more : occurs d (heads_of (h.descriptors ++ ds ∷ [])) ≡ one_if (first_of ds == d) + occurs d (heads_of h.descriptors) = ap (occurs d) (heads-snoc h.descriptors ds) ∙ occurs-snoc d (heads_of h.descriptors) (first_of ds) in
      let old = h.once d in
      elim (either (first_of ds == d)) [
        | inl same ↦
            (let is : first_of ds ≡ d = same-test (first_of ds) d same in
            let none : get_or s.driver.owners d None ≡ None = ap (λ (k : ℕ). get_or s.driver.owners k None) (sym (first_is ds ∙ is)) ∙ head_free in
            let one : one_if (first_of ds == d) ≡ 1 = ap one_if same in
            let first = known-absent s.driver.owners s.driver.announced s.numbers q.waiting (heads_of h.descriptors) d h.known_waiting none in
            let second = known-absent s.driver.owners s.driver.announced s.numbers q.taken (taken_heads s.taken) d h.known_taken none in
            let third = known-absent s.driver.owners s.driver.announced s.numbers (finished_chains q.used) h.used_heads d h.known_used none in
            omega (arith, more, one, first, second, third))
        | inr other ↦ (let zero : one_if (first_of ds == d) ≡ 0 = ap one_if other in omega (arith, more, zero, old))
      ]

  pub added_stands : SplitStands (added_sides s parts) (with_added q parts)
  added_stands =
      let c = h.counts in
      let l = h.laid in
      let size = c.waiting in
      let count = count-snoc q.waiting (record { number = q.added; parts = parts }) in
      let longer = length-snoc q.waiting (record { number = q.added; parts = parts }) in
      let place = s.driver.place in
      record {
        descriptors = h.descriptors ++ ds ∷ [];
        used_heads = h.used_heads;
        course = h.course;
        laid = l;
        there = wrote.there h.there;
        counts = record {
          size = c.size;
          same_place = c.same_place;
          added = ap (λ (n : ℕ). n + 1) c.added;
          placed = ap (λ (n : ℕ). n + length parts) c.placed;
          few = (let f = c.few in let some = a.some in omega (arith, f, some));
          bound = (let b = a.bound in let room = a.room in let all = h.owners.free in let small = l.small in omega (arith, b, room, all, small));
          finished = c.finished;
          given = c.given;
          waiting = omega (arith, size, longer);
          driver_added = (let e = c.driver_added in omega (arith, e));
          driver_published = (let e = c.driver_added in omega (arith, e));
          driver_reclaimed = c.driver_reclaimed;
          device_position = c.device_position;
          device_used = c.device_used;
        };
        indices = record {
          available = wrote.index;
          used = (let device = l.device in wrote.device (used_index_at place) 2 (omega (arith, used_index-plain place l)) ∙ h.indices.used);
        };
        waits = waits-snoc (added_sides s parts).memory place new_owners h.course.given s.added q.waiting h.descriptors (record { number = q.added; parts = parts }) ds (sym c.waiting) new_waits
            (waits-kept s.memory (added_sides s parts).memory place s.driver.owners new_owners h.course.given q.waiting h.descriptors (record {
              slots = λ k from to. (let f = few in wrote.slots k (omega (arith, size, from, to)) (omega (arith, size, from, to, f)));
              tables = λ d x inside i e. wrote.tables d inside (not_taken d x e);
              owned = λ d x i e. kept_owner d x e;
            }) h.waits);
        takes = h.takes;
        uses = uses-kept s.memory (added_sides s parts).memory place h.course.reclaimed q.used h.used_heads (λ k from to. wrote.device (used_element_at place k) 8 (omega (arith, element-plain place l k))) h.uses;
        known_waiting = subst (λ (heads : List ℕ). Known new_owners (added_sides s parts).driver.announced (added_sides s parts).numbers (q.waiting ++ record { number = q.added; parts = parts } ∷ []) heads)
            (sym (heads-snoc h.descriptors ds))
            (known-snoc new_owners (added_sides s parts).driver.announced (added_sides s parts).numbers q.waiting (heads_of h.descriptors) (record { number = q.added; parts = parts }) (first_of ds)
            (subst (λ (k : ℕ). IsKnown new_owners (added_sides s parts).driver.announced (added_sides s parts).numbers (record { number = q.added; parts = parts }) k) (first_is ds) new_known)
            (known-kept s.driver.owners new_owners s.driver.announced (added_sides s parts).driver.announced s.numbers (added_sides s parts).numbers q.waiting (heads_of h.descriptors) (λ x i e f. stays x e) h.known_waiting));
        known_taken = known-kept s.driver.owners new_owners s.driver.announced (added_sides s parts).driver.announced s.numbers (added_sides s parts).numbers q.taken (taken_heads s.taken) (λ x i e f. stays x e) h.known_taken;
        known_used = known-kept s.driver.owners new_owners s.driver.announced (added_sides s parts).driver.announced s.numbers (added_sides s parts).numbers (finished_chains q.used) h.used_heads (λ x i e f. stays x e) h.known_used;
        once = new_once;
        owners = record {
          owners_len = took.len ∙ h.owners.owners_len;
          announced_len = length-replicate s.driver.place.size true;
          numbers_len = length-set s.numbers head s.added ∙ h.owners.numbers_len;
          headed = new_headed;
          free = (let f = took.free in let all = h.owners.free in omega (arith, f, all, len, count));
        };
      }
