-- A chain is added.
use Rattle.std.proofs.Common.{◌≡◌, ℕ, zero, suc, ◌+◌, ◌-◌, ◌%◌, ◌<◌, ◌≤◌, Bool, true, false, ◌==◌, ◌||◌, if◌then◌else◌, inl, inr, refl, ap, sym, subst, ◌∙◌, arith, List, [], ◌∷◌, ◌++◌, length, take, Some, None, Option, true≢false, get_or}
use Rattle.std.specs.Prelude.{slice_index, slice_set, is_some}
use Rattle.std.specs.List.{list_any}
use Rattle.std.proofs.Math.ListN.{set}
use Rattle.std.proofs.lemmas.Bool.Decides.{eqb_tells}
use Rattle.vd_model.specs.Acts.{Act, AddedChain, Request, Queue, Chain_added}
use Rattle.vd_model.specs.Queues as model
use Rattle.vd_model.specs.Queues.{is_in_chains, numbers_below}
use Rattle.vd_model.specs.Rings.{next16}
use Rattle.vr_driver.specs.Side.{DriverSide, with_owner, unowned_descriptors, next_chain, next_head, with_chain}
use Rattle.vd_queue_sides.specs.Chains.{Chains, chains_of, holds, owner_of, is_head, with_same_head, EachChain, IsSide, RingStands}
use Rattle.vd_queue_sides.proofs.Daemons.{itself}
use Rattle.vd_queue_sides.proofs.Counting.{len_more, head_more, head_first}
use Rattle.vd_queue_sides.proofs.Lists.{set_same, set_other, set_len, either, or_left, any_more, any_taken}
use Rattle.vd_queue_sides.proofs.Owners.{owned, or_else, owner_more, head_owned, free_none, owned_len, owner_at, each_more, each_weaker}

module _ (c : Chains) (region : ℕ) (s : DriverSide) (k : IsSide c region s) (n : ℕ) (some : 0 < n) (fits : n ≤ length (unowned_descriptors s)) (request : Option Request) where
  abbrev pub new_chain : AddedChain
  new_chain = record { head = next_head s n; descriptors = next_chain s n; request = request }

  -- what it takes was free
  taken_free : (d : ℕ) → holds d new_chain ≡ true → (d < s.place.size) × (owner_of c.out d ≡ None)
  taken_free d e =
      let f = free_none s.owners 0 d (any_taken (λ j. j == d) n (unowned_descriptors s) e) in
      let high = f.1 in
      let len = k.owners_len in
      let below : d < s.place.size = omega arith in
      let whole : d - 0 ≡ d = omega arith in
      (below, sym (k.owners d below) ∙ ap (λ j. get_or s.owners j None) (sym whole) ∙ f.2)

  holds_first : (n : ℕ) (xs : List ℕ) → 0 < n → n ≤ length xs → list_any (λ j. j == slice_index (take n xs) 0) (take n xs) ≡ true
  holds_first zero xs some fits = absurd (omega arith)
  holds_first (suc n) [] some fits = absurd (omega arith)
  holds_first (suc n) (x ∷ xs) some fits = or_left (x == x) (list_any (λ j. j == x) (take n xs)) (itself x)

  holds_head : holds (next_head s n) new_chain ≡ true
  holds_head = holds_first n (unowned_descriptors s) some fits

  new_owner : (d : ℕ) → d < s.place.size → get_or (with_owner s.owners (next_chain s n) (next_head s n)) d None ≡ owner_of (c.out ++ new_chain ∷ []) d
  new_owner d below =
      owner_at (next_chain s n) s.owners (next_head s n) d (subst (λ j. d < j) (sym k.owners_len) below)
      ∙ by (holds d new_chain) refl ∙ sym (owner_more c.out new_chain d) where
        last : (o : Option ℕ) → o ≡ or_else o None
        last None = refl
        last (Some x) = refl

        by : (t : Bool) → holds d new_chain ≡ t
            → (if holds d new_chain then Some (next_head s n) else get_or s.owners d None) ≡ or_else (owner_of c.out d) (if holds d new_chain then Some (next_head s n) else None)
        by true e =
            ap (λ t. if t then Some (next_head s n) else get_or s.owners d None) e
            ∙ sym (ap (λ o. or_else o (if holds d new_chain then Some (next_head s n) else None)) (taken_free d e).1 ∙ ap (λ t. if t then Some (next_head s n) else None) e)
        by false e =
            ap (λ t. if t then Some (next_head s n) else get_or s.owners d None) e
            ∙ k.owners d below ∙ last (owner_of c.out d)
            ∙ ap (λ t. or_else (owner_of c.out d) (if t then Some (next_head s n) else None)) (sym e)

  -- no chain that is out has its head
  fresh_head : is_head c.out (next_head s n) ≡ false
  fresh_head = by (is_head c.out (next_head s n)) refl where
    by : (t : Bool) → is_head c.out (next_head s n) ≡ t → t ≡ false
    by false e = refl
    by true e = absurd (true≢false (sym (head_owned c.out (next_head s n) k.headed e) ∙ sym (owned c.out (next_head s n)) ∙ ap is_some (taken_free (next_head s n) holds_head).1))

  new_announced : (d : ℕ) → is_head (c.out ++ new_chain ∷ []) d ≡ true → get_or (slice_set s.announced (next_head s n) false) d false ≡ is_head c.seen d
  new_announced d e = elim (eqb_tells (next_head s n) d) [
    | inl h ↦
        (let below : next_head s n < length s.announced = subst (λ j. next_head s n < j) (sym k.announced_len) (taken_free (next_head s n) holds_head).0 in
        subst (λ j. get_or (slice_set s.announced (next_head s n) false) j false ≡ is_head c.seen j) h.1
        (set_same s.announced (next_head s n) false false below ∙ unseen (is_head c.seen (next_head s n)) refl))
    | inr h ↦ (set_other s.announced (next_head s n) d false false h.1 ∙ k.announced d (old (sym (any_more (λ (chain : AddedChain). chain.head == d) c.out new_chain) ∙ e) h.0))
  ] where
    unseen : (t : Bool) → is_head c.seen (next_head s n) ≡ t → false ≡ is_head c.seen (next_head s n)
    unseen false e = sym e
    unseen true e = absurd (true≢false (sym (k.known (next_head s n) e) ∙ fresh_head))

    old : (is_head c.out d || (next_head s n == d)) ≡ true → (next_head s n == d) ≡ false → is_head c.out d ≡ true
    old e off = by (is_head c.out d) refl where
      by : (t : Bool) → is_head c.out d ≡ t → is_head c.out d ≡ true
      by true f = f
      by false f = absurd (true≢false (sym (either (is_head c.out d) (next_head s n == d) e f) ∙ off))

  new_inside : (d : ℕ) → is_head (c.out ++ new_chain ∷ []) d ≡ true → d < s.place.size
  new_inside d e = by (is_head c.out d) refl where
    by : (t : Bool) → is_head c.out d ≡ t → d < s.place.size
    by true f = k.inside d f
    by false f = elim (eqb_tells (next_head s n) d) [
      | inl h ↦ subst (λ j. j < s.place.size) h.1 (taken_free (next_head s n) holds_head).0
      | inr h ↦ absurd (true≢false (sym (either (is_head c.out d) (next_head s n == d) (sym (any_more (λ (chain : AddedChain). chain.head == d) c.out new_chain) ∙ e) f) ∙ h.0))
    ]

  new_apart : (d : ℕ) → EachChain (λ chain. holds d chain ≡ true → owner_of (c.out ++ new_chain ∷ []) d ≡ Some chain.head) (c.out ++ new_chain ∷ [])
  new_apart d = each_more _ c.out new_chain
      (each_weaker (λ chain. holds d chain ≡ true → owner_of c.out d ≡ Some chain.head) _ c.out
      (λ chain h on. owner_more c.out new_chain d ∙ ap (λ o. or_else o (if holds d new_chain then Some (next_head s n) else None)) (h on)) (k.apart d))
      (λ on. owner_more c.out new_chain d ∙ ap (λ o. or_else o (if holds d new_chain then Some (next_head s n) else None)) (taken_free d on).1
      ∙ ap (λ t. if t then Some (next_head s n) else None) on)

  new_lone : (d : ℕ) → length (with_same_head d (c.out ++ new_chain ∷ [])) ≤ 1
  new_lone d = elim (eqb_tells (next_head s n) d) [
    | inl h ↦ head_first c.out new_chain d (ap (is_head c.out) (sym h.1) ∙ fresh_head)
    | inr h ↦ (let old = k.lone d in let same = head_more c.out new_chain d h.0 in omega arith)
  ]

  counted : (m : ℕ) → next16 (m % 65536) ≡ (m + 1) % 65536
  counted m = omega arith

  added_side : IsSide (record c { added = c.added + 1; out = c.out ++ new_chain ∷ [] }) region (with_chain s n)
  added_side = record {
    ring = k.ring;
    added = ap next16 k.added ∙ counted c.added;
    published = k.published;
    reclaimed = k.reclaimed;
    owners_len = owned_len (next_chain s n) s.owners (next_head s n) ∙ k.owners_len;
    announced_len = set_len s.announced (next_head s n) false ∙ k.announced_len;
    owners = new_owner;
    announced = new_announced;
    added_count = (let old = k.added_count in let more = len_more c.out new_chain in omega arith);
    seen_count = k.seen_count;
    lone = new_lone;
    lone_seen = k.lone_seen;
    headed = each_more _ c.out new_chain k.headed holds_head;
    inside = new_inside;
    known = λ d e. any_more (λ (chain : AddedChain). chain.head == d) c.out new_chain ∙ or_left (is_head c.out d) (next_head s n == d) (k.known d e);
    apart = new_apart;
  }

pub ring_added : (acts : List Act) (q region : ℕ) (s : DriverSide) → RingStands acts q (Some (region, s)) → (n : ℕ) → 0 < n → n ≤ length (unowned_descriptors s) → (request : Option Request)
    → RingStands (Queue (Chain_added q (record { head = next_head s n; descriptors = next_chain s n; request = request })) ∷ acts) q (Some (region, with_chain s n))
ring_added acts q region s k n some fits request = subst (λ c. IsSide c region (with_chain s n)) (sym (ap (λ t. record (chains_of acts q) {
  added = (if t then model.added_count acts q + 1 else model.added_count acts q);
  out = (if t then model.chains_out acts q ++ record { head = next_head s n; descriptors = next_chain s n; request = request } ∷ [] else model.chains_out acts q);
}) (itself q))) (added_side (chains_of acts q) region s k n some fits request)
