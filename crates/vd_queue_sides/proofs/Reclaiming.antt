-- A chain is reclaimed.
use Rattle.std.proofs.Common.{◌≡◌, ℕ, zero, suc, ◌+◌, ◌%◌, Bool, true, false, ◌==◌, ◌||◌, if◌then◌else◌, inl, inr, refl, ap, sym, subst, ◌∙◌, arith, List, [], ◌∷◌, length, map, Some, None, Option, filter, true≢false, get_or}
use Rattle.std.specs.Prelude.{find, not}
use Rattle.std.specs.Option.{option_map}
use Rattle.std.proofs.lemmas.Bool.Decides.{eqb_tells}
use Rattle.vd_model.specs.Acts.{Act, AddedChain, Queue, Chain_reclaimed}
use Rattle.vd_model.specs.Queues as model
use Rattle.vd_model.specs.Queues.{is_other_chain}
use Rattle.vd_model.specs.Rings.{next16}
use Rattle.vr_driver.specs.Side.{DriverSide, other_owner, without_chain}
use Rattle.vd_queue_sides.specs.Chains.{Chains, chains_of, holds, owner_of, is_head, EachChain, IsSide, RingStands}
use Rattle.vd_queue_sides.proofs.Daemons.{itself}
use Rattle.vd_queue_sides.proofs.Counting.{some_head, parted, fewer}

abbrev P : ℕ → Option ℕ → AddedChain → Type 0
P d o chain = holds d chain ≡ true → o ≡ Some chain.head

some_same : {a b : ℕ} → Some a ≡ Some b → a ≡ b
some_same e = cc

-- one that doesn't hold the descriptor doesn't count
skip : (p : AddedChain → Bool) (c : AddedChain) (cs : List AddedChain) (d : ℕ) → holds d c ≡ false → (u : Bool) → p c ≡ u → owner_of (if p c then c ∷ cs else cs) d ≡ owner_of cs d
skip p c cs d f true g = ap (λ t. owner_of (if t then c ∷ cs else cs) d) g ∙ ap (λ t. option_map (λ (c : AddedChain). c.head) (if t then Some c else find (holds d) cs)) f
skip p c cs d f false g = ap (λ t. owner_of (if t then c ∷ cs else cs) d) g

owner_none : (p : AddedChain → Bool) (chains : List AddedChain) (d : ℕ) → owner_of chains d ≡ None → owner_of (filter p chains) d ≡ None
owner_none p [] d e = refl
owner_none p (c ∷ cs) d e = by (holds d c) refl (owner_none p cs d) where
  some_is_none : {n : ℕ} → Some n ≡ None → ⊥
  some_is_none e = cc

  by : (t : Bool) → holds d c ≡ t → (owner_of cs d ≡ None → owner_of (filter p cs) d ≡ None) → owner_of (if p c then c ∷ filter p cs else filter p cs) d ≡ None
  by true f rest = absurd (some_is_none (sym (ap (λ t. option_map (λ (c : AddedChain). c.head) (if t then Some c else find (holds d) cs)) f) ∙ e))
  by false f rest = skip p c (filter p cs) d f (p c) refl ∙ rest (sym (ap (λ t. option_map (λ (c : AddedChain). c.head) (if t then Some c else find (holds d) cs)) f) ∙ e)

owner_gone : (head d o : ℕ) → o ≡ head → (chains : List AddedChain) → EachChain (P d (Some o)) chains → owner_of (filter (is_other_chain head) chains) d ≡ None
owner_gone head d o same [] all = refl
owner_gone head d o same (c ∷ cs) all = by (holds d c) refl (owner_gone head d o same cs all.1) where
  by : (t : Bool) → holds d c ≡ t → owner_of (filter (is_other_chain head) cs) d ≡ None → owner_of (if is_other_chain head c then c ∷ filter (is_other_chain head) cs else filter (is_other_chain head) cs) d ≡ None
  by true f rest =
      let it : c.head ≡ head = sym (some_same (all.0 f)) ∙ same in
      let test : is_other_chain head c ≡ false = ap not (ap (λ k. k == head) it ∙ itself head) in
      ap (λ t. owner_of (if t then c ∷ filter (is_other_chain head) cs else filter (is_other_chain head) cs) d) test ∙ rest
  by false f rest = skip (is_other_chain head) c (filter (is_other_chain head) cs) d f (is_other_chain head c) refl ∙ rest

owner_stays : (head d o : ℕ) → (o == head) ≡ false → (chains : List AddedChain) → EachChain (P d (Some o)) chains → owner_of chains d ≡ Some o → owner_of (filter (is_other_chain head) chains) d ≡ Some o
owner_stays head d o off [] all e = e
owner_stays head d o off (c ∷ cs) all e = by (holds d c) refl (owner_stays head d o off cs all.1) where
  by : (t : Bool) → holds d c ≡ t → (owner_of cs d ≡ Some o → owner_of (filter (is_other_chain head) cs) d ≡ Some o)
      → owner_of (if is_other_chain head c then c ∷ filter (is_other_chain head) cs else filter (is_other_chain head) cs) d ≡ Some o
  by true f rest =
      let it : o ≡ c.head = some_same (all.0 f) in
      let test : is_other_chain head c ≡ true = ap not (ap (λ k. k == head) (sym it) ∙ off) in
      ap (λ t. owner_of (if t then c ∷ filter (is_other_chain head) cs else filter (is_other_chain head) cs) d) test
      ∙ ap (λ t. option_map (λ (c : AddedChain). c.head) (if t then Some c else find (holds d) (filter (is_other_chain head) cs))) f ∙ ap Some (sym it)
  by false f rest =
      skip (is_other_chain head) c (filter (is_other_chain head) cs) d f (is_other_chain head c) refl
      ∙ rest (sym (ap (λ t. option_map (λ (c : AddedChain). c.head) (if t then Some c else find (holds d) cs)) f) ∙ e)

-- the owner of a descriptor after the chains of a head gave theirs back
owner_left : (head d : ℕ) (chains : List AddedChain) (o : Option ℕ) → owner_of chains d ≡ o → EachChain (P d o) chains → owner_of (filter (is_other_chain head) chains) d ≡ other_owner head o
owner_left head d chains None e all = owner_none (is_other_chain head) chains d e
owner_left head d chains (Some o) e all = elim (eqb_tells o head) [
  | inl h ↦ owner_gone head d o h.1 chains all ∙ sym (ap (λ t. if t then None else Some o) h.0)
  | inr h ↦ owner_stays head d o h.0 chains all e ∙ sym (ap (λ t. if t then None else Some o) h.0)
]

map_at : (head : ℕ) (owners : List (Option ℕ)) (d : ℕ) → get_or (map (other_owner head) owners) d None ≡ other_owner head (get_or owners d None)
map_at head [] d = refl
map_at head (o ∷ owners) zero = refl
map_at head (o ∷ owners) (suc d) = map_at head owners d

map_len : (head : ℕ) (owners : List (Option ℕ)) → length (map (other_owner head) owners) ≡ length owners
map_len head [] = refl
map_len head (o ∷ owners) = ap suc (map_len head owners)

-- heads that are left
head_left : (head : ℕ) (chains : List AddedChain) (d : ℕ) → (d == head) ≡ false → is_head (filter (is_other_chain head) chains) d ≡ is_head chains d
head_left head [] d off = refl
head_left head (c ∷ cs) d off = by (c.head == head) refl (head_left head cs d off) where
  by : (t : Bool) → (c.head == head) ≡ t → is_head (filter (is_other_chain head) cs) d ≡ is_head cs d
      → is_head (if is_other_chain head c then c ∷ filter (is_other_chain head) cs else filter (is_other_chain head) cs) d ≡ ((c.head == d) || is_head cs d)
  by false f rest =
      ap (λ t. is_head (if not t then c ∷ filter (is_other_chain head) cs else filter (is_other_chain head) cs) d) f
      ∙ ap (λ t. (c.head == d) || t) rest
  by true f rest =
      ap (λ t. is_head (if not t then c ∷ filter (is_other_chain head) cs else filter (is_other_chain head) cs) d) f
      ∙ rest ∙ sym (ap (λ t. t || is_head cs d) (other (c.head == d) refl)) where
        other : (t : Bool) → (c.head == d) ≡ t → (c.head == d) ≡ false
        other false g = g
        other true g = absurd (true≢false (sym (ap (λ k. k == head) (sym (elim (eqb_tells c.head d) [ inl h ↦ h.1 | inr h ↦ absurd (true≢false (sym g ∙ h.0)) ])) ∙ f) ∙ off))

head_gone : (head : ℕ) (chains : List AddedChain) → is_head (filter (is_other_chain head) chains) head ≡ false
head_gone head [] = refl
head_gone head (c ∷ cs) = by (c.head == head) refl (head_gone head cs) where
  by : (t : Bool) → (c.head == head) ≡ t → is_head (filter (is_other_chain head) cs) head ≡ false → is_head (if is_other_chain head c then c ∷ filter (is_other_chain head) cs else filter (is_other_chain head) cs) head ≡ false
  by true f rest = ap (λ t. is_head (if not t then c ∷ filter (is_other_chain head) cs else filter (is_other_chain head) cs) head) f ∙ rest
  by false f rest =
      ap (λ t. is_head (if not t then c ∷ filter (is_other_chain head) cs else filter (is_other_chain head) cs) head) f
      ∙ ap (λ t. t || is_head (filter (is_other_chain head) cs) head) f ∙ rest

-- a head that is left isn't the one that is gone
head_other : (head : ℕ) (chains : List AddedChain) (d : ℕ) → is_head (filter (is_other_chain head) chains) d ≡ true → (d == head) ≡ false
head_other head chains d e = elim (eqb_tells d head) [
  | inl h ↦ absurd (true≢false (sym e ∙ ap (is_head (filter (is_other_chain head) chains)) h.1 ∙ head_gone head chains))
  | inr h ↦ h.0
]

pub each_left : (Q R : AddedChain → Type 0) (head : ℕ) (chains : List AddedChain) → ((c : AddedChain) → (c.head == head) ≡ false → Q c → R c) → EachChain Q chains → EachChain R (filter (is_other_chain head) chains)
each_left Q R head [] f all = tt
each_left Q R head (c ∷ cs) f all = by (c.head == head) refl (each_left Q R head cs f all.1) where
  by : (t : Bool) → (c.head == head) ≡ t → EachChain R (filter (is_other_chain head) cs) → EachChain R (if is_other_chain head c then c ∷ filter (is_other_chain head) cs else filter (is_other_chain head) cs)
  by true g rest = subst (λ t. EachChain R (if not t then c ∷ filter (is_other_chain head) cs else filter (is_other_chain head) cs)) (sym g) rest
  by false g rest = subst (λ t. EachChain R (if not t then c ∷ filter (is_other_chain head) cs else filter (is_other_chain head) cs)) (sym g) (f c g all.0, rest)

module _ (c : Chains) (region : ℕ) (s : DriverSide) (k : IsSide c region s) (head : ℕ) (waits : is_head c.seen head ≡ true) where
  after_owner : (d : ℕ) → owner_of (filter (is_other_chain head) c.out) d ≡ other_owner head (owner_of c.out d)
  after_owner d = owner_left head d c.out (owner_of c.out d) refl (k.apart d)

  counted : (m : ℕ) → next16 (m % 65536) ≡ (m + 1) % 65536
  counted m = omega arith

  pub reclaimed_side : IsSide (record c { reclaimed = c.reclaimed + 1; out = filter (is_other_chain head) c.out; seen = filter (is_other_chain head) c.seen }) region (without_chain s head)
  reclaimed_side = record {
    ring = k.ring;
    added = k.added;
    published = k.published;
    reclaimed = ap next16 k.reclaimed ∙ counted c.reclaimed;
    owners_len = map_len head s.owners ∙ k.owners_len;
    announced_len = k.announced_len;
    owners = λ d below. map_at head s.owners d ∙ ap (other_owner head) (k.owners d below) ∙ sym (after_owner d);
    announced = λ d e. let off = head_other head c.out d e in
        k.announced d (sym (head_left head c.out d off) ∙ e) ∙ sym (head_left head c.seen d off);
    added_count = (let old = k.added_count in let one = k.lone head in let there = some_head c.out head (k.known head waits) in let all = parted c.out head in omega arith);
    seen_count = (let old = k.seen_count in let one = k.lone_seen head in let there = some_head c.seen head waits in let all = parted c.seen head in omega arith);
    lone = λ d. (let old = k.lone d in let less = fewer c.out head d in omega arith);
    lone_seen = λ d. (let old = k.lone_seen d in let less = fewer c.seen head d in omega arith);
    headed = each_left _ _ head c.out (λ c off h. h) k.headed;
    inside = λ d e. k.inside d (sym (head_left head c.out d (head_other head c.out d e)) ∙ e);
    known = λ d e. let off = head_other head c.seen d e in
        head_left head c.out d off ∙ k.known d (sym (head_left head c.seen d off) ∙ e);
    apart = λ d. each_left (P d (owner_of c.out d)) _ head c.out (λ chain off h on. after_owner d ∙ ap (other_owner head) (h on) ∙ ap (λ t. if t then None else Some chain.head) off) (k.apart d);
  }

pub ring_reclaimed : (acts : List Act) (q region : ℕ) (s : DriverSide) (head : ℕ) → RingStands acts q (Some (region, s)) → is_head (model.published_chains_out acts q) head ≡ true → RingStands (Queue (Chain_reclaimed q head) ∷ acts) q (Some (region, without_chain s head))
ring_reclaimed acts q region s head k waits = subst (λ c. IsSide c region (without_chain s head)) (sym (ap (λ t. record (chains_of acts q) {
  reclaimed = (if t then model.reclaimed_count acts q + 1 else model.reclaimed_count acts q);
  out = (if t then filter (is_other_chain head) (model.chains_out acts q) else model.chains_out acts q);
  seen = (if t then filter (is_other_chain head) (model.published_chains_out acts q) else model.published_chains_out acts q);
}) (itself q))) (reclaimed_side (chains_of acts q) region s k head waits)
