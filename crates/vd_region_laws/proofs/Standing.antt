-- The rings of a device stand in live regions of their own, and acts that touch neither leave them.
use Rattle.std.proofs.Common.{◌≡◌, ℕ, ◌<◌, Bool, true, false, refl, ap, subst, ◌∙◌, sym, arith, cond, Option, None, Some, List, [], ◌∷◌, ◌++◌, ◌==◌, not, map, eqb-true, true≢false}
use Rattle.std.specs.List.{list_all, filter}
use Rattle.std.proofs.lemmas.Bool.{and_parts, eq-eqb, ne_eqb}
use Rattle.vd_model.specs.declared.queue.RingPlace.{RingPlace}
use Rattle.vd_model.specs.Setting.{Setting}
use Rattle.vd_model.specs.Creation.{Creation}
use Rattle.vd_model.specs.Acts.{Act, NodeAct, Coherent, Node, Driver, Queue, Area_made, Registered, Region_made, Region_freed, Driver_put, Ring_made, Ring_dropped, Chain_added}
use Rattle.vd_model.specs.Live.{regions, live_regions}
use Rattle.vd_model.specs.Queues.{Ring, ring_of}
use Rattle.vd_model.specs.RingTurns.{ring_at, ring_bytes}
use Rattle.vd_laws.specs.Runs.{IsAddressed}
use Rattle.vd_laws.proofs.Lists.{push_left, push_right, filter_in}
use Rattle.vd_laws.proofs.Plain.{is_plain}
use Rattle.vd_region_laws.specs.RegionLaw.{IsInside, IsHoused}
use Rattle.vd_region_laws.proofs.Spread.{IsNew, Allows, Allowed, spread}

-- ---- after each line

-- the rings are those of the device's queues, where there is one
abbrev pub AreItsOwn : Option Creation → List Act → Type 0
AreItsOwn None acts = Unit {0}
AreItsOwn (Some made) acts = (q : ℕ) (ring : Ring) → ring_of acts q ≡ Some ring → q < made.queues

pub record Standing (x : Setting) (made : Option Creation) (acts : List Act) : Type 0 where
  pub allowed : Allowed x acts
  pub own : AreItsOwn made acts
  pub housed : (q : ℕ) (ring : Ring) → ring_of acts q ≡ Some ring → IsHoused (live_regions acts) ring
  pub apart : (q k : ℕ) (ring other : Ring) → ring_of acts q ≡ Some ring → ring_of acts k ≡ Some other → ring.region ≡ other.region → q ≡ k

pub nothing_stands : (x : Setting) (made : Option Creation) → Standing x made []
nothing_stands x made = record { allowed = tt; own = own made; housed = λ q ring e. cc; apart = λ q k ring other e f g. cc } where
  own : (made : Option Creation) → AreItsOwn made []
  own None = tt
  own (Some made) = λ q ring e. cc

-- a ring after more acts is one that was there
own_kept : (made : Option Creation) (more acts : List Act) → ((q : ℕ) (ring : Ring) → ring_of more q ≡ Some ring → ring_of acts q ≡ Some ring) → AreItsOwn made acts → AreItsOwn made more
own_kept None more acts same own = tt
own_kept (Some made) more acts same own = λ q ring e. own q ring (same q ring e)

-- ---- acts that make or free no region and make no ring, and put into these regions alone

abbrev pub IsQuiet : Setting → List Coherent → Act → Type 0
IsQuiet x held (Driver (Region_made r)) = ⊥
IsQuiet x held (Driver (Region_freed r)) = ⊥
IsQuiet x held (Driver (Driver_put at bytes)) = IsAddressed x → IsInside held at bytes
IsQuiet x held (Queue (Ring_made q place region)) = ⊥
IsQuiet x held _ = Unit {0}

abbrev pub AreQuiet : Setting → List Coherent → List Act → Type 0
AreQuiet x held [] = Unit {0}
AreQuiet x held (act ∷ acts) = IsQuiet x held act × AreQuiet x held acts

pub append_quiet : (x : Setting) (held : List Coherent) (first more : List Act) → AreQuiet x held first → AreQuiet x held more → AreQuiet x held (first ++ more)
append_quiet x held [] more q r = r
append_quiet x held (act ∷ first) more q r = (q.0, append_quiet x held first more q.1 r)

pub nodes_quiet : (x : Setting) (held : List Coherent) (acts : List NodeAct) → AreQuiet x held (map Node acts)
nodes_quiet x held [] = tt
nodes_quiet x held (act ∷ acts) = (tt, nodes_quiet x held acts)

next_plain : (x : Setting) (held : List Coherent) (act : Act) → is_plain act ≡ true → IsQuiet x held act
next_plain x held (Driver act) e = cc
next_plain x held (Node (Area_made len)) e = cc
next_plain x held (Node (Registered base size)) e = cc
next_plain x held (Queue (Ring_made q place region)) e = cc
next_plain x held (Queue (Chain_added q chain)) e = cc
next_plain x held _ e = tt

pub plain_quiet : (x : Setting) (held : List Coherent) (acts : List Act) → list_all is_plain acts ≡ true → AreQuiet x held acts
plain_quiet x held [] e = tt
plain_quiet x held (act ∷ acts) e = let p = and_parts (is_plain act) (list_all is_plain acts) e in (next_plain x held act p.0, plain_quiet x held acts p.1)

next_regions : (x : Setting) (held : List Coherent) (act : Act) (acts : List Act) → IsQuiet x held act → live_regions (act ∷ acts) ≡ live_regions acts
next_regions x held (Driver (Region_made r)) acts q = absurd q
next_regions x held (Driver (Region_freed r)) acts q = absurd q
next_regions x held _ acts q = refl

pub quiet_regions : (x : Setting) (held : List Coherent) (more acts : List Act) → AreQuiet x held more → live_regions (more ++ acts) ≡ live_regions acts
quiet_regions x held [] acts q = refl
quiet_regions x held (act ∷ more) acts q = next_regions x held act (more ++ acts) q.0 ∙ quiet_regions x held more acts q.1

-- no ring after a drop that wasn't there before
dropped_ring : (q k : ℕ) (acts : List Act) (ring : Ring) → ring_of (Queue (Ring_dropped k) ∷ acts) q ≡ Some ring → ((k == q) ≡ false) × (ring_of acts q ≡ Some ring)
dropped_ring q k acts ring e = by (k == q) refl e where
  by : (b : Bool) → (k == q) ≡ b → cond b None (ring_of acts q) ≡ Some ring → ((k == q) ≡ false) × (ring_of acts q ≡ Some ring)
  by true f g = cc
  by false f g = (f, g)

next_ring : (x : Setting) (held : List Coherent) (act : Act) (acts : List Act) → IsQuiet x held act → (q : ℕ) (ring : Ring) → ring_of (act ∷ acts) q ≡ Some ring → ring_of acts q ≡ Some ring
next_ring x held (Queue (Ring_made k place region)) acts h q ring e = absurd h
next_ring x held (Queue (Ring_dropped k)) acts h q ring e = (dropped_ring q k acts ring e).1
next_ring x held _ acts h q ring e = e

pub quiet_ring : (x : Setting) (held : List Coherent) (more acts : List Act) → AreQuiet x held more → (q : ℕ) (ring : Ring) → ring_of (more ++ acts) q ≡ Some ring → ring_of acts q ≡ Some ring
quiet_ring x held [] acts h q ring e = e
quiet_ring x held (act ∷ more) acts h q ring e = quiet_ring x held more acts h.1 q ring (next_ring x held act (more ++ acts) h.0 q ring e)

next_allowed : (x : Setting) (held : List Coherent) (act : Act) (acts : List Act) → live_regions acts ≡ held → IsQuiet x held act → Allows x acts act
next_allowed x held (Driver (Region_made r)) acts e q = absurd q
next_allowed x held (Driver (Driver_put at bytes)) acts e q = λ small. subst (λ l. IsInside l at bytes) (sym e) (q small)
next_allowed x held _ acts e q = tt

pub quiet_allowed : (x : Setting) (held : List Coherent) (more acts : List Act) → live_regions acts ≡ held → AreQuiet x held more → Allowed x acts → Allowed x (more ++ acts)
quiet_allowed x held [] acts e q h = h
quiet_allowed x held (act ∷ more) acts e q h =
    (next_allowed x held act (more ++ acts) (quiet_regions x held more acts q.1 ∙ e) q.0, quiet_allowed x held more acts e q.1 h)

pub quiet_stands : (x : Setting) (made : Option Creation) (more acts : List Act) → AreQuiet x (live_regions acts) more → Standing x made acts → Standing x made (more ++ acts)
quiet_stands x made more acts q s =
    let same = quiet_ring x (live_regions acts) more acts q in
    record {
      allowed = quiet_allowed x (live_regions acts) more acts refl q s.allowed;
      own = own_kept made (more ++ acts) acts same s.own;
      housed = λ k ring e. subst (λ l. IsHoused l ring) (sym (quiet_regions x (live_regions acts) more acts q)) (s.housed k ring (same k ring e));
      apart = λ k j ring other e f. s.apart k j ring other (same k ring e) (same j other f);
    }

-- ---- a region is made

more_housed : (held : List Coherent) (r : Coherent) (ring : Ring) → IsHoused held ring → IsHoused (held ++ r ∷ []) ring
more_housed held r ring h = record { region = h.region; live = push_left h.region r held h.live; number = h.number; len = h.len; place = h.place }

pub region_stands : (x : Setting) (made : Option Creation) (acts : List Act) (r : Coherent) → IsNew x acts r → Standing x made acts → Standing x made (Driver (Region_made r) ∷ acts)
region_stands x made acts r new s = record {
  allowed = (new, s.allowed);
  own = own_kept made (Driver (Region_made r) ∷ acts) acts (λ q ring e. e) s.own;
  housed = λ q ring e. more_housed (live_regions acts) r ring (s.housed q ring e);
  apart = s.apart;
}

-- ---- a region is freed

left_housed : (held : List Coherent) (r : Coherent) (ring : Ring) → (ring.region ≡ r.number → ⊥) → IsHoused held ring → IsHoused (filter (λ l. not (l.number == r.number)) held) ring
left_housed held r ring other h = record {
  region = h.region;
  live = filter_in (λ l. not (l.number == r.number)) h.region held h.live (ap not (ne_eqb h.region.number r.number (λ e. other (sym h.number ∙ e))));
  number = h.number;
  len = h.len;
  place = h.place;
}

-- one that is no ring's
pub freed_stands : (x : Setting) (made : Option Creation) (acts : List Act) (r : Coherent) → ((q : ℕ) (ring : Ring) → ring_of acts q ≡ Some ring → ring.region ≡ r.number → ⊥)
    → Standing x made acts → Standing x made (Driver (Region_freed r) ∷ acts)
freed_stands x made acts r other s = record {
  allowed = (tt, s.allowed);
  own = own_kept made (Driver (Region_freed r) ∷ acts) acts (λ q ring e. e) s.own;
  housed = λ q ring e. left_housed (live_regions acts) r ring (other q ring e) (s.housed q ring e);
  apart = s.apart;
}

-- or is of the ring that is dropped
pub dropped_stands : (x : Setting) (made : Option Creation) (acts : List Act) (r : Coherent) (q : ℕ) → ((k : ℕ) (ring : Ring) → ring_of acts k ≡ Some ring → ring.region ≡ r.number → k ≡ q)
    → Standing x made acts → Standing x made (Queue (Ring_dropped q) ∷ Driver (Region_freed r) ∷ acts)
dropped_stands x made acts r q mine s = record {
  allowed = (tt, (tt, s.allowed));
  own = own_kept made (Queue (Ring_dropped q) ∷ Driver (Region_freed r) ∷ acts) acts (λ k ring e. (left k ring e).1) s.own;
  housed = λ k ring e. (let p = left k ring e in left_housed (live_regions acts) r ring (λ f. true≢false (sym (eq-eqb q k (sym (mine k ring p.1 f))) ∙ p.0)) (s.housed k ring p.1));
  apart = λ k j ring other e f. s.apart k j ring other (left k ring e).1 (left j other f).1;
} where
  left : (k : ℕ) (ring : Ring) → ring_of (Queue (Ring_dropped q) ∷ Driver (Region_freed r) ∷ acts) k ≡ Some ring → ((q == k) ≡ false) × (ring_of acts k ≡ Some ring)
  left k ring e = dropped_ring k q (Driver (Region_freed r) ∷ acts) ring e

-- ---- a ring is made in a new region

module _ (x : Setting) (made : Creation) (acts : List Act) (q size slot : ℕ) (low : q < made.queues) (s : Standing x (Some made) acts) where
  abbrev place : RingPlace
  place = ring_at size slot

  abbrev region : Coherent
  region = record { number = regions acts; slot = slot; len = ring_bytes size }

  abbrev new : Ring
  new = record { place = place; region = regions acts }

  abbrev after : List Act
  after = Queue (Ring_made q place (regions acts)) ∷ Driver (Region_made region) ∷ acts

  new_housed : IsHoused (live_regions acts ++ region ∷ []) new
  new_housed = record { region = region; live = push_right region (live_regions acts); number = refl; len = refl; place = refl }

  -- the number of an older ring's region is lower
  lower : (k : ℕ) (ring : Ring) → ring_of acts k ≡ Some ring → ring.region < regions acts
  lower k ring e = let h = s.housed k ring e in subst (λ n. n < regions acts) h.number ((spread x acts s.allowed).below h.region h.live)

  pub ring_stands : IsNew x acts region → Standing x (Some made) after
  ring_stands fresh = record {
    allowed = (tt, (fresh, s.allowed));
    own = λ k ring e. own k ring (q == k) refl e;
    housed = λ k ring e. housed k ring (q == k) e;
    apart = λ k j ring other e f g. apart k j ring other (q == k) (q == j) refl refl e f g;
  } where
    own : (k : ℕ) (ring : Ring) (b : Bool) → (q == k) ≡ b → cond b (Some new) (ring_of acts k) ≡ Some ring → k < made.queues
    own k ring true is e = subst (λ k. k < made.queues) (eqb-true q k is) low
    own k ring false is e = s.own k ring e

    housed : (k : ℕ) (ring : Ring) (b : Bool) → cond b (Some new) (ring_of acts k) ≡ Some ring → IsHoused (live_regions acts ++ region ∷ []) ring
    housed k ring true e = let same : new ≡ ring = cc in subst (IsHoused (live_regions acts ++ region ∷ [])) same new_housed
    housed k ring false e = more_housed (live_regions acts) region ring (s.housed k ring e)

    apart : (k j : ℕ) (ring other : Ring) (b c : Bool) → (q == k) ≡ b → (q == j) ≡ c → cond b (Some new) (ring_of acts k) ≡ Some ring → cond c (Some new) (ring_of acts j) ≡ Some other
        → ring.region ≡ other.region → k ≡ j
    apart k j ring other true true is it e f g = sym (eqb-true q k is) ∙ eqb-true q j it
    apart k j ring other true false is it e f g =
        let same : new ≡ ring = cc in
        let number : regions acts ≡ ring.region = ap (λ r. r.region) same in
        let less = lower j other f in
        absurd (omega arith)
    apart k j ring other false true is it e f g =
        let same : new ≡ other = cc in
        let number : regions acts ≡ other.region = ap (λ r. r.region) same in
        let less = lower k ring e in
        absurd (omega arith)
    apart k j ring other false false is it e f g = s.apart k j ring other e f g
