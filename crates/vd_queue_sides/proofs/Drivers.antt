-- The driver's side of a queue: acts of other kinds, a new ring, and a publish.
use Rattle.std.proofs.Common.{◌≡◌, ℕ, true, false, if◌then◌else◌, refl, ap, sym, subst, ◌∙◌, arith, List, [], ◌∷◌, Some, None, Option, true≢false}
use Rattle.vd_model.specs.declared.queue.RingPlace.{RingPlace}
use Rattle.vd_model.specs.Acts.{Act, Queue, Ring_made, Ring_dropped, Chains_published}
use Rattle.vd_model.specs.Queues as model
use Rattle.vd_model.specs.Queues.{is_in_chains, numbers_below}
use Rattle.vr_driver.specs.Side.{DriverSide, side_of, all_published}
use Rattle.vd_queue_sides.specs.Chains.{Chains, chains_of, is_ring_act, IsSide, RingStands}
use Rattle.vd_queue_sides.proofs.Leaving.{chains_after}
use Rattle.vd_queue_sides.proofs.Daemons.{itself}
use Rattle.vd_queue_sides.proofs.Lists.{replicate_at, replicate_default, replicate_len}

pub ring_after : (q : ℕ) (act : Act) (acts : List Act) → is_ring_act q act ≡ false → (kept : Option (ℕ × DriverSide)) → RingStands acts q kept → RingStands (act ∷ acts) q kept
ring_after q act acts e None s = ap (λ (c : Chains). c.ring) (chains_after q act acts e) ∙ s
ring_after q act acts e (Some kept) s = subst (λ c. IsSide c kept.0 kept.1) (sym (chains_after q act acts e)) s

made_side : (place : RingPlace) (region : ℕ) → IsSide (record { ring = Some (record { place = place; region = region }); added = 0; published = 0; reclaimed = 0; out = []; seen = [] }) region (side_of place)
made_side place region = record {
  ring = refl;
  added = refl;
  published = refl;
  reclaimed = refl;
  owners_len = replicate_len place.size None;
  announced_len = replicate_len place.size false;
  owners = λ d below. replicate_default place.size None d;
  announced = λ d e. absurd (true≢false (sym e));
  added_count = refl;
  seen_count = refl;
  lone = λ d. omega arith;
  lone_seen = λ d. omega arith;
  headed = tt;
  inside = λ d e. absurd (true≢false (sym e));
  known = λ d e. e;
  apart = λ d. tt;
}

pub ring_made : (acts : List Act) (q region : ℕ) (place : RingPlace) → RingStands (Queue (Ring_made q place region) ∷ acts) q (Some (region, side_of place))
ring_made acts q region place = subst (λ c. IsSide c region (side_of place)) (sym (ap (λ t. record {
  ring = (if t then Some (record { place = place; region = region }) else model.ring_of acts q);
  added = (if t then 0 else model.added_count acts q);
  published = (if t then 0 else model.published_count acts q);
  reclaimed = (if t then 0 else model.reclaimed_count acts q);
  out = (if t then [] else model.chains_out acts q);
  seen = (if t then [] else model.published_chains_out acts q);
}) (itself q))) (made_side place region)

-- ---- all is published

published_side : (c : Chains) (region : ℕ) (s : DriverSide) → IsSide c region s → IsSide (record c { published = c.added; seen = c.out }) region (all_published s)
published_side c region s k = record {
  ring = k.ring;
  added = k.added;
  published = k.added;
  reclaimed = k.reclaimed;
  owners_len = k.owners_len;
  announced_len = replicate_len s.place.size true;
  owners = k.owners;
  announced = λ d e. replicate_at s.place.size true false d (k.inside d e) ∙ sym e;
  added_count = k.added_count;
  seen_count = k.added_count;
  lone = k.lone;
  lone_seen = k.lone;
  headed = k.headed;
  inside = k.inside;
  known = λ d e. e;
  apart = k.apart;
}

-- the ring is dropped
pub ring_dropped : (acts : List Act) (q : ℕ) → RingStands (Queue (Ring_dropped q) ∷ acts) q None
ring_dropped acts q = ap (λ t. if t then None else model.ring_of acts q) (itself q)

pub ring_published : (acts : List Act) (q region : ℕ) (s : DriverSide) → RingStands acts q (Some (region, s)) → RingStands (Queue (Chains_published q) ∷ acts) q (Some (region, all_published s))
ring_published acts q region s k = subst (λ c. IsSide c region (all_published s)) (sym (ap (λ t. record (chains_of acts q) {
  published = (if t then model.added_count acts q else model.published_count acts q);
  seen = (if t then model.chains_out acts q else model.published_chains_out acts q);
}) (itself q))) (published_side (chains_of acts q) region s k)
