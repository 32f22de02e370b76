-- Acts on one ring leave the others as they are.
use Rattle.std.proofs.Common.{◌≡◌, ℕ, ◌+◌, ◌<◌, ◌≤◌, true, false, refl, subst, ◌∙◌, sym, arith, Some, List, [], ◌∷◌, ◌++◌, length, ◌⊎◌, inl, inr}
use Rattle.vd_num.specs.Number.{is_within}
use Rattle.vd_model.specs.declared.queue.RingPlace.{RingPlace}
use Rattle.vd_model.specs.Setting.{Setting, bounce_size}
use Rattle.vd_model.specs.Acts.{Act, Node, Driver, Queue, AddedChain, Streaming, Daemon_put, Driver_put}
use Rattle.vd_model.specs.Live.{live_mappings, live_regions, iova_of, maps_address}
use Rattle.vd_model.specs.Queues.{Ring, ring_of, chains_out}
use Rattle.vd_laws.specs.Among.{Among}
use Rattle.vd_laws.specs.Runs.{IsAddressed, IsWhole}
use Rattle.vd_laws.proofs.Legal.{maps_of, Legal}
use Rattle.vd_laws.proofs.Sound.{Sound, sound}
use Rattle.vd_laws.proofs.Ranges.{is_in, past_range, before_range}
use Rattle.vd_ring_bytes.specs.FirmLaw.{Misses, AllMiss}
use Rattle.vd_ring_bytes.proofs.Numbers.{same_or_not}
use Rattle.vd_ring_bytes.proofs.RingLayout.{IsLaid, end_of}
use Rattle.vd_ring_bytes.proofs.RingMemory.{Spares}
use Rattle.vd_ring_bytes.proofs.SameRing.{AreElsewhere, same_by}
use Rattle.vd_ring_turns.proofs.CalmRings.{HasRing, Calms, ring_same}

-- the chain has no mapping in common with those of other queues
abbrev pub IsOwn : List Act → ℕ → AddedChain → Type 0
IsOwn acts k a = (q : ℕ) (b : AddedChain) → (q ≡ k → ⊥) → Among b (chains_out acts q) → (m : ℕ) → Among m (maps_of a.request) → Among m (maps_of b.request) → ⊥

-- acts on the ring of queue k alone
pub turn_calms : (x : Setting) → IsAddressed x → IsWhole x → (n : ℕ) (new acts : List Act) → Legal x (new ++ acts) → (k : ℕ)
    → ((q : ℕ) → (q ≡ k → ⊥) → AreElsewhere q new) → ring_of (new ++ acts) k ≡ ring_of acts k
    → ((q : ℕ) (ring : Ring) → (q ≡ k → ⊥) → ring_of acts q ≡ Some ring → Spares x new acts ring.place (chains_out acts q))
    → ((ring : Ring) → ring_of acts k ≡ Some ring → HasRing x (new ++ acts) k ring)
    → ((a : AddedChain) → Among a (chains_out (new ++ acts) k) → Among a (chains_out acts k) ⊎ IsOwn acts k a) → Calms x n acts → Calms x n (new ++ acts)
turn_calms x small whole n new acts legal k elsewhere kept spares its_ring outs c = record {
  rings = λ q ring e. rings q ring e (same_or_not q k);
  low = λ q ring e. c.low q ring (was q (same_or_not q k) ring e);
  apart = λ q j ring other d e f. c.apart q j ring other d (was q (same_or_not q k) ring e) (was j (same_or_not j k) other f);
  alone = λ q j other a b i l m ma mb. alone q j other a b (out_was q a (same_or_not q k) i) (out_was j b (same_or_not j k) l) m ma mb;
} where
  out_was : (q : ℕ) (a : AddedChain) → (q ≡ k) ⊎ (q ≡ k → ⊥) → Among a (chains_out (new ++ acts) q) → Among a (chains_out acts q) ⊎ ((q ≡ k) × IsOwn acts k a)
  out_was q a (inl is) i = elim (outs a (subst (λ j. Among a (chains_out (new ++ acts) j)) is i)) [ inl h ↦ inl (subst (λ j. Among a (chains_out acts j)) (sym is) h) | inr h ↦ inr (is, h) ]
  out_was q a (inr other) i = inl (subst (Among a) (same_by x q new acts (elsewhere q other)).out i)

  alone : (q j : ℕ) → (q ≡ j → ⊥) → (a b : AddedChain) → Among a (chains_out acts q) ⊎ ((q ≡ k) × IsOwn acts k a) → Among b (chains_out acts j) ⊎ ((j ≡ k) × IsOwn acts k b) → (m : ℕ) → Among m (maps_of a.request) → Among m (maps_of b.request) → ⊥
  alone q j other a b (inl i) (inl l) m ma mb = c.alone q j other a b i l m ma mb
  alone q j other a b (inr h) (inl l) m ma mb = h.1 j b (λ f. other (h.0 ∙ sym f)) l m ma mb
  alone q j other a b (inl i) (inr h) m ma mb = h.1 q a (λ f. other (f ∙ sym h.0)) i m mb ma
  alone q j other a b (inr h) (inr g) m ma mb = other (h.0 ∙ sym g.0)

  was : (q : ℕ) → (q ≡ k) ⊎ (q ≡ k → ⊥) → (ring : Ring) → ring_of (new ++ acts) q ≡ Some ring → ring_of acts q ≡ Some ring
  was q (inl is) ring e = subst (λ j. ring_of acts j ≡ Some ring) (sym is) (sym kept ∙ subst (λ j. ring_of (new ++ acts) j ≡ Some ring) is e)
  was q (inr other) ring e = sym (same_by x q new acts (elsewhere q other)).ring ∙ e

  rings : (q : ℕ) (ring : Ring) → ring_of (new ++ acts) q ≡ Some ring → (q ≡ k) ⊎ (q ≡ k → ⊥) → HasRing x (new ++ acts) q ring
  rings q ring e (inl is) = subst (λ j. HasRing x (new ++ acts) j ring) (sym is) (its_ring ring (subst (λ j. ring_of acts j ≡ Some ring) is (was q (inl is) ring e)))
  rings q ring e (inr other) =
      let there = was q (inr other) ring e in
      ring_same x small whole new acts legal q (same_by x q new acts (elsewhere q other)) ring (spares q ring other there) (c.rings q ring there)

-- acts on no ring, which leave what all of them have
pub all_calms : (x : Setting) → IsAddressed x → IsWhole x → (n : ℕ) (new acts : List Act) → Legal x (new ++ acts)
    → ((q : ℕ) → AreElsewhere q new) → ((q : ℕ) (ring : Ring) → ring_of acts q ≡ Some ring → Spares x new acts ring.place (chains_out acts q)) → Calms x n acts → Calms x n (new ++ acts)
all_calms x small whole n new acts legal elsewhere spares c = record {
  rings = λ q ring e. (let there = was q ring e in ring_same x small whole new acts legal q (same_by x q new acts (elsewhere q)) ring (spares q ring there) (c.rings q ring there));
  low = λ q ring e. c.low q ring (was q ring e);
  apart = λ q j ring other d e f. c.apart q j ring other d (was q ring e) (was j other f);
  alone = λ q j other a b i l. c.alone q j other a b (subst (Among a) (same_by x q new acts (elsewhere q)).out i) (subst (Among b) (same_by x j new acts (elsewhere j)).out l);
} where
  was : (q : ℕ) (ring : Ring) → ring_of (new ++ acts) q ≡ Some ring → ring_of acts q ≡ Some ring
  was q ring e = sym (same_by x q new acts (elsewhere q)).ring ∙ e

-- ---- puts in a ring

-- the act is on a queue, or a put within the ring
abbrev pub IsWithin : RingPlace → Act → Type 0
IsWithin r (Driver (Driver_put at bytes)) = (r.desc ≤ at) × (at + length bytes ≤ end_of r)
IsWithin r (Node (Daemon_put at bytes)) = (r.desc ≤ at) × (at + length bytes ≤ end_of r)
IsWithin r (Queue act) = Unit {0}
IsWithin r _ = ⊥

abbrev pub AreWithin : RingPlace → List Act → Type 0
AreWithin r [] = Unit {0}
AreWithin r (act ∷ acts) = IsWithin r act × AreWithin r acts

pub within_append : (r : RingPlace) (xs ys : List Act) → AreWithin r xs → AreWithin r ys → AreWithin r (xs ++ ys)
within_append r [] ys h k = k
within_append r (act ∷ xs) ys h k = (h.0, within_append r xs ys h.1 k)

outside : (at len a lo hi : ℕ) → lo ≤ at → at + len ≤ hi → (a < lo) ⊎ (hi ≤ a) → is_within at len a ≡ false
outside at len a lo hi l h (inl e) = before_range at len a (omega arith)
outside at len a lo hi l h (inr e) = past_range at len a (omega arith)

within_miss : (r : RingPlace) (act : Act) (a : ℕ) → IsWithin r act → (a < r.desc) ⊎ (end_of r ≤ a) → Misses act a
within_miss r (Driver (Driver_put at bytes)) a h o = outside at (length bytes) a r.desc (end_of r) h.0 h.1 o
within_miss r (Node (Daemon_put at bytes)) a h o = outside at (length bytes) a r.desc (end_of r) h.0 h.1 o
within_miss r (Queue act) a h o = tt
within_miss r _ a h o = absurd h

pub within_all : (r : RingPlace) (acts : List Act) (a : ℕ) → AreWithin r acts → (a < r.desc) ⊎ (end_of r ≤ a) → AllMiss acts a
within_all r [] a h o = tt
within_all r (act ∷ acts) a h o = (within_miss r act a h.0 o, within_all r acts a h.1 o)

one_live : (r : RingPlace) (act : Act) (acts : List Act) → IsWithin r act → (live_mappings (act ∷ acts) ≡ live_mappings acts) × (live_regions (act ∷ acts) ≡ live_regions acts)
one_live r (Driver (Driver_put at bytes)) acts h = (refl, refl)
one_live r (Node (Daemon_put at bytes)) acts h = (refl, refl)
one_live r (Queue act) acts h = (refl, refl)
one_live r _ acts h = absurd h

pub within_live : (r : RingPlace) (new acts : List Act) → AreWithin r new → (live_mappings (new ++ acts) ≡ live_mappings acts) × (live_regions (new ++ acts) ≡ live_regions acts)
within_live r [] acts h = (refl, refl)
within_live r (act ∷ new) acts h = let o = one_live r act (new ++ acts) h.0 in let m = within_live r new acts h.1 in (o.0 ∙ m.0, o.1 ∙ m.1)

-- an address of a live mapping is below each ring
pub map_below : (x : Setting) (acts : List Act) (m : Streaming) (a : ℕ) → Sound x acts → Among m (live_mappings acts) → maps_address m a ≡ true → a < bounce_size x
map_below x acts m a s there here =
    let f = s.fits m there in
    let r = is_in (iova_of m) m.want.len a here in
    let hi : a < iova_of m + m.want.len = r.1 in
    omega arith

-- acts within a ring leave another one
pub within_spares : (x : Setting) (new acts : List Act) → Legal x acts → (target r : RingPlace) → IsLaid x target → IsLaid x r → AreWithin target new → (end_of target ≤ r.desc) ⊎ (end_of r ≤ target.desc) → (chains : List AddedChain) → Spares x new acts r chains
within_spares x new acts legal target r lo lr w apart chains = record {
  table = λ a l h. within_all target new a w (side a l (let d = lr.driver in let e = lr.device in omega arith));
  driver = λ a l h. within_all target new a w (side a (let d = lr.driver in omega arith) (let e = lr.device in omega arith));
  device = λ a l h. within_all target new a w (side a (let d = lr.driver in let e = lr.device in omega arith) (omega arith));
  alive = λ c i m j k. subst (Among m) (sym (within_live target new acts w).0) j;
  tables = λ c i m j k a here. within_all target new a w (inl (let b = map_below x acts m a (sound x acts legal) j here in let d = lo.low in omega arith));
  regions = λ c i. subst (Among c) (sym (within_live target new acts w).1) i;
} where
  side : (a : ℕ) → r.desc ≤ a → a < end_of r → (a < target.desc) ⊎ (end_of target ≤ a)
  side a l h = elim apart [ inl e ↦ inr (omega arith) | inr e ↦ inl (omega arith) ]
