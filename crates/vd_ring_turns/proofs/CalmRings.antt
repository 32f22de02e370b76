-- What holds of each ring of a device while nobody disturbs them.
use Rattle.std.proofs.Common.{◌≡◌, ℕ, ◌+◌, ◌%◌, ◌==◌, ◌<◌, ◌≤◌, true, refl, ap, subst, ◌∙◌, sym, arith, None, Some, Ok, List, [], ◌∷◌, ◌++◌, length, get_or, not, ◌⊎◌, inl, inr}
use Rattle.std.proofs.lemmas.Bool.{ne_eqb}
use Rattle.vd_model.specs.declared.parts.Part.{Part}
use Rattle.vd_model.specs.Setting.{Setting, bounce_size}
use Rattle.vd_model.specs.Acts.{Act, Node, Driver, Bus, Message_act, State, Disk_act, Queue, AddedChain, Streaming, Opened, Closed, Deregistered, Config_put, Buffer, Zeroed, Freed, Poked, Mapped, Unmapped, Executed}
use Rattle.vd_model.specs.Live.{live_mappings, live_regions, maps_address}
use Rattle.vd_model.specs.Queues.{Ring, ring_of, added_count, reclaimed_count, chains_out, published_chains_out, before_first, finishes, in_hand}
use Rattle.vd_model.specs.Rings.{number16, used_index_at}
use Rattle.vd_model.specs.DaemonTurns.{daemon_memory, queue_place, hand}
use Rattle.vd_model.specs.RingTurns.{mapping_part}
use Rattle.vd_laws.specs.Among.{Among}
use Rattle.vd_laws.specs.Runs.{IsAddressed, IsWhole}
use Rattle.vd_ring_laws.specs.Heads.{placed_heads, pushed_heads}
use Rattle.vd_laws.proofs.Lists.{push_left, filter_in}
use Rattle.vd_laws.proofs.Legal.{maps_of, Legal}
use Rattle.vd_laws.proofs.Sound.{Sound, sound}
use Rattle.vd_ring_laws.specs.ChainLaw.{have_descriptors}
use Rattle.vd_ring_bytes.specs.FirmLaw.{Misses}
use Rattle.vd_ring_bytes.proofs.Mappings.{past_map, one_map}
use Rattle.vd_ring_bytes.proofs.RingLayout.{IsLaid, end_of}
use Rattle.vd_ring_bytes.proofs.RequestSource.{Given, given_still}
use Rattle.vd_ring_bytes.proofs.RingMemory.{course_of, Holds, Spares, holds_still}
use Rattle.vd_ring_bytes.proofs.SameRing.{IsElsewhere, Same, same_by, rings_made}

-- the block daemon's position: the used index that the first fetch loaded, and one for each finish since, is the number of pushed heads
pub record IsPlaced (x : Setting) (acts : List Act) (q : ℕ) (earlier : List Act) : Type 0 where
  pub from : ℕ
  pub loaded : number16 (daemon_memory x earlier) (used_index_at (queue_place earlier q)) ≡ Ok from
  pub moved : (finishes acts q + from) % 65536 ≡ length (pushed_heads x acts q) % 65536

-- the request in hand is the next one that was placed, and the device writes to its own mappings
pub record IsNext (x : Setting) (acts : List Act) (q : ℕ) (earlier : List Act) : Type 0 where
  pub chain : AddedChain
  pub there : Among chain (chains_out acts q)
  pub head : (hand x earlier q).head ≡ chain.head
  pub more : length (pushed_heads x acts q) < length (placed_heads acts q)
  pub next : get_or (placed_heads acts q) (length (pushed_heads x acts q)) 0 ≡ chain.head
  pub parts : (p : Part) → Among p (hand x earlier q).parts → p.writable ≡ true → (m : Streaming) × Among m (live_mappings acts) × Among m.number (maps_of chain.request) × (p ≡ mapping_part m)
  -- it is the one that was asked
  pub given : Given x acts chain (hand x earlier q)

pub record HasRing (x : Setting) (acts : List Act) (q : ℕ) (ring : Ring) : Type 0 where
  pub holds : Holds x acts ring.place (course_of x acts q)
  pub published : published_chains_out acts q ≡ chains_out acts q
  pub counted : added_count acts q ≡ length (placed_heads acts q)
  pub have : have_descriptors acts q ≡ true
  pub position : (earlier : List Act) → before_first acts q ≡ Some earlier → IsPlaced x acts q earlier
  pub inhand : (earlier : List Act) → in_hand acts q ≡ Some earlier → IsNext x acts q earlier

-- all rings of a device of n queues
pub record Calms (x : Setting) (n : ℕ) (acts : List Act) : Type 0 where
  pub rings : (q : ℕ) (ring : Ring) → ring_of acts q ≡ Some ring → HasRing x acts q ring
  pub low : (q : ℕ) (ring : Ring) → ring_of acts q ≡ Some ring → q < n
  pub apart : (q k : ℕ) (ring other : Ring) → (q ≡ k → ⊥) → ring_of acts q ≡ Some ring → ring_of acts k ≡ Some other → (end_of ring.place ≤ other.place.desc) ⊎ (end_of other.place ≤ ring.place.desc)
  -- requests of two queues have no mapping in common
  pub alone : (q k : ℕ) → (q ≡ k → ⊥) → (a b : AddedChain) → Among a (chains_out acts q) → Among b (chains_out acts k) → (m : ℕ) → Among m (maps_of a.request) → Among m (maps_of b.request) → ⊥

-- ---- a ring that is left alone

module _ (x : Setting) (small : IsAddressed x) (whole : IsWhole x) (new acts : List Act) (legal : Legal x (new ++ acts)) (q : ℕ) (s : Same x (new ++ acts) acts q) where
  course_same : course_of x (new ++ acts) q ≡ course_of x acts q
  course_same =
      ap (λ l. record { queue = q; made = rings_made (new ++ acts) q; placed = l; pushed = pushed_heads x (new ++ acts) q; out = chains_out (new ++ acts) q; reclaimed = (course_of x (new ++ acts) q).reclaimed }) s.placed
      ∙ (ap (λ l. record { queue = q; made = rings_made (new ++ acts) q; placed = placed_heads acts q; pushed = l; out = chains_out (new ++ acts) q; reclaimed = (course_of x (new ++ acts) q).reclaimed }) s.pushed
      ∙ (ap (λ l. record { queue = q; made = rings_made (new ++ acts) q; placed = placed_heads acts q; pushed = pushed_heads x acts q; out = l; reclaimed = (course_of x (new ++ acts) q).reclaimed }) s.out
      ∙ (ap (λ n. record { queue = q; made = rings_made (new ++ acts) q; placed = placed_heads acts q; pushed = pushed_heads x acts q; out = chains_out acts q; reclaimed = n }) s.reclaimed
      ∙ ap (λ n. record { queue = q; made = n; placed = placed_heads acts q; pushed = pushed_heads x acts q; out = chains_out acts q; reclaimed = reclaimed_count acts q }) s.made)))

  position_same : ((earlier : List Act) → before_first acts q ≡ Some earlier → IsPlaced x acts q earlier) → (earlier : List Act) → before_first (new ++ acts) q ≡ Some earlier → IsPlaced x (new ++ acts) q earlier
  position_same h earlier e = elim s.position [
    | inl f ↦ absurd (let g : None ≡ Some earlier = sym f ∙ e in cc)
    | inr f ↦ (let p = h earlier (sym f.0 ∙ e) in record { from = p.from; loaded = p.loaded; moved = ap (λ k. (k + p.from) % 65536) f.1 ∙ (p.moved ∙ sym (ap (λ l. length l % 65536) s.pushed)) })
  ]

  hand_same : ((c : AddedChain) → Among c (chains_out acts q) → (m : Streaming) → Among m (live_mappings acts) → Among m.number (maps_of c.request) → Among m (live_mappings (new ++ acts)))
      → ((earlier : List Act) → in_hand acts q ≡ Some earlier → IsNext x acts q earlier) → (earlier : List Act) → in_hand (new ++ acts) q ≡ Some earlier → IsNext x (new ++ acts) q earlier
  hand_same alive h earlier e = elim s.hand [
    | inl f ↦ absurd (let g : None ≡ Some earlier = sym f ∙ e in cc)
    | inr f ↦ (let p = h earlier (sym f ∙ e) in record {
      chain = p.chain;
      there = subst (Among p.chain) (sym s.out) p.there;
      head = p.head;
      more = subst (λ l. length l < length (placed_heads (new ++ acts) q)) (sym s.pushed) (subst (λ l. length (pushed_heads x acts q) < length l) (sym s.placed) p.more);
      next = ap (λ l. get_or (placed_heads (new ++ acts) q) (length l) 0) s.pushed ∙ (ap (λ l. get_or l (length (pushed_heads x acts q)) 0) s.placed ∙ p.next);
      parts = λ part i w. (let k = p.parts part i w in (k.0, alive p.chain p.there k.0 k.1 k.2, k.2, k.3));
      given = given_still x new acts p.chain (hand x earlier q) (alive p.chain p.there) p.given;
    })
  ]

  pub ring_from : (ring : Ring) → ((c : AddedChain) → Among c (chains_out acts q) → (m : Streaming) → Among m (live_mappings acts) → Among m.number (maps_of c.request) → Among m (live_mappings (new ++ acts)))
      → Holds x (new ++ acts) ring.place (course_of x acts q) → HasRing x acts q ring → HasRing x (new ++ acts) q ring
  ring_from ring alive holds h = record {
    holds = subst (Holds x (new ++ acts) ring.place) (sym course_same) holds;
    published = s.published ∙ (h.published ∙ sym s.out);
    counted = s.added ∙ (h.counted ∙ sym (ap length s.placed));
    have = s.have ∙ h.have;
    position = position_same h.position;
    inhand = hand_same alive h.inhand;
  }

  pub ring_same : (ring : Ring) → Spares x new acts ring.place (chains_out acts q) → HasRing x acts q ring → HasRing x (new ++ acts) q ring
  ring_same ring spares h = ring_from ring spares.alive (holds_still x small whole new acts legal ring.place (course_of x acts q) spares h.holds) h

-- ---- acts on no ring

-- acts that put nothing, and take no mapping of a request away
abbrev pub IsStill : List Act → Act → Type 0
IsStill acts (Node Opened) = Unit {0}
IsStill acts (Node Closed) = Unit {0}
IsStill acts (Node Deregistered) = Unit {0}
IsStill acts (Node (Config_put at bytes)) = Unit {0}
IsStill acts (Bus act) = Unit {0}
IsStill acts (Driver (Buffer bytes)) = Unit {0}
IsStill acts (Driver (Zeroed len)) = Unit {0}
IsStill acts (Driver (Freed buffer)) = Unit {0}
IsStill acts (Driver (Poked buffer at bytes)) = Unit {0}
IsStill acts (Driver (Mapped m)) = Unit {0}
IsStill acts (Driver (Unmapped m)) = (q : ℕ) (ring : Ring) → ring_of acts q ≡ Some ring → (c : AddedChain) → Among c (chains_out acts q) → Among m.number (maps_of c.request) → ⊥
IsStill acts (Message_act act) = Unit {0}
IsStill acts (State act) = Unit {0}
IsStill acts (Disk_act act) = Unit {0}
IsStill acts (Queue (Executed q status bytes)) = Unit {0}
IsStill acts _ = ⊥

still_elsewhere : (acts : List Act) (act : Act) (q : ℕ) → IsStill acts act → IsElsewhere q act
still_elsewhere acts (Queue (Executed k status bytes)) q h = tt
still_elsewhere acts (Queue act) q h = absurd h
still_elsewhere acts _ q h = tt

module _ (x : Setting) (acts : List Act) (s : Sound x acts) where
  still_high : (act : Act) (a : ℕ) → IsStill acts act → Legal x (act ∷ acts) → bounce_size x ≤ a → Misses act a
  still_high (Driver (Unmapped m)) a h legal high = past_map x acts m a s legal.0 high
  still_high (Node Opened) a h legal high = tt
  still_high (Node Closed) a h legal high = tt
  still_high (Node Deregistered) a h legal high = tt
  still_high (Node (Config_put at bytes)) a h legal high = tt
  still_high (Node act) a h legal high = absurd h
  still_high (Driver (Buffer bytes)) a h legal high = tt
  still_high (Driver (Zeroed len)) a h legal high = tt
  still_high (Driver (Freed buffer)) a h legal high = tt
  still_high (Driver (Poked buffer at bytes)) a h legal high = tt
  still_high (Driver (Mapped m)) a h legal high = tt
  still_high (Driver act) a h legal high = absurd h
  still_high _ a h legal high = tt

  module _ (q : ℕ) (ring : Ring) (there : ring_of acts q ≡ Some ring) (c : AddedChain) (out_is : Among c (chains_out acts q)) (m : Streaming) (lives : Among m (live_mappings acts)) (in_request : Among m.number (maps_of c.request)) where
    still_live : (act : Act) → IsStill acts act → Legal x (act ∷ acts) → Among m (live_mappings (act ∷ acts))
    still_live (Driver (Unmapped n)) h legal =
        filter_in (λ l. not (l.number == n.number)) m (live_mappings acts) lives (ap not (ne_eqb m.number n.number (λ e. h q ring there c out_is (subst (λ k. Among k (maps_of c.request)) e in_request))))
    still_live (Driver (Mapped n)) h legal = push_left m n (live_mappings acts) lives
    still_live _ h legal = lives

    still_low : (act : Act) (a : ℕ) → IsStill acts act → Legal x (act ∷ acts) → maps_address m a ≡ true → Misses act a
    still_low (Driver (Unmapped n)) a h legal here =
        one_map x acts m n a s lives legal.0 here (λ e. h q ring there c out_is (subst (λ l. Among l.number (maps_of c.request)) e in_request))
    still_low (Node Opened) a h legal here = tt
    still_low (Node Closed) a h legal here = tt
    still_low (Node Deregistered) a h legal here = tt
    still_low (Node (Config_put at bytes)) a h legal here = tt
    still_low (Node act) a h legal here = absurd h
    still_low (Driver (Buffer bytes)) a h legal here = tt
    still_low (Driver (Zeroed len)) a h legal here = tt
    still_low (Driver (Freed buffer)) a h legal here = tt
    still_low (Driver (Poked buffer at bytes)) a h legal here = tt
    still_low (Driver (Mapped n)) a h legal here = tt
    still_low (Driver act) a h legal here = absurd h
    still_low _ a h legal here = tt

still_regions : (acts : List Act) (act : Act) → IsStill acts act → live_regions (act ∷ acts) ≡ live_regions acts
still_regions acts (Driver (Buffer bytes)) h = refl
still_regions acts (Driver (Zeroed len)) h = refl
still_regions acts (Driver (Freed buffer)) h = refl
still_regions acts (Driver (Poked buffer at bytes)) h = refl
still_regions acts (Driver (Mapped m)) h = refl
still_regions acts (Driver (Unmapped m)) h = refl
still_regions acts (Driver act) h = absurd h
still_regions acts _ h = refl

pub still_calms : (x : Setting) → IsAddressed x → IsWhole x → (n : ℕ) (act : Act) (acts : List Act) → Legal x (act ∷ acts) → IsStill acts act → Calms x n acts → Calms x n (act ∷ acts)
still_calms x small whole n act acts legal h c = record {
  rings = λ q ring e. (
      let there : ring_of acts q ≡ Some ring = sym (same q).ring ∙ e in
      let had = c.rings q ring there in
      ring_same x small whole (act ∷ []) acts legal q (same q) ring (spares q ring there had.holds.laid) had);
  low = λ q ring e. c.low q ring (sym (same q).ring ∙ e);
  apart = λ q k ring other d e f. c.apart q k ring other d (sym (same q).ring ∙ e) (sym (same k).ring ∙ f);
  alone = λ q k other a b i j. c.alone q k other a b (subst (Among a) (same q).out i) (subst (Among b) (same k).out j);
} where
  same : (q : ℕ) → Same x (act ∷ acts) acts q
  same q = same_by x q (act ∷ []) acts (still_elsewhere acts act q h, tt)

  spares : (q : ℕ) (ring : Ring) → ring_of acts q ≡ Some ring → IsLaid x ring.place → Spares x (act ∷ []) acts ring.place (chains_out acts q)
  spares q ring there laid =
      let s = sound x acts legal.1 in
      record {
        table = λ a lo hi. (still_high x acts s act a h legal (let l = laid.low in omega arith), tt);
        driver = λ a lo hi. (still_high x acts s act a h legal (let l = laid.low in let d = laid.driver in omega arith), tt);
        device = λ a lo hi. (still_high x acts s act a h legal (let l = laid.low in let d = laid.driver in let e = laid.device in omega arith), tt);
        alive = λ b i m j k. still_live x acts s q ring there b i m j k act h legal;
        tables = λ b i m j k a here. (still_low x acts s q ring there b i m j k act a h legal here, tt);
        regions = λ b i. subst (Among b) (sym (still_regions acts act h)) i;
      }
