-- The line that makes a ring.
use Rattle.std.proofs.Common.{◌≡◌, ℕ, ◌/◌, true, false, if◌then◌else◌, refl, ap, sym, subst, ◌∙◌, List, [], ◌∷◌, ◌++◌, Some, None, Option, Result, Ok, Err}
use Rattle.std.specs.Option.{option_map_or}
use Rattle.vd_num.specs.Number.{pages_of}
use Rattle.vd_num.specs.declared.errno.Errno.TheVariants.{Nospc}
use Rattle.vd_pool.specs.Memory.{PoolMemory as Pool}
use Rattle.vd_model.specs.declared.memory.MapError.{MapError}
use Rattle.vd_model.specs.declared.memory.MapError.TheVariants.{Empty, NoSpace, Memory as Memory_error}
use Rattle.vd_model.specs.declared.answer.Answer.{Answer}
use Rattle.vd_model.specs.declared.answer.Answer.TheVariants as answer
use Rattle.vd_model.specs.Setting.{Setting}
use Rattle.vd_model.specs.Creation.{Creation}
use Rattle.vd_model.specs.Acts.{Act, Driver, Region_made, Queue, Ring_made}
use Rattle.vd_model.specs.Live.{regions}
use Rattle.vd_model.specs.Place.{place_of, taken_slots}
use Rattle.vd_model.specs.Rings.{IsRingSize}
use Rattle.vd_model.specs.Queues.{chains_out, published_chains_out}
use Rattle.vd_model.specs.BusTurns.{is_missing}
use Rattle.vd_model.specs.Turn.{refusal_turn}
use Rattle.vd_model.specs.RingTurns.{is_ring_size, ring_turn, made_ring_turn, ring_at, ring_bytes, ring_items}
use Rattle.vr_driver.specs.Side.{DriverSide, side_of}
use Rattle.vd_domain.specs.Held.{Held}
use Rattle.vd_domain.specs.Stands as domain
use Rattle.vd_domain.proofs.Beside.{leaves_domain}
use Rattle.vd_memory_lines.specs.declared.memory.Memory.{Memory}
use Rattle.vd_memory_lines.specs.Stands.{Stands}
use Rattle.vd_memory_lines.proofs.Parts.{domain_act, told_ok, told_none}
use Rattle.vd_answers.specs.Tells.{MayTell}
use Rattle.vd_answers.proofs.Telling.{tells_by}
use Rattle.vd_queue_sides.specs.Chains.{is_head}
use Rattle.vd_queue_sides.proofs.Daemons.{itself}
use Rattle.vd_rings.specs.declared.held.HeldRing.{HeldRing}
use Rattle.vd_rings.proofs.RingSizes.{ring_size_is}
use Rattle.vd_rings.proofs.Making.{made_stands}
use Rattle.vd_rings.proofs.MadeRings.{Makes, by_ring}
use Rattle.vd_request_lines.specs.declared.held.HeldDriver.{HeldDriver}
use Rattle.vd_request_lines.specs.Stands.{RequestsStand, chain_at, ArePending}
use Rattle.vd_request_lines.specs.Made.{TellsRing, unused}
use Rattle.vd_request_lines.specs.After.{After}

-- the acts that make a ring of a size in a region, at a slot
abbrev ring_acts : ℕ → ℕ → ℕ → ℕ → List Act
ring_acts q size slot region = Queue (Ring_made q (ring_at size slot) region) ∷ Driver (Region_made (record { number = region; slot = slot; len = ring_bytes size })) ∷ []

-- no chain of a new ring is out
unused_stands : (acts : List Act) (q size slot region : ℕ) → IsRingSize size → region ≡ regions acts
    → RequestsStand (ring_acts q size slot region ++ acts) q (Some (unused (record { region = region; ring = side_of (ring_at size slot) })))
unused_stands acts q size slot region s counted =
    let k = made_stands acts q size slot region s counted in
    record {
      side = k.0;
      lies = k.1;
      pending = subst (λ t. ArePending (if t then [] else chains_out acts q) []) (sym (itself q)) refl;
      seen = subst (λ t. (id : ℕ) → is_head (if t then [] else published_chains_out acts q) id ≡ true → chain_at (if t then [] else published_chains_out acts q) id ≡ chain_at (if t then [] else chains_out acts q) id)
          (sym (itself q)) (λ id e. refl);
    }

module _ (x : Setting) (acts : List Act) (m : Pool) (q size : ℕ) (h : Memory) (s : Stands x acts h m) (d : Held) where
  after_made : IsRingSize size → (held : HeldRing) → Makes x acts m size (Ok held) d
      → After x acts q (record h { domain = d }) m (Some (unused held)) (ring_acts q size (held.ring.place.desc / 4096) held.region)
  after_made fit held made =
      let slot : ℕ = held.ring.place.desc / 4096 in
      let region : Act = Driver (Region_made (record { number = held.region; slot = slot; len = ring_bytes size })) in
      let there = domain_act x acts h m s region d m refl refl made.ok in
      record {
        memory = domain_act x (region ∷ acts) (record h { domain = d }) m there (Queue (Ring_made q (ring_at size slot) held.region)) d m refl refl
            (leaves_domain x (region ∷ acts) d m made.ok (Queue (Ring_made q (ring_at size slot) held.region)) refl);
        requests = subst (λ (t : DriverSide). RequestsStand (ring_acts q size slot held.region ++ acts) q (Some (unused (record { region = held.region; ring = t }))))
            (sym made.ring.1) (unused_stands acts q size slot held.region fit made.ring.0);
      }

  -- no act changes the domain where none was made
  after_none : domain.Stands x acts d m → (kept : Option HeldDriver) → RequestsStand acts q kept → After x acts q (record h { domain = d }) m kept []
  after_none stands kept k = record { memory = record { domain = stands; buffers = s.buffers; inside = s.inside }; requests = k }

  module _ (made : Creation) (here : is_missing made q ≡ false) (e : is_ring_size size ≡ true) (k : RequestsStand acts q None) where
    placed_turn : (place : Option ℕ) → place_of (taken_slots acts) (pages_of (ring_bytes size)) x.bounce x.iova ≡ place
        → ring_turn x made acts q size ≡ option_map_or (made_ring_turn acts q size) place (refusal_turn Nospc)
    unfolding place_of
    placed_turn place f = by_ring x made acts q size here e None k.side ∙ ap (λ place. option_map_or (made_ring_turn acts q size) place (refusal_turn Nospc)) f

    ring_line : {E : Type 0} (heard : Answer → Type 0) (r : Result HeldRing MapError) (new : Option HeldDriver) (result : Result (Unit {0}) E) → TellsRing heard None new r result → Makes x acts m size r d
        → MayTell heard (ring_turn x made acts q size) (After x acts q (record h { domain = d }) m new) result
    ring_line heard (Ok held) new result t w =
        let slot : ℕ = held.ring.place.desc / 4096 in
        let number = w.ring.0 in
        told_ok result t.0 (tells_by (placed_turn (Some slot) w.place)
        (ap (λ n. answer.Done (ring_items n held.ring.place)) number ∙ ap (λ (s : DriverSide). answer.Done (ring_items (regions acts) s.place)) w.ring.1)
        t.1
        (subst (λ n. After x acts q (record h { domain = d }) m new (ring_acts q size slot n)) number
        (subst (λ (o : Option HeldDriver). After x acts q (record h { domain = d }) m o (ring_acts q size slot held.region)) (sym t.2)
        (after_made (ring_size_is size e) held w))))
    ring_line heard (Err Empty) new result t w = absurd (w.some refl)
    ring_line heard (Err NoSpace) new result t w =
        told_ok result t.0 (tells_by (placed_turn None (w.full refl)) refl t.1
        (subst (λ (o : Option HeldDriver). After x acts q (record h { domain = d }) m o []) (sym t.2) (after_none w.err None k)))
    ring_line heard (Err Memory_error) new result t w =
        told_none result t.0 (subst (λ (o : Option HeldDriver). After x acts q (record h { domain = d }) m o []) (sym t.1) (after_none w.err None k))

-- the line, by what its calls ensure; what was kept was none
pub none_line : {E : Type 0} (x : Setting) (made : Creation) (acts : List Act) (m : Pool) (q size : ℕ) (h k : Memory) (heard : Answer → Type 0) (old : Option HeldDriver) → Stands x acts h m → k ≡ record h { domain = k.domain }
    → old ≡ None → is_missing made q ≡ false → is_ring_size size ≡ true → RequestsStand acts q old → (r : Result HeldRing MapError) (new : Option HeldDriver) (result : Result (Unit {0}) E)
    → TellsRing heard old new r result → Makes x acts m size r k.domain → MayTell heard (ring_turn x made acts q size) (After x acts q k m new) result
none_line x made acts m q size h k heard old s rest none here e r made_of new result t w =
    subst (λ (g : Memory). MayTell heard (ring_turn x made acts q size) (After x acts q g m new) result) (sym rest)
    (ring_line x acts m q size h s k.domain made here e (subst (λ (o : Option HeldDriver). RequestsStand acts q o) none r) heard made_of new result
    (subst (λ (o : Option HeldDriver). TellsRing heard o new made_of result) none t) w)
