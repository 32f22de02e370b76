-- A ring in the region that was made for it, and the turn that makes one.
use Rattle.std.proofs.Common.{◌≡◌, ℕ, ◌+◌, ◌*◌, ◌/◌, ◌^◌, ◌%◌, true, false, ap, sym, subst, ◌∙◌, List, ◌∷◌, Some, None, Option, Result, Ok, Err}
use Rattle.std.specs.Prelude.{not, is_some, IfOk, OnErr, replicate}
use Rattle.std.specs.Option.{option_map_or}
use Rattle.vd_num.specs.Number.{pages_of}
use Rattle.vd_num.specs.declared.errno.Errno.TheVariants.{Inval, Exist, Nospc}
use Rattle.vd_pool.specs.Memory.{PoolMemory as Pool}
use Rattle.vd_model.specs.declared.memory.MapError.{MapError}
use Rattle.vd_model.specs.declared.memory.MapError.TheVariants.{Empty, NoSpace}
use Rattle.vd_model.specs.declared.queue.RingPlace.{RingPlace}
use Rattle.vd_model.specs.Setting.{Setting}
use Rattle.vd_model.specs.Creation.{Creation}
use Rattle.vd_model.specs.Acts.{Act, Driver, Region_made}
use Rattle.vd_model.specs.Live.{regions}
use Rattle.vd_model.specs.Place.{place_of, taken_slots}
use Rattle.vd_model.specs.Rings.{IsRingSize}
use Rattle.vd_model.specs.Queues.{Ring, ring_of}
use Rattle.vd_model.specs.BusTurns.{is_missing}
use Rattle.vd_model.specs.Turn.{Turn, refusal_turn, refuse, refusal_if}
use Rattle.vd_model.specs.RingTurns.{is_ring_size, ring_turn, made_ring_turn, ring_at, ring_bytes, driver_offset, device_offset}
use Rattle.vr_driver.specs.Side.{DriverSide, side_of}
use Rattle.vd_domain.specs.Held.{Held}
use Rattle.vd_domain.specs.Seen.{ring_map, ring_memory}
use Rattle.vd_domain.specs.Stands.{Stands}
use Rattle.vd_rings.specs.declared.held.HeldRing.{HeldRing}
use Rattle.vd_rings.proofs.Making.{made_at}

-- ---- a ring that was moved to its region

module _ (size at : ℕ) (old new : DriverSide) (first place : RingPlace) (moved : new ≡ record old { place = place }) (start : old ≡ side_of first) (same : first.size ≡ size)
    (is : place ≡ record { size = size; desc = at; driver = (at + driver_offset size) % 2 ^ 64; device = (at + device_offset size) % 2 ^ 64 }) where
  pub moved_desc : new.place.desc ≡ at
  moved_desc = ap (λ (s : DriverSide). s.place.desc) moved ∙ ap (λ (p : RingPlace). p.desc) is

  pub moved_stands : (x : Setting) (acts : List Act) (k : Held) (m : Pool) (number bytes : ℕ) → bytes ≡ ring_bytes size → Stands x (Driver (Region_made (record { number = number; slot = at / 4096; len = bytes })) ∷ acts) k m
      → Stands x (Driver (Region_made (record { number = number; slot = new.place.desc / 4096; len = ring_bytes size })) ∷ acts) k m
  moved_stands x acts k m number bytes e s =
      subst (λ n. Stands x (Driver (Region_made (record { number = number; slot = n / 4096; len = ring_bytes size })) ∷ acts) k m) (sym moved_desc)
      (subst (λ n. Stands x (Driver (Region_made (record { number = number; slot = at / 4096; len = n })) ∷ acts) k m) e s)

  pub moved_place : (x : Setting) (acts : List Act) (bytes : ℕ) → bytes ≡ ring_bytes size → place_of (taken_slots acts) (pages_of bytes) x.bounce x.iova ≡ Some (at / 4096)
      → place_of (taken_slots acts) (pages_of (ring_bytes size)) x.bounce x.iova ≡ Some (new.place.desc / 4096)
  unfolding place_of
  moved_place x acts bytes e s = ap (λ n. place_of (taken_slots acts) (pages_of n) x.bounce x.iova) (sym e) ∙ s ∙ ap (λ n. Some (n / 4096)) (sym moved_desc)

  pub moved_side : (x : Setting) (acts : List Act) (k : Held) (m : Pool) (number bytes : ℕ) → IsRingSize size → bytes ≡ ring_bytes size → at ≡ 4096 * (at / 4096)
      → ring_map k ≡ ring_memory x (Driver (Region_made (record { number = number; slot = at / 4096; len = ring_bytes size })) ∷ acts) → new ≡ side_of (ring_at size (new.place.desc / 4096))
  moved_side x acts k m number bytes s e base seen =
      moved ∙ ap (λ (s : DriverSide). record s { place = place }) start
      ∙ ap (λ n. record { place = place; owners = replicate n None; announced = replicate n false; added = 0; published = 0; reclaimed = 0 }) same
      ∙ ap (λ (p : RingPlace). record { place = p; owners = replicate size None; announced = replicate size false; added = 0; published = 0; reclaimed = 0 }) (made_at x acts k size number at s base seen place is)
      ∙ ap (λ n. side_of (ring_at size (n / 4096))) (sym moved_desc)

-- ---- the turn

module _ (x : Setting) (made : Creation) (acts : List Act) (q size : ℕ) where
  abbrev placed : Turn Act
  placed = option_map_or (made_ring_turn acts q size) (place_of (taken_slots acts) (pages_of (ring_bytes size)) x.bounce x.iova) (refusal_turn Nospc)

  -- of a queue that is there and a size of a ring, it goes by the ring that the queue has
  pub by_ring : is_missing made q ≡ false → is_ring_size size ≡ true → (o : Option Ring) → ring_of acts q ≡ o → ring_turn x made acts q size ≡ refuse (refusal_if (is_some o) Exist) placed
  by_ring here e o f =
      ap (λ t. refuse (refusal_if t Inval) (refuse (refusal_if (not (is_ring_size size)) Inval) (refuse (refusal_if (is_some (ring_of acts q)) Exist) placed))) here
      ∙ ap (λ t. refuse (refusal_if (not t) Inval) (refuse (refusal_if (is_some (ring_of acts q)) Exist) placed)) e
      ∙ ap (λ o. refuse (refusal_if (is_some o) Exist) placed) f

-- ---- a ring that was made

-- what was made in a domain, for a setting, some acts and a pool that it stood for
pub record Makes (x : Setting) (acts : List Act) (m : Pool) (size : ℕ) (r : Result HeldRing MapError) (d : Held) : Type 0 where
  pub ok : IfOk r (λ held. Stands x (Driver (Region_made (record { number = held.region; slot = held.ring.place.desc / 4096; len = ring_bytes size })) ∷ acts) d m)
  pub ring : IfOk r (λ held. (held.region ≡ regions acts) × (held.ring ≡ side_of (ring_at size (held.ring.place.desc / 4096))))
  pub place : IfOk r (λ held. place_of (taken_slots acts) (pages_of (ring_bytes size)) x.bounce x.iova ≡ Some (held.ring.place.desc / 4096))
  pub full : r ≡ Err NoSpace → place_of (taken_slots acts) (pages_of (ring_bytes size)) x.bounce x.iova ≡ None
  pub some : r ≡ Err Empty → ⊥
  pub err : OnErr r (Stands x acts d m)
