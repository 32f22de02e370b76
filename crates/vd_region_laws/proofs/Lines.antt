-- The lines of a device's node, bus and driver leave its rings in live regions.
use Rattle.std.proofs.Common.{◌≡◌, ℕ, zero, suc, ◌+◌, ◌*◌, ◌/◌, ◌<◌, ◌≤◌, Bool, true, false, refl, ap, ◌∙◌, sym, arith, Option, None, Some, List, [], ◌∷◌, ◌++◌, length, ◌==◌, ◌&&◌, ◌||◌, not, nat_lt, map, find, is_some, eqb-true, true≢false}
use Rattle.std.specs.List.{list_any}
use Rattle.std.specs.Option.{option_map_or}
use Rattle.std.proofs.lemmas.Bool.{eq-eqb, ltb-false, eqb-false}
use Rattle.vd_num.specs.Number.{pages_of, is_within}
use Rattle.vd_num.specs.declared.errno.Errno.TheVariants.{Badf, Busy, Inval, Nospc, Noent}
use Rattle.vd_model.specs.declared.memory.Want.{Want}
use Rattle.vd_model.specs.declared.step.NodeStep.{NodeStep}
use Rattle.vd_model.specs.declared.step.NodeStep.TheVariants as node
use Rattle.vd_model.specs.declared.step.DriverStep.{DriverStep}
use Rattle.vd_model.specs.declared.step.DriverStep.TheVariants as driver
use Rattle.vd_model.specs.declared.answer.Item.TheVariants.{Number, Text}
use Rattle.vd_model.specs.Setting.{Setting}
use Rattle.vd_model.specs.Creation.{Creation}
use Rattle.vd_model.specs.Acts.{Act, DriverAct, Streaming, Coherent, Driver, Buffer, Zeroed, Freed, Poked, Synced_device, Synced_cpu, Driver_put}
use Rattle.vd_model.specs.Live.{buffers, buffers_len, buffer_len, regions, live_mappings, live_regions, is_open}
use Rattle.vd_model.specs.Place.{place_of, taken_slots}
use Rattle.vd_model.specs.Puts.{is_to_device, is_from_device, ram_bytes, bus_bytes}
use Rattle.vd_model.specs.Queues.{Ring, ring_of, is_ring_region}
use Rattle.vd_model.specs.Raw.{Ioctl, Plain_node, Plain_area, Find_entry, Find_info, Tell_features, ioctl_of}
use Rattle.vd_model.specs.Turn.{Turn, refusal_if, done_with, range_refusal}
use Rattle.vd_model.specs.NodeTurns.{opens, plain_turn, ioctl_turn, open_node_turn, node_turn}
use Rattle.vd_model.specs.DriverTurns.{buffer_limit, map_at, on_mapping, on_region, unmap_turn, syncdev_turn, synccpu_turn, coherent_at, freecoherent_turn, cput_turn, cget_turn, want_of, driver_turn}
use Rattle.vd_laws.specs.Among.{Among}
use Rattle.vd_laws.proofs.Lists.{found, found_passes}
use Rattle.vd_laws.proofs.Plain.{IsPlain, node_plain}
use Rattle.vd_laws.proofs.Ranges.{is_in, in_range}
use Rattle.vd_laws.proofs.Refusals.{not_given}
use Rattle.vd_region_laws.specs.RegionLaw.{IsInside}
use Rattle.vd_region_laws.proofs.Spread.{new_region}
use Rattle.vd_region_laws.proofs.Leaves.{refused, missing}
use Rattle.vd_region_laws.proofs.Standing.{Standing, AreQuiet, nodes_quiet, plain_quiet, quiet_stands, region_stands, freed_stands}

-- ---- a region covers what lies between its ends

pub inside : (held : List Coherent) (r : Coherent) → Among r held → (at : ℕ) (bytes : List ℕ) → 4096 * r.slot ≤ at → at + length bytes ≤ 4096 * (r.slot + pages_of r.len) → IsInside held at bytes
inside held r live at bytes low high = record {
  region = r;
  live = live;
  covers = λ a h. (let p = is_in at (length bytes) a h in covered r.slot (pages_of r.len) a (let q = p.0 in omega arith) (let q = p.1 in omega arith));
} where
  covered : (slot n a : ℕ) → 4096 * slot ≤ a → a < 4096 * (slot + n) → is_within slot n (a / 4096) ≡ true
  covered slot n a low high = in_range slot n (a / 4096) (omega arith) (omega arith)

-- ---- the node's lines

module _ (x : Setting) (made : Creation) (done : List Act) where
  -- a turn of quiet acts
  abbrev Quiet : Turn Act → Type 0
  Quiet turn = AreQuiet x (live_regions done) turn.acts

  plain : (turn : Turn Act) → IsPlain turn → Quiet turn
  plain turn e = plain_quiet x (live_regions done) turn.acts e

  open_quiet : (step : NodeStep) → Quiet (open_node_turn x made done step)
  open_quiet (node.Ioctl number bytes) = by (ioctl_of number bytes) where
    by : (o : Option Ioctl) → Quiet (ioctl_turn x made done o)
    by None = tt
    by (Some (Plain_node step)) = plain (plain_turn made done step) (node_plain made done step)
    by (Some (Plain_area step)) = nodes_quiet x (live_regions done) _
    by (Some (Find_entry start last)) = nodes_quiet x (live_regions done) _
    by (Some (Find_info start last)) = nodes_quiet x (live_regions done) _
    by (Some Tell_features) = tt
  open_quiet step = plain (plain_turn made done step) (node_plain made done step)

  pub node_quiet : (step : NodeStep) → Quiet (node_turn x made done step)
  node_quiet step = refused (AreQuiet x (live_regions done)) tt (refusal_if (not (opens step) && not (is_open done)) Badf) (open_node_turn x made done step) (λ e. open_quiet step)

-- ---- the driver's lines

-- a region of no queue of the device is no ring's
not_ring : (done : List Act) (region n : ℕ) → is_ring_region done region n ≡ false → (q : ℕ) → q < n → (ring : Ring) → ring_of done q ≡ Some ring → ring.region ≡ region → ⊥
not_ring done region zero e q low ring there same = omega arith
not_ring done region (suc n) e q low ring there same = by (n == q) refl (option_map_or (λ r. r.region == region) (ring_of done n) false) refl e (not_ring done region n) where
  by : (b : Bool) → (n == q) ≡ b → (c : Bool) → option_map_or (λ r. r.region == region) (ring_of done n) false ≡ c → (c || is_ring_region done region n) ≡ false
      → (is_ring_region done region n ≡ false → (q : ℕ) → q < n → (ring : Ring) → ring_of done q ≡ Some ring → ring.region ≡ region → ⊥) → ⊥
  by b is true other f later = absurd (true≢false f)
  by true is false other f later =
      let at : ring_of done n ≡ Some ring = ap (ring_of done) (eqb-true n q is) ∙ there in
      let mine : (ring.region == region) ≡ false = sym (ap (λ o. option_map_or (λ r. r.region == region) o false) at) ∙ other in
      true≢false (sym (eq-eqb ring.region region same) ∙ mine)
  by false is false other f later = later f q (let d = eqb-false n q is in omega arith) ring there same

module _ (x : Setting) (made : Creation) (done : List Act) (s : Standing x (Some made) done) where
  -- what holds of the acts of a driver's turn
  abbrev Stands : List DriverAct → Type 0
  Stands acts = Standing x (Some made) (map Driver acts ++ done)

  abbrev Quiets : List DriverAct → Type 0
  Quiets acts = AreQuiet x (live_regions done) (map Driver acts)

  quiets : (turn : Turn DriverAct) → Quiets turn.acts → Stands turn.acts
  quiets turn q = quiet_stands x (Some made) (map Driver turn.acts) done q s

  map_quiet : (want : Want) → Quiets (driver_turn x done (driver.Map want.buffer want.offset want.len want.dir)).acts
  map_quiet want = refused Quiets tt (range_refusal (buffer_len done want.buffer) want.offset want.len) _ (λ e.
      missing Quiets tt (map_at done want) (place_of (taken_slots done) (pages_of want.len) x.per_page x.bounce) Nospc (λ slot f. (tt, tt)))

  mapping_quiet : (number : ℕ) (turn : Streaming → Turn DriverAct) → ((m : Streaming) → Quiets (turn m).acts) → Quiets (on_mapping done number turn).acts
  mapping_quiet number turn h = missing Quiets tt turn (find (λ m. m.number == number) (live_mappings done)) Noent (λ m e. h m)

  free_quiet : (buffer : ℕ) → Quiets (driver_turn x done (driver.Free buffer)).acts
  free_quiet buffer =
      refused Quiets tt (refusal_if (not (is_some (buffer_len done buffer))) Noent) _ (λ e.
      refused Quiets tt (refusal_if (list_any (λ m. m.want.buffer == buffer) (live_mappings done)) Busy) (done_with [] (Freed buffer ∷ [])) (λ f. (tt, tt)))

  coherent_stands : (len : ℕ) → Stands (driver_turn x done (driver.Coherent len)).acts
  coherent_stands len =
      refused Stands s (refusal_if (len == 0) Inval) _ (λ e.
      missing Stands s (coherent_at done len) (place_of (taken_slots done) (pages_of len) x.bounce x.iova) Nospc (λ slot f.
      region_stands x (Some made) done (record { number = regions done; slot = slot; len = len })
      (new_region x done len slot (let g = eqb-false len 0 (not_given (len == 0) Inval e) in omega arith) f) s))

  region_is : (P : List DriverAct → Type 0) → P [] → (number : ℕ) (turn : Coherent → Turn DriverAct) → ((r : Coherent) → Among r (live_regions done) → r.number ≡ number → P (turn r).acts) → P (on_region done number turn).acts
  region_is P none number turn h = missing P none turn (find (λ r. r.number == number) (live_regions done)) Noent
      (λ r e. h r (found (λ r. r.number == number) r (live_regions done) e) (eqb-true r.number number (found_passes (λ r. r.number == number) r (live_regions done) e)))

  freecoherent_stands : (region : ℕ) → is_ring_region done region made.queues ≡ false → Stands (driver_turn x done (driver.FreeCoherent region)).acts
  freecoherent_stands region e = region_is Stands s region freecoherent_turn (λ r k is.
      freed_stands x (Some made) done r (λ q ring f g. not_ring done region made.queues e q (s.own q ring f) ring f (g ∙ is)) s)

  cput_quiet : (region offset : ℕ) (bytes : List ℕ) → Quiets (driver_turn x done (driver.Cput region offset bytes)).acts
  cput_quiet region offset bytes = region_is Quiets tt region (cput_turn offset bytes) (λ r k is.
      refused Quiets tt (refusal_if (nat_lt (4096 * pages_of r.len) (offset + length bytes)) Inval) (done_with [] (Driver_put (4096 * r.slot + offset) bytes ∷ [])) (λ e.
      let fits = ltb-false (4096 * pages_of r.len) (offset + length bytes) (not_given _ Inval e) in
      ((λ small. inside (live_regions done) r k (4096 * r.slot + offset) bytes (omega arith) (within r.slot (pages_of r.len) (length bytes) fits)), tt))) where
        within : (slot n len : ℕ) → offset + len ≤ 4096 * n → 4096 * slot + offset + len ≤ 4096 * (slot + n)
        within slot n len h = omega arith

  pub driver_stands : (step : DriverStep) → ((region : ℕ) → step ≡ driver.FreeCoherent region → is_ring_region done region made.queues ≡ false) → Stands (driver_turn x done step).acts
  driver_stands (driver.Buf bytes) free = quiets (driver_turn x done (driver.Buf bytes)) (refused Quiets tt (refusal_if (nat_lt buffer_limit (buffers_len done + length bytes)) Nospc) (done_with (Number (buffers done) ∷ []) (Buffer bytes ∷ [])) (λ e. (tt, tt)))
  driver_stands (driver.Zeros len) free = quiets (driver_turn x done (driver.Zeros len)) (refused Quiets tt (refusal_if (nat_lt buffer_limit (buffers_len done + len)) Nospc) (done_with (Number (buffers done) ∷ []) (Zeroed len ∷ [])) (λ e. (tt, tt)))
  driver_stands (driver.Free buffer) free = quiets (driver_turn x done (driver.Free buffer)) (free_quiet buffer)
  driver_stands (driver.Poke buffer offset bytes) free =
      quiets (driver_turn x done (driver.Poke buffer offset bytes)) (refused Quiets tt (range_refusal (buffer_len done buffer) offset (length bytes)) (done_with [] (Poked buffer offset bytes ∷ [])) (λ e. (tt, tt)))
  driver_stands (driver.Peek buffer offset len) free =
      quiets (driver_turn x done (driver.Peek buffer offset len)) (refused Quiets tt (range_refusal (buffer_len done buffer) offset len) (done_with (Text (ram_bytes x.per_page done buffer offset len) ∷ []) []) (λ e. tt))
  driver_stands (driver.Map buffer offset len dir) free = quiets (driver_turn x done (driver.Map buffer offset len dir)) (map_quiet (want_of buffer offset len dir))
  driver_stands (driver.Unmap mapping) free = quiets (driver_turn x done (driver.Unmap mapping)) (mapping_quiet mapping unmap_turn (λ m. (tt, tt)))
  driver_stands (driver.SyncDev mapping) free = quiets (driver_turn x done (driver.SyncDev mapping)) (mapping_quiet mapping syncdev_turn (λ m.
      refused Quiets tt (refusal_if (not (is_to_device m.want.dir)) Inval) (done_with [] (Synced_device m ∷ [])) (λ e. (tt, tt))))
  driver_stands (driver.SyncCpu mapping) free = quiets (driver_turn x done (driver.SyncCpu mapping)) (mapping_quiet mapping synccpu_turn (λ m.
      refused Quiets tt (refusal_if (not (is_from_device m.want.dir)) Inval) (done_with [] (Synced_cpu m ∷ [])) (λ e. (tt, tt))))
  driver_stands (driver.Coherent len) free = coherent_stands len
  driver_stands (driver.FreeCoherent region) free = freecoherent_stands region (free region refl)
  driver_stands (driver.Cput region offset bytes) free = quiets (driver_turn x done (driver.Cput region offset bytes)) (cput_quiet region offset bytes)
  driver_stands (driver.Cget region offset len) free = quiets (driver_turn x done (driver.Cget region offset len)) (region_is Quiets tt region (cget_turn x done offset len) (λ r k is.
      refused Quiets tt (refusal_if (nat_lt (4096 * pages_of r.len) (offset + len)) Inval) (done_with (Text (bus_bytes x.per_page done (4096 * r.slot + offset) len) ∷ []) []) (λ e. tt)))
