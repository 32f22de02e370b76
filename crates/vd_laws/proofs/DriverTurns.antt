-- The driver's turns on buffers, mappings and regions are legal.
use Rattle.std.proofs.Common.{◌≡◌, ℕ, ◌+◌, ◌*◌, ◌≤◌, refl, arith, Option, None, Some, List, [], ◌∷◌, ◌==◌, not, nat_lt, find, length, is_some}
use Rattle.std.specs.Option.{option_map_or}
use Rattle.std.specs.List.{list_any}
use Rattle.vd_num.specs.Number.{pages_of}
use Rattle.vd_num.specs.declared.errno.Errno.TheVariants.{Noent, Nospc, Inval, Busy}
use Rattle.vd_model.specs.declared.memory.Want.{Want}
use Rattle.vd_model.specs.declared.step.DriverStep.{DriverStep}
use Rattle.vd_model.specs.declared.step.DriverStep.TheVariants as driver
use Rattle.vd_model.specs.declared.answer.Item.TheVariants.{Number, Text}
use Rattle.vd_model.specs.Setting.{Setting}
use Rattle.vd_model.specs.Acts.{Act, DriverAct, Driver, Streaming, Coherent, Buffer, Zeroed, Freed, Poked, Synced_device, Synced_cpu, Driver_put}
use Rattle.vd_model.specs.Live.{buffers, maps, buffers_len, buffer_len, live_mappings, live_regions}
use Rattle.vd_model.specs.Place.{place_of, taken_slots}
use Rattle.vd_model.specs.Puts.{is_to_device, is_from_device, ram_bytes, bus_bytes}
use Rattle.vd_model.specs.Turn.{Turn, refuse, refusal_turn, refusal_if, done_with, range_refusal}
use Rattle.vd_model.specs.DriverTurns.{buffer_limit, map_at, on_mapping, on_region, unmap_turn, syncdev_turn, synccpu_turn, coherent_at, freecoherent_turn, cput_turn, cget_turn, want_of, driver_turn}
use Rattle.vd_laws.specs.Among.{Among}
use Rattle.vd_laws.proofs.Lists.{found}
use Rattle.vd_laws.proofs.Legal.{Legal}
use Rattle.vd_laws.proofs.Sound.{sound}
use Rattle.vd_laws.proofs.Refusals.{IsLegal, refuse_legal, or_refused, not_given, not_not}
use Rattle.vd_laws.proofs.Places.{there_made, place_free, taken_slots_held, fresh}

in_range : (o : Option ℕ) (offset len : ℕ) → range_refusal o offset len ≡ None → (size : ℕ) × (o ≡ Some size)
in_range None offset len e = cc
in_range (Some size) offset len e = (size, refl)

module _ (x : Setting) (done : List Act) (legal : Legal x done) where
  mapping_legal : (number : ℕ) (turn : Streaming → Turn DriverAct) → ((m : Streaming) → Among m (live_mappings done) → IsLegal x Driver done (turn m)) → IsLegal x Driver done (on_mapping done number turn)
  mapping_legal number turn h = or_refused x Driver done legal turn (find (λ m. m.number == number) (live_mappings done)) Noent (λ m e. h m (found (λ m. m.number == number) m (live_mappings done) e))

  region_legal : (number : ℕ) (turn : Coherent → Turn DriverAct) → ((r : Coherent) → Among r (live_regions done) → IsLegal x Driver done (turn r)) → IsLegal x Driver done (on_region done number turn)
  region_legal number turn h = or_refused x Driver done legal turn (find (λ r. r.number == number) (live_regions done)) Noent (λ r e. h r (found (λ r. r.number == number) r (live_regions done) e))

  map_legal : (want : Want) → IsLegal x Driver done (driver_turn x done (driver.Map want.buffer want.offset want.len want.dir))
  map_legal want = refuse_legal x Driver done legal (range_refusal (buffer_len done want.buffer) want.offset want.len)
      (option_map_or (map_at done want) (place_of (taken_slots done) (pages_of want.len) x.per_page x.bounce) (refusal_turn Nospc)) (λ e.
      or_refused x Driver done legal (map_at done want) (place_of (taken_slots done) (pages_of want.len) x.per_page x.bounce) Nospc (λ slot f.
      let there = in_range (buffer_len done want.buffer) want.offset want.len e in
      (fresh x done (taken_slots done) (taken_slots_held done) (maps done) refl want (there_made done want.buffer there.0 there.1) slot f, legal)))

  pub driver_legal : (step : DriverStep) → IsLegal x Driver done (driver_turn x done step)
  driver_legal (driver.Buf bytes) = refuse_legal x Driver done legal (refusal_if (nat_lt buffer_limit (buffers_len done + length bytes)) Nospc) (done_with (Number (buffers done) ∷ []) (Buffer bytes ∷ [])) (λ e. (tt, legal))
  driver_legal (driver.Zeros len) = refuse_legal x Driver done legal (refusal_if (nat_lt buffer_limit (buffers_len done + len)) Nospc) (done_with (Number (buffers done) ∷ []) (Zeroed len ∷ [])) (λ e. (tt, legal))
  driver_legal (driver.Free buffer) =
      refuse_legal x Driver done legal (refusal_if (not (is_some (buffer_len done buffer))) Noent) (refuse (refusal_if (list_any (λ m. m.want.buffer == buffer) (live_mappings done)) Busy) (done_with [] (Freed buffer ∷ []))) (λ e.
      refuse_legal x Driver done legal (refusal_if (list_any (λ m. m.want.buffer == buffer) (live_mappings done)) Busy) (done_with [] (Freed buffer ∷ [])) (λ f. (tt, legal)))
  driver_legal (driver.Poke buffer offset bytes) = refuse_legal x Driver done legal (range_refusal (buffer_len done buffer) offset (length bytes)) (done_with [] (Poked buffer offset bytes ∷ [])) (λ e. (tt, legal))
  driver_legal (driver.Peek buffer offset len) = refuse_legal x Driver done legal (range_refusal (buffer_len done buffer) offset len) (done_with (Text (ram_bytes x.per_page done buffer offset len) ∷ []) []) (λ e. legal)
  driver_legal (driver.Map buffer offset len dir) = map_legal (want_of buffer offset len dir)
  driver_legal (driver.Unmap mapping) = mapping_legal mapping unmap_turn (λ m h. (h, legal))
  driver_legal (driver.SyncDev mapping) = mapping_legal mapping syncdev_turn (λ m h.
      refuse_legal x Driver done legal (refusal_if (not (is_to_device m.want.dir)) Inval) (done_with [] (Synced_device m ∷ [])) (λ e. ((h, not_not _ (not_given _ Inval e)), legal)))
  driver_legal (driver.SyncCpu mapping) = mapping_legal mapping synccpu_turn (λ m h.
      refuse_legal x Driver done legal (refusal_if (not (is_from_device m.want.dir)) Inval) (done_with [] (Synced_cpu m ∷ [])) (λ e. ((h, not_not _ (not_given _ Inval e)), legal)))
  driver_legal (driver.Coherent len) =
      refuse_legal x Driver done legal (refusal_if (len == 0) Inval) (option_map_or (coherent_at done len) (place_of (taken_slots done) (pages_of len) x.bounce x.iova) (refusal_turn Nospc)) (λ e.
      or_refused x Driver done legal (coherent_at done len) (place_of (taken_slots done) (pages_of len) x.bounce x.iova) Nospc (λ slot f.
      ((place_free (taken_slots done) (pages_of len) x.bounce x.iova slot f).low, legal)))
  driver_legal (driver.FreeCoherent region) = region_legal region freecoherent_turn (λ r k. (tt, legal))
  driver_legal (driver.Cput region offset bytes) = region_legal region (cput_turn offset bytes) (λ r k.
      refuse_legal x Driver done legal (refusal_if (nat_lt (4096 * pages_of r.len) (offset + length bytes)) Inval) (done_with [] (Driver_put (4096 * r.slot + offset) bytes ∷ [])) (λ e.
      (λ a. (let high : x.bounce ≤ r.slot = (sound x done legal).regions_high r k in omega arith), legal)))
  driver_legal (driver.Cget region offset len) = region_legal region (cget_turn x done offset len) (λ r k.
      refuse_legal x Driver done legal (refusal_if (nat_lt (4096 * pages_of r.len) (offset + len)) Inval) (done_with (Text (bus_bytes x.per_page done (4096 * r.slot + offset) len) ∷ []) []) (λ e. legal))
