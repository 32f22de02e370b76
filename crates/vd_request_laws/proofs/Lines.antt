-- The lines on a device leave what pending requests have their own.
use Rattle.std.proofs.Common.{◌≡◌, ℕ, ◌+◌, ◌*◌, ◌<◌, Bool, true, false, refl, ap, sym, ◌∙◌, subst, List, [], ◌∷◌, ◌++◌, length, map, ◌==◌, ◌&&◌, not, nat_lt, Option, Some, None, is_some, find, true≢false}
use Rattle.std.specs.List.{All, list_any}
use Rattle.std.proofs.lemmas.List.Elements.{All-weaker}
use Rattle.vd_num.specs.Number.{pages_of}
use Rattle.vd_num.specs.declared.errno.Errno.TheVariants.{Noent, Badf, Busy, Nodev, Inval, Nospc}
use Rattle.vd_model.specs.declared.step.DriverStep.{DriverStep}
use Rattle.vd_model.specs.declared.step.DriverStep.TheVariants as driver
use Rattle.vd_model.specs.declared.step.DevStep.{DevStep}
use Rattle.vd_model.specs.declared.step.DevStep.TheVariants as line
use Rattle.vd_model.specs.Setting.{Setting}
use Rattle.vd_model.specs.Creation.{Creation}
use Rattle.vd_model.specs.Acts.{Act, DriverAct, Node, Driver, Streaming, Request}
use Rattle.vd_model.specs.Live.{buffers, maps, buffers_len, buffer_len, live_mappings, live_regions, is_open, is_attached}
use Rattle.vd_model.specs.Place.{place_of, taken_slots}
use Rattle.vd_model.specs.Puts.{is_to_device, is_from_device}
use Rattle.vd_model.specs.Queues.{has_map, made_buffer, some_pending}
use Rattle.vd_model.specs.Turn.{Turn, refusal_if, range_refusal, lift}
use Rattle.vd_model.specs.AreaTurns.{area_turn}
use Rattle.vd_model.specs.BusTurns.{bus_turn}
use Rattle.vd_model.specs.NodeTurns.{node_turn}
use Rattle.vd_model.specs.DriverTurns.{buffer_limit, want_of, map_at, free_turn, unmap_turn, syncdev_turn, synccpu_turn, coherent_at, freecoherent_turn, cput_turn, cget_turn, driver_turn}
use Rattle.vd_model.specs.Deeds.{Seen}
use Rattle.vd_model.specs.History.{needs_session, needs_bus, is_kept, needs_unkept, dev_turn}
use Rattle.vd_request_laws.specs.Owned.{IsOwned, AreOwn, AreOwned, pending_requests, is_quiet}
use Rattle.vd_request_laws.proofs.Lists.{equal, not_so, none_passes, found_passes}
use Rattle.vd_request_laws.proofs.QuietLines.{IsQuiet, nodes_quiet, node_quiet, bus_quiet}
use Rattle.vd_request_laws.proofs.Standing.{mapped_own, unmapped_own, freed_own}
use Rattle.vd_request_laws.proofs.Pending.{same_pending, quiet_owned, pending_any}
use Rattle.vd_request_laws.proofs.Leaves.{refused, missing, not_given, there_made}

module _ (made : Creation) (done : List Act) (h : AreOwned done made.queues) where
  -- what pending requests have is still their own after some acts
  abbrev pub Owns : List Act → Type 0
  Owns acts = AreOwned (acts ++ done) made.queues

  pub quiets : (turn : Turn Act) → IsQuiet turn → Owns turn.acts
  quiets turn e = quiet_owned turn.acts done made.queues e h

  pub session : (turn : Turn Act) → Owns turn.acts → Owns (needs_session done turn).acts
  session turn k = refused Owns h (refusal_if (not (is_open done)) Badf) turn (λ e. k)

  pub bus : (turn : Turn Act) → Owns turn.acts → Owns (needs_bus done turn).acts
  bus turn k = refused Owns h (refusal_if (not (is_attached done)) Nodev) turn (λ e. k)

  -- ---- the driver's lines

  abbrev DriverOwns : List DriverAct → Type 0
  DriverOwns acts = Owns (map Driver acts)

  quiet_act : (act : DriverAct) → is_quiet (Driver act) ≡ true → DriverOwns (act ∷ [])
  quiet_act act e = quiet_owned (Driver act ∷ []) done made.queues (ap (λ t. t && true) e) h

  one_act : (act : DriverAct) → AreOwn (Driver act ∷ done) (pending_requests done made.queues) → DriverOwns (act ∷ [])
  one_act act k = subst (AreOwn (Driver act ∷ done)) (sym (same_pending done (Driver act ∷ done) made.queues (λ q. refl))) k

  free_off : (buffer : ℕ) → list_any (λ (m : Streaming). m.want.buffer == buffer) (live_mappings done) ≡ false → (r : Request) → IsOwned done r → (r.buffer == buffer) ≡ false
  free_off buffer unmapped r owned = not_so (r.buffer == buffer) (λ e.
      true≢false (sym owned.held ∙ ap (λ k. list_any (λ (m : Streaming). m.want.buffer == k) (live_mappings done)) (equal r.buffer buffer e) ∙ unmapped))

  freed : (buffer : ℕ) → DriverOwns (free_turn done buffer).acts
  freed buffer =
      refused DriverOwns h (refusal_if (not (is_some (buffer_len done buffer))) Noent) _ (λ e.
      refused DriverOwns h (refusal_if (list_any (λ m. m.want.buffer == buffer) (live_mappings done)) Busy) _ (λ f.
      one_act _ (freed_own done buffer (pending_requests done made.queues)
      (All-weaker (IsOwned done) (λ r. (r.buffer == buffer) ≡ false) (free_off buffer (not_given (list_any (λ m. m.want.buffer == buffer) (live_mappings done)) Busy f)) (pending_requests done made.queues) h.each) h)))

  -- where no pending request passes, each fails
  fails : (passes : Option Request → Bool) → passes None ≡ false → some_pending passes done made.queues ≡ false → All (λ r. passes (Some r) ≡ false) (pending_requests done made.queues)
  fails passes off none = none_passes (λ r. passes (Some r)) (pending_requests done made.queues) (sym (pending_any passes off done made.queues) ∙ none)

  in_range : (o : Option ℕ) (buffer offset len : ℕ) → buffer_len done buffer ≡ o → range_refusal o offset len ≡ None → buffer < buffers done
  in_range None buffer offset len is e = absurd (none e) where
    none : Some Noent ≡ None → ⊥
    none e = cc
  in_range (Some size) buffer offset len is e = there_made done buffer size is

  driver_owns : (x : Setting) (step : DriverStep) → is_kept made done step ≡ false → DriverOwns (driver_turn x done step).acts
  driver_owns x (driver.Buf bytes) kept = refused DriverOwns h (refusal_if (nat_lt buffer_limit (buffers_len done + length bytes)) Nospc) _ (λ e. quiet_act _ refl)
  driver_owns x (driver.Zeros len) kept = refused DriverOwns h (refusal_if (nat_lt buffer_limit (buffers_len done + len)) Nospc) _ (λ e. quiet_act _ refl)
  driver_owns x (driver.Free buffer) kept = freed buffer
  driver_owns x (driver.Poke buffer offset bytes) kept = refused DriverOwns h (range_refusal (buffer_len done buffer) offset (length bytes)) _ (λ e. quiet_act _ refl)
  driver_owns x (driver.Peek buffer offset len) kept = refused DriverOwns h (range_refusal (buffer_len done buffer) offset len) _ (λ e. h)
  driver_owns x (driver.Map buffer offset len dir) kept =
      refused DriverOwns h (range_refusal (buffer_len done buffer) offset len) _ (λ e.
      missing DriverOwns h (map_at done (want_of buffer offset len dir)) (place_of (taken_slots done) (pages_of len) x.per_page x.bounce) Nospc (λ slot f.
      one_act _ (mapped_own done (record { number = maps done; slot = slot; want = want_of buffer offset len dir }) (pending_requests done made.queues)
      (fails (made_buffer buffer) refl kept) (in_range (buffer_len done buffer) buffer offset len refl e) h)))
  driver_owns x (driver.Unmap mapping) kept =
      missing DriverOwns h unmap_turn (find (λ m. m.number == mapping) (live_mappings done)) Noent (λ m e.
      one_act _ (unmapped_own done m (pending_requests done made.queues)
      (subst (λ n. All (λ r. has_map n (Some r) ≡ false) (pending_requests done made.queues))
      (sym (equal m.number mapping (found_passes (λ (m : Streaming). m.number == mapping) (live_mappings done) m e))) (fails (has_map mapping) refl kept)) h))
  driver_owns x (driver.SyncDev mapping) kept =
      missing DriverOwns h syncdev_turn (find (λ m. m.number == mapping) (live_mappings done)) Noent (λ m e.
      refused DriverOwns h (refusal_if (not (is_to_device m.want.dir)) Inval) _ (λ f. quiet_act _ refl))
  driver_owns x (driver.SyncCpu mapping) kept =
      missing DriverOwns h synccpu_turn (find (λ m. m.number == mapping) (live_mappings done)) Noent (λ m e.
      refused DriverOwns h (refusal_if (not (is_from_device m.want.dir)) Inval) _ (λ f. quiet_act _ refl))
  driver_owns x (driver.Coherent len) kept =
      refused DriverOwns h (refusal_if (len == 0) Inval) _ (λ e.
      missing DriverOwns h (coherent_at done len) (place_of (taken_slots done) (pages_of len) x.bounce x.iova) Nospc (λ slot f. quiet_act _ refl))
  driver_owns x (driver.FreeCoherent region) kept =
      missing DriverOwns h freecoherent_turn (find (λ r. r.number == region) (live_regions done)) Noent (λ r e. quiet_act _ refl)
  driver_owns x (driver.Cput region offset bytes) kept =
      missing DriverOwns h (cput_turn offset bytes) (find (λ r. r.number == region) (live_regions done)) Noent (λ r e.
      refused DriverOwns h (refusal_if (nat_lt (4096 * pages_of r.len) (offset + length bytes)) Inval) _ (λ f. quiet_act _ refl))
  driver_owns x (driver.Cget region offset len) kept =
      missing DriverOwns h (cget_turn x done offset len) (find (λ r. r.number == region) (live_regions done)) Noent (λ r e.
      refused DriverOwns h (refusal_if (nat_lt (4096 * pages_of r.len) (offset + len)) Inval) _ (λ f. h))

  driver_line : (x : Setting) (step : DriverStep) → Owns (needs_unkept made done step (lift Driver (driver_turn x done step))).acts
  driver_line x step =
      refused Owns h (refusal_if (is_kept made done step) Busy) (lift Driver (driver_turn x done step)) (λ e. driver_owns x step (not_given (is_kept made done step) Busy e))

-- ---- the lines

pub device_owns : (x : Setting) (made : Creation) (seen : Seen) (step : DevStep) → AreOwned seen.acts made.queues → AreOwned ((dev_turn x made seen step).acts ++ seen.acts) made.queues
device_owns x made seen (line.Node step) h = quiets made seen.acts h (node_turn x made seen.acts step) (node_quiet x made seen.acts step)
device_owns x made seen (line.Area step) h =
    session made seen.acts h (lift Node (area_turn x seen.acts step)) (quiets made seen.acts h (lift Node (area_turn x seen.acts step)) (nodes_quiet (area_turn x seen.acts step).acts))
device_owns x made seen (line.Bus step) h = quiets made seen.acts h (bus_turn made seen.now seen.acts step) (bus_quiet made seen.now seen.acts step)
device_owns x made seen (line.Driver step) h = bus made seen.acts h _ (driver_line made seen.acts h x step)
