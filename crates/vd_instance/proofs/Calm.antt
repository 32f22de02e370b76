-- No line on a device makes a ring or a chain, or a size that no driver may choose, or frees another region than it names.
use Rattle.std.proofs.Common.{◌≡◌, ℕ, Bool, true, false, refl, ap, sym, ◌∙◌, not, nat_lt, nat_le, List, [], ◌∷◌, ◌++◌, length, map, Option, Some, None, true≢false, ◌==◌, ◌+◌, ◌*◌, if◌then◌else◌, inl, inr}
use Rattle.std.specs.Prelude.{◌&&◌, find, is_some}
use Rattle.std.specs.List.{list_all, list_any}
use Rattle.std.specs.Option.{option_map_or}
use Rattle.std.proofs.lemmas.Bool.Decides.{eqb_tells}
use Rattle.vd_num.specs.Field.{field_at}
use Rattle.vd_num.specs.Number.{pages_of}
use Rattle.vd_num.specs.declared.errno.Errno.{Errno}
use Rattle.vd_num.specs.declared.errno.Errno.TheVariants.{Noent, Badf, Io, Again, Busy, Exist, Nodev, Inval, Nospc}
use Rattle.vd_model.specs.declared.answer.Answer.TheVariants as answer
use Rattle.vd_model.specs.declared.answer.Item.{Item}
use Rattle.vd_model.specs.declared.answer.Item.TheVariants.{Word, Number, Text}
use Rattle.vd_model.specs.declared.answer.Tag.TheVariants as tag
use Rattle.vd_model.specs.declared.message.Body.{Body}
use Rattle.vd_model.specs.declared.message.Body.TheVariants as body
use Rattle.vd_model.specs.declared.message.Message.{Message}
use Rattle.vd_model.specs.declared.message.TakeAnswer.{TakeAnswer}
use Rattle.vd_model.specs.declared.message.TakeAnswer.TheVariants as end
use Rattle.vd_model.specs.declared.step.NodeStep.{NodeStep}
use Rattle.vd_model.specs.declared.step.NodeStep.TheVariants as node
use Rattle.vd_model.specs.declared.step.BusStep.{BusStep}
use Rattle.vd_model.specs.declared.step.BusStep.TheVariants as bus
use Rattle.vd_model.specs.declared.step.DriverStep.{DriverStep}
use Rattle.vd_model.specs.declared.step.DriverStep.TheVariants as driver
use Rattle.vd_model.specs.declared.step.DevStep.{DevStep}
use Rattle.vd_model.specs.declared.step.DevStep.TheVariants as line
use Rattle.vd_model.specs.Setting.{Setting}
use Rattle.vd_model.specs.Creation.{Creation}
use Rattle.vd_model.specs.Acts.{Act, NodeAct, DriverAct, Node, Driver, Message_act, State, Queue, Closed, Coherent, Region_freed, message_acts, state_acts}
use Rattle.vd_model.specs.Messages.{Lost, Took, Received, is_held, is_broken, next_id, next_message, id_limit, message_told}
use Rattle.vd_model.specs.State.{Num_set, Cleared, Status_set, Kicks_taken, is_driver_ok, kick_file_of, may_accept, may_have, max_of, are_aligned, are_set_up, is_queue_or_config}
use Rattle.vd_model.specs.Live.{Registration, is_open, is_attached, registration_of, buffer_len, buffers_len, live_mappings, live_regions}
use Rattle.vd_model.specs.Place.{place_of, taken_slots}
use Rattle.vd_model.specs.Puts.{is_to_device, is_from_device}
use Rattle.vd_model.specs.Turn.{Turn, refuse, refusal_if, refusal_turn, range_refusal, done_with, lift}
use Rattle.vd_model.specs.BusTurns.{device_start, shape_of, is_missing, is_outside_config, is_busy, send_turn, attached_turn, needs_attachment, asks_reset, take_turn}
use Rattle.vd_model.specs.NodeTurns.{plain_turn, open_node_turn, ioctl_turn, opens, received_as, registration_end, body_items}
use Rattle.vd_model.specs.AreaTurns.{area_turn, found_or, capability_of}
use Rattle.vd_model.specs.DriverTurns.{driver_turn, buffer_limit, want_of, map_at, unmap_turn, syncdev_turn, synccpu_turn, coherent_at, freecoherent_turn, cput_turn, cget_turn}
use Rattle.vd_model.specs.Raw.{Ioctl, Plain_node, Plain_area, Find_entry, Find_info, Tell_features, ioctl_of, request_bytes, entry_bytes, info_bytes}
use Rattle.vd_device.specs.Turns.{line_turn}

-- the act makes neither, and frees none but these regions
abbrev pub is_calm : (ℕ → Bool) → Act → Bool
is_calm may (Queue act) = false
is_calm may (State (Num_set q num)) = nat_le num 32768
is_calm may (Driver (Region_freed r)) = may r.number
is_calm may _ = true

abbrev pub are_calm : (ℕ → Bool) → List Act → Bool
are_calm may acts = list_all (is_calm may) acts

-- a line that would free a region, on a device on the bus, may do so
abbrev MayEnd : (ℕ → Bool) → DriverStep → Type 0
MayEnd may (driver.FreeCoherent region) = may region ≡ true
MayEnd may _ = Unit {0}

abbrev pub MayFree : (ℕ → Bool) → List Act → DevStep → Type 0
MayFree may done (line.Driver (driver.FreeCoherent region)) = is_attached done ≡ true → may region ≡ true
MayFree may done _ = Unit {0}

module _ (may : ℕ → Bool) where
  node_calm : (acts : List NodeAct) → are_calm may (map Node acts) ≡ true
  node_calm [] = refl
  node_calm (act ∷ acts) = node_calm acts

  driver_refused : (e : Option Errno) (turn : Turn DriverAct) → are_calm may (map Driver turn.acts) ≡ true → are_calm may (map Driver (refuse e turn).acts) ≡ true
  driver_refused None turn h = h
  driver_refused (Some errno) turn h = refl

  driver_either : {A : Type 0} (f : A → Turn DriverAct) (o : Option A) → ((a : A) → are_calm may (map Driver (f a).acts) ≡ true) → (errno : Errno) → are_calm may (map Driver (option_map_or f o (refusal_turn errno)).acts) ≡ true
  driver_either f None each errno = refl
  driver_either f (Some a) each errno = each a

  freed_calm : (region : ℕ) (rs : List Coherent) → may region ≡ true → are_calm may (map Driver (option_map_or freecoherent_turn (find (λ r. r.number == region) rs) (refusal_turn Noent)).acts) ≡ true
  freed_calm region [] free = refl
  freed_calm region (r ∷ rs) free = by (r.number == region) refl (freed_calm region rs free) where
    by : (t : Bool) → (r.number == region) ≡ t → are_calm may (map Driver (option_map_or freecoherent_turn (find (λ r. r.number == region) rs) (refusal_turn Noent)).acts) ≡ true
        → are_calm may (map Driver (option_map_or freecoherent_turn (if t then Some r else find (λ r. r.number == region) rs) (refusal_turn Noent)).acts) ≡ true
    by true e rest = ap (λ t. t && true) (ap may (same e) ∙ free) where
      same : (r.number == region) ≡ true → r.number ≡ region
      same e = elim (eqb_tells r.number region) [ inl h ↦ h.1 | inr h ↦ absurd (true≢false (sym e ∙ h.0)) ]
    by false e rest = rest

  driver_calm : (x : Setting) (done : List Act) (step : DriverStep) → MayEnd may step → are_calm may (map Driver (driver_turn x done step).acts) ≡ true
  driver_calm x done (driver.Buf bytes) free = driver_refused (refusal_if (nat_lt buffer_limit (buffers_len done + length bytes)) Nospc) _ refl
  driver_calm x done (driver.Zeros len) free = driver_refused (refusal_if (nat_lt buffer_limit (buffers_len done + len)) Nospc) _ refl
  driver_calm x done (driver.Free buffer) free =
      driver_refused (refusal_if (not (is_some (buffer_len done buffer))) Noent) _ (driver_refused (refusal_if (list_any (λ m. m.want.buffer == buffer) (live_mappings done)) Busy) _ refl)
  driver_calm x done (driver.Poke buffer offset bytes) free = driver_refused (range_refusal (buffer_len done buffer) offset (length bytes)) _ refl
  driver_calm x done (driver.Peek buffer offset len) free = driver_refused (range_refusal (buffer_len done buffer) offset len) _ refl
  driver_calm x done (driver.Map buffer offset len dir) free =
      driver_refused (range_refusal (buffer_len done buffer) offset len) _
      (driver_either (map_at done (want_of buffer offset len dir)) (place_of (taken_slots done) (pages_of len) x.per_page x.bounce) (λ slot. refl) Nospc)
  driver_calm x done (driver.Unmap mapping) free = driver_either unmap_turn (find (λ m. m.number == mapping) (live_mappings done)) (λ m. refl) Noent
  driver_calm x done (driver.SyncDev mapping) free =
      driver_either syncdev_turn (find (λ m. m.number == mapping) (live_mappings done)) (λ m. driver_refused (refusal_if (not (is_to_device m.want.dir)) Inval) _ refl) Noent
  driver_calm x done (driver.SyncCpu mapping) free =
      driver_either synccpu_turn (find (λ m. m.number == mapping) (live_mappings done)) (λ m. driver_refused (refusal_if (not (is_from_device m.want.dir)) Inval) _ refl) Noent
  driver_calm x done (driver.Coherent len) free =
      driver_refused (refusal_if (len == 0) Inval) _ (driver_either (coherent_at done len) (place_of (taken_slots done) (pages_of len) x.bounce x.iova) (λ slot. refl) Nospc)
  driver_calm x done (driver.FreeCoherent region) free = freed_calm region (live_regions done) free
  driver_calm x done (driver.Cput region offset bytes) free =
      driver_either (cput_turn offset bytes) (find (λ r. r.number == region) (live_regions done))
      (λ r. driver_refused (refusal_if (nat_lt (4096 * pages_of r.len) (offset + length bytes)) Inval) _ refl) Noent
  driver_calm x done (driver.Cget region offset len) free =
      driver_either (cget_turn x done offset len) (find (λ r. r.number == region) (live_regions done))
      (λ r. driver_refused (refusal_if (nat_lt (4096 * pages_of r.len) (offset + len)) Inval) _ refl) Noent

  refused : (e : Option Errno) (turn : Turn Act) → are_calm may turn.acts ≡ true → are_calm may (refuse e turn).acts ≡ true
  refused None turn h = h
  refused (Some errno) turn h = refl

  either : {A : Type 0} (f : A → Turn Act) (o : Option A) (turn : Turn Act) → ((a : A) → are_calm may (f a).acts ≡ true) → are_calm may turn.acts ≡ true → are_calm may (option_map_or f o turn).acts ≡ true
  either f None turn each h = h
  either f (Some a) turn each h = each a

  -- ---- the ends of messages

  end_calm : (id : ℕ) (b : Body) → are_calm may ((if asks_reset b then State Cleared ∷ [] else []) ++ Message_act (Took id) ∷ []) ≡ true
  end_calm id b = by (asks_reset b) where
    by : (t : Bool) → are_calm may ((if t then State Cleared ∷ [] else []) ++ Message_act (Took id) ∷ []) ≡ true
    by true = refl
    by false = refl

  status_calm : (id value : ℕ) (t : Bool) → are_calm may ((if t then State Cleared ∷ [] else State (Status_set value) ∷ []) ++ Message_act (Took id) ∷ []) ≡ true
  status_calm id value true = refl
  status_calm id value false = refl

  take_calm : (id : ℕ) (t : TakeAnswer) → are_calm may (take_turn id t).acts ≡ true
  take_calm id end.Pending = refl
  take_calm id end.Unknown = refl
  take_calm id (end.Done (body.Status value) avail) = status_calm id value (value == 0)
  take_calm id (end.Done (body.VqState index) avail) = refl
  take_calm id (end.Done (body.Iotlb range) avail) = refl
  take_calm id (end.FailedByReply b result) = end_calm id b
  take_calm id (end.FailedByTimeout b deadline now) = end_calm id b

  module _ (made : Creation) (done : List Act) where
    send_calm : (now : ℕ) (b : Body) → are_calm may (send_turn now done b).acts ≡ true
    send_calm now b = refused (refusal_if (is_broken (message_acts done)) Io) _ (refused (refusal_if (next_id device_start (message_acts done) == id_limit) Nospc) _ refl)

    reset_calm : (now : ℕ) (t : Bool) → are_calm may (if t then record { answer = answer.Err Io; acts = State Cleared ∷ [] } else send_turn now done (body.Status 0)).acts ≡ true
    reset_calm now true = refl
    reset_calm now false = send_calm now (body.Status 0)

    received_calm : (items : Message → List Item) → are_calm may (received_as items done).acts ≡ true
    received_calm items = either (λ m. done_with (items m) (Message_act (Received m.id) ∷ [])) (next_message (message_acts done)) (refusal_turn Again) (λ m. refl) refl

    on_queue_calm : (q : ℕ) (turn : Turn Act) → are_calm may turn.acts ≡ true → are_calm may (refuse (refusal_if (is_missing made q) Inval) turn).acts ≡ true
    on_queue_calm q turn h = refused (refusal_if (is_missing made q) Inval) turn h

    -- ---- the lines of the node

    plain_calm : (step : NodeStep) → are_calm may (plain_turn made done step).acts ≡ true
    plain_calm node.Open = refused (refusal_if (is_open done) Busy) _ refl
    plain_calm node.Close = by (registration_of done) where
      by : (o : Option Registration) → are_calm may (Message_act Lost ∷ Node Closed ∷ registration_end o) ≡ true
      by None = refl
      by (Some r) = refl
    plain_calm node.Features = refl
    plain_calm (node.SetConfig offset bytes) = refused (refusal_if (is_outside_config made.config offset (length bytes)) Inval) _ refl
    plain_calm node.ConfigIrq = refused (refusal_if (not (is_driver_ok (state_acts done))) Inval) _ refl
    plain_calm (node.VqSetup queue max) = on_queue_calm queue _ refl
    plain_calm (node.VqInfo queue) = on_queue_calm queue _ refl
    plain_calm (node.KickFd queue flag) = on_queue_calm queue _ refl
    plain_calm (node.Kicks queue) = on_queue_calm queue _
        (either (λ count. done_with (Number count ∷ []) (State (Kicks_taken queue) ∷ [])) (kick_file_of (state_acts done) queue) (refusal_turn Noent) (λ count. refl) refl)
    plain_calm (node.Irq queue) = on_queue_calm queue _ (refused (refusal_if (not (is_driver_ok (state_acts done))) Inval) _ refl)
    plain_calm node.Recv = received_calm (λ m. Word tag.Id ∷ Number m.id ∷ body_items m.body)
    plain_calm (node.Answer id result avail) = refused (refusal_if (not (is_held (message_acts done) id)) Noent) _ refl
    plain_calm (node.Read len) = refused (refusal_if (nat_lt len 152) Inval) _ (received_calm (λ m. Text (request_bytes m.id m.body) ∷ []))
    plain_calm (node.Write bytes) = refused (refusal_if (nat_lt (length bytes) 152) Inval) _ (refused (refusal_if (not (is_held (message_acts done) (field_at 4 bytes 0))) Noent) _ refl)
    plain_calm (node.Ioctl number bytes) = refl

    ioctl_calm : (x : Setting) (o : Option Ioctl) → are_calm may (ioctl_turn x made done o).acts ≡ true
    ioctl_calm x None = refl
    ioctl_calm x (Some (Plain_node step)) = plain_calm step
    ioctl_calm x (Some (Plain_area step)) = node_calm (area_turn x done step).acts
    ioctl_calm x (Some (Find_entry start last)) = node_calm (found_or x done start last (λ r. done_with (Text (entry_bytes r) ∷ []) [])).acts
    ioctl_calm x (Some (Find_info start last)) = node_calm (found_or x done start last (λ r. done_with (Text (info_bytes r (capability_of r)) ∷ []) [])).acts
    ioctl_calm x (Some Tell_features) = refl

    open_node_calm : (x : Setting) (step : NodeStep) → are_calm may (open_node_turn x made done step).acts ≡ true
    open_node_calm x (node.Ioctl number bytes) = ioctl_calm x (ioctl_of number bytes)
    open_node_calm x step = plain_calm step

    -- ---- the lines of the bus

    size_calm : (q num : ℕ) (t : Bool) → may_have (max_of (state_acts done) q) num ≡ t → are_calm may (refuse (refusal_if (not t) Inval) (done_with [] (State (Num_set q num) ∷ []))).acts ≡ true
    size_calm q num true e = by (nat_le num 32768) _ _ e where
      by : (a b c : Bool) → (a && b && c) ≡ true → (a && true) ≡ true
      by true b c e = refl
      by false b c e = absurd (true≢false (sym e))
    size_calm q num false e = refl

    attached_calm : (now : ℕ) (step : BusStep) → are_calm may (attached_turn made now done step).acts ≡ true
    attached_calm now bus.Attach = refused (refusal_if (not (are_set_up (state_acts done) made.queues)) Inval) _ (refused (refusal_if (is_attached done) Exist) _ refl)
    attached_calm now bus.Detach = refused (refusal_if (is_busy done) Busy) _ refl
    attached_calm now bus.Offered = refl
    attached_calm now (bus.SetFeatures features) = refused (refusal_if (not (may_accept (shape_of made) features)) Inval) _ refl
    attached_calm now bus.GetStatus = refl
    attached_calm now (bus.SetStatus status) = send_calm now (body.Status status)
    attached_calm now bus.Reset = reset_calm now (is_broken (message_acts done))
    attached_calm now (bus.VqNum queue num) = on_queue_calm queue _ (size_calm queue num (may_have (max_of (state_acts done) queue) num) refl)
    attached_calm now (bus.VqAddr queue desc driver device) = on_queue_calm queue _ (refused (refusal_if (not (are_aligned desc driver device)) Inval) _ refl)
    attached_calm now (bus.VqReady queue flag) = on_queue_calm queue _ refl
    attached_calm now (bus.SetVqState queue avail) = on_queue_calm queue _ refl
    attached_calm now (bus.GetVqState queue) = on_queue_calm queue _ (send_calm now (body.VqState queue))
    attached_calm now (bus.Kick queue) = on_queue_calm queue _ refl
    attached_calm now (bus.Callback on flag) = refused (refusal_if (not (is_queue_or_config (shape_of made) on)) Inval) _ refl
    attached_calm now (bus.Irqs on) = refused (refusal_if (not (is_queue_or_config (shape_of made) on)) Inval) _ refl
    attached_calm now (bus.GetConfig offset len) = refused (refusal_if (is_outside_config made.config offset len) Inval) _ refl
    attached_calm now (bus.Timeout seconds) = refl
    attached_calm now (bus.Take id) = take_calm id (message_told (message_acts done) id)

    -- ---- all of them

    pub line_calm : (x : Setting) (now : ℕ) (step : DevStep) → MayFree may done step → are_calm may (line_turn x made now done step).acts ≡ true
    line_calm x now (line.Node step) free = refused (refusal_if (not (opens step) && not (is_open done)) Badf) (open_node_turn x made done step) (open_node_calm x step)
    line_calm x now (line.Area step) free = refused (refusal_if (not (is_open done)) Badf) (lift Node (area_turn x done step)) (node_calm (area_turn x done step).acts)
    line_calm x now (line.Bus step) free = refused (refusal_if (needs_attachment step && not (is_attached done)) Nodev) (attached_turn made now done step) (attached_calm now step)
    line_calm x now (line.Driver step) free = by (is_attached done) refl where
      by : (on : Bool) → is_attached done ≡ on → are_calm may (refuse (refusal_if (not (is_attached done)) Nodev) (lift Driver (driver_turn x done step))).acts ≡ true
      by false e = ap (λ t. are_calm may (refuse (refusal_if (not t) Nodev) (lift Driver (driver_turn x done step))).acts) e
      by true e = refused (refusal_if (not (is_attached done)) Nodev) (lift Driver (driver_turn x done step)) (driver_calm x done step (if_on step free)) where
        if_on : (step : DriverStep) → MayFree may done (line.Driver step) → MayEnd may step
        if_on (driver.FreeCoherent region) free = free e
        if_on _ free = tt
