-- What each line does to the messages of a device is what its turn tested, and what it stores lies in the device's window.
use Rattle.std.proofs.Common.{◌≡◌, ℕ, ◌+◌, ◌-◌, ◌*◌, ◌/◌, ◌%◌, ◌≤◌, Bool, true, false, refl, ap, subst, ◌∙◌, sym, arith, Option, None, Some, nat_lt, List, [], ◌∷◌, ◌++◌, length, ◌||◌, ◌==◌, not, if◌then◌else◌}
use Rattle.std.specs.Option.{option_map_or}
use Rattle.std.proofs.lemmas.Bool.Decides.{nat_tests}
use Rattle.vd_num.specs.declared.errno.Errno.{Errno}
use Rattle.vd_num.specs.declared.errno.Errno.TheVariants.{Noent, Badf, Again, Inval, Io, Nospc, Nodev}
use Rattle.vd_model.specs.declared.message.Body.{Body}
use Rattle.vd_model.specs.declared.message.Body.TheVariants as body
use Rattle.vd_model.specs.declared.message.Message.{Message}
use Rattle.vd_model.specs.declared.message.TakeAnswer.{TakeAnswer}
use Rattle.vd_model.specs.declared.message.TakeAnswer.TheVariants as end
use Rattle.vd_model.specs.declared.step.NodeStep.{NodeStep}
use Rattle.vd_model.specs.declared.step.NodeStep.TheVariants as node
use Rattle.vd_model.specs.declared.step.BusStep.{BusStep}
use Rattle.vd_model.specs.declared.step.BusStep.TheVariants as bus
use Rattle.vd_model.specs.declared.step.DevStep.{DevStep}
use Rattle.vd_model.specs.declared.step.DevStep.TheVariants as line
use Rattle.vd_model.specs.declared.step.QueueStep.{QueueStep}
use Rattle.vd_model.specs.declared.step.QueueStep.TheVariants as queue
use Rattle.vd_model.specs.declared.answer.Answer.{Answer}
use Rattle.vd_model.specs.declared.answer.Answer.TheVariants.{Done, Err}
use Rattle.vd_model.specs.declared.answer.Tag.TheVariants.{Id}
use Rattle.vd_model.specs.declared.answer.Item.{Item}
use Rattle.vd_model.specs.declared.answer.Item.TheVariants.{Word, Number}
use Rattle.vd_model.specs.Setting.{Setting}
use Rattle.vd_model.specs.Creation.{Creation, has_feature}
use Rattle.vd_model.specs.Acts.{Act, NodeAct, Node, Driver, Bus, Closed, Queue, Message_act, State, Disk_act, Stored, message_acts}
use Rattle.vd_model.specs.State.{Cleared, Status_set}
use Rattle.vd_model.specs.Live.{is_open, registration_of, Registration}
use Rattle.vd_model.specs.Messages.{MessageAct, Sent, Received, Answered, Lost, Timed, Took, next_message, next_id, is_held, is_broken, message_told, message_of, id_limit}
use Rattle.vd_model.specs.Raw.{Ioctl, Plain_node, Plain_area, Find_entry, Find_info, Tell_features, ioctl_of}
use Rattle.vd_model.specs.Turn.{Turn, refusal_turn, refuse, refusal_if, lift, done_with}
use Rattle.vd_model.specs.Block as block
use Rattle.vd_model.specs.Puts.{each_from}
use Rattle.vd_model.specs.DaemonTurns.{executed_turn, execute_hand, execute_turn, Hand}
use Rattle.vd_model.specs.BusTurns.{device_start, send_turn, reset_turn, message_end_acts, asks_reset, take_turn, attached_turn, bus_turn}
use Rattle.vd_model.specs.NodeTurns.{registration_end, close_turn, received_as, answered_with, response_turn, plain_turn, ioctl_turn, open_node_turn, node_turn}
use Rattle.vd_model.specs.Deeds.{Seen}
use Rattle.vd_model.specs.History.{dev_turn, queue_turn, device_turn, device_queue_turn, disk_of}
use Rattle.vd_laws.proofs.Quiet.{are_quiet, Quiet, nodes_quiet, drivers_quiet, message_acts-append, quiet_unheard, refuse_quiet, option_quiet, walk_quiet, fetch_quiet, finish_quiet, ring_quiet, unring_quiet, add_quiet, publish_quiet, submit_quiet, poll_quiet}

-- ---- acts that a turn may make

-- what a turn tested when it made an act on messages
abbrev pub Admits : List MessageAct → MessageAct → Type 0
Admits acts (Sent m) = m.id ≡ next_id device_start acts
Admits acts (Received id) = (m : Message) × (next_message acts ≡ Some m) × (m.id ≡ id)
Admits acts (Answered id result avail) = is_held acts id ≡ true
Admits acts _ = Unit {0}

abbrev pub Legal : List MessageAct → Type 0
Legal [] = Unit {0}
Legal (act ∷ acts) = Admits acts act × Legal acts

-- what is stored lies within so many bytes
abbrev pub Fits : ℕ → List Act → Type 0
Fits room [] = Unit {0}
Fits room (Disk_act (Stored at bytes) ∷ acts) = (at + length bytes ≤ room) × Fits room acts
Fits room (_ ∷ acts) = Fits room acts

pub record Fair (room : ℕ) (done : List Act) (turn : Turn Act) : Type 0 where
  pub legal : Legal (message_acts done) → Legal (message_acts (turn.acts ++ done))
  pub fits : Fits room turn.acts

-- ---- lists

quiet_fits : (room : ℕ) (acts : List Act) → are_quiet acts ≡ true → Fits room acts
quiet_fits room [] h = tt
quiet_fits room (Message_act act ∷ acts) h = cc
quiet_fits room (Disk_act act ∷ acts) h = cc
quiet_fits room (Node act ∷ acts) h = quiet_fits room acts h
quiet_fits room (Driver act ∷ acts) h = quiet_fits room acts h
quiet_fits room (Bus act ∷ acts) h = quiet_fits room acts h
quiet_fits room (State act ∷ acts) h = quiet_fits room acts h
quiet_fits room (Queue act ∷ acts) h = quiet_fits room acts h

said_fits : (room : ℕ) (front rest : List Act) (act : MessageAct) → are_quiet front ≡ true → are_quiet rest ≡ true → Fits room (front ++ Message_act act ∷ rest)
said_fits room [] rest act h k = quiet_fits room rest k
said_fits room (Message_act other ∷ front) rest act h k = cc
said_fits room (Disk_act other ∷ front) rest act h k = cc
said_fits room (Node other ∷ front) rest act h k = said_fits room front rest act h k
said_fits room (Driver other ∷ front) rest act h k = said_fits room front rest act h k
said_fits room (Bus other ∷ front) rest act h k = said_fits room front rest act h k
said_fits room (State other ∷ front) rest act h k = said_fits room front rest act h k
said_fits room (Queue other ∷ front) rest act h k = said_fits room front rest act h k

unheard_after : (acts done : List Act) → message_acts acts ≡ [] → message_acts (acts ++ done) ≡ message_acts done
unheard_after acts done h = message_acts-append acts done ∙ ap (λ l. l ++ message_acts done) h

pub heard_after : (front rest done : List Act) (act : MessageAct) → are_quiet front ≡ true → are_quiet rest ≡ true → message_acts ((front ++ Message_act act ∷ rest) ++ done) ≡ act ∷ message_acts done
heard_after front rest done act h k =
    message_acts-append (front ++ Message_act act ∷ rest) done
    ∙ ap (λ l. l ++ message_acts done) (message_acts-append front (Message_act act ∷ rest) ∙ (ap (λ l. l ++ act ∷ message_acts rest) (quiet_unheard front h) ∙ ap (λ l. act ∷ l) (quiet_unheard rest k)))

pub registration_end_quiet : (o : Option Registration) → are_quiet (registration_end o) ≡ true
registration_end_quiet None = refl
registration_end_quiet (Some r) = refl

-- ---- turns

module _ (room : ℕ) (done : List Act) where
  pub quiet_fair : (turn : Turn Act) → Quiet turn → Fair room done turn
  quiet_fair turn h = record {
    legal = λ l. subst Legal (sym (unheard_after turn.acts done (quiet_unheard turn.acts h))) l;
    fits = quiet_fits room turn.acts h;
  }

  pub said_fair : (answer : Answer) (front rest : List Act) (act : MessageAct) → are_quiet front ≡ true → are_quiet rest ≡ true → Admits (message_acts done) act
      → Fair room done (record { answer = answer; acts = front ++ Message_act act ∷ rest })
  said_fair answer front rest act h k admits = record {
    legal = λ l. subst Legal (sym (heard_after front rest done act h k)) (admits, l);
    fits = said_fits room front rest act h k;
  }

  refuse_fair : (o : Option Errno) (turn : Turn Act) → Fair room done turn → Fair room done (refuse o turn)
  refuse_fair None turn h = h
  refuse_fair (Some errno) turn h = quiet_fair (refusal_turn errno) refl

  -- a turn of which nothing more is known than that its test let it through
  tested_fair : (b : Bool) (errno : Errno) (turn : Turn Act) → (b ≡ false → Fair room done turn) → Fair room done (refuse (refusal_if b errno) turn)
  tested_fair true errno turn h = quiet_fair (refusal_turn errno) refl
  tested_fair false errno turn h = h refl

  lifted_fair : (turn : Turn NodeAct) → Fair room done (lift Node turn)
  lifted_fair turn = quiet_fair (lift Node turn) (nodes_quiet turn.acts)

  -- ---- the node

  close_fair : Fair room done (close_turn done)
  close_fair = said_fair (Done []) [] (Node Closed ∷ registration_end (registration_of done)) Lost refl (registration_end_quiet (registration_of done)) tt

  received_fair : (items : Message → List Item) → Fair room done (received_as items done)
  received_fair items = by (next_message (message_acts done)) refl where
    by : (o : Option Message) → next_message (message_acts done) ≡ o → Fair room done (option_map_or (λ m. done_with (items m) (Message_act (Received m.id) ∷ [])) o (refusal_turn Again))
    by None e = quiet_fair (refusal_turn Again) refl
    by (Some m) e = said_fair (Done (items m)) [] [] (Received m.id) refl refl (m, e, refl)

  answered_fair : (items : List Item) (id result avail : ℕ) → Fair room done (answered_with items done id result avail)
  answered_fair items id result avail = by (is_held (message_acts done) id) refl where
    by : (b : Bool) → is_held (message_acts done) id ≡ b → Fair room done (refuse (refusal_if (not b) Noent) (done_with items (Message_act (Answered id result avail) ∷ [])))
    by true e = said_fair (Done items) [] [] (Answered id result avail) refl refl e
    by false e = quiet_fair (refusal_turn Noent) refl

  response_fair : (step : NodeStep) → Fair room done (response_turn done step)
  response_fair (node.Answer id result avail) = answered_fair (Number 152 ∷ []) id result avail
  response_fair _ = quiet_fair (refusal_turn Inval) refl

  plain_fair : (made : Creation) (step : NodeStep) → Fair room done (plain_turn made done step)
  plain_fair made node.Open = quiet_fair (plain_turn made done node.Open) (search refuse_quiet)
  plain_fair made node.Close = close_fair
  plain_fair made node.Features = quiet_fair (plain_turn made done node.Features) refl
  plain_fair made (node.SetConfig offset bytes) = quiet_fair (plain_turn made done (node.SetConfig offset bytes)) (search refuse_quiet)
  plain_fair made node.ConfigIrq = quiet_fair (plain_turn made done node.ConfigIrq) (search refuse_quiet)
  plain_fair made (node.VqSetup q max) = quiet_fair (plain_turn made done (node.VqSetup q max)) (search refuse_quiet)
  plain_fair made (node.VqInfo q) = quiet_fair (plain_turn made done (node.VqInfo q)) (search refuse_quiet)
  plain_fair made (node.KickFd q flag) = quiet_fair (plain_turn made done (node.KickFd q flag)) (search refuse_quiet)
  plain_fair made (node.Kicks q) = quiet_fair (plain_turn made done (node.Kicks q)) (search (refuse_quiet, option_quiet))
  plain_fair made (node.Irq q) = quiet_fair (plain_turn made done (node.Irq q)) (search refuse_quiet)
  plain_fair made node.Recv = received_fair _
  plain_fair made (node.Answer id result avail) = answered_fair [] id result avail
  plain_fair made (node.Read len) = search (refuse_fair, received_fair)
  plain_fair made (node.Write bytes) = search (refuse_fair, response_fair)
  plain_fair made (node.Ioctl number bytes) = quiet_fair (refusal_turn Inval) refl

  ioctl_fair : (x : Setting) (made : Creation) (o : Option Ioctl) → Fair room done (ioctl_turn x made done o)
  ioctl_fair x made None = quiet_fair (refusal_turn Inval) refl
  ioctl_fair x made (Some (Plain_node step)) = plain_fair made step
  ioctl_fair x made (Some (Plain_area step)) = lifted_fair _
  ioctl_fair x made (Some (Find_entry start last)) = lifted_fair _
  ioctl_fair x made (Some (Find_info start last)) = lifted_fair _
  ioctl_fair x made (Some Tell_features) = quiet_fair (ioctl_turn x made done (Some Tell_features)) refl

  open_node_fair : (x : Setting) (made : Creation) (step : NodeStep) → Fair room done (open_node_turn x made done step)
  open_node_fair x made (node.Ioctl number bytes) = ioctl_fair x made (ioctl_of number bytes)
  open_node_fair x made node.Open = plain_fair made node.Open
  open_node_fair x made node.Close = plain_fair made node.Close
  open_node_fair x made node.Features = plain_fair made node.Features
  open_node_fair x made (node.SetConfig offset bytes) = plain_fair made (node.SetConfig offset bytes)
  open_node_fair x made node.ConfigIrq = plain_fair made node.ConfigIrq
  open_node_fair x made (node.VqSetup q max) = plain_fair made (node.VqSetup q max)
  open_node_fair x made (node.VqInfo q) = plain_fair made (node.VqInfo q)
  open_node_fair x made (node.KickFd q flag) = plain_fair made (node.KickFd q flag)
  open_node_fair x made (node.Kicks q) = plain_fair made (node.Kicks q)
  open_node_fair x made (node.Irq q) = plain_fair made (node.Irq q)
  open_node_fair x made node.Recv = plain_fair made node.Recv
  open_node_fair x made (node.Answer id result avail) = plain_fair made (node.Answer id result avail)
  open_node_fair x made (node.Read len) = plain_fair made (node.Read len)
  open_node_fair x made (node.Write bytes) = plain_fair made (node.Write bytes)

  node_fair : (x : Setting) (made : Creation) (step : NodeStep) → Fair room done (node_turn x made done step)
  node_fair x made step = search (refuse_fair, open_node_fair)

  -- ---- the bus

  send_fair : (now : ℕ) (says : Body) → Fair room done (send_turn now done says)
  send_fair now says =
      let sent : Fair room done (done_with (Word Id ∷ Number (next_id device_start (message_acts done)) ∷ []) (Message_act (Sent (message_of device_start (message_acts done) says now)) ∷ []))
      = said_fair (Done (Word Id ∷ Number (next_id device_start (message_acts done)) ∷ [])) [] [] (Sent (message_of device_start (message_acts done) says now)) refl refl refl in
      refuse_fair (refusal_if (is_broken (message_acts done)) Io) _ (refuse_fair (refusal_if (next_id device_start (message_acts done) == id_limit) Nospc) _ sent)

  reset_fair : (now : ℕ) → Fair room done (reset_turn now done)
  reset_fair now = by (is_broken (message_acts done)) where
    by : (b : Bool) → Fair room done (if b then record { answer = Err Io; acts = State Cleared ∷ [] } else send_turn now done (body.Status 0))
    by true = quiet_fair (record { answer = Err Io; acts = State Cleared ∷ [] }) refl
    by false = send_fair now (body.Status 0)

  message_end_acts_fair : (answer : Answer) (id : ℕ) (says : Body) (more : List Act) → are_quiet more ≡ true → Fair room done (record { answer = answer; acts = message_end_acts id says more })
  message_end_acts_fair answer id says more h = by (asks_reset says) where
    by : (b : Bool) → Fair room done (record { answer = answer; acts = (if b then State Cleared ∷ [] else more) ++ Message_act (Took id) ∷ [] })
    by true = said_fair answer (State Cleared ∷ []) [] (Took id) refl refl tt
    by false = said_fair answer more [] (Took id) h refl tt

  take_fair : (id : ℕ) (answer : TakeAnswer) → Fair room done (take_turn id answer)
  take_fair id end.Pending = quiet_fair (take_turn id end.Pending) refl
  take_fair id end.Unknown = quiet_fair (refusal_turn Noent) refl
  take_fair id (end.Done (body.Status value) avail) = message_end_acts_fair _ id (body.Status value) (State (Status_set value) ∷ []) refl
  take_fair id (end.Done (body.VqState index) avail) = message_end_acts_fair _ id (body.VqState index) [] refl
  take_fair id (end.Done (body.Iotlb range) avail) = message_end_acts_fair _ id (body.Iotlb range) [] refl
  take_fair id (end.FailedByReply says result) = message_end_acts_fair _ id says [] refl
  take_fair id (end.FailedByTimeout says deadline now) = message_end_acts_fair _ id says [] refl

  attached_fair : (made : Creation) (now : ℕ) (step : BusStep) → Fair room done (attached_turn made now done step)
  attached_fair made now bus.Attach = quiet_fair (attached_turn made now done bus.Attach) (search refuse_quiet)
  attached_fair made now bus.Detach = quiet_fair (attached_turn made now done bus.Detach) (search refuse_quiet)
  attached_fair made now bus.Offered = quiet_fair (attached_turn made now done bus.Offered) refl
  attached_fair made now (bus.SetFeatures features) = quiet_fair (attached_turn made now done (bus.SetFeatures features)) (search refuse_quiet)
  attached_fair made now bus.GetStatus = quiet_fair (attached_turn made now done bus.GetStatus) refl
  attached_fair made now (bus.SetStatus status) = send_fair now (body.Status status)
  attached_fair made now bus.Reset = reset_fair now
  attached_fair made now (bus.VqNum q num) = quiet_fair (attached_turn made now done (bus.VqNum q num)) (search refuse_quiet)
  attached_fair made now (bus.VqAddr q desc driver device) = quiet_fair (attached_turn made now done (bus.VqAddr q desc driver device)) (search refuse_quiet)
  attached_fair made now (bus.VqReady q flag) = quiet_fair (attached_turn made now done (bus.VqReady q flag)) (search refuse_quiet)
  attached_fair made now (bus.SetVqState q avail) = quiet_fair (attached_turn made now done (bus.SetVqState q avail)) (search refuse_quiet)
  attached_fair made now (bus.GetVqState q) = let sent : Fair room done (send_turn now done (body.VqState q)) = send_fair now (body.VqState q) in search (refuse_fair, sent)
  attached_fair made now (bus.Kick q) = quiet_fair (attached_turn made now done (bus.Kick q)) (search refuse_quiet)
  attached_fair made now (bus.Callback on flag) = quiet_fair (attached_turn made now done (bus.Callback on flag)) (search refuse_quiet)
  attached_fair made now (bus.Irqs on) = quiet_fair (attached_turn made now done (bus.Irqs on)) (search refuse_quiet)
  attached_fair made now (bus.GetConfig offset len) = quiet_fair (attached_turn made now done (bus.GetConfig offset len)) (search refuse_quiet)
  attached_fair made now (bus.Timeout seconds) = said_fair (Done []) [] [] (Timed seconds) refl refl tt
  attached_fair made now (bus.Take id) = take_fair id (message_told (message_acts done) id)

  bus_fair : (made : Creation) (now : ℕ) (step : BusStep) → Fair room done (bus_turn made now done step)
  bus_fair made now step = search (refuse_fair, attached_fair)

-- ---- the disk

-- a request that stores its payload stores whole sectors of the disk
stores_inside : (disk : block.Disk) (b : block.Block) (failed : Bool) → (block.result_of disk b failed).stores ≡ true → 512 * b.sector + length b.payload ≤ 512 * disk.sectors
stores_inside disk b failed h = by (b.kind == 0) (b.kind == 1) (b.kind == 4) (b.kind == 8) h where
  reads : (c : Bool) → (if c then block.ends_with b 1 else record { status = 0; bytes = each_from disk.byte (512 * b.sector) (b.writable - 1); stores = false }).stores ≡ true → 512 * b.sector + length b.payload ≤ 512 * disk.sectors
  reads true e = cc
  reads false e = cc

  writes : (whole past ro f : Bool) → (length b.payload % 512 == 0) ≡ whole → nat_lt disk.sectors (b.sector + length b.payload / 512) ≡ past
      → (if (not whole || past) || ro || f then block.ends_with b 1 else record { status = 0; bytes = block.zeros_for b; stores = true }).stores ≡ true → 512 * b.sector + length b.payload ≤ 512 * disk.sectors
  writes false past ro f e g k = cc
  writes true true ro f e g k = cc
  writes true false true f e g k = cc
  writes true false false true e g k = cc
  writes true false false false e g k = grind (arith, nat_tests, e, g)

  names : (c : Bool) → (if not c then block.ends_with b 1 else record { status = 0; bytes = block.id_bytes disk.name; stores = false }).stores ≡ true → 512 * b.sector + length b.payload ≤ 512 * disk.sectors
  names true e = cc
  names false e = cc

  by : (in_kind out flush id : Bool) → (if in_kind then block.read_result disk b failed else if out then block.write_result disk b failed else if flush then block.ends_with b (block.request_status failed) else if id then block.id_result disk b else block.ends_with b 2).stores ≡ true
      → 512 * b.sector + length b.payload ≤ 512 * disk.sectors
  by true out flush id e = reads _ e
  by false true flush id e = writes (length b.payload % 512 == 0) (nat_lt disk.sectors (b.sector + length b.payload / 512)) (has_feature disk.features 5) failed refl refl e
  by false false true id e = cc
  by false false false true e = names (b.writable - 1 == 20) e
  by false false false false e = cc

module _ (disk : block.Disk) (done : List Act) where
  stored_fair : (q : ℕ) (b : block.Block) (result : block.RequestResult) → (result.stores ≡ true → 512 * b.sector + length b.payload ≤ 512 * disk.sectors) → Fair (512 * disk.sectors) done (executed_turn q b result)
  stored_fair q b result h = by result.stores refl where
    by : (s : Bool) → result.stores ≡ s → Fair (512 * disk.sectors) done (executed_turn q b (record { status = result.status; bytes = result.bytes; stores = s }))
    by true e = record { legal = λ l. l; fits = (h e, tt) }
    by false e = quiet_fair (512 * disk.sectors) done (executed_turn q b (record { status = result.status; bytes = result.bytes; stores = false })) refl

  hand_fair : (failed : Bool) (q : ℕ) (h : Hand) → Fair (512 * disk.sectors) done (execute_hand disk failed q h)
  hand_fair failed q h =
      let b : block.Block = block.block_of h.bytes h.writable in
      stored_fair q b (block.result_of disk b failed) (stores_inside disk b failed)

  optional_fair : {X : Type 0} (turn : X → Turn Act) (o : Option X) → ((x : X) → Fair (512 * disk.sectors) done (turn x)) → Fair (512 * disk.sectors) done (option_map_or turn o (refusal_turn Noent))
  optional_fair turn None h = quiet_fair (512 * disk.sectors) done (refusal_turn Noent) refl
  optional_fair turn (Some y) h = h y

  execute_fair : (x : Setting) (made : Creation) (failed : Bool) (q : ℕ) → Fair (512 * disk.sectors) done (execute_turn x made disk failed done q)
  execute_fair x made failed q =
      let refuse_fair : (o : Option Errno) (turn : Turn Act) → Fair (512 * disk.sectors) done turn → Fair (512 * disk.sectors) done (refuse o turn) = refuse_fair (512 * disk.sectors) done in
      search (refuse_fair, optional_fair, hand_fair)

-- ---- the lines of a device

-- the bytes of the window that is seen
abbrev pub room_of : Seen → ℕ
room_of s = 512 * option_map_or (λ w. w.count) s.window 0

module _ (x : Setting) (made : Creation) (name : List ℕ) (s : Seen) where
  dev_fair : (step : DevStep) → Fair (room_of s) s.acts (dev_turn x made s step)
  dev_fair (line.Node step) = node_fair (room_of s) s.acts x made step
  dev_fair (line.Area step) = refuse_fair (room_of s) s.acts (refusal_if (not (is_open s.acts)) Badf) _ (lifted_fair (room_of s) s.acts _)
  dev_fair (line.Bus step) = bus_fair (room_of s) s.acts made s.now step
  dev_fair (line.Driver step) = quiet_fair (room_of s) s.acts (dev_turn x made s (line.Driver step)) (search (refuse_quiet, drivers_quiet))

  queue_fair : (failed : Bool) (step : QueueStep) → Fair (room_of s) s.acts (queue_turn x made name s failed step)
  queue_fair failed (queue.Walk q head) = quiet_fair (room_of s) s.acts (queue_turn x made name s failed (queue.Walk q head)) (search (refuse_quiet, walk_quiet))
  queue_fair failed (queue.Fetch q) = quiet_fair (room_of s) s.acts (queue_turn x made name s failed (queue.Fetch q)) (search (refuse_quiet, fetch_quiet))
  queue_fair failed (queue.Execute q) = refuse_fair (room_of s) s.acts (refusal_if (not (is_open s.acts)) Badf) _ (execute_fair (disk_of made name s) s.acts x made failed q)
  queue_fair failed (queue.Finish q) = quiet_fair (room_of s) s.acts (queue_turn x made name s failed (queue.Finish q)) (search (refuse_quiet, finish_quiet))
  queue_fair failed (queue.Ring q size) = quiet_fair (room_of s) s.acts (queue_turn x made name s failed (queue.Ring q size)) (search (refuse_quiet, ring_quiet))
  queue_fair failed (queue.Unring q) = quiet_fair (room_of s) s.acts (queue_turn x made name s failed (queue.Unring q)) (search (refuse_quiet, unring_quiet))
  queue_fair failed (queue.Add q parts) = quiet_fair (room_of s) s.acts (queue_turn x made name s failed (queue.Add q parts)) (search (refuse_quiet, add_quiet))
  queue_fair failed (queue.Publish q) = quiet_fair (room_of s) s.acts (queue_turn x made name s failed (queue.Publish q)) (search (refuse_quiet, publish_quiet))
  queue_fair failed (queue.Submit q asked) = quiet_fair (room_of s) s.acts (queue_turn x made name s failed (queue.Submit q asked)) (search (refuse_quiet, submit_quiet))
  queue_fair failed (queue.Poll q) = quiet_fair (room_of s) s.acts (queue_turn x made name s failed (queue.Poll q)) (search (refuse_quiet, poll_quiet))

pub device_fair : (x : Setting) (s : Seen) (step : DevStep) → Fair (room_of s) s.acts (device_turn x s step)
device_fair x s step = by s.made where
  by : (o : Option Creation) → Fair (room_of s) s.acts (option_map_or (λ made. dev_turn x made s step) o (refusal_turn Nodev))
  by None = quiet_fair (room_of s) s.acts (refusal_turn Nodev) refl
  by (Some made) = dev_fair x made [] s step

pub device_queue_fair : (x : Setting) (name : List ℕ) (s : Seen) (failed : Bool) (step : QueueStep) → Fair (room_of s) s.acts (device_queue_turn x name s failed step)
device_queue_fair x name s failed step = by s.made where
  by : (o : Option Creation) → Fair (room_of s) s.acts (option_map_or (λ made. queue_turn x made name s failed step) o (refusal_turn Nodev))
  by None = quiet_fair (room_of s) s.acts (refusal_turn Nodev) refl
  by (Some made) = queue_fair x made name s failed step
