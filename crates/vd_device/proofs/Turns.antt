-- The turn of a line on the memory or on the control path is one of the device.
use Rattle.std.proofs.Common.{◌≡◌, true≢false, ℕ, Bool, true, false, refl, ap, sym, ◌∙◌, not, nat_lt, List, [], ◌∷◌, ◌++◌, length, map, Option, Some, None, Result, Ok, Err}
use Rattle.std.specs.List.{list_all}
use Rattle.std.specs.Option.{option_map_or}
use Rattle.vd_num.specs.declared.errno.Errno.{Errno}
use Rattle.vd_num.specs.declared.errno.Errno.TheVariants.{Badf, Busy, Exist, Inval, Nodev, Noent}
use Rattle.vd_pool.specs.Memory.{PoolMemory as Pool}
use Rattle.vd_model.specs.declared.answer.Answer.{Answer}
use Rattle.vd_model.specs.declared.answer.Answer.TheVariants as answer
use Rattle.vd_model.specs.declared.answer.Item.TheVariants.{Word, Address, Text}
use Rattle.vd_model.specs.declared.answer.Tag.TheVariants.{Base}
use Rattle.vd_model.specs.declared.memory.Region.{Region}
use Rattle.vd_model.specs.declared.step.AreaStep.{AreaStep}
use Rattle.vd_model.specs.declared.step.AreaStep.TheVariants as area
use Rattle.vd_model.specs.declared.step.NodeStep.{NodeStep}
use Rattle.vd_model.specs.declared.step.NodeStep.TheVariants as node
use Rattle.vd_model.specs.NodeTurns.{plain_turn, open_node_turn}
use Rattle.vd_device.specs.Turns.{is_plain}
use Rattle.vd_model.specs.Setting.{Setting, bounce_size}
use Rattle.vd_model.specs.Creation.{Creation}
use Rattle.vd_model.specs.Acts.{Act, NodeAct, DriverAct, Node, Driver, Daemon_put, Area_made, Area_put, Registered, Deregistered}
use Rattle.vd_model.specs.Live.{is_open, is_attached, area_len, registration_of}
use Rattle.vd_model.specs.Turn.{Turn, refuse, refusal_if, refusal_turn, done_with}
use Rattle.vd_model.specs.AreaTurns.{area_turn, found_or, first_region, daemon_regions, lookup_turn, iovainfo_turn, area_start, part_refusal, first_bus, area_limit, may_register}
use Rattle.vd_model.specs.Puts.{bus_bytes, area_bytes}
use Rattle.vd_model.specs.History.{needs_session, needs_bus}
use Rattle.std.specs.Prelude.{is_some, ◌==◌, ◌%◌, ◌||◌, ◌&&◌, ◌-◌}
use Rattle.vd_answers.specs.Tells.{Tells, MayTell}
use Rattle.vd_memory_lines.specs.declared.memory.Memory.{Memory}
use Rattle.vd_memory_lines.specs.Stands as memory
use Rattle.vd_control_path.specs.Acts.{is_memory_act}
use Rattle.vd_device.specs.declared.device.Device.{Device}
use Rattle.vd_device.specs.Stands.{Stands, After, IsReached}
use Rattle.vd_device.proofs.Parts.{memory_line}

-- ---- which acts the memory sees

pub driver_only : (acts : List DriverAct) → list_all is_memory_act (map Driver acts) ≡ true
driver_only [] = refl
driver_only (act ∷ acts) = driver_only acts

-- the memory sees each of them, and the control path none
abbrev are_seen : List NodeAct → Bool
are_seen acts = list_all is_memory_act (map Node acts)

seen_refused : (e : Option Errno) (turn : Turn NodeAct) → are_seen turn.acts ≡ true → are_seen (refuse e turn).acts ≡ true
seen_refused None turn h = h
seen_refused (Some errno) turn h = refl

seen_either : {A : Type 0} (f : A → Turn NodeAct) (o : Option A) (turn : Turn NodeAct) → ((a : A) → are_seen (f a).acts ≡ true) → are_seen turn.acts ≡ true → are_seen (option_map_or f o turn).acts ≡ true
seen_either f None turn each h = h
seen_either f (Some a) turn each h = each a

found_only : (x : Setting) (done : List Act) (start last : ℕ) (turn : Region → Turn NodeAct) → ((r : Region) → are_seen (turn r).acts ≡ true) → are_seen (found_or x done start last turn).acts ≡ true
found_only x done start last turn each =
    seen_refused (refusal_if (nat_lt last start) Inval) (option_map_or turn (first_region (daemon_regions x done) start last) (refusal_turn Inval))
    (seen_either turn (first_region (daemon_regions x done) start last) (refusal_turn Inval) each refl)

pub area_only : (x : Setting) (done : List Act) (step : AreaStep) → list_all is_memory_act (map Node (area_turn x done step).acts) ≡ true
area_only x done (area.Lookup start last) = found_only x done start last lookup_turn (λ r. refl)
area_only x done (area.IovaInfo start last) = found_only x done start last iovainfo_turn (λ r. refl)
area_only x done (area.Area bytes) =
    seen_refused (refusal_if ((bytes == 0) || not ((bytes % 4096) == 0) || nat_lt area_limit bytes) Inval)
    (refuse (refusal_if (is_some (registration_of done)) Busy) (done_with (Word Base ∷ Address area_start ∷ []) (Area_made bytes ∷ [])))
    (seen_refused (refusal_if (is_some (registration_of done)) Busy) (done_with (Word Base ∷ Address area_start ∷ []) (Area_made bytes ∷ [])) refl)
area_only x done (area.AreaPut offset bytes) = seen_refused (part_refusal (area_len done) offset (length bytes)) (done_with [] (Area_put offset bytes ∷ [])) refl
area_only x done (area.AreaGet offset len) = seen_refused (part_refusal (area_len done) offset len) (done_with (Text (area_bytes x.per_page done offset len) ∷ []) []) refl
area_only x done (area.RegUmem uaddr iova size) =
    seen_refused (refusal_if (not (may_register x done uaddr iova size)) Inval)
    (refuse (refusal_if (is_some (registration_of done)) Exist) (done_with [] (Registered (uaddr - area_start) (bounce_size x) ∷ [])))
    (seen_refused (refusal_if (is_some (registration_of done)) Exist) (done_with [] (Registered (uaddr - area_start) (bounce_size x) ∷ [])) refl)
area_only x done (area.DeregUmem iova size) =
    seen_refused (refusal_if (not (is_some (registration_of done))) Noent)
    (refuse (refusal_if (not ((iova == 0) && (size == bounce_size x))) Inval) (done_with [] (Deregistered ∷ [])))
    (seen_refused (refusal_if (not ((iova == 0) && (size == bounce_size x))) Inval) (done_with [] (Deregistered ∷ [])) refl)
area_only x done (area.Load at len) =
    seen_either (λ bad. record { answer = answer.Bus bad; acts = [] }) (first_bus x done at len) (done_with (Text (bus_bytes x.per_page done at len) ∷ []) []) (λ bad. refl) refl
area_only x done (area.Store at bytes) =
    seen_either (λ bad. record { answer = answer.Bus bad; acts = [] }) (first_bus x done at (length bytes)) (done_with [] (Daemon_put at bytes ∷ [])) (λ bad. refl) refl

-- ---- a line on the memory

pub memory_tells : {E : Type 0} {heard : Answer → Type 0} {turn : Turn Act} {x : Setting} {made : Creation} {done : List Act} {d : Device} {m n : Pool} (k : Memory) (r : Result (Unit {0}) E) → list_all is_memory_act turn.acts ≡ true
    → Stands x made done d m → MayTell heard turn (memory.After x done k n) r → MayTell heard turn (After x made done (record d { memory = k }) n) r
memory_tells {E} {heard} {turn} k (Ok u) only s h = record { says = h.says; stands = memory_line k turn.acts only s h.stands }
memory_tells k (Err e) only s h = record { says = tt; stands = memory_line k [] refl s h.stands }

-- ---- the tests before a line

pub session_open : (acts : List Act) (turn : Turn Act) → is_open acts ≡ true → needs_session acts turn ≡ turn
session_open acts turn e = ap (λ b. refuse (refusal_if (not b) Badf) turn) e

pub session_closed : (acts : List Act) (turn : Turn Act) → is_open acts ≡ false → needs_session acts turn ≡ refusal_turn Badf
session_closed acts turn e = ap (λ b. refuse (refusal_if (not b) Badf) turn) e

pub bus_there : (acts : List Act) (turn : Turn Act) → is_attached acts ≡ true → needs_bus acts turn ≡ turn
bus_there acts turn e = ap (λ b. refuse (refusal_if (not b) Nodev) turn) e

pub bus_away : (acts : List Act) (turn : Turn Act) → is_attached acts ≡ false → needs_bus acts turn ≡ refusal_turn Nodev
bus_away acts turn e = ap (λ b. refuse (refusal_if (not b) Nodev) turn) e

-- a line that is refused where the test holds
pub test_fails : (b : Bool) (errno : Errno) (turn : Turn Act) → b ≡ false → refuse (refusal_if b errno) turn ≡ turn
test_fails b errno turn e = ap (λ t. refuse (refusal_if t errno) turn) e

pub test_holds : (b : Bool) (errno : Errno) (turn : Turn Act) → b ≡ true → refuse (refusal_if b errno) turn ≡ refusal_turn errno
test_holds b errno turn e = ap (λ t. refuse (refusal_if t errno) turn) e

-- ---- a line of the node that is no ioctl

pub plain_is : (x : Setting) (made : Creation) (acts : List Act) (step : NodeStep) → is_plain step ≡ true → open_node_turn x made acts step ≡ plain_turn made acts step
plain_is x made acts (node.Ioctl number bytes) e = absurd (true≢false (sym e))
plain_is x made acts node.Open e = refl
plain_is x made acts node.Close e = refl
plain_is x made acts node.Features e = refl
plain_is x made acts (node.SetConfig offset bytes) e = refl
plain_is x made acts node.ConfigIrq e = refl
plain_is x made acts (node.VqSetup queue max) e = refl
plain_is x made acts (node.VqInfo queue) e = refl
plain_is x made acts (node.KickFd queue flag) e = refl
plain_is x made acts (node.Kicks queue) e = refl
plain_is x made acts (node.Irq queue) e = refl
plain_is x made acts node.Recv e = refl
plain_is x made acts (node.Answer id result avail) e = refl
plain_is x made acts (node.Read len) e = refl
plain_is x made acts (node.Write bytes) e = refl

-- ---- after a line

-- a device stands for some acts still
pub reached_after : {E : Type 0} {heard : Answer → Type 0} {turn : Turn Act} {x : Setting} {made : Creation} {done : List Act} {d : Device} {m : Pool} (r : Result (Unit {0}) E) → MayTell heard turn (After x made done d m) r → IsReached d m
reached_after {E} {heard} {turn} {x} {made} {done} (Ok u) h = record { setting = x; made = made; acts = turn.acts ++ done; stands = h.stands }
reached_after {E} {heard} {turn} {x} {made} {done} (Err e) h = record { setting = x; made = made; acts = done; stands = h.stands }
