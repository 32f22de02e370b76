-- The lines of a calm span keep what holds of the rings.
use Rattle.std.proofs.Common.{◌≡◌, ℕ, ◌==◌, Bool, true, false, refl, subst, Option, None, Some, List, [], ◌++◌, ◌&&◌, not, find, eqb-true}
use Rattle.std.specs.Option.{option_map_or}
use Rattle.std.specs.List.{list_all}
use Rattle.vd_num.specs.declared.errno.Errno.{Errno}
use Rattle.vd_num.specs.declared.errno.Errno.TheVariants.{Badf, Busy, Nodev, Noent}
use Rattle.vd_model.specs.declared.step.NodeStep.{NodeStep}
use Rattle.vd_model.specs.declared.step.NodeStep.TheVariants as node
use Rattle.vd_model.specs.declared.step.AreaStep.{AreaStep}
use Rattle.vd_model.specs.declared.step.AreaStep.TheVariants as area
use Rattle.vd_model.specs.declared.step.DriverStep.{DriverStep}
use Rattle.vd_model.specs.declared.step.DriverStep.TheVariants as driver
use Rattle.vd_model.specs.declared.step.DevStep.{DevStep}
use Rattle.vd_model.specs.declared.step.DevStep.TheVariants as line
use Rattle.vd_model.specs.declared.step.QueueStep.{QueueStep}
use Rattle.vd_model.specs.declared.step.QueueStep.TheVariants as queue
use Rattle.vd_model.specs.Setting.{Setting}
use Rattle.vd_model.specs.Creation.{Creation}
use Rattle.vd_model.specs.Acts.{Act, Node, NodeAct, Driver, Streaming, Unmapped, state_acts}
use Rattle.vd_model.specs.State.{is_ready}
use Rattle.vd_model.specs.Live.{live_mappings, is_open, is_attached}
use Rattle.vd_model.specs.Queues.{has_map, some_pending}
use Rattle.vd_model.specs.Turn.{Turn, refuse, refusal_turn, lift}
use Rattle.vd_model.specs.AreaTurns.{area_turn}
use Rattle.vd_model.specs.NodeTurns.{opens, open_node_turn}
use Rattle.vd_model.specs.DriverTurns.{unmap_turn, driver_turn}
use Rattle.vd_model.specs.DaemonTurns.{fetch_turn, execute_turn, finish_turn}
use Rattle.vd_model.specs.RingTurns.{ring_turn, submit_turn, poll_turn}
use Rattle.vd_model.specs.Deeds.{Seen}
use Rattle.vd_model.specs.History.{needs_session, needs_bus, is_kept, needs_unkept, disk_of, dev_turn, queue_turn}
use Rattle.vd_laws.specs.Among.{Among}
use Rattle.vd_laws.specs.Runs.{IsAddressed, IsWhole}
use Rattle.vd_ring_laws.specs.Calm.{IsDescribed, is_calm_line, is_calm_queue_line}
use Rattle.vd_laws.proofs.Lists.{found_passes}
use Rattle.vd_laws.proofs.Legal.{maps_of, Legal}
use Rattle.vd_ring_laws.proofs.Fair.{Fair}
use Rattle.vd_ring_turns.proofs.CalmRings.{Calms, still_calms}
use Rattle.vd_order_laws.proofs.PlainLines.{is_plain, plain_calms, node_plain, bus_plain, execute_plain, driver_plain, no_pending}
use Rattle.vd_ring_turns.proofs.Fetches.{refuse_with, fetch_calms}
use Rattle.vd_ring_turns.proofs.Finishes.{finish_calms}
use Rattle.vd_ring_turns.proofs.PollTurns.{poll_calms}
use Rattle.vd_ring_turns.proofs.RingMakes.{ring_calms}
use Rattle.vd_order_laws.proofs.SubmitTurns.{submit_calms}

-- a daemon's calm lines on memory make no act
module _ (x : Setting) (done : List Act) where
  quiet_refuse : (o : Option Errno) (turn : Turn NodeAct) → list_all is_plain (lift Node turn).acts ≡ true → list_all is_plain (lift Node (refuse o turn)).acts ≡ true
  quiet_refuse None turn e = e
  quiet_refuse (Some errno) turn e = refl

  quiet_option : {X : Type 0} (turn : X → Turn NodeAct) (o : Option X) (other : Turn NodeAct) → ((y : X) → list_all is_plain (lift Node (turn y)).acts ≡ true) → list_all is_plain (lift Node other).acts ≡ true
      → list_all is_plain (lift Node (option_map_or turn o other)).acts ≡ true
  quiet_option turn None other h k = k
  quiet_option turn (Some y) other h k = h y

  area_plain : (step : AreaStep) → is_calm_line (line.Area step) ≡ true → list_all is_plain (lift Node (area_turn x done step)).acts ≡ true
  area_plain (area.Lookup start last) e = search (quiet_refuse, quiet_option)
  area_plain (area.IovaInfo start last) e = search (quiet_refuse, quiet_option)
  area_plain (area.Load at len) e = search (quiet_refuse, quiet_option)
  area_plain _ e = cc

node_calm : (x : Setting) (made : Creation) (done : List Act) (step : NodeStep) → is_calm_line (line.Node step) ≡ true → list_all is_plain (open_node_turn x made done step).acts ≡ true
node_calm x made done (node.Ioctl number bytes) e = cc
node_calm x made done step e = node_plain made done step

module _ (x : Setting) (small : IsAddressed x) (full : IsWhole x) (made : Creation) (s : Seen) (legal : Legal x s.acts) (fair : Fair s.acts) (c : Calms x made.queues s.acts)
    (described : (q : ℕ) → is_ready (state_acts s.acts) q ≡ true → IsDescribed s.acts q) where
  abbrev Keeps : List Act → Type 0
  Keeps acts = Legal x (acts ++ s.acts) → Calms x made.queues (acts ++ s.acts)

  plain_keeps : (acts : List Act) → list_all is_plain acts ≡ true → Keeps acts
  plain_keeps acts e l = plain_calms x small full made.queues acts s.acts e l c

  nothing : Keeps []
  nothing l = c

  -- the unmap of a mapping that no request has
  unmap_keeps : (mapping : ℕ) → some_pending (has_map mapping) s.acts made.queues ≡ false → Keeps (lift Driver (driver_turn x s.acts (driver.Unmap mapping))).acts
  unmap_keeps mapping free = by (find (λ m. m.number == mapping) (live_mappings s.acts)) refl where
    by : (o : Option Streaming) → find (λ m. m.number == mapping) (live_mappings s.acts) ≡ o → Keeps (lift Driver (option_map_or unmap_turn o (refusal_turn Noent))).acts
    by None e l = c
    by (Some m) e l =
        let at : m.number ≡ mapping = eqb-true m.number mapping (found_passes (λ m. m.number == mapping) m (live_mappings s.acts) e) in
        still_calms x small full made.queues (Driver (Unmapped m)) s.acts l
        (λ q ring there b i j. no_pending s.acts mapping made.queues free q (c.low q ring there) b i (subst (λ k. Among k (maps_of b.request)) at j)) c

  driver_keeps : (step : DriverStep) → is_calm_line (line.Driver step) ≡ true → is_kept made s.acts step ≡ false → Keeps (lift Driver (driver_turn x s.acts step)).acts
  driver_keeps (driver.Unmap mapping) e f = unmap_keeps mapping f
  driver_keeps step e f = plain_keeps (lift Driver (driver_turn x s.acts step)).acts (driver_plain x s.acts step e)

  pub dev_keeps : (step : DevStep) → is_calm_line step ≡ true → Keeps (dev_turn x made s step).acts
  dev_keeps (line.Node step) e = refuse_with Keeps nothing (not (opens step) && not (is_open s.acts)) Badf (open_node_turn x made s.acts step) (λ f. plain_keeps (open_node_turn x made s.acts step).acts (node_calm x made s.acts step e))
  dev_keeps (line.Area step) e = refuse_with Keeps nothing (not (is_open s.acts)) Badf (lift Node (area_turn x s.acts step)) (λ f. plain_keeps (lift Node (area_turn x s.acts step)).acts (area_plain x s.acts step e))
  dev_keeps (line.Bus step) e = plain_keeps (dev_turn x made s (line.Bus step)).acts (bus_plain made s.now s.acts step)
  dev_keeps (line.Driver step) e =
      refuse_with Keeps nothing (not (is_attached s.acts)) Nodev (needs_unkept made s.acts step (lift Driver (driver_turn x s.acts step))) (λ f.
      refuse_with Keeps nothing (is_kept made s.acts step) Busy (lift Driver (driver_turn x s.acts step)) (λ g. driver_keeps step e g))

  session_keeps : (turn : Turn Act) → Keeps turn.acts → Keeps (needs_session s.acts turn).acts
  session_keeps turn h = refuse_with Keeps nothing (not (is_open s.acts)) Badf turn (λ e. h)

  bus_keeps : (turn : Turn Act) → Keeps turn.acts → Keeps (needs_bus s.acts turn).acts
  bus_keeps turn h = refuse_with Keeps nothing (not (is_attached s.acts)) Nodev turn (λ e. h)

  pub queue_keeps : (name : List ℕ) (failed : Bool) (step : QueueStep) → is_calm_queue_line step ≡ true → Keeps (queue_turn x made name s failed step).acts
  queue_keeps name failed (queue.Fetch q) e = session_keeps (fetch_turn x made s.acts q) (fetch_calms x small full made.queues s.acts legal fair c made q (described q))
  queue_keeps name failed (queue.Execute q) e =
      session_keeps (execute_turn x made (disk_of made name s) failed s.acts q) (plain_keeps (execute_turn x made (disk_of made name s) failed s.acts q).acts (execute_plain x made (disk_of made name s) failed s.acts q))
  queue_keeps name failed (queue.Finish q) e = session_keeps (finish_turn x made s.acts q) (finish_calms x small full made.queues s.acts legal fair c q made (described q))
  queue_keeps name failed (queue.Ring q size) e = bus_keeps (ring_turn x made s.acts q size) (ring_calms x small full made s.acts legal fair c q size (described q))
  queue_keeps name failed (queue.Submit q asked) e = bus_keeps (submit_turn x made s.acts q asked) (submit_calms x small full made.queues made s.acts legal fair c q asked)
  queue_keeps name failed (queue.Poll q) e = bus_keeps (poll_turn x made s.acts q) (poll_calms x small full made.queues s.acts legal fair c q made)
  queue_keeps name failed _ e = cc
