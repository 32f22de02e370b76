-- What pending requests have stays their own, whatever line is answered.
use Rattle.std.proofs.Common.{◌≡◌, ℕ, ◌<◌, true, false, not, ap, sym, subst, ◌∙◌, List, [], ◌++◌, Option, Some, None}
use Rattle.vd_num.specs.declared.errno.Errno.TheVariants.{Nodev}
use Rattle.vd_pool.specs.Memory.{PoolMemory as Pool}
use Rattle.vd_model.specs.declared.step.SubmitForm.{SubmitForm}
use Rattle.vd_model.specs.declared.step.QueueStep.{QueueStep}
use Rattle.vd_model.specs.declared.step.QueueStep.TheVariants as line
use Rattle.vd_model.specs.Setting.{Setting}
use Rattle.vd_model.specs.Creation.{Creation}
use Rattle.vd_model.specs.Acts.{Act}
use Rattle.vd_model.specs.Deeds.{Seen}
use Rattle.vd_model.specs.Live.{is_attached}
use Rattle.vd_model.specs.Queues.{Ring, ring_of}
use Rattle.vd_model.specs.Turn.{Turn, refuse, refusal_if}
use Rattle.vd_model.specs.History.{needs_bus, queue_turn}
use Rattle.vd_model.specs.RingTurns.{ring_turn, submit_turn, unring_turn, add_turn, publish_turn, poll_turn}
use Rattle.vd_request_laws.specs.Owned.{AreOwned, HasOwnHeads}
use Rattle.vd_request_laws.proofs.QueueLines.{queue_owns}
use Rattle.vd_request_lines.specs.declared.held.HeldDriver.{HeldDriver}
use Rattle.vd_request_lines.specs.Stands.{RequestsStand}
use Rattle.vd_instance.specs.declared.instance.Instance.{Instance}
use Rattle.vd_instance.specs.declared.line.RingLine.{RingLine}
use Rattle.vd_instance.specs.declared.line.RingLine.TheVariants.{Unring, Add, Publish, Poll}
use Rattle.vd_instance.specs.Lines.{ring_line_turn}
use Rattle.vd_instance.specs.Stands.{Stands, kept_driver}

-- what a line on a queue sees of its device beside the image
abbrev pub seen_by : Creation → List Act → Seen
seen_by made acts = record { made = Some made; acts = acts; now = 0; window = None; disk = λ i. 0 }

-- a driver's line on a device on the bus has its own turn
pub bus_open : (acts : List Act) (turn : Turn Act) → is_attached acts ≡ true → needs_bus acts turn ≡ turn
bus_open acts turn e = ap (λ t. refuse (refusal_if (not t) Nodev) turn) e

module _ {x : Setting} {made : Creation} {acts : List Act} {i : Instance} {m : Pool} (s : Stands x made acts i m) where
  heads : (q : ℕ) (r : Ring) → ring_of acts q ≡ Some r → HasOwnHeads acts q
  heads q r e = by (kept_driver i q) (s.drivers q) where
    none : None ≡ Some r → HasOwnHeads acts q
    none e = cc

    by : (kept : Option HeldDriver) → RequestsStand acts q kept → HasOwnHeads acts q
    by None h = none (sym h.side ∙ e)
    by (Some held) h = record { lone = h.side.lone; seen = h.seen }

  pub line_on_queue_owned : (step : QueueStep) → AreOwned ((queue_turn x made [] (seen_by made acts) false step).acts ++ acts) made.queues
  line_on_queue_owned step = queue_owns x made [] (seen_by made acts) false step s.owned heads

  module _ (on : is_attached acts ≡ true) where
    bus_owned : (turn : Turn Act) → AreOwned ((needs_bus acts turn).acts ++ acts) made.queues → AreOwned (turn.acts ++ acts) made.queues
    bus_owned turn h = subst (λ (t : Turn Act). AreOwned (t.acts ++ acts) made.queues) (bus_open acts turn on) h

    pub ring_line_owned : (q : ℕ) (line : RingLine) → AreOwned ((ring_line_turn x made acts q line).acts ++ acts) made.queues
    ring_line_owned q Unring = bus_owned (unring_turn made acts q) (line_on_queue_owned (line.Unring q))
    ring_line_owned q (Add parts) = bus_owned (add_turn made acts q parts.now) (line_on_queue_owned (line.Add q parts.now))
    ring_line_owned q Publish = bus_owned (publish_turn x made acts q) (line_on_queue_owned (line.Publish q))
    ring_line_owned q Poll = bus_owned (poll_turn x made acts q) (line_on_queue_owned (line.Poll q))

    pub new_ring_owned : (q size : ℕ) → AreOwned ((ring_turn x made acts q size).acts ++ acts) made.queues
    new_ring_owned q size = bus_owned (ring_turn x made acts q size) (line_on_queue_owned (line.Ring q size))

    pub submit_owned : (q : ℕ) (form : SubmitForm) → AreOwned ((submit_turn x made acts q form).acts ++ acts) made.queues
    submit_owned q form = bus_owned (submit_turn x made acts q form) (line_on_queue_owned (line.Submit q form))
