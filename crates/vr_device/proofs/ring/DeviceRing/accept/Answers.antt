use Rattle.std.proofs.Common.{◌≡◌, ◌∙◌, ◌+◌, ◌%◌, ap, ℕ, Option, Ok, Err, subst, sym}
use Rattle.byteorder.specs.Endian.{little_bytes}
use Rattle.vd_model.specs.Memory.{Memory}
use Rattle.vd_model.specs.Rings.{next16, available_event_at}
use Rattle.vr_split.specs.Mem.{Stores}
use Rattle.vd_model.specs.declared.queue.RingPlace.{RingPlace}
use Rattle.vr_split.specs.Reach.{RingInReach, KeepsReach}
use Rattle.vr_split.specs.ReachLemmas.{available_event-reached, KeepsReach-none, KeepsReach-store}
use Rattle.vr_device.proofs.Reached.{bytes-stored}
use Rattle.vr_device.specs.Side.{Side}
use Rattle.vr_device.proofs.ring.DeviceRing.accept.Goals as goal
use Rattle.vr_device.proofs.ring.DeviceRing.accept.Goals.{then-event_idx+in_ok-store16, else-event_idx}

-- a store of an index, told of by other names
stored : (m : Memory) (at at' next next' : ℕ) (new new' : Option Memory) (done : Unit {0}) → at ≡ at' → next ≡ next' → new' ≡ new → Stores m at (little_bytes 2 next) (Ok done) new → Stores m at' (little_bytes 2 next') (Ok done) new'
stored m at at' next next' new new' done a n w h =
    subst (λ (o : Option Memory). Stores m at' (little_bytes 2 next') (Ok done) o) (sym w)
    (subst (λ (k : ℕ). Stores m at' (little_bytes 2 k) (Ok done) new) n
    (subst (λ (k : ℕ). Stores m k (little_bytes 2 next) (Ok done) new) a h))

pub returns-clause-event : goal.returns-clause-event
returns-clause-event g c on m told = elim c.if-event_idx.branch [
  | then-event_idx+in_ok-store16 w ↦
      stored m _ _ _ _ _ _ tt
      (w.available_event.ensures ∙ ap (λ (s : Side). available_event_at s.place) c.self.view_is)
      (ap (λ (s : Side). next16 s.position) c.self.view_is)
      (ap (g.M.Mem.told) w.mem-is)
      (w.in_ok-store16.ensures.stores m told)
  | else-event_idx w ↦ cc
]

pub returns-in_err-store16-clause-in_reach : goal.returns-in_err-store16-clause-in_reach
returns-in_err-store16-clause-in_reach g c r =
    let place : c.self.inside.place ≡ c.args.self.now.place = ap (λ (s : Side). s.place) c.self.view_is in
    let ring = subst (λ (p : RingPlace). RingInReach (g.M.Mem.told c.args.mem.now) (g.M.Mem.span c.args.mem.now) p) (sym place) r in
    let ok = bytes-stored (g.M.Mem.told c.args.mem.now) (g.M.Mem.told c.store16.new.self) (g.M.Mem.span c.args.mem.now) _ _ (little_bytes 2 ((c.self.inside.position + 1) % 65536)) (Err c.in_err-store16.field-0.0) c.available_event.ensures c.in_err-store16.ensures.stores c.in_err-store16.ensures.spanned
    (available_event-reached (g.M.Mem.told c.args.mem.now) (g.M.Mem.span c.args.mem.now) c.self.inside.place (g.met.M.Mem.told_ends c.args.mem.now) (g.met.M.Mem.span_ends c.args.mem.now) ring.device) in
    absurd (cc)

pub returns-in_err-store16-clause-memory : goal.returns-in_err-store16-clause-memory
returns-in_err-store16-clause-memory g c = KeepsReach-store _ (little_bytes 2 ((c.self.inside.position + 1) % 65536)) (Err c.in_err-store16.field-0.0) c.in_err-store16.ensures.stores c.in_err-store16.ensures.span c.in_err-store16.ensures.keeps

pub returns-clause-memory : goal.returns-clause-memory
returns-clause-memory g c = elim c.if-event_idx.branch [
  | then-event_idx+in_ok-store16 w ↦ subst (λ s. KeepsReach g.M.Mem.told g.M.Mem.span g.M.Mem.keeps c.args.mem.now s) (sym w.mem-is) (KeepsReach-store _ (little_bytes 2 ((c.self.inside.position + 1) % 65536)) (Ok w.in_ok-store16.field-0) w.in_ok-store16.ensures.stores w.in_ok-store16.ensures.span w.in_ok-store16.ensures.keeps)
  | else-event_idx w ↦ subst (λ s. KeepsReach g.M.Mem.told g.M.Mem.span g.M.Mem.keeps c.args.mem.now s) (sym w.mem-is) (KeepsReach-none g.met.M.Mem.keeps_refl c.args.mem.now)
]
