use Rattle.std.proofs.Common.{◌≡◌, ◌+◌, ◌%◌, ap, sym, subst, Ok, Err, ◌∙◌}
use Rattle.byteorder.specs.Endian.{little_bytes}
use Rattle.vd_model.specs.Rings.{next16, used_index_at, used_element_at}
use Rattle.vr_device.specs.Side.{Side}
use Rattle.vd_model.specs.declared.queue.RingPlace.{RingPlace}
use Rattle.vr_split.specs.Reach.{RingInReach}
use Rattle.vr_split.specs.ReachLemmas.{used_index-reached, KeepsReach-same, KeepsReach-more, KeepsReach-store}
use Rattle.vr_device.proofs.Reached.{bytes-stored}
use Rattle.vr_device.proofs.UsedLemmas.{element_stored, pushed, not_missed}
use Rattle.vr_device.proofs.ring.DeviceRing.push_used.Goals as goal

pub returns-in_err-store16-clause-pushed : goal.returns-in_err-store16-clause-pushed
returns-in_err-store16-clause-pushed g c m told =
    absurd (not_missed m c.args.self.now c.args.head c.args.len _ _ _ _ _ _ _ c.in_ok-store.field-0 c.in_err-store16.field-0.0 (record {
      element_is = c.used_element.ensures ∙ ap (λ (s : Side). used_element_at s.place s.used) c.self.view_is;
      index_is = c.used_index.ensures ∙ ap (λ (s : Side). used_index_at s.place) c.self.view_is;
      next_is = ap (λ (s : Side). next16 s.used) c.self.view_is;
      bytes_are = c.element.ensures;
    }) (c.in_ok-check_used.ensures.memory.same_told ∙ told) (c.in_ok-check_used.ensures.checked m told) c.in_ok-store.ensures.stores c.in_err-store16.ensures.stores)

pub returns-clause-pushed : goal.returns-clause-pushed
returns-clause-pushed g c m told =
    pushed m c.args.self.now c.args.head c.args.len _ _ _ _ _ _ _ c.in_ok-store.field-0 c.in_ok-store16.field-0 (record {
      element_is = c.used_element.ensures ∙ ap (λ (s : Side). used_element_at s.place s.used) c.self.view_is;
      index_is = c.used_index.ensures ∙ ap (λ (s : Side). used_index_at s.place) c.self.view_is;
      next_is = ap (λ (s : Side). next16 s.used) c.self.view_is;
      bytes_are = c.element.ensures;
    }) (c.in_ok-check_used.ensures.memory.same_told ∙ told) (c.in_ok-check_used.ensures.checked m told) c.in_ok-store.ensures.stores c.in_ok-store16.ensures.stores

pub returns-clause-element_first : goal.returns-clause-element_first
returns-clause-element_first g c m told = (
  c.store.new.self,
  element_stored m c.args.self.now c.args.head c.args.len _ _ ((c.self.inside.used + 1) % 65536) _ _ _ c.in_ok-store.field-0 (record {
    element_is = c.used_element.ensures ∙ ap (λ (s : Side). used_element_at s.place s.used) c.self.view_is;
    index_is = c.used_index.ensures ∙ ap (λ (s : Side). used_index_at s.place) c.self.view_is;
    next_is = ap (λ (s : Side). next16 s.used) c.self.view_is;
    bytes_are = c.element.ensures;
  }) (c.in_ok-check_used.ensures.memory.same_told ∙ told) c.in_ok-store.ensures.stores,
  g.met.M.Mem.keeps_trans _ _ _ c.in_ok-check_used.ensures.memory.kept c.in_ok-store.ensures.keeps,
  c.in_ok-store16.ensures.keeps,
)

pub returns-in_err-store16-clause-in_reach : goal.returns-in_err-store16-clause-in_reach
returns-in_err-store16-clause-in_reach g c r =
    let place : c.self.inside.place ≡ c.args.self.now.place = ap (λ (s : Side). s.place) c.self.view_is in
    let ring = subst (λ (p : RingPlace). RingInReach (g.M.Mem.told c.args.mem.now) (g.M.Mem.span c.args.mem.now) p) (sym place) r in
    let kept = KeepsReach-more g.met.M.Mem.keeps_trans (KeepsReach-same c.in_ok-check_used.ensures.memory) (KeepsReach-store _ c.element.result (Ok c.in_ok-store.field-0) c.in_ok-store.ensures.stores c.in_ok-store.ensures.span c.in_ok-store.ensures.keeps) in
    let reach = used_index-reached (g.M.Mem.told c.args.mem.now) (g.M.Mem.span c.args.mem.now) c.self.inside.place (g.met.M.Mem.told_ends c.args.mem.now) (g.met.M.Mem.span_ends c.args.mem.now) ring.device in
    let ok = bytes-stored (g.M.Mem.told c.store.new.self) (g.M.Mem.told c.store16.new.self) (g.M.Mem.span c.store.new.self) _ _ (little_bytes 2 ((c.self.inside.used + 1) % 65536)) (Err c.in_err-store16.field-0.0) c.used_index.ensures c.in_err-store16.ensures.stores c.in_err-store16.ensures.spanned
    (kept.reach _ 2 reach) in
    absurd (cc)

pub returns-in_err-store16-clause-memory : goal.returns-in_err-store16-clause-memory
returns-in_err-store16-clause-memory g c =
    KeepsReach-more g.met.M.Mem.keeps_trans (KeepsReach-more g.met.M.Mem.keeps_trans (KeepsReach-same c.in_ok-check_used.ensures.memory) (KeepsReach-store _ c.element.result (Ok c.in_ok-store.field-0) c.in_ok-store.ensures.stores c.in_ok-store.ensures.span c.in_ok-store.ensures.keeps))
    (KeepsReach-store _ (little_bytes 2 ((c.self.inside.used + 1) % 65536)) (Err c.in_err-store16.field-0.0) c.in_err-store16.ensures.stores c.in_err-store16.ensures.span c.in_err-store16.ensures.keeps)

pub returns-clause-memory : goal.returns-clause-memory
returns-clause-memory g c =
    KeepsReach-more g.met.M.Mem.keeps_trans (KeepsReach-more g.met.M.Mem.keeps_trans (KeepsReach-same c.in_ok-check_used.ensures.memory) (KeepsReach-store _ c.element.result (Ok c.in_ok-store.field-0) c.in_ok-store.ensures.stores c.in_ok-store.ensures.span c.in_ok-store.ensures.keeps))
    (KeepsReach-store _ (little_bytes 2 ((c.self.inside.used + 1) % 65536)) (Ok c.in_ok-store16.field-0) c.in_ok-store16.ensures.stores c.in_ok-store16.ensures.span c.in_ok-store16.ensures.keeps)
