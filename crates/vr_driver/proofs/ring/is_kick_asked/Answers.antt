use Rattle.std.proofs.Common.{ℕ, sym, subst}
use Rattle.vr_split.specs.Reach.{Reaches}
use Rattle.vr_split.specs.ReachLemmas.{available_event-reached, used_flags-reached}
use Rattle.vr_driver.proofs.ring.is_kick_asked.Goals as goal

pub load16_in_reach-event-requires : goal.load16_in_reach-event-requires
load16_in_reach-event-requires g c = subst (λ (a : ℕ). Reaches (g.M.Mem.told c.args.mem.now) (g.M.Mem.span c.args.mem.now) a 2) (sym c.available_event.ensures) (available_event-reached (g.M.Mem.told c.args.mem.now) (g.M.Mem.span c.args.mem.now) c.args.place.now (g.met.M.Mem.told_ends c.args.mem.now) (g.met.M.Mem.span_ends c.args.mem.now) c.requires.device)

pub load16_in_reach-flags-requires : goal.load16_in_reach-flags-requires
load16_in_reach-flags-requires g c = subst (λ (a : ℕ). Reaches (g.M.Mem.told c.args.mem.now) (g.M.Mem.span c.args.mem.now) a 2) (sym c.used_flags.ensures) (used_flags-reached (g.M.Mem.told c.args.mem.now) (g.M.Mem.span c.args.mem.now) c.args.place.now (g.met.M.Mem.told_ends c.args.mem.now) (g.met.M.Mem.span_ends c.args.mem.now) c.requires.device)
