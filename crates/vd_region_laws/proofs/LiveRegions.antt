-- The law on regions, from what was tested of each.
use Rattle.std.proofs.Common.{◌≡◌, ℕ, ◌+◌, ◌/◌, ◌≤◌, false, subst, arith, List, nat_lt}
use Rattle.std.proofs.lemmas.Bool.{le-ltb, and_right}
use Rattle.vd_num.specs.Number.{pages_of}
use Rattle.vd_model.specs.Setting.{Setting}
use Rattle.vd_model.specs.Acts.{Act, Streaming, Coherent}
use Rattle.vd_model.specs.Live.{live_mappings, live_regions}
use Rattle.vd_model.specs.Place.{region_slots, meets}
use Rattle.vd_model.specs.History.{History}
use Rattle.vd_laws.specs.Among.{Among}
use Rattle.vd_laws.specs.Runs.{IsMoment}
use Rattle.vd_laws.proofs.Sound.{sound}
use Rattle.vd_laws.proofs.MemoryLaw.{moment_legal}
use Rattle.vd_region_laws.specs.RegionLaw.{RegionLaw}
use Rattle.vd_region_laws.proofs.Spread.{Allowed, earlier_allowed, Spread, spread}
use Rattle.vd_region_laws.proofs.Turns.{all_stand}

module _ (x : Setting) (h : History) (d : List ℕ) (acts : List Act) (m : IsMoment x h d acts) where
  moment_allowed : Allowed x acts
  moment_allowed = earlier_allowed x m.0 acts (subst (Allowed x) m.1 (all_stand x h d).allowed)

  spread_then : Spread x acts
  spread_then = spread x acts moment_allowed

  -- a mapping ends where bounce memory does, and a region begins there or later
  no_meeting : (l : Streaming) → Among l (live_mappings acts) → (r : Coherent) → Among r (live_regions acts) → meets l.slot (pages_of l.want.len) (region_slots r) ≡ false
  no_meeting l i r j =
      let fits : l.slot + pages_of l.want.len ≤ x.bounce = (sound x acts (moment_legal x h d acts m)).fits l i in
      let low = (spread_then.beyond r j).low in
      and_right (nat_lt l.slot (r.slot + pages_of r.len)) (nat_lt r.slot (l.slot + pages_of l.want.len)) (le-ltb r.slot (l.slot + pages_of l.want.len) (omega arith))

pub region_law : (x : Setting) (h : History) → RegionLaw x h
region_law x h = record {
  numbers = λ d acts m. (spread_then x h d acts m).ascend;
  disjoint = λ d acts m r s i j a c e. (spread_then x h d acts m).one r s i j (a / 4096) c e;
  beyond = λ d acts m r i. (spread_then x h d acts m).beyond r i;
  apart_from_mappings = λ d acts m l i r j. no_meeting x h d acts m l i r j;
  puts_inside = λ small d at bytes acts m. (moment_allowed x h d _ m).0 small;
  rings_housed = λ d q ring e. (all_stand x h d).housed q ring e;
  rings_apart = λ d q k ring other e f g. (all_stand x h d).apart q k ring other e f g;
}
