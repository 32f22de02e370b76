use Rattle.std.proofs.Common.{◌-◌, ◌≤◌, ◌++◌, List}
use Rattle.vd_model.specs.Setting.{Setting}
use Rattle.vd_model.specs.Acts.{Act}
use Rattle.vd_model.specs.Live.{live_mappings}
use Rattle.vd_model.specs.RingTurns.{unmap_acts}
use Rattle.vr_split.specs.Mem.{IsUnchanged}
use Rattle.blk_driver.specs.Driver.{numbers_from}
use Rattle.blk_driver.proofs.pending.Pending.unmap.Given as goal

abbrev pub invariant-loop-number : goal.invariant-loop-number
invariant-loop-number g l = record {
  unmapped : (x : Setting) (acts : List Act) → g.P.Dma.stands l.fn.port x acts → g.P.Dma.stands l.port x (unmap_acts (live_mappings acts) (numbers_from l.self.first_map (l.number - l.self.first_map)) ++ acts);
  low : l.number - l.self.first_map ≤ l.self.end_map - l.self.first_map;
  memory : IsUnchanged g.P.Mem.told g.P.Mem.span g.P.Dma.keeps_rest l.fn.port l.port;
}
