use Rattle.std.proofs.Common.{◌≡◌, List, ◌++◌}
use Rattle.vd_pool.specs.Memory.{PoolMemory}
use Rattle.vd_model.specs.Setting.{Setting}
use Rattle.vd_model.specs.Acts.{Act}
use Rattle.vd_model.specs.RingTurns.{free_acts}
use Rattle.vd_memory_lines.specs.Stands.{Stands}
use Rattle.vd_request_lines.specs.Ended.{IsLeft}
use Rattle.vd_request_lines.proofs.ending.free_made.Given as goal

abbrev pub invariant-loop-k : goal.invariant-loop-k
invariant-loop-k l = record {
  freed : (x : Setting) (acts : List Act) (m : PoolMemory) → Stands x acts l.fn.memory m → IsLeft acts l.made → Stands x (free_acts l.made.buffer l.k ++ acts) l.memory m;
  rest : l.memory ≡ record l.fn.memory { buffers = l.memory.buffers };
}
