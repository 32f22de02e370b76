use Rattle.std.proofs.Common.{◌≤◌, List, length}
use Rattle.vd_model.specs.Setting.{Setting}
use Rattle.vd_model.specs.Acts.{Act}
use Rattle.vd_memory_lines.specs.Stands.{Stands, IsHeld}
use Rattle.vd_driver_port.specs.Rest.{KeepsMemory}
use Rattle.vd_request_lines.specs.Ending.{CanEnd}
use Rattle.vd_request_lines.proofs.Ended.{HaveEnded}
use Rattle.vd_request_lines.proofs.ending.end_all.Given as goal

abbrev pub invariant-loop-made : goal.invariant-loop-made
invariant-loop-made l = record {
  out : IsHeld l.memory l.pool;
  ended : (x : Setting) (acts : List Act) → Stands x acts l.fn.memory l.fn.pool → CanEnd acts l.fn.driver.pending → HaveEnded x acts l.fn.driver.pending l.driver.pending l.memory l.pool;
  rest : KeepsMemory l.fn.memory l.memory l.fn.pool l.pool;
  maps : l.memory.domain.maps ≤ l.fn.memory.domain.maps;
}

abbrev pub decreases-loop-made : goal.decreases-loop-made
decreases-loop-made l = length l.driver.pending
