use Rattle.std.proofs.Common.{ℕ, List, ap, sym, ◌∙◌}
use Rattle.vd_model.specs.Acts.{Driver}
use Rattle.vd_model.specs.Turn.{lift}
use Rattle.vd_model.specs.DriverTurns.{driver_turn, poke_turn, on_region, cput_turn}
use Rattle.vd_answers.proofs.Telling.{tells_as}
use Rattle.vd_memory_lines.proofs.memory.Memory.frugal_driver_line.Goals as goal

pub returns-in-Free-clause-line : goal.returns-in-Free-clause-line
returns-in-Free-clause-line g c = λ x acts s. tells_as (ap (λ t. lift Driver (driver_turn x acts t)) c.in-Free.is) (c.free.ensures.line x acts c.args.pool.now s)

pub returns-in-Poke-clause-line : goal.returns-in-Poke-clause-line
returns-in-Poke-clause-line g c = λ x acts s. tells_as (ap (λ t. lift Driver (driver_turn x acts t)) c.in-Poke.is ∙ ap (λ (l : List ℕ). lift Driver (poke_turn acts c.in-Poke.buffer c.in-Poke.offset l)) (sym c.as_slice.ensures)) (c.poke.ensures.line x acts c.args.pool.now s)

pub returns-in-Unmap-clause-line : goal.returns-in-Unmap-clause-line
returns-in-Unmap-clause-line g c = λ x acts s. tells_as (ap (λ t. lift Driver (driver_turn x acts t)) c.in-Unmap.is) (c.unmap.ensures.line x acts s)

pub returns-in-SyncDev-clause-line : goal.returns-in-SyncDev-clause-line
returns-in-SyncDev-clause-line g c = λ x acts s. tells_as (ap (λ t. lift Driver (driver_turn x acts t)) c.in-SyncDev.is) (c.syncdev.ensures.line x acts s)

pub returns-in-SyncCpu-clause-line : goal.returns-in-SyncCpu-clause-line
returns-in-SyncCpu-clause-line g c = λ x acts s. tells_as (ap (λ t. lift Driver (driver_turn x acts t)) c.in-SyncCpu.is) (c.synccpu.ensures.line x acts s)

pub returns-in-FreeCoherent-clause-line : goal.returns-in-FreeCoherent-clause-line
returns-in-FreeCoherent-clause-line g c = λ x acts s. tells_as (ap (λ t. lift Driver (driver_turn x acts t)) c.in-FreeCoherent.is) (c.freecoherent.ensures.line x acts c.args.pool.now s)

pub returns-in-Cput-clause-line : goal.returns-in-Cput-clause-line
returns-in-Cput-clause-line g c = λ x acts s. tells_as (ap (λ t. lift Driver (driver_turn x acts t)) c.in-Cput.is ∙ ap (λ (l : List ℕ). lift Driver (on_region acts c.in-Cput.region (cput_turn c.in-Cput.offset l))) (sym c.as_slice-in-Cput.ensures)) (c.cput.ensures.line x acts c.args.pool.now s)
