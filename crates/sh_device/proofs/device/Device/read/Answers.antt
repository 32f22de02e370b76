use Rattle.sh_device.proofs.Going.{goes_reads}
use Rattle.std.proofs.Common.{[], ◌+◌, ◌/◌, ◌∙◌, ap}
use Rattle.sh_cells.specs.declared.view.View.{View}
use Rattle.sh_cells.specs.Passes.{view}
use Rattle.sh_device.specs.Spans.{with_reads, accesses_on}
use Rattle.sh_device.specs.Calls.{HeldView}
use Rattle.sh_device.proofs.device.Device.read.Goals as goal

pub returns-clause-reads : goal.returns-clause-reads
returns-clause-reads g c =
    let r = c.read_on.ensures.gained in
    let start : View = view c.args.pass.now in
    let same = ap (λ (h : HeldView). with_reads start (accesses_on [] ((h.iova + c.args.offset) / 4096) (h.iova + c.args.offset) r.0)) c.held.view_is in
    record { words = r.0; gained = r.1 ∙ same; bytes_are = r.2; least_is = r.3 }

pub returns-clause-goes : goal.returns-clause-goes
returns-clause-goes g c = goes_reads [] _ _ _ _ _ (returns-clause-reads g c)
