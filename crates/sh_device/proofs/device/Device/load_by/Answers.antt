use Rattle.std.proofs.Common.{◌∙◌, ap, ◌/◌, take, arith, length-take}
use Rattle.sh_cells.specs.declared.view.View.{View}
use Rattle.sh_device.specs.Spans.{with_reads, accesses_on}
use Rattle.sh_device.proofs.Going.{goes_loads}
use Rattle.sh_device.proofs.device.Device.load_by.Goals as goal

pub returns-clause-loads : goal.returns-clause-loads
returns-clause-loads g c =
    let r = c.read_on.ensures.gained in
    let count = c.in_ok-count.count in
    let table = c.find_range.new.found in
    let found = take count table in
    let at = c.args.at in
    record {
      found = found;
      covers = omega (arith, c.in_ok-count.ensures.covers, c.in_ok-count.ensures.inside.1, length-take count table, c.read_on.auto.out);
      present = c.in_ok-count.ensures.present;
      reads = record {
        words = r.0;
        gained = r.1 ∙ ap (λ (v : View). with_reads v (accesses_on found (at / 4096) at r.0)) c.in_ok-count.ensures.found;
        bytes_are = r.2;
        least_is = r.3;
      };
    }

pub returns-clause-goes : goal.returns-clause-goes
returns-clause-goes g c = goes_loads _ _ _ _ _ (returns-clause-loads g c)
