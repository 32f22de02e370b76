use Rattle.std.proofs.Common.{◌/◌, ◌∙◌, ap, arith}
use Rattle.sh_cells.specs.declared.view.View.{View}
use Rattle.sh_device.specs.Spans.{with_reads, accesses_on}
use Rattle.sh_device.proofs.memory.bring.Goals as goal

pub returns-clause-brings : goal.returns-clause-brings
returns-clause-brings c =
    let r = c.read_on.ensures.gained in
    let found = c.find_pages.new.found in
    let at = c.args.iova in
    record {
      found = found;
      size = grind (arith, c.find_pages.auto.found, c.requires.size);
      least = c.read_on.result;
      reads = record {
        words = r.0;
        gained = r.1 ∙ ap (λ (v : View). with_reads v (accesses_on found (at / 4096) at r.0)) c.find_pages.ensures.found;
        bytes_are = r.2;
        least_is = r.3;
      };
    }
