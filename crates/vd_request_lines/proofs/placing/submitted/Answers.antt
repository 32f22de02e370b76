use Rattle.std.proofs.Common.{refl, rules, ◌∙◌}
use Rattle.std.specs.Prelude.{IfOk}
use Rattle.vd_rings.proofs.Lying.{map_of}
use Rattle.blk_driver.specs.Asked.{draft_of}
use Rattle.vd_request_lines.specs.Submitting.{IsSubmitted}
use Rattle.vd_request_lines.proofs.Results.{if_ok, enough}
use Rattle.vd_request_lines.proofs.placing.submitted.Goals as goal

pub returns-clause-submitted : goal.returns-clause-submitted
returns-clause-submitted c =
    let done : IfOk c.submit.result (λ r. IsSubmitted c.args.memory.now c.args.pool.now (draft_of c.args.filing.now.ask c.args.filing.now.buffer c.args.filing.now.features) c.args.driver.now c.submit.new.self r
    c.submit.new.port.memory.now c.submit.new.port.pool.now) =
    if_ok c.submit.result c.submit.ensures.submitted (λ r is e. record {
      filled = e.filled.memory.now;
      filled_pool = e.filled.pool.now;
      mapped = e.mapped.memory.now;
      mapped_pool = e.mapped.pool.now;
      listed = e.placed.listed.memory.now;
      listed_pool = e.placed.listed.pool.now;
      parts = e.placed.parts;
      table = e.placed.table;
      fills = e.fills;
      first = e.mapping.placed;
      mapping = e.mapping.mapped;
      direct = λ t. (λ j. (e.placed.lists.direct t j).memory.now, λ j. (e.placed.lists.direct t j).pool.now);
      is = e.parts;
      tabled = e.tabled;
      same_told = map_of e.placed.same.same_told ∙ map_of e.same.same_told;
      fits = enough c.submit.result r _ _ is c.submit.ensures.full;
      head = e.placed.head;
      idx = e.placed.idx;
      kick = e.placed.kick _ refl;
      told = map_of (e.placed.written _ refl);
      puts = e.placed.kept.kept.3;
      side = e.placed.side;
      pending = e.pending;
    }) in
    search (rules, done)
