use Rattle.std.proofs.Common.{length}
use Rattle.vd_rings.proofs.Chains.{refused_full}
use Rattle.vd_request_lines.proofs.adding.added.Goals as goal

pub returns-clause-full : goal.returns-clause-full
returns-clause-full c = refused_full c.add.result c.args.driver.now.ring (length c.args.parts.now) c.requires.owners c.add.ensures.too_long c.add.ensures.full
