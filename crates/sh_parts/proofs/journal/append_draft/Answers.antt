use Rattle.std.proofs.Common.{arith}
use Rattle.sh_parts.proofs.Allowed.{append_allowed}
use Rattle.sh_parts.proofs.journal.append_draft.Goals as goal

pub load-requires : goal.load-requires
load-requires g c = (c.requires.of.0, omega (arith, c.requires.of.1), append_allowed _ _ c.args.seat.now.me g.D.Draft.entry c.requires.keeps)
