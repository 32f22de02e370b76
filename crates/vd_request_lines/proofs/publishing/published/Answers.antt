use Rattle.std.proofs.Common.{refl, rules}
use Rattle.vd_rings.proofs.Lying.{map_of}
use Rattle.vd_request_lines.proofs.publishing.published.Goals as goal

pub returns-clause-told : goal.returns-clause-told
returns-clause-told c = let told = map_of (c.publish.ensures.written _ refl) in search (rules, told)
