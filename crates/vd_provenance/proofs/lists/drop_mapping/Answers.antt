use Rattle.std.proofs.Common.{rules, ◌==◌, not}
use Rattle.std.proofs.lemmas.Fn.{filter_same}
use Rattle.vd_provenance.proofs.lists.drop_mapping.Goals as goal

pub returns : goal.returns
returns c = filter_same _ (λ k. not (k.number == c.args.number)) _ (λ x b f' k. search rules) _ _ c.retain.ensures.filtered
