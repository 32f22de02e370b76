use Rattle.std.proofs.Common.{refl, rules}
use Rattle.std.proofs.lemmas.Option.{same_Some}
use Rattle.std.proofs.lemmas.Result.{on_err_weaker}
use Rattle.vd_daemon_lines.proofs.fetching.fetched.Goals as goal

pub returns-clause-memory_stays : goal.returns-clause-memory_stays
returns-clause-memory_stays c =
    let told = on_err_weaker c.fetch.result (λ h. same_Some _ _ (h _ refl)) c.fetch.ensures.memory_stays in
    search (rules, told)
