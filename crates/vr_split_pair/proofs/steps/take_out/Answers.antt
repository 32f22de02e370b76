use Rattle.std.proofs.Common.{◌≡◌, ◌++◌, take, drop, suc, true, sym, ◌∙◌, arith}
use Rattle.std.specs.Prelude.{is_some}
use Rattle.vr_split_pair.proofs.Located.{located, absent, removed_is, removed_rest}
use Rattle.vr_split_pair.specs.Lies.{taken_of}
use Rattle.vr_split_pair.proofs.steps.take_out.Goals as goal

pub returns-in_err-index-clause-result : goal.returns-in_err-index-clause-result
returns-in_err-index-clause-result c = c.from_residual.ensures ∙ sym (absent c.args.number c.args.taken.now.items c.in_err-index.ensures).0

pub returns-in_err-index-clause-rest : goal.returns-in_err-index-clause-rest
returns-in_err-index-clause-rest c = sym (absent c.args.number c.args.taken.now.items c.in_err-index.ensures).1

pub returns-clause-result : goal.returns-clause-result
returns-clause-result c =
    let at = located c.args.number c.args.taken.now.items c.in_ok-index.index c.in_ok-index.ensures in
    let joined = c.args.taken.now.ok in
    let some : is_some c.remove.result ≡ true = c.remove.ensures.variant.1 (omega (arith, at.within, joined.0)) in
    removed_is c.remove.result (taken_of c.args.number c.args.taken.now.items) c.args.taken.now.items c.in_ok-index.index some c.remove.ensures.value at.found

pub returns-clause-rest : goal.returns-clause-rest
returns-clause-rest c =
    let at = located c.args.number c.args.taken.now.items c.in_ok-index.index c.in_ok-index.ensures in
    let joined = c.args.taken.now.ok in
    let some : is_some c.remove.result ≡ true = c.remove.ensures.variant.1 (omega (arith, at.within, joined.0)) in
    removed_rest c.remove.result c.remove.new.self.items (take c.in_ok-index.index c.args.taken.now.items ++ drop (suc c.in_ok-index.index) c.args.taken.now.items) some c.remove.ensures.items ∙ sym at.rest
