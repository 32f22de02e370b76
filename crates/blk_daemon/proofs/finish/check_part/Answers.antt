use Rattle.std.proofs.Common.{◌≡◌, ℕ, ◌+◌, ◌-◌, ◌<◌, ◌≤◌, length, Result, Err, refl, sym, ap, subst, ◌∙◌, arith}
use Rattle.std.specs.Prelude.{IsOk}
use Rattle.std.proofs.lemmas.List.{length-take-le}
use Rattle.std.proofs.lemmas.Grind.{common_steps}
use Rattle.std.proofs.lemmas.Result.{err_from_is_err_and}
use Rattle.vd_num.specs.declared.number.Bus.{Bus}
use Rattle.vd_model.specs.Memory.{read}
use Rattle.blk_daemon.specs.Parts.{IsThere}
use Rattle.blk_daemon.proofs.SpreadLemmas.{there_none, there_both, there_below, missing_behind, missing_front, is_ok}
use Rattle.blk_daemon.proofs.finish.check_part.Goals as goal

pub loop-left-init : goal.loop-left-init
loop-left-init g c = record {
  memory = record { same_told = refl; same_span = refl; kept = g.met.M.Mem.keeps_refl c.args.mem.now };
  left = omega arith;
  page = refl;
  at = λ m told. omega arith;
  there = λ m told. there_none m c.args.part.now.at (c.args.part.now.len - c.args.part.now.len) (omega arith);
}

pub returns-in_err-load-clause-there : goal.returns-in_err-load-clause-there
returns-in_err-load-clause-there g c m told =
    let p = err_from_is_err_and c.from_residual.result c.from_residual.ensures.1 in
    let part = c.args.part.now in
    let done = c.args.part.now.len - c.loop-left.left in
    let n = c.min-len.result in
    let least : n ≤ length c.loop-left.page = omega (arith, c.min-len.ensures, c.loop-left.invariant.page) in
    let room = length-take-le n c.loop-left.page least in
    let fails = c.in_err-load.ensures.loads m (c.loop-left.invariant.memory.same_told ∙ told) in
    let here : read m (part.at + done) n ≡ Err c.in_err-load.field-0.0.at =
    sym (λ i. read m (c.loop-left.invariant.at m told i) (room i)) ∙ fails in
    let all : part.len ≡ done + n + (c.loop-left.left - n) = omega (arith, c.min-len.ensures, c.loop-left.invariant.left) in
    subst (λ (r : Result (Unit {0}) Bus). IsThere m part.at part.len r) (sym (p.1 ∙ ap Err p.2))
    (ap (read m part.at) all ∙ missing_front m part.at (done + n) (c.loop-left.left - n) _ (missing_behind m part.at done n _ (c.loop-left.invariant.there m told) here))

pub loop-left-preserved : goal.loop-left-preserved
loop-left-preserved g c =
    let n = c.min-len.result in
    let least : n ≤ length c.loop-left.page = omega (arith, c.min-len.ensures, c.loop-left.invariant.page) in
    let some : 0 < n = omega (arith, c.min-len.ensures, c.loop-left-test.true) in
    let room = length-take-le n c.loop-left.page least in
    let size : length c.load.new.out ≡ n = c.load.auto.out ∙ room in
    record {
      memory = record {
        same_told = c.in_ok-load.ensures.memory.same_told ∙ c.loop-left.invariant.memory.same_told;
        same_span = c.in_ok-load.ensures.memory.same_span ∙ c.loop-left.invariant.memory.same_span;
        kept = g.met.M.Mem.keeps_trans _ _ _ c.loop-left.invariant.memory.kept c.in_ok-load.ensures.memory.kept;
      };
      left = omega (arith, c.loop-left.invariant.left);
      page = let p = c.loop-left.invariant.page in grind (arith, common_steps);
      at = λ m told.
          let loads = c.in_ok-load.ensures.loads m (c.loop-left.invariant.memory.same_told ∙ told) in
          let there : IsOk (read m c.loop-left.at n) = subst (λ (k : ℕ). IsOk (read m c.loop-left.at k)) room (is_ok loads) in
          let below = there_below m c.loop-left.at n (g.met.M.Mem.told_ends c.args.mem.now m told) some there in
          let at = c.loop-left.invariant.at m told in
          let left = c.loop-left.invariant.left in
          omega (arith, c.min-len.ensures);
      there = λ m told.
          let loads = c.in_ok-load.ensures.loads m (c.loop-left.invariant.memory.same_told ∙ told) in
          let there : IsOk (read m c.loop-left.at n) = subst (λ (k : ℕ). IsOk (read m c.loop-left.at k)) room (is_ok loads) in
          let done = c.args.part.now.len - c.loop-left.left in
          let all : done + n ≡ c.args.part.now.len - (c.loop-left.left - n) = omega (arith, c.min-len.ensures, c.loop-left.invariant.left) in
          subst (λ (k : ℕ). IsOk (read m c.args.part.now.at k)) all
          (there_both m c.args.part.now.at done n (c.loop-left.invariant.there m told) (subst (λ (a : ℕ). IsOk (read m a n)) (c.loop-left.invariant.at m told) there));
    }
