use Rattle.std.proofs.Common.{◌≡◌, ◌+◌, ℕ, get_or, refl, sym, ap, ◌∙◌, arith}
use Rattle.vr_packed.specs.Lies.{chain_written}
use Rattle.vr_packed.proofs.Loops.{write-more, write-all, no_part}
use Rattle.vr_packed.proofs.steps.write_chain.Goals as goal

pub loop-i-init : goal.loop-i-init
loop-i-init c =
    let here : c.args.place + 0 ≡ c.args.place = omega arith in
    ap (λ (k : ℕ). chain_written c.args.slots.now k c.args.id c.args.parts.now) here

pub loop-i-preserved : goal.loop-i-preserved
loop-i-preserved c =
    write-more c.loop-i.slots c.set.new.self c.args.place c.args.id c.args.parts.now c.loop-i.i c.flags.result (get_or c.args.parts.now c.loop-i.i no_part) c.wrap-wrap.result
    c.loop-i-test.true refl c.wrap-wrap.ensures c.flags.ensures c.set.ensures
    ∙ c.loop-i.invariant

pub returns : goal.returns
returns c = sym (write-all c.loop-i.slots c.args.place c.args.id c.args.parts.now c.loop-i.i c.loop-i-test.false) ∙ c.loop-i.invariant
