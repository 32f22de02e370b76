use Rattle.std.proofs.Common.{◌≡◌, ◌+◌, ◌-◌, ◌++◌, ℕ, List, [], length, take, drop, sym, ap, ◌∙◌, arith}
use Rattle.std.proofs.Math.ListN.{set}
use Rattle.vr_driver.specs.Side.{free_from}
use Rattle.vr_driver.proofs.FreeLemmas.{free-if_none, free-if_some, free-end, picked-more, picked-all, picked-full, picked-now}
use Rattle.vr_driver.proofs.free.pick.Goals as goal
use Rattle.vr_driver.proofs.free.pick.Goals.{then-n-into+then-is_none, else-n-into, else-n-into-via-then-n-into+else-is_none, else-n-into-via-else-n-into}

pub loop-k-preserved : goal.loop-k-preserved
loop-k-preserved c =
    let owners = c.args.owners.now in
    let k = c.loop-k.k in
    let n = c.loop-k.n in
    let into = c.loop-k.into in
    let len = length into in
    let rest = free_from (k + 1) (drop (k + 1) owners) in
    let all = free_from 0 owners in
    elim c.if-n-into.branch [
      | then-n-into+then-is_none w ↦
          (let step = free-if_none owners k w.is_none.result c.loop-k-test.true w.is_none.ensures w.if-is_none.true in
          let e = ap (λ (l : List ℕ). take n into ++ take (len - n) l) (sym step) ∙ c.loop-k.invariant.picked in
          let more = picked-more into rest (take len all) n k w.if-n-into.true e in
          record { within = omega arith; picked = picked-now (n + 1) c.if-n-into.n len (set into n k) c.if-n-into.into rest all w.n-is w.into-is c.if-n-into.auto.into more })
      | else-n-into w ↦ elim w.else-n-into.branch [
        | else-n-into-via-then-n-into+else-is_none w' ↦
            (let step = free-if_some owners k w'.is_none.result c.loop-k-test.true w'.is_none.ensures w'.if-is_none.false in
            let e = ap (λ (l : List ℕ). take n into ++ take (len - n) l) (sym step) ∙ c.loop-k.invariant.picked in
            record { within = omega arith; picked = picked-now n c.if-n-into.n len into c.if-n-into.into rest all w.n-is w.into-is c.if-n-into.auto.into e })
        | else-n-into-via-else-n-into w' ↦
            (let e = ap (λ (l : List ℕ). take n into ++ l) (picked-full len n rest (free_from k (drop k owners)) w'.if-n-into.false) ∙ c.loop-k.invariant.picked in
            record { within = omega arith; picked = picked-now n c.if-n-into.n len into c.if-n-into.into rest all w.n-is w.into-is c.if-n-into.auto.into e })
      ]
    ]

pub returns : goal.returns
returns c =
    let none : take (length c.loop-k.into - c.loop-k.n) (free_from c.loop-k.k (drop c.loop-k.k c.args.owners.now)) ≡ take (length c.loop-k.into - c.loop-k.n) [] = ap (take (length c.loop-k.into - c.loop-k.n)) (free-end c.args.owners.now c.loop-k.k (omega arith)) in
    picked-all c.loop-k.into (free_from 0 c.args.owners.now) c.loop-k.n c.loop-k.invariant.within (omega arith) (sym (ap (λ (l : List ℕ). take c.loop-k.n c.loop-k.into ++ l) none) ∙ c.loop-k.invariant.picked) ∙ ap (λ (n : ℕ). take n (free_from 0 c.args.owners.now)) c.loop-k.auto.into
