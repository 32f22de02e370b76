use Rattle.std.proofs.Common.{◌≡◌, ℕ, suc, ◌+◌, List, length, get_or, nat_lt, Some, ap, ◌∙◌, arith, rules}
use Rattle.vd_model.specs.declared.parts.Part.{Part}
use Rattle.vd_model.specs.declared.queue.RingPlace.{RingPlace}
use Rattle.vd_model.specs.Memory.{Memory}
use Rattle.vd_model.specs.RingTurns.{flags_of}
use Rattle.vr_split.specs.ReachLemmas.{KeepsReach-none, KeepsReach-more}
use Rattle.vr_driver.specs.Driver.{chain_written, with_descriptor, no_part}
use Rattle.vr_driver.proofs.table.write_chain.Goals as goal

-- memory with one part more
one_more : (m : Memory) (place : RingPlace) (parts : List Part) (indices : List ℕ) (n next flags : ℕ) → next ≡ get_or indices (n + 1) 0 → flags ≡ flags_of (nat_lt (n + 1) (length parts)) (get_or parts n no_part).writable
    → with_descriptor (chain_written m place parts indices n) place (get_or indices n 0) (record { at = (get_or parts n no_part).at; len = (get_or parts n no_part).len; flags = flags; next = next }) ≡ chain_written m place parts indices (n + 1)
unfolding chain_written
one_more m place parts indices n next flags e h =
    let on : suc n ≡ n + 1 = omega arith in
    rw (h, e) (ap (chain_written m place parts indices) on)

pub loop-i-init : goal.loop-i-init
unfolding chain_written
loop-i-init g c = record {
  written = λ m told. told;
  memory = KeepsReach-none g.met.M.Mem.keeps_refl c.args.mem.now;
}

pub loop-i-preserved : goal.loop-i-preserved
loop-i-preserved g c = record {
  written = λ m told.
      let before = c.loop-i.invariant.written m told in
      c.write_descriptor.ensures.written _ before ∙ ap Some (one_more m c.args.place.now c.args.parts.now c.args.indices.now c.loop-i.i _ c.flags.result (search rules) c.flags.ensures);
  memory = KeepsReach-more g.met.M.Mem.keeps_trans c.loop-i.invariant.memory c.write_descriptor.ensures.memory;
}

pub returns-clause-written : goal.returns-clause-written
returns-clause-written g c m told =
    let end : c.loop-i.i ≡ length c.args.parts.now = omega arith in
    c.loop-i.invariant.written m told ∙ ap (λ (n : ℕ). Some (chain_written m c.args.place.now c.args.parts.now c.args.indices.now n)) end
