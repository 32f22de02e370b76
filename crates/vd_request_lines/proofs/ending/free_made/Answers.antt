use Rattle.std.proofs.Common.{◌≡◌, ℕ, suc, ◌+◌, ◌==◌, ◌++◌, ◌∷◌, false, subst, sym, ap, ◌∙◌, rules, arith}
use Rattle.std.specs.List.{list_any}
use Rattle.vd_model.specs.Acts.{Driver, Freed, Streaming}
use Rattle.vd_model.specs.Live.{live_mappings}
use Rattle.vd_model.specs.RingTurns.{free_acts}
use Rattle.vd_memory_lines.specs.declared.memory.Memory.{Memory}
use Rattle.vd_memory_lines.specs.Stands.{Stands}
use Rattle.vd_request_lines.proofs.Freeing.{freed_more}
use Rattle.vd_request_lines.proofs.ending.free_made.Goals as goal

one_more : (n : ℕ) → suc n ≡ n + 1
one_more n = omega arith

pub loop-k-preserved : goal.loop-k-preserved
loop-k-preserved c =
    let e : c.from.result ≡ c.loop-k.k = search rules in
    record {
      freed = λ x acts m s left.
          subst (λ n. Stands x (free_acts c.args.made.now.buffer n ++ acts) c.free_buffer.new.memory m) (one_more c.loop-k.k)
          (freed_more x acts c.args.made.now c.loop-k.k c.loop-k.memory c.free_buffer.new.memory m c.loop-k-test.true left (c.loop-k.invariant.freed x acts m s left)
          (λ acts s none.
          subst (λ j. Stands x (Driver (Freed (c.args.made.now.buffer + j)) ∷ acts) c.free_buffer.new.memory m) e
          (c.free_buffer.ensures.freed x acts m s (subst (λ j. list_any (λ (m : Streaming). m.want.buffer == c.args.made.now.buffer + j) (live_mappings acts) ≡ false) (sym e) none))));
      rest = c.free_buffer.ensures.rest ∙ ap (λ (t : Memory). record t { buffers = c.free_buffer.new.memory.buffers }) c.loop-k.invariant.rest;
    }

pub returns-clause-freed : goal.returns-clause-freed
returns-clause-freed c = λ x acts m s left.
    let all : c.loop-k.k ≡ c.args.made.now.count = omega (arith, c.loop-k-test.false, c.loop-k.auto.k-end) in
    subst (λ n. Stands x (free_acts c.args.made.now.buffer n ++ acts) c.loop-k.memory m) all (c.loop-k.invariant.freed x acts m s left)
