use Rattle.std.proofs.Common.{◌≡◌, ◌≤◌, ℕ, ◌+◌, ◌-◌, ◌*◌, ◌/◌, List, length, take, drop, sym, ap, subst, ◌∙◌, arith}
use Rattle.blk_dirty.specs.Dirty.{bytes_at, clean, mark, piece}
use Rattle.blk_dirty.proofs.Marks.{clean_some, clean_with, mark_small}
use Rattle.blk_dirty.proofs.Copies.{pieces_more}
use Rattle.blk_dirty.proofs.dirty.Dirty.put_all.Goals as goal

pub put-requires-clause-fits : goal.put-requires-clause-fits
put-requires-clause-fits c = λ none.
    let some : 1 ≤ clean (bytes_at c.loop-i.self) c.args.first (length c.args.bytes.now / 512) =
    clean_some (bytes_at c.loop-i.self) c.args.first (c.args.first + c.loop-i.i) (length c.args.bytes.now / 512) none (omega arith) (omega (arith, c.loop-i-test.true)) in
    omega (arith, c.loop-i.invariant.count, c.loop-i.invariant.room, c.requires.fits)

pub loop-i-preserved : goal.loop-i-preserved
loop-i-preserved c =
    let first : ℕ = c.args.first in
    let size : c.loop-i.i * 512 + 512 - c.loop-i.i * 512 ≡ 512 = omega arith in
    let place : c.loop-i.i * 512 ≡ 512 * (c.args.first + c.loop-i.i - c.args.first) = omega arith in
    let slice : List ℕ = take (c.loop-i.i * 512 + 512 - c.loop-i.i * 512) (drop (c.loop-i.i * 512) c.args.bytes.now) in
    let is : take (c.loop-i.i * 512 + 512 - c.loop-i.i * 512) (drop (c.loop-i.i * 512) c.args.bytes.now) ≡ piece c.args.first c.args.bytes.now (c.args.first + c.loop-i.i) =
    ap (λ (k : ℕ). take k (drop (c.loop-i.i * 512) c.args.bytes.now)) size ∙ ap (λ (k : ℕ). take 512 (drop k c.args.bytes.now)) place in
    let sum : clean (bytes_at c.put.new.self) c.args.first (length c.args.bytes.now / 512) + (1 - mark (bytes_at c.loop-i.self (c.args.first + c.loop-i.i))) ≡ clean (bytes_at c.loop-i.self) c.args.first (length c.args.bytes.now / 512) =
    clean_with (bytes_at c.loop-i.self) (bytes_at c.put.new.self) c.args.first (c.args.first + c.loop-i.i) slice (length c.args.bytes.now / 512) c.put.ensures.bytes (omega arith) (omega (arith, c.loop-i-test.true)) in
    record {
      bytes = pieces_more c.args.first c.loop-i.i c.args.bytes.now slice (bytes_at c.args.self.now) (bytes_at c.loop-i.self) (bytes_at c.put.new.self) is c.loop-i.invariant.bytes c.put.ensures.bytes;
      count = omega (arith, c.put.ensures.len, c.loop-i.invariant.count);
      room = c.put.ensures.room ∙ c.loop-i.invariant.room;
      sectors = c.put.ensures.sectors ∙ c.loop-i.invariant.sectors;
    }
