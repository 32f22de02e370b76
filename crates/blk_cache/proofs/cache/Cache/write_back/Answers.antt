use Rattle.std.proofs.Common.{◌∙◌, arith}
use Rattle.blk_cache.proofs.Writes.{both, none_counted}
use Rattle.blk_cache.proofs.cache.Cache.write_back.Goals as goal

pub loop-self-preserved : goal.loop-self-preserved
loop-self-preserved g c = record {
  moves = both g.D.Disk.tells g.D.Disk.present g.D.Disk.may_leave g.D.Disk.through g.met.D.Disk.goes_on c.args.self.now.disk c.loop-self.self.disk c.write_back_one.new.self.disk c.args.self.now.dirty
      c.loop-self.self.dirty c.write_back_one.new.self.dirty c.loop-self.invariant.moves c.write_back_one.ensures.moves;
  len = omega (arith, c.write_back_one.ensures.len, c.loop-self.invariant.len);
  idle = λ few. absurd (omega (arith, c.loop-self-test.true, c.len.ensures.len, c.loop-self.invariant.len));
  size = c.write_back_one.ensures.size ∙ c.loop-self.invariant.size;
  faults = omega (arith, c.write_back_one.ensures.cause.later, c.loop-self.invariant.faults);
  lines = c.write_back_one.ensures.lines ∙ c.loop-self.invariant.lines;
  flushes = c.write_back_one.ensures.flushes ∙ c.loop-self.invariant.flushes;
}

pub returns-in_err-write_back_one-clause-moves : goal.returns-in_err-write_back_one-clause-moves
returns-in_err-write_back_one-clause-moves g c =
    both g.D.Disk.tells g.D.Disk.present g.D.Disk.may_leave g.D.Disk.through g.met.D.Disk.goes_on c.args.self.now.disk c.loop-self.self.disk c.write_back_one.new.self.disk c.args.self.now.dirty
    c.loop-self.self.dirty c.write_back_one.new.self.dirty c.loop-self.invariant.moves c.write_back_one.ensures.moves

pub returns-clause-none : goal.returns-clause-none
returns-clause-none g c = λ zero s. none_counted c.loop-self.self.dirty (omega (arith, c.len.ensures.count, c.loop-self-test.false)) s
