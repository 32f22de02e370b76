use Rattle.std.proofs.Common.{sym}
use Rattle.blk_cache.proofs.Writes.{unwritten, written_back}
use Rattle.blk_cache.proofs.cache.Cache.write_back_one.Goals as goal

pub returns-in_err-write-clause-moves : goal.returns-in_err-write-clause-moves
returns-in_err-write-clause-moves g c =
    unwritten g.D.Disk.tells g.D.Disk.present g.D.Disk.may_leave g.D.Disk.through c.args.self.now.disk c.write.new.self c.args.self.now.dirty c.args.sector c.in-Some.bytes.now (sym c.in-Some.ensures.bytes)
    c.write.ensures.others c.write.ensures.lists c.write.ensures.moments

pub returns-clause-moves : goal.returns-clause-moves
returns-clause-moves g c =
    written_back g.D.Disk.tells g.D.Disk.present g.D.Disk.may_leave g.D.Disk.through c.args.self.now.disk c.write.new.self c.args.self.now.dirty c.remove.new.self c.args.sector c.in-Some.bytes.now
    (sym c.in-Some.ensures.bytes) c.remove.ensures.bytes c.in_ok-write.ensures.written c.write.ensures.others c.write.ensures.lists c.write.ensures.moments
