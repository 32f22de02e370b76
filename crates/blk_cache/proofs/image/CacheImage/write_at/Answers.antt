use Rattle.std.proofs.Common.{◌≡◌, ℕ, ◌+◌, ◌*◌, ◌/◌, length, ◌∙◌, arith}
use Rattle.blk_dirty.specs.Dirty.{bytes_at}
use Rattle.blk_cache.specs.Cached.{now}
use Rattle.blk_cache.proofs.Writes.{write_newest, write_moments, refused_moments}
use Rattle.blk_cache.proofs.Images.{content_same, content_written, whole_over, on_err}
use Rattle.blk_cache.proofs.image.CacheImage.write_at.Goals as goal

pub returns-in_err-make_room-clause-kept : goal.returns-in_err-make_room-clause-kept
returns-in_err-make_room-clause-kept g c =
    on_err c.from_residual.result
    (content_same g.D.Disk.tells (now c.make_room.new.self.dirty (g.D.Disk.present c.make_room.new.self.disk)) (now c.args.self.now.dirty (g.D.Disk.present c.args.self.now.disk)) _ _ c.make_room.ensures.size
    c.make_room.ensures.moves.newest)

pub returns-in_err-make_room-clause-crash : goal.returns-in_err-make_room-clause-crash
returns-in_err-make_room-clause-crash g c =
    refused_moments g.D.Disk.tells g.D.Disk.present g.D.Disk.may_leave g.D.Disk.through c.args.self.now.disk c.make_room.new.self.disk c.args.self.now.dirty c.make_room.new.self.dirty c.args.sector c.args.bytes.now
    c.make_room.ensures.moves

pub returns-clause-written : goal.returns-clause-written
returns-clause-written g c =
    let inside = c.requires.inside in
    let whole = c.requires.whole in
    let len : length c.args.bytes.now ≡ 512 * (length c.args.bytes.now / 512) = omega arith in
    content_written g.D.Disk.tells (now c.args.self.now.dirty (g.D.Disk.present c.args.self.now.disk)) (now c.write_back.new.self.dirty (g.D.Disk.present c.write_back.new.self.disk))
    (g.D.Disk.size c.args.self.now.disk) (g.D.Disk.size c.write_back.new.self.disk) c.args.sector (length c.args.bytes.now / 512) c.args.bytes.now (c.write_back.ensures.size ∙ c.make_room.ensures.size)
    (λ told. whole_over (bytes_at c.args.self.now.dirty) (g.D.Disk.present c.args.self.now.disk) (g.D.Disk.size c.args.self.now.disk) c.make_room.ensures.whole (c.args.self.now.whole told)) (omega arith) len
    (write_newest g.D.Disk.tells g.D.Disk.present g.D.Disk.may_leave g.D.Disk.through c.args.self.now.disk c.make_room.new.self.disk c.write_back.new.self.disk c.args.self.now.dirty c.make_room.new.self.dirty
    c.put_all.new.self c.write_back.new.self.dirty c.args.sector c.args.bytes.now c.make_room.ensures.moves c.put_all.ensures.bytes c.write_back.ensures.moves)

pub returns-clause-crash : goal.returns-clause-crash
returns-clause-crash g c =
    write_moments g.D.Disk.tells g.D.Disk.present g.D.Disk.may_leave g.D.Disk.through g.met.D.Disk.goes_on c.args.self.now.disk c.make_room.new.self.disk c.write_back.new.self.disk c.args.self.now.dirty
    c.make_room.new.self.dirty c.put_all.new.self c.write_back.new.self.dirty c.args.sector c.args.bytes.now c.make_room.ensures.moves c.put_all.ensures.bytes c.write_back.ensures.moves
