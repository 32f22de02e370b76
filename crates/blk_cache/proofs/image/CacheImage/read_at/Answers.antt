use Rattle.std.proofs.Common.{◌≡◌, ℕ, ◌+◌, ◌*◌, ◌/◌, List, length, ap, ◌∙◌, arith}
use Rattle.blk_disk.specs.Contents.{joined}
use Rattle.blk_dirty.specs.Dirty.{DirtyLines, bytes_at, over, piece}
use Rattle.blk_cache.specs.Cached.{now}
use Rattle.blk_cache.proofs.Images.{content_same, content_read, over_read, whole_over}
use Rattle.blk_cache.proofs.image.CacheImage.read_at.Goals as goal

pub returns-in_err-read_below-clause-kept : goal.returns-in_err-read_below-clause-kept
returns-in_err-read_below-clause-kept g c =
    content_same g.D.Disk.tells (now c.read_below.new.self.dirty (g.D.Disk.present c.read_below.new.self.disk)) (now c.args.self.now.dirty (g.D.Disk.present c.args.self.now.disk)) _ _ c.read_below.ensures.size
    c.read_below.ensures.moves.newest

pub returns-clause-kept : goal.returns-clause-kept
returns-clause-kept g c =
    content_same g.D.Disk.tells (now c.read_below.new.self.dirty (g.D.Disk.present c.read_below.new.self.disk)) (now c.args.self.now.dirty (g.D.Disk.present c.args.self.now.disk)) _ _ c.read_below.ensures.size
    c.read_below.ensures.moves.newest

pub returns-clause-read : goal.returns-clause-read
returns-clause-read g c =
    let inside = c.requires.inside in
    let whole = c.requires.whole in
    let k : ℕ = length c.args.into.now / 512 in
    let len : length c.args.into.now ≡ 512 * (length c.args.into.now / 512) = omega arith in
    content_read g.D.Disk.tells (now c.args.self.now.dirty (g.D.Disk.present c.args.self.now.disk)) (g.D.Disk.size c.args.self.now.disk) c.args.sector (length c.args.into.now / 512) c.copy_over.new.into
    (λ told. whole_over (bytes_at c.args.self.now.dirty) (g.D.Disk.present c.args.self.now.disk) (g.D.Disk.size c.args.self.now.disk) c.read_below.ensures.whole (c.args.self.now.whole told)) (omega arith)
    (c.copy_over.auto.into ∙ c.read_below.auto.into ∙ len)
    (λ told.
    c.copy_over.ensures
    ∙ ap (λ (n : ℕ). joined (over (bytes_at c.read_below.new.self.dirty) (piece c.args.sector c.read_below.new.into)) c.args.sector (n / 512)) c.read_below.auto.into
    ∙ ap (λ (d : DirtyLines). joined (over (bytes_at d) (piece c.args.sector c.read_below.new.into)) c.args.sector (length c.args.into.now / 512)) c.read_below.ensures.dirty
    ∙ over_read (bytes_at c.args.self.now.dirty) (g.D.Disk.present c.args.self.now.disk) (piece c.args.sector c.read_below.new.into) c.args.sector (length c.args.into.now / 512) (c.in_ok-read_below.ensures.read told))
