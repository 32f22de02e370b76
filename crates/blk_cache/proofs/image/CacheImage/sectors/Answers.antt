use Rattle.std.proofs.Common.{◌≡◌, ℕ, ◌*◌, sym, ap, ◌∙◌}
use Rattle.blk_dirty.specs.Dirty.{bytes_at}
use Rattle.blk_cache.specs.Cached.{now}
use Rattle.blk_cache.proofs.Images.{whole_over, content_len}
use Rattle.blk_cache.proofs.image.CacheImage.sectors.Goals as goal

pub returns-clause-told : goal.returns-clause-told
returns-clause-told g c = λ bytes told.
    content_len g.D.Disk.tells (now c.args.self.now.dirty (g.D.Disk.present c.args.self.now.disk)) (g.D.Disk.size c.args.self.now.disk)
    (λ tells. whole_over (bytes_at c.args.self.now.dirty) (g.D.Disk.present c.args.self.now.disk) (g.D.Disk.size c.args.self.now.disk) c.sectors.ensures.whole (c.args.self.now.whole tells)) bytes told
    ∙ ap (λ (n : ℕ). 512 * n) (sym (c.sectors.ensures.sectors ∙ c.args.self.now.sectors))
