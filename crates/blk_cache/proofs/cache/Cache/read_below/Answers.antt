use Rattle.std.proofs.Common.{◌≤◌, ℕ, ◌/◌, List, length, ap, ◌∙◌, arith}
use Rattle.blk_dirty.specs.Dirty.{bytes_at, clean, piece}
use Rattle.blk_dirty.proofs.Marks.{clean_some}
use Rattle.blk_cache.proofs.Writes.{unchanged}
use Rattle.blk_cache.proofs.Images.{piece_read}
use Rattle.blk_cache.proofs.cache.Cache.read_below.Goals as goal

pub returns-in_err-read-clause-moves : goal.returns-in_err-read-clause-moves
returns-in_err-read-clause-moves g c =
    unchanged g.D.Disk.tells g.D.Disk.present g.D.Disk.may_leave g.D.Disk.through c.args.self.now.disk c.read.new.self c.args.self.now.dirty c.read.ensures.kept c.read.ensures.lists c.read.ensures.moments

pub returns-in_ok-read-clause-moves : goal.returns-in_ok-read-clause-moves
returns-in_ok-read-clause-moves g c =
    unchanged g.D.Disk.tells g.D.Disk.present g.D.Disk.may_leave g.D.Disk.through c.args.self.now.disk c.read.new.self c.args.self.now.dirty c.read.ensures.kept c.read.ensures.lists c.read.ensures.moments

pub returns-in_ok-read-clause-read : goal.returns-in_ok-read-clause-read
returns-in_ok-read-clause-read g c = λ told s low high none.
    let inside = c.requires.inside in
    let whole = c.requires.whole in
    ap (λ (xs : List ℕ). piece c.args.sector xs s) (c.in_ok-read.ensures.read told)
    ∙ piece_read (g.D.Disk.present c.args.self.now.disk) c.args.sector (length c.args.into.now / 512) (λ t lo hi. c.args.self.now.whole told t (omega arith)) s low high

pub returns-else-clean-gt0-clause-read : goal.returns-else-clean-gt0-clause-read
returns-else-clean-gt0-clause-read g c = λ told s low high none.
    let some : 1 ≤ clean (bytes_at c.args.self.now.dirty) c.args.sector (length c.args.into.now / 512) =
    clean_some (bytes_at c.args.self.now.dirty) c.args.sector s (length c.args.into.now / 512) none low high in
    absurd (omega (arith, c.clean.ensures.clean, c.if-clean-gt0.false))
