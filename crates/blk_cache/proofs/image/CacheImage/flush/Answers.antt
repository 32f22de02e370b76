use Rattle.std.proofs.Common.{◌≡◌, ℕ, List, Bool, true, ap, sym, subst, ◌∙◌, refl}
use Rattle.std.specs.Option.{unwrap_or}
use Rattle.blk_dirty.specs.Dirty.{DirtyLines, bytes_at}
use Rattle.blk_cache.specs.Cached.{Keeps, content_of, newest_alone, now}
use Rattle.blk_cache.proofs.Writes.{both, unchanged, flush_moments, flush_settles}
use Rattle.blk_cache.proofs.Images.{content_same}
use Rattle.blk_cache.proofs.image.CacheImage.flush.Goals as goal

pub returns-in_err-write_back-clause-kept : goal.returns-in_err-write_back-clause-kept
returns-in_err-write_back-clause-kept g c =
    content_same g.D.Disk.tells (now c.write_back.new.self.dirty (g.D.Disk.present c.write_back.new.self.disk)) (now c.args.self.now.dirty (g.D.Disk.present c.args.self.now.disk)) _ _ c.write_back.ensures.size
    c.write_back.ensures.moves.newest

pub returns-in_err-settle-clause-kept : goal.returns-in_err-settle-clause-kept
returns-in_err-settle-clause-kept g c =
    content_same g.D.Disk.tells (now c.settle.new.self.dirty (g.D.Disk.present c.settle.new.self.disk)) (now c.args.self.now.dirty (g.D.Disk.present c.args.self.now.disk)) _ _
    (c.settle.ensures.size ∙ c.write_back.ensures.size)
    (λ told s. ap (λ (d : DirtyLines). now d (g.D.Disk.present c.settle.new.self.disk) s) c.settle.ensures.dirty
    ∙ ap (λ (x : List ℕ). unwrap_or (bytes_at c.write_back.new.self.dirty s) x) (c.settle.ensures.kept told s) ∙ c.write_back.ensures.moves.newest told s)

pub returns-in_err-settle-clause-crash : goal.returns-in_err-settle-clause-crash
returns-in_err-settle-clause-crash g c = λ told kept k.
    let moved = (both g.D.Disk.tells g.D.Disk.present g.D.Disk.may_leave g.D.Disk.through g.met.D.Disk.goes_on c.args.self.now.disk c.write_back.new.self.disk c.settle.new.self.disk c.args.self.now.dirty
    c.write_back.new.self.dirty c.write_back.new.self.dirty c.write_back.ensures.moves
    (unchanged g.D.Disk.tells g.D.Disk.present g.D.Disk.may_leave g.D.Disk.through c.write_back.new.self.disk c.settle.new.self.disk c.write_back.new.self.dirty c.settle.ensures.kept
    (λ t. c.in_err-settle.ensures.lists t) c.settle.ensures.moments)).moments told kept k in
    (moved.0, subst (λ (d : DirtyLines). Keeps kept (now d (g.D.Disk.present c.settle.new.self.disk)) (g.D.Disk.may_leave c.settle.new.self.disk)) (sym c.settle.ensures.dirty) moved.1)

pub returns-clause-kept : goal.returns-clause-kept
returns-clause-kept g c =
    content_same g.D.Disk.tells (now c.settle.new.self.dirty (g.D.Disk.present c.settle.new.self.disk)) (now c.args.self.now.dirty (g.D.Disk.present c.args.self.now.disk)) _ _
    (c.settle.ensures.size ∙ c.write_back.ensures.size)
    (λ told s. ap (λ (d : DirtyLines). now d (g.D.Disk.present c.settle.new.self.disk) s) c.settle.ensures.dirty
    ∙ ap (λ (x : List ℕ). unwrap_or (bytes_at c.write_back.new.self.dirty s) x) (c.settle.ensures.kept told s) ∙ c.write_back.ensures.moves.newest told s)

pub returns-clause-crash : goal.returns-clause-crash
returns-clause-crash g c = λ told kept k.
    let moved = flush_moments g.D.Disk.tells g.D.Disk.present g.D.Disk.may_leave g.D.Disk.through g.met.D.Disk.goes_on c.args.self.now.disk c.write_back.new.self.disk c.settle.new.self.disk
    c.args.self.now.dirty c.write_back.new.self.dirty c.write_back.ensures.moves c.settle.ensures.kept (c.in_ok-write_back.ensures.none refl) c.in_ok-settle.ensures.settled c.settle.ensures.moments told kept k in
    (moved.0, subst (λ (d : DirtyLines). Keeps kept (now d (g.D.Disk.present c.settle.new.self.disk)) (g.D.Disk.may_leave c.settle.new.self.disk)) (sym c.settle.ensures.dirty) moved.1)

pub returns-clause-settled : goal.returns-clause-settled
returns-clause-settled g c = λ told.
    subst (λ (d : DirtyLines). Keeps (newest_alone (now c.args.self.now.dirty (g.D.Disk.present c.args.self.now.disk))) (now d (g.D.Disk.present c.settle.new.self.disk)) (g.D.Disk.may_leave c.settle.new.self.disk))
    (sym c.settle.ensures.dirty)
    (flush_settles g.D.Disk.tells g.D.Disk.present g.D.Disk.may_leave g.D.Disk.through c.args.self.now.disk c.write_back.new.self.disk c.settle.new.self.disk c.args.self.now.dirty c.write_back.new.self.dirty
    c.write_back.ensures.moves c.settle.ensures.kept (c.in_ok-write_back.ensures.none refl) c.in_ok-settle.ensures.settled told)
