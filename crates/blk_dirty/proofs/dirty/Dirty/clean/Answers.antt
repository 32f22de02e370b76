use Rattle.std.proofs.Common.{◌≡◌, ◌≤◌, ℕ, suc, ◌+◌, length, vec_capacity, sym, subst, arith}
use Rattle.blk_dirty.specs.Dirty.{DirtyLines, IsSound, bytes_at, clean, marked}
use Rattle.blk_dirty.proofs.Marks.{marked_and_clean}
use Rattle.blk_dirty.proofs.dirty.Dirty.clean.Goals as goal

pub loop-i-preserved : goal.loop-i-preserved
loop-i-preserved c =
    let one : c.loop-i.i + 1 ≡ suc c.loop-i.i = omega arith in
    record {
      is = subst (λ (k : ℕ). c.loop-i.clean + c.clean_one-clean.result ≡ clean (bytes_at c.args.self.now) c.args.first k) (sym one) (omega (arith, c.clean_one-clean.ensures, c.loop-i.invariant.is));
      most = omega (arith, c.clean_one-clean.ensures);
    }

pub returns-clause-fits : goal.returns-clause-fits
returns-clause-fits c =
    let sound : IsSound c.args.self.now (length c.self.inside.spare.items) (vec_capacity c.self.inside.spare) =
    subst (λ (d : DirtyLines). IsSound d (length c.self.inside.spare.items) (vec_capacity c.self.inside.spare)) c.self.view_is c.self.invariant in
    let all : marked (bytes_at c.args.self.now) (length c.args.self.now.lines) + clean (bytes_at c.args.self.now) c.args.first c.loop-i.i ≤ length c.args.self.now.lines =
    marked_and_clean (bytes_at c.args.self.now) c.args.first c.loop-i.i (length c.args.self.now.lines) (omega arith) in
    omega (arith, sound.count, c.loop-i.invariant.is)

pub returns-clause-whole : goal.returns-clause-whole
returns-clause-whole c =
    let sound : IsSound c.args.self.now (length c.self.inside.spare.items) (vec_capacity c.self.inside.spare) =
    subst (λ (d : DirtyLines). IsSound d (length c.self.inside.spare.items) (vec_capacity c.self.inside.spare)) c.self.view_is c.self.invariant in
    sound.whole
