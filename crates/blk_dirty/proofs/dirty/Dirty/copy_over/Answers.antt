use Rattle.std.proofs.Common.{◌≡◌, ◌≤◌, ℕ, ◌+◌, ◌-◌, ◌*◌, ◌/◌, List, Option, length, take, drop, vec_capacity, sym, ap, subst, ◌∙◌, arith}
use Rattle.std.specs.Option.{unwrap_or}
use borrow.Rule.Slice.PartMut.{put_mid}
use Rattle.blk_disk.specs.Contents.{joined}
use Rattle.blk_disk.proofs.Joined.{length-joined}
use Rattle.blk_dirty.specs.Dirty.{DirtyLines, IsSound, bytes_at, over, piece}
use Rattle.blk_dirty.proofs.Copies.{shown, copied, still, length-piece, length-over}
use Rattle.blk_dirty.proofs.dirty.Dirty.copy_over.Goals as goal

pub loop-i-preserved : goal.loop-i-preserved
loop-i-preserved c =
    let sound : IsSound c.args.self.now (length c.self.inside.spare.items) (vec_capacity c.self.inside.spare) =
    subst (λ (d : DirtyLines). IsSound d (length c.self.inside.spare.items) (vec_capacity c.self.inside.spare)) c.self.view_is c.self.invariant in
    let n : length c.args.into.now ≡ 512 * (length c.args.into.now / 512) = omega (arith, c.requires.whole) in
    let k : c.loop-i.i * 512 + 512 - c.loop-i.i * 512 ≡ 512 = omega arith in
    let len : length (joined (shown c.args.self.now c.args.first c.args.into.now) c.args.first c.loop-i.i) ≡ 512 * c.loop-i.i =
    length-joined (shown c.args.self.now c.args.first c.args.into.now) c.args.first c.loop-i.i (λ t low high. length-over (bytes_at c.args.self.now) (piece c.args.first c.args.into.now) t sound.whole
    (length-piece c.args.first c.args.into.now t (length c.args.into.now / 512) n low (omega (arith, c.loop-i-test.true)))) in
    let old : take 512 (drop (c.loop-i.i * 512) c.loop-i.into) ≡ piece c.args.first c.args.into.now (c.args.first + c.loop-i.i) =
    still (shown c.args.self.now c.args.first c.args.into.now) c.args.first c.loop-i.i c.args.into.now c.loop-i.into c.loop-i.invariant len in
    let new : c.copy_line.new.piece ≡ shown c.args.self.now c.args.first c.args.into.now (c.args.first + c.loop-i.i) =
    c.copy_line.ensures
    ∙ ap (λ (o : Option (List ℕ)). unwrap_or o (take (c.loop-i.i * 512 + 512 - c.loop-i.i * 512) (drop (c.loop-i.i * 512) c.loop-i.into))) c.get.ensures.bytes
    ∙ ap (λ (m : ℕ). unwrap_or (bytes_at c.args.self.now (c.args.first + c.loop-i.i)) (take m (drop (c.loop-i.i * 512) c.loop-i.into))) k
    ∙ ap (λ (x : List ℕ). unwrap_or (bytes_at c.args.self.now (c.args.first + c.loop-i.i)) x) old in
    ap (λ (m : ℕ). put_mid (c.loop-i.i * 512) m c.loop-i.into c.copy_line.new.piece) k ∙ ap (λ (x : List ℕ). put_mid (c.loop-i.i * 512) 512 c.loop-i.into x) new
    ∙ copied (shown c.args.self.now c.args.first c.args.into.now) c.args.first c.loop-i.i c.args.into.now c.loop-i.into c.loop-i.invariant len
