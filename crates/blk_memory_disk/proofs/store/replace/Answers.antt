use Rattle.std.proofs.Common.{◌≡◌, ℕ, ◌+◌, ◌-◌, ◌*◌, List, ◌++◌, length, take, drop, refl, ap, ◌∙◌, arith}
use Rattle.std.proofs.Math.Seq.{take-length}
use Rattle.std.proofs.lemmas.Slice.{put_mid-paste}
use Rattle.blk_memory_disk.proofs.store.replace.Goals as goal

pub returns : goal.returns
returns c =
    let place : c.args.sector * 512 ≡ 512 * c.args.sector = omega arith in
    let size : length c.args.content.now ≡ c.args.sector * 512 + length c.args.content.now - c.args.sector * 512 = omega arith in
    put_mid-paste (c.args.sector * 512) (c.args.sector * 512 + length c.args.content.now - c.args.sector * 512) c.args.bytes.now c.copy_from_slice.new.self c.args.content.now (length c.args.content.now)
    c.copy_from_slice.ensures.after size refl
    ∙ ap (λ (xs : List ℕ). take (c.args.sector * 512) c.args.bytes.now ++ xs ++ drop (c.args.sector * 512 + length c.args.content.now) c.args.bytes.now) (take-length c.args.content.now)
    ∙ ap (λ (a : ℕ). take a c.args.bytes.now ++ c.args.content.now ++ drop (a + length c.args.content.now) c.args.bytes.now) place
