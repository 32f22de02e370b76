use Rattle.std.proofs.Common.{◌≡◌, ◌+◌, ◌*◌, ◌/◌, ◌≤◌, ◌^◌, inl, inr}
use Rattle.std.proofs.lemmas.Bool.Decides.{leb_tells}
use Rattle.vd_provenance.proofs.Silent.{past_end}
use Rattle.vd_provenance.proofs.state.Provenance.put_in.Goals as goal

pub returns-in-None : goal.returns-in-None
returns-in-None c = past_end _ _ _ _ far where
  far : 2 ^ 64 ≤ 4096 * (c.args.shared.now.iova / 4096) + c.args.offset
  far = elim (leb_tells (2 ^ 64) (4096 * (c.args.shared.now.iova / 4096) + c.args.offset)) [
    | inl upto ↦ upto.1
    | inr past ↦ absurd (c.in-None.ensures past.1)
  ]
