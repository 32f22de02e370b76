use Rattle.std.proofs.Common.{◌≡◌, ◌==◌, ◌<◌, false, arith}
use Rattle.std.proofs.lemmas.Bool.Decides.{nat_tests}
use Rattle.vd_rings.proofs.RingSizes.{other_power, too_large, no_slots}
use Rattle.vd_rings.proofs.creation.ring_size.Goals.{else-size-ge1-via-then-size-ge1+then-size-le32768+else-align_of-size, else-size-ge1-via-then-size-ge1+else-size-le32768, else-size-ge1-via-else-size-ge1}
use Rattle.vd_rings.proofs.creation.ring_size.Goals as goal

pub returns : goal.returns
returns c = elim c.else-size-ge1.branch [
  | else-size-ge1-via-then-size-ge1+then-size-le32768+else-align_of-size w ↦
      other_power c.args.size w.align_of.result w.align_of.ensures.value (let h = w.if-align_of-size in search)
  | else-size-ge1-via-then-size-ge1+else-size-le32768 w ↦ too_large c.args.size (let h = w.if-size-le32768 in search)
  | else-size-ge1-via-else-size-ge1 w ↦ no_slots c.args.size (let h = w.if-size-ge1 in search)
]
