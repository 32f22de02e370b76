use Rattle.std.proofs.Common.{rules, ◌≡◌, ◌<◌, ap, subst, arith, length, get_or}
use Rattle.vd_domain.proofs.remaining.RemainingIndexUsize.index.Goals as goal

pub offset_bounds-as_slice-index : goal.offset_bounds-as_slice-index
offset_bounds-as_slice-index g c =
    let asked = c.requires in
    let size = ap length c.as_slice.ensures in
    let inside : c.args.index < length c.as_slice.result.now = omega (arith, asked, size) in
    search rules

pub returns : goal.returns
returns g c =
    let x = c.index-as_slice-index.result in
    subst (λ l. x ≡ get_or l c.args.index x) c.as_slice.ensures c.index-as_slice-index.is
