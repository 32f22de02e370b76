use Rattle.std.proofs.Common.{◌==◌, ℕ, ap, ◌∙◌, arith}
use Rattle.std.proofs.lemmas.Bool.{false≢true}
use Rattle.std.proofs.lemmas.List.{length-take-le}
use Rattle.vd_raw.proofs.Agree.{field_at-take}
use Rattle.vd_raw.proofs.message.response_in.Goals as goal

pub unreachable-requires : goal.unreachable-requires
unreachable-requires c = false≢true (c.in-None.ensures.formed ∙ ap (λ (n : ℕ). n == 152) (length-take-le 152 c.args.bytes.now c.requires))

pub returns : goal.returns
returns c =
    let shows = c.in-Some.ensures.fields in
    let id = shows.0 ∙ field_at-take 4 0 152 c.args.bytes.now (omega arith) in
    let reply = shows.1.0 ∙ field_at-take 4 4 152 c.args.bytes.now (omega arith) in
    let avail = shows.1.1.1.0 ∙ field_at-take 2 28 152 c.args.bytes.now (omega arith) in
    cc
