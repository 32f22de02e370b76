use Rattle.std.proofs.Common.{append-nil, refl, ap, sym, ◌∙◌, ◌++◌, ◌∷◌, []}
use Rattle.vd_origins.specs.Runs.{run_origin, or_origin, origin_in}
use Rattle.vd_origins.proofs.Runs.{pushed, joined_last}
use Rattle.vd_origins.proofs.origins.push.Goals as goal
use Rattle.vd_origins.proofs.origins.push.Goals.{in-Some+in_default-joined+in_ok-push-2, in_default}

pub returns-in-Some-joined : goal.returns-in-Some-joined
returns-in-Some-joined c a =
    ap (λ xs. origin_in xs a) c.in_ok-push.ensures.items
    ∙ joined_last c.pop.new.self.items c.in-Some.last c.args.run c.in-Some-joined.joined a (c.in-Some-joined.ensures c.in-Some-joined.joined refl a)
    ∙ ap (λ xs. or_origin (origin_in xs a) (run_origin c.args.run a)) (sym c.in-Some.ensures.items)

pub returns : goal.returns
returns c a =
    ap (λ xs. origin_in xs a) c.in_ok-push-3.ensures.items
    ∙ pushed c.match-pop.into.items c.args.run a
    ∙ ap (λ xs. or_origin (origin_in xs a) (run_origin c.args.run a)) (elim c.match-pop.branch [
      | in-Some+in_default-joined+in_ok-push-2 w ↦ ap (λ v. v.items) w.into-is ∙ w.in_ok-push-2.ensures.items ∙ sym w.in-Some.ensures.items
      | in_default w ↦ ap (λ v. v.items) w.into-is ∙ sym (w.in_default.ensures.items ∙ append-nil c.pop.new.self.items)
    ])
