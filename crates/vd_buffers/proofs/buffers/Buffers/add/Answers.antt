use Rattle.std.proofs.Common.{◌≡◌, List, ℕ, ◌++◌, ◌∷◌, [], Some, length, subst, sym, ap, ◌∙◌, arith}
use Rattle.vd_model.specs.Acts.{Driver}
use Rattle.vd_model.specs.Acts as acts
use Rattle.vd_buffers.specs.Stands.{Stands}
use Rattle.vd_buffers.proofs.Added.{added, buffer_adds}
use Rattle.vd_buffers.proofs.buffers.Buffers.add.Goals as goal

pub returns-clause-ok : goal.returns-clause-ok
returns-clause-ok c = λ g done s.
    let before = subst (λ places. Stands g done places) (sym c.self.view_is) s in
    let pushed : c.push.new.self.items ≡ c.self.inside.places.items ++ Some c.args.bytes.now ∷ [] =
    c.in_ok-push.ensures.items ∙ ap (λ (b : List ℕ). c.self.inside.places.items ++ Some b ∷ []) (c.from_vec-buffer.ensures ∙ c.in_ok-from_slice.ensures.items) in
    let count = before.count in
    let number : c.len-number.result ≡ length c.self.inside.places.items = omega arith in (
      number ∙ count,
      subst (λ places. Stands g (Driver (acts.Buffer c.args.bytes.now) ∷ done) places) (sym pushed)
          (added g done _ before (Driver (acts.Buffer c.args.bytes.now)) c.args.bytes.now (buffer_adds g done c.args.bytes.now)),
    )
