use Rattle.std.proofs.Common.{◌≡◌, refl, sym, subst, ◌∙◌, Bool, true, false, true≢false, not, List, ℕ}
use Rattle.std.specs.Str.{bytes_eq}
use Rattle.std.proofs.lemmas.Slice.Eq.{bytes_eq-Decides}
use Rattle.std.specs.List.{All}
use Rattle.std.proofs.lemmas.List.Elements.{All-cons}
use Rattle.vd_model.specs.declared.memory.Want.{Want}
use Rattle.vd_domain.specs.Handed.{AreOf}
use Rattle.vd_driver_port.specs.Reached.{IsInBuffer}
use Rattle.vd_driver_port.proofs.theirs.+are_theirs.Goals as goal

-- bytes that don't differ are the same
same_of : (xs ys : List ℕ) (r : Bool) → r ≡ not (bytes_eq xs ys) → r ≡ false → xs ≡ ys
same_of xs ys r e f = by (bytes_eq xs ys) (bytes_eq-Decides xs ys).0 (sym e ∙ f) where
  by : (t : Bool) → (t ≡ true → xs ≡ ys) → not t ≡ false → xs ≡ ys
  by true same g = same refl
  by false same g = absurd (true≢false g)

pub returns-clause-inside : goal.returns-clause-inside
returns-clause-inside n c = λ e.
    let want : Want = c.in-Some.parts.0.now in
    let wants : List Want = c.in-Some.parts.1.now in
    let r = c.in-Ok.ensures.lies in
    subst (λ (ws : List Want). All (IsInBuffer c.args.buffers.now) ws) (sym c.in-Some.ensures.cases.0)
    (All-cons (IsInBuffer c.args.buffers.now) want wants (record { some = r.nonzero; bytes = r.bytes; there = r.there; within = r.within }) (c.are_theirs.ensures.inside e))

pub returns-clause-bytes : goal.returns-clause-bytes
returns-clause-bytes n c = λ e g acts s.
    let want : Want = c.in-Some.parts.0.now in
    let wants : List Want = c.in-Some.parts.1.now in
    let same : c.in-Ok.held.now ≡ c.split_at.result.0.now = same_of _ _ _ c.ne.ensures c.if-ne.false in
    subst (λ (ws : List Want). AreOf g acts ws c.args.bytes.now) (sym c.in-Some.ensures.cases.0) (
      sym c.split_at.ensures.front ∙ sym same ∙ (c.in-Ok.ensures.bytes g acts s).1,
      subst (λ (t : List ℕ). AreOf g acts wants t) c.split_at.ensures.back (c.are_theirs.ensures.bytes e g acts s),
    )
