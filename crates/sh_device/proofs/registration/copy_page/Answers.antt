use Rattle.std.proofs.Common.{◌≡◌, ◌≢◌, ℕ, ◌+◌, ◌*◌, ◌<◌, List, ◌++◌, ◌∷◌, [], length, length-append, arith, refl, sym, ap, ◌∙◌, subst, if◌then◌else◌, ◌==◌, Bool}
use Rattle.std.proofs.lemmas.Bool.{ne_eqb}
use Rattle.sh_cells.specs.declared.word.Word.{Word}
use Rattle.sh_cells.specs.declared.word.Side.{Side}
use Rattle.sh_cells.specs.declared.view.View.{View}
use Rattle.sh_cells.specs.Passes.{view}
use Rattle.sh_cells.specs.Views.{access, with_read, with_put}
use Rattle.sh_cells.specs.Backed.{MayPut}
use Rattle.sh_cells.proofs.Callers.{just_drew, just_read}
use Rattle.sh_device.specs.Spans.{copied, with_copied}
use Rattle.sh_device.proofs.Spans.{zeros_there, more_copies}
use Rattle.sh_device.proofs.registration.copy_page.Goals as goal
use Rattle.sh_device.proofs.registration.copy_page.Goals.{then-word-eq0, else-word-eq0}

pub put-requires-clause-drawn : goal.put-requires-clause-drawn
put-requires-clause-drawn c =
    let i = c.loop-i.i in
    let at : ℕ = 4096 * c.args.page + i in
    let inv = c.loop-i.invariant in
    let lt : i + 1 < 4096 = omega (arith, c.loop-i-test.true, inv.even) in
    let w : Word = record { stamp = c.draw-stamp.result; bytes = 0 ∷ 0 ∷ [] } in
    let drawn : MayPut (view c.draw-stamp.new.pass) at w = just_drew _ _ _ at w c.draw-stamp.ensures.gained (refl, omega arith, omega (arith, lt), zeros_there 4096 (4096 * c.args.page) i lt) in
    let here : view c.load_side-word.new.pass ≡ _ = c.load_side-word.ensures.gained ∙ ap (λ (v : View). with_read v (access c.args.from at c.load_side-word.result)) inv.copies.2 in
    subst (λ (v : View). MayPut v at w) (sym here) drawn

pub copy-requires-clause-loaded : goal.copy-requires-clause-loaded
copy-requires-clause-loaded c =
    just_read _ _ c.args.from (4096 * c.args.page + c.loop-i.i) c.load_side-word.result c.load_side-word.ensures.gained (λ e. c.if-word-eq0.false (ap (λ (w : Word). w.stamp) e))

-- a word of stamp 0 is copied as a zero, and another one as it is
copied_zero : (stamp : ℕ) (w : Word) → w.stamp ≡ 0 → copied stamp w ≡ record { stamp = stamp; bytes = 0 ∷ 0 ∷ [] }
copied_zero stamp w e = ap (λ (n : ℕ). if n == 0 then record { stamp = stamp; bytes = 0 ∷ 0 ∷ [] } else w) e

copied_same : (stamp : ℕ) (w : Word) → w.stamp ≢ 0 → copied stamp w ≡ w
copied_same stamp w not = ap (λ (b : Bool). if b then record { stamp = stamp; bytes = 0 ∷ 0 ∷ [] } else w) (ne_eqb w.stamp 0 not)

-- what a put of the word's copy leaves
step : (u v r p : View) (stamp : ℕ) (from to : Side) (at i : ℕ) (words : List Word) (w m : Word)
    → i ≡ 2 * length words → m ≡ copied stamp w
    → v ≡ with_copied u stamp from to at words
    → r ≡ with_read v (access from (at + i) w) → p ≡ with_put r (access to (at + i) m)
    → p ≡ with_copied u stamp from to at (words ++ w ∷ [])
step u v r p stamp from to at i words w m count same is read put =
    put ∙ ap (λ (x : View). with_put x (access to (at + i) m)) read ∙ (λ k. with_put (with_read v (access from (at + count k) w)) (access to (at + count k) (same k))) ∙ more_copies u v stamp from to at words w is

pub loop-i-preserved : goal.loop-i-preserved
loop-i-preserved c =
    let inv = c.loop-i.invariant in
    let words = inv.copies.0 in
    let i = c.loop-i.i in
    let at : ℕ = 4096 * c.args.page in
    let word : Word = c.load_side-word.result in
    let stamp = c.draw-stamp.result in
    let u : View = view c.draw-stamp.new.pass in
    let v : View = view c.loop-i.pass in
    let r : View = view c.load_side-word.new.pass in
    let zero : Word = record { stamp = stamp; bytes = 0 ∷ 0 ∷ [] } in
    elim c.if-word-eq0.branch [
      | then-word-eq0 b ↦ record {
        of = rw b.pass-is b.put.ensures.of;
        even = omega (arith, inv.even);
        within = omega (arith, c.loop-i-test.true, inv.even);
        copies = (words ++ word ∷ [], omega (arith, inv.copies.1, length-append words (word ∷ [])), ap view b.pass-is ∙ step u v r (view b.put.new.pass) stamp c.args.from c.args.to at i words word zero inv.copies.1 (sym (copied_zero stamp word b.if-word-eq0.true)) inv.copies.2 c.load_side-word.ensures.gained b.put.ensures.gained);
      }
      | else-word-eq0 b ↦ record {
        of = rw b.pass-is b.copy.ensures.of;
        even = omega (arith, inv.even);
        within = omega (arith, c.loop-i-test.true, inv.even);
        copies = (words ++ word ∷ [], omega (arith, inv.copies.1, length-append words (word ∷ [])), ap view b.pass-is ∙ step u v r (view b.copy.new.pass) stamp c.args.from c.args.to at i words word word inv.copies.1 (sym (copied_same stamp word b.if-word-eq0.false)) inv.copies.2 c.load_side-word.ensures.gained b.copy.ensures.gained);
      }
    ]
