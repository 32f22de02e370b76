use Rattle.std.proofs.Common.{◌+◌, ◌<◌, ◌++◌, ◌∷◌, [], length, min, arith, sym, ap, ◌∙◌, length-append, ◌-◌, ◌/◌}
use Rattle.std.specs.Prelude.{slice_index}
use Rattle.std.proofs.lemmas.List.{length-set}
use Rattle.sh_cells.specs.declared.view.View.{View}
use Rattle.sh_cells.specs.declared.word.Side.{Side}
use Rattle.sh_cells.specs.Passes.{view}
use Rattle.sh_cells.specs.Views.{access, with_read}
use Rattle.sh_device.specs.Spans.{accesses_on, with_reads, side_in}
use Rattle.sh_device.proofs.Spans.{accesses_on-snoc, bytes_of-snoc, least_of-snoc, take_two_set, more_reads}
use Rattle.sh_device.proofs.span.read_on.Goals as goal

pub loop-i-preserved : goal.loop-i-preserved
loop-i-preserved g c =
    let inv = c.loop-i.invariant in
    let words = inv.gained.0 in
    let word = c.load_side-word.result in
    let start : View = view (g.P.Pass.token c.args.pass.now) in
    let found = c.args.found.now in
    let at = c.args.at in
    let i = c.loop-i.i in
    let first = at / 4096 in
    let lt : c.loop-i.i + 1 < length c.loop-i.out = omega (arith, c.loop-i-test.true, inv.even, c.requires.even.1, c.loop-i.auto.out) in
    record {
      of = c.load_side-word.ensures.of;
      even = omega (arith, inv.even);
      within = grind (arith, lt, length-set);
      gained = (
        words ++ word ∷ [],
        c.load_side-word.ensures.gained ∙ ap (λ (s : Side). with_read (view (g.P.Pass.token c.loop-i.pass)) (access s (at + i) word)) c.side_at-side.ensures ∙ more_reads start (view (g.P.Pass.token c.loop-i.pass)) (accesses_on found first at words) (access (side_in found ((at + i) / 4096 - first)) (at + i) word) inv.gained.1
            ∙ ap (λ l. with_reads start l) (ap (λ n. accesses_on found first at words ++ access (side_in found ((at + n) / 4096 - first)) (at + n) word ∷ []) inv.gained.3 ∙ sym (accesses_on-snoc found first at words word)),
        take_two_set c.loop-i.out c.loop-i.i (slice_index word.bytes 0) (slice_index word.bytes 1) lt ∙ ap (λ l. l ++ slice_index word.bytes 0 ∷ slice_index word.bytes 1 ∷ []) inv.gained.2 ∙ sym (bytes_of-snoc words word),
        omega (arith, inv.gained.3, length-append words (word ∷ [])),
        c.min-least.ensures ∙ ap (λ n. min n word.stamp) inv.gained.4 ∙ sym (least_of-snoc words word),
      );
    }
