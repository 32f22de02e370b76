use Rattle.std.proofs.Common.{◌∙◌, ap, sym, refl, arith}
use Rattle.std.specs.Option.{option_map}
use Rattle.std.specs.Str.{bytes_eq}
use Rattle.std.proofs.lemmas.Option.{slice_get_read, slice_get_within}
use Rattle.vd_engine.specs.Windows.{has_window, given_window}
use Rattle.vd_engine.proofs.Names.{find_first, find_none}
use Rattle.vd_engine.proofs.windows.window_of.Goals as goal

pub returns-then-eq : goal.returns-then-eq
returns-then-eq c =
    let there = slice_get_read c.args.windows.now _ c.loop-given.given-index c.given-item.result refl c.loop-given-test.true c.given-item.is in
    sym (ap (option_map given_window) (find_first (has_window c.args.name.now) c.args.windows.now c.loop-given.given-index c.given-item.result there
    (sym (c.if-eq.ensures ∙ ap (bytes_eq c.args.name.now) c.as_slice.ensures)) c.loop-given.invariant ∙ there))

pub returns : goal.returns
returns c = sym (ap (option_map given_window) (find_none (has_window c.args.name.now) c.args.windows.now
    (λ k g e. let within = slice_get_within c.args.windows.now k g e in c.loop-given.invariant k g (omega arith) e)))
