use Rattle.std.proofs.Common.{◌∙◌, ap, sym, refl, arith}
use Rattle.std.specs.Str.{bytes_eq}
use Rattle.std.proofs.lemmas.Option.{slice_get_read, slice_get_within}
use Rattle.vd_engine.specs.Machine.{is_named}
use Rattle.vd_engine.proofs.Names.{first_is, find_none}
use Rattle.vd_engine.proofs.devices.place_of.Goals as goal

pub returns-then-eq : goal.returns-then-eq
returns-then-eq c =
    first_is c.args.name.now c.args.devices.now c.loop-i.i c.index-devices-i.result
    (slice_get_read c.args.devices.now _ c.loop-i.i c.index-devices-i.result refl c.loop-i-test.true c.index-devices-i.is)
    (sym (c.if-eq.ensures ∙ ap (bytes_eq c.args.name.now) c.as_slice.ensures)) c.loop-i.invariant

pub returns : goal.returns
returns c = find_none (is_named c.args.name.now) c.args.devices.now
    (λ k d e. let within = slice_get_within c.args.devices.now k d e in c.loop-i.invariant k d (omega arith) e)
