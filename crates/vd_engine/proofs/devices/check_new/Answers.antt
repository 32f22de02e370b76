use Rattle.std.proofs.Common.{sym, arith}
use Rattle.vd_engine.specs.Machine.{FirstIs}
use Rattle.vd_engine.proofs.Refusals.{exists_refused, full_refused, new_taken, none_of, some_of}
use Rattle.vd_engine.proofs.devices.check_new.Goals as goal

pub returns-then-is_some-clause-refusal : goal.returns-then-is_some-clause-refusal
returns-then-is_some-clause-refusal c = λ x done m outcome s.
    let found = some_of _ (λ i. FirstIs c.args.name.now c.args.devices.now i) c.place_of.result c.place_of.ensures (sym c.if-is_some.ensures) in
    exists_refused x done _ m s c.args.name.now found.0 found.1 outcome

pub returns-then-devices-ge-DEVICE_LIMIT-clause-refusal : goal.returns-then-devices-ge-DEVICE_LIMIT-clause-refusal
returns-then-devices-ge-DEVICE_LIMIT-clause-refusal c = λ x done m outcome s.
    let none = none_of _ (λ i. FirstIs c.args.name.now c.args.devices.now i) c.place_of.result c.place_of.ensures (sym c.if-is_some.ensures) in
    full_refused x done _ m s c.args.name.now none (omega arith) outcome

pub returns-clause-none : goal.returns-clause-none
returns-clause-none c = none_of _ (λ i. FirstIs c.args.name.now c.args.devices.now i) c.place_of.result c.place_of.ensures (sym c.if-is_some.ensures)

pub returns-clause-refusal : goal.returns-clause-refusal
returns-clause-refusal c = λ x done m outcome s.
    let none = none_of _ (λ i. FirstIs c.args.name.now c.args.devices.now i) c.place_of.result c.place_of.ensures (sym c.if-is_some.ensures) in
    new_taken x done _ m s c.args.name.now none (omega arith) outcome
