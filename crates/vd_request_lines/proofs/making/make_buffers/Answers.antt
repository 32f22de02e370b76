use Rattle.std.proofs.Common.{◌≡◌, ◌+◌, ◌-◌, ◌≤◌, ◌++◌, Bool, length, take, subst, sym, ap, ◌∙◌, arith}
use Rattle.vd_model.specs.DriverTurns.{buffer_limit}
use Rattle.vd_model.specs.RingTurns.{made_len}
use Rattle.vd_model.specs.Live.{buffers}
use Rattle.vd_memory_lines.specs.Stands.{Stands}
use Rattle.vd_buffers.specs.Places.{Places, total_of}
use Rattle.blk_driver.specs.Asked.{asked_in}
use Rattle.vd_request_lines.specs.Submitting.{made_acts}
use Rattle.vd_request_lines.proofs.Makings.{front_made, both_made, room_left, front_back}
use Rattle.vd_request_lines.proofs.making.make_buffers.Goals as goal

pub returns-then-not-indirect-clause-made : goal.returns-then-not-indirect-clause-made
returns-then-not-indirect-clause-made c = λ x acts m s.
    subst (λ (i : Bool). Stands x (made_acts i c.args.ask.now ++ acts) (record c.args.memory.now { buffers = c.add.new.self }) m) (sym c.if-not-indirect.true)
    (front_made x acts c.args.memory.now m s c.args.ask.now c.front.result c.front.ensures c.add.new.self (c.in_ok-add.ensures.ok x.per_page acts s.buffers).1)

pub zeros-requires : goal.zeros-requires
zeros-requires c =
    let u = c.requires.used in
    room_left u.size u.acts c.args.memory.now.buffers c.add.new.self c.front.result c.args.ask.now buffer_limit c.table_len.result u.stands (c.in_ok-add.ensures.ok u.size u.acts u.stands).1
    c.front.ensures c.table_len.ensures (subst (λ (i : Bool). total_of c.args.memory.now.buffers + made_len i (asked_in c.args.ask.now) ≤ buffer_limit) c.if-not-indirect.false c.requires.room)

pub take_back-requires : goal.take_back-requires
take_back-requires c =
    let u = c.requires.used in
    let same : length c.zeros.new.self ≡ length c.add.new.self = ap length c.in-Err.ensures.err in
    let count : length c.add.new.self ≡ buffers u.acts + 1 = (c.in_ok-add.ensures.ok u.size u.acts u.stands).1.count in
    omega (arith, same, count)

pub returns-in-Ok-clause-made : goal.returns-in-Ok-clause-made
returns-in-Ok-clause-made c = λ x acts m s.
    subst (λ (i : Bool). Stands x (made_acts i c.args.ask.now ++ acts) (record c.args.memory.now { buffers = c.zeros.new.self }) m) (sym c.if-not-indirect.false)
    (both_made x acts c.args.memory.now m s c.args.ask.now c.front.result c.front.ensures c.add.new.self c.zeros.new.self (c.in_ok-add.ensures.ok x.per_page acts s.buffers).1
    c.table_len.result c.table_len.ensures (λ g acts s. (c.in-Ok.ensures.ok g acts s).1))

pub returns-in-Err-clause-none : goal.returns-in-Err-clause-none
returns-in-Err-clause-none c = λ x acts m s.
    front_back x acts c.args.memory.now m s c.args.ask.now c.front.result c.front.ensures c.add.new.self (c.in_ok-add.ensures.ok x.per_page acts s.buffers).1
    c.take_back.new.buffers (c.take_back.ensures ∙ ap (λ (p : Places). take (length p - 1) p) c.in-Err.ensures.err)
