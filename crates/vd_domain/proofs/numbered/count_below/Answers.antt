use Rattle.std.proofs.Common.{◌+◌, ◌-◌, ◌/◌, ◌<◌, ◌≤◌, ℕ, length, arith}
use Rattle.vd_domain.proofs.Rising.{count_below, counts_at_most, counts_below, counts_before}
use Rattle.vd_domain.proofs.numbered.count_below.Goals as goal

pub loop-low-init : goal.loop-low-init
loop-low-init g c = let most : count_below c.args.number c.args.entries.now ≤ length c.args.entries.now = counts_at_most c.args.number c.args.entries.now in record {
  least = omega arith;
  most = omega (arith, most);
  end = omega arith;
}

pub loop-low-preserved-then-entries-middle : goal.loop-low-preserved-then-entries-middle
loop-low-preserved-then-entries-middle g c =
    let low : ℕ = c.loop-low.low in
    let high : ℕ = c.loop-low.high in
    let room : low < high = c.loop-low-test.true in
    let end : high ≤ length c.args.entries.now = c.loop-low.invariant.end in
    let within : low + (high - low) / 2 < length c.args.entries.now = omega (arith, room, end) in
    let more : low + (high - low) / 2 + 1 ≤ count_below c.args.number c.args.entries.now
    = counts_below 0 c.requires.0 c.args.number (low + (high - low) / 2) c.args.entries.now _ c.requires.1 within c.if-entries-middle.true in
    record { least = more; most = c.loop-low.invariant.most; end = end }

pub loop-low-preserved : goal.loop-low-preserved
loop-low-preserved g c =
    let low : ℕ = c.loop-low.low in
    let high : ℕ = c.loop-low.high in
    let room : low < high = c.loop-low-test.true in
    let end : high ≤ length c.args.entries.now = c.loop-low.invariant.end in
    let within : low + (high - low) / 2 < length c.args.entries.now = omega (arith, room, end) in
    let fewer : count_below c.args.number c.args.entries.now ≤ low + (high - low) / 2
    = counts_before 0 c.requires.0 c.args.number (low + (high - low) / 2) c.args.entries.now _ c.requires.1 within c.if-entries-middle.false in
    record { least = c.loop-low.invariant.least; most = fewer; end = omega (arith, room, end) }
