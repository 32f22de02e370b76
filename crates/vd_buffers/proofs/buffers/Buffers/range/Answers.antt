use Rattle.std.proofs.Common.{◌+◌, ◌-◌, List, ℕ, take, drop, rules}
use Rattle.vd_buffers.specs.Places.{IsRange}
use Rattle.vd_buffers.proofs.Ranges.{allowed, text_is}
use Rattle.vd_buffers.proofs.buffers.Buffers.range.Goals as goal

pub returns-clause-bytes : goal.returns-clause-bytes
returns-clause-bytes c = λ g acts s.
    let text : List ℕ = take (c.args.offset + c.args.len - c.args.offset) (drop c.args.offset c.as_slice-bytes.result.now) in
    let range : IsRange c.args.self.now c.args.buffer c.args.offset c.args.len text = search rules in
    (allowed g acts c.args.self.now s c.args.buffer c.args.offset c.args.len text range, text_is g acts c.args.self.now s c.args.buffer c.args.offset c.args.len text range)
