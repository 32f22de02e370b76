use Rattle.std.proofs.Common.{rules, ◌≡◌, ◌∷◌, ◌++◌, [], codes, decimal, map}
use Rattle.vr_pair.specs.QueueLines.{given_part}
use Rattle.vr_queue.proofs.Words.{chain_reply}
use Rattle.vr_queue.proofs.reply.say_chain.Goals as goal

pub returns : goal.returns
returns c =
    let begun : c.put_number.new.into.items ≡ codes "ok" ++ (32 ∷ decimal c.args.number) = search rules in
    let last : c.push.new.self.items ≡ c.put_parts.new.into.items ++ 10 ∷ [] = search rules in
    chain_reply (codes "ok") (decimal c.args.number) c.put_number.new.into.items c.put_parts.new.into.items c.push.new.self.items (map given_part c.args.parts.now) begun c.in_ok-put_parts.ensures last
