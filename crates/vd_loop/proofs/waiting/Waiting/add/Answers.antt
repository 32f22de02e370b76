use Rattle.std.proofs.Common.{◌≡◌, ◌∙◌, subst, length}
use Rattle.vd_loop.specs.Replies.{IsReplyAdded}
use Rattle.vd_loop.proofs.Marks.{marked_more, added_more}
use Rattle.vd_loop.proofs.waiting.Waiting.add.Goals as goal

pub invariant_of-self-in-Ok : goal.invariant_of-self-in-Ok
invariant_of-self-in-Ok c =
    let stop : c.len.result ≡ length c.extend_from_slice.new.self.items = c.len.ensures ∙ c.extend_from_slice.new.self.ok.0 in
    marked_more _ c.self.invariant c.args.reply.now _ _ c.args.before c.len.result c.in_ok-extend_from_slice.ensures.items stop c.in-Ok.ensures.items

pub returns-in-Ok-clause-ok : goal.returns-in-Ok-clause-ok
returns-in-Ok-clause-ok c =
    let stop : c.len.result ≡ length c.extend_from_slice.new.self.items = c.len.ensures ∙ c.extend_from_slice.new.self.ok.0 in
    subst (λ old. IsReplyAdded c.args.reply.now c.args.before old (record { bytes = c.extend_from_slice.new.self.items; marks = c.push.new.self.items })) c.self.view_is
    (added_more _ c.self.invariant c.args.reply.now _ _ c.args.before c.len.result c.in_ok-extend_from_slice.ensures.items stop c.in-Ok.ensures.items)
