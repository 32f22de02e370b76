use Rattle.std.proofs.Common.{◌∙◌, codes, refl, map}
use Rattle.vd_model.specs.Replies.{item_text, first_word}
use Rattle.vd_replies.proofs.Spacing.{reply}
use Rattle.vd_replies.proofs.printed.PrintedHears.fields.Goals as goal

pub returns : goal.returns
unfolding first_word
returns c = c.push_reserved.ensures.items
    ∙ reply c.args.self.now.bytes.items c.put.new.into.items c.put_fields.new.into.items (codes "ok") (codes "ok") (map item_text c.args.fields.now) refl c.put.ensures.items c.put_fields.ensures.items
