use Rattle.std.proofs.Common.{◌≡◌, ◌+◌, ◌∙◌, sym, ap, subst, [], ◌∷◌, ◌++◌}
use Rattle.vd_model.specs.Setting.{Setting}
use Rattle.vd_model.specs.History.{History, deeds_of, reply}
use Rattle.vd_model.specs.Replies.{reply_line}
use Rattle.vd_replies.specs.declared.printed.Printed.{Printed}
use Rattle.vd_engine.specs.Machine.{StandsFor}
use Rattle.vd_engine.specs.Image.{IsImage}
use Rattle.vd_top.specs.Executes.{failed_more}
use Rattle.vd_loop.specs.Replies.{Flushed}
use Rattle.vd_top.specs.Pictures.{shown}
use Rattle.vd_top.proofs.Answered.{holds_more, step_told}
use Rattle.vd_top.proofs.player.Player.play.Goals as goal

pub returns-in-Ok-play-clause-answered : goal.returns-in-Ok-play-clause-answered
returns-in-Ok-play-clause-answered g c =
    let engine : c.prepare.new.self.engine ≡ c.args.self.now.engine = c.prepare.ensures.engine ∙ c.clear.ensures.engine in
    let none : c.prepare.new.self.reply.bytes.items ≡ [] = ap (λ (r : Printed). r.bytes.items) c.prepare.ensures.reply ∙ c.in-Ok.ensures.none in
    let stood = λ (x : Setting) (h : History) (s : StandsFor x h c.args.self.now.engine). subst (StandsFor x h) (sym engine) s in
    step_told c.args.step.now c.args.lines c.in-Ok-play.failed c.args.self.now c.tell.new.self c.prepare.new.self.waiting c.play.new.told.bytes.items (g.K.Sink.held c.args.sink.now) (g.K.Sink.held c.prepare.new.sink)
    (g.I.Image.size c.args.disk.now) (shown g.I.Image.content g.I.Image.flushes c.args.disk.now) (shown g.I.Image.content g.I.Image.flushes c.play.new.disk)
    (subst (λ w. Flushed w c.prepare.new.self.waiting (g.K.Sink.held c.args.sink.now) (g.K.Sink.held c.prepare.new.sink)) c.clear.ensures.waiting c.in-Ok-prepare.ensures.flushed)
    c.in-Ok-prepare.ensures.alone
    (c.tell.ensures.failures ∙ ap (failed_more c.in-Ok-play.failed (c.args.lines + 1)) (c.prepare.ensures.failures ∙ c.clear.ensures.failures))
    (λ e. let q = c.in-Ok-play.ensures.only_execute e in (q.1, ap (shown g.I.Image.content g.I.Image.flushes) q.0))
    (λ x h s i.
    let goes = c.in-Ok-play.ensures.ok x h (stood x h s) i in
    record {
      says = goes.says ∙ ap (λ t. t ++ reply_line (reply x h c.args.step.now c.in-Ok-play.failed)) none;
      stands = subst (StandsFor x (record { step = c.args.step.now; failed = c.in-Ok-play.failed } ∷ h)) (sym c.tell.ensures.engine) goes.stands;
    })
    (λ x h first s r.
    holds_more x h c.args.step.now c.in-Ok-play.failed (g.I.Image.size c.args.disk.now) first (shown g.I.Image.content g.I.Image.flushes c.args.disk.now) (shown g.I.Image.content g.I.Image.flushes c.play.new.disk)
    c.play.ensures.flushes (c.in-Ok-play.ensures.flushed x h (stood x h s) r.image)
    (subst (λ n. IsImage x (deeds_of x (record { step = c.args.step.now; failed = c.in-Ok-play.failed } ∷ h)) n (g.I.Image.content c.play.new.disk)) c.play.ensures.size
    (c.in-Ok-play.ensures.image x h (stood x h s) r.image)) r)
    c.tell.result c.tell.ensures.added c.tell.ensures.kept c.tell.ensures.memory
