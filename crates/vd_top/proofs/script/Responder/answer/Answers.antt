use Rattle.std.proofs.Common.{◌≡◌, refl, sym, subst, None, Some}
use Rattle.vd_model.specs.Reading.{reading}
use Rattle.vd_top.specs.Pictures.{shown}
use Rattle.vd_top.specs.Played.{Says, Answered}
use Rattle.vd_top.proofs.Plays.{flushed_same}
use Rattle.vd_top.proofs.Answered.{answered_nothing}
use Rattle.vd_top.proofs.script.Responder.answer.Goals as goal

pub returns-in-Ok-Bad-clause-answered : goal.returns-in-Ok-Bad-clause-answered
returns-in-Ok-Bad-clause-answered g c =
    let is : reading c.args.line.now ≡ None = subst (λ l. Says l (reading c.args.line.now)) c.in-Ok-Bad.field-0-is c.in-Ok-Bad.ensures in
    (refl, is, flushed_same c.args.self.now.player.waiting (g.K.Sink.held c.args.sink.now), record { failures = refl; image = refl })

pub returns-in-Ok-Nothing-clause-answered : goal.returns-in-Ok-Nothing-clause-answered
returns-in-Ok-Nothing-clause-answered g c =
    let is : reading c.args.line.now ≡ Some None = subst (λ l. Says l (reading c.args.line.now)) c.in-Ok-Nothing.field-0-is c.in-Ok-Nothing.ensures in
    subst (λ read. Answered read c.args.lines c.args.self.now.player c.args.self.now.player (g.K.Sink.held c.args.sink.now) (g.K.Sink.held c.args.sink.now)
    (g.I.Image.size c.args.disk.now) (shown g.I.Image.content g.I.Image.flushes c.args.disk.now) (shown g.I.Image.content g.I.Image.flushes c.args.disk.now)) (sym is)
    (answered_nothing c.args.lines c.args.self.now.player (g.K.Sink.held c.args.sink.now) (g.I.Image.size c.args.disk.now) (shown g.I.Image.content g.I.Image.flushes c.args.disk.now))
