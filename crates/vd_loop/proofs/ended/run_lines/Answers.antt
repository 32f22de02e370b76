use Rattle.std.proofs.Common.{ℕ, List, inl, inr, ap, subst, sym, ◌∙◌, arith}
use Rattle.vd_loop.specs.Statuses.{is_status, line_of, stop_of_status}
use Rattle.vd_loop.specs.Runs.{Ran}
use Rattle.vd_loop.proofs.Halts.{ran_finished, known_status}
use Rattle.vd_loop.proofs.ended.run_lines.Goals as goal

pub returns-clause-ran : goal.returns-clause-ran
returns-clause-ran g c =
    let answered = λ (d : List (List ℕ)) (r : List (List ℕ)). g.M.Machine.answered c.args.machine c.args.outside.now d r c.play-progress.new.session.machine c.play-progress.new.outside in
    let short = λ (d : List (List ℕ)) (r : List (List ℕ)) (l : List ℕ). g.M.Machine.short c.args.machine c.args.outside.now d r l c.play-progress.new.session.machine c.play-progress.new.outside in
    let ran = ran_finished g.M.Machine.reads g.M.Machine.alone answered short (g.S.Source.left c.args.source.now) c.play-progress.new.session.waiting (g.S.Source.left c.play-progress.new.source) (g.K.Sink.held c.args.sink.now)
    (g.K.Sink.held c.play-progress.new.sink) (g.K.Sink.held c.finish-last.new.sink) c.play-progress.result c.finish-last.result c.play-progress.ensures.played c.finish-last.ensures.finished in
    subst (λ s. Ran g.M.Machine.reads g.M.Machine.alone answered short (g.S.Source.left c.args.source.now) s c.end_of.result.line c.end_of.result.lines_done (g.S.Source.left c.play-progress.new.source) (g.K.Sink.held c.args.sink.now) (g.K.Sink.held c.finish-last.new.sink)) (sym c.end_of.ensures.stop)
    (subst (λ n. Ran g.M.Machine.reads g.M.Machine.alone answered short (g.S.Source.left c.args.source.now) c.finish-last.result.stop n c.end_of.result.lines_done (g.S.Source.left c.play-progress.new.source) (g.K.Sink.held c.args.sink.now) (g.K.Sink.held c.finish-last.new.sink)) (sym c.end_of.ensures.line)
    (subst (λ n. Ran g.M.Machine.reads g.M.Machine.alone answered short (g.S.Source.left c.args.source.now) c.finish-last.result.stop (line_of c.finish-last.result.stop c.finish-last.result.lines) n (g.S.Source.left c.play-progress.new.source) (g.K.Sink.held c.args.sink.now) (g.K.Sink.held c.finish-last.new.sink)) (sym c.end_of.ensures.lines_done) ran))

pub returns-clause-source_failed : goal.returns-clause-source_failed
returns-clause-source_failed g c = λ three. c.play-progress.ensures.source_failed (c.finish-last.ensures.source (sym c.end_of.ensures.stop ∙ ap stop_of_status three))

pub returns-clause-known : goal.returns-clause-known
returns-clause-known g c = ap is_status c.end_of.ensures.status ∙ known_status c.finish-last.result.stop

pub returns-clause-sink_failed : goal.returns-clause-sink_failed
returns-clause-sink_failed g c = λ four.
    let is = sym c.end_of.ensures.stop ∙ ap stop_of_status four in
    elim c.finish-last.ensures.finished [
      | inl w ↦ (let rose = c.play-progress.ensures.sink_failed w.0 in let later = c.finish-last.ensures.later in omega (arith, rose, later))
      | inr w ↦ (let rose = c.finish-last.ensures.failed is w.0 in let later = c.play-progress.ensures.sink_later in omega (arith, rose, later))
    ]
