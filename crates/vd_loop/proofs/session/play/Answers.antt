use Rattle.std.proofs.Common.{◌+◌, [], refl, ap, subst, sym, ◌∙◌, arith, length, Ok}
use Rattle.vd_lines.specs.Ahead.{Ahead}
use Rattle.vd_lines.proofs.Places.{at_first}
use Rattle.vd_loop.specs.declared.progress.Progress.{Progress}
use Rattle.vd_loop.specs.declared.progress.Stop.TheVariants.{End}
use Rattle.vd_loop.specs.Runs.{IsOut, Played}
use Rattle.vd_loop.proofs.Waits.{out_first}
use Rattle.vd_loop.proofs.Halts.{next_line, next_last, next_end, line_at, line_last, halt_end, halt_fault, halt_line, halt_last, halt_sink, go_on, go_flushed, Playing}
use Rattle.vd_loop.proofs.session.play.Goals as goal
use Rattle.vd_loop.proofs.session.play.Goals.{in-Err-answer, in-Ok}

pub loop-session-init : goal.loop-session-init
loop-session-init g c =
    let taken = ap (λ (a : Ahead). a.taken) c.new-reader.ensures in
    let pending = ap (λ (a : Ahead). length a.pending) c.new-reader.ensures in
    let none = c.requires.lines in
    record {
      playing = record {
        done = [];
        replies = [];
        out = subst (λ n. IsOut g.M.Machine.alone [] [] c.args.session.now.waiting n (g.K.Sink.held c.args.sink.now) (g.K.Sink.held c.args.sink.now)) (sym none)
            (out_first g.M.Machine.alone c.args.session.now.waiting (g.K.Sink.held c.args.sink.now) c.requires.waiting);
        run = c.requires.begins;
        good = λ text told. refl;
        at = λ text told. at_first text c.new-reader.result (g.S.Source.left c.args.source.now) c.new-reader.ensures told;
      };
      fits = subst (λ n. g.M.Machine.fits n c.args.session.now.machine c.args.outside.now) (sym none) c.requires.fits;
      room = omega (arith, taken, pending, none);
      taken = omega (arith, taken);
      source = omega arith;
      sink = omega arith;
    }

pub returns-in-Ok-End-clause-played : goal.returns-in-Ok-End-clause-played
returns-in-Ok-End-clause-played g c =
    let p = c.loop-session.invariant.playing in
    halt_end g.M.Machine.reads g.M.Machine.alone (g.S.Source.left c.args.source.now) c.loop-session.session.waiting c.loop-session.session.lines c.loop-session.reader (g.S.Source.left c.loop-session.source) (g.K.Sink.held c.args.sink.now) (g.K.Sink.held c.loop-session.sink)
    (λ d r. g.M.Machine.answered c.args.session.now.machine c.args.outside.now d r c.loop-session.session.machine c.loop-session.outside) p (λ d r l. g.M.Machine.short c.args.session.now.machine c.args.outside.now d r l c.loop-session.session.machine c.loop-session.outside) (g.S.Source.left c.advance.new.source)
    (λ text told. next_end text p.done c.advance.new.self (g.S.Source.left c.advance.new.source) c.in-Ok-End.field-0 c.in-Ok-End.field-0-is (c.in-Ok-End.ensures.next text p.done (p.at text told)))

pub returns-in-Err-clause-played : goal.returns-in-Err-clause-played
returns-in-Err-clause-played g c =
    let p = c.loop-session.invariant.playing in
    subst (λ s. Played g.M.Machine.reads g.M.Machine.alone (λ d r. g.M.Machine.answered c.args.session.now.machine c.args.outside.now d r c.loop-session.session.machine c.loop-session.outside) (λ d r l. g.M.Machine.short c.args.session.now.machine c.args.outside.now d r l c.loop-session.session.machine c.loop-session.outside) (g.S.Source.left c.args.source.now) s c.loop-session.session.waiting c.loop-session.session.lines (g.S.Source.left c.advance.new.source) (g.K.Sink.held c.args.sink.now) (g.K.Sink.held c.loop-session.sink)) (sym c.read_stop.ensures)
    (halt_fault g.M.Machine.reads g.M.Machine.alone (g.S.Source.left c.args.source.now) c.loop-session.session.waiting c.loop-session.session.lines c.loop-session.reader (g.S.Source.left c.loop-session.source) (g.K.Sink.held c.args.sink.now) (g.K.Sink.held c.loop-session.sink)
    (λ d r. g.M.Machine.answered c.args.session.now.machine c.args.outside.now d r c.loop-session.session.machine c.loop-session.outside) p (λ d r l. g.M.Machine.short c.args.session.now.machine c.args.outside.now d r l c.loop-session.session.machine c.loop-session.outside) c.in-Err.fault c.advance.new.self (g.S.Source.left c.advance.new.source)
    (λ text told. c.in-Err.ensures.next text p.done (p.at text told)))

pub returns-in-Ok-Last-clause-played : goal.returns-in-Ok-Last-clause-played
returns-in-Ok-Last-clause-played g c =
    let p = c.loop-session.invariant.playing in
    elim c.match-answer.branch [
      | in-Err-answer w ↦
          subst (λ (r : Progress). Played g.M.Machine.reads g.M.Machine.alone (λ d r. g.M.Machine.answered c.args.session.now.machine c.args.outside.now d r c.answer.new.session.machine c.answer.new.outside) (λ d r l. g.M.Machine.short c.args.session.now.machine c.args.outside.now d r l c.answer.new.session.machine c.answer.new.outside) (g.S.Source.left c.args.source.now) r.stop c.answer.new.session.waiting r.lines (g.S.Source.left c.advance.new.source) (g.K.Sink.held c.args.sink.now) (g.K.Sink.held c.answer.new.sink)) (sym w.result-is)
          (halt_line g.M.Machine.reads g.M.Machine.alone (g.S.Source.left c.args.source.now) c.loop-session.session.waiting c.loop-session.session.lines c.loop-session.reader (g.S.Source.left c.loop-session.source) (g.K.Sink.held c.args.sink.now) (g.K.Sink.held c.loop-session.sink)
          (λ d r. g.M.Machine.answered c.args.session.now.machine c.args.outside.now d r c.loop-session.session.machine c.loop-session.outside) (λ d r. g.M.Machine.answered c.args.session.now.machine c.args.outside.now d r c.answer.new.session.machine c.answer.new.outside) p c.line.result.now (g.M.Machine.told c.answer.new.session.machine) c.answer.new.session.waiting (g.K.Sink.held c.answer.new.sink)
          (λ d r l. g.M.Machine.short c.args.session.now.machine c.args.outside.now d r l c.answer.new.session.machine c.answer.new.outside) (g.S.Source.left c.advance.new.source) w.in-Err-answer.progress.stop w.in-Err-answer.progress.lines w.in-Err-answer.ensures.stopped (w.in-Err-answer.ensures.run c.args.session.now.machine c.args.outside.now p.done p.replies p.out.count p.run)
          (λ text told. line_last text p.done c.line.result.now (g.S.Source.left c.advance.new.source) (next_last text p.done c.advance.new.self (g.S.Source.left c.advance.new.source) c.in-Ok-Last.field-0 c.line.result.now c.in-Ok-Last.field-0-is c.line.ensures (c.in-Ok-Last.ensures.next text p.done (p.at text told)))))
      | in-Ok w ↦
          subst (λ (r : Progress). Played g.M.Machine.reads g.M.Machine.alone (λ d r. g.M.Machine.answered c.args.session.now.machine c.args.outside.now d r c.answer.new.session.machine c.answer.new.outside) (λ d r l. g.M.Machine.short c.args.session.now.machine c.args.outside.now d r l c.answer.new.session.machine c.answer.new.outside) (g.S.Source.left c.args.source.now) r.stop c.answer.new.session.waiting r.lines (g.S.Source.left c.advance.new.source) (g.K.Sink.held c.args.sink.now) (g.K.Sink.held c.answer.new.sink)) (sym w.result-is)
          (subst (λ n. Played g.M.Machine.reads g.M.Machine.alone (λ d r. g.M.Machine.answered c.args.session.now.machine c.args.outside.now d r c.answer.new.session.machine c.answer.new.outside) (λ d r l. g.M.Machine.short c.args.session.now.machine c.args.outside.now d r l c.answer.new.session.machine c.answer.new.outside) (g.S.Source.left c.args.source.now) End c.answer.new.session.waiting n (g.S.Source.left c.advance.new.source) (g.K.Sink.held c.args.sink.now) (g.K.Sink.held c.answer.new.sink)) (sym w.in-Ok.ensures.lines)
          (halt_last g.M.Machine.reads g.M.Machine.alone (g.S.Source.left c.args.source.now) c.loop-session.session.waiting c.loop-session.session.lines c.loop-session.reader (g.S.Source.left c.loop-session.source) (g.K.Sink.held c.args.sink.now) (g.K.Sink.held c.loop-session.sink)
          (λ d r. g.M.Machine.answered c.args.session.now.machine c.args.outside.now d r c.loop-session.session.machine c.loop-session.outside) (λ d r. g.M.Machine.answered c.args.session.now.machine c.args.outside.now d r c.answer.new.session.machine c.answer.new.outside) p c.line.result.now (g.M.Machine.told c.answer.new.session.machine) c.answer.new.session.waiting (g.K.Sink.held c.answer.new.sink)
          (λ d r l. g.M.Machine.short c.args.session.now.machine c.args.outside.now d r l c.answer.new.session.machine c.answer.new.outside) (g.S.Source.left c.advance.new.source) w.in-Ok.ensures.waits (w.in-Ok.ensures.run c.args.session.now.machine c.args.outside.now p.done p.replies p.out.count p.run) w.in-Ok.ensures.read
          (λ text told. next_last text p.done c.advance.new.self (g.S.Source.left c.advance.new.source) c.in-Ok-Last.field-0 c.line.result.now c.in-Ok-Last.field-0-is c.line.ensures (c.in-Ok-Last.ensures.next text p.done (p.at text told)))))
    ]

pub returns-in-Err-answer-2-clause-played : goal.returns-in-Err-answer-2-clause-played
returns-in-Err-answer-2-clause-played g c =
    let p = c.loop-session.invariant.playing in
    halt_line g.M.Machine.reads g.M.Machine.alone (g.S.Source.left c.args.source.now) c.loop-session.session.waiting c.loop-session.session.lines c.loop-session.reader (g.S.Source.left c.loop-session.source) (g.K.Sink.held c.args.sink.now) (g.K.Sink.held c.loop-session.sink)
    (λ d r. g.M.Machine.answered c.args.session.now.machine c.args.outside.now d r c.loop-session.session.machine c.loop-session.outside) (λ d r. g.M.Machine.answered c.args.session.now.machine c.args.outside.now d r c.answer-in-loop-session.new.session.machine c.answer-in-loop-session.new.outside) p c.line-in-loop-session.result.now (g.M.Machine.told c.answer-in-loop-session.new.session.machine) c.answer-in-loop-session.new.session.waiting (g.K.Sink.held c.answer-in-loop-session.new.sink)
    (λ d r l. g.M.Machine.short c.args.session.now.machine c.args.outside.now d r l c.answer-in-loop-session.new.session.machine c.answer-in-loop-session.new.outside) (g.S.Source.left c.advance.new.source) c.in-Err-answer-2.progress.stop c.in-Err-answer-2.progress.lines c.in-Err-answer-2.ensures.stopped (c.in-Err-answer-2.ensures.run c.args.session.now.machine c.args.outside.now p.done p.replies p.out.count p.run)
    (λ text told. let t = next_line text p.done c.advance.new.self (g.S.Source.left c.advance.new.source) c.in-Ok-Line.field-0 c.line-in-loop-session.result.now c.in-Ok-Line.field-0-is c.line-in-loop-session.ensures (c.in-Ok-Line.ensures.next text p.done (p.at text told)) in line_at text p.done c.line-in-loop-session.result.now (t.1, t.2))

pub returns-in-Err-flush-clause-played : goal.returns-in-Err-flush-clause-played
returns-in-Err-flush-clause-played g c =
    let p = c.loop-session.invariant.playing in
    let more = go_on g.M.Machine.reads g.M.Machine.alone (g.S.Source.left c.args.source.now) c.loop-session.session.waiting c.loop-session.session.lines c.loop-session.reader (g.S.Source.left c.loop-session.source) (g.K.Sink.held c.args.sink.now) (g.K.Sink.held c.loop-session.sink)
    (λ d r. g.M.Machine.answered c.args.session.now.machine c.args.outside.now d r c.loop-session.session.machine c.loop-session.outside) (λ d r. g.M.Machine.answered c.args.session.now.machine c.args.outside.now d r c.answer-in-loop-session.new.session.machine c.answer-in-loop-session.new.outside) p c.line-in-loop-session.result.now (g.M.Machine.told c.answer-in-loop-session.new.session.machine) c.answer-in-loop-session.new.session.waiting (g.K.Sink.held c.answer-in-loop-session.new.sink)
    c.advance.new.self (g.S.Source.left c.advance.new.source) c.in-Ok-answer.ensures.waits (c.in-Ok-answer.ensures.run c.args.session.now.machine c.args.outside.now p.done p.replies p.out.count p.run) c.in-Ok-answer.ensures.read
    (λ text told. next_line text p.done c.advance.new.self (g.S.Source.left c.advance.new.source) c.in-Ok-Line.field-0 c.line-in-loop-session.result.now c.in-Ok-Line.field-0-is c.line-in-loop-session.ensures (c.in-Ok-Line.ensures.next text p.done (p.at text told))) in
    halt_sink g.M.Machine.reads g.M.Machine.alone (g.S.Source.left c.args.source.now) c.answer-in-loop-session.new.session.waiting (c.loop-session.session.lines + 1) c.advance.new.self (g.S.Source.left c.advance.new.source) (g.K.Sink.held c.args.sink.now) (g.K.Sink.held c.answer-in-loop-session.new.sink)
    (λ d r. g.M.Machine.answered c.args.session.now.machine c.args.outside.now d r c.answer-in-loop-session.new.session.machine c.answer-in-loop-session.new.outside) more (g.K.Sink.held c.flush.new.sink) c.in-Err-flush.written c.in-Err-flush.ensures.front

pub loop-session-preserved : goal.loop-session-preserved
loop-session-preserved g c =
    let is_line = c.in-Ok-Line.is ∙ ap Ok c.in-Ok-Line.field-0-is in
    let less = c.advance.ensures.lines is_line in
    let small = c.advance.ensures.small is_line c.loop-session.invariant.taken in
    let room = c.loop-session.invariant.room in let before = c.loop-session.invariant.taken in
    let one = c.in-Ok-answer.ensures.lines in
    let source = c.loop-session.invariant.source in let source_later = c.advance.ensures.later in
    let sink = c.loop-session.invariant.sink in let sink_later = c.answer-in-loop-session.ensures.later in let flush_later = c.flush.ensures.later in
    let p = c.loop-session.invariant.playing in
    let more = go_on g.M.Machine.reads g.M.Machine.alone (g.S.Source.left c.args.source.now) c.loop-session.session.waiting c.loop-session.session.lines c.loop-session.reader (g.S.Source.left c.loop-session.source) (g.K.Sink.held c.args.sink.now) (g.K.Sink.held c.loop-session.sink)
    (λ d r. g.M.Machine.answered c.args.session.now.machine c.args.outside.now d r c.loop-session.session.machine c.loop-session.outside) (λ d r. g.M.Machine.answered c.args.session.now.machine c.args.outside.now d r c.answer-in-loop-session.new.session.machine c.answer-in-loop-session.new.outside) p c.line-in-loop-session.result.now (g.M.Machine.told c.answer-in-loop-session.new.session.machine) c.answer-in-loop-session.new.session.waiting (g.K.Sink.held c.answer-in-loop-session.new.sink)
    c.advance.new.self (g.S.Source.left c.advance.new.source) c.in-Ok-answer.ensures.waits (c.in-Ok-answer.ensures.run c.args.session.now.machine c.args.outside.now p.done p.replies p.out.count p.run) c.in-Ok-answer.ensures.read
    (λ text told. next_line text p.done c.advance.new.self (g.S.Source.left c.advance.new.source) c.in-Ok-Line.field-0 c.line-in-loop-session.result.now c.in-Ok-Line.field-0-is c.line-in-loop-session.ensures (c.in-Ok-Line.ensures.next text p.done (p.at text told))) in
    record {
      playing = subst (λ n. Playing g.M.Machine.reads g.M.Machine.alone (λ d r. g.M.Machine.answered c.args.session.now.machine c.args.outside.now d r c.answer-in-loop-session.new.session.machine c.answer-in-loop-session.new.outside) (g.S.Source.left c.args.source.now) c.flush.new.waiting n c.advance.new.self (g.S.Source.left c.advance.new.source) (g.K.Sink.held c.args.sink.now) (g.K.Sink.held c.flush.new.sink)) (sym one)
          (go_flushed g.M.Machine.reads g.M.Machine.alone (g.S.Source.left c.args.source.now) c.answer-in-loop-session.new.session.waiting (c.loop-session.session.lines + 1) c.advance.new.self (g.S.Source.left c.advance.new.source) (g.K.Sink.held c.args.sink.now) (g.K.Sink.held c.answer-in-loop-session.new.sink) (λ d r. g.M.Machine.answered c.args.session.now.machine c.args.outside.now d r c.answer-in-loop-session.new.session.machine c.answer-in-loop-session.new.outside) more (g.K.Sink.held c.flush.new.sink) c.flush.new.waiting c.in-Ok-flush.ensures.ok);
      fits = subst (λ n. g.M.Machine.fits n c.answer-in-loop-session.new.session.machine c.answer-in-loop-session.new.outside) (sym one) c.answer-in-loop-session.ensures.fits;
      room = omega (arith, room, less, small, before, one);
      taken = small;
      source = omega (arith, source, source_later);
      sink = omega (arith, sink, sink_later, flush_later);
    }
