use Rattle.std.proofs.Common.{◌≤◌, ◌+◌, ◌++◌, ◌∷◌, [], Ok, Err, refl, ap, subst, sym, ◌∙◌, arith, length}
use Rattle.vd_lines.specs.Ahead.{Ahead}
use Rattle.vd_lines.specs.IsAt.{IsNext, IsRead}
use Rattle.vd_lines.proofs.Places.{at_first}
use Rattle.vd_model.specs.Reading.{reading}
use Rattle.vd_top.specs.Pictures.{shown}
use Rattle.vd_loop.specs.declared.progress.Progress.{Progress}
use Rattle.vd_top.specs.Executes.{is_execute_line}
use Rattle.vd_top.specs.Played.{Answered, StoppedBy, Played}
use Rattle.vd_top.proofs.Plays.{so_first}
use Rattle.vd_top.proofs.Halts.{halt_end, halt_failed, halt_long, halt_memory, halt_line, halt_last, halt_sink, go_on, go_flushed, goes_quiet}
use Rattle.vd_top.proofs.script.play.Goals as goal
use Rattle.vd_top.proofs.script.play.Goals.{in-Err, in-Ok}

pub loop-responder-init : goal.loop-responder-init
loop-responder-init g c =
    let taken = ap (λ (a : Ahead). a.taken) c.new-reader.ensures in
    let pending = ap (λ (a : Ahead). length a.pending) c.new-reader.ensures in
    let asked = c.requires.asked in
    let none = ap length c.requires.failures in
    record {
      playing = λ text told. record {
        so = so_first text c.args.responder.now.player (g.K.Sink.held c.args.sink.now) (g.I.Image.size c.args.disk.now) (shown g.I.Image.content g.I.Image.flushes c.args.disk.now) c.requires.waiting c.requires.failures;
        at = at_first text c.new-reader.result (g.S.Source.left c.args.source.now) c.new-reader.ensures told;
      };
      untouched = λ text told none. refl;
      size = refl;
      counted = omega (arith, none);
      reached = c.requires.reached;
      sectors = refl;
      asked = omega (arith, asked);
      room = omega (arith, taken, pending);
      taken = omega (arith, taken);
      source = omega arith;
      sink = omega arith;
    }

pub returns-in-Ok-End-clause-played : goal.returns-in-Ok-End-clause-played
returns-in-Ok-End-clause-played g c = λ text told.
    let p = c.loop-responder.invariant.playing text told in
    halt_end text c.loop-responder.lines c.args.responder.now.player.engine c.loop-responder.responder.player c.loop-responder.reader (g.S.Source.left c.loop-responder.source) (g.K.Sink.held c.args.sink.now) (g.K.Sink.held c.loop-responder.sink) (g.I.Image.size c.args.disk.now) (shown g.I.Image.content g.I.Image.flushes c.args.disk.now) (shown g.I.Image.content g.I.Image.flushes c.loop-responder.disk) p (g.S.Source.left c.advance.new.source)
    (subst (λ n. IsNext text p.so.done c.advance.new.self (g.S.Source.left c.advance.new.source) (Ok n)) c.in-Ok-End.field-0-is (c.in-Ok-End.ensures.next text p.so.done p.at))

pub returns-in-Err-Failed-clause-played : goal.returns-in-Err-Failed-clause-played
returns-in-Err-Failed-clause-played g c = λ text told.
    let p = c.loop-responder.invariant.playing text told in
    halt_failed text c.loop-responder.lines c.args.responder.now.player.engine c.loop-responder.responder.player c.loop-responder.reader (g.S.Source.left c.loop-responder.source) (g.K.Sink.held c.args.sink.now) (g.K.Sink.held c.loop-responder.sink) (g.I.Image.size c.args.disk.now) (shown g.I.Image.content g.I.Image.flushes c.args.disk.now) (shown g.I.Image.content g.I.Image.flushes c.loop-responder.disk) p (g.S.Source.left c.advance.new.source)
    (subst (λ n. IsNext text p.so.done c.advance.new.self (g.S.Source.left c.advance.new.source) (Err n)) c.in-Err-Failed.field-0-is (c.in-Err-Failed.ensures.next text p.so.done p.at))

pub returns-in-Err-TooLong-clause-played : goal.returns-in-Err-TooLong-clause-played
returns-in-Err-TooLong-clause-played g c = λ text told.
    let p = c.loop-responder.invariant.playing text told in
    halt_long text c.loop-responder.lines c.args.responder.now.player.engine c.loop-responder.responder.player c.loop-responder.reader (g.S.Source.left c.loop-responder.source) (g.K.Sink.held c.args.sink.now) (g.K.Sink.held c.loop-responder.sink) (g.I.Image.size c.args.disk.now) (shown g.I.Image.content g.I.Image.flushes c.args.disk.now) (shown g.I.Image.content g.I.Image.flushes c.loop-responder.disk) p (g.S.Source.left c.advance.new.source)
    (subst (λ n. IsNext text p.so.done c.advance.new.self (g.S.Source.left c.advance.new.source) (Err n)) c.in-Err-TooLong.field-0-is (c.in-Err-TooLong.ensures.next text p.so.done p.at))

pub returns-in-Err-Memory-clause-played : goal.returns-in-Err-Memory-clause-played
returns-in-Err-Memory-clause-played g c = λ text told.
    let p = c.loop-responder.invariant.playing text told in
    halt_memory text c.loop-responder.lines c.args.responder.now.player.engine c.loop-responder.responder.player c.loop-responder.reader (g.S.Source.left c.loop-responder.source) (g.K.Sink.held c.args.sink.now) (g.K.Sink.held c.loop-responder.sink) (g.I.Image.size c.args.disk.now) (shown g.I.Image.content g.I.Image.flushes c.args.disk.now) (shown g.I.Image.content g.I.Image.flushes c.loop-responder.disk) p (g.S.Source.left c.advance.new.source)

pub returns-in-Ok-Last-clause-played : goal.returns-in-Ok-Last-clause-played
returns-in-Ok-Last-clause-played g c = λ text told.
    let p = c.loop-responder.invariant.playing text told in
    let next : IsRead text (p.so.done ++ c.advance.new.self.line ∷ []) (g.S.Source.left c.advance.new.source) × (length c.advance.new.self.line ≤ 65536) =
    subst (λ n. IsNext text p.so.done c.advance.new.self (g.S.Source.left c.advance.new.source) (Ok n)) c.in-Ok-Last.field-0-is (c.in-Ok-Last.ensures.next text p.so.done p.at) in
    elim c.match-answer.branch [
      | in-Err w ↦
          subst (λ (r : Progress). Played text r.stop r.lines c.args.responder.now.player.engine c.answer.new.self.player (g.S.Source.left c.advance.new.source) (g.K.Sink.held c.args.sink.now) (g.K.Sink.held c.answer.new.sink) (g.I.Image.size c.args.disk.now) (shown g.I.Image.content g.I.Image.flushes c.args.disk.now) (shown g.I.Image.content g.I.Image.flushes c.answer.new.disk)) (sym w.result-is)
          (halt_line text c.loop-responder.lines c.args.responder.now.player.engine c.loop-responder.responder.player c.loop-responder.reader (g.S.Source.left c.loop-responder.source) (g.K.Sink.held c.args.sink.now) (g.K.Sink.held c.loop-responder.sink) (g.I.Image.size c.args.disk.now) (shown g.I.Image.content g.I.Image.flushes c.args.disk.now) (shown g.I.Image.content g.I.Image.flushes c.loop-responder.disk) p c.advance.new.self.line [] w.in-Err.progress.stop w.in-Err.progress.lines c.answer.new.self.player (g.S.Source.left c.advance.new.source) (g.K.Sink.held c.answer.new.sink) (shown g.I.Image.content g.I.Image.flushes c.answer.new.disk) next.0.lines_are next.1
          (subst (λ l. StoppedBy w.in-Err.progress.stop w.in-Err.progress.lines (reading l) c.loop-responder.lines c.loop-responder.responder.player c.answer.new.self.player (g.K.Sink.held c.loop-responder.sink) (g.K.Sink.held c.answer.new.sink) (g.I.Image.size c.args.disk.now) (shown g.I.Image.content g.I.Image.flushes c.loop-responder.disk) (shown g.I.Image.content g.I.Image.flushes c.answer.new.disk)) c.line.ensures
          (subst (λ n. StoppedBy w.in-Err.progress.stop w.in-Err.progress.lines (reading c.line.result.now) c.loop-responder.lines c.loop-responder.responder.player c.answer.new.self.player (g.K.Sink.held c.loop-responder.sink) (g.K.Sink.held c.answer.new.sink) n (shown g.I.Image.content g.I.Image.flushes c.loop-responder.disk) (shown g.I.Image.content g.I.Image.flushes c.answer.new.disk)) c.loop-responder.invariant.size w.in-Err.ensures.answered)))
      | in-Ok w ↦
          subst (λ (r : Progress). Played text r.stop r.lines c.args.responder.now.player.engine c.answer.new.self.player (g.S.Source.left c.advance.new.source) (g.K.Sink.held c.args.sink.now) (g.K.Sink.held c.answer.new.sink) (g.I.Image.size c.args.disk.now) (shown g.I.Image.content g.I.Image.flushes c.args.disk.now) (shown g.I.Image.content g.I.Image.flushes c.answer.new.disk)) (sym w.result-is)
          (halt_last text c.loop-responder.lines c.args.responder.now.player.engine c.loop-responder.responder.player c.loop-responder.reader (g.S.Source.left c.loop-responder.source) (g.K.Sink.held c.args.sink.now) (g.K.Sink.held c.loop-responder.sink) (g.I.Image.size c.args.disk.now) (shown g.I.Image.content g.I.Image.flushes c.args.disk.now) (shown g.I.Image.content g.I.Image.flushes c.loop-responder.disk) p c.advance.new.self.line c.answer.new.self.player (g.S.Source.left c.advance.new.source) (g.K.Sink.held c.answer.new.sink) (shown g.I.Image.content g.I.Image.flushes c.answer.new.disk) next.0 next.1
          (subst (λ l. Answered (reading l) c.loop-responder.lines c.loop-responder.responder.player c.answer.new.self.player (g.K.Sink.held c.loop-responder.sink) (g.K.Sink.held c.answer.new.sink) (g.I.Image.size c.args.disk.now) (shown g.I.Image.content g.I.Image.flushes c.loop-responder.disk) (shown g.I.Image.content g.I.Image.flushes c.answer.new.disk)) c.line.ensures
          (subst (λ n. Answered (reading c.line.result.now) c.loop-responder.lines c.loop-responder.responder.player c.answer.new.self.player (g.K.Sink.held c.loop-responder.sink) (g.K.Sink.held c.answer.new.sink) n (shown g.I.Image.content g.I.Image.flushes c.loop-responder.disk) (shown g.I.Image.content g.I.Image.flushes c.answer.new.disk)) c.loop-responder.invariant.size w.in-Ok.ensures.answered)))
    ]

pub returns-in-Ok-Last-clause-untouched : goal.returns-in-Ok-Last-clause-untouched
returns-in-Ok-Last-clause-untouched g c = λ text told none.
    let p = c.loop-responder.invariant.playing text told in
    let next : IsRead text (p.so.done ++ c.advance.new.self.line ∷ []) (g.S.Source.left c.advance.new.source) × (length c.advance.new.self.line ≤ 65536) =
    subst (λ n. IsNext text p.so.done c.advance.new.self (g.S.Source.left c.advance.new.source) (Ok n)) c.in-Ok-Last.field-0-is (c.in-Ok-Last.ensures.next text p.so.done p.at) in
    c.answer.ensures.only_execute (ap is_execute_line c.line.ensures ∙ goes_quiet text c.loop-responder.lines c.args.responder.now.player.engine c.loop-responder.responder.player c.loop-responder.reader (g.S.Source.left c.loop-responder.source) (g.K.Sink.held c.args.sink.now) (g.K.Sink.held c.loop-responder.sink) (g.I.Image.size c.args.disk.now) (shown g.I.Image.content g.I.Image.flushes c.args.disk.now) (shown g.I.Image.content g.I.Image.flushes c.loop-responder.disk) p c.advance.new.self.line [] next.0.lines_are next.1 none)
    ∙ c.loop-responder.invariant.untouched text told none

pub returns-in-Err-answer-clause-played : goal.returns-in-Err-answer-clause-played
returns-in-Err-answer-clause-played g c = λ text told.
    let p = c.loop-responder.invariant.playing text told in
    let next = subst (λ n. IsNext text p.so.done c.advance.new.self (g.S.Source.left c.advance.new.source) (Ok n)) c.in-Ok-Line.field-0-is (c.in-Ok-Line.ensures.next text p.so.done p.at) in
    halt_line text c.loop-responder.lines c.args.responder.now.player.engine c.loop-responder.responder.player c.loop-responder.reader (g.S.Source.left c.loop-responder.source) (g.K.Sink.held c.args.sink.now) (g.K.Sink.held c.loop-responder.sink) (g.I.Image.size c.args.disk.now) (shown g.I.Image.content g.I.Image.flushes c.args.disk.now) (shown g.I.Image.content g.I.Image.flushes c.loop-responder.disk) p c.advance.new.self.line next.1.after c.in-Err-answer.progress.stop c.in-Err-answer.progress.lines c.answer-in-loop-responder.new.self.player (g.S.Source.left c.advance.new.source) (g.K.Sink.held c.answer-in-loop-responder.new.sink) (shown g.I.Image.content g.I.Image.flushes c.answer-in-loop-responder.new.disk) next.1.lines_are next.2
    (subst (λ l. StoppedBy c.in-Err-answer.progress.stop c.in-Err-answer.progress.lines (reading l) c.loop-responder.lines c.loop-responder.responder.player c.answer-in-loop-responder.new.self.player (g.K.Sink.held c.loop-responder.sink) (g.K.Sink.held c.answer-in-loop-responder.new.sink) (g.I.Image.size c.args.disk.now) (shown g.I.Image.content g.I.Image.flushes c.loop-responder.disk) (shown g.I.Image.content g.I.Image.flushes c.answer-in-loop-responder.new.disk)) c.line-in-loop-responder.ensures
    (subst (λ n. StoppedBy c.in-Err-answer.progress.stop c.in-Err-answer.progress.lines (reading c.line-in-loop-responder.result.now) c.loop-responder.lines c.loop-responder.responder.player c.answer-in-loop-responder.new.self.player (g.K.Sink.held c.loop-responder.sink) (g.K.Sink.held c.answer-in-loop-responder.new.sink) n (shown g.I.Image.content g.I.Image.flushes c.loop-responder.disk) (shown g.I.Image.content g.I.Image.flushes c.answer-in-loop-responder.new.disk)) c.loop-responder.invariant.size c.in-Err-answer.ensures.answered))

pub returns-in-Err-answer-clause-untouched : goal.returns-in-Err-answer-clause-untouched
returns-in-Err-answer-clause-untouched g c = λ text told none.
    let p = c.loop-responder.invariant.playing text told in
    let next = subst (λ n. IsNext text p.so.done c.advance.new.self (g.S.Source.left c.advance.new.source) (Ok n)) c.in-Ok-Line.field-0-is (c.in-Ok-Line.ensures.next text p.so.done p.at) in
    c.answer-in-loop-responder.ensures.only_execute (ap is_execute_line c.line-in-loop-responder.ensures ∙ goes_quiet text c.loop-responder.lines c.args.responder.now.player.engine c.loop-responder.responder.player c.loop-responder.reader (g.S.Source.left c.loop-responder.source) (g.K.Sink.held c.args.sink.now) (g.K.Sink.held c.loop-responder.sink) (g.I.Image.size c.args.disk.now) (shown g.I.Image.content g.I.Image.flushes c.args.disk.now) (shown g.I.Image.content g.I.Image.flushes c.loop-responder.disk) p c.advance.new.self.line next.1.after next.1.lines_are next.2 none)
    ∙ c.loop-responder.invariant.untouched text told none

pub returns-in-Err-flush-clause-played : goal.returns-in-Err-flush-clause-played
returns-in-Err-flush-clause-played g c = λ text told.
    let p = c.loop-responder.invariant.playing text told in
    let next = subst (λ n. IsNext text p.so.done c.advance.new.self (g.S.Source.left c.advance.new.source) (Ok n)) c.in-Ok-Line.field-0-is (c.in-Ok-Line.ensures.next text p.so.done p.at) in
    let more = go_on text c.loop-responder.lines c.args.responder.now.player.engine c.loop-responder.responder.player c.loop-responder.reader (g.S.Source.left c.loop-responder.source) (g.K.Sink.held c.args.sink.now) (g.K.Sink.held c.loop-responder.sink) (g.I.Image.size c.args.disk.now) (shown g.I.Image.content g.I.Image.flushes c.args.disk.now) (shown g.I.Image.content g.I.Image.flushes c.loop-responder.disk) p c.advance.new.self.line c.answer-in-loop-responder.new.self.player c.advance.new.self (g.S.Source.left c.advance.new.source) (g.K.Sink.held c.answer-in-loop-responder.new.sink) (shown g.I.Image.content g.I.Image.flushes c.answer-in-loop-responder.new.disk) next
    (subst (λ l. Answered (reading l) c.loop-responder.lines c.loop-responder.responder.player c.answer-in-loop-responder.new.self.player (g.K.Sink.held c.loop-responder.sink) (g.K.Sink.held c.answer-in-loop-responder.new.sink) (g.I.Image.size c.args.disk.now) (shown g.I.Image.content g.I.Image.flushes c.loop-responder.disk) (shown g.I.Image.content g.I.Image.flushes c.answer-in-loop-responder.new.disk)) c.line-in-loop-responder.ensures
    (subst (λ n. Answered (reading c.line-in-loop-responder.result.now) c.loop-responder.lines c.loop-responder.responder.player c.answer-in-loop-responder.new.self.player (g.K.Sink.held c.loop-responder.sink) (g.K.Sink.held c.answer-in-loop-responder.new.sink) n (shown g.I.Image.content g.I.Image.flushes c.loop-responder.disk) (shown g.I.Image.content g.I.Image.flushes c.answer-in-loop-responder.new.disk)) c.loop-responder.invariant.size c.in-Ok-answer.ensures.answered)) in
    halt_sink text (c.loop-responder.lines + 1) c.args.responder.now.player.engine c.answer-in-loop-responder.new.self.player c.advance.new.self (g.S.Source.left c.advance.new.source) (g.K.Sink.held c.args.sink.now) (g.K.Sink.held c.answer-in-loop-responder.new.sink) (g.I.Image.size c.args.disk.now) (shown g.I.Image.content g.I.Image.flushes c.args.disk.now) (shown g.I.Image.content g.I.Image.flushes c.answer-in-loop-responder.new.disk) more (g.K.Sink.held c.flush.new.sink) c.in-Err-flush.written c.in-Err-flush.ensures.front

pub returns-in-Err-flush-clause-untouched : goal.returns-in-Err-flush-clause-untouched
returns-in-Err-flush-clause-untouched g c = λ text told none.
    let p = c.loop-responder.invariant.playing text told in
    let next = subst (λ n. IsNext text p.so.done c.advance.new.self (g.S.Source.left c.advance.new.source) (Ok n)) c.in-Ok-Line.field-0-is (c.in-Ok-Line.ensures.next text p.so.done p.at) in
    c.answer-in-loop-responder.ensures.only_execute (ap is_execute_line c.line-in-loop-responder.ensures ∙ goes_quiet text c.loop-responder.lines c.args.responder.now.player.engine c.loop-responder.responder.player c.loop-responder.reader (g.S.Source.left c.loop-responder.source) (g.K.Sink.held c.args.sink.now) (g.K.Sink.held c.loop-responder.sink) (g.I.Image.size c.args.disk.now) (shown g.I.Image.content g.I.Image.flushes c.args.disk.now) (shown g.I.Image.content g.I.Image.flushes c.loop-responder.disk) p c.advance.new.self.line next.1.after next.1.lines_are next.2 none)
    ∙ c.loop-responder.invariant.untouched text told none

pub loop-responder-preserved : goal.loop-responder-preserved
loop-responder-preserved g c =
    let is_line = c.in-Ok-Line.is ∙ ap Ok c.in-Ok-Line.field-0-is in
    let less = c.advance.ensures.lines is_line in
    let small = c.advance.ensures.small is_line c.loop-responder.invariant.taken in
    let room = c.loop-responder.invariant.room in let before = c.loop-responder.invariant.taken in
    let asked = c.loop-responder.invariant.asked in let one = c.answer-in-loop-responder.ensures.asked in
    let source = c.loop-responder.invariant.source in let source_later = c.advance.ensures.later in
    let sink = c.loop-responder.invariant.sink in let sink_later = c.answer-in-loop-responder.ensures.later in let flush_later = c.flush.ensures.later in
    record {
      playing = λ text told.
          let p = c.loop-responder.invariant.playing text told in
          let next = subst (λ n. IsNext text p.so.done c.advance.new.self (g.S.Source.left c.advance.new.source) (Ok n)) c.in-Ok-Line.field-0-is (c.in-Ok-Line.ensures.next text p.so.done p.at) in
          let more = go_on text c.loop-responder.lines c.args.responder.now.player.engine c.loop-responder.responder.player c.loop-responder.reader (g.S.Source.left c.loop-responder.source) (g.K.Sink.held c.args.sink.now) (g.K.Sink.held c.loop-responder.sink) (g.I.Image.size c.args.disk.now) (shown g.I.Image.content g.I.Image.flushes c.args.disk.now) (shown g.I.Image.content g.I.Image.flushes c.loop-responder.disk) p c.advance.new.self.line c.answer-in-loop-responder.new.self.player c.advance.new.self (g.S.Source.left c.advance.new.source) (g.K.Sink.held c.answer-in-loop-responder.new.sink) (shown g.I.Image.content g.I.Image.flushes c.answer-in-loop-responder.new.disk) next
          (subst (λ l. Answered (reading l) c.loop-responder.lines c.loop-responder.responder.player c.answer-in-loop-responder.new.self.player (g.K.Sink.held c.loop-responder.sink) (g.K.Sink.held c.answer-in-loop-responder.new.sink) (g.I.Image.size c.args.disk.now) (shown g.I.Image.content g.I.Image.flushes c.loop-responder.disk) (shown g.I.Image.content g.I.Image.flushes c.answer-in-loop-responder.new.disk)) c.line-in-loop-responder.ensures
          (subst (λ n. Answered (reading c.line-in-loop-responder.result.now) c.loop-responder.lines c.loop-responder.responder.player c.answer-in-loop-responder.new.self.player (g.K.Sink.held c.loop-responder.sink) (g.K.Sink.held c.answer-in-loop-responder.new.sink) n (shown g.I.Image.content g.I.Image.flushes c.loop-responder.disk) (shown g.I.Image.content g.I.Image.flushes c.answer-in-loop-responder.new.disk)) c.loop-responder.invariant.size c.in-Ok-answer.ensures.answered)) in
          go_flushed text (c.loop-responder.lines + 1) c.args.responder.now.player.engine c.answer-in-loop-responder.new.self.player c.advance.new.self (g.S.Source.left c.advance.new.source) (g.K.Sink.held c.args.sink.now) (g.K.Sink.held c.answer-in-loop-responder.new.sink) (g.I.Image.size c.args.disk.now) (shown g.I.Image.content g.I.Image.flushes c.args.disk.now) (shown g.I.Image.content g.I.Image.flushes c.answer-in-loop-responder.new.disk) more (g.K.Sink.held c.flush.new.sink) c.flush.new.waiting c.in-Ok-flush.ensures.ok;
      untouched = λ text told none.
          let p = c.loop-responder.invariant.playing text told in
          let next = subst (λ n. IsNext text p.so.done c.advance.new.self (g.S.Source.left c.advance.new.source) (Ok n)) c.in-Ok-Line.field-0-is (c.in-Ok-Line.ensures.next text p.so.done p.at) in
          c.answer-in-loop-responder.ensures.only_execute (ap is_execute_line c.line-in-loop-responder.ensures ∙ goes_quiet text c.loop-responder.lines c.args.responder.now.player.engine c.loop-responder.responder.player c.loop-responder.reader (g.S.Source.left c.loop-responder.source) (g.K.Sink.held c.args.sink.now) (g.K.Sink.held c.loop-responder.sink) (g.I.Image.size c.args.disk.now) (shown g.I.Image.content g.I.Image.flushes c.args.disk.now) (shown g.I.Image.content g.I.Image.flushes c.loop-responder.disk) p c.advance.new.self.line next.1.after next.1.lines_are next.2 none)
          ∙ c.loop-responder.invariant.untouched text told none;
      size = c.answer-in-loop-responder.ensures.size ∙ c.loop-responder.invariant.size;
      counted = c.answer-in-loop-responder.ensures.counted _ c.loop-responder.invariant.counted;
      reached = c.answer-in-loop-responder.ensures.reached;
      sectors = c.answer-in-loop-responder.ensures.sectors ∙ c.loop-responder.invariant.sectors;
      asked = omega (arith, asked, one);
      room = omega (arith, room, less, small, before);
      taken = small;
      source = omega (arith, source, source_later);
      sink = omega (arith, sink, sink_later, flush_later);
    }
