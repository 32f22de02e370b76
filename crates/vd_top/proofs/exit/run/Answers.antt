use Rattle.std.proofs.Common.{◌≡◌, ℕ, List, Some, length, ◌∙◌, refl, ap, subst, sym, arith}
use Rattle.vd_output.specs.Out.{good_lines}
use Rattle.vd_loop.specs.declared.progress.Stop.TheVariants.{SinkFailed}
use Rattle.vd_top.specs.Executes.{RoseBy}
use Rattle.vd_top.specs.Pictures.{shown, ImageAt}
use Rattle.vd_loop.specs.Replies.{Cut}
use Rattle.vd_loop.specs.Written.{Appended}
use Rattle.vd_loop.specs.Statuses.{is_status, stop_of_status}
use Rattle.vd_loop.specs.Statuses.{line_of, status_of}
use Rattle.vd_top.specs.Played.{Played}
use Rattle.vd_top.proofs.Failures.{failures_gone}
use Rattle.vd_top.proofs.Ends.{Ends, ends_by, ends_written, ends_sink, ends_cut, known_status, status_three, status_four}
use Rattle.vd_top.proofs.exit.run.Goals as goal

pub play-progress-requires-clause-disk : goal.play-progress-requires-clause-disk
play-progress-requires-clause-disk g c = sym (c.new-responder.ensures.sectors ∙ c.sectors.ensures.size)

pub returns-in-SinkFailed : goal.returns-in-SinkFailed
returns-in-SinkFailed g c =
    let e = c.ended in
    let status = e.ensures.status ∙ ap status_of c.in-SinkFailed.is in
    let fails : e.result.disk_failures ≡ c.play-progress.new.responder.player.failures.items = e.ensures.disk_failures ∙ c.from_vec-disk_failures.ensures ∙ c.end-waiting.ensures.failures in
    let ends : (text : List ℕ) → g.S.Source.left c.args.source.now ≡ Some text → Ends text (stop_of_status e.result.status) e.result.line e.result.lines_done e.result.disk_failures c.new-responder.result.player.engine (g.S.Source.left c.play-progress.new.source) (g.K.Sink.held c.args.sink.now) (g.K.Sink.held c.play-progress.new.sink) (g.I.Image.size c.args.disk.now) (shown g.I.Image.content g.I.Image.flushes c.args.disk.now) (shown g.I.Image.content g.I.Image.flushes c.play-progress.new.disk) =
    λ text told.
    let played = subst (λ s. Played text s c.play-progress.result.lines c.new-responder.result.player.engine c.play-progress.new.responder.player (g.S.Source.left c.play-progress.new.source) (g.K.Sink.held c.args.sink.now) (g.K.Sink.held c.play-progress.new.sink) (g.I.Image.size c.args.disk.now) (shown g.I.Image.content g.I.Image.flushes c.args.disk.now) (shown g.I.Image.content g.I.Image.flushes c.play-progress.new.disk)) c.in-SinkFailed.is (c.play-progress.ensures.played text told) in
    ends_by text SinkFailed c.play-progress.result.lines e.result c.play-progress.new.responder.player.failures.items c.new-responder.result.player.engine (g.S.Source.left c.play-progress.new.source) (g.K.Sink.held c.args.sink.now) (g.K.Sink.held c.play-progress.new.sink) (g.I.Image.size c.args.disk.now) (shown g.I.Image.content g.I.Image.flushes c.args.disk.now) (shown g.I.Image.content g.I.Image.flushes c.play-progress.new.disk)
    (e.ensures.stop ∙ c.in-SinkFailed.is) (e.ensures.line ∙ ap (λ s. line_of s c.play-progress.result.lines) c.in-SinkFailed.is) e.ensures.lines_done fails
    (ends_sink text c.play-progress.result.lines c.new-responder.result.player.engine c.play-progress.new.responder.player.failures.items (g.S.Source.left c.play-progress.new.source) (g.K.Sink.held c.args.sink.now) (g.K.Sink.held c.play-progress.new.sink) (g.I.Image.size c.args.disk.now) (shown g.I.Image.content g.I.Image.flushes c.args.disk.now) (shown g.I.Image.content g.I.Image.flushes c.play-progress.new.disk) played) in
    record {
      stopped = λ text told. (ends text told).stopped;
      written = λ x text sized sectors told image. (ends text told).written x (record { stands = c.new-responder.ensures.stands x sized (sectors ∙ sym c.sectors.ensures.size); image = image });
      image = λ x text sized told i.
          subst (λ n. ImageAt x text e.result.disk_failures (stop_of_status e.result.status) e.result.lines_done n (shown g.I.Image.content g.I.Image.flushes c.args.disk.now) (shown g.I.Image.content g.I.Image.flushes c.play-progress.new.disk)) (sym c.play-progress.ensures.size)
          ((ends text told).image x (c.new-responder.ensures.stands x sized (sym i.size ∙ sym c.sectors.ensures.size)) i);
      failures = λ text told. ((ends text told).numbers, (ends text told).early);
      untouched = λ text told none. (c.play-progress.ensures.untouched text told none, failures_gone (good_lines text) e.result.disk_failures (ends text told).numbers none);
      size = c.play-progress.ensures.size;
      counted = subst (λ l. RoseBy (length l) (g.I.Image.faults c.args.disk.now) (g.I.Image.faults c.play-progress.new.disk)) (sym fails) c.play-progress.ensures.counted;
      source_failed = λ three. absurd (omega (arith, status, three));
      sink_failed = λ four. c.play-progress.ensures.sink_failed c.in-SinkFailed.is;
      known = ap is_status status;
      no_line = e.ensures.no_line;
    }

pub returns-in-Ok : goal.returns-in-Ok
returns-in-Ok g c =
    let e = c.ended-in-Ok in
    let status = e.ensures.status in
    let fails : e.result.disk_failures ≡ c.play-progress.new.responder.player.failures.items = e.ensures.disk_failures ∙ c.from_vec-disk_failures.ensures ∙ c.end-waiting.ensures.failures in
    let ends : (text : List ℕ) → g.S.Source.left c.args.source.now ≡ Some text → Ends text (stop_of_status e.result.status) e.result.line e.result.lines_done e.result.disk_failures c.new-responder.result.player.engine (g.S.Source.left c.play-progress.new.source) (g.K.Sink.held c.args.sink.now) (g.K.Sink.held c.write.new.sink) (g.I.Image.size c.args.disk.now) (shown g.I.Image.content g.I.Image.flushes c.args.disk.now) (shown g.I.Image.content g.I.Image.flushes c.play-progress.new.disk) =
    λ text told.
    ends_by text c.play-progress.result.stop c.play-progress.result.lines e.result c.play-progress.new.responder.player.failures.items c.new-responder.result.player.engine (g.S.Source.left c.play-progress.new.source) (g.K.Sink.held c.args.sink.now) (g.K.Sink.held c.write.new.sink) (g.I.Image.size c.args.disk.now) (shown g.I.Image.content g.I.Image.flushes c.args.disk.now) (shown g.I.Image.content g.I.Image.flushes c.play-progress.new.disk)
    e.ensures.stop e.ensures.line e.ensures.lines_done fails
    (ends_written text c.play-progress.result.lines c.new-responder.result.player.engine c.play-progress.new.responder.player (g.S.Source.left c.play-progress.new.source) (g.K.Sink.held c.args.sink.now) (g.K.Sink.held c.play-progress.new.sink) (g.K.Sink.held c.write.new.sink) (g.I.Image.size c.args.disk.now) (shown g.I.Image.content g.I.Image.flushes c.args.disk.now) (shown g.I.Image.content g.I.Image.flushes c.play-progress.new.disk)
    (subst (λ w. Appended (g.K.Sink.held c.play-progress.new.sink) (g.K.Sink.held c.write.new.sink) w.bytes) c.end-waiting.ensures.waiting c.in-Ok.ensures.all)
    c.play-progress.result.stop c.in_default.not-SinkFailed (c.play-progress.ensures.played text told)) in
    record {
      stopped = λ text told. (ends text told).stopped;
      written = λ x text sized sectors told image. (ends text told).written x (record { stands = c.new-responder.ensures.stands x sized (sectors ∙ sym c.sectors.ensures.size); image = image });
      image = λ x text sized told i.
          subst (λ n. ImageAt x text e.result.disk_failures (stop_of_status e.result.status) e.result.lines_done n (shown g.I.Image.content g.I.Image.flushes c.args.disk.now) (shown g.I.Image.content g.I.Image.flushes c.play-progress.new.disk)) (sym c.play-progress.ensures.size)
          ((ends text told).image x (c.new-responder.ensures.stands x sized (sym i.size ∙ sym c.sectors.ensures.size)) i);
      failures = λ text told. ((ends text told).numbers, (ends text told).early);
      untouched = λ text told none. (c.play-progress.ensures.untouched text told none, failures_gone (good_lines text) e.result.disk_failures (ends text told).numbers none);
      size = c.play-progress.ensures.size;
      counted = subst (λ l. RoseBy (length l) (g.I.Image.faults c.args.disk.now) (g.I.Image.faults c.play-progress.new.disk)) (sym fails) c.play-progress.ensures.counted;
      source_failed = λ three. c.play-progress.ensures.source_failed (status_three c.play-progress.result.stop (sym status ∙ three));
      sink_failed = λ four. absurd (c.in_default.not-SinkFailed (status_four c.play-progress.result.stop (sym status ∙ four)));
      known = ap is_status status ∙ known_status c.play-progress.result.stop;
      no_line = e.ensures.no_line;
    }

pub returns : goal.returns
returns g c =
    let e = c.ended-in-Err in
    let status = e.ensures.status in
    let later = c.play-progress.ensures.sink_later in
    let rose = c.in-Err.ensures.failed refl in
    let fails : e.result.disk_failures ≡ c.play-progress.new.responder.player.failures.items = e.ensures.disk_failures ∙ c.from_vec-disk_failures.ensures ∙ c.end-waiting.ensures.failures in
    let ends : (text : List ℕ) → g.S.Source.left c.args.source.now ≡ Some text → Ends text (stop_of_status e.result.status) e.result.line e.result.lines_done e.result.disk_failures c.new-responder.result.player.engine (g.S.Source.left c.play-progress.new.source) (g.K.Sink.held c.args.sink.now) (g.K.Sink.held c.write.new.sink) (g.I.Image.size c.args.disk.now) (shown g.I.Image.content g.I.Image.flushes c.args.disk.now) (shown g.I.Image.content g.I.Image.flushes c.play-progress.new.disk) =
    λ text told.
    ends_by text SinkFailed c.in-Err.written e.result c.play-progress.new.responder.player.failures.items c.new-responder.result.player.engine (g.S.Source.left c.play-progress.new.source) (g.K.Sink.held c.args.sink.now) (g.K.Sink.held c.write.new.sink) (g.I.Image.size c.args.disk.now) (shown g.I.Image.content g.I.Image.flushes c.args.disk.now) (shown g.I.Image.content g.I.Image.flushes c.play-progress.new.disk)
    e.ensures.stop e.ensures.line e.ensures.lines_done fails
    (ends_cut text c.play-progress.result.lines c.new-responder.result.player.engine c.play-progress.new.responder.player (g.S.Source.left c.play-progress.new.source) (g.K.Sink.held c.args.sink.now) (g.K.Sink.held c.play-progress.new.sink) (g.K.Sink.held c.write.new.sink) (g.I.Image.size c.args.disk.now) (shown g.I.Image.content g.I.Image.flushes c.args.disk.now) (shown g.I.Image.content g.I.Image.flushes c.play-progress.new.disk) c.in-Err.written
    c.play-progress.result.stop c.in_default.not-SinkFailed (c.play-progress.ensures.played text told)
    (subst (λ w. Cut w c.in-Err.written (g.K.Sink.held c.play-progress.new.sink) (g.K.Sink.held c.write.new.sink)) c.end-waiting.ensures.waiting c.in-Err.ensures.front)) in
    record {
      stopped = λ text told. (ends text told).stopped;
      written = λ x text sized sectors told image. (ends text told).written x (record { stands = c.new-responder.ensures.stands x sized (sectors ∙ sym c.sectors.ensures.size); image = image });
      image = λ x text sized told i.
          subst (λ n. ImageAt x text e.result.disk_failures (stop_of_status e.result.status) e.result.lines_done n (shown g.I.Image.content g.I.Image.flushes c.args.disk.now) (shown g.I.Image.content g.I.Image.flushes c.play-progress.new.disk)) (sym c.play-progress.ensures.size)
          ((ends text told).image x (c.new-responder.ensures.stands x sized (sym i.size ∙ sym c.sectors.ensures.size)) i);
      failures = λ text told. ((ends text told).numbers, (ends text told).early);
      untouched = λ text told none. (c.play-progress.ensures.untouched text told none, failures_gone (good_lines text) e.result.disk_failures (ends text told).numbers none);
      size = c.play-progress.ensures.size;
      counted = subst (λ l. RoseBy (length l) (g.I.Image.faults c.args.disk.now) (g.I.Image.faults c.play-progress.new.disk)) (sym fails) c.play-progress.ensures.counted;
      source_failed = λ three. absurd (omega (arith, status, three));
      sink_failed = λ four. omega (arith, later, rose);
      known = ap is_status status ∙ known_status SinkFailed;
      no_line = e.ensures.no_line;
    }
