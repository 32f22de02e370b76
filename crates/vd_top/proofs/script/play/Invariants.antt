use Rattle.std.proofs.Common.{ℕ, ◌≡◌, ◌≤◌, ◌+◌, ◌-◌, List, [], Some, length, false}
use Rattle.vd_engine.specs.Machine.{IsReached}
use Rattle.vd_top.specs.Pictures.{shown}
use Rattle.vd_top.specs.Executes.{executes, RoseBy}
use Rattle.vd_top.proofs.Halts.{Playing}
use Rattle.vd_top.proofs.script.play.Given as goal

abbrev pub invariant-loop-responder : goal.invariant-loop-responder
invariant-loop-responder g l = record {
  playing : (text : List ℕ) → g.S.Source.left l.fn.source ≡ Some text
      → Playing text l.lines l.fn.responder.player.engine l.responder.player l.reader (g.S.Source.left l.source) (g.K.Sink.held l.fn.sink) (g.K.Sink.held l.sink)
      (g.I.Image.size l.fn.disk) (shown g.I.Image.content g.I.Image.flushes l.fn.disk) (shown g.I.Image.content g.I.Image.flushes l.disk);
  untouched : (text : List ℕ) → g.S.Source.left l.fn.source ≡ Some text → executes text ≡ false → l.disk ≡ l.fn.disk;
  size : g.I.Image.size l.disk ≡ g.I.Image.size l.fn.disk;
  counted : RoseBy (length l.responder.player.failures.items) (g.I.Image.faults l.fn.disk) (g.I.Image.faults l.disk);
  reached : IsReached l.responder.player.engine;
  sectors : l.responder.player.engine.sectors ≡ l.fn.responder.player.engine.sectors;
  asked : l.responder.player.engine.asked ≤ l.lines;
  room : l.lines + (67108864 - l.reader.taken + length l.reader.pending) ≤ 67108864;
  taken : l.reader.taken ≤ 67108864;
  source : g.S.Source.faults l.fn.source ≤ g.S.Source.faults l.source;
  sink : g.K.Sink.faults l.fn.sink ≤ g.K.Sink.faults l.sink;
}

abbrev pub decreases-loop-responder : goal.decreases-loop-responder
decreases-loop-responder g l = 67108864 - l.reader.taken + length l.reader.pending
