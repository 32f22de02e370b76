use Rattle.std.proofs.Common.{◌≡◌, ◌≢◌, [], List, ℕ, false}
use Rattle.vd_loop.specs.declared.progress.Stop.TheVariants.{SinkFailed}
use Rattle.vd_loop.specs.Statuses.{stop_of_status}
use Rattle.vd_loop.proofs.Outs.{text_stops, text_writes}
use Rattle.vd_output.specs.Out.{good_lines_in}
use Rattle.vd_vhost_model.specs.VhostOut.{vhost_output}
use Rattle.vd_vhost_top.specs.Answered.{is_bus_line}
use Rattle.vd_vhost_top.proofs.Ends.{nothing}
use Rattle.vd_vhost_top.proofs.Lines.{output_grows, output_none, same}
use Rattle.vd_vhost_top.proofs.top.run.Goals as goal

pub returns-in-Ok-clause-stopped : goal.returns-in-Ok-clause-stopped
returns-in-Ok-clause-stopped g c = λ text told. text_stops is_bus_line _ _ _ _ (stop_of_status c.run_lines.result.1.status) c.run_lines.result.1.line c.run_lines.result.1.lines_done _ _ _ c.run_lines.ensures.ran text told

pub returns-in-Ok-clause-written : goal.returns-in-Ok-clause-written
returns-in-Ok-clause-written g c = λ text told.
    let ran = c.run_lines.ensures.ran in
    let stop = stop_of_status c.run_lines.result.1.status in
    text_writes is_bus_line _ _ _ _ stop c.run_lines.result.1.line c.run_lines.result.1.lines_done _ _ _ ran text told (vhost_output c.args.bytes [])
    (same c.args.bytes c.in-Ok.machine.lines.bus c.run_lines.result.0.lines.bus c.in-Ok.ensures ran.done ran.replies ran.each (stop ≢ SinkFailed) ran.carried stop ran.reached)
    (output_grows c.args.bytes)

pub returns-in-Err-clause-written : goal.returns-in-Err-clause-written
returns-in-Err-clause-written g c = λ text told. nothing (vhost_output c.args.bytes []) (good_lines_in is_bus_line text) (g.K.Sink.held c.args.sink.now) (output_none c.args.bytes)
