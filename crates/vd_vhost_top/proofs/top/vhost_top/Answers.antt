use Rattle.std.proofs.Common.{◌≡◌, ◌⊎◌, ap, sym, subst, take}
use Rattle.vd_loop.specs.declared.exit.Exit.{Exit}
use Rattle.vd_output.specs.Out.{good_lines_in}
use Rattle.vd_vhost_top.specs.Answered.{is_bus_line}
use Rattle.vd_vhost_top.proofs.Ends.{complete}
use Rattle.vd_vhost_top.proofs.Lines.{promise}
use Rattle.vd_vhost_top.proofs.top.vhost_top.Goals as goal

pub returns-in-Some-clause-promise : goal.returns-in-Some-clause-promise
returns-in-Some-clause-promise g c = λ size text n given. promise size (take n (good_lines_in is_bus_line text))

pub returns-in-Some-clause-complete : goal.returns-in-Some-clause-complete
returns-in-Some-clause-complete g c = λ size text given whole source sink.
    let ended = c.run.result in
    subst (λ s. (s ≡ 0) ⊎ (s ≡ 5)) (sym (ap (λ (e : Exit). e.status) c.of_run.ensures))
    (complete is_bus_line text ended.status ended.line ended.lines_done (g.S.Source.left c.run.new.source) c.run.ensures.known (c.run.ensures.stopped text given.told) whole
    (λ three. source (c.run.ensures.source_failed three)) (λ four. sink (c.run.ensures.sink_failed four)))
