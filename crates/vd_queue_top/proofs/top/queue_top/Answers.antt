use Rattle.std.proofs.Common.{◌≡◌, ◌⊎◌, ◌∙◌, ap, sym, subst, map, string_bytes}
use Rattle.vd_loop.specs.declared.exit.Exit.{Exit}
use Rattle.vd_queue_top.specs.Replies.{is_queue_line}
use Rattle.vd_queue_top.proofs.Ends.{complete}
use Rattle.vd_queue_top.proofs.Sizes.{asked_is}
use Rattle.vd_queue_top.proofs.top.queue_top.Goals as goal

pub lines_on-requires : goal.lines_on-requires
lines_on-requires g c = asked_is (map string_bytes c.args.words.now.items) c.in-Some.asked (sym c.read_queue.ensures ∙ c.in-Some.is)

pub returns-in-Some-clause-complete : goal.returns-in-Some-clause-complete
returns-in-Some-clause-complete g c = λ size text given whole source sink.
    let ran = c.lines_on.ensures.ran in
    let ended = c.lines_on.result in
    subst (λ s. (s ≡ 0) ⊎ (s ≡ 5)) (sym (ap (λ (e : Exit). e.status) c.of_run.ensures))
    (complete is_queue_line text ended.status ended.line ended.lines_done (g.S.Source.left c.lines_on.new.source) (ran.stopped text given.told) ran.known whole
    (λ three. source (c.lines_on.ensures.source_failed three)) (λ four. sink (c.lines_on.ensures.sink_failed four)))
