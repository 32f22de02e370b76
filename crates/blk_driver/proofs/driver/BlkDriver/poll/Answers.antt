use Rattle.std.proofs.Common.{◌≡◌, Option, Some, Ok, ap, subst, ◌∙◌}
use Rattle.vr_driver.specs.declared.completion.Completion.{Completion}
use Rattle.vr_driver.specs.Driver.{with_answer}
use Rattle.blk_driver.specs.Driver.{Driver}
use Rattle.blk_driver.proofs.driver.BlkDriver.poll.Goals as goal

pub returns-in-Ok-Some-clause-written : goal.returns-in-Ok-Some-clause-written
returns-in-Ok-Some-clause-written g c m told =
    let ring = ap (λ (d : Driver). d.ring) c.self.view_is in
    c.unmap_pending.ensures.memory.same_told
    ∙ subst (λ (found : Option Completion). g.P.Mem.told c.reclaim.new.mem ≡ Some (with_answer m c.self.inside.ring c.has_feature.result (Ok found))) c.in-Ok-Some.field-0-is (c.in-Ok-Some.ensures.written m told)
    ∙ (λ i. Some (with_answer m (ring i) (c.has_feature.ensures i) (Ok (Some c.in-Ok-Some.done))))

pub returns-in-Ok-None-clause-written : goal.returns-in-Ok-None-clause-written
returns-in-Ok-None-clause-written g c m told =
    subst (λ (found : Option Completion). g.P.Mem.told c.reclaim.new.mem ≡ Some (with_answer m c.self.inside.ring c.has_feature.result (Ok found))) c.in-Ok-None.field-0-is (c.in-Ok-None.ensures.written m told)
