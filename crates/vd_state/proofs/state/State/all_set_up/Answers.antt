use Rattle.std.proofs.Common.{◌∙◌, sym, ap, nat_lt}
use Rattle.std.specs.List.{list_all}
use Rattle.vd_state.specs.declared.queue.Queue.{Queue}
use Rattle.vd_state.specs.Inside.{kept_of}
use Rattle.vd_state.proofs.Changes.{set_up_is, stands_inside}
use Rattle.vd_state.proofs.state.State.all_set_up.Goals as goal

pub returns : goal.returns
returns c = λ made done s.
    c.are_set_up.ensures ∙ (ap (list_all (λ (q : Queue). nat_lt 0 q.max)) c.deref.ensures.value ∙ sym (set_up_is made done (kept_of c.self.inside) (stands_inside c.self.view_is s)))
