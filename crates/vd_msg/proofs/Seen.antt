-- From the lists that a call found to what contracts see of them.
use Rattle.std.proofs.Common.{◌≡◌, List, subst, sym}
use Rattle.vd_model.specs.declared.message.Message.{Message}
use Rattle.vd_model.specs.Messages.{MessageAct, MessageStart}
use Rattle.vd_msg.specs.declared.lists.Ended.{Ended}
use Rattle.vd_msg.specs.Lists.{Lists}
use Rattle.vd_msg.specs.Stands.{Stands}

-- two names of the same lists stand for the same acts
pub stands_inside : {start : MessageStart} {acts : List MessageAct} {h k : Lists} → h ≡ k → Stands start acts k → Stands start acts h
stands_inside {start} {acts} e s = subst (λ h. Stands start acts h) (sym e) s

-- the lists with these in place of the others
abbrev pub with_lists : Lists → List Message → List Message → List Ended → Lists
with_lists h waiting held ended = record h { waiting = waiting; held = held; ended = ended }

pub stands_with : {start : MessageStart} {acts : List MessageAct} (h : Lists) {w v l k : List Message} {e f : List Ended} → v ≡ w → k ≡ l → f ≡ e
    → Stands start acts (with_lists h w l e) → Stands start acts (with_lists h v k f)
stands_with {start} {acts} h {w} {v} {l} {k} {e} {f} a b c s =
    subst (λ v. Stands start acts (with_lists h v k f)) (sym a) (subst (λ k. Stands start acts (with_lists h w k f)) (sym b) (subst (λ f. Stands start acts (with_lists h w l f)) (sym c) s))
