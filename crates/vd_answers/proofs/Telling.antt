-- A call that tells a turn tells one that is equal.
use Rattle.std.proofs.Common.{◌≡◌, List, [], Result, Ok, Err, subst, sym}
use Rattle.std.specs.Prelude.{OnOk}
use Rattle.vd_model.specs.declared.answer.Answer.{Answer}
use Rattle.vd_model.specs.Acts.{Act}
use Rattle.vd_model.specs.Turn.{Turn}
use Rattle.vd_answers.specs.Tells.{Tells, MayTell}

pub tells_as : {heard : Answer → Type 0} {turn like : Turn Act} {After : List Act → Type 0} → turn ≡ like → Tells heard like After → Tells heard turn After
tells_as {heard} {turn} {like} {After} e h = subst (λ t. Tells heard t After) (sym e) h

-- an answer that is the turn's was heard
pub tells_by : {heard : Answer → Type 0} {turn like : Turn Act} {After : List Act → Type 0} {said : Answer} → turn ≡ like → said ≡ like.answer → heard said → After like.acts → Tells heard turn After
tells_by {heard} {turn} {like} {After} {said} e f h stands = tells_as e (record { says = subst heard f h; stands = stands })

pub may_tell_as : {E : Type 0} {heard : Answer → Type 0} {turn like : Turn Act} {After : List Act → Type 0} {r : Result (Unit {0}) E} → turn ≡ like → MayTell heard like After r → MayTell heard turn After r
may_tell_as {E} {heard} {turn} {like} {After} {r} e h = subst (λ t. MayTell heard t After r) (sym e) h

-- a call that can't fail, where another could
pub tells_ok : {E : Type 0} {heard : Answer → Type 0} {turn : Turn Act} {After : List Act → Type 0} → Tells heard turn After → MayTell {E = E} heard turn After (Ok tt)
tells_ok h = record { says = h.says; stands = h.stands }

-- a telling that may find no memory, of a turn without acts
pub may_tell : {E : Type 0} {heard : Answer → Type 0} {turn like : Turn Act} {After : List Act → Type 0} (r : Result (Unit {0}) E) → turn ≡ like → like.acts ≡ [] → OnOk r (heard like.answer) → After [] → MayTell heard turn After r
may_tell {E} {heard} {turn} {like} {After} (Ok u) e none h stay = may_tell_as e (record { says = h; stands = subst After (sym none) stay })
may_tell {E} {heard} {turn} {like} {After} (Err error) e none h stay = may_tell_as e (record { says = tt; stands = stay })

-- what stands for the acts stands for them in another way too
pub tells_over : {heard : Answer → Type 0} {turn : Turn Act} {After More : List Act → Type 0} → ((acts : List Act) → After acts → More acts) → Tells heard turn After → Tells heard turn More
tells_over {heard} {turn} {After} {More} more h = record { says = h.says; stands = more turn.acts h.stands }

pub may_tell_over : {E : Type 0} {heard : Answer → Type 0} {turn : Turn Act} {After More : List Act → Type 0} (r : Result (Unit {0}) E) → ((acts : List Act) → After acts → More acts) → MayTell heard turn After r → MayTell heard turn More r
may_tell_over {E} {heard} {turn} {After} {More} (Ok u) more h = record { says = h.says; stands = more turn.acts h.stands }
may_tell_over {E} {heard} {turn} {After} {More} (Err error) more h = record { says = h.says; stands = more [] h.stands }
