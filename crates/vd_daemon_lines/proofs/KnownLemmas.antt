-- What is known of a queue decides whether a line is refused.
use Rattle.std.proofs.Common.{◌≡◌, Bool, true, false, ◌==◌, ◌||◌, if◌then◌else◌, refl, ap, sym, ◌∙◌, Some, None, Option}
use Rattle.std.specs.Prelude.{is_some, not}
use Rattle.vd_model.specs.declared.queue.QueueInfo.{QueueInfo}
use Rattle.vd_model.specs.declared.queue.RingPlace.{RingPlace}
use Rattle.vd_model.specs.DaemonTurns.{ring_place_of}

-- no such queue
pub is_missing_by : (t : Bool) (k : QueueInfo) (info : Option QueueInfo) → info ≡ (if t then None else Some k) → is_some info ≡ false → t ≡ true
is_missing_by true k info e none = refl
is_missing_by false k None e none = absurd (cc)
is_missing_by false k (Some i) e none = absurd (cc)

-- a queue that is there
pub is_there_by : (t : Bool) (k : QueueInfo) (info : Option QueueInfo) → info ≡ (if t then None else Some k) → is_some info ≡ true → t ≡ false
is_there_by true k None e some = absurd (cc)
is_there_by true k (Some i) e some = absurd (cc)
is_there_by false k info e some = refl

-- ---- the place of a queue that is served

pub missing_place : (t rest : Bool) (k : QueueInfo) (p : RingPlace) → None ≡ (if t then None else Some k) → None ≡ (if t || rest then None else Some p)
missing_place true rest k p e = refl
missing_place false rest k p e = absurd (cc)

pub idle_place : (t : Bool) (i k : QueueInfo) (p : RingPlace) → Some i ≡ (if t then None else Some k) → (not i.ready || (i.num == 0)) ≡ true
    → None ≡ (if t || not k.ready || (k.num == 0) then None else Some p)
idle_place true i k p e idle = absurd (cc)
idle_place false i k p e idle =
    let same : i ≡ k = cc in
    ap (λ t. if t then None else Some p) (sym idle ∙ ap (λ (i : QueueInfo). not i.ready || (i.num == 0)) same)

pub served_place : (t : Bool) (i k : QueueInfo) → Some i ≡ (if t then None else Some k) → (not i.ready || (i.num == 0)) ≡ false
    → Some (ring_place_of i) ≡ (if t || not k.ready || (k.num == 0) then None else Some (ring_place_of k))
served_place true i k e busy = absurd (cc)
served_place false i k e busy =
    let same : i ≡ k = cc in
    ap (λ i. Some (ring_place_of i)) same
    ∙ ap (λ t. if t then None else Some (ring_place_of k)) (sym busy ∙ ap (λ (i : QueueInfo). not i.ready || (i.num == 0)) same)
