-- The block law: a request that completed did what the disk does.
use Rattle.std.specs.Prelude.{ℕ, ◌*◌, ◌^◌, ◌<◌, List, [], ◌∷◌, ◌++◌, Bool, true, Option, Some, ◌≡◌}
use Rattle.vd_model.specs.declared.memory.Dir.TheVariants.{From}
use Rattle.vd_model.specs.declared.memory.Want.{Want}
use Rattle.vd_model.specs.declared.step.Step.{Step}
use Rattle.vd_model.specs.declared.step.Step.TheVariants.{Queue}
use Rattle.vd_model.specs.declared.step.QueueStep.TheVariants.{Submit, Poll, Execute, Finish}
use Rattle.vd_model.specs.declared.step.SubmitForm.{SubmitForm}
use Rattle.vd_model.specs.declared.answer.Tag.TheVariants as tag
use Rattle.vd_model.specs.declared.answer.Item.{Item}
use Rattle.vd_model.specs.declared.answer.Item.TheVariants.{Word, Number}
use Rattle.vd_model.specs.declared.answer.Answer.TheVariants.{Done}
use Rattle.vd_model.specs.Setting.{Setting}
use Rattle.vd_model.specs.Creation.{Creation}
use Rattle.vd_model.specs.Acts.{Act, Disk_act, Stored}
use Rattle.vd_model.specs.Puts.{ram_bytes}
use Rattle.vd_model.specs.Block.{Block, RequestResult, result_of}
use Rattle.vd_model.specs.RingTurns.{asked_by}
use Rattle.vd_model.specs.Deeds.{device_view}
use Rattle.vd_model.specs.History.{History, deeds_of, disk_of, reply}
use Rattle.vd_laws.specs.Runs.{acts_of, IsAddressed, IsWhole}
use Rattle.vd_ring_laws.specs.Calm.{IsCalm}
use Rattle.vd_ring_laws.specs.Heads.{head_in_hand}
use Rattle.vd_ring_laws.specs.DiskRequest.{request_of}

-- the last time that a step was asked and the history before it passed
pub record IsLast (h : History) (step : Step) (Passes : History → Bool → Type 0) : Type 0 where
  pub since : History
  pub failed : Bool
  pub earlier : History
  pub split : h ≡ since ++ record { step = step; failed = failed } ∷ earlier
  pub passes : Passes earlier failed
  pub none_since : (later more : History) (f : Bool) → since ≡ later ++ record { step = step; failed = f } ∷ more → Passes (more ++ record { step = step; failed = failed } ∷ earlier) f → ⊥

-- a submit of the form placed its request at this head, and no poll since then reported the head
pub record IsSubmitted (x : Setting) (h : History) (d : List ℕ) (q : ℕ) (form : SubmitForm) (head : ℕ) : Type 0 where
  pub since : History
  pub failed : Bool
  pub earlier : History
  pub split : h ≡ since ++ record { step = Queue d (Submit q form); failed = failed } ∷ earlier
  pub items : List Item
  pub answered : reply x earlier (Queue d (Submit q form)) failed ≡ Done (Word tag.Head ∷ Number head ∷ items)
  pub unreported : (later more : History) (f : Bool) (told : List Item) → since ≡ later ++ record { step = Queue d (Poll q); failed = f } ∷ more
      → reply x (more ++ record { step = Queue d (Submit q form); failed = failed } ∷ earlier) (Queue d (Poll q)) f ≡ Done (Word tag.Head ∷ Number head ∷ told) → ⊥

-- a finish was answered, and the request in hand had this head
abbrev pub Pushes : Setting → List ℕ → ℕ → ℕ → History → Bool → Type 0
Pushes x d q head g failed = (items : List Item) × (reply x g (Queue d (Finish q)) failed ≡ Done items) × (head_in_hand x (acts_of x g d) q ≡ Some head)

-- an execute was answered with a status
abbrev pub Executes : Setting → List ℕ → ℕ → History → Bool → Type 0
Executes x d q g failed = (status : ℕ) × (reply x g (Queue d (Execute q)) failed ≡ Done (Word tag.Status ∷ Number status ∷ []))

-- a request that a poll reports was finished, and before that executed, and the poll tells what the disk did then
pub record IsCompleted (x : Setting) (h : History) (d : List ℕ) (q : ℕ) (block : Block) (want : Option Want) (head : ℕ) (items : List Item) (failed : Bool) : Type 0 where
  pub finish : IsLast h (Queue d (Finish q)) (Pushes x d q head)
  pub execute : IsLast finish.earlier (Queue d (Execute q)) (Executes x d q)
  pub made : Creation
  pub is_made : (device_view x d (deeds_of x execute.earlier)).made ≡ Some made
  -- what the disk answers at that execute
  pub result : RequestResult
  pub is_result : result ≡ result_of (disk_of made d (device_view x d (deeds_of x execute.earlier))) block execute.failed
  -- the report has the request's own length and the disk's status
  pub report : items ≡ Word tag.Len ∷ Number block.writable ∷ Word tag.Status ∷ Number result.status ∷ []
  -- a range that comes from the device holds the disk's bytes after the poll
  pub bytes : (w : Want) → want ≡ Some w → w.dir ≡ From
      → ram_bytes x.per_page (acts_of x (record { step = Queue d (Poll q); failed = failed } ∷ h) d) w.buffer w.offset w.len ≡ result.bytes
  -- where the disk stores, that execute stored the request's own bytes at its own sector
  pub store : result.stores ≡ true
      → (more : List Act) × (acts_of x (record { step = Queue d (Execute q); failed = execute.failed } ∷ execute.earlier) d ≡ Disk_act (Stored (512 * block.sector) block.payload) ∷ more)

-- in a calm history the first poll that reports a request's head tells what the disk did with that request
abbrev pub BlockLaw : Setting → History → Type 0
BlockLaw x h = IsAddressed x → IsWhole x → (d : List ℕ) (calm : IsCalm x h d) (q : ℕ) (form : SubmitForm) (head : ℕ) (submit : IsSubmitted x h d q form head)
    → (asked_by form).sector < 2 ^ 64
    → (inside : History) → submit.earlier ≡ inside ++ calm.start
    → (items : List Item) (failed : Bool) → reply x h (Queue d (Poll q)) failed ≡ Done (Word tag.Head ∷ Number head ∷ items)
    → IsCompleted x h d q (request_of x (acts_of x submit.earlier d) form) (asked_by form).want head items failed
