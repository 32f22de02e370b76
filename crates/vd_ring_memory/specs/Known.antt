-- What the state tells of a queue, and what a domain stands for after a line.
use Rattle.std.specs.Prelude.{ℕ, ◌≡◌, ◌++◌, List, [], ◌∷◌, length, Bool, Option, Some, None, Result, IsOk, IsErr, if◌then◌else◌}
use Rattle.vd_pool.specs.Memory.{PoolMemory as Pool}
use Rattle.vd_model.specs.declared.queue.QueueInfo.{QueueInfo}
use Rattle.vd_model.specs.Setting.{Setting}
use Rattle.vd_model.specs.Creation.{Creation}
use Rattle.vd_model.specs.Acts.{Act, state_acts}
use Rattle.vd_model.specs.State.{queue_info}
use Rattle.vd_model.specs.BusTurns.{is_missing}
use Rattle.vd_model.specs.DaemonTurns.{has_indirect}
use Rattle.vd_model.specs.declared.parts.Chain.{Chain}
use Rattle.vd_model.specs.declared.answer.Item.{Item}
use Rattle.vd_model.specs.declared.answer.Item.TheVariants.{Word, Number}
use Rattle.vd_model.specs.declared.answer.Tag.TheVariants as tag
use Rattle.vd_model.specs.declared.answer.Answer.{Answer}
use Rattle.vd_model.specs.declared.answer.Answer.TheVariants as answer
use Rattle.vr_chain.specs.declared.error.WalkError.{WalkError}
use Rattle.vr_chain.specs.declared.error.WalkError.TheVariants.{Fault, Bus, Memory as OutOfMemory}
use Rattle.vd_domain.specs.Held.{Held}
use Rattle.vd_domain.specs.Stands.{Stands}

-- a queue that isn't there, or what is known of it, and whether indirect tables were accepted
pub record IsKnown (made : Creation) (acts : List Act) (q : ℕ) (queue : Option QueueInfo) (indirect : Bool) : Type 0 where
  pub info : queue ≡ (if is_missing made q then None else Some (queue_info (state_acts acts) q))
  pub tables : indirect ≡ has_indirect acts

-- a domain stands for these acts after those before the line
abbrev pub After : Setting → List Act → Held → Pool → List Act → Type 0
After x done h m acts = Stands x (acts ++ done) h m

-- what is answered for a chain
abbrev pub chain_items : Chain → List Item
chain_items chain = Word tag.Parts ∷ Number (length chain.parts) ∷ Word tag.Readable ∷ Number chain.readable ∷ Word tag.Writable ∷ Number chain.writable ∷ []

-- a walk that gives no chain is answered so; for want of memory there is no answer
abbrev pub FailsAs : {E : Type 0} → (Answer → Type 0) → WalkError → Result (Unit {0}) E → Type 0
FailsAs heard (Fault fault) r = IsOk r × heard (answer.Chain fault)
FailsAs heard (Bus at) r = IsOk r × heard (answer.Bus at)
FailsAs heard OutOfMemory r = IsErr r
