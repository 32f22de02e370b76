-- What the table of a bus promises at each moment of a run.
use Rattle.std.specs.Prelude.{ℕ, ◌+◌, ◌-◌, ◌^◌, ◌<◌, ◌≤◌, ◌≡◌, ◌≢◌, List, [], ◌∷◌, ◌++◌, true, length, slice_index}
use Rattle.vd_model.specs.declared.memory.Region.{Region}
use Rattle.vd_model.specs.declared.answer.Answer.TheVariants.{Done}
use Rattle.vd_model.specs.declared.answer.Item.{Item}
use Rattle.vd_model.specs.declared.answer.Item.TheVariants.{Text}
use Rattle.vd_vhost_model.specs.declared.access.Access.TheVariants.{Read, Write}
use Rattle.vd_vhost_model.specs.declared.access.Denied.{Denied}
use Rattle.vd_vhost_model.specs.declared.step.VhostStep.{VhostStep}
use Rattle.vd_vhost_model.specs.declared.step.VhostStep.TheVariants.{Poke, Store}
use Rattle.vd_vhost_model.specs.declared.step.VhostAnswer.TheVariants.{Plain}
use Rattle.vd_vhost_model.specs.GuestTable.{VhostAct, table, guest}
use Rattle.vd_vhost_model.specs.VhostTurns.{vhost_turn, guest_load_turn, guest_store_turn, denied_answer, is_table_of}
use Rattle.vd_vhost_model.specs.VhostLines.{vhost_reading}
use Rattle.vd_vhost_model.specs.VhostOut.{done_after}
use Rattle.vd_vhost_laws.specs.Through.{address_after, Holds, IsThrough, FailsFirst}

-- what was done by some lines after that, the newest first, over a memory of so many bytes
unfoldable pub done_by_lines : ℕ → List VhostAct → List (List ℕ) → List VhostAct
done_by_lines size done [] = done
done_by_lines size done (line ∷ rest) = done_by_lines size (done_after size done (vhost_reading line)) rest

-- a load of len addresses shows that many bytes, each of them the guest's byte that its address stands for
pub record Shows (done : List VhostAct) (at len : ℕ) (items : List Item) : Type 0 where
  pub bytes : List ℕ
  pub is_text : items ≡ Text bytes ∷ []
  pub count : length bytes ≡ len
  pub each : (i : ℕ) → i < len → (o : ℕ) × IsThrough (table done) Read (address_after at i) o × (slice_index bytes i ≡ guest done o)

-- what may make this byte the guest's byte o: a poke there, or a store to an address that stands for it
abbrev pub MayChange : List VhostAct → ℕ → ℕ → VhostStep → Type 0
MayChange done o byte (Poke offset bytes) = (offset ≤ o) × (o < offset + length bytes) × (byte ≡ slice_index bytes (o - offset))
MayChange done o byte (Store at bytes) = at < 2 ^ 64 → (i : ℕ) × (i < length bytes) × IsThrough (table done) Write (address_after at i) o × (byte ≡ slice_index bytes i)
MayChange done o byte _ = ⊥

pub record TableLaw (size : ℕ) (done : List VhostAct) : Type 0 where
  -- the table can be set over such a memory, so an address has one region at most
  pub fits : is_table_of size (table done) ≡ true
  pub one : (r s : Region) (at : ℕ) → Holds (table done) r at → Holds (table done) s at → r ≡ s
  -- a load shows a byte through a region that permits reading
  pub shows : (at len : ℕ) (items : List Item) → at < 2 ^ 64 → (guest_load_turn done at len).answer ≡ Plain (Done items) → Shows done at len items
  -- a byte changes through a region that permits writing, or by a poke
  pub changes : (step : VhostStep) (o : ℕ) → guest ((vhost_turn size done step).acts ++ done) o ≢ guest done o
      → MayChange done o (guest ((vhost_turn size done step).acts ++ done) o) step
  -- a denial names its first address and the rule that it breaks
  pub load_denied : (at len : ℕ) (why : Denied) → at < 2 ^ 64 → (guest_load_turn done at len).answer ≡ denied_answer why → FailsFirst (table done) Read at len why
  pub store_denied : (at : ℕ) (bytes : List ℕ) (why : Denied) → at < 2 ^ 64 → (guest_store_turn done at bytes).answer ≡ denied_answer why
      → FailsFirst (table done) Write at (length bytes) why × ((guest_store_turn done at bytes).acts ≡ [])
