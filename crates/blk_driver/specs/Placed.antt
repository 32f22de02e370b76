-- The chain of a request that is mapped.
use Rattle.std.specs.Prelude.{ℕ, ◌≡◌, ◌+◌, ◌*◌, ◌++◌, List, [], ◌∷◌, length, Bool, true, false, if◌then◌else◌, Option, Some, Ok, map, take}
use Rattle.vd_model.specs.declared.memory.Want.{Want}
use Rattle.vd_model.specs.declared.parts.Part.{Part}
use Rattle.vd_model.specs.Memory.{Memory}
use Rattle.vd_model.specs.Setting.{Setting}
use Rattle.vd_model.specs.Acts.{Act, Streaming, Driver, Poked, Synced_device}
use Rattle.vd_model.specs.Live.{maps, live_mappings, iova_of}
use Rattle.vd_model.specs.Place.{taken_slots}
use Rattle.vd_model.specs.Puts.{is_to_device, is_from_device}
use Rattle.vd_model.specs.RingTurns.{part_wants, parts_count, table_bytes, needed_descriptors, placed_mappings, map_acts, last_after, mapping_part}
use Rattle.std.specs.Option.{ForSome}
use Rattle.vr_split.specs.Mem.{IsUnchanged, Becomes}
use Rattle.vr_split.specs.Reach.{KeepsReach}
use Rattle.vr_driver.specs.Side.{DriverSide, with_chain, all_published, next_head}
use Rattle.vr_driver.specs.Driver.{with_parts, with_table, with_index, is_kick_needed}
use Rattle.vd_num.specs.declared.number.Range.{Range}
use Rattle.blk_driver.specs.Driver.{Driver as Kept}
use Rattle.blk_driver.specs.Buffers.{has_range, live_mapping, AreNumbered}
use Rattle.blk_driver.specs.Asked.{asked_in, front_bytes, wants_of}
use Rattle.blk_driver.specs.Mapped.{AreThere, Maps}
use Rattle.blk_driver.specs.declared.ask.Draft.{Draft}
use Rattle.blk_driver.specs.Pended.{pending_for}
use Rattle.blk_driver.specs.declared.placing.Placed.{Placed as PlacedChain}
use Rattle.blk_driver.specs.declared.driver.Submitted.{Submitted}

-- a part is the range of a mapping, at its address
pub record IsPart {S : Type 0} (stands : S → Setting → List Act → Type 0) (s : S) (number : ℕ) (want : Want) (part : Part) : Type 0 where
  pub len : part.len ≡ want.len
  pub writable : part.writable ≡ is_from_device want.dir
  pub at : (x : Setting) (acts : List Act) (m : Streaming) → stands s x acts → live_mapping acts number ≡ Some m → part.at ≡ iova_of m

-- the parts are the ranges of mappings with these numbers, one after another
abbrev pub AreParts : {S : Type 0} → (S → Setting → List Act → Type 0) → S → ℕ → List Want → List Part → Type 0
AreParts stands s number [] [] = Unit {0}
AreParts stands s number [] (part ∷ parts) = ⊥
AreParts stands s number (want ∷ wants) [] = ⊥
AreParts stands s number (want ∷ wants) (part ∷ parts) = IsPart stands s number want part × AreParts stands s (number + 1) wants parts

-- the parts were listed in the table's buffer, which was copied into its mapping of this number, and the table is there; or
-- there is no table
pub record Lists {S : Type 0} (stands : S → Setting → List Act → Type 0) (old : S) (d : Draft) (number : ℕ) (parts : List Part) (table : ℕ) (new : S) : Type 0 where
  pub direct : d.indirect ≡ false → new ≡ old
  pub listed : d.indirect ≡ true → (x : Setting) (acts : List Act) (m : Streaming) → stands old x acts → has_range acts (d.buffer + 1) 0 (16 * length parts) ≡ true
      → live_mapping acts number ≡ Some m → is_to_device m.want.dir ≡ true
      → stands new x (Driver (Synced_device m) ∷ Driver (Poked (d.buffer + 1) 0 (table_bytes 0 parts)) ∷ acts)
  pub at : d.indirect ≡ true → (x : Setting) (acts : List Act) (m : Streaming) → stands new x acts → live_mapping acts number ≡ Some m → table ≡ iova_of m

-- memory with the chain of some parts, or of their table, in the ring
abbrev pub with_request : Memory → DriverSide → Bool → ℕ → List Part → Memory
with_request m s true table parts = with_table m s table (length parts)
with_request m s false table parts = with_parts m s parts

-- how many descriptors of the ring the parts take
abbrev pub chain_len : Bool → List Part → ℕ
chain_len indirect parts = if indirect then 1 else length parts

-- a request of which all is mapped is placed: its parts are the ranges of its mappings, they are listed in its table, if it has
-- one, and then the chain is added to the ring and published
pub record IsPlaced {S : Type 0} (told : S → Option Memory) (span : S → Option Range) (keeps rest : S → S → Type 0) (stands : S → Setting → List Act → Type 0)
    (old : S) (d : Draft) (first : ℕ) (s t : DriverSide) (p : PlacedChain) (new : S) : Type 0 where
  pub parts : List Part
  pub table : ℕ
  pub listed : S
  pub are : AreParts stands old first (part_wants d.buffer (asked_in d.ask)) parts
  pub lists : Lists stands old d (first + length parts) parts table listed
  pub same : IsUnchanged told span rest old listed
  pub head : p.head ≡ next_head s (needed_descriptors d.indirect (asked_in d.ask))
  pub side : t ≡ all_published (with_chain s (needed_descriptors d.indirect (asked_in d.ask)))
  pub idx : p.published.idx ≡ (with_chain s (needed_descriptors d.indirect (asked_in d.ask))).added
  pub kick : ForSome (told new) (λ m. p.published.kick ≡ is_kick_needed m (with_chain s (needed_descriptors d.indirect (asked_in d.ask))) d.event_idx)
  pub written : Becomes told listed new (λ m. with_index (with_request m s d.indirect table parts) (with_chain s (needed_descriptors d.indirect (asked_in d.ask))))
  pub kept : KeepsReach told span keeps listed new

abbrev pub chain_in : Submitted → PlacedChain
chain_in r = record { head = r.head; published = record { idx = r.idx; kick = r.kick } }

-- a request is submitted: its header and its status byte are filled in, all that it has is mapped, it is placed, and it is kept
pub record Submits {S : Type 0} (told : S → Option Memory) (span : S → Option Range) (keeps rest : S → S → Type 0) (stands : S → Setting → List Act → Type 0)
    (old : S) (d : Draft) (tag : ℕ) (k l : Kept) (r : Submitted) (new : S) : Type 0 where
  pub filled : S
  pub mapped : S
  pub fills : (x : Setting) (acts : List Act) → stands old x acts → has_range acts d.buffer 0 17 ≡ true
      → stands filled x (Driver (Poked d.buffer 0 (front_bytes d.ask tag)) ∷ acts)
  pub mapping : Maps stands filled (wants_of d) (Ok r.first_map) mapped
  pub same : IsUnchanged told span rest old mapped
  pub placed : IsPlaced told span keeps rest stands mapped d r.first_map k.ring l.ring (chain_in r) new
  pub pending : l.pending ≡ k.pending ++ pending_for d r.head r.first_map ∷ []
  -- so, where the mappings that were live have numbers below the new ones, its parts are those of its first mappings
  pub parts : (x : Setting) (acts : List Act) (ms : List Streaming) → stands filled x acts → AreThere acts (wants_of d) → AreNumbered (maps acts) (live_mappings acts)
      → placed_mappings x (taken_slots acts) (maps acts) (wants_of d) ≡ Some ms → placed.parts ≡ map mapping_part (take (parts_count (asked_in d.ask)) ms)
  -- and the table stands in the last of them
  pub tabled : d.indirect ≡ true → (x : Setting) (acts : List Act) (ms : List Streaming) (last : Streaming) → stands filled x acts → AreThere acts (wants_of d)
      → AreNumbered (maps acts) (live_mappings acts) → placed_mappings x (taken_slots acts) (maps acts) (wants_of d) ≡ Some ms → last_after (parts_count (asked_in d.ask)) ms ≡ Some last
      → stands placed.listed x (Driver (Synced_device last) ∷ Driver (Poked (d.buffer + 1) 0 (table_bytes 0 placed.parts)) ∷ (map_acts ms ++ acts)) × (placed.table ≡ iova_of last)
