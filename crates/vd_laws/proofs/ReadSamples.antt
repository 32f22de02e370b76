-- The short runs compute.
use Rattle.std.proofs.Common.{◌≡◌, ℕ, zero, suc, ◌+◌, ◌-◌, ◌<◌, ◌≤◌, ◌&&◌, not, Bool, true, false, refl, ap, arith, None, Some, cond, List, [], ◌∷◌, nat_le, nat_lt}
use Rattle.std.proofs.lemmas.Bool.{and_parts, leb-true, ltb-true}
use Rattle.vd_num.specs.Number.{power_from, doubled_to}
use Rattle.vd_model.specs.declared.step.Step.TheVariants.{Device}
use Rattle.vd_model.specs.declared.step.DevStep.TheVariants as line
use Rattle.vd_model.specs.declared.step.AreaStep.TheVariants as area
use Rattle.vd_model.specs.declared.answer.Answer.TheVariants.{Done}
use Rattle.vd_model.specs.declared.answer.Item.TheVariants.{Text}
use Rattle.vd_model.specs.Acts.{Act, Node, Driver, Bus, State, Opened, Attached, Buffer, Mapped}
use Rattle.vd_model.specs.State.{Max_set}
use Rattle.vd_model.specs.Place.{greatest, place_of}
use Rattle.vd_model.specs.Live.{maps_address, page_of, meets_page}
use Rattle.vd_model.specs.Puts.{ram, shown_put, last_put, put_or, or_put, handed_put_if, zero_if, Iova}
use Rattle.vd_model.specs.AreaTurns.{is_accessible}
use Rattle.vd_model.specs.DaemonTurns.{daemon_memory}
use Rattle.vd_model.specs.History.{deeds_of, reply}
use Rattle.vd_laws.specs.Runs.{acts_of}
use Rattle.vd_laws.specs.Alike.{LooksAlike}
use Rattle.vd_laws.specs.ReadLaw.{seen_after}
use Rattle.vd_model.specs.declared.memory.Dir.TheVariants.{To}
use Rattle.vd_laws.specs.Small.{v}
use Rattle.vd_laws.specs.MemorySamples.{sample_setting, mapping_sample}
use Rattle.vd_laws.specs.ReadSamples.{part_map_history}

pub loaded : (third : ℕ) → reply (sample_setting 1) (part_map_history third) (Device v (line.Area (area.Load 0xf000 3))) false ≡ Done (Text (7 ∷ 8 ∷ 0 ∷ []) ∷ [])
unfolding deeds_of place_of greatest power_from doubled_to
loaded third = refl

-- the acts of the run before the map, and after it
abbrev before_map : ℕ → List Act
before_map third = Driver (Buffer (7 ∷ 8 ∷ third ∷ [])) ∷ Bus Attached ∷ State (Max_set 0 256) ∷ Node Opened ∷ []

abbrev after_map : ℕ → List Act
after_map third = Driver (Mapped (mapping_sample To)) ∷ before_map third

acts_are : (third : ℕ) → acts_of (sample_setting 1) (part_map_history third) v ≡ after_map third
unfolding deeds_of place_of greatest power_from doubled_to
acts_are third = refl

first_two : (a b i : ℕ) → i < 2 → ram 1 (before_map a) 0 i ≡ ram 1 (before_map b) 0 i
first_two a b zero low = refl
first_two a b (suc zero) low = refl
first_two a b (suc (suc i)) low = absurd (omega arith)

shown_put_alike : (a b at : ℕ) → (shown_put 1 (after_map a) at).byte ≡ (shown_put 1 (after_map b) at).byte
shown_put_alike a b at = by (maps_address (mapping_sample To) at) refl (meets_page 1 (page_of 1 at) (mapping_sample To) && not false) where
  by : (c : Bool) → maps_address (mapping_sample To) at ≡ c → (zeroed : Bool)
      → (put_or (or_put (handed_put_if c (last_put 1 (before_map a)) (mapping_sample To) at) (zero_if zeroed)) (last_put 1 (before_map a)) (Iova at)).byte
      ≡ (put_or (or_put (handed_put_if c (last_put 1 (before_map b)) (mapping_sample To) at) (zero_if zeroed)) (last_put 1 (before_map b)) (Iova at)).byte
  by true e zeroed =
      let parts = and_parts (nat_le 61440 at) (nat_lt at (61440 + 2)) e in
      let low : 61440 ≤ at = leb-true 61440 at parts.0 in
      let high : at < 61440 + 2 = ltb-true at (61440 + 2) parts.1 in
      first_two a b (0 + (at - 61440)) (omega arith)
  by false e true = refl
  by false e false = refl

memory_alike : (a b at : ℕ) → daemon_memory (sample_setting 1) (after_map a) at ≡ daemon_memory (sample_setting 1) (after_map b) at
memory_alike a b at = ap (λ byte. cond (is_accessible (sample_setting 1) (after_map a) at) (Some byte) None) (shown_put_alike a b at)

pub third_alike : (a b : ℕ) → LooksAlike (sample_setting 1) (seen_after (sample_setting 1) (part_map_history a) v) (seen_after (sample_setting 1) (part_map_history b) v)
unfolding deeds_of place_of greatest power_from doubled_to
third_alike a b = record { made = refl; opened = refl; state = refl; memory = λ at. memory_alike a b at }
