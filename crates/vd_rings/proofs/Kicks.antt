-- Numbers in a ring, and whether a device is to be kicked.
use mir.Val.{bool_byte}
use Rattle.std.proofs.Common.{◌≡◌, ℕ, zero, suc, ◌+◌, ◌*◌, ◌%◌, ◌^◌, ◌<◌, ◌≤◌, Bool, true, false, ◌==◌, if◌then◌else◌, refl, ap, sym, subst, ◌∙◌, arith, List, Some, None, inl, inr}
use Rattle.std.specs.Prelude.{not, bit_and}
use Rattle.std.specs.Option.{ForSome}
use Rattle.std.specs.Result.{result_unwrap_or}
use Rattle.std.proofs.lemmas.Bool.Decides.{eqb_tells}
use Rattle.std.proofs.lemmas.Grind.{common_steps}
use Rattle.std.proofs.lemmas.Nat.{and_mask}
use Rattle.byteorder.specs.Endian.{little_bytes}
use Rattle.vd_model.specs.declared.queue.RingPlace.{RingPlace}
use Rattle.vd_model.specs.Memory.{Memory, IsFinite}
use Rattle.vd_model.specs.Setting.{Setting}
use Rattle.vd_model.specs.Acts.{Act}
use Rattle.vd_model.specs.Queues.{added_count, published_count}
use Rattle.vd_model.specs.Rings.{needs_event, number16_of, ring_address, available_index_at, used_flags_at, available_event_at}
use Rattle.vd_model.specs.RingTurns.{number_at, wants_kick}
use Rattle.vd_model.specs.DaemonTurns.{has_event_idx}
use Rattle.vd_domain.specs.Held.{Held}
use Rattle.vd_domain.specs.Handed.{is_coherent}
use Rattle.vd_domain.specs.Seen.{ring_map, ring_memory}
use Rattle.vd_domain.proofs.Failing.{first_failing_all}
use Rattle.vr_split.specs.Reach.{Reaches, RingInReach}
use Rattle.vr_split.specs.ReachLemmas.{Reaches-ends, used_flags-reached, available_event-reached}
use Rattle.vr_split.specs.MemLemmas.{read-written_apart}
use Rattle.vr_driver.specs.Side.{DriverSide}
use Rattle.vr_driver.specs.Driver.{number16_or_zero, with_index, is_kick_asked, is_kick_needed}
use Rattle.vd_ring_memory.specs.RingPutLemmas.{ring_finite}
use Rattle.vd_ring_memory.proofs.RingTelling.{ring_reads}
use Rattle.vd_queue_sides.specs.Chains.{chains_of, IsSide}
use Rattle.vd_queue_sides.proofs.Daemons.{itself}
use Rattle.vd_queue_sides.proofs.Waiting.{added_same}
use Rattle.vd_rings.proofs.Lying.{IsLaid, map_of, no_span, coherent_reached}

-- a number of two bytes in coherent memory
pub number_is : (x : Setting) (acts : List Act) (m : Memory) → m ≡ ring_memory x acts → (at : ℕ) → ((a : ℕ) → at ≤ a → a < at + 2 → is_coherent acts a ≡ true) → number16_or_zero m at ≡ number_at x acts at
number_is x acts m seen at there = ap (λ r. result_unwrap_or (number16_of r) 0) (ring_reads x acts m seen at 2 None (first_failing_all (is_coherent acts) at 2 there))

-- 1 where a test holds, else 0
abbrev pub one_if : Bool → ℕ
one_if t = if t then 1 else 0

pub one_is : (t : Bool) → bool_byte t ≡ one_if t
one_is true = refl
one_is false = refl

-- bit 0
one_bit : (k : ℕ) → k < 2 → not (k == 1) ≡ (k == 0)
one_bit zero below = refl
one_bit (suc zero) below = refl
one_bit (suc (suc k)) below = absurd (omega arith)

pub no_notice : (n : ℕ) → not (bit_and n 1 == 1) ≡ (n % 2 == 0)
no_notice n = ap (λ k. not (k == 1)) (and_mask n 1) ∙ one_bit (n % 2) (omega arith)

whole_address : (start offset : ℕ) → start + offset < 2 ^ 64 → ring_address start offset ≡ start + offset
whole_address start offset h = grind (arith, common_steps)

-- what has an end has it under the name that reach asks for
pub has_end : (w : Memory) → IsFinite w → ForSome (Some w) IsFinite
has_end w finite m e = subst IsFinite (map_of e) finite

module _ (x : Setting) (acts : List Act) (w : Memory) (finite : IsFinite w) (seen : w ≡ ring_memory x acts) (place : RingPlace) (laid : IsLaid place) (reach : RingInReach (Some w) None place) where
  -- a field behind the available ring is read as it was before the available index was stored
  module _ (s : DriverSide) (same : s.place ≡ place) where
    number_after : (at : ℕ) → place.driver + 4 ≤ at → Reaches (Some w) None at 2 → number16_or_zero (with_index w s) at ≡ number_at x acts at
    number_after at low there =
        let end = Reaches-ends (Some w) None place.driver (6 + 2 * place.size) (has_end w finite) (no_span _) (omega arith) reach.driver in
        let index : available_index_at place ≡ place.driver + 2 = whole_address place.driver 2 (omega arith) in
        let before : available_index_at s.place + 2 ≤ at = subst (λ (p : RingPlace). available_index_at p + 2 ≤ at) (sym same) (subst (λ k. k + 2 ≤ at) (sym index) (omega arith)) in
        ap (λ r. result_unwrap_or (number16_of r) 0) (read-written_apart w (available_index_at s.place) (little_bytes 2 s.added) at 2 (inr before))
        ∙ number_is x acts w seen at (coherent_reached x acts w seen at 2 there)

    flags_after : number16_or_zero (with_index w s) (used_flags_at place) ≡ number_at x acts (used_flags_at place)
    flags_after =
        let low = laid.device_low in
        let end = Reaches-ends (Some w) None place.device (6 + 8 * place.size) (has_end w finite) (no_span _) (omega arith) reach.device in
        let at : used_flags_at place ≡ place.device + 0 = whole_address place.device 0 (omega arith) in
        number_after (used_flags_at place) (subst (λ k. place.driver + 4 ≤ k) (sym at) (omega arith)) (used_flags-reached (Some w) None place (has_end w finite) (no_span _) reach.device)

    event_after : number16_or_zero (with_index w s) (available_event_at place) ≡ number_at x acts (available_event_at place)
    event_after =
        let low = laid.device_low in
        let end = Reaches-ends (Some w) None place.device (6 + 8 * place.size) (has_end w finite) (no_span _) (omega arith) reach.device in
        let at : available_event_at place ≡ place.device + (4 + 8 * place.size) = whole_address place.device (4 + 8 * place.size) (omega arith) in
        number_after (available_event_at place) (subst (λ k. place.driver + 4 ≤ k) (sym at) (omega arith)) (available_event-reached (Some w) None place (has_end w finite) (no_span _) reach.device)

    asked : (new old : ℕ) (flag : Bool) → s.added ≡ new % 65536 → s.published ≡ old % 65536 → one_if (is_kick_asked (with_index w s) place flag s.added s.published)
        ≡ (if flag then one_if (needs_event (number_at x acts (available_event_at place)) (new % 65536) (old % 65536)) else one_if (number_at x acts (used_flags_at place) % 2 == 0))
    asked new old true a p =
        ap (λ n. one_if (needs_event n s.added s.published)) event_after
        ∙ ap (λ n. one_if (needs_event (number_at x acts (available_event_at place)) n s.published)) a
        ∙ ap (λ n. one_if (needs_event (number_at x acts (available_event_at place)) (new % 65536) n)) p
    asked new old false a p =
        ap (λ n. one_if (not (bit_and n 1 == 1))) flags_after
        ∙ ap one_if (no_notice (number_at x acts (used_flags_at place)))

-- what a publish tells of a kick is what the acts before it say
pub kick_over : (x : Setting) (acts : List Act) (q region : ℕ) (w : Memory) → IsFinite w → (s : DriverSide) (flag : Bool) → w ≡ ring_memory x acts → IsLaid s.place → RingInReach (Some w) None s.place
    → IsSide (chains_of acts q) region s → s.place.size ≤ 32768 → flag ≡ has_event_idx acts
    → one_if (is_kick_needed (with_index w s) s flag) ≡ wants_kick x acts s.place (added_count acts q) (published_count acts q)
kick_over x acts q region w finite s flag seen laid reach k small is = elim (eqb_tells s.added s.published) [
  | inl g ↦
      (ap (λ t. one_if (if t then false else is_kick_asked (with_index w s) s.place flag s.added s.published)) g.0
      ∙ sym (ap (λ t. if t then 0 else by_feature (has_event_idx acts)) (ap (λ n. n == published_count acts q) (added_same (chains_of acts q) region s k small g.1) ∙ itself (published_count acts q))))
  | inr g ↦
      (ap (λ t. one_if (if t then false else is_kick_asked (with_index w s) s.place flag s.added s.published)) g.0
      ∙ asked x acts w finite seen s.place laid reach s refl (added_count acts q) (published_count acts q) flag k.added k.published
      ∙ ap by_feature is
      ∙ sym (ap (λ t. if t then 0 else by_feature (has_event_idx acts)) (differ g.1)))
] where
  by_feature : Bool → ℕ
  by_feature t = if t then one_if (needs_event (number_at x acts (available_event_at s.place)) (added_count acts q % 65536) (published_count acts q % 65536)) else one_if (number_at x acts (used_flags_at s.place) % 2 == 0)

  differ : (s.added ≡ s.published → ⊥) → (added_count acts q == published_count acts q) ≡ false
  differ off = elim (eqb_tells (added_count acts q) (published_count acts q)) [
    | inl g ↦ absurd (off (k.added ∙ ap (λ n. n % 65536) g.1 ∙ sym k.published))
    | inr g ↦ g.0
  ]

-- the same of the memory that a domain shows
pub kick_is : (x : Setting) (acts : List Act) (q region : ℕ) (h : Held) (s : DriverSide) (flag : Bool) → ring_map h ≡ ring_memory x acts → IsLaid s.place → RingInReach (Some (ring_map h)) None s.place
    → IsSide (chains_of acts q) region s → s.place.size ≤ 32768 → flag ≡ has_event_idx acts
    → one_if (is_kick_needed (with_index (ring_map h) s) s flag) ≡ wants_kick x acts s.place (added_count acts q) (published_count acts q)
kick_is x acts q region h s flag seen laid reach k small is = kick_over x acts q region (ring_map h) (ring_finite h) s flag seen laid reach k small is
