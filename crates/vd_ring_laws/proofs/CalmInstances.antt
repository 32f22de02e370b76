-- A small history is calm, and computes.
use Rattle.std.proofs.Common.{◌<◌, ◌^◌, arith, ◌≡◌, ℕ, refl, subst, sym, None, [], ◌∷◌, Some, inl, inr}
use Rattle.std.specs.Int.Count.{ones}
use Rattle.vd_num.specs.Number.{power_from, doubled_to}
use Rattle.vd_model.specs.declared.parts.Part.{Part}
use Rattle.vd_model.specs.Memory.{read}
use Rattle.vd_model.specs.Place.{greatest, place_of}
use Rattle.vd_model.specs.Trace.{ending_at, ending_within}
use Rattle.vd_model.specs.State.{Max_set, Num_set}
use Rattle.vd_model.specs.Queues.{ring_of}
use Rattle.vd_model.specs.History.{History, deeds_of}
use Rattle.vd_laws.specs.Among.{Among}
use Rattle.vd_laws.specs.Runs.{acts_of}
use Rattle.vd_laws.specs.Small.{v, history_of, dev}
use Rattle.vd_ring_laws.specs.Calm.{IsCalm}
use Rattle.vd_ring_laws.specs.Heads.{placed_heads, pushed_heads, head_in_hand}
use Rattle.vd_ring_laws.specs.TraceLaw.{IsWritten}
use Rattle.vd_ring_laws.specs.CalmInstances.{small, ring, number, addresses, ready, submit, fetch, execute, finish, run, fetched, parts, table, two_descriptors, CalmInstances}
use Rattle.vd_ring_laws.proofs.CalmRuns.{Each, AreDescribed, described_is, idle_is, told, there, calm_run}

placed_is : placed_heads (acts_of small run v) 0 ≡ 0 ∷ 2 ∷ []
unfolding deeds_of place_of greatest power_from doubled_to read ending_at ending_within ones
placed_is = refl

pushed_is : pushed_heads small (acts_of small run v) 0 ≡ 0 ∷ []
unfolding deeds_of place_of greatest power_from doubled_to read ending_at ending_within ones
pushed_is = refl

next_is : head_in_hand small (acts_of small fetched v) 0 ≡ Some 2
unfolding deeds_of place_of greatest power_from doubled_to read ending_at ending_within ones
next_is = refl

-- ---- the history is calm

-- the lines before the first of the span, and the span
abbrev start : History
start = history_of (dev v ∷ [])

abbrev span : History
span = history_of (finish ∷ execute ∷ fetch ∷ submit ∷ submit ∷ ready ∷ addresses ∷ number ∷ ring ∷ [])

no_ring : (q : ℕ) → ring_of (acts_of small start v) q ≡ None
unfolding deeds_of
no_ring q = refl

all_described : Each (AreDescribed small) run
unfolding deeds_of place_of greatest power_from doubled_to read ending_at ending_within ones
all_described = (
  described_is small run refl (record { ring = there; there = refl; same = refl }),
  (
    described_is small (history_of (execute ∷ fetch ∷ submit ∷ submit ∷ ready ∷ addresses ∷ number ∷ ring ∷ dev v ∷ [])) refl (record { ring = there; there = refl; same = refl }),
    (
      described_is small (history_of (fetch ∷ submit ∷ submit ∷ ready ∷ addresses ∷ number ∷ ring ∷ dev v ∷ [])) refl (record { ring = there; there = refl; same = refl }),
      (
        described_is small (history_of (submit ∷ submit ∷ ready ∷ addresses ∷ number ∷ ring ∷ dev v ∷ [])) refl (record { ring = there; there = refl; same = refl }),
        (
          described_is small (history_of (submit ∷ ready ∷ addresses ∷ number ∷ ring ∷ dev v ∷ [])) refl (record { ring = there; there = refl; same = refl }),
          (
            described_is small (history_of (ready ∷ addresses ∷ number ∷ ring ∷ dev v ∷ [])) refl (record { ring = there; there = refl; same = refl }),
            (
              idle_is small (history_of (addresses ∷ number ∷ ring ∷ dev v ∷ [])) told refl (λ q. refl),
              (
                idle_is small (history_of (number ∷ ring ∷ dev v ∷ [])) (Num_set 0 4 ∷ Max_set 0 256 ∷ []) refl (λ q. refl),
                (
                  idle_is small (history_of (ring ∷ dev v ∷ [])) (Max_set 0 256 ∷ []) refl (λ q. refl),
                  (
                    idle_is small (history_of (dev v ∷ [])) (Max_set 0 256 ∷ []) refl (λ q. refl),
                    idle_is small (history_of ([])) [] refl (λ q. refl),
                  ),
                ),
              ),
            ),
          ),
        ),
      ),
    ),
  ),
)

calm_is : IsCalm small run v
calm_is = calm_run small start span (tt, (tt, (tt, (tt, (tt, (tt, (tt, (tt, (tt, tt))))))))) no_ring all_described (refl, (refl, (refl, (refl, (refl, (refl, (refl, (refl, (refl, tt)))))))))

-- ---- a written table

low_two : (d : ℕ) → Among d (0 ∷ 1 ∷ []) → d < 2
low_two d (inl e) = omega arith
low_two d (inr (inl e)) = omega arith
low_two d (inr (inr h)) = absurd h

words_two : (part : Part) → Among part parts → (part.at < 2 ^ 64) × (part.len < 2 ^ 32)
words_two part (inl e) = subst (λ p. (p.at < 2 ^ 64) × (p.len < 2 ^ 32)) (sym e) (omega arith, omega arith)
words_two part (inr (inl e)) = subst (λ p. (p.at < 2 ^ 64) × (p.len < 2 ^ 32)) (sym e) (omega arith, omega arith)
words_two part (inr (inr h)) = absurd h

other_two : Among {X = ℕ} 0 (1 ∷ []) → ⊥
other_two (inl e) = cc
other_two (inr h) = absurd h

written_is : IsWritten two_descriptors table parts (0 ∷ 1 ∷ [])
unfolding read
written_is = record {
  linked = (refl, refl);
  distinct = (other_two, ((λ h. absurd h), tt));
  low = low_two;
  size = omega arith;
  ends = omega arith;
  words = words_two;
  ordered = refl;
  short = omega arith;
}

pub calm_met : CalmInstances
calm_met = record { calm = calm_is; placed_two = placed_is; pushed_one = pushed_is; next = next_is; written = written_is }
