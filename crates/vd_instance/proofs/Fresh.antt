-- A device to whose queues nothing was done has no rings.
use Rattle.std.proofs.Common.{◌≡◌, ℕ, refl, sym, subst, ap, ◌∙◌, List, [], replicate, Option, Some, None}
use Rattle.std.specs.Prelude.{slice_index_or}
use Rattle.vd_model.specs.Acts.{Act}
use Rattle.vd_model.specs.Queues.{ring_of, chains_out, published_chains_out}
use Rattle.vd_queue_sides.proofs.Lists.{replicate_default}
use Rattle.vd_request_lines.specs.declared.held.HeldDriver.{HeldDriver}
use Rattle.vd_request_lines.specs.Stands.{RequestsStand, ArePending, chain_at}
use Rattle.vd_instance.specs.Stands.{HaveOwnRegions}

pub no_own : (acts : List Act) → ((q : ℕ) → ring_of acts q ≡ None) → HaveOwnRegions acts
no_own acts none q k r s e f same = absurd (clash (sym (none q) ∙ e)) where
  clash : None ≡ Some r → ⊥
  clash e = cc

-- no place has a ring
pub empty_stands : (acts : List Act) (n : ℕ) (places : List (Option HeldDriver)) → places ≡ replicate n None → ((q : ℕ) → ring_of acts q ≡ None) → ((q : ℕ) → chains_out acts q ≡ []) → ((q : ℕ) → published_chains_out acts q ≡ [])
    → (q : ℕ) → RequestsStand acts q (slice_index_or places q None)
empty_stands acts n places e ring added published q = subst (λ (k : Option HeldDriver). RequestsStand acts q k) (sym (ap (λ l. slice_index_or l q None) e ∙ replicate_default n None q)) (record {
  side = ring q;
  lies = tt;
  pending = subst (λ l. ArePending l []) (sym (added q)) refl;
  seen = λ id f. ap (λ l. chain_at l id) (published q ∙ sym (added q));
})
