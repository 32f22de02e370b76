-- Acts that leave a queue's ring as it is.
use Rattle.std.proofs.Common.{◌≡◌, ℕ, ◌+◌, Bool, true, false, refl, ap, ◌∙◌, cond, Option, None, Some, List, [], ◌∷◌, ◌++◌, length, ◌==◌, ◌&&◌, nat_lt, filter, is_some, ◌⊎◌, inl, inr, if◌then◌else◌}
use Rattle.vd_model.specs.Setting.{Setting}
use Rattle.vd_model.specs.Acts.{Act, Queue, Ring_made, Ring_dropped, Chain_added, Chains_published, Chain_reclaimed, Fetched, Finished}
use Rattle.vd_model.specs.Queues.{ring_of, added_count, reclaimed_count, chains_out, published_chains_out, is_other_chain, ends_position, before_first, finishes, in_hand}
use Rattle.vd_ring_laws.specs.Heads.{placed_heads, pushed_heads, head_in_hand, with_head}
use Rattle.vd_ring_laws.specs.ChainLaw.{have_descriptors}

-- the act is none on the queue's ring
abbrev pub IsElsewhere : ℕ → Act → Type 0
IsElsewhere q (Queue (Ring_made k place region)) = (k == q) ≡ false
IsElsewhere q (Queue (Ring_dropped k)) = (k == q) ≡ false
IsElsewhere q (Queue (Chain_added k chain)) = (k == q) ≡ false
IsElsewhere q (Queue (Chains_published k)) = (k == q) ≡ false
IsElsewhere q (Queue (Chain_reclaimed k head)) = (k == q) ≡ false
IsElsewhere q (Queue (Fetched k)) = (k == q) ≡ false
IsElsewhere q (Queue (Finished k)) = (k == q) ≡ false
IsElsewhere q _ = Unit {0}

abbrev pub AreElsewhere : ℕ → List Act → Type 0
AreElsewhere q [] = Unit {0}
AreElsewhere q (act ∷ acts) = IsElsewhere q act × AreElsewhere q acts

pub elsewhere_append : (q : ℕ) (xs ys : List Act) → AreElsewhere q xs → AreElsewhere q ys → AreElsewhere q (xs ++ ys)
elsewhere_append q [] ys h k = k
elsewhere_append q (act ∷ xs) ys h k = (h.0, elsewhere_append q xs ys h.1 k)

-- how often a ring of the queue was made
abbrev pub rings_made : List Act → ℕ → ℕ
rings_made [] q = 0
rings_made (Queue (Ring_made k place region) ∷ acts) q = if k == q then rings_made acts q + 1 else rings_made acts q
rings_made (_ ∷ acts) q = rings_made acts q

pub record Same (x : Setting) (later acts : List Act) (q : ℕ) : Type 0 where
  pub ring : ring_of later q ≡ ring_of acts q
  pub placed : placed_heads later q ≡ placed_heads acts q
  pub pushed : pushed_heads x later q ≡ pushed_heads x acts q
  pub out : chains_out later q ≡ chains_out acts q
  pub reclaimed : reclaimed_count later q ≡ reclaimed_count acts q
  pub published : published_chains_out later q ≡ published_chains_out acts q
  pub added : added_count later q ≡ added_count acts q
  pub have : have_descriptors later q ≡ have_descriptors acts q
  pub made : rings_made later q ≡ rings_made acts q
  -- the position stays or ends
  pub position : (before_first later q ≡ None) ⊎ ((before_first later q ≡ before_first acts q) × (finishes later q ≡ finishes acts q))
  pub hand : (in_hand later q ≡ None) ⊎ (in_hand later q ≡ in_hand acts q)

pub same_self : (x : Setting) (acts : List Act) (q : ℕ) → Same x acts acts q
same_self x acts q = record { ring = refl; placed = refl; pushed = refl; out = refl; reclaimed = refl; published = refl; added = refl; have = refl; made = refl; position = inr (refl, refl); hand = inr refl }

pub same_after : (x : Setting) (last later acts : List Act) (q : ℕ) → Same x last later q → Same x later acts q → Same x last acts q
same_after x last later acts q s t = record {
  ring = s.ring ∙ t.ring;
  placed = s.placed ∙ t.placed;
  pushed = s.pushed ∙ t.pushed;
  out = s.out ∙ t.out;
  reclaimed = s.reclaimed ∙ t.reclaimed;
  published = s.published ∙ t.published;
  added = s.added ∙ t.added;
  have = s.have ∙ t.have;
  made = s.made ∙ t.made;
  position = elim s.position [ inl e ↦ inl e | inr e ↦ elim t.position [ inl f ↦ inl (e.0 ∙ f) | inr f ↦ inr (e.0 ∙ f.0, e.1 ∙ f.1) ] ];
  hand = elim s.hand [ inl e ↦ inl e | inr e ↦ elim t.hand [ inl f ↦ inl (e ∙ f) | inr f ↦ inr (e ∙ f) ] ];
}

either_position : (b : Bool) (o : Option (List Act)) (n : ℕ) → (cond b None o ≡ None) ⊎ ((cond b None o ≡ o) × (cond b 0 n ≡ n))
either_position true o n = inl refl
either_position false o n = inr (refl, refl)

either_hand : (b : Bool) (o : Option (List Act)) → (cond b None o ≡ None) ⊎ (cond b None o ≡ o)
either_hand true o = inl refl
either_hand false o = inr refl

module _ (x : Setting) (q : ℕ) (acts : List Act) where
  one_same : (act : Act) → IsElsewhere q act → Same x (act ∷ acts) acts q
  one_same (Queue (Ring_made k place region)) e = record {
    ring = ap (λ b. cond b (Some (record { place = place; region = region })) (ring_of acts q)) e;
    placed = ap (λ b. cond b [] (placed_heads acts q)) e;
    pushed = ap (λ b. cond b [] (pushed_heads x acts q)) e;
    out = ap (λ b. cond b [] (chains_out acts q)) e;
    reclaimed = ap (λ b. cond b 0 (reclaimed_count acts q)) e;
    published = ap (λ b. cond b [] (published_chains_out acts q)) e;
    added = ap (λ b. cond b 0 (added_count acts q)) e;
    have = ap (λ b. cond b true (have_descriptors acts q)) e;
    made = ap (λ b. cond b (rings_made acts q + 1) (rings_made acts q)) e;
    position = inr (refl, refl);
    hand = inr refl;
  }
  one_same (Queue (Ring_dropped k)) e = record {
    ring = ap (λ b. cond b None (ring_of acts q)) e;
    placed = refl;
    pushed = refl;
    out = ap (λ b. cond b [] (chains_out acts q)) e;
    reclaimed = refl;
    published = ap (λ b. cond b [] (published_chains_out acts q)) e;
    added = refl;
    have = refl;
    made = refl;
    position = inr (refl, refl);
    hand = inr refl;
  }
  one_same (Queue (Chain_added k chain)) e = record {
    ring = refl;
    placed = ap (λ b. cond (b && is_some chain.request) (placed_heads acts q ++ chain.head ∷ []) (placed_heads acts q)) e;
    pushed = refl;
    out = ap (λ b. cond b (chains_out acts q ++ chain ∷ []) (chains_out acts q)) e;
    reclaimed = refl;
    published = refl;
    added = ap (λ b. cond b (added_count acts q + 1) (added_count acts q)) e;
    have = ap (λ b. cond b (nat_lt 0 (length chain.descriptors) && have_descriptors acts q) (have_descriptors acts q)) e;
    made = refl;
    position = inr (refl, refl);
    hand = inr refl;
  }
  one_same (Queue (Chains_published k)) e = record {
    ring = refl;
    placed = refl;
    pushed = refl;
    out = refl;
    reclaimed = refl;
    published = ap (λ b. cond b (chains_out acts q) (published_chains_out acts q)) e;
    added = refl;
    have = refl;
    made = refl;
    position = inr (refl, refl);
    hand = inr refl;
  }
  one_same (Queue (Chain_reclaimed k head)) e = record {
    ring = refl;
    placed = refl;
    pushed = refl;
    out = ap (λ b. cond b (filter (is_other_chain head) (chains_out acts q)) (chains_out acts q)) e;
    reclaimed = ap (λ b. cond b (reclaimed_count acts q + 1) (reclaimed_count acts q)) e;
    published = ap (λ b. cond b (filter (is_other_chain head) (published_chains_out acts q)) (published_chains_out acts q)) e;
    added = refl;
    have = refl;
    made = refl;
    position = inr (refl, refl);
    hand = inr refl;
  }
  one_same (Queue (Fetched k)) e = record {
    ring = refl;
    placed = refl;
    pushed = refl;
    out = refl;
    reclaimed = refl;
    published = refl;
    added = refl;
    have = refl;
    made = refl;
    position = inr (ap (λ b. cond b (cond (is_some (before_first acts q)) (before_first acts q) (Some acts)) (before_first acts q)) e, refl);
    hand = inr (ap (λ b. cond b (Some acts) (in_hand acts q)) e);
  }
  one_same (Queue (Finished k)) e = record {
    ring = refl;
    placed = refl;
    pushed = ap (λ b. cond b (with_head (pushed_heads x acts q) (head_in_hand x acts q)) (pushed_heads x acts q)) e;
    out = refl;
    reclaimed = refl;
    published = refl;
    added = refl;
    have = refl;
    made = refl;
    position = inr (refl, ap (λ b. cond b (finishes acts q + 1) (finishes acts q)) e);
    hand = inr (ap (λ b. cond b None (in_hand acts q)) e);
  }
  one_same act e = record {
    ring = refl;
    placed = refl;
    pushed = refl;
    out = refl;
    reclaimed = refl;
    published = refl;
    added = refl;
    have = refl;
    made = refl;
    position = either_position (ends_position q act) (before_first acts q) (finishes acts q);
    hand = either_hand (ends_position q act) (in_hand acts q);
  }

pub same_by : (x : Setting) (q : ℕ) (new acts : List Act) → AreElsewhere q new → Same x (new ++ acts) acts q
same_by x q [] acts e = same_self x acts q
same_by x q (act ∷ new) acts e = same_after x (act ∷ new ++ acts) (new ++ acts) acts q (one_same x q (new ++ acts) act e.0) (same_by x q new acts e.1)
