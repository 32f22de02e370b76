-- What the driver's side counts and tests is what the acts say.
use Rattle.std.proofs.Common.{◌≡◌, ℕ, zero, suc, ◌%◌, ◌≤◌, Bool, true, false, ◌==◌, ◌||◌, ◌&&◌, inl, inr, refl, ap, sym, subst, ◌∙◌, arith, List, [], ◌∷◌, length, Some, None, Option, true≢false, get_or}
use Rattle.std.specs.Prelude.{find, if◌then◌else◌}
use Rattle.std.specs.Option.{option_map}
use Rattle.std.proofs.lemmas.Bool.Decides.{eqb_tells, leb_tells}
use Rattle.vd_model.specs.Acts.{AddedChain}
use Rattle.vd_model.specs.Rings.{minus16}
use Rattle.vr_driver.specs.Side.{DriverSide, waiting, is_waiting, is_owner}
use Rattle.vd_queue_sides.specs.Chains.{Chains, holds, owner_of, is_head, EachChain, IsSide}
use Rattle.vd_queue_sides.proofs.Daemons.{itself}
use Rattle.vd_queue_sides.proofs.Lists.{or_left, or_right}
use Rattle.vd_queue_sides.proofs.Counting.{at_most, between, same_index}

past : (xs : List (Option ℕ)) (d : ℕ) → length xs ≤ d → get_or xs d None ≡ None
past [] d below = refl
past (x ∷ xs) zero below = absurd (omega arith)
past (x ∷ xs) (suc d) below = past xs d (omega arith)

-- an owner is a head
owner_head : (chains : List AddedChain) (d o : ℕ) → owner_of chains d ≡ Some o → is_head chains o ≡ true
owner_head [] d o e = absurd (cc)
owner_head (c ∷ cs) d o e = by (holds d c) refl (owner_head cs d o) where
  same : Some c.head ≡ Some o → c.head ≡ o
  same e = cc

  by : (t : Bool) → holds d c ≡ t → (owner_of cs d ≡ Some o → is_head cs o ≡ true) → ((c.head == o) || is_head cs o) ≡ true
  by true f rest = or_left (c.head == o) (is_head cs o) (ap (λ k. k == o) (same (sym (ap (λ t. option_map (λ (c : AddedChain). c.head) (if t then Some c else find (holds d) cs)) f) ∙ e)) ∙ itself o)
  by false f rest = or_right (c.head == o) (is_head cs o) (rest (sym (ap (λ t. option_map (λ (c : AddedChain). c.head) (if t then Some c else find (holds d) cs)) f) ∙ e))

-- a head is its own owner
head_owner : (chains : List AddedChain) (d : ℕ) (o : Option ℕ) → EachChain (λ c. holds c.head c ≡ true) chains → EachChain (λ c. holds d c ≡ true → o ≡ Some c.head) chains → is_head chains d ≡ true → o ≡ Some d
head_owner [] d o all apart e = absurd (true≢false (sym e))
head_owner (c ∷ cs) d o all apart e = elim (eqb_tells c.head d) [
  | inl h ↦ (apart.0 (subst (λ k. holds k c ≡ true) h.1 all.0) ∙ ap Some h.1)
  | inr h ↦ head_owner cs d o all.1 apart.1 (later (c.head == d) (is_head cs d) e h.0)
] where
  later : (a b : Bool) → (a || b) ≡ true → a ≡ false → b ≡ true
  later true b e off = absurd (true≢false off)
  later false b e off = e

module _ (c : Chains) (region : ℕ) (s : DriverSide) (k : IsSide c region s) (small : s.place.size ≤ 32768) where
  pub out_few : length c.out ≤ s.place.size
  out_few = at_most s.place.size c.out k.lone k.inside

  pub seen_few : length c.seen ≤ s.place.size
  seen_few = at_most s.place.size c.seen k.lone_seen (λ d e. k.inside d (k.known d e))

  -- how many published chains aren't reclaimed
  pub waiting_is : waiting s ≡ length c.seen
  waiting_is =
      let few = seen_few in
      ap (λ p. minus16 p s.reclaimed) k.published ∙ ap (λ r. minus16 (c.published % 65536) r) k.reclaimed
      ∙ between c.reclaimed c.published (length c.seen) k.seen_count (omega arith)

  -- where the indices agree, nothing was added since the last publish
  pub added_same : s.added ≡ s.published → c.added ≡ c.published
  added_same e =
      let few = seen_few in
      let more = out_few in
      same_index c.reclaimed c.added c.published (length c.out) (length c.seen) k.added_count k.seen_count (omega arith) (omega arith) (sym k.added ∙ e ∙ k.published)

  -- the number is the head of a published chain
  pub is_waiting_is : (id : ℕ) → is_waiting s id ≡ is_head c.seen id
  is_waiting_is id = by (is_head c.out id) refl where
    tell : (o : Option ℕ) → get_or s.owners id None ≡ o → is_owner id o ≡ true → o ≡ Some id
    tell None e h = absurd (true≢false (sym h))
    tell (Some o) e h = elim (eqb_tells o id) [ inl g ↦ ap Some g.1 | inr g ↦ absurd (true≢false (sym h ∙ g.0)) ]

    unseen : is_head c.out id ≡ false → (t : Bool) → is_head c.seen id ≡ t → false ≡ t
    unseen off false e = refl
    unseen off true e = absurd (true≢false (sym (k.known id e) ∙ off))

    owned : get_or s.owners id None ≡ Some id → is_head c.out id ≡ true
    owned e = elim (leb_tells s.place.size id) [
      | inr below ↦ owner_head c.out id id (sym (k.owners id below.1) ∙ e)
      | inl above ↦ (let far = above.1 in let len = k.owners_len in absurd (none (sym (past s.owners id (omega arith)) ∙ e)))
    ] where
      none : None ≡ Some id → ⊥
      none e = cc

    not_owner : is_head c.out id ≡ false → (t : Bool) → is_owner id (get_or s.owners id None) ≡ t → t ≡ false
    not_owner off false e = refl
    not_owner off true e = absurd (true≢false (sym (owned (tell (get_or s.owners id None) refl e)) ∙ off))

    by : (t : Bool) → is_head c.out id ≡ t → (is_owner id (get_or s.owners id None) && get_or s.announced id false) ≡ is_head c.seen id
    by true e =
        let inside = k.inside id e in
        let own : get_or s.owners id None ≡ Some id = k.owners id inside ∙ head_owner c.out id (owner_of c.out id) k.headed (k.apart id) e in
        ap (λ o. is_owner id o && get_or s.announced id false) own ∙ ap (λ t. t && get_or s.announced id false) (itself id) ∙ k.announced id e
    by false e =
        ap (λ t. t && get_or s.announced id false) (not_owner e (is_owner id (get_or s.owners id None)) refl) ∙ unseen e (is_head c.seen id) refl
