-- Each step keeps the rule of the journal.
use Rattle.std.proofs.Common.{◌≡◌, ◌≢◌, ◌⊎◌, ℕ, zero, suc, ◌-◌, ◌<◌, List, [], ◌∷◌, ◌++◌, length, set, Bool, true, false, true≢false, refl, sym, ap, ◌∙◌, subst, ⊎_elim, inl, inr, arith, length-append, append-nil}
use mathlib.Core.Option.{some, none, some-injective, some-ne-none}
use mathlib.Core.List.{IsPrefix}
use native.Mathlib.Decide.{ℕ_discrete}
use lib.ListN.{get_elem?}
use Rattle.atomic_table.specs.Table.{State, step, keeps, Allows, Splits, Joins}
use Rattle.atomic_table.proofs.Lists.{at_set, set_else}
use Rattle.sh_parts.specs.declared.entry.Entry.{Entry}
use Rattle.sh_parts.specs.declared.view.View.{View}
use Rattle.sh_parts.specs.Views.{keeper, nobody, with_entry, all_noted, last_note, meeting, without_meeting}
use Rattle.sh_parts.specs.Rule.{IsNoted, Fits, Kept}
use Rattle.sh_parts.specs.Steps.{Saw, Appends, Looks}
use Rattle.sh_parts.proofs.Fronts.{prefix_longer, prefix_either}

off : false ≡ true → ⊥
off e = true≢false (sym e)

at_end : {A : Type 0} (l : List A) (a b : A) (j : ℕ) → get_elem? (l ++ a ∷ []) j ≡ some b → (get_elem? l j ≡ some b) ⊎ ((a ≡ b) × (j ≡ length l))
at_end [] a b zero e = inr (some-injective a b e, refl)
at_end [] a b (suc j) e = absurd (some-ne-none b (sym e))
at_end (x ∷ xs) a b zero e = inl e
at_end (x ∷ xs) a b (suc j) e = ⊎_elim (λ (h : get_elem? xs j ≡ some b). inl h) (λ (h : (a ≡ b) × (j ≡ length xs)). inr (h.0, omega (arith, h.1))) (at_end xs a b j e)

-- the owners, where one place gets another
changed : (ℕ → ℕ × Bool) → ℕ → ℕ × Bool → ℕ → ℕ × Bool
changed owner place new p = elim (ℕ_discrete p place) as (λ _. ℕ × Bool) [ yes e ↦ new | no ne ↦ owner p ]

changed_here : (owner : ℕ → ℕ × Bool) (place : ℕ) (new : ℕ × Bool) (p : ℕ) → p ≡ place → changed owner place new p ≡ new
unfolding changed
changed_here owner place new p is = elim (ℕ_discrete p place) as (λ d. elim d as (λ _. ℕ × Bool) [ yes e ↦ new | no ne ↦ owner p ] ≡ new) [ yes e ↦ refl | no ne ↦ absurd (ne is) ]

changed_else : (owner : ℕ → ℕ × Bool) (place : ℕ) (new : ℕ × Bool) (p : ℕ) → p ≢ place → changed owner place new p ≡ owner p
unfolding changed
changed_else owner place new p isnt = elim (ℕ_discrete p place) as (λ d. elim d as (λ _. ℕ × Bool) [ yes e ↦ new | no ne ↦ owner p ] ≡ owner p) [ yes e ↦ absurd (isnt e) | no ne ↦ refl ]

pub begins : Kept (keeper [] 0 ∷ [])
begins = (0, [], 0, (λ _. (0, false)), omega arith, one)
  where
    one : (by : ℕ) (v : View) → get_elem? (keeper [] 0 ∷ []) by ≡ some v → Fits 0 [] 0 (λ _. (0, false)) by v
    one zero v e = subst (Fits 0 [] 0 (λ _. (0, false)) 0) (some-injective _ _ e) ((λ _. (refl, refl, refl)), (λ c. absurd (off c)), (λ c. absurd (off c)))
    one (suc by) v e = absurd (some-ne-none v (sym e))

-- a new view at one seat
each_set : (F : ℕ → View → Type 0) (views : List View) (by : ℕ) (w : View) → ((j : ℕ) (u : View) → j ≢ by → get_elem? views j ≡ some u → F j u) → F by w → (j : ℕ) (u : View) → get_elem? (set views by w) j ≡ some u → F j u
each_set F views by w others mine j u e =
    ⊎_elim
    (λ (x : (j ≡ by) × (w ≡ u)). subst (λ (y : ℕ × View). F y.0 y.1) (λ i. (sym x.0 i, x.1 i)) mine)
    (λ (x : (j ≢ by) × (get_elem? views j ≡ some u)). others j u x.0 x.1)
    (at_set views by j w u e)

longer : (journal : List Entry) (noted : ℕ) (e : Entry) (es : List Entry) (p : ℕ) → IsNoted journal noted es p → IsNoted (journal ++ e ∷ []) noted es p
longer journal noted e es p n = (prefix_longer es journal (e ∷ []) n.0, n.1, n.2)

pub append_allowed : (slots id : ℕ) (m : Saw) (e : Entry) → m.0.keeps ≡ true
    → Allows (λ s. Kept s.views) slots id m 0 (λ n. n) (Appends e (step slots 0 0 0 none) m)
append_allowed slots id m e keeps' s (seat, journal, noted, owner, within, each) wide here bound =
    let v : View = m.0 in
    let w : View = with_entry v e in
    let mine = each id v here in
    let own = mine.0 keeps' in
    let F : ℕ → View → Type 0 = Fits seat (journal ++ e ∷ []) noted owner in
    let F_mine : F id w = (
      (λ _. (own.0, ap (λ l. l ++ e ∷ []) own.1, own.2)),
      (λ c. let t = mine.1 c in (longer journal noted e v.entries v.place t.0, t.1)),
      (λ c. let t = mine.2 c in (longer journal noted e v.met_entries v.met_place t.0, t.1)),
    ) in
    let others : (j : ℕ) (u : View) → j ≢ id → get_elem? s.views j ≡ some u → F j u = λ j u apart at. let t = each j u at in (
      (λ k. absurd (apart ((t.0 k).0 ∙ sym own.0))),
      (λ c. let x = t.1 c in (longer journal noted e u.entries u.place x.0, x.1)),
      (λ c. let x = t.2 c in (longer journal noted e u.met_entries u.met_place x.0, x.1)),
    ) in
    (w, keeps, tt, (seat, journal ++ e ∷ [], noted, owner, omega (arith, length-append journal (e ∷ []), within), each_set F s.views id w others F_mine), (refl, refl))

pub look_allowed : (slots id : ℕ) (m : Saw)
    → Allows (λ s. Kept s.views) slots id m 0 (λ n. n) (Looks (step slots 0 0 0 none) m)
look_allowed slots id m s (seat, journal, noted, owner, within, each) wide here bound =
    let v : View = m.0 in
    let w : View = without_meeting v in
    let mine = each id v here in
    let F : ℕ → View → Type 0 = Fits seat journal noted owner in
    let F_mine : F id w = (mine.0, mine.1, (λ c. absurd (off c))) in (
      w,
      keeps,
      tt,
      (seat, journal, noted, owner, within, each_set F s.views id w (λ j u apart at. each j u at) F_mine),
      (
        refl,
        refl,
        (λ met keeps'. subst (λ (l : List Entry). IsPrefix v.met_entries l) (sym (mine.0 keeps').1) (mine.2 met).0.0),
        (λ met claims. let a = mine.1 claims in let b = mine.2 met in (
          (λ is. off (ap (λ (x : ℕ × Bool). x.1) (sym a.1 ∙ ap owner is ∙ b.1))),
          prefix_either v.entries v.met_entries journal a.0.0 b.0.0,
        )),
      ),
    )

pub note_allowed : (id : ℕ) (v : View) → v.keeps ≡ true → v.noted < length v.journal
    → Splits (λ (s : State (Unit {0}) View). Kept s.views) id v (all_noted v) (last_note v)
note_allowed id v keeps' room s (seat, journal, noted, owner, within, each) here =
    let l : View = all_noted v in
    let r : View = last_note v in
    let mine = each id v here in
    let own = mine.0 keeps' in
    let size : length v.journal ≡ length journal = ap length own.1 in
    let place : ℕ = length v.journal - 1 in
    let end : ℕ = length (set s.views id l) in
    let owner' : ℕ → ℕ × Bool = changed owner place (end, false) in
    let F : ℕ → View → Type 0 = Fits seat journal (length journal) owner' in
    let below : (p : ℕ) → p < noted → p ≢ place = λ p lt is. omega (arith, lt, is, room, own.2, size) in
    let moved : (es : List Entry) (p : ℕ) (x : ℕ × Bool) → IsNoted journal noted es p × (owner p ≡ x) → IsNoted journal (length journal) es p × (owner' p ≡ x)
    = λ es p x t. ((t.0.0, t.0.1, omega (arith, t.0.2, within)), changed_else owner place (end, false) p (below p t.0.2) ∙ t.1) in
    let F_left : F id l = ((λ _. (own.0, own.1, size)), (λ c. moved v.entries v.place _ (mine.1 c)), (λ c. moved v.met_entries v.met_place _ (mine.2 c))) in
    let F_old : (j : ℕ) (u : View) → get_elem? (set s.views id l) j ≡ some u → F j u = each_set F s.views id l
    (λ j u apart at. let t = each j u at in ((λ k. absurd (apart ((t.0 k).0 ∙ sym own.0))), (λ c. moved u.entries u.place _ (t.1 c)), (λ c. moved u.met_entries u.met_place _ (t.2 c)))) F_left in
    let F_new : F end r = ((λ k. absurd (off k)), (λ c. ((([], append-nil v.journal ∙ own.1), omega (arith, room), omega (arith, room, size)), changed_here owner place (end, false) place refl)), (λ c. absurd (off c))) in (
      seat,
      journal,
      length journal,
      owner',
      omega arith,
      λ j u at. ⊎_elim
          (λ (old : get_elem? (set s.views id l) j ≡ some u). F_old j u old)
          (λ (new : (r ≡ u) × (j ≡ end)). subst (λ (y : ℕ × View). F y.0 y.1) (λ i. (sym new.1 i, new.0 i)) F_new)
          (at_end (set s.views id l) r u j at),
    )

pub meet_allowed : (id : ℕ) (v : View) (other : ℕ) (w : View) → w.claims ≡ true
    → Joins (λ (s : State (Unit {0}) View). Kept s.views) id v other w (meeting v w) nobody
meet_allowed id v other w claims s (seat, journal, noted, owner, within, each) here apart there =
    let b : View = meeting v w in
    let there' : get_elem? s.views other ≡ some w = sym (set_else s.views id other b apart) ∙ there in
    let mine = each id v here in
    let theirs = (each other w there').1 claims in
    let owner' : ℕ → ℕ × Bool = changed owner w.place (id, true) in
    let F : ℕ → View → Type 0 = Fits seat journal noted owner' in
    let moved : (es : List Entry) (p : ℕ) (x : ℕ × Bool) → x ≢ (other, false) → IsNoted journal noted es p × (owner p ≡ x) → IsNoted journal noted es p × (owner' p ≡ x)
    = λ es p x ne t. (t.0, changed_else owner w.place (id, true) p (λ is. ne (sym t.1 ∙ ap owner is ∙ theirs.1)) ∙ t.1) in
    let of_others : (j : ℕ) (u : View) → j ≢ other → Fits seat journal noted owner j u → (u.met ≡ true → IsNoted journal noted u.met_entries u.met_place × (owner' u.met_place ≡ (j, true))) × (u.claims ≡ true → IsNoted journal noted u.entries u.place × (owner' u.place ≡ (j, false)))
    = λ j u ne t. (
      (λ c. moved u.met_entries u.met_place (j, true) (λ is. true≢false (ap (λ (x : ℕ × Bool). x.1) is)) (t.2 c)),
      (λ c. moved u.entries u.place (j, false) (λ is. ne (ap (λ (x : ℕ × Bool). x.0) is)) (t.1 c)),
    ) in
    let F_both : F id b = (mine.0, (of_others id v (λ e. apart (sym e)) mine).1, (λ c. (theirs.0, changed_here owner w.place (id, true) w.place refl))) in
    let F_spent : F other nobody = ((λ k. absurd (off k)), (λ c. absurd (off c)), (λ c. absurd (off c))) in
    let apart_id : (j : ℕ) (u : View) → j ≢ other → get_elem? (set s.views id b) j ≡ some u → F j u
    = λ j u ne at. ⊎_elim
    (λ (x : (j ≡ id) × (b ≡ u)). subst (λ (y : ℕ × View). F y.0 y.1) (λ i. (sym x.0 i, x.1 i)) F_both)
    (λ (x : (j ≢ id) × (get_elem? s.views j ≡ some u)). let t = each j u x.1 in ((t.0), (of_others j u ne t).1, (of_others j u ne t).0))
    (at_set s.views id j b u at) in
    (seat, journal, noted, owner', within, each_set F (set s.views id b) other nobody (λ j u ne at. apart_id j u ne at) F_spent)
