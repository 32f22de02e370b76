-- What pending requests own, by their heads.
use Rattle.std.proofs.Common.{◌≡◌, ℕ, Bool, true, false, ◌==◌, if◌then◌else◌, refl, ap, sym, subst, ◌∙◌, List, [], ◌∷◌, Some, All, inl, inr, true≢false}
use Rattle.std.specs.Prelude.{find, map}
use Rattle.std.specs.List.{AllPairs}
use Rattle.std.proofs.lemmas.Bool.Decides.{eqb_tells}
use Rattle.std.proofs.lemmas.List.Elements.{All-head, All-tail}
use Rattle.vd_model.specs.Acts.{Request}
use Rattle.vd_model.specs.Queues.{has_map}
use Rattle.vd_domain.proofs.Holdings.{pairs_head, pairs_tail}
use Rattle.blk_driver.specs.Driver.{request_in, has_head}
use Rattle.blk_driver.specs.declared.pending.Pending.{Pending}
use Rattle.vd_request_laws.specs.Owned.{AreOthers}
use Rattle.vd_request_lines.proofs.Leasts.{none_some}

some_same : {X : Type 0} {a b : X} → Some a ≡ Some b → a ≡ b
some_same e = cc

-- what holds of each request holds of one that is found
pub found_request : (P : Request → Type 0) (ps : List Pending) (id : ℕ) (p : Pending) → All P (map request_in ps) → find (has_head id) ps ≡ Some p → P (request_in p)
found_request P [] id p all e = absurd (none_some e)
found_request P (a ∷ tail) id p all e = by (a.head == id) refl (found_request P tail id p (All-tail P (request_in a) (map request_in tail) all)) where
  by : (t : Bool) → (a.head == id) ≡ t → (find (has_head id) tail ≡ Some p → P (request_in p)) → P (request_in p)
  by true f rest = subst (λ (p : Pending). P (request_in p)) (some_same (sym (ap (λ t. if t then Some a else find (has_head id) tail) f) ∙ e)) (All-head P (request_in a) (map request_in tail) all)
  by false f rest = rest (sym (ap (λ t. if t then Some a else find (has_head id) tail) f) ∙ e)

not_both : (a b : Bool) → (a ≡ true → b ≡ false) → b ≡ true → a ≡ false
not_both true b off on = absurd (true≢false (sym on ∙ off refl))
not_both false b off on = refl

-- two requests of different heads have different mappings
pub other_maps : (ps : List Pending) → AllPairs AreOthers (map request_in ps) → (i j : ℕ) → (i == j) ≡ false → (p r : Pending) → find (has_head i) ps ≡ Some p → find (has_head j) ps ≡ Some r
    → (n : ℕ) → has_map n (Some (request_in p)) ≡ true → has_map n (Some (request_in r)) ≡ false
other_maps [] pairs i j off p r e f n there = absurd (none_some e)
other_maps (a ∷ tail) pairs i j off p r e f n there =
    by (a.head == i) refl (a.head == j) refl (other_maps tail (pairs_tail AreOthers (request_in a) (map request_in tail) pairs) i j off p r) where
      heads : All (AreOthers (request_in a)) (map request_in tail)
      heads = pairs_head AreOthers (request_in a) (map request_in tail) pairs

      first : (id : ℕ) (p : Pending) → (a.head == id) ≡ true → find (has_head id) (a ∷ tail) ≡ Some p → a ≡ p
      first id p g e = some_same (sym (ap (λ t. if t then Some a else find (has_head id) tail) g) ∙ e)

      later : (id : ℕ) (p : Pending) → (a.head == id) ≡ false → find (has_head id) (a ∷ tail) ≡ Some p → find (has_head id) tail ≡ Some p
      later id p g e = sym (ap (λ t. if t then Some a else find (has_head id) tail) g) ∙ e

      by : (t : Bool) → (a.head == i) ≡ t → (u : Bool) → (a.head == j) ≡ u
          → (find (has_head i) tail ≡ Some p → find (has_head j) tail ≡ Some r → (n : ℕ) → has_map n (Some (request_in p)) ≡ true → has_map n (Some (request_in r)) ≡ false)
          → has_map n (Some (request_in r)) ≡ false
      by true g true k rest = elim (eqb_tells a.head i) [
        | inl h ↦ absurd (true≢false (sym k ∙ ap (λ m. m == j) h.1 ∙ off))
        | inr h ↦ absurd (true≢false (sym g ∙ h.0))
      ]
      by true g false k rest =
          (found_request (AreOthers (request_in a)) tail j r heads (later j r k f)).maps n
          (ap (λ (p : Pending). has_map n (Some (request_in p))) (first i p g e) ∙ there)
      by false g true k rest =
          not_both (has_map n (Some (request_in r))) (has_map n (Some (request_in p)))
          (λ on. (found_request (AreOthers (request_in a)) tail i p heads (later i p g e)).maps n
          (ap (λ (p : Pending). has_map n (Some (request_in p))) (first j r k f) ∙ on)) there
      by false g false k rest = rest (later i p g e) (later j r k f) n there
