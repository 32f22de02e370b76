-- The pending request of least head, and those that are left without it.
use Rattle.std.proofs.Common.{◌≡◌, ℕ, suc, ◌<◌, ◌≤◌, Bool, true, false, ◌==◌, if◌then◌else◌, nat_le, refl, ap, sym, subst, ◌∙◌, arith, List, [], ◌∷◌, length, Some, None, Option, inl, inr, true≢false}
use Rattle.std.specs.Prelude.{find, fold}
use Rattle.std.specs.Option.{option_map}
use Rattle.std.proofs.lemmas.Bool.Decides.{eqb_tells, nat_tests}
use Rattle.vd_queue_sides.proofs.Daemons.{itself}
use Rattle.blk_driver.specs.Driver.{has_head, without_first, lesser, least_of, made_in}
use Rattle.blk_driver.specs.declared.pending.Pending.{Pending}
use Rattle.blk_driver.specs.declared.driver.Made.{Made}
use Rattle.vd_request_lines.specs.Ending.{AreLone}

some_same : {X : Type 0} {a b : X} → Some a ≡ Some b → a ≡ b
some_same e = cc

pub none_some : {X : Type 0} {a : X} → None ≡ Some a → ⊥
none_some e = cc

is_same : (a b : ℕ) → (a == b) ≡ true → a ≡ b
is_same a b e = elim (eqb_tells a b) [ inl h ↦ h.1 | inr h ↦ absurd (true≢false (sym e ∙ h.0)) ]

-- ---- the first of some requests, by its head

hit : (p : Pending) (ps : List Pending) (id : ℕ) → (p.head == id) ≡ true → find (has_head id) (p ∷ ps) ≡ Some p
hit p ps id on = ap (λ t. if t then Some p else find (has_head id) ps) on

skip : (p : Pending) (ps : List Pending) (id : ℕ) → (p.head == id) ≡ false → find (has_head id) (p ∷ ps) ≡ find (has_head id) ps
skip p ps id off = ap (λ t. if t then Some p else find (has_head id) ps) off

pub above : (a b : ℕ) → b < a → (a == b) ≡ false
above a b more = elim (eqb_tells a b) [ inl h ↦ absurd (let same = h.1 in omega (arith, more, same)) | inr h ↦ h.0 ]

-- it is found by its head, and none has a lower one
pub record IsLeast (ps : List Pending) (p : Pending) : Type 0 where
  pub found : find (has_head p.head) ps ≡ Some p
  pub less : (id : ℕ) → id < p.head → find (has_head id) ps ≡ None

least_after : (a : Pending) (ps : List Pending) (p : Pending) → fold lesser (Some a) ps ≡ Some p → IsLeast (a ∷ ps) p × (p.head ≤ a.head)
least_after a [] p e =
    subst (λ (p : Pending). IsLeast (a ∷ []) p × (p.head ≤ a.head)) (some_same e)
    (record { found = hit a [] a.head (itself a.head); less = λ id low. skip a [] id (above a.head id low) }, omega arith)
least_after a (b ∷ bs) p e = by (nat_le a.head b.head) refl (least_after a bs p) (least_after b bs p) where
  by : (t : Bool) → nat_le a.head b.head ≡ t → (fold lesser (Some a) bs ≡ Some p → IsLeast (a ∷ bs) p × (p.head ≤ a.head))
      → (fold lesser (Some b) bs ≡ Some p → IsLeast (b ∷ bs) p × (p.head ≤ b.head)) → IsLeast (a ∷ b ∷ bs) p × (p.head ≤ a.head)
  by true f first next =
      let rest = first (sym (ap (λ t. fold lesser (if t then Some a else Some b) bs) f) ∙ e) in
      let low = rest.1 in
      let order : a.head ≤ b.head = grind (arith, nat_tests, f) in (
        record {
          found = at_head (a.head == p.head) refl rest.0 low order;
          less = λ id less.
              skip a (b ∷ bs) id (above a.head id (omega (arith, less, low)))
              ∙ skip b bs id (above b.head id (omega (arith, less, low, order)))
              ∙ sym (skip a bs id (above a.head id (omega (arith, less, low))))
              ∙ rest.0.less id less;
        },
        low,
      ) where
        at_head : (t : Bool) → (a.head == p.head) ≡ t → IsLeast (a ∷ bs) p → p.head ≤ a.head → a.head ≤ b.head → find (has_head p.head) (a ∷ b ∷ bs) ≡ Some p
        at_head true g least low order = hit a (b ∷ bs) p.head g ∙ sym (hit a bs p.head g) ∙ least.found
        at_head false g least low order =
            let more : p.head < b.head = grind (arith, nat_tests, g, low, order) in
            skip a (b ∷ bs) p.head g ∙ skip b bs p.head (above b.head p.head more) ∙ sym (skip a bs p.head g) ∙ least.found
  by false f first next =
      let rest = next (sym (ap (λ t. fold lesser (if t then Some a else Some b) bs) f) ∙ e) in
      let low = rest.1 in
      let order : b.head < a.head = grind (arith, nat_tests, f) in (
        record {
          found = skip a (b ∷ bs) p.head (above a.head p.head (omega (arith, low, order))) ∙ rest.0.found;
          less = λ id less. skip a (b ∷ bs) id (above a.head id (omega (arith, less, low, order))) ∙ rest.0.less id less;
        },
        omega (arith, low, order),
      )

pub least_is : (ps : List Pending) (p : Pending) → least_of ps ≡ Some p → IsLeast ps p
least_is [] p e = absurd (none_some e)
least_is (a ∷ ps) p e = (least_after a ps p e).0

-- the request whose buffers are answered
pub least_made : (ps : List Pending) (made : Made) → Some made ≡ option_map made_in (least_of ps) → (p : Pending) × (least_of ps ≡ Some p) × (made ≡ made_in p)
least_made ps made e = by (least_of ps) refl where
  by : (o : Option Pending) → least_of ps ≡ o → (p : Pending) × (least_of ps ≡ Some p) × (made ≡ made_in p)
  by None f = absurd (none_some (sym (e ∙ ap (option_map made_in) f)))
  by (Some p) f = (p, f, some_same (e ∙ ap (option_map made_in) f))

-- ---- without the first of a head

pub without_other : (ps : List Pending) (head id : ℕ) → (head == id) ≡ false → find (has_head id) (without_first (has_head head) ps) ≡ find (has_head id) ps
without_other [] head id off = refl
without_other (p ∷ ps) head id off = by (p.head == head) refl (without_other ps head id off) where
  by : (t : Bool) → (p.head == head) ≡ t → find (has_head id) (without_first (has_head head) ps) ≡ find (has_head id) ps
      → find (has_head id) (if p.head == head then ps else p ∷ without_first (has_head head) ps) ≡ find (has_head id) (p ∷ ps)
  by true e rest =
      ap (λ t. find (has_head id) (if t then ps else p ∷ without_first (has_head head) ps)) e
      ∙ sym (skip p ps id (ap (λ k. k == id) (is_same p.head head e) ∙ off))
  by false e rest =
      ap (λ t. find (has_head id) (if t then ps else p ∷ without_first (has_head head) ps)) e
      ∙ ap (λ o. if p.head == id then Some p else o) rest

pub none_without : (ps : List Pending) (head id : ℕ) → find (has_head id) ps ≡ None → find (has_head id) (without_first (has_head head) ps) ≡ None
none_without [] head id none = refl
none_without (p ∷ ps) head id none = by (p.head == head) refl (p.head == id) refl (none_without ps head id) where
  by : (t : Bool) → (p.head == head) ≡ t → (u : Bool) → (p.head == id) ≡ u → (find (has_head id) ps ≡ None → find (has_head id) (without_first (has_head head) ps) ≡ None)
      → find (has_head id) (if p.head == head then ps else p ∷ without_first (has_head head) ps) ≡ None
  by t e true f rest = absurd (none_some (sym none ∙ hit p ps id f))
  by true e false f rest = ap (λ t. find (has_head id) (if t then ps else p ∷ without_first (has_head head) ps)) e ∙ sym (skip p ps id f) ∙ none
  by false e false f rest =
      ap (λ t. find (has_head id) (if t then ps else p ∷ without_first (has_head head) ps)) e
      ∙ skip p (without_first (has_head head) ps) id f ∙ rest (sym (skip p ps id f) ∙ none)

-- where no two have the same head, none of it is left
pub lone_gone : (ps : List Pending) (head : ℕ) → AreLone ps → find (has_head head) (without_first (has_head head) ps) ≡ None
lone_gone [] head lone = refl
lone_gone (p ∷ ps) head lone = by (p.head == head) refl (lone_gone ps head lone.1) where
  by : (t : Bool) → (p.head == head) ≡ t → find (has_head head) (without_first (has_head head) ps) ≡ None → find (has_head head) (if p.head == head then ps else p ∷ without_first (has_head head) ps) ≡ None
  by true e rest =
      ap (λ t. find (has_head head) (if t then ps else p ∷ without_first (has_head head) ps)) e
      ∙ subst (λ k. find (has_head k) ps ≡ None) (is_same p.head head e) lone.0
  by false e rest =
      ap (λ t. find (has_head head) (if t then ps else p ∷ without_first (has_head head) ps)) e
      ∙ skip p (without_first (has_head head) ps) head e ∙ rest

pub lone_without : (ps : List Pending) (head : ℕ) → AreLone ps → AreLone (without_first (has_head head) ps)
lone_without [] head lone = tt
lone_without (p ∷ ps) head lone = by (p.head == head) refl (lone_without ps head lone.1) where
  by : (t : Bool) → (p.head == head) ≡ t → AreLone (without_first (has_head head) ps) → AreLone (if p.head == head then ps else p ∷ without_first (has_head head) ps)
  by true e rest = subst (λ t. AreLone (if t then ps else p ∷ without_first (has_head head) ps)) (sym e) lone.1
  by false e rest = subst (λ t. AreLone (if t then ps else p ∷ without_first (has_head head) ps)) (sym e) (none_without ps head p.head lone.0, rest)

-- one that is found goes
pub fewer : (ps : List Pending) (head : ℕ) (p : Pending) → find (has_head head) ps ≡ Some p → length (without_first (has_head head) ps) < length ps
fewer [] head p e = absurd (none_some e)
fewer (a ∷ tail) head p e = by (a.head == head) refl (fewer tail head p) where
  by : (t : Bool) → (a.head == head) ≡ t → (find (has_head head) tail ≡ Some p → length (without_first (has_head head) tail) < length tail)
      → length (if a.head == head then tail else a ∷ without_first (has_head head) tail) < suc (length tail)
  by true f rest = subst (λ t. length (if t then tail else a ∷ without_first (has_head head) tail) < suc (length tail)) (sym f) (omega arith)
  by false f rest =
      subst (λ t. length (if t then tail else a ∷ without_first (has_head head) tail) < suc (length tail)) (sym f)
      (let less = rest (sym (skip a tail head f) ∙ e) in let more : suc (length (without_first (has_head head) tail)) < suc (length tail) = omega (arith, less) in more)
