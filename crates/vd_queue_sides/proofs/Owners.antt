-- The owners of descriptors, by the chains that are out.
use Rattle.std.proofs.Common.{◌≡◌, ℕ, suc, ◌+◌, ◌-◌, ◌<◌, ◌≤◌, Bool, true, false, ◌==◌, ◌||◌, if◌then◌else◌, inl, inr, refl, ap, sym, subst, ◌∙◌, arith, List, [], ◌∷◌, ◌++◌, length, Some, None, Option, true≢false, get_or}
use Rattle.std.specs.Prelude.{find, is_some}
use Rattle.std.specs.List.{list_any}
use Rattle.std.specs.Option.{option_map}
use Rattle.std.proofs.Math.ListN.{set}
use Rattle.std.proofs.lemmas.Bool.Decides.{eqb_tells}
use Rattle.vd_model.specs.Acts.{AddedChain}
use Rattle.vd_model.specs.Queues.{is_in_chains}
use Rattle.vr_driver.specs.Side.{free_from, with_owner}
use Rattle.vd_queue_sides.specs.Chains.{holds, owner_of, is_head, EachChain}
use Rattle.vd_queue_sides.proofs.Lists.{set_same, set_other, set_len, either, or_left, or_right}

pub found : (p : AddedChain → Bool) (xs : List AddedChain) → is_some (find p xs) ≡ list_any p xs
found p [] = refl
found p (x ∷ xs) = by (p x) (found p xs) where
  by : (b : Bool) → is_some (find p xs) ≡ list_any p xs → is_some (if b then Some x else find p xs) ≡ (b || list_any p xs)
  by true rest = refl
  by false rest = rest

pub some_map : (o : Option AddedChain) → is_some (option_map (λ chain. chain.head) o) ≡ is_some o
some_map None = refl
some_map (Some x) = refl

pub owned : (chains : List AddedChain) (d : ℕ) → is_some (owner_of chains d) ≡ is_in_chains chains d
owned chains d = some_map (find (holds d) chains) ∙ found (holds d) chains

abbrev pub or_else : Option ℕ → Option ℕ → Option ℕ
or_else (Some x) other = Some x
or_else None other = other

-- the owner after one chain more
pub owner_more : (chains : List AddedChain) (chain : AddedChain) (d : ℕ) → owner_of (chains ++ chain ∷ []) d ≡ or_else (owner_of chains d) (if holds d chain then Some chain.head else None)
owner_more [] chain d = by (holds d chain) where
  by : (b : Bool) → option_map (λ (c : AddedChain). c.head) (if b then Some chain else None) ≡ (if b then Some chain.head else None)
  by true = refl
  by false = refl
owner_more (c ∷ cs) chain d = by (holds d c) (owner_more cs chain d) where
  by : (b : Bool) → owner_of (cs ++ chain ∷ []) d ≡ or_else (owner_of cs d) (if holds d chain then Some chain.head else None)
      → option_map (λ (c : AddedChain). c.head) (if b then Some c else find (holds d) (cs ++ chain ∷ []))
      ≡ or_else (option_map (λ (c : AddedChain). c.head) (if b then Some c else find (holds d) cs)) (if holds d chain then Some chain.head else None)
  by true rest = refl
  by false rest = rest

-- a chain's head has an owner
pub head_owned : (chains : List AddedChain) (d : ℕ) → EachChain (λ chain. holds chain.head chain ≡ true) chains → is_head chains d ≡ true → is_in_chains chains d ≡ true
head_owned [] d all e = e
head_owned (c ∷ cs) d all e = elim (eqb_tells c.head d) [
  | inl h ↦ or_left (holds d c) (list_any (holds d) cs) (subst (λ k. holds k c ≡ true) h.1 all.0)
  | inr h ↦ or_right (holds d c) (list_any (holds d) cs) (head_owned cs d all.1 (either (c.head == d) (is_head cs d) e h.0))
]

-- a free descriptor has none
pub free_none : (owners : List (Option ℕ)) (k d : ℕ) → list_any (λ j. j == d) (free_from k owners) ≡ true → (k ≤ d) × (d < k + length owners) × (get_or owners (d - k) None ≡ None)
free_none [] k d e = absurd (true≢false (sym e))
free_none (Some head ∷ owners) k d e =
    let r = free_none owners (k + 1) d e in
    let low = r.0 in
    let step : d - k ≡ suc (d - (k + 1)) = omega arith in
    let high = r.1 in
    (omega arith, omega arith, ap (λ j. get_or (Some head ∷ owners) j None) step ∙ r.2)
free_none (None ∷ owners) k d e = elim (eqb_tells k d) [
  | inl h ↦ (let same = h.1 in let none : d - k ≡ 0 = omega arith in (omega arith, omega arith, ap (λ j. get_or (None ∷ owners) j None) none))
  | inr h ↦
      (let r = free_none owners (k + 1) d (either (k == d) (list_any (λ j. j == d) (free_from (k + 1) owners)) e h.0) in
      let low = r.0 in
      let high = r.1 in
      let step : d - k ≡ suc (d - (k + 1)) = omega arith in
      (omega arith, omega arith, ap (λ j. get_or (None ∷ owners) j None) step ∙ r.2))
]

pub owned_len : (ds : List ℕ) (owners : List (Option ℕ)) (head : ℕ) → length (with_owner owners ds head) ≡ length owners
owned_len [] owners head = refl
owned_len (i ∷ ds) owners head = owned_len ds (set owners i (Some head)) head ∙ set_len owners i (Some head)

-- the owner of a descriptor after some were with_owner
pub owner_at : (ds : List ℕ) (owners : List (Option ℕ)) (head d : ℕ) → d < length owners
    → get_or (with_owner owners ds head) d None ≡ (if list_any (λ k. k == d) ds then Some head else get_or owners d None)
owner_at [] owners head d below = refl
owner_at (i ∷ ds) owners head d below =
    let long : d < length (set owners i (Some head)) = subst (λ n. d < n) (sym (set_len owners i (Some head))) below in
    owner_at ds (set owners i (Some head)) head d long
    ∙ elim (eqb_tells i d) [
      | inl h ↦
          (ap (λ o. if list_any (λ k. k == d) ds then Some head else o)
          (subst (λ k. get_or (set owners k (Some head)) d None ≡ Some head) (sym h.1) (set_same owners d (Some head) None below))
          ∙ both (list_any (λ k. k == d) ds)
          ∙ sym (ap (λ t. if (t || list_any (λ k. k == d) ds) then Some head else get_or owners d None) h.0))
      | inr h ↦
          (ap (λ o. if list_any (λ k. k == d) ds then Some head else o) (set_other owners i d (Some head) None h.1)
          ∙ sym (ap (λ t. if (t || list_any (λ k. k == d) ds) then Some head else get_or owners d None) h.0))
    ] where
      both : (t : Bool) → (if t then Some head else Some head) ≡ Some head
      both true = refl
      both false = refl

pub each_more : (P : AddedChain → Type 0) (chains : List AddedChain) (chain : AddedChain) → EachChain P chains → P chain → EachChain P (chains ++ chain ∷ [])
each_more P [] chain all p = (p, tt)
each_more P (c ∷ cs) chain all p = (all.0, each_more P cs chain all.1 p)

pub each_weaker : (P Q : AddedChain → Type 0) (chains : List AddedChain) → ((c : AddedChain) → P c → Q c) → EachChain P chains → EachChain Q chains
each_weaker P Q [] f all = tt
each_weaker P Q (c ∷ cs) f all = (f c all.0, each_weaker P Q cs f all.1)
