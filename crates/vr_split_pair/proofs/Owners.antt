-- The owners of descriptors, as chains come and go.
use Rattle.std.proofs.Common.{◌≡◌, ℕ, zero, suc, ◌+◌, ◌-◌, ◌<◌, ◌≤◌, ◌==◌, Bool, true, false, if◌then◌else◌, List, [], ◌∷◌, length, take, get_or, Option, Some, None, refl, sym, ap, subst, ◌∙◌, ◌⊎◌, inl, inr, arith}
use Rattle.std.proofs.Math.ListN.{set}
use Rattle.std.proofs.lemmas.Bool.Decides.{nat_tests}
use Rattle.std.proofs.lemmas.List.{length-set, get_or-set_same, get_or-set_other}
use Rattle.vd_laws.specs.Among.{Among}
use Rattle.vd_ring_laws.specs.ChainLaw.{AreDistinct}
use Rattle.vr_driver.specs.Side.{free_from, with_owner, other_owner, without_owner}
use Rattle.vr_split_pair.specs.Lies.{held_by, one_if}

pub either : (b : Bool) → (b ≡ true) ⊎ (b ≡ false)
either true = inl refl
either false = inr refl

-- numbers that are the same, and that differ
pub same-number : (a b : ℕ) → a ≡ b → (a == b) ≡ true
same-number a b e = grind (arith, nat_tests)

pub other-number : (a b : ℕ) → (a ≡ b → ⊥) → (a == b) ≡ false
other-number a b h = grind (arith, nat_tests)

pub same-test : (a b : ℕ) → (a == b) ≡ true → a ≡ b
same-test a b e = grind (arith, nat_tests)

pub other-test : (a b : ℕ) → (a == b) ≡ false → a ≡ b → ⊥
other-test a b e f = grind (arith, nat_tests)

-- a number is among some or not
pub among-or-not : (d : ℕ) (ds : List ℕ) → Among d ds ⊎ (Among d ds → ⊥)
among-or-not d [] = inr (λ h. h)
among-or-not d (x ∷ xs) = elim (either (d == x)) [
  | inl same ↦ inl (inl (same-test d x same))
  | inr other ↦ elim (among-or-not d xs) [
    | inl there ↦ inl (inr there)
    | inr none ↦ inr (λ h. elim h [
      | inl e ↦ other-test d x other e
      | inr there ↦ none there
    ])
  ]
]

pub among-take : (n d : ℕ) (xs : List ℕ) → Among d (take n xs) → Among d xs
among-take zero d xs h = absurd h
among-take (suc n) d [] h = absurd h
among-take (suc n) d (x ∷ xs) (inl e) = inl e
among-take (suc n) d (x ∷ xs) (inr h) = inr (among-take n d xs h)

distinct-take : (n : ℕ) (xs : List ℕ) → AreDistinct xs → AreDistinct (take n xs)
distinct-take zero xs h = tt
distinct-take (suc n) [] h = tt
distinct-take (suc n) (x ∷ xs) h = ((λ i. h.0 (among-take n x xs i)), distinct-take n xs h.1)

-- THE FREE DESCRIPTORS

-- one that is free
pub record IsFree (owners : List (Option ℕ)) (k d : ℕ) : Type 0 where
  pub low : k ≤ d
  pub high : d < k + length owners
  pub none : get_or owners (d - k) None ≡ None

free-later : (owner : Option ℕ) (owners : List (Option ℕ)) (k d : ℕ) → IsFree owners (k + 1) d → IsFree (owner ∷ owners) k d
free-later owner owners k d f =
    let low = f.low in
    let high = f.high in
    let step : d - k ≡ suc (d - (k + 1)) = omega arith in
    record { low = omega arith; high = omega arith; none = ap (λ (j : ℕ). get_or (owner ∷ owners) j None) step ∙ f.none }

free-among : (owners : List (Option ℕ)) (k d : ℕ) → Among d (free_from k owners) → IsFree owners k d
free-among [] k d h = absurd h
free-among (Some head ∷ owners) k d h = free-later (Some head) owners k d (free-among owners (k + 1) d h)
free-among (None ∷ owners) k d (inl e) =
    let none : d - k ≡ 0 = omega arith in
    record { low = omega arith; high = omega arith; none = ap (λ (j : ℕ). get_or (None ∷ owners) j None) none }
free-among (None ∷ owners) k d (inr h) = free-later None owners k d (free-among owners (k + 1) d h)

free-distinct : (owners : List (Option ℕ)) (k : ℕ) → AreDistinct (free_from k owners)
free-distinct [] k = tt
free-distinct (Some head ∷ owners) k = free-distinct owners (k + 1)
free-distinct (None ∷ owners) k = ((λ h. let low = (free-among owners (k + 1) k h).low in omega arith), free-distinct owners (k + 1))

-- descriptors that a chain may take
pub record AreFree (owners : List (Option ℕ)) (ds : List ℕ) : Type 0 where
  pub distinct : AreDistinct ds
  pub below : (d : ℕ) → Among d ds → d < length owners
  pub none : (d : ℕ) → Among d ds → get_or owners d None ≡ None

pub least-free : (owners : List (Option ℕ)) (n : ℕ) → AreFree owners (take n (free_from 0 owners))
least-free owners n = record {
  distinct = distinct-take n (free_from 0 owners) (free-distinct owners 0);
  below = λ d h. let high = (free-among owners 0 d (among-take n d (free_from 0 owners) h)).high in omega arith;
  none = λ d h.
      let whole : d ≡ d - 0 = omega arith in
      ap (λ (j : ℕ). get_or owners j None) whole ∙ (free-among owners 0 d (among-take n d (free_from 0 owners) h)).none;
}

-- A CHAIN TAKES SOME

free-set : (owners : List (Option ℕ)) (k i head : ℕ) → i < length owners → get_or owners i None ≡ None → suc (length (free_from k (set owners i (Some head)))) ≡ length (free_from k owners)
free-set [] k i head h e = absurd (omega arith)
free-set (None ∷ owners) k zero head h e = refl
free-set (Some x ∷ owners) k zero head h e = absurd (cc e)
free-set (None ∷ owners) k (suc i) head h e = ap suc (free-set owners (k + 1) i head (omega arith) e)
free-set (Some x ∷ owners) k (suc i) head h e = free-set owners (k + 1) i head (omega arith) e

held-set : (owners : List (Option ℕ)) (i head x : ℕ) → i < length owners → get_or owners i None ≡ None → held_by x (set owners i (Some head)) ≡ one_if (head == x) + held_by x owners
held-set [] i head x h e = absurd (omega arith)
held-set (None ∷ owners) zero head x h e = omega arith
held-set (Some y ∷ owners) zero head x h e = absurd (cc e)
held-set (None ∷ owners) (suc i) head x h e = let rest = held-set owners i head x (omega arith) e in omega (arith, rest)
held-set (Some y ∷ owners) (suc i) head x h e = let rest = held-set owners i head x (omega arith) e in omega (arith, rest)

-- the owners after the chain of a head took some
pub record Claimed (owners new : List (Option ℕ)) (ds : List ℕ) (head : ℕ) : Type 0 where
  pub len : length new ≡ length owners
  pub free : length (free_from 0 new) + length ds ≡ length (free_from 0 owners)
  pub held : (x : ℕ) → held_by x new ≡ (if head == x then length ds else 0) + held_by x owners
  pub own : (d : ℕ) → Among d ds → get_or new d None ≡ Some head
  pub other : (d : ℕ) → (Among d ds → ⊥) → get_or new d None ≡ get_or owners d None

held-more : (b : Bool) (new mid old k : ℕ) → new ≡ (if b then k else 0) + mid → mid ≡ one_if b + old → new ≡ (if b then suc k else 0) + old
held-more true new mid old k e f = omega (arith, e, f)
held-more false new mid old k e f = omega (arith, e, f)

claimed-step : (owners new : List (Option ℕ)) (i : ℕ) (ds : List ℕ) (head : ℕ) → AreFree owners (i ∷ ds) → Claimed (set owners i (Some head)) new ds head → Claimed owners new (i ∷ ds) head
claimed-step owners new i ds head f c =
    let within : i < length owners = f.below i (inl refl) in
    let none : get_or owners i None ≡ None = f.none i (inl refl) in
    let one = free-set owners 0 i head within none in
    let rest = c.free in
    record {
      len = c.len ∙ length-set owners i (Some head);
      free = omega (arith, one, rest);
      held = λ x. held-more (head == x) (held_by x new) (held_by x (set owners i (Some head))) (held_by x owners) (length ds) (c.held x) (held-set owners i head x within none);
      own = λ d h. elim h [
        | inl e ↦ subst (λ (j : ℕ). get_or new j None ≡ Some head) (sym e) (c.other i f.distinct.0 ∙ get_or-set_same owners i (Some head) None within)
        | inr there ↦ c.own d there
      ];
      other = λ d h. c.other d (λ there. h (inr there)) ∙ get_or-set_other owners i d (Some head) None (λ e. h (inl e));
    }

free-rest : (owners : List (Option ℕ)) (i : ℕ) (ds : List ℕ) (head : ℕ) → AreFree owners (i ∷ ds) → AreFree (set owners i (Some head)) ds
free-rest owners i ds head f = record {
  distinct = f.distinct.1;
  below = λ d h. let low = f.below d (inr h) in let len = length-set owners i (Some head) in omega (arith, low, len);
  none = λ d h. get_or-set_other owners i d (Some head) None (λ e. f.distinct.0 (subst (λ (j : ℕ). Among j ds) e h)) ∙ f.none d (inr h);
}

held-same : (b : Bool) (n : ℕ) → n ≡ (if b then 0 else 0) + n
held-same true n = omega arith
held-same false n = omega arith

pub claimed : (ds : List ℕ) (owners : List (Option ℕ)) (head : ℕ) → AreFree owners ds → Claimed owners (with_owner owners ds head) ds head
claimed [] owners head f = record {
  len = refl;
  free = omega arith;
  held = λ x. held-same (head == x) (held_by x owners);
  own = λ d h. absurd h;
  other = λ d h. refl;
}
claimed (i ∷ ds) owners head f = claimed-step owners (with_owner (set owners i (Some head)) ds head) i ds head f (claimed ds (set owners i (Some head)) head (free-rest owners i ds head f))

-- what no descriptor is held by
pub held-none : (owners : List (Option ℕ)) (head : ℕ) → ((d : ℕ) → get_or owners d None ≡ Some head → ⊥) → held_by head owners ≡ 0
held-none [] head h = refl
held-none (None ∷ owners) head h = let rest = held-none owners head (λ d e. h (suc d) e) in omega (arith, rest)
held-none (Some x ∷ owners) head h =
    let rest = held-none owners head (λ d e. h (suc d) e) in
    elim (either (x == head)) [
      | inl same ↦ absurd (h 0 (ap Some (same-test x head same)))
      | inr other ↦ (let none : one_if (x == head) ≡ 0 = ap one_if other in omega (arith, none, rest))
    ]

-- A CHAIN GIVES ITS OWN BACK

pub owner-back : (owners : List (Option ℕ)) (head d : ℕ) → get_or (without_owner owners head) d None ≡ other_owner head (get_or owners d None)
owner-back [] head d = refl
owner-back (o ∷ owners) head zero = refl
owner-back (o ∷ owners) head (suc d) = owner-back owners head d

pub length-back : (owners : List (Option ℕ)) (head : ℕ) → length (without_owner owners head) ≡ length owners
length-back [] head = refl
length-back (o ∷ owners) head = ap suc (length-back owners head)

pub free-back : (owners : List (Option ℕ)) (k head : ℕ) → length (free_from k (without_owner owners head)) ≡ length (free_from k owners) + held_by head owners
free-back [] k head = refl
free-back (None ∷ owners) k head = let rest = free-back owners (k + 1) head in omega (arith, rest)
free-back (Some x ∷ owners) k head = by (x == head) (free-back owners (k + 1) head) where
  by : (b : Bool) → length (free_from (k + 1) (without_owner owners head)) ≡ length (free_from (k + 1) owners) + held_by head owners
      → length (free_from k ((if b then None else Some x) ∷ without_owner owners head)) ≡ length (free_from (k + 1) owners) + ((if b then 1 else 0) + held_by head owners)
  by true rest = omega (arith, rest)
  by false rest = omega (arith, rest)

pub held-back : (owners : List (Option ℕ)) (head x : ℕ) → (x ≡ head → ⊥) → held_by x (without_owner owners head) ≡ held_by x owners
held-back [] head x other = refl
held-back (None ∷ owners) head x other = let rest = held-back owners head x other in omega (arith, rest)
held-back (Some y ∷ owners) head x other =
    let rest = held-back owners head x other in
    elim (either (y == head)) [
      | inl same ↦
          (let is : y ≡ head = same-test y head same in
          let differs : (y == x) ≡ false = other-number y x (λ e. other (sym e ∙ is)) in
          rw (same, differs) (ap (λ (n : ℕ). 0 + n) rest))
      | inr differs ↦ rw differs (ap (λ (n : ℕ). (if y == x then 1 else 0) + n) rest)
    ]

-- an owner that stays
pub owner-stays : (owners : List (Option ℕ)) (head d x : ℕ) → (x ≡ head → ⊥) → get_or owners d None ≡ Some x → get_or (without_owner owners head) d None ≡ Some x
owner-stays owners head d x other e =
    let differs : (x == head) ≡ false = other-number x head other in
    let stays : other_owner head (Some x) ≡ Some x = rw differs refl in
    owner-back owners head d ∙ ap (other_owner head) e ∙ stays

-- and one that stands there still
pub owner-was : (owners : List (Option ℕ)) (head d x : ℕ) → get_or (without_owner owners head) d None ≡ Some x → (get_or owners d None ≡ Some x) × (x ≡ head → ⊥)
owner-was owners head d x e = by (get_or owners d None) refl (sym (owner-back owners head d) ∙ e) where
  by : (o : Option ℕ) → get_or owners d None ≡ o → other_owner head o ≡ Some x → (get_or owners d None ≡ Some x) × (x ≡ head → ⊥)
  by None f g = absurd (cc g)
  by (Some y) f g = elim (either (y == head)) [
    | inl same ↦ (let gone : None ≡ Some x = rw same at g in absurd (cc gone))
    | inr differs ↦
        (let is : Some y ≡ Some x = rw differs at g in
        let same : y ≡ x = cc is in
        (f ∙ is, λ k. other-test y head differs (same ∙ k)))
  ]
