-- The places that some wants get lie in bounce memory.
use Rattle.std.proofs.Common.{◌≡◌, ℕ, zero, suc, ◌+◌, ◌≤◌, Bool, true, false, if◌then◌else◌, nat_le, not, refl, subst, List, [], ◌∷◌, ◌++◌, Some, None, Option}
use Rattle.std.specs.List.{list_any, All}
use Rattle.std.specs.Option.{option_map}
use Rattle.std.proofs.lemmas.Bool.{and_parts, leb-true}
use Rattle.std.proofs.lemmas.List.Elements.{All-nil, All-cons, All-head, All-tail}
use Rattle.vd_num.specs.Number.{pages_of}
use Rattle.vd_model.specs.declared.memory.Want.{Want}
use Rattle.vd_model.specs.Setting.{Setting}
use Rattle.vd_model.specs.Acts.{Streaming}
use Rattle.vd_model.specs.Place.{Slots, greatest, is_place, place_of, meets}
use Rattle.vd_model.specs.RingTurns.{placed_mappings, placed_mapping}

greatest_passes : (passes : ℕ → Bool) (n s : ℕ) → greatest passes n ≡ Some s → passes s ≡ true
unfolding greatest
greatest_passes passes zero s e = cc
greatest_passes passes (suc n) s e = by (passes n) refl e (greatest_passes passes n s) where
  by : (t : Bool) → passes n ≡ t → (if t then Some n else greatest passes n) ≡ Some s → (greatest passes n ≡ Some s → passes s ≡ true) → passes s ≡ true
  by true f e later = (let same : n ≡ s = cc in subst (λ k. passes k ≡ true) same f)
  by false f e later = later e

place_passes : (held : List Slots) (n lo hi slot : ℕ) → place_of held n lo hi ≡ Some slot → is_place held n lo hi slot ≡ true
unfolding place_of
place_passes held n lo hi slot e = greatest_passes (is_place held n lo hi) hi slot e

place_high : (held : List Slots) (n lo hi slot : ℕ) → place_of held n lo hi ≡ Some slot → slot + n ≤ hi
place_high held n lo hi slot e =
    let a = and_parts _ (not (list_any (meets slot n) held)) (place_passes held n lo hi slot e) in
    let b = and_parts _ (nat_le (slot + n) hi) a.0 in
    leb-true (slot + n) hi b.1

-- of each mapping: what is true of its want, and that its slots lie in bounce memory
abbrev pub IsPlaced : Setting → (Want → Type 0) → Streaming → Type 0
IsPlaced x P m = P m.want × (m.slot + pages_of m.want.len ≤ x.bounce)

pub placed_all : (x : Setting) (P : Want → Type 0) (wants : List Want) (held : List Slots) (number : ℕ) (ms : List Streaming)
    → placed_mappings x held number wants ≡ Some ms → All P wants → All (IsPlaced x P) ms
placed_all x P [] held number ms e all = (let same : [] ≡ ms = cc in subst (λ (l : List Streaming). All (IsPlaced x P) l) same (All-nil (IsPlaced x P)))
placed_all x P (want ∷ wants) held number ms e all =
    by (place_of held (pages_of want.len) x.per_page x.bounce) refl e
    (λ slot rest g. placed_all x P wants (held ++ record { start = slot; count = pages_of want.len } ∷ []) (number + 1) rest g (All-tail P want wants all)) where
      by : (o : Option ℕ) → place_of held (pages_of want.len) x.per_page x.bounce ≡ o
          → placed_mapping want number o (λ slot. placed_mappings x (held ++ record { start = slot; count = pages_of want.len } ∷ []) (number + 1) wants) ≡ Some ms
          → ((slot : ℕ) (rest : List Streaming) → placed_mappings x (held ++ record { start = slot; count = pages_of want.len } ∷ []) (number + 1) wants ≡ Some rest → All (IsPlaced x P) rest) → All (IsPlaced x P) ms
      by None f e later = cc
      by (Some slot) f e later = more (placed_mappings x (held ++ record { start = slot; count = pages_of want.len } ∷ []) (number + 1) wants) refl e where
        more : (o : Option (List Streaming)) → placed_mappings x (held ++ record { start = slot; count = pages_of want.len } ∷ []) (number + 1) wants ≡ o
            → option_map (λ (ms : List Streaming). record { number = number; slot = slot; want = want } ∷ ms) o ≡ Some ms → All (IsPlaced x P) ms
        more None g e = cc
        more (Some rest) g e =
            let same : record { number = number; slot = slot; want = want } ∷ rest ≡ ms = cc in
            subst (λ (l : List Streaming). All (IsPlaced x P) l) same
            (All-cons (IsPlaced x P) (record { number = number; slot = slot; want = want }) rest
            (All-head P want wants all, place_high held (pages_of want.len) x.per_page x.bounce slot f) (later slot rest g))
