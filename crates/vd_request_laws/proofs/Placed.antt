-- The mappings of some wants, and the acts that map them.
use Rattle.std.proofs.Common.{◌≡◌, ℕ, ◌+◌, ◌<◌, ◌≤◌, true, false, refl, ap, sym, ◌∙◌, subst, arith, List, [], ◌∷◌, ◌++◌, append_assoc, length, map, ◌==◌, Option, Some, None}
use Rattle.std.specs.List.{All, list_any}
use Rattle.std.specs.Option.{option_map}
use Rattle.std.proofs.lemmas.List.{append-nil}
use Rattle.std.proofs.lemmas.List.Elements.{All-nil, All-cons, All-head, All-tail, All-weaker}
use Rattle.vd_num.specs.Number.{pages_of}
use Rattle.vd_model.specs.declared.memory.Want.{Want}
use Rattle.vd_model.specs.Setting.{Setting}
use Rattle.vd_model.specs.Acts.{Act, Driver, Streaming, Request, Mapped}
use Rattle.vd_model.specs.Live.{buffers, maps, buffer_len, live_mappings}
use Rattle.vd_model.specs.Place.{Slots, place_of}
use Rattle.vd_model.specs.Queues.{made_buffer}
use Rattle.vd_model.specs.RingTurns.{placed_mapping, placed_mappings, map_acts}
use Rattle.vd_request_laws.specs.Owned.{AreOwn}
use Rattle.vd_request_laws.proofs.Lists.{itself, no_some, same_some, or_left, or_right}
use Rattle.vd_request_laws.proofs.Standing.{mapped_own}

-- ---- the mappings of some wants

-- mappings of these wants, numbered from this on
abbrev pub ArePlaced : ℕ → List Want → List Streaming → Type 0
ArePlaced number [] [] = Unit {0}
ArePlaced number [] (m ∷ ms) = ⊥
ArePlaced number (want ∷ wants) [] = ⊥
ArePlaced number (want ∷ wants) (m ∷ ms) = (m.number ≡ number) × (m.want ≡ want) × ArePlaced (number + 1) wants ms

pub placed : (x : Setting) (held : List Slots) (number : ℕ) (wants : List Want) (ms : List Streaming) → placed_mappings x held number wants ≡ Some ms → ArePlaced number wants ms
placed x held number [] ms e = subst (ArePlaced number []) (same_some e) tt
placed x held number (want ∷ wants) ms e =
    at (place_of held (pages_of want.len) x.per_page x.bounce) e
    (λ slot rest f. placed x (held ++ record { start = slot; count = pages_of want.len } ∷ []) (number + 1) wants rest f) where
      at : (o : Option ℕ) → placed_mapping want number o (λ slot. placed_mappings x (held ++ record { start = slot; count = pages_of want.len } ∷ []) (number + 1) wants) ≡ Some ms
          → ((slot : ℕ) (rest : List Streaming) → placed_mappings x (held ++ record { start = slot; count = pages_of want.len } ∷ []) (number + 1) wants ≡ Some rest → ArePlaced (number + 1) wants rest)
          → ArePlaced number (want ∷ wants) ms
      at None f later = absurd (no_some f)
      at (Some slot) f later = by (placed_mappings x (held ++ record { start = slot; count = pages_of want.len } ∷ []) (number + 1) wants) f (later slot) where
        by : (o : Option (List Streaming)) → option_map (λ ms. record { number = number; slot = slot; want = want } ∷ ms) o ≡ Some ms
            → ((rest : List Streaming) → o ≡ Some rest → ArePlaced (number + 1) wants rest) → ArePlaced number (want ∷ wants) ms
        by None g rest = absurd (no_some g)
        by (Some others) g rest = subst (ArePlaced number (want ∷ wants)) (same_some g) (refl, refl, rest others refl)

module _ (P : Want → Type 0) where
  pub all_placed : (number : ℕ) (wants : List Want) (ms : List Streaming) → ArePlaced number wants ms → All P wants → All (λ (m : Streaming). P m.want) ms
  all_placed number [] [] p h = All-nil (λ (m : Streaming). P m.want)
  all_placed number [] (m ∷ ms) p h = absurd p
  all_placed number (want ∷ wants) [] p h = absurd p
  all_placed number (want ∷ wants) (m ∷ ms) p h =
      All-cons (λ (m : Streaming). P m.want) m ms (subst P (sym p.1) (All-head P want wants h)) (all_placed (number + 1) wants ms p.2 (All-tail P want wants h))

-- a number among those from one on, so many
abbrev pub IsAmong : ℕ → ℕ → ℕ → Type 0
IsAmong first count n = (first ≤ n) × (n < first + count)

pub numbers_among : (number : ℕ) (wants : List Want) (ms : List Streaming) → ArePlaced number wants ms → All (IsAmong number (length ms)) (map (λ m. m.number) ms)
numbers_among number wants [] p = All-nil (IsAmong number 0)
numbers_among number [] (m ∷ ms) p = absurd p
numbers_among number (want ∷ wants) (m ∷ ms) p =
    let same = p.0 in
    All-cons (IsAmong number (length (m ∷ ms))) m.number (map (λ m. m.number) ms) (omega (arith, same), omega (arith, same))
    (All-weaker (IsAmong (number + 1) (length ms)) (IsAmong number (length (m ∷ ms)))
    (λ n h. (let low = h.0 in omega (arith, low), let high = h.1 in omega (arith, high)))
    (map (λ m. m.number) ms) (numbers_among (number + 1) wants ms p.2))

pub own_number : (ms : List Streaming) → All (λ (m : Streaming). list_any (λ k. k == m.number) (map (λ m. m.number) ms) ≡ true) ms
own_number [] = All-nil (λ (m : Streaming). list_any (λ k. k == m.number) [] ≡ true)
own_number (m ∷ ms) =
    All-cons (λ (l : Streaming). list_any (λ k. k == l.number) (map (λ m. m.number) (m ∷ ms)) ≡ true) m ms
    (or_left (m.number == m.number) (list_any (λ k. k == m.number) (map (λ m. m.number) ms)) (itself m.number))
    (All-weaker (λ (l : Streaming). list_any (λ k. k == l.number) (map (λ m. m.number) ms) ≡ true) (λ (l : Streaming). list_any (λ k. k == l.number) (map (λ m. m.number) (m ∷ ms)) ≡ true)
    (λ l e. or_right (m.number == l.number) (list_any (λ k. k == l.number) (map (λ m. m.number) ms)) e) ms (own_number ms))

-- ---- the acts that map

map_step : (m : Streaming) (ms : List Streaming) (acts : List Act) → map_acts (m ∷ ms) ++ acts ≡ map_acts ms ++ (Driver (Mapped m) ∷ acts)
map_step m ms acts = append_assoc (map_acts ms) (Driver (Mapped m) ∷ []) acts

pub live_mapped : (ms : List Streaming) (acts : List Act) → live_mappings (map_acts ms ++ acts) ≡ live_mappings acts ++ ms
live_mapped [] acts = sym (append-nil (live_mappings acts))
live_mapped (m ∷ ms) acts = ap live_mappings (map_step m ms acts) ∙ live_mapped ms (Driver (Mapped m) ∷ acts) ∙ append_assoc (live_mappings acts) (m ∷ []) ms

pub maps_mapped : (ms : List Streaming) (acts : List Act) → maps (map_acts ms ++ acts) ≡ maps acts + length ms
maps_mapped [] acts = omega arith
maps_mapped (m ∷ ms) acts = ap maps (map_step m ms acts) ∙ maps_mapped ms (Driver (Mapped m) ∷ acts) ∙ omega arith

pub buffers_mapped : (ms : List Streaming) (acts : List Act) → buffers (map_acts ms ++ acts) ≡ buffers acts
buffers_mapped [] acts = refl
buffers_mapped (m ∷ ms) acts = ap buffers (map_step m ms acts) ∙ buffers_mapped ms (Driver (Mapped m) ∷ acts)

pub len_mapped : (ms : List Streaming) (acts : List Act) (k : ℕ) → buffer_len (map_acts ms ++ acts) k ≡ buffer_len acts k
len_mapped [] acts k = refl
len_mapped (m ∷ ms) acts k = ap (λ l. buffer_len l k) (map_step m ms acts) ∙ len_mapped ms (Driver (Mapped m) ∷ acts) k

-- a want of a buffer that was made, and of none of these requests
pub record MayMap (acts : List Act) (rs : List Request) (want : Want) : Type 0 where
  pub made : want.buffer < buffers acts
  pub free : All (λ r. made_buffer want.buffer (Some r) ≡ false) rs

pub maps_own : (ms : List Streaming) (acts : List Act) (rs : List Request) → All (λ (m : Streaming). MayMap acts rs m.want) ms → AreOwn acts rs → AreOwn (map_acts ms ++ acts) rs
maps_own [] acts rs may h = h
maps_own (m ∷ ms) acts rs may h =
    let first = All-head (λ (m : Streaming). MayMap acts rs m.want) m ms may in
    subst (λ l. AreOwn l rs) (sym (map_step m ms acts))
    (maps_own ms (Driver (Mapped m) ∷ acts) rs
    (All-weaker (λ (m : Streaming). MayMap acts rs m.want) (λ (l : Streaming). MayMap (Driver (Mapped m) ∷ acts) rs l.want) (λ l k. record { made = k.made; free = k.free }) ms
    (All-tail (λ (m : Streaming). MayMap acts rs m.want) m ms may))
    (mapped_own acts m rs first.free first.made h))
