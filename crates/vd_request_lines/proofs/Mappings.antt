-- The mappings of a request have the wants in their order, and numbers one after another.
use Rattle.std.proofs.Common.{if◌then◌else◌, ◌≡◌, ℕ, suc, ◌+◌, ◌<◌, Option, Some, None, refl, ap, sym, subst, ◌∙◌, List, [], ◌∷◌, ◌++◌, append_assoc, length, take, map, All}
use Rattle.std.specs.Option.{option_map}
use Rattle.std.proofs.lemmas.List.Elements.{All-nil, All-cons, All-head, All-tail}
use Rattle.vd_num.specs.Number.{pages_of}
use Rattle.vd_model.specs.declared.memory.Want.{Want}
use Rattle.vd_model.specs.Setting.{Setting}
use Rattle.vd_model.specs.Acts.{Act, Streaming, Driver, Mapped}
use Rattle.vd_model.specs.Place.{Slots, place_of}
use Rattle.vd_model.specs.Puts.{is_from_device}
use Rattle.vd_model.specs.RingTurns.{placed_mapping, placed_mappings, map_acts, mapping_part, writable_of, last_after}
use Rattle.blk_driver.specs.Asked.{written_len}
use Rattle.blk_driver.specs.Buffers.{AreNumbered}
use Rattle.blk_driver.specs.Driver.{numbers_from}

-- the mappings are of these wants, with numbers from this one on
abbrev pub AreOf : ℕ → List Want → List Streaming → Type 0
AreOf n [] [] = Unit {0}
AreOf n [] (m ∷ ms) = ⊥
AreOf n (w ∷ ws) [] = ⊥
AreOf n (w ∷ ws) (m ∷ ms) = (m.number ≡ n) × (m.want ≡ w) × AreOf (n + 1) ws ms

in_front : (first : Streaming) (o : Option (List Streaming)) (ms : List Streaming) → option_map (λ rest. first ∷ rest) o ≡ Some ms → (rest : List Streaming) × (o ≡ Some rest) × (ms ≡ first ∷ rest)
in_front first None ms e = cc
in_front first (Some rest) ms e = (rest, refl, cc)

pub placed_are : (x : Setting) (held : List Slots) (n : ℕ) (wants : List Want) (ms : List Streaming) → placed_mappings x held n wants ≡ Some ms → AreOf n wants ms
placed_are x held n [] [] e = tt
placed_are x held n [] (m ∷ ms) e = cc
placed_are x held n (w ∷ ws) ms e = by (place_of held (pages_of w.len) x.per_page x.bounce) (λ slot. placed_are x (held ++ record { start = slot; count = pages_of w.len } ∷ []) (n + 1) ws) e where
  by : (o : Option ℕ) → ((slot : ℕ) (rest : List Streaming) → placed_mappings x (held ++ record { start = slot; count = pages_of w.len } ∷ []) (n + 1) ws ≡ Some rest → AreOf (n + 1) ws rest)
      → placed_mapping w n o (λ slot. placed_mappings x (held ++ record { start = slot; count = pages_of w.len } ∷ []) (n + 1) ws) ≡ Some ms → AreOf n (w ∷ ws) ms
  by None more e = cc
  by (Some slot) more e =
      let p = in_front (record { number = n; slot = slot; want = w }) (placed_mappings x (held ++ record { start = slot; count = pages_of w.len } ∷ []) (n + 1) ws) ms e in
      subst (AreOf n (w ∷ ws)) (sym p.2) (refl, refl, more slot p.0 p.1)

pub numbers_are : (n : ℕ) (ws : List Want) (ms : List Streaming) → AreOf n ws ms → map (λ (m : Streaming). m.number) ms ≡ numbers_from n (length ws)
numbers_are n [] [] are = refl
numbers_are n [] (m ∷ ms) are = absurd are
numbers_are n (w ∷ ws) [] are = absurd are
numbers_are n (w ∷ ws) (m ∷ ms) are = (λ i. are.0 i ∷ numbers_are (n + 1) ws ms are.2 i)

-- of some wants and more, those at the front
pub front_of : (n : ℕ) (ws vs : List Want) (ms : List Streaming) → AreOf n (ws ++ vs) ms → AreOf n ws (take (length ws) ms)
front_of n [] vs ms are = tt
front_of n (w ∷ ws) vs [] are = are
front_of n (w ∷ ws) vs (m ∷ ms) are = (are.0, are.1, front_of (n + 1) ws vs ms are.2)

-- the device writes as many bytes as the wants say
pub writable_is : (n : ℕ) (ws : List Want) (ms : List Streaming) → AreOf n ws ms → writable_of (map mapping_part ms) ≡ written_len ws
writable_is n [] [] are = refl
writable_is n [] (m ∷ ms) are = absurd are
writable_is n (w ∷ ws) [] are = absurd are
writable_is n (w ∷ ws) (m ∷ ms) are = (λ i. (if is_from_device (are.1 i).dir then (are.1 i).len else 0) + writable_is (n + 1) ws ms are.2 i)

pub as_many : (n : ℕ) (ws : List Want) (ms : List Streaming) → AreOf n ws ms → length ms ≡ length ws
as_many n [] [] are = refl
as_many n [] (m ∷ ms) are = absurd are
as_many n (w ∷ ws) [] are = absurd are
as_many n (w ∷ ws) (m ∷ ms) are = ap suc (as_many (n + 1) ws ms are.2)

-- the last mapping, and those before it
pub record Split (n : ℕ) (ws : List Want) (w : Want) (ms : List Streaming) : Type 0 where
  pub front : List Streaming
  pub last : Streaming
  pub all : ms ≡ front ++ last ∷ []
  pub are : AreOf n ws front
  pub is : last.want ≡ w
  pub found : last_after (length ws) ms ≡ Some last

pub split : (n : ℕ) (ws : List Want) (w : Want) (ms : List Streaming) → AreOf n (ws ++ w ∷ []) ms → Split n ws w ms
split n [] w [] are = absurd are
split n [] w (m ∷ []) are = record { front = []; last = m; all = refl; are = tt; is = are.1; found = refl }
split n [] w (m ∷ l ∷ ms) are = absurd are.2
split n (v ∷ ws) w [] are = absurd are
split n (v ∷ ws) w (m ∷ ms) are =
    let s = split (n + 1) ws w ms are.2 in
    record { front = m ∷ s.front; last = s.last; all = ap (λ l. m ∷ l) s.all; are = (are.0, are.1, s.are); is = s.is; found = s.found }

-- what is true of each want is true of each mapping's
pub each_want : (P : Want → Type 0) (n : ℕ) (ws : List Want) (ms : List Streaming) → AreOf n ws ms → All P ws → All (λ (m : Streaming). P m.want) ms
each_want P n [] [] are all = All-nil (λ (m : Streaming). P m.want)
each_want P n [] (m ∷ ms) are all = absurd are
each_want P n (w ∷ ws) [] are all = absurd are
each_want P n (w ∷ ws) (m ∷ ms) are all =
    All-cons (λ (m : Streaming). P m.want) m ms (subst P (sym are.1) (All-head P w ws all)) (each_want P (n + 1) ws ms are.2 (All-tail P w ws all))

pub numbered : (n : ℕ) (ms : List Streaming) → All (λ (m : Streaming). m.number < n) ms → AreNumbered n ms
numbered n [] all = tt
numbered n (m ∷ ms) all = (All-head (λ (m : Streaming). m.number < n) m ms all, numbered n ms (All-tail (λ (m : Streaming). m.number < n) m ms all))

-- what a map doesn't change, some maps don't change
pub maps_same : {X : Type 0} (f : List Act → X) → ((m : Streaming) (done : List Act) → f (Driver (Mapped m) ∷ done) ≡ f done) → (ms : List Streaming) (done : List Act) → f (map_acts ms ++ done) ≡ f done
maps_same f one [] done = refl
maps_same f one (m ∷ ms) done = ap f (append_assoc (map_acts ms) (Driver (Mapped m) ∷ []) done) ∙ maps_same f one ms (Driver (Mapped m) ∷ done) ∙ one m done
