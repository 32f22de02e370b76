-- A first word is found by the sum of its letters.
use Rattle.std.proofs.Common.{◌≡◌, ◌≤◌, ℕ, leb, arith, ◌⊎◌, Bool, true, false, cond, List, [], ◌∷◌, length, Option, Some, None, refl, sym, ap, ◌∙◌, inl, inr}
use Rattle.std.specs.Prelude.{find, option_map}
use Rattle.std.specs.Str.{bytes_eq}
use Rattle.std.proofs.lemmas.Bool.{and_parts, leb-true}
use Rattle.std.proofs.lemmas.Slice.Eq.{bytes_eq-Decides}
use Rattle.vd_model.specs.declared.word.Keyword.{Keyword}
use Rattle.vd_model.specs.declared.word.Keyword.TheVariants as first
use Rattle.vd_model.specs.declared.word.TheConstants.{ALL_CONTROL_WORDS, ALL_NODE_WORDS, ALL_AREA_WORDS, ALL_BUS_WORDS, ALL_DRIVER_WORDS, ALL_QUEUE_WORDS}
use Rattle.vd_model.specs.ControlLines.{control_word_text}
use Rattle.vd_model.specs.NodeLines.{node_word, node_word_text}
use Rattle.vd_model.specs.AreaLines.{area_word, area_word_text}
use Rattle.vd_model.specs.BusLines.{bus_word, bus_word_text}
use Rattle.vd_model.specs.DriverLines.{driver_word, driver_word_text}
use Rattle.vd_model.specs.QueueLines.{queue_word, queue_word_text}
use Rattle.vd_model.specs.Reading.{keyword, or_else}
use Rattle.vd_words.specs.Keywords.{keyword_text, candidate}
use Rattle.vd_words.proofs.KnownWords.{is_first_word}

map_is : {A B : Type 0} (C : A → B) (o : Option A) (y : B) → option_map C o ≡ Some y → (x : A) × (o ≡ Some x) × (C x ≡ y)
map_is C None y e = absurd cc
map_is C (Some x) y e = (x, refl, cc)

either : {K : Type 0} (b : Bool) (x : K) (rest : Option K) (k : K) → cond b (Some x) rest ≡ Some k → ((b ≡ true) × (x ≡ k)) ⊎ (rest ≡ Some k)
either true x rest k e = inl (refl, cc)
either false x rest k e = inr e

-- what is found is written so
found : {K : Type 0} (text : K → List ℕ) (w : List ℕ) (ks : List K) (k : K) → find (λ j. bytes_eq w (text j)) ks ≡ Some k → w ≡ text k
found text w [] k e = absurd cc
found text w (j ∷ js) k e =
    elim (either (bytes_eq w (text j)) j (find (λ j. bytes_eq w (text j)) js) k e) [
      | inl here ↦ (bytes_eq-Decides w (text j)).0 here.0 ∙ ap text here.1
      | inr later ↦ found text w js k later
    ]

mapped : {K : Type 0} (text : K → List ℕ) (make : K → Keyword) → ((j : K) → text j ≡ keyword_text (make j)) → (w : List ℕ) (ks : List K) (k : Keyword) → option_map make (find (λ j. bytes_eq w (text j)) ks) ≡ Some k → w ≡ keyword_text k
mapped text make same w ks k e =
    let m = map_is make (find (λ j. bytes_eq w (text j)) ks) k e in
    found text w ks m.0 m.1 ∙ same m.0 ∙ ap keyword_text m.2

first_of_two : {X : Type 0} (a b : Option X) (x : X) → or_else a b ≡ Some x → (a ≡ Some x) ⊎ (b ≡ Some x)
first_of_two None b x e = inr e
first_of_two (Some y) b x e = inl e

-- a first word is its text
is_text : (w : List ℕ) (k : Keyword) → keyword w ≡ Some k → w ≡ keyword_text k
is_text w k e =
    elim (first_of_two (option_map first.Driver (driver_word w)) _ k e) [
      | inl d ↦ mapped driver_word_text first.Driver (λ j. refl) w ALL_DRIVER_WORDS k d
      | inr e ↦ elim (first_of_two (option_map first.Area (area_word w)) _ k e) [
        | inl a ↦ mapped area_word_text first.Area (λ j. refl) w ALL_AREA_WORDS k a
        | inr e ↦ elim (first_of_two (option_map first.Queue (queue_word w)) _ k e) [
          | inl q ↦ mapped queue_word_text first.Queue (λ j. refl) w ALL_QUEUE_WORDS k q
          | inr e ↦ elim (first_of_two (option_map first.Node (node_word w)) _ k e) [
            | inl n ↦ mapped node_word_text first.Node (λ j. refl) w ALL_NODE_WORDS k n
            | inr e ↦ elim (first_of_two (option_map first.Bus (bus_word w)) _ k e) [
              | inl b ↦ mapped bus_word_text first.Bus (λ j. refl) w ALL_BUS_WORDS k b
              | inr c ↦ mapped control_word_text first.Control (λ j. refl) w ALL_CONTROL_WORDS k c
            ]
          ]
        ]
      ]
    ]

same : (o p : Option Keyword) → ((k : Keyword) → o ≡ Some k → p ≡ Some k) → ((k : Keyword) → p ≡ Some k → o ≡ Some k) → o ≡ p
same None None f g = refl
same None (Some k) f g = g k refl
same (Some k) p f g = sym (f k refl)

-- the candidate, where the word is written so
abbrev if_written : List ℕ → Keyword → Option Keyword
if_written w k = cond (bytes_eq w (keyword_text k)) (Some k) None

pub by_sum : (w : List ℕ) → if_written w (candidate w) ≡ keyword w
by_sum w = same (if_written w (candidate w)) (keyword w)
    (λ k e. elim (either (bytes_eq w (keyword_text (candidate w))) (candidate w) None k e) [
      | inl here ↦ ap keyword ((bytes_eq-Decides w (keyword_text (candidate w))).0 here.0) ∙ (is_first_word (candidate w)).known ∙ ap Some here.1
      | inr none ↦ absurd cc
    ])
    (λ k e. let is = is_text w k e in
    let told : candidate w ≡ k = ap candidate is ∙ (is_first_word k).told in
    let written : bytes_eq w (keyword_text k) ≡ true = (bytes_eq-Decides w (keyword_text k)).1 is in
    ap (if_written w) told ∙ rw written refl)

-- no word of another length is a first word
pub none_of_length : (w : List ℕ) → (3 ≤ length w → length w ≤ 12 → ⊥) → None ≡ keyword w
none_of_length w out = same None (keyword w) (λ k e. absurd cc) (λ k e.
    let is = is_text w k e in
    let parts = and_parts (leb 3 (length (keyword_text k))) (leb (length (keyword_text k)) 12) (is_first_word k).length_fits in
    let low = leb-true 3 _ parts.0 in let high = leb-true _ 12 parts.1 in
    let len = ap length is in
    absurd (out (omega (arith, low, len)) (omega (arith, high, len))))
