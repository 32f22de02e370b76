-- A buffer is added.
use Rattle.std.proofs.Common.{◌≡◌, ℕ, zero, suc, ◌+◌, ◌<◌, Bool, true, false, refl, ap, ◌∙◌, sym, arith, Option, None, Some, cond, List, [], ◌∷◌, ◌++◌, ◌==◌, length, length-append}
use Rattle.std.specs.List.{slice_index, slice_index_or}
use Rattle.std.specs.Option.{option_map, option_map_or}
use Rattle.std.proofs.lemmas.Grind.{common_steps}
use Rattle.std.proofs.lemmas.Bool.Decides.{nat_tests}
use Rattle.std.proofs.lemmas.Option.{slice_get-get_or}
use Rattle.std.proofs.lemmas.List.Sums.{sum_by-append}
use Rattle.vd_model.specs.declared.memory.Origin.TheVariants.{Handed}
use Rattle.vd_model.specs.Acts.{Act, Driver, Buffer}
use Rattle.vd_model.specs.Live.{buffers, buffer_len, buffers_len}
use Rattle.vd_model.specs.Puts.{Ram, ram, last_put, text_at, put_or}
use Rattle.vd_buffers.specs.Places.{Places, place_of, len_of, total_of}
use Rattle.vd_buffers.specs.Stands.{Stands}

at_pushed : (xs : List (Option (List ℕ))) (o : Option (List ℕ)) (i : ℕ) → slice_index_or (xs ++ o ∷ []) i None ≡ cond (i == length xs) o (slice_index_or xs i None)
at_pushed [] o zero = refl
at_pushed [] o (suc i) = grind (arith, nat_tests)
at_pushed (x ∷ xs) o zero = grind (arith, nat_tests)
at_pushed (x ∷ xs) o (suc i) = grind (arith, nat_tests, at_pushed xs o i)

total_pushed : (xs : Places) (bytes : List ℕ) → total_of (xs ++ Some bytes ∷ []) ≡ total_of xs + length bytes
total_pushed xs bytes = sum_by-append (λ place. option_map_or length place 0) xs (Some bytes ∷ []) ∙ ap (λ n. total_of xs + n) (let e : 0 + length bytes ≡ length bytes = omega arith in e)

-- the act adds a buffer of these bytes
pub record Adds (g : ℕ) (acts : List Act) (act : Act) (bytes : List ℕ) : Type 0 where
  pub count : buffers (act ∷ acts) ≡ buffers acts + 1
  pub lens : (k : ℕ) → buffer_len (act ∷ acts) k ≡ cond (k == buffers acts) (Some (length bytes)) (buffer_len acts k)
  pub total : buffers_len (act ∷ acts) ≡ buffers_len acts + length bytes
  pub here : (k i : ℕ) → (k == buffers acts) ≡ true → i < length bytes → slice_index bytes i ≡ ram g (act ∷ acts) k i
  pub others : (k i : ℕ) → (k == buffers acts) ≡ false → ram g (act ∷ acts) k i ≡ ram g acts k i

module _ (g : ℕ) (acts : List Act) (places : Places) (s : Stands g acts places) (act : Act) (bytes : List ℕ) where
  at : (k : ℕ) → place_of (places ++ Some bytes ∷ []) k ≡ cond (k == buffers acts) (Some bytes) (place_of places k)
  at k = at_pushed places (Some bytes) k ∙ ap (λ n. cond (k == n) (Some bytes) (place_of places k)) s.count

  pub added : Adds g acts act bytes → Stands g (act ∷ acts) (places ++ Some bytes ∷ [])
  added h = record {
    count = length-append places (Some bytes ∷ []) ∙ ap (λ n. n + 1) s.count ∙ sym h.count;
    lens = lens;
    bytes = bytes_are;
    total = total_pushed places bytes ∙ ap (λ n. n + length bytes) s.total ∙ sym h.total;
  } where
    lens : (k : ℕ) → len_of (places ++ Some bytes ∷ []) k ≡ buffer_len (act ∷ acts) k
    lens k = ap (option_map length) (at k) ∙ by (k == buffers acts) ∙ sym (h.lens k) where
      by : (b : Bool) → option_map length (cond b (Some bytes) (place_of places k)) ≡ cond b (Some (length bytes)) (buffer_len acts k)
      by true = refl
      by false = s.lens k

    bytes_are : (k : ℕ) (text : List ℕ) → place_of (places ++ Some bytes ∷ []) k ≡ Some text → (i : ℕ) → i < length text → slice_index text i ≡ ram g (act ∷ acts) k i
    bytes_are k text e i inside = by (k == buffers acts) refl (sym (at k) ∙ e) where
      by : (b : Bool) → (k == buffers acts) ≡ b → cond b (Some bytes) (place_of places k) ≡ Some text → slice_index text i ≡ ram g (act ∷ acts) k i
      by true f t =
          let same : bytes ≡ text = cc in
          let size = ap length same in
          ap (λ (l : List ℕ). slice_index l i) (sym same) ∙ h.here k i f (omega arith)
      by false f t = s.bytes k text t i inside ∙ sym (h.others k i f)

pub buffer_adds : (g : ℕ) (acts : List Act) (bytes : List ℕ) → Adds g acts (Driver (Buffer bytes)) bytes
buffer_adds g acts bytes = record {
  count = refl;
  lens = λ k. refl;
  total = refl;
  here = here;
  others = others;
} where
  here : (k i : ℕ) → (k == buffers acts) ≡ true → i < length bytes → slice_index bytes i ≡ ram g (Driver (Buffer bytes) ∷ acts) k i
  here k i f inside = sym (ap (λ t. (put_or (cond t (text_at bytes 0 i (Handed None)) None) (last_put g acts) (Ram k i)).byte) f ∙ sym (grind (arith, common_steps, slice_get-get_or bytes i 0 inside)))

  others : (k i : ℕ) → (k == buffers acts) ≡ false → ram g (Driver (Buffer bytes) ∷ acts) k i ≡ ram g acts k i
  others k i f = ap (λ t. (put_or (cond t (text_at bytes 0 i (Handed None)) None) (last_put g acts) (Ram k i)).byte) f
