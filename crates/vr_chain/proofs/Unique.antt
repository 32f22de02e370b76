-- A trace has one end.
use Rattle.std.proofs.Common.{◌≡◌, ◌≤◌, List, [], ◌∷◌, length, Some, Result, Ok, Err, sym, ap, ◌∙◌, inl, inr, arith}
use Rattle.std.proofs.lemmas.Bool.{cases_lt}
use Rattle.vd_model.specs.Memory.{Memory}
use Rattle.vd_model.specs.declared.parts.Chain.{Chain}
use Rattle.vr_chain.specs.declared.error.WalkError.{WalkError}
use Rattle.vr_chain.specs.declared.error.WalkError.TheVariants.{Fault, Bus, Memory as OutOfMemory}
use Rattle.vd_model.specs.declared.descriptor.Position.{Position}
use Rattle.vd_model.specs.Trace.{TraceStart, next_position, ending_at, IsTrace, EndsAs, Ending, whole, faulty, missing}
use Rattle.vr_chain.specs.Walk.{UnlessMemory}

-- two traces of one length
same_length : (q : TraceStart) (m : Memory) (xs ys : List Position) → IsTrace q m xs → IsTrace q m ys → length xs ≡ length ys → xs ≡ ys
same_length q m [] ys t u e = absurd t
same_length q m (x ∷ []) [] t u e = absurd u
same_length q m (x ∷ []) (y ∷ []) t u e = ap (λ (s : Position). s ∷ []) (t ∙ sym u)
same_length q m (x ∷ []) (y ∷ z ∷ ys) t u e = absurd (omega arith)
same_length q m (x ∷ w ∷ xs) [] t u e = absurd u
same_length q m (x ∷ w ∷ xs) (y ∷ []) t u e = absurd (omega arith)
same_length q m (x ∷ w ∷ xs) (y ∷ z ∷ ys) t u e =
    let rest : w ∷ xs ≡ z ∷ ys = same_length q m (w ∷ xs) (z ∷ ys) t.0 u.0 (omega arith) in
    let before : w ≡ z = cc in
    let on : next_position m w ≡ next_position m z = ap (next_position m) before in
    let tn = t.1.next in
    let un = u.1.next in
    let last : x ≡ y = cc in
    cc

-- a trace that goes on from an end has it as its last position
ends_once : (q : TraceStart) (m : Memory) (x : Position) (xs : List Position) (e : Ending) → IsTrace q m (x ∷ xs) → ending_at q m xs x ≡ Some e → (ys : List Position) → IsTrace q m ys → length (x ∷ xs) ≤ length ys → ys ≡ x ∷ xs
ends_once q m x xs e t h [] u l = absurd u
ends_once q m x xs e t h (y ∷ []) u l = same_length q m (y ∷ []) (x ∷ xs) u t (omega arith)
ends_once q m x xs e t h (y ∷ z ∷ ys) u l = elim (cases_lt (length (x ∷ xs)) (length (y ∷ z ∷ ys))) [
  | inl shorter ↦
      (let rest : z ∷ ys ≡ x ∷ xs = ends_once q m x xs e t h (z ∷ ys) u.0 (omega arith) in
      let on = u.1.goes_on in
      let a : z ≡ x = cc in
      let b : ys ≡ xs = cc in
      let there : ending_at q m ys z ≡ ending_at q m xs x = ap (λ (l : List Position). ending_at q m l z) b ∙ ap (ending_at q m xs) a in
      cc)
  | inr longer ↦ same_length q m (y ∷ z ∷ ys) (x ∷ xs) u t (omega arith)
]

one_of : (q : TraceStart) (m : Memory) (x y : Position) (xs ys : List Position) (e f : Ending) → y ∷ ys ≡ x ∷ xs → ending_at q m xs x ≡ Some e → ending_at q m ys y ≡ Some f → e ≡ f
one_of q m x y xs ys e f same h g =
    let a : y ≡ x = cc in
    let b : ys ≡ xs = cc in
    let there : ending_at q m ys y ≡ ending_at q m xs x = ap (λ (l : List Position). ending_at q m l y) b ∙ ap (ending_at q m xs) a in
    cc

pub one_end : (q : TraceStart) (m : Memory) (e f : Ending) → EndsAs q m e → EndsAs q m f → e ≡ f
one_end q m e f (x, xs, t, h) (y, ys, u, g) = elim (cases_lt (length (x ∷ xs)) (length (y ∷ ys))) [
  | inl shorter ↦ one_of q m x y xs ys e f (ends_once q m x xs e t h (y ∷ ys) u (omega arith)) h g
  | inr longer ↦ sym (one_of q m y x ys xs f e (ends_once q m y ys f u g (x ∷ xs) t longer) g h)
]

-- an answer that isn't want of memory tells the end
pub only_end : (q : TraceStart) (m : Memory) (r : Result Chain WalkError) → UnlessMemory r (EndsAs q m) → (end : Ending) → EndsAs q m end → UnlessMemory r (λ e. e ≡ end)
only_end q m (Ok chain) h end t = one_end q m (whole chain) end h t
only_end q m (Err OutOfMemory) h end t = tt
only_end q m (Err (Fault fault)) h end t = one_end q m (faulty fault) end h t
only_end q m (Err (Bus address)) h end t = one_end q m (missing address) end h t
