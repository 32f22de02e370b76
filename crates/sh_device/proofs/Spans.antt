-- A range gets one word more, or one page more.
use Rattle.std.proofs.Common.{◌≡◌, ℕ, zero, suc, ◌+◌, ◌-◌, ◌*◌, ◌/◌, ◌%◌, ◌<◌, ◌≤◌, List, [], ◌∷◌, ◌++◌, length, take, drop, replicate, get_or, set, refl, ap, sym, subst, ◌∙◌, arith, append_assoc, map, min, Option, Some, None}
use Rattle.std.specs.Prelude.{slice_range, slice_index}
use Rattle.std.specs.Prelude.{flat_map}
use Rattle.std.proofs.lemmas.List.{take_more, take_more_set, length-set, length-map, length-replicate, map-append}
use Rattle.std.proofs.lemmas.Grind.{flat_map-append}
use Rattle.sh_cells.specs.declared.word.Word.{Word}
use Rattle.sh_cells.specs.declared.word.Side.{Side}
use Rattle.sh_cells.specs.declared.word.Side.TheVariants.{First}
use Rattle.sh_cells.specs.declared.word.Kind.TheVariants.{Zero}
use Rattle.sh_cells.specs.declared.view.Access.{Access}
use Rattle.sh_cells.specs.declared.view.StepKind.{StepKind}
use Rattle.sh_cells.specs.declared.view.StepKind.TheVariants.{WordLoaded, WordStored}
use Rattle.sh_cells.specs.declared.view.View.{View}
use Rattle.sh_cells.specs.Views.{access, page_store, with_read, with_put, with_page_read, with_page_store}
use Rattle.sh_device.specs.Spans.{words_of, bytes_of, least_of, with_reads, with_puts, with_found, side_in, accesses_on, with_bytes, zeros, Clears, with_shown, with_hidden, accesses, copied, with_copied, Switches}

pub bytes_of-snoc : (ws : List Word) (w : Word) → bytes_of (ws ++ w ∷ []) ≡ bytes_of ws ++ slice_index w.bytes 0 ∷ slice_index w.bytes 1 ∷ []
bytes_of-snoc [] w = refl
bytes_of-snoc (x ∷ xs) w = ap (λ l. slice_index x.bytes 0 ∷ slice_index x.bytes 1 ∷ l) (bytes_of-snoc xs w)

pub least_of-snoc : (ws : List Word) (w : Word) → least_of (ws ++ w ∷ []) ≡ min (least_of ws) w.stamp
least_of-snoc [] w = omega arith
least_of-snoc (x ∷ xs) w = omega (arith, least_of-snoc xs w)

pub words_of-snoc : (stamp : ℕ) (xs : List ℕ) (x y : ℕ) → length xs % 2 ≡ 0 → words_of stamp (xs ++ x ∷ y ∷ []) ≡ words_of stamp xs ++ record { stamp = stamp; bytes = x ∷ y ∷ [] } ∷ []
words_of-snoc stamp [] x y even = refl
words_of-snoc stamp (a ∷ []) x y even = absurd (omega (arith, even))
words_of-snoc stamp (a ∷ b ∷ xs) x y even = ap (λ l. record { stamp = stamp; bytes = a ∷ b ∷ [] } ∷ l) (words_of-snoc stamp xs x y (omega (arith, even)))

pub length-words_of : (stamp : ℕ) (xs : List ℕ) → length xs % 2 ≡ 0 → 2 * length (words_of stamp xs) ≡ length xs
length-words_of stamp [] even = refl
length-words_of stamp (a ∷ []) even = absurd (omega (arith, even))
length-words_of stamp (a ∷ b ∷ xs) even = omega (arith, length-words_of stamp xs (omega (arith, even)))

-- two bytes more
pub take_two : (xs : List ℕ) (i : ℕ) → i + 1 < length xs → take (i + 2) xs ≡ take i xs ++ get_or xs i 0 ∷ get_or xs (i + 1) 0 ∷ []
take_two xs i lt =
    let two : i + 2 ≡ i + 1 + 1 = omega arith in
    ap (λ n. take n xs) two ∙ take_more xs (i + 1) 0 lt ∙ ap (λ l. l ++ get_or xs (i + 1) 0 ∷ []) (take_more xs i 0 (omega (arith, lt))) ∙ append_assoc (take i xs) (get_or xs i 0 ∷ []) (get_or xs (i + 1) 0 ∷ [])

pub take_two_set : (xs : List ℕ) (i a b : ℕ) → i + 1 < length xs → take (i + 2) (set (set xs i a) (i + 1) b) ≡ take i xs ++ a ∷ b ∷ []
take_two_set xs i a b lt =
    let two : i + 2 ≡ i + 1 + 1 = omega arith in
    let wide : i + 1 < length (set xs i a) = omega (arith, length-set xs i a, lt) in
    ap (λ n. take n (set (set xs i a) (i + 1) b)) two ∙ take_more_set (set xs i a) (i + 1) b wide ∙ ap (λ l. l ++ b ∷ []) (take_more_set xs i a (omega (arith, lt))) ∙ append_assoc (take i xs) (a ∷ []) (b ∷ [])

two_at : (xs : List ℕ) (i : ℕ) → i + 1 < length xs → take 2 (drop i xs) ≡ get_or xs i 0 ∷ get_or xs (i + 1) 0 ∷ []
two_at [] i lt = absurd (omega (arith, lt))
two_at (x ∷ []) i lt = absurd (omega (arith, lt))
two_at (x ∷ y ∷ ys) zero lt = refl
two_at (x ∷ xs) (suc i) lt = let e : suc (i + 1) ≡ suc i + 1 = omega arith in two_at xs i (omega (arith, lt)) ∙ ap (λ n. get_or xs i 0 ∷ get_or (x ∷ xs) n 0 ∷ []) e

pub two_there : (xs : List ℕ) (at i : ℕ) → i + 1 < length xs → slice_range xs (at + i - at) (at + i - at + 2) ≡ get_or xs i 0 ∷ get_or xs (i + 1) 0 ∷ []
two_there xs at i lt = (λ k. take (n k) (drop (m k) xs)) ∙ two_at xs i lt
  where
    n : at + i - at + 2 - (at + i - at) ≡ 2
    n = omega arith

    m : at + i - at ≡ i
    m = omega arith

-- one step of a kind more, behind some of it
more_steps : (kind : StepKind) (before : List StepKind) (xs : List Access) (x : Access) → (before ++ map (λ (y : Access). kind) xs) ++ kind ∷ [] ≡ before ++ map (λ (y : Access). kind) (xs ++ x ∷ [])
more_steps kind before xs x = append_assoc before (map (λ (y : Access). kind) xs) (kind ∷ []) ∙ ap (λ (l : List StepKind). before ++ l) (sym (map-append (λ (y : Access). kind) xs (x ∷ [])))

pub more_reads : (u v : View) (rs : List Access) (r : Access) → v ≡ with_reads u rs → with_read v r ≡ with_reads u (rs ++ r ∷ [])
more_reads u v rs r is = ap (λ (x : View). with_read x r) is ∙ (λ k. record u { reads = append_assoc u.reads rs (r ∷ []) k; order = more_steps WordLoaded u.order rs r k })

pub more_puts : (u v : View) (ps : List Access) (p : Access) → v ≡ with_puts u ps → with_put v p ≡ with_puts u (ps ++ p ∷ [])
more_puts u v ps p is = ap (λ (x : View). with_put x p) is ∙ (λ k. record u { puts = append_assoc u.puts ps (p ∷ []) k; order = more_steps WordStored u.order ps p k })

pub with_found-snoc : (v : View) (page : ℕ) (os : List (Option Side)) (o : Option Side) → with_found v page (os ++ o ∷ []) ≡ with_page_read (with_found v page os) (page + length os) o
with_found-snoc v page [] o = ap (λ n. with_page_read v n o) (omega arith)
with_found-snoc v page (x ∷ xs) o = let e : page + 1 + length xs ≡ page + length (x ∷ xs) = omega arith in
    with_found-snoc (with_page_read v page x) (page + 1) xs o ∙ ap (λ n. with_page_read (with_found (with_page_read v page x) (page + 1) xs) n o) e

pub accesses_on-snoc : (found : List (Option Side)) (first at : ℕ) (ws : List Word) (w : Word)
    → accesses_on found first at (ws ++ w ∷ []) ≡ accesses_on found first at ws ++ access (side_in found ((at + 2 * length ws) / 4096 - first)) (at + 2 * length ws) w ∷ []
accesses_on-snoc found first at [] w = let e : at ≡ at + 2 * length {A = Word} [] = omega arith in ap (λ (a : ℕ). access (side_in found (a / 4096 - first)) a w ∷ []) e
accesses_on-snoc found first at (x ∷ xs) w =
    let e : at + 2 + 2 * length xs ≡ at + 2 * length (x ∷ xs) = omega arith in
    let y : Access = access (side_in found (at / 4096 - first)) at x in
    ap (λ l. y ∷ l) (accesses_on-snoc found first (at + 2) xs w ∙ ap (λ (a : ℕ). accesses_on found first (at + 2) xs ++ access (side_in found (a / 4096 - first)) a w ∷ []) e)

-- pages that were cleared, and then one more
pub Clears-snoc : (v w x : View) (page : ℕ) (os : List (Option Side)) (o : Option Side) → Clears v page os w → Clears w (page + length os) (o ∷ []) x → Clears v page (os ++ o ∷ []) x
Clears-snoc v w x page [] o first next =
    let none : page + 0 ≡ page = omega arith in
    subst (λ (n : ℕ). Clears v n (o ∷ []) x) none (subst (λ (u : View). Clears u (page + 0) (o ∷ []) x) first next)
Clears-snoc v w x page (Some side ∷ os) o first next =
    let e : page + length (Some side ∷ os) ≡ page + 1 + length os = omega arith in
    Clears-snoc v w x (page + 1) os o first (subst (λ (n : ℕ). Clears w n (o ∷ []) x) e next)
Clears-snoc v w x page (None ∷ os) o (stamp, first) next =
    let e : page + length {A = Option Side} (None ∷ os) ≡ page + 1 + length os = omega arith in
    (stamp, Clears-snoc (with_bytes v stamp Zero [] (4096 * page) zeros) w x (page + 1) os o first (subst (λ (n : ℕ). Clears w n (o ∷ []) x) e next))

pub with_shown-snoc : (v : View) (page : ℕ) (os : List (Option Side)) (o : Option Side) → with_shown v page (os ++ o ∷ []) ≡ with_shown (with_shown v page os) (page + length os) (o ∷ [])
with_shown-snoc v page [] o = ap (λ n. with_shown v n (o ∷ [])) (omega arith)
with_shown-snoc v page (Some side ∷ os) o =
    let e : page + 1 + length os ≡ page + length (Some side ∷ os) = omega arith in
    with_shown-snoc v (page + 1) os o ∙ ap (λ n. with_shown (with_shown v (page + 1) os) n (o ∷ [])) e
with_shown-snoc v page (None ∷ os) o =
    let e : page + 1 + length os ≡ page + length {A = Option Side} (None ∷ os) = omega arith in
    let u : View = with_page_store v (page_store page (Some First)) in
    with_shown-snoc u (page + 1) os o ∙ ap (λ n. with_shown (with_shown u (page + 1) os) n (o ∷ [])) e

-- a look draws no stamp
pub found_left : (v : View) (page : ℕ) (os : List (Option Side)) → (with_found v page os).left ≡ v.left
found_left v page [] = refl
found_left v page (o ∷ os) = found_left (with_page_read v page o) (page + 1) os

pub take_replicate : {A : Type 0} (x : A) (n m : ℕ) → n ≤ m → take n (replicate m x) ≡ replicate n x
take_replicate x zero m le = refl
take_replicate x (suc n) zero le = absurd (omega arith)
take_replicate x (suc n) (suc m) le = ap (λ l. x ∷ l) (take_replicate x n m (omega arith))

pub with_hidden-more : (v : View) (page n : ℕ) → with_hidden v page (suc n) ≡ with_page_store (with_hidden v page n) (page_store (page + n) None)
with_hidden-more v page zero = let e : page ≡ page + 0 = omega arith in ap (λ (p : ℕ). with_page_store v (page_store p None)) e
with_hidden-more v page (suc n) =
    let e : page + 1 + n ≡ page + suc n = omega arith in
    let u : View = with_page_store v (page_store page None) in
    with_hidden-more u (page + 1) n ∙ ap (λ (p : ℕ). with_page_store (with_hidden u (page + 1) n) (page_store p None)) e

get_or-zeros : (n i : ℕ) → get_or (replicate n zero) i zero ≡ zero
get_or-zeros zero i = refl
get_or-zeros (suc n) zero = refl
get_or-zeros (suc n) (suc i) = get_or-zeros n i

-- two bytes of a page of zeros
pub zeros_there : (n at i : ℕ) → i + 1 < n → slice_range (replicate n zero) (at + i - at) (at + i - at + 2) ≡ zero ∷ zero ∷ []
zeros_there n at i lt =
    let size : i + 1 < length (replicate n zero) = omega (arith, length-replicate n zero, lt) in
    two_there (replicate n zero) at i size ∙ (λ k. get_or-zeros n i k ∷ get_or-zeros n (i + 1) k ∷ [])

pub accesses-snoc : (side : Side) (at : ℕ) (ws : List Word) (w : Word) → accesses side at (ws ++ w ∷ []) ≡ accesses side at ws ++ access side (at + 2 * length ws) w ∷ []
accesses-snoc side at [] w = let e : at ≡ at + 2 * length {A = Word} [] = omega arith in ap (λ (a : ℕ). access side a w ∷ []) e
accesses-snoc side at (x ∷ xs) w =
    let e : at + 2 + 2 * length xs ≡ at + 2 * length (x ∷ xs) = omega arith in
    ap (λ l. access side at x ∷ l) (accesses-snoc side (at + 2) xs w ∙ ap (λ (a : ℕ). accesses side (at + 2) xs ++ access side a w ∷ []) e)

map-snoc : (f : Word → Word) (ws : List Word) (w : Word) → map f (ws ++ w ∷ []) ≡ map f ws ++ f w ∷ []
map-snoc f [] w = refl
map-snoc f (x ∷ xs) w = ap (λ l. f x ∷ l) (map-snoc f xs w)

-- a page's copy gets one word more: it was read, and its copy put
pub more_copies : (u v : View) (stamp : ℕ) (from to : Side) (at : ℕ) (words : List Word) (w : Word)
    → v ≡ with_copied u stamp from to at words
    → with_put (with_read v (access from (at + 2 * length words) w)) (access to (at + 2 * length words) (copied stamp w))
    ≡ with_copied u stamp from to at (words ++ w ∷ [])
more_copies u v stamp from to at words w is =
    let ms : List Word = map (copied stamp) words in
    let n : ℕ = at + 2 * length words in
    let both : Word → List StepKind = λ (y : Word). WordLoaded ∷ WordStored ∷ [] in
    let done : List StepKind = flat_map both words in
    let same : at + 2 * length ms ≡ n = omega (arith, length-map words (copied stamp)) in
    let rs : u.reads ++ (accesses from at words ++ access from n w ∷ []) ≡ u.reads ++ accesses from at (words ++ w ∷ []) = ap (λ l. u.reads ++ l) (sym (accesses-snoc from at words w)) in
    let ps : u.puts ++ (accesses to at ms ++ access to n (copied stamp w) ∷ []) ≡ u.puts ++ accesses to at (map (copied stamp) (words ++ w ∷ [])) =
    ap (λ l. u.puts ++ l) (ap (λ (a : ℕ). accesses to at ms ++ access to a (copied stamp w) ∷ []) (sym same) ∙ sym (accesses-snoc to at ms (copied stamp w)) ∙ ap (accesses to at) (sym (map-snoc (copied stamp) words w))) in
    let os : ((u.order ++ done) ++ WordLoaded ∷ []) ++ WordStored ∷ [] ≡ u.order ++ flat_map both (words ++ w ∷ []) =
    append_assoc (u.order ++ done) (WordLoaded ∷ []) (WordStored ∷ []) ∙ append_assoc u.order done (WordLoaded ∷ WordStored ∷ []) ∙ ap (λ (l : List StepKind). u.order ++ l) (sym (flat_map-append both words (w ∷ []))) in
    ap (λ (x : View). with_put (with_read x (access from n w)) (access to n (copied stamp w))) is
    ∙ (λ k. record u { reads = (append_assoc u.reads (accesses from at words) (access from n w ∷ []) ∙ rs) k; puts = (append_assoc u.puts (accesses to at ms) (access to n (copied stamp w) ∷ []) ∙ ps) k; order = os k })

-- pages that were switched, and then one more
pub Switches-snoc : (v w x : View) (page : ℕ) (os : List (Option Side)) (o : Option Side) → Switches v page os w → Switches w (page + length os) (o ∷ []) x → Switches v page (os ++ o ∷ []) x
Switches-snoc v w x page [] o first next =
    let none : page + 0 ≡ page = omega arith in
    subst (λ (n : ℕ). Switches v n (o ∷ []) x) none (subst (λ (u : View). Switches u (page + 0) (o ∷ []) x) first next)
Switches-snoc v w x page (None ∷ os) o first next =
    let e : page + length {A = Option Side} (None ∷ os) ≡ page + 1 + length os = omega arith in
    Switches-snoc (with_page_store v (page_store page None)) w x (page + 1) os o first (subst (λ (n : ℕ). Switches w n (o ∷ []) x) e next)
Switches-snoc v w x page (Some to ∷ os) o (found, u, moves, first) next =
    let e : page + length (Some to ∷ os) ≡ page + 1 + length os = omega arith in
    (found, u, moves, Switches-snoc (with_page_store u (page_store page (Some to))) w x (page + 1) os o first (subst (λ (n : ℕ). Switches w n (o ∷ []) x) e next))
