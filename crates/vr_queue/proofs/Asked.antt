-- A chain that a line adds has 1 to 64 parts.
use Rattle.std.proofs.Common.{◌≡◌, ℕ, suc, ◌+◌, ◌<◌, ◌≤◌, Bool, true, false, cond, if◌then◌else◌, ltb, leb, ◌&&◌, ◌==◌, List, [], ◌∷◌, length, codes, Option, Some, None, refl, sym, ap, subst, ◌∙◌, arith}
use Rattle.std.specs.Prelude.{option_map}
use Rattle.std.specs.Option.{option_and_then}
use Rattle.std.specs.Str.{bytes_eq}
use Rattle.std.proofs.lemmas.Bool.Decides.{nat_tests}
use Rattle.vd_model.specs.declared.parts.Part.{Part}
use Rattle.vd_model.specs.Fields.{u64_field, u32_field}
use Rattle.vd_model.specs.Forms.{cut_at, next_field, no_more_words, one_field, two_fields, form_as, each_word, part_field, parts_form}
use Rattle.vr_pair.specs.declared.line.QueueLine.{QueueLine}
use Rattle.vr_pair.specs.declared.line.QueueLine.TheVariants.{Add, Next, Used, Reclaim}
use Rattle.vr_pair.specs.QueueLines.{queue_form, queue_reading}
use Rattle.vr_queue.specs.Answers.{IsAsked}

abbrev HasLength : ℕ → Option (List Part) → Type 0
HasLength n None = Unit {0}
HasLength n (Some parts) = length parts ≡ n

one-more : (n : ℕ) (p : Option Part) (read : Option (List Part)) → HasLength n read → HasLength (suc n) (option_and_then (λ x. option_map (λ xs. x ∷ xs) read) p)
one-more n None read h = tt
one-more n (Some x) None h = tt
one-more n (Some x) (Some xs) h = ap suc h

each-length : (ws : List (List ℕ)) → HasLength (length ws) (each_word part_field ws)
each-length [] = refl
each-length (w ∷ ws) = one-more (length ws) (part_field w) (each_word part_field ws) (each-length ws)

whole : (ws : List (List ℕ)) (parts : List Part) (read : Option (List Part)) → 0 < length ws → length ws ≤ 64 → read ≡ Some parts → HasLength (length ws) read → (0 < length parts) × (length parts ≤ 64)
whole ws parts None some few e len = absurd (cc)
whole ws parts (Some xs) some few e len =
    let same : xs ≡ parts = cc in
    let long : length xs ≡ length parts = ap length same in
    (omega (arith, long, len, some), omega (arith, long, len, few))

by-tests : (ws : List (List ℕ)) (parts : List Part) (a b : Bool) → ltb 0 (length ws) ≡ a → leb (length ws) 64 ≡ b → cond (a && b) (each_word part_field ws) None ≡ Some parts → (0 < length parts) × (length parts ≤ 64)
by-tests ws parts false b ea eb e = absurd (cc)
by-tests ws parts true false ea eb e = absurd (cc)
by-tests ws parts true true ea eb e =
    let some : 0 < length ws = grind (arith, nat_tests) in
    let few : length ws ≤ 64 = grind (arith, nat_tests) in
    whole ws parts (each_word part_field ws) some few e (each-length ws)

are_few : (ws : List (List ℕ)) (parts : List Part) → parts_form ws ≡ Some parts → (0 < length parts) × (length parts ≤ 64)
unfolding parts_form
are_few ws parts e = by-tests ws parts (ltb 0 (length ws)) (leb (length ws) 64) refl refl e

-- ---- each form

either_form : (b : Bool) (x y : Option QueueLine) (line : QueueLine) → (x ≡ Some line → IsAsked line) → (y ≡ Some line → IsAsked line) → (if b then x else y) ≡ Some line → IsAsked line
either_form true x y line f g e = f e
either_form false x y line f g e = g e

add_asked : (ws : List (List ℕ)) (line : QueueLine) (read : Option (List Part)) → parts_form ws ≡ read → option_map Add read ≡ Some line → IsAsked line
add_asked ws line None is e = absurd (cc)
add_asked ws line (Some parts) is e = let same : Add parts ≡ line = cc in subst IsAsked same (are_few ws parts is)

done_asked : (s : QueueLine) (ws : List (List ℕ)) (line : QueueLine) → IsAsked s → no_more_words s ws ≡ Some line → IsAsked line
done_asked s [] line h e = let same : s ≡ line = cc in subst IsAsked same h
done_asked s (w ∷ ws) line h e = absurd (cc)

len_asked : (a : ℕ) (line : QueueLine) (read : Option (ℕ × List (List ℕ))) → option_and_then (λ r. no_more_words (Used a r.0) r.1) read ≡ Some line → IsAsked line
len_asked a line None e = absurd (cc)
len_asked a line (Some r) e = done_asked (Used a r.0) r.1 line tt e

used_asked : (line : QueueLine) (read : Option (ℕ × List (List ℕ))) → option_and_then (λ r. one_field u32_field (Used r.0) r.1) read ≡ Some line → IsAsked line
used_asked line None e = absurd (cc)
used_asked line (Some r) e = len_asked r.0 line (next_field u32_field r.1) e

form_asked : (ws : List (List ℕ)) (line : QueueLine) → queue_form ws ≡ Some line → IsAsked line
unfolding queue_form
form_asked [] line e = absurd (cc)
form_asked (w ∷ ws) line e =
    either_form (bytes_eq w (codes "add")) _ _ line (add_asked ws line (parts_form ws) refl)
    (either_form (bytes_eq w (codes "next")) _ _ line (done_asked Next ws line tt)
    (either_form (bytes_eq w (codes "used")) _ _ line (used_asked line (next_field u64_field ws))
    (either_form (bytes_eq w (codes "reclaim")) _ _ line (done_asked Reclaim ws line tt) (λ none. absurd (cc))))) e

read_asked : (ws : List (List ℕ)) (line : QueueLine) (read : Option QueueLine) → queue_form ws ≡ read → option_map Some read ≡ Some (Some line) → IsAsked line
read_asked ws line None is e = absurd (cc)
read_asked ws line (Some l) is e = let same : l ≡ line = cc in form_asked ws line (is ∙ ap Some same)

comment_asked : (b : Bool) (x : Option (Option QueueLine)) (line : QueueLine) → (x ≡ Some (Some line) → IsAsked line) → (if b then Some None else x) ≡ Some (Some line) → IsAsked line
comment_asked true x line f e = absurd (cc)
comment_asked false x line f e = f e

-- what a line asks, where it asks something
pub asked : (text : List ℕ) (line : QueueLine) → queue_reading text ≡ Some (Some line) → IsAsked line
asked [] line e = absurd (cc)
asked (c ∷ cs) line e = comment_asked (c == 35) (option_map Some (queue_form (cut_at 32 (c ∷ cs)))) line (read_asked (cut_at 32 (c ∷ cs)) line (queue_form (cut_at 32 (c ∷ cs))) refl) e
