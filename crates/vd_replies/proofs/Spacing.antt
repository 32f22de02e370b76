-- Lines as words with a space between them.
use Rattle.std.proofs.Common.{◌≡◌, ℕ, ◌+◌, ◌<◌, List, [], ◌∷◌, ◌++◌, length, get_or, take, map, sym, ap, ◌∙◌, append_assoc}
use Rattle.std.specs.List.{join_with_byte}
use Rattle.std.proofs.lemmas.List.{append-nil, map_push, take_more}
use Rattle.vd_model.specs.Text.{behind}

pub join-behind : (c : ℕ) (w : List ℕ) (ws : List (List ℕ)) → join_with_byte c (w ∷ ws) ≡ w ++ behind c ws
join-behind c w [] = sym (append-nil w)
join-behind c w (x ∷ ws) = ap (λ (t : List ℕ). w ++ (c ∷ t)) (join-behind c x ws)

pub behind-push : (c : ℕ) (ws : List (List ℕ)) (w : List ℕ) → behind c (ws ++ w ∷ []) ≡ behind c ws ++ (c ∷ w)
behind-push c [] w = ap (λ (t : List ℕ). c ∷ t) (append-nil w)
behind-push c (x ∷ ws) w = ap (λ (t : List ℕ). c ∷ (x ++ t)) (behind-push c ws w) ∙ ap (λ (t : List ℕ). c ∷ t) (sym (append_assoc x (behind c ws) (c ∷ w)))

-- one word more, as a loop over items writes it
pub words_step : {A : Type 0} (text : A → List ℕ) (old now new : List ℕ) (xs : List A) (i : ℕ) (d : A) → i < length xs → now ≡ old ++ behind 32 (map text (take i xs)) → new ≡ now ++ (32 ∷ text (get_or xs i d))
    → new ≡ old ++ behind 32 (map text (take (i + 1) xs))
words_step text old now new xs i d lt so_far put =
    let more : map text (take (i + 1) xs) ≡ map text (take i xs) ++ text (get_or xs i d) ∷ [] = ap (map text) (take_more xs i d lt) ∙ map_push text (take i xs) (get_or xs i d) in
    put ∙ ap (λ (t : List ℕ). t ++ (32 ∷ text (get_or xs i d))) so_far ∙ append_assoc old (behind 32 (map text (take i xs))) (32 ∷ text (get_or xs i d))
    ∙ ap (λ (t : List ℕ). old ++ t) (sym (ap (behind 32) more ∙ behind-push 32 (map text (take i xs)) (text (get_or xs i d))))

-- a reply line, as it is written
pub reply : (old begun now f f' : List ℕ) (ws : List (List ℕ)) → f ≡ f' → begun ≡ old ++ f → now ≡ begun ++ behind 32 ws → now ++ 10 ∷ [] ≡ old ++ (join_with_byte 32 (f' ∷ ws) ++ 10 ∷ [])
reply old begun now f f' ws fe b n = rw (n, b, fe, join-behind 32 f' ws) (simp append_assoc)
