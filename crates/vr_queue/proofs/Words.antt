-- Replies as words with a space between them.
use Rattle.std.proofs.Common.{◌≡◌, ℕ, ◌+◌, ◌<◌, List, [], ◌∷◌, ◌++◌, length, get_or, take, map, sym, ap, ◌∙◌, append_assoc}
use Rattle.std.specs.List.{join_with_byte}
use Rattle.std.proofs.lemmas.List.{append-nil, map_push, take_more}
use Rattle.vd_model.specs.Text.{behind}

join-behind : (c : ℕ) (w : List ℕ) (ws : List (List ℕ)) → join_with_byte c (w ∷ ws) ≡ w ++ behind c ws
join-behind c w [] = sym (append-nil w)
join-behind c w (x ∷ ws) = ap (λ (t : List ℕ). w ++ (c ∷ t)) (join-behind c x ws)

behind-push : (c : ℕ) (ws : List (List ℕ)) (w : List ℕ) → behind c (ws ++ w ∷ []) ≡ behind c ws ++ (c ∷ w)
behind-push c [] w = ap (λ (t : List ℕ). c ∷ t) (append-nil w)
behind-push c (x ∷ ws) w = ap (λ (t : List ℕ). c ∷ (x ++ t)) (behind-push c ws w) ∙ ap (λ (t : List ℕ). c ∷ t) (sym (append_assoc x (behind c ws) (c ∷ w)))

-- one word more, as a loop over items writes it
pub words_step : {A : Type 0} (text : A → List ℕ) (old now new : List ℕ) (xs : List A) (i : ℕ) (d : A) → i < length xs → now ≡ old ++ behind 32 (map text (take i xs)) → new ≡ now ++ (32 ∷ text (get_or xs i d))
    → new ≡ old ++ behind 32 (map text (take (i + 1) xs))
words_step text old now new xs i d lt so_far put =
    let more : map text (take (i + 1) xs) ≡ map text (take i xs) ++ text (get_or xs i d) ∷ [] = ap (map text) (take_more xs i d lt) ∙ map_push text (take i xs) (get_or xs i d) in
    put ∙ ap (λ (t : List ℕ). t ++ (32 ∷ text (get_or xs i d))) so_far ∙ append_assoc old (behind 32 (map text (take i xs))) (32 ∷ text (get_or xs i d))
    ∙ ap (λ (t : List ℕ). old ++ t) (sym (ap (behind 32) more ∙ behind-push 32 (map text (take i xs)) (text (get_or xs i d))))

-- a first word, a number and words behind them, and the line feed
pub chain_reply : (first number now new last : List ℕ) (ws : List (List ℕ)) → now ≡ first ++ (32 ∷ number) → new ≡ now ++ behind 32 ws → last ≡ new ++ 10 ∷ []
    → last ≡ join_with_byte 32 (first ∷ number ∷ ws) ++ 10 ∷ []
chain_reply first number now new last ws a b e =
    e ∙ ap (λ (t : List ℕ). t ++ 10 ∷ []) (b ∙ ap (λ (t : List ℕ). t ++ behind 32 ws) a ∙ append_assoc first (32 ∷ number) (behind 32 ws) ∙ sym (join-behind 32 first (number ∷ ws)))
