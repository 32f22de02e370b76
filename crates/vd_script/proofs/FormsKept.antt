-- What is written of a form's value is read again by the form.
use Rattle.std.proofs.Common.{◌≡◌, ℕ, Bool, true, eqb, List, [], ◌∷◌, ◌++◌, Option, Some, None, refl, sym, ap, subst, ◌∙◌, append_assoc}
use Rattle.std.specs.Prelude.{not, option_map, option_and_then}
use Rattle.std.specs.List.{list_all, join_with_byte}
use Rattle.std.proofs.lemmas.Bool.{and_parts, and_from, not-true, eq-eqb}
use Rattle.std.proofs.lemmas.List.{append-nil}
use Rattle.vd_model.specs.Fields.{Field}
use Rattle.vd_model.specs.Forms.{Form, cut_at, no_more_words, ◌▹◌, one_field, two_fields, three_fields, four_fields, five_fields, seven_fields}
use Rattle.vd_script.proofs.Kept.{has_no, Kept}

-- no word has s
abbrev pub all_have_no : ℕ → List (List ℕ) → Bool
all_have_no s ws = list_all (has_no s) ws

-- the words that text has for a value of the form, behind those in pre
pub record Rest {S : Type 0} (s : ℕ) (text : S → List (List ℕ)) (pre : List (List ℕ)) (form : Form S) (x : S) : Type 0 where
  pub rest : List (List ℕ)
  pub is : text x ≡ pre ++ rest
  pub reads : form rest ≡ Some x
  pub whole : all_have_no s rest ≡ true

pub record FormKept {S : Type 0} (s : ℕ) (text : S → List (List ℕ)) (pre : List (List ℕ)) (form : Form S) : Type 0 where
  pub kept : (ws : List (List ℕ)) (x : S) → form ws ≡ Some x → Rest s text pre form x

pub next_is : {X S : Type 0} (f : Field X) (form : X → Form S) (ws : List (List ℕ)) (y : S) → (f ▹ form) ws ≡ Some y
    → (w : List ℕ) × (a : X) × (others : List (List ℕ)) × (f w ≡ Some a) × (form a others ≡ Some y)
next_is f form [] y e = absurd cc
next_is f form (w ∷ ws) y e = by_field f form w ws y (f w) refl e
  where
    by_field : {X S : Type 0} (f : Field X) (form : X → Form S) (w : List ℕ) (ws : List (List ℕ)) (y : S) (o : Option X) → f w ≡ o
        → option_and_then (λ (read : X × List (List ℕ)). form read.0 read.1) (option_map (λ (x : X). (x, ws)) o) ≡ Some y
        → (w : List ℕ) × (a : X) × (others : List (List ℕ)) × (f w ≡ Some a) × (form a others ≡ Some y)
    by_field f form w ws y None i e = absurd cc
    by_field f form w ws y (Some a) i e = (w, a, ws, i, e)

pub no_more_words_kept : {S : Type 0} {s : ℕ} {text : S → List (List ℕ)} {pre : List (List ℕ)} (x : S) → text x ≡ pre ++ [] → FormKept s text pre (no_more_words x)
no_more_words_kept {S} {s} {text} {pre} x e = record { kept = kept }
  where
    kept : (ws : List (List ℕ)) (y : S) → no_more_words x ws ≡ Some y → Rest s text pre (no_more_words x) y
    kept [] y same = let xy : x ≡ y = cc in subst (λ (z : S). Rest s text pre (no_more_words x) z) xy (record { rest = []; is = e; reads = refl; whole = refl })
    kept (w ∷ ws) y same = absurd cc

pub field_kept : {X S : Type 0} {s : ℕ} {f : Field X} {p : X → List ℕ} {text : S → List (List ℕ)} {pre : List (List ℕ)} {form : X → Form S}
    → Kept s f p → ((a : X) → FormKept s text (pre ++ p a ∷ []) (form a)) → FormKept s text pre (f ▹ form)
field_kept {X} {S} {s} {f} {p} {text} {pre} {form} field others = record { kept = kept }
  where
    kept : (ws : List (List ℕ)) (y : S) → (f ▹ form) ws ≡ Some y → Rest s text pre (f ▹ form) y
    kept ws y e =
        let h = next_is f form ws y e in
        let r = (others h.1).kept h.2 y h.4 in
        record {
          rest = p h.1 ∷ r.rest;
          is = r.is ∙ append_assoc pre (p h.1 ∷ []) r.rest;
          reads = rw (field.back h.0 h.1 h.3) r.reads;
          whole = and_from (has_no s (p h.1)) (all_have_no s r.rest) (field.whole h.0 h.1 h.3) r.whole;
        }

pub one_field_kept : {A S : Type 0} {s : ℕ} {f : Field A} {p : A → List ℕ} {text : S → List (List ℕ)} {pre : List (List ℕ)} → Kept s f p
    → (C : A → S) → ((a : A) → text (C a) ≡ pre ++ p a ∷ []) → FormKept s text pre (one_field f C)
one_field_kept {p = p} {pre = pre} f C e = field_kept f (λ a. no_more_words_kept (C a) (e a ∙ sym (append-nil (pre ++ p a ∷ []))))

pub two_fields_kept : {A B S : Type 0} {s : ℕ} {f : Field A} {g : Field B} {p : A → List ℕ} {q : B → List ℕ} {text : S → List (List ℕ)} {pre : List (List ℕ)} → Kept s f p → Kept s g q
    → (C : A → B → S) → ((a : A) (b : B) → text (C a b) ≡ pre ++ p a ∷ q b ∷ []) → FormKept s text pre (two_fields f g C)
two_fields_kept {p = p} {q = q} {pre = pre} f g C e = field_kept f (λ a. one_field_kept g (C a) (λ b. e a b ∙ sym (append_assoc pre (p a ∷ []) (q b ∷ []))))

pub three_fields_kept : {A B D S : Type 0} {s : ℕ} {f : Field A} {g : Field B} {h : Field D} {p : A → List ℕ} {q : B → List ℕ} {r : D → List ℕ} {text : S → List (List ℕ)} {pre : List (List ℕ)}
    → Kept s f p → Kept s g q → Kept s h r → (C : A → B → D → S) → ((a : A) (b : B) (d : D) → text (C a b d) ≡ pre ++ p a ∷ q b ∷ r d ∷ []) → FormKept s text pre (three_fields f g h C)
three_fields_kept {p = p} {q = q} {r = r} {pre = pre} f g h C e = field_kept f (λ a. two_fields_kept g h (C a) (λ b d. e a b d ∙ sym (append_assoc pre (p a ∷ []) (q b ∷ r d ∷ []))))

pub four_fields_kept : {A B D E S : Type 0} {s : ℕ} {f : Field A} {g : Field B} {h : Field D} {i : Field E} {p : A → List ℕ} {q : B → List ℕ} {r : D → List ℕ} {t : E → List ℕ} {text : S → List (List ℕ)} {pre : List (List ℕ)}
    → Kept s f p → Kept s g q → Kept s h r → Kept s i t → (C : A → B → D → E → S)
    → ((a : A) (b : B) (d : D) (e : E) → text (C a b d e) ≡ pre ++ p a ∷ q b ∷ r d ∷ t e ∷ []) → FormKept s text pre (four_fields f g h i C)
four_fields_kept {p = p} {q = q} {r = r} {t = t} {pre = pre} f g h i C e = field_kept f (λ a. three_fields_kept g h i (C a) (λ b d k. e a b d k ∙ sym (append_assoc pre (p a ∷ []) (q b ∷ r d ∷ t k ∷ []))))

pub five_fields_kept : {A B D E F S : Type 0} {s : ℕ} {f : Field A} {g : Field B} {h : Field D} {i : Field E} {j : Field F} {p : A → List ℕ} {q : B → List ℕ} {r : D → List ℕ} {t : E → List ℕ} {u : F → List ℕ}
    {text : S → List (List ℕ)} {pre : List (List ℕ)} → Kept s f p → Kept s g q → Kept s h r → Kept s i t → Kept s j u → (C : A → B → D → E → F → S)
    → ((a : A) (b : B) (d : D) (e : E) (k : F) → text (C a b d e k) ≡ pre ++ p a ∷ q b ∷ r d ∷ t e ∷ u k ∷ []) → FormKept s text pre (five_fields f g h i j C)
five_fields_kept {p = p} {q = q} {r = r} {t = t} {u = u} {pre = pre} f g h i j C e =
    field_kept f (λ a. four_fields_kept g h i j (C a) (λ b d k l. e a b d k l ∙ sym (append_assoc pre (p a ∷ []) (q b ∷ r d ∷ t k ∷ u l ∷ []))))

pub seven_fields_kept : {A B D E F G H S : Type 0} {s : ℕ} {f : Field A} {g : Field B} {h : Field D} {i : Field E} {j : Field F} {k : Field G} {l : Field H}
    {p : A → List ℕ} {q : B → List ℕ} {r : D → List ℕ} {t : E → List ℕ} {u : F → List ℕ} {v : G → List ℕ} {w : H → List ℕ} {text : S → List (List ℕ)} {pre : List (List ℕ)}
    → Kept s f p → Kept s g q → Kept s h r → Kept s i t → Kept s j u → Kept s k v → Kept s l w → (C : A → B → D → E → F → G → H → S)
    → ((a : A) (b : B) (d : D) (e : E) (x : F) (y : G) (z : H) → text (C a b d e x y z) ≡ pre ++ p a ∷ q b ∷ r d ∷ t e ∷ u x ∷ v y ∷ w z ∷ []) → FormKept s text pre (seven_fields f g h i j k l C)
seven_fields_kept {p = p} {q = q} {r = r} {t = t} {u = u} {v = v} {w = w} {pre = pre} f g h i j k l C e =
    field_kept f (λ a. field_kept g (λ b. five_fields_kept h i j k l (C a b) (λ d m x y z. e a b d m x y z
    ∙ sym (append_assoc pre (p a ∷ []) (q b ∷ r d ∷ t m ∷ u x ∷ v y ∷ w z ∷ [])) ∙ sym (append_assoc (pre ++ p a ∷ []) (q b ∷ []) (r d ∷ t m ∷ u x ∷ v y ∷ w z ∷ [])))))

-- ---- joined words are cut into these words again

cut_first : (s : ℕ) (w t : List ℕ) → has_no s w ≡ true → cut_at s (w ++ s ∷ t) ≡ w ∷ cut_at s t
cut_first s [] t h = rw (eq-eqb s s refl) refl
cut_first s (c ∷ cs) t h =
    let parts = and_parts (not (eqb c s)) (has_no s cs) h in
    rw (not-true (eqb c s) parts.0, cut_first s cs t parts.1) refl

cut_last : (s : ℕ) (w : List ℕ) → has_no s w ≡ true → cut_at s w ≡ w ∷ []
cut_last s [] h = refl
cut_last s (c ∷ cs) h =
    let parts = and_parts (not (eqb c s)) (has_no s cs) h in
    rw (not-true (eqb c s) parts.0, cut_last s cs parts.1) refl

pub cut-join : (s : ℕ) (w : List ℕ) (ws : List (List ℕ)) → all_have_no s (w ∷ ws) ≡ true → cut_at s (join_with_byte s (w ∷ ws)) ≡ w ∷ ws
cut-join s w [] h = cut_last s w (and_parts (has_no s w) true h).0
cut-join s w (x ∷ ws) h =
    let parts = and_parts (has_no s w) (all_have_no s (x ∷ ws)) h in
    cut_first s w (join_with_byte s (x ∷ ws)) parts.0 ∙ ap (λ (r : List (List ℕ)). w ∷ r) (cut-join s x ws parts.1)
