-- What is written of parts, and of a block request, is read again.
use Rattle.std.proofs.Common.{◌≡◌, ℕ, Bool, true, false, ◌&&◌, cond, eqb, ltb, leb, List, [], ◌∷◌, ◌++◌, length, map, Option, Some, None, refl, ap, subst, ◌∙◌, arith}
use Rattle.std.specs.Prelude.{not, codes, option_map, option_and_then, decimal}
use Rattle.std.specs.List.{join_with_byte}
use Rattle.std.specs.Str.{bytes_eq}
use Rattle.std.proofs.lemmas.Bool.{and_parts, and_from, not_from_false}
use Rattle.std.proofs.lemmas.List.Folds.{list_all-append}
use Rattle.vd_model.specs.declared.parts.Part.{Part}
use Rattle.vd_model.specs.declared.step.SubmitForm.{SubmitForm}
use Rattle.vd_model.specs.declared.step.SubmitForm.TheVariants.{Read, Write, Flush, Id}
use Rattle.vd_model.specs.Fields.{u64_field, u32_field, writable_field}
use Rattle.vd_model.specs.Forms.{Form, cut_at, no_more_words, form_as, two_fields, three_fields, four_fields, line_part, part_field, each_word, parts_form, submit_form}
use Rattle.vd_model.specs.Text.{writable_text, part_text, submit_text}
use Rattle.vd_script.proofs.Kept.{has_no, Kept, writable_kept, number_kept, u64_kept, map_is}
use Rattle.vd_script.proofs.FormsKept.{all_have_no, Rest, FormKept, no_more_words_kept, two_fields_kept, three_fields_kept, four_fields_kept, cut-join}

pub form_as_kept : {S T : Type 0} {s : ℕ} {text : T → List (List ℕ)} {pre : List (List ℕ)} {form : Form S} (C : S → T) → FormKept s (λ x. text (C x)) pre form → FormKept s text pre (form_as C form)
form_as_kept {S} {T} {s} {text} {pre} {form} C inner = record { kept = kept }
  where
    kept : (ws : List (List ℕ)) (y : T) → form_as C form ws ≡ Some y → Rest s text pre (form_as C form) y
    kept ws y e =
        let m = map_is C (form ws) y e in
        let r = inner.kept ws m.0 m.1 in
        subst (λ (z : T). Rest s text pre (form_as C form) z) m.2 (record { rest = r.rest; is = r.is; reads = rw r.reads refl; whole = r.whole })

-- ---- a part

abbrev line_part_words : Part → List (List ℕ)
line_part_words p = writable_text p.writable ∷ decimal p.at ∷ decimal p.len ∷ []

abbrev line_part_form : Form Part
line_part_form = three_fields writable_field u64_field u32_field line_part

colon_kept : FormKept 58 line_part_words [] line_part_form
colon_kept = three_fields_kept (writable_kept 58 refl refl) (number_kept 58 refl 0 _ (omega arith)) (number_kept 58 refl 0 _ (omega arith)) line_part (λ a b d. refl)

space_kept : FormKept 32 line_part_words [] line_part_form
space_kept = three_fields_kept (writable_kept 32 refl refl) (number_kept 32 refl 0 _ (omega arith)) (number_kept 32 refl 0 _ (omega arith)) line_part (λ a b d. refl)

join_whole : (s t : ℕ) → eqb t s ≡ false → (w : List ℕ) (ws : List (List ℕ)) → all_have_no s (w ∷ ws) ≡ true → has_no s (join_with_byte t (w ∷ ws)) ≡ true
join_whole s t differ w [] h = (and_parts (has_no s w) true h).0
join_whole s t differ w (x ∷ ws) h =
    let parts = and_parts (has_no s w) (all_have_no s (x ∷ ws)) h in
    list_all-append (λ b. not (eqb b s)) w (t ∷ join_with_byte t (x ∷ ws))
    ∙ and_from (has_no s w) (not (eqb t s) && has_no s (join_with_byte t (x ∷ ws))) parts.0 (and_from (not (eqb t s)) _ (not_from_false (eqb t s) differ) (join_whole s t differ x ws parts.1))

pub line_part_kept : Kept 32 part_field part_text
line_part_kept = record {
  back = λ w x e.
      let r = colon_kept.kept (cut_at 58 w) x e in
      let whole : all_have_no 58 (line_part_words x) ≡ true = ap (all_have_no 58) r.is ∙ r.whole in
      ap line_part_form (cut-join 58 (writable_text x.writable) (decimal x.at ∷ decimal x.len ∷ []) whole) ∙ ap line_part_form r.is ∙ r.reads;
  whole = λ w x e.
      let r = space_kept.kept (cut_at 58 w) x e in
      let whole : all_have_no 32 (line_part_words x) ≡ true = ap (all_have_no 32) r.is ∙ r.whole in
      join_whole 32 58 refl (writable_text x.writable) (decimal x.at ∷ decimal x.len ∷ []) whole;
}

-- ---- parts

chosen : {A : Type 0} (b : Bool) (o : Option A) (y : A) → cond b o None ≡ Some y → (b ≡ true) × (o ≡ Some y)
chosen true o y e = (refl, e)
chosen false o y e = absurd cc

by_word : {A P : Type 0} (b c d e : Bool) (o r s t : Option A) (y : A) → cond b o (cond c r (cond d s (cond e t None))) ≡ Some y
    → (o ≡ Some y → P) → (r ≡ Some y → P) → (s ≡ Some y → P) → (t ≡ Some y → P) → P
by_word true c d e o r s t y q fo fr fs ft = fo q
by_word false true d e o r s t y q fo fr fs ft = fr q
by_word false false true e o r s t y q fo fr fs ft = fs q
by_word false false false true o r s t y q fo fr fs ft = ft q
by_word false false false false o r s t y q fo fr fs ft = absurd cc

both_are : {A B D : Type 0} (f : A → B → D) (o : Option A) (r : Option B) (y : D) → option_and_then (λ x. option_map (λ z. f x z) r) o ≡ Some y
    → (x : A) × (z : B) × (o ≡ Some x) × (r ≡ Some z) × (f x z ≡ y)
both_are f None r y e = absurd cc
both_are f (Some x) None y e = absurd cc
both_are f (Some x) (Some z) y e = (x, z, refl, refl, cc)

each_word_kept : (ws : List (List ℕ)) (ps : List Part) → each_word part_field ws ≡ Some ps
    → (each_word part_field (map part_text ps) ≡ Some ps) × (all_have_no 32 (map part_text ps) ≡ true) × (length (map part_text ps) ≡ length ws)
each_word_kept [] ps e = let none : [] ≡ ps = cc in subst (λ (qs : List Part). (each_word part_field (map part_text qs) ≡ Some qs) × (all_have_no 32 (map part_text qs) ≡ true) × (length (map part_text qs) ≡ 0)) none (refl, refl, refl)
each_word_kept (w ∷ ws) ps e =
    let b = both_are (λ (x : Part) (xs : List Part). x ∷ xs) (part_field w) (each_word part_field ws) ps e in
    let ih = each_word_kept ws b.1 b.3 in
    subst (λ (qs : List Part). (each_word part_field (map part_text qs) ≡ Some qs) × (all_have_no 32 (map part_text qs) ≡ true) × (length (map part_text qs) ≡ length (w ∷ ws))) b.4
    (rw (line_part_kept.back w b.0 b.2, ih.0) refl, and_from _ _ (line_part_kept.whole w b.0 b.2) ih.1, omega (arith, ih.2))

pub parts_kept : {text : List Part → List (List ℕ)} {pre : List (List ℕ)} → ((ps : List Part) → text ps ≡ pre ++ map part_text ps) → FormKept 32 text pre parts_form
unfolding parts_form
parts_kept {text} {pre} e = record { kept = kept }
  where
    kept : (ws : List (List ℕ)) (ps : List Part) → parts_form ws ≡ Some ps → Rest 32 text pre parts_form ps
    kept ws ps f =
        let c = chosen (ltb 0 (length ws) && leb (length ws) 64) (each_word part_field ws) ps f in
        let k = each_word_kept ws ps c.1 in
        record { rest = map part_text ps; is = e ps; reads = rw (k.2, c.0) k.0; whole = k.1 }

-- ---- a block request

-- the words of a block request, behind the first one
abbrev pub SubmitKept : SubmitForm → Type 0
SubmitKept x = (submit_form (submit_text x) ≡ Some x) × (all_have_no 32 (submit_text x) ≡ true)

read_kept : (ws : List (List ℕ)) (x : SubmitForm) → four_fields u64_field u64_field u64_field u64_field Read ws ≡ Some x → SubmitKept x
unfolding submit_form
read_kept ws x e =
    let form : FormKept 32 submit_text (codes "read" ∷ []) (four_fields u64_field u64_field u64_field u64_field Read) = four_fields_kept u64_kept u64_kept u64_kept u64_kept Read (λ a b c d. refl) in
    let r = form.kept ws x e in
    (ap submit_form r.is ∙ r.reads, ap (all_have_no 32) r.is ∙ r.whole)

write_kept : (ws : List (List ℕ)) (x : SubmitForm) → four_fields u64_field u64_field u64_field u64_field Write ws ≡ Some x → SubmitKept x
unfolding submit_form
write_kept ws x e =
    let form : FormKept 32 submit_text (codes "write" ∷ []) (four_fields u64_field u64_field u64_field u64_field Write) = four_fields_kept u64_kept u64_kept u64_kept u64_kept Write (λ a b c d. refl) in
    let r = form.kept ws x e in
    (ap submit_form r.is ∙ r.reads, ap (all_have_no 32) r.is ∙ r.whole)

flush_kept : (ws : List (List ℕ)) (x : SubmitForm) → no_more_words Flush ws ≡ Some x → SubmitKept x
unfolding submit_form
flush_kept ws x e =
    let form : FormKept 32 submit_text (codes "flush" ∷ []) (no_more_words Flush) = no_more_words_kept Flush refl in
    let r = form.kept ws x e in
    (ap submit_form r.is ∙ r.reads, ap (all_have_no 32) r.is ∙ r.whole)

id_kept : (ws : List (List ℕ)) (x : SubmitForm) → two_fields u64_field u64_field Id ws ≡ Some x → SubmitKept x
unfolding submit_form
id_kept ws x e =
    let form : FormKept 32 submit_text (codes "id" ∷ []) (two_fields u64_field u64_field Id) = two_fields_kept u64_kept u64_kept Id (λ a b. refl) in
    let r = form.kept ws x e in
    (ap submit_form r.is ∙ r.reads, ap (all_have_no 32) r.is ∙ r.whole)

submit_is : (ws : List (List ℕ)) (x : SubmitForm) → submit_form ws ≡ Some x → SubmitKept x
unfolding submit_form
submit_is [] x e = absurd cc
submit_is (w ∷ ws) x e = by_word (bytes_eq w (codes "read")) (bytes_eq w (codes "write")) (bytes_eq w (codes "flush")) (bytes_eq w (codes "id")) _ _ _ _ x e (read_kept ws x) (write_kept ws x) (flush_kept ws x) (id_kept ws x)

pub submit_kept : {text : SubmitForm → List (List ℕ)} {pre : List (List ℕ)} → ((x : SubmitForm) → text x ≡ pre ++ submit_text x) → FormKept 32 text pre submit_form
submit_kept {text} {pre} e = record { kept = λ ws x f. let k = submit_is ws x f in record { rest = submit_text x; is = e x; reads = k.0; whole = k.1 } }
