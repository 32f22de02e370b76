-- What is written of a step is read again as the step.
use Rattle.std.proofs.Common.{◌≡◌, ℕ, Bool, true, false, cond, eqb, List, [], ◌∷◌, ◌++◌, Option, Some, None, refl, sym, ap, subst, ◌∙◌}
use Rattle.std.specs.Prelude.{not, option_map, option_and_then}
use Rattle.std.specs.List.{join_with_byte}
use Rattle.std.proofs.lemmas.Bool.{and_parts, and_from, not-true}
use Rattle.vd_model.specs.declared.word.Keyword.{Keyword}
use Rattle.vd_model.specs.declared.word.Keyword.TheVariants as first
use Rattle.vd_model.specs.declared.step.Step.{Step}
use Rattle.vd_model.specs.declared.step.Step.TheVariants.{Control, Device, Queue}
use Rattle.vd_model.specs.declared.step.DevStep.TheVariants.{Node, Area, Bus, Driver}
use Rattle.vd_model.specs.Fields.{name_field}
use Rattle.vd_model.specs.Forms.{Form, cut_at, ◌▹◌, form_as}
use Rattle.vd_model.specs.ControlLines.{control_form, control_text}
use Rattle.vd_model.specs.NodeLines.{node_form, node_text}
use Rattle.vd_model.specs.AreaLines.{area_form, area_text}
use Rattle.vd_model.specs.BusLines.{bus_form, bus_text}
use Rattle.vd_model.specs.DriverLines.{driver_form, driver_text}
use Rattle.vd_model.specs.QueueLines.{queue_form, queue_text}
use Rattle.vd_model.specs.Reading.{keyword, form_of, step_form, reading}
use Rattle.vd_model.specs.Text.{behind}
use Rattle.vd_model.specs.Spelling.{with_name, step_text, spelling}
use Rattle.vd_script.proofs.Lines.{join-behind}
use Rattle.vd_script.proofs.Kept.{has_no, name_kept, map_is}
use Rattle.vd_script.proofs.FormsKept.{all_have_no, next_is, cut-join}
use Rattle.vd_script.proofs.RowKept.{is_first, RowKept}
use Rattle.vd_script.proofs.ControlRows.{control_row}
use Rattle.vd_script.proofs.NodeRows.{node_row}
use Rattle.vd_script.proofs.AreaRows.{area_row}
use Rattle.vd_script.proofs.BusRows.{bus_row}
use Rattle.vd_script.proofs.DriverRows.{driver_row}
use Rattle.vd_script.proofs.QueueRows.{queue_row}

abbrev pub Again : Step → Type 0
Again s = reading (spelling s) ≡ Some (Some s)

-- a line that begins with a first word is read as a step's
reads_step : (w : List ℕ) (ws : List (List ℕ)) (s : Step) → is_first w ≡ true → all_have_no 32 ws ≡ true → step_form (w ∷ ws) ≡ Some s
    → reading (join_with_byte 32 (w ∷ ws)) ≡ Some (Some s)
reads_step [] ws s first whole e = absurd cc
reads_step (c ∷ cs) ws s first whole e =
    let parts = and_parts (not (eqb c 35)) (has_no 32 (c ∷ cs)) first in
    let cut = cut-join 32 (c ∷ cs) ws (and_from (has_no 32 (c ∷ cs)) (all_have_no 32 ws) parts.1 whole) in
    let line = join-behind 32 (c ∷ cs) ws in
    let read : option_map Some (step_form (cut_at 32 (c ∷ (cs ++ behind 32 ws)))) ≡ Some (Some s) =
    ap (λ (t : List ℕ). option_map Some (step_form (cut_at 32 t))) (sym line) ∙ ap (λ (t : List (List ℕ)). option_map Some (step_form t)) cut ∙ ap (option_map Some) e in
    ap reading line ∙ rw (not-true (eqb c 35) parts.0) read

-- the words of a step with a device's name
named : {S : Type 0} (k : Keyword) (name : List ℕ) (form : Form S) (text : S → List (List ℕ)) (make : List ℕ → S → Step) → RowKept k name form text
    → ((ws : List (List ℕ)) → form_of k ws ≡ (name_field ▹ λ d. form_as (make d) form) ws) → ((d : List ℕ) (x : S) → step_text (make d x) ≡ with_name d (text x))
    → (ws : List (List ℕ)) (s : Step) → form_of k ws ≡ Some s → Again s
unfolding step_form
named k name form text make row is written ws s e =
    let h = next_is name_field (λ d. form_as (make d) form) ws s (sym (is ws) ∙ e) in
    let m = map_is (make h.1) (form h.2) s h.4 in
    let r = row.kept.kept h.2 m.0 m.1 in
    let words : step_text (make h.1 m.0) ≡ name ∷ h.1 ∷ r.rest = written h.1 m.0 ∙ ap (with_name h.1) r.is in
    let again : form_of k (h.1 ∷ r.rest) ≡ Some (make h.1 m.0) = is (h.1 ∷ r.rest) ∙ rw (name_kept.back h.0 h.1 h.3, r.reads) refl in
    let read : step_form (name ∷ h.1 ∷ r.rest) ≡ Some (make h.1 m.0) = rw row.known again in
    let whole = and_from (has_no 32 h.1) (all_have_no 32 r.rest) (name_kept.whole h.0 h.1 h.3) r.whole in
    subst Again m.2 (ap (λ (t : List (List ℕ)). reading (join_with_byte 32 t)) words ∙ reads_step name (h.1 ∷ r.rest) (make h.1 m.0) row.first whole read)

plain : {S : Type 0} (k : Keyword) (name : List ℕ) (form : Form S) (text : S → List (List ℕ)) (make : S → Step) → RowKept k name form text
    → ((ws : List (List ℕ)) → form_of k ws ≡ form_as make form ws) → ((x : S) → step_text (make x) ≡ text x)
    → (ws : List (List ℕ)) (s : Step) → form_of k ws ≡ Some s → Again s
unfolding step_form
plain k name form text make row is written ws s e =
    let m = map_is make (form ws) s (sym (is ws) ∙ e) in
    let r = row.kept.kept ws m.0 m.1 in
    let words : step_text (make m.0) ≡ name ∷ r.rest = written m.0 ∙ r.is in
    let again : form_of k r.rest ≡ Some (make m.0) = is r.rest ∙ rw r.reads refl in
    let read : step_form (name ∷ r.rest) ≡ Some (make m.0) = rw row.known again in
    subst Again m.2 (ap (λ (t : List (List ℕ)). reading (join_with_byte 32 t)) words ∙ reads_step name r.rest (make m.0) row.first r.whole read)

again_of : (k : Keyword) (ws : List (List ℕ)) (s : Step) → form_of k ws ≡ Some s → Again s
again_of (first.Control k) ws s e = plain _ _ (control_form k) control_text Control (control_row k) (λ t. refl) (λ x. refl) ws s e
again_of (first.Node k) ws s e = named _ _ (node_form k) node_text (λ d x. Device d (Node x)) (node_row k) (λ t. refl) (λ d x. refl) ws s e
again_of (first.Area k) ws s e = named _ _ (area_form k) area_text (λ d x. Device d (Area x)) (area_row k) (λ t. refl) (λ d x. refl) ws s e
again_of (first.Bus k) ws s e = named _ _ (bus_form k) bus_text (λ d x. Device d (Bus x)) (bus_row k) (λ t. refl) (λ d x. refl) ws s e
again_of (first.Driver k) ws s e = named _ _ (driver_form k) driver_text (λ d x. Device d (Driver x)) (driver_row k) (λ t. refl) (λ d x. refl) ws s e
again_of (first.Queue k) ws s e = named _ _ (queue_form k) queue_text Queue (queue_row k) (λ t. refl) (λ d x. refl) ws s e

with_keyword : (o : Option Keyword) (ws : List (List ℕ)) (s : Step) → option_and_then (λ k. form_of k ws) o ≡ Some s → Again s
with_keyword None ws s e = absurd cc
with_keyword (Some k) ws s e = again_of k ws s e

of_words : (ws : List (List ℕ)) (s : Step) → step_form ws ≡ Some s → Again s
unfolding step_form
of_words [] s e = absurd cc
of_words (w ∷ ws) s e = with_keyword (keyword w) ws s e

of_test : (b : Bool) (o : Option Step) (s : Step) → cond b (Some None) (option_map Some o) ≡ Some (Some s) → o ≡ Some s
of_test true o s e = absurd cc
of_test false None s e = absurd cc
of_test false (Some x) s e = cc

pub again : (line : List ℕ) (s : Step) → reading line ≡ Some (Some s) → Again s
again [] s e = absurd cc
again (c ∷ cs) s e = of_words (cut_at 32 (c ∷ cs)) s (of_test (eqb c 35) (step_form (cut_at 32 (c ∷ cs))) s e)
