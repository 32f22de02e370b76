-- The law on the table, for every run of lines.
use Rattle.std.proofs.Common.{◌≡◌, ℕ, ◌^◌, ◌<◌, true, refl, ap, sym, List, [], ◌∷◌, length, Option, Some, None}
use Rattle.std.specs.List.{list_all}
use Rattle.std.proofs.lemmas.Bool.{and_parts}
use Rattle.vd_model.specs.declared.answer.Answer.TheVariants.{Done}
use Rattle.vd_model.specs.declared.answer.Item.{Item}
use Rattle.vd_model.specs.declared.answer.Item.TheVariants.{Text}
use Rattle.vd_model.specs.Turn.{done_with}
use Rattle.vd_vhost_model.specs.declared.access.Access.TheVariants.{Read, Write}
use Rattle.vd_vhost_model.specs.declared.access.Denied.{Denied}
use Rattle.vd_vhost_model.specs.declared.access.Denied.TheVariants.{Bus, Perm}
use Rattle.vd_vhost_model.specs.declared.step.VhostAnswer.TheVariants.{Plain}
use Rattle.vd_vhost_model.specs.declared.step.VhostStep.{VhostStep}
use Rattle.vd_vhost_model.specs.GuestTable.{VhostAct, Stored, table, guest, first_denial, loaded, are_apart, is_region_of}
use Rattle.vd_vhost_model.specs.VhostTurns.{denied_or, denied_answer, guest_load_turn, is_table_of}
use Rattle.vd_vhost_model.specs.VhostLines.{vhost_reading}
use Rattle.vd_vhost_model.specs.VhostOut.{done_after}
use Rattle.vd_vhost_laws.specs.TableLaw.{Shows, TableLaw, done_by_lines}
use Rattle.vd_vhost_laws.proofs.Found.{one_holds}
use Rattle.vd_vhost_laws.proofs.Accesses.{first_fails, loaded_len, loaded_each}
use Rattle.vd_vhost_laws.proofs.Changes.{changes, step_fits}

-- ---- what an answer tells

-- of a turn whose answer is `ok` nothing was denied
nothing_denied : (o : Option Denied) (items told : List Item) (acts : List VhostAct) → (denied_or o (done_with items acts)).answer ≡ Plain (Done told) → (o ≡ None) × (items ≡ told)
nothing_denied None items told acts e = (refl, cc)
nothing_denied (Some (Bus at)) items told acts e = cc
nothing_denied (Some (Perm at)) items told acts e = cc

same_denial : (a b : Denied) → denied_answer a ≡ denied_answer b → a ≡ b
same_denial (Bus a) (Bus b) e = cc
same_denial (Bus a) (Perm b) e = cc
same_denial (Perm a) (Bus b) e = cc
same_denial (Perm a) (Perm b) e = cc

-- of a turn whose answer is a denial that one was found, and no act is made
denied_so : (o : Option Denied) (why : Denied) (items : List Item) (acts : List VhostAct) → (denied_or o (done_with items acts)).answer ≡ denied_answer why
    → (o ≡ Some why) × ((denied_or o (done_with items acts)).acts ≡ [])
denied_so None (Bus at) items acts e = cc
denied_so None (Perm at) items acts e = cc
denied_so (Some found) why items acts e = (ap Some (same_denial found why e), refl)

-- ---- the law

module _ (size : ℕ) (done : List VhostAct) where
  shows : (at len : ℕ) (items : List Item) → at < 2 ^ 64 → (guest_load_turn done at len).answer ≡ Plain (Done items) → Shows done at len items
  shows at len items small e =
      let told = nothing_denied (first_denial (table done) Read at len) (Text (loaded (table done) (guest done) at len) ∷ []) items [] e in
      record {
        bytes = loaded (table done) (guest done) at len;
        is_text = sym told.1;
        count = loaded_len (table done) (guest done) len at;
        each = loaded_each (table done) (guest done) len at small told.0;
      }

  law : is_table_of size (table done) ≡ true → TableLaw size done
  law fits = record {
    fits = fits;
    one = one_holds (table done) (and_parts (list_all (is_region_of size) (table done)) (are_apart (table done)) fits).1;
    shows = shows;
    changes = λ step o. changes size done o step;
    load_denied = λ at len why small e.
        first_fails (table done) Read len at why small (denied_so (first_denial (table done) Read at len) why (Text (loaded (table done) (guest done) at len) ∷ []) [] e).0;
    store_denied = λ at bytes why small e.
        (let told = denied_so (first_denial (table done) Write at (length bytes)) why [] (Stored at bytes ∷ []) e in
        (first_fails (table done) Write (length bytes) at why small told.0, told.1));
  }

-- ---- runs of lines

line_fits : (size : ℕ) (done : List VhostAct) (read : Option (Option VhostStep)) → is_table_of size (table done) ≡ true → is_table_of size (table (done_after size done read)) ≡ true
line_fits size done None fits = fits
line_fits size done (Some None) fits = fits
line_fits size done (Some (Some step)) fits = step_fits size done fits step

lines_fit : (size : ℕ) (done : List VhostAct) (lines : List (List ℕ)) → is_table_of size (table done) ≡ true → is_table_of size (table (done_by_lines size done lines)) ≡ true
unfolding done_by_lines
lines_fit size done [] fits = fits
lines_fit size done (line ∷ rest) fits = lines_fit size (done_after size done (vhost_reading line)) rest (line_fits size done (vhost_reading line) fits)

pub table_law : (size : ℕ) (lines : List (List ℕ)) → TableLaw size (done_by_lines size [] lines)
table_law size lines = law size (done_by_lines size [] lines) (lines_fit size [] lines refl)
