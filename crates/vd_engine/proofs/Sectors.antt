-- The sectors of the image that names have.
use Rattle.std.proofs.Common.{◌≡◌, ℕ, ◌+◌, ◌≤◌, Bool, true, false, refl, ap, subst, ◌∙◌, sym, Option, None, Some, cond, List, [], ◌∷◌, ◌++◌, find, map, ◌||◌, inl, inr, arith}
use Rattle.std.specs.List.{list_any}
use Rattle.std.specs.Option.{option_map}
use Rattle.std.specs.Str.{bytes_eq}
use Rattle.vd_model.specs.declared.memory.Window.{Window}
use Rattle.vd_model.specs.Acts.{Act}
use Rattle.vd_model.specs.Deeds.{Deed, On, window_of, is_given}
use Rattle.vd_model.specs.Deeds.{Given as Has}
use Rattle.vd_instance.specs.Image.{window_or_none}
use Rattle.vd_engine.specs.declared.windows.Given.{Given}
use Rattle.vd_engine.specs.Windows.{HasWindows, has_window, given_window, shares_sector}
use Rattle.vd_engine.proofs.Names.{find_push_hit, find_push_miss, found_at, pushed_at, named_is, all_at, all_from}

-- ---- what leaves them

pub window_on : (n name : List ℕ) (acts : List Act) (done : List Deed) → window_of n (map (On name) acts ++ done) ≡ window_of n done
window_on n name [] done = refl
window_on n name (act ∷ acts) done = window_on n name acts done

given_on : (first count : ℕ) (name : List ℕ) (acts : List Act) (done : List Deed) → is_given first count (map (On name) acts ++ done) ≡ is_given first count done
given_on first count name [] done = refl
given_on first count name (act ∷ acts) done = given_on first count name acts done

module _ (done : List Deed) (sectors : ℕ) (gs : List Given) (h : HasWindows done sectors gs) where
  pub windows_moved : (later : List Deed) → ((n : List ℕ) → window_of n later ≡ window_of n done) → ((first count : ℕ) → is_given first count later ≡ is_given first count done) → HasWindows later sectors gs
  windows_moved later same given = record { window = λ n. h.window n ∙ sym (same n); taken = λ first count. h.taken first count ∙ sym (given first count); inside = h.inside }

  pub windows_on : (name : List ℕ) (acts : List Act) → HasWindows (map (On name) acts ++ done) sectors gs
  windows_on name acts = windows_moved (map (On name) acts ++ done) (λ n. window_on n name acts done) (λ first count. given_on first count name acts done)

  -- a window lies inside the image
  pub window_inside : (name : List ℕ) (w : Window) → window_of name done ≡ Some w → w.first + w.count ≤ sectors
  window_inside name w e = by (find (has_window name) gs) refl (h.window name ∙ e) where
    by : (o : Option Given) → find (has_window name) gs ≡ o → option_map given_window o ≡ Some w → w.first + w.count ≤ sectors
    by None f g = cc
    by (Some k) f g =
        let at = found_at (has_window name) gs k f in
        let same : k.window ≡ w = cc in
        subst (λ (v : Window). v.first + v.count ≤ sectors) same (all_at (λ (j : Given). j.window.first + j.window.count ≤ sectors) gs at.0 k h.inside at.1)

  -- so do the sectors of a device, where it has some
  pub drive_inside : (name : List ℕ) (w : Window) → w ≡ window_or_none (option_map given_window (find (has_window name) gs)) → w.first + w.count ≤ sectors
  drive_inside name w e = by (window_of name done) refl (e ∙ ap window_or_none (h.window name)) where
    by : (o : Option Window) → window_of name done ≡ o → w ≡ window_or_none o → w.first + w.count ≤ sectors
    by None f same = let first : w.first ≡ 0 = ap (λ (v : Window). v.first) same in let count : w.count ≡ 0 = ap (λ (v : Window). v.count) same in omega (arith, first, count)
    by (Some v) f same = subst (λ (u : Window). u.first + u.count ≤ sectors) (sym same) (window_inside name v f)

-- ---- one name more

or_swap : (a b c : Bool) → (a || (b || c)) ≡ (b || (a || c))
or_swap true true c = refl
or_swap true false c = refl
or_swap false true c = refl
or_swap false false c = refl

any_push : {X : Type 0} (p : X → Bool) (xs : List X) (y : X) → list_any p (xs ++ y ∷ []) ≡ (p y || list_any p xs)
any_push p [] y = refl
any_push p (z ∷ zs) y = ap (λ b. p z || b) (any_push p zs y) ∙ or_swap (p z) (p y) (list_any p zs)

module _ (done : List Deed) (sectors : ℕ) (gs : List Given) (h : HasWindows done sectors gs) (name : List ℕ) (w : Window) (new : Given) (same : new.name ≡ name) (with : new.window ≡ w)
    (none : find (has_window name) gs ≡ None) (inside : w.first + w.count ≤ sectors) where
  window : (n : List ℕ) (b : Bool) → bytes_eq n name ≡ b → option_map given_window (find (has_window n) (gs ++ new ∷ [])) ≡ cond b (Some w) (window_of n done)
  window n true e =
      let free : find (has_window n) gs ≡ None = subst (λ l. find (has_window l) gs ≡ None) (sym (named_is n name e)) none in
      ap (option_map given_window) (find_push_hit (has_window n) gs new free (subst (λ l. bytes_eq n l ≡ true) (sym same) e)) ∙ ap Some with
  window n false e = ap (option_map given_window) (find_push_miss (has_window n) gs new (subst (λ l. bytes_eq n l ≡ false) (sym same) e)) ∙ h.window n

  pub windows_more : HasWindows (Has name w ∷ done) sectors (gs ++ new ∷ [])
  windows_more = record {
    window = λ n. window n (bytes_eq n name) refl;
    taken = λ first count. any_push (shares_sector first count) gs new
        ∙ ap (λ (v : Window). shares_sector first count (record new { window = v }) || list_any (shares_sector first count) gs) with
        ∙ ap (λ b. shares_sector first count (record new { window = w }) || b) (h.taken first count);
    inside = all_from (λ (j : Given). j.window.first + j.window.count ≤ sectors) (gs ++ new ∷ []) (λ j z at. elim (pushed_at gs new j z at) [
      | inl here ↦ subst (λ (k : Given). k.window.first + k.window.count ≤ sectors) (sym here.1) (subst (λ (v : Window). v.first + v.count ≤ sectors) (sym with) inside)
      | inr other ↦ all_at (λ (k : Given). k.window.first + k.window.count ≤ sectors) gs j z h.inside other.1
    ]);
  }
