-- Where the words and the views change by one step, they stay consistent. Here the views are what is told of each list, before and after.
use Rattle.std.proofs.Common.{◌≡◌, ◌≢◌, ◌⊎◌, ℕ, ◌+◌, ◌*◌, ◌%◌, ◌<◌, ◌≤◌, List, length, set, sym, ap, ◌∙◌, subst, ⊎_elim, inl, inr, arith}
use Rattle.std.specs.Prelude.{slice_index, Some, None, true}
use Rattle.std.proofs.lemmas.List.{get_or-set_same, get_or-set_other, length-set}
use native.Mathlib.Decide.{ℕ_discrete}
use Rattle.sh_cells.specs.declared.word.Word.{Word}
use Rattle.sh_cells.specs.declared.word.Side.{Side}
use Rattle.sh_cells.specs.declared.view.Entry.{Entry}
use Rattle.sh_cells.specs.declared.view.Access.{Access}
use Rattle.sh_cells.specs.declared.view.PageStore.{PageStore}
use Rattle.sh_cells.specs.declared.view.PageRead.{PageRead}
use Rattle.sh_cells.specs.Words.{word_of, zero_word, side_of}
use Rattle.sh_cells.specs.Places.{cell_place, page_place}
use Rattle.sh_cells.specs.Views.{access, page_store}
use Rattle.sh_cells.specs.Backed.{IsBacked}
use Rattle.sh_cells.specs.Rule.{IsConsistent}
use Rattle.sh_cells.proofs.Told.{Same, Adds}
use Rattle.sh_cells.proofs.Places.{same_cell, side_number_small}

pub backed_on : (E E' : Entry → Type 0) (P P' : Access → Type 0) (side : Side) (at : ℕ) (w : Word)
    → ((e : Entry) → E e → E' e) → ((p : Access) → P p → P' p) → IsBacked E P side at w → IsBacked E' P' side at w
backed_on E E' P P' side at w es ps (inl z) = inl z
backed_on E E' P P' side at w es ps (inr (e, drew, covers, put)) = inr (e, es e drew, covers, ps (access side at w) put)

-- a page word says so now; where the pass had made the page present, it is known by which store
abbrev pub Finds : ℕ → List ℕ → (PageStore → Type 0) → PageRead → Type 0
Finds pages words stored q =
    (q.page < pages) × (q.side ≡ side_of (slice_index words (page_place q.page))) × (q.stored ≡ true → (side : Side) × stored (page_store q.page (Some side)))

module _ (pages : ℕ) (words : List ℕ)
    (E E' : Entry → Type 0) (P P' R R' : Access → Type 0) (S S' : PageStore → Type 0) (Q Q' : PageRead → Type 0) where
  -- the words stay; what is read anew is backed, and what is found anew is what the page word says
  pub same_words : ((r : Access) → R' r → R r ⊎ IsBacked E P r.side r.at r.word) → ((q : PageRead) → Q' q → Q q ⊎ Finds pages words S q)
      → Same E E' → Same P P' → Same S S'
      → IsConsistent pages words E P R S Q → IsConsistent pages words E' P' R' S' Q'
  same_words rs qs es ps ss h = record {
    wide = h.wide;
    few = h.few;
    drawn = λ e t. h.drawn e (es.1 e t);
    one_each = λ d e t u s. h.one_each d e (es.1 d t) (es.1 e u) s;
    cells = λ side at even lt. backed_on E E' P P' side at _ es.0 ps.0 (h.cells side at even lt);
    reads = λ r t. backed_on E E' P P' r.side r.at r.word es.0 ps.0
        (⊎_elim (λ (old : R r). h.reads r old) (λ (new : IsBacked E P r.side r.at r.word). new) (rs r t));
    not_zero = λ p t. h.not_zero p (ps.1 p t);
    present = λ page side lt is. ss.0 _ (h.present page side lt is);
    absent = λ page side lt is t. ss.0 _ (h.absent page side lt is (ss.1 _ t));
    found_present = λ q side t is. ss.0 _
        (⊎_elim (λ (old : Q q). h.found_present q side old is) (λ (new : Finds pages words S q). h.present q.page side new.0 (sym new.1 ∙ is)) (qs q t));
    found_absent = λ q t is was. ss.0 _
        (⊎_elim
        (λ (old : Q q). h.found_absent q old is was)
        (λ (new : Finds pages words S q). let known = new.2 was in h.absent q.page known.0 new.0 (sym new.1 ∙ is) known.1)
        (qs q t));
  }

  -- a word is stored that is backed there, and not zero
  pub put_word : (side : Side) (at n : ℕ) → at % 2 ≡ 0 → at < 4096 * pages → word_of n ≢ zero_word
      → IsBacked E' P' side at (word_of n)
      → Same E E' → Adds P P' (access side at (word_of n)) → Same R R' → Same S S' → Same Q Q'
      → IsConsistent pages words E P R S Q → IsConsistent pages (set words (cell_place side at) n) E' P' R' S' Q'
  put_word side at n even lt not_zero backed es ps rs ss qs h =
      let i = cell_place side at in
      let in_words : i < length words = omega (arith, h.wide, even, lt, side_number_small side) in
      let now : List ℕ = set words i n in
      let other : (j : ℕ) → j ≢ i → slice_index now j ≡ slice_index words j = λ j ne. get_or-set_other words i j n 0 ne in
      let here : slice_index now i ≡ n = get_or-set_same words i n 0 in_words in
      let cells' : (side' : Side) (at' : ℕ) → at' % 2 ≡ 0 → at' < 4096 * pages → Dec (cell_place side' at' ≡ i) → IsBacked E' P' side' at' (word_of (slice_index now (cell_place side' at')))
      = λ side' at' even' lt' d. elim d as (λ _. IsBacked E' P' side' at' (word_of (slice_index now (cell_place side' at')))) [
        | yes is ↦
            let same = same_cell side' side at' at even' even is in
            let number : slice_index now (cell_place side' at') ≡ n = ap (slice_index now) is ∙ here in
            let P₁ : Side × ℕ × ℕ → Type 0 = λ x. IsBacked E' P' x.0 x.1 (word_of x.2) in
            subst P₁ (λ k. (sym same.0 k, sym same.1 k, sym number k)) backed
        | no ne ↦ subst (λ (m : ℕ). IsBacked E' P' side' at' (word_of m)) (sym (other (cell_place side' at') ne)) (backed_on E E' P P' side' at' _ es.0 (ps.0) (h.cells side' at' even' lt'))
      ] in
      let not_zero' : (p : Access) → P' p → Dec (cell_place p.side p.at ≡ i) → word_of (slice_index now (cell_place p.side p.at)) ≢ zero_word
      = λ p t d. elim d as (λ _. word_of (slice_index now (cell_place p.side p.at)) ≢ zero_word) [
        | yes is ↦ subst (λ (m : ℕ). word_of m ≢ zero_word) (sym (ap (slice_index now) is ∙ here)) not_zero
        | no ne ↦ subst (λ (m : ℕ). word_of m ≢ zero_word) (sym (other (cell_place p.side p.at) ne))
            (⊎_elim (λ (old : P p). h.not_zero p old) (λ (is : access side at (word_of n) ≡ p). absurd (ne (ap (λ (y : Access). cell_place y.side y.at) (sym is)))) (ps.2 p t))
      ] in
      let zeroth : slice_index now 0 ≡ slice_index words 0 = other 0 (λ (e : 0 ≡ i). omega arith) in
      let paged : (page : ℕ) → page < pages → slice_index now (page_place page) ≡ slice_index words (page_place page) = λ page l. other (page_place page) (λ (e : page_place page ≡ i). omega (arith, h.few, l)) in
      record {
        wide = length-set words i n ∙ h.wide;
        few = h.few;
        drawn = λ e t. let d = h.drawn e (es.1 e t) in (d.0, omega (arith, d.1, zeroth));
        one_each = λ d e t u s. h.one_each d e (es.1 d t) (es.1 e u) s;
        cells = λ side' at' even' lt'. cells' side' at' even' lt' (ℕ_discrete (cell_place side' at') i);
        reads = λ q t. backed_on E E' P P' q.side q.at q.word es.0 ps.0 (h.reads q (rs.1 q t));
        not_zero = λ p t. not_zero' p t (ℕ_discrete (cell_place p.side p.at) i);
        present = λ page side' l is. ss.0 _ (h.present page side' l (ap side_of (sym (paged page l)) ∙ is));
        absent = λ page side' l is t. ss.0 _ (h.absent page side' l (ap side_of (sym (paged page l)) ∙ is) (ss.1 _ t));
        found_present = λ q side' t is. ss.0 _ (h.found_present q side' (qs.1 q t) is);
        found_absent = λ q t is was. ss.0 _ (h.found_absent q (qs.1 q t) is was);
      }

  -- the next stamp is drawn
  pub draw_entry : (e : Entry) → e.stamp ≡ slice_index words 0 + 1
      → Adds E E' e → Same P P' → Same R R' → Same S S' → Same Q Q'
      → IsConsistent pages words E P R S Q → IsConsistent pages (set words 0 (slice_index words 0 + 1)) E' P' R' S' Q'
  draw_entry e stamp es ps rs ss qs h =
      let n : ℕ = slice_index words 0 in
      let now : List ℕ = set words 0 (n + 1) in
      let in_words : 0 < length words = omega (arith, h.wide) in
      let other : (j : ℕ) → j ≢ 0 → slice_index now j ≡ slice_index words j = λ j ne. get_or-set_other words 0 j (n + 1) 0 ne in
      let here : slice_index now 0 ≡ n + 1 = get_or-set_same words 0 (n + 1) 0 in_words in
      let celled : (side : Side) (at : ℕ) → slice_index now (cell_place side at) ≡ slice_index words (cell_place side at) = λ side at. other (cell_place side at) (λ (c : cell_place side at ≡ 0). omega arith) in
      let paged : (page : ℕ) → slice_index now (page_place page) ≡ slice_index words (page_place page) = λ page. other (page_place page) (λ (c : page_place page ≡ 0). omega arith) in
      let old_stamp : (d : Entry) → E d → d.stamp ≤ n = λ d t. (h.drawn d t).1 in
      record {
        wide = length-set words 0 (n + 1) ∙ h.wide;
        few = h.few;
        drawn = λ d t. ⊎_elim
            (λ (old : E d). ((h.drawn d old).0, omega (arith, old_stamp d old, here)))
            (λ (is : e ≡ d). (omega (arith, ap (λ (y : Entry). y.stamp) is, stamp), omega (arith, ap (λ (y : Entry). y.stamp) is, stamp, here)))
            (es.2 d t);
        one_each = λ d f t u s. ⊎_elim
            (λ (old : E d). ⊎_elim (λ (old' : E f). h.one_each d f old old' s) (λ (is : e ≡ f). absurd (omega (arith, old_stamp d old, ap (λ (y : Entry). y.stamp) is, stamp, s))) (es.2 f u))
            (λ (is : e ≡ d). ⊎_elim (λ (old' : E f). absurd (omega (arith, old_stamp f old', ap (λ (y : Entry). y.stamp) is, stamp, s))) (λ (is' : e ≡ f). sym is ∙ is') (es.2 f u))
            (es.2 d t);
        cells = λ side at even lt. subst (λ (m : ℕ). IsBacked E' P' side at (word_of m)) (sym (celled side at)) (backed_on E E' P P' side at _ es.0 ps.0 (h.cells side at even lt));
        reads = λ q t. backed_on E E' P P' q.side q.at q.word es.0 ps.0 (h.reads q (rs.1 q t));
        not_zero = λ p t. subst (λ (m : ℕ). word_of m ≢ zero_word) (sym (celled p.side p.at)) (h.not_zero p (ps.1 p t));
        present = λ page side l is. ss.0 _ (h.present page side l (ap side_of (sym (paged page)) ∙ is));
        absent = λ page side l is t. ss.0 _ (h.absent page side l (ap side_of (sym (paged page)) ∙ is) (ss.1 _ t));
        found_present = λ q side t is. ss.0 _ (h.found_present q side (qs.1 q t) is);
        found_absent = λ q t is was. ss.0 _ (h.found_absent q (qs.1 q t) is was);
      }

  -- a page word is stored
  pub set_page : (page n : ℕ) → page < pages
      → Same E E' → Same P P' → Same R R' → Adds S S' (page_store page (side_of n)) → Same Q Q'
      → IsConsistent pages words E P R S Q → IsConsistent pages (set words (page_place page) n) E' P' R' S' Q'
  set_page page n lt es ps rs ss qs h =
      let i = page_place page in
      let in_words : i < length words = omega (arith, h.wide, lt) in
      let now : List ℕ = set words i n in
      let other : (j : ℕ) → j ≢ i → slice_index now j ≡ slice_index words j = λ j ne. get_or-set_other words i j n 0 ne in
      let here : slice_index now i ≡ n = get_or-set_same words i n 0 in_words in
      let zeroth : slice_index now 0 ≡ slice_index words 0 = other 0 (λ (e : 0 ≡ i). omega arith) in
      let celled : (side : Side) (at : ℕ) → slice_index now (cell_place side at) ≡ slice_index words (cell_place side at) = λ side at. other (cell_place side at) (λ (c : cell_place side at ≡ i). omega (arith, h.few, lt)) in
      let present' : (p : ℕ) (side : Side) → p < pages → Dec (p ≡ page) → side_of (slice_index now (page_place p)) ≡ Some side → S' (page_store p (Some side))
      = λ p side l d. elim d as (λ _. side_of (slice_index now (page_place p)) ≡ Some side → S' (page_store p (Some side))) [
        | yes is ↦ λ found. subst S' (λ k. page_store (sym is k) ((ap side_of (sym (ap (λ (x : ℕ). slice_index now (page_place x)) is ∙ here)) ∙ found) k)) ss.1
        | no ne ↦ λ found. ss.0 _ (h.present p side l (ap side_of (sym (other (page_place p) (λ (e : page_place p ≡ i). ne (omega arith)))) ∙ found))
      ] in
      let absent' : (p : ℕ) (side : Side) → p < pages → Dec (p ≡ page) → side_of (slice_index now (page_place p)) ≡ None → S' (page_store p (Some side)) → S' (page_store p None)
      = λ p side l d. elim d as (λ _. side_of (slice_index now (page_place p)) ≡ None → S' (page_store p (Some side)) → S' (page_store p None)) [
        | yes is ↦ λ found t. subst S' (λ k. page_store (sym is k) ((ap side_of (sym (ap (λ (x : ℕ). slice_index now (page_place x)) is ∙ here)) ∙ found) k)) ss.1
        | no ne ↦ λ found t. ss.0 _ (h.absent p side l (ap side_of (sym (other (page_place p) (λ (e : page_place p ≡ i). ne (omega arith)))) ∙ found)
            (⊎_elim (λ (old : S (page_store p (Some side))). old) (λ (new : page_store page (side_of n) ≡ page_store p (Some side)). absurd (ne (sym (ap (λ (x : PageStore). x.page) new)))) (ss.2 _ t)))
      ] in
      record {
        wide = length-set words i n ∙ h.wide;
        few = h.few;
        drawn = λ e t. let d = h.drawn e (es.1 e t) in (d.0, omega (arith, d.1, zeroth));
        one_each = λ d e t u s. h.one_each d e (es.1 d t) (es.1 e u) s;
        cells = λ side at even l. subst (λ (m : ℕ). IsBacked E' P' side at (word_of m)) (sym (celled side at)) (backed_on E E' P P' side at _ es.0 ps.0 (h.cells side at even l));
        reads = λ q t. backed_on E E' P P' q.side q.at q.word es.0 ps.0 (h.reads q (rs.1 q t));
        not_zero = λ p t. subst (λ (m : ℕ). word_of m ≢ zero_word) (sym (celled p.side p.at)) (h.not_zero p (ps.1 p t));
        present = λ p side l is. present' p side l (ℕ_discrete p page) is;
        absent = λ p side l is t. absent' p side l (ℕ_discrete p page) is t;
        found_present = λ q side t is. ss.0 _ (h.found_present q side (qs.1 q t) is);
        found_absent = λ q t is was. ss.0 _ (h.found_absent q (qs.1 q t) is was);
      }
