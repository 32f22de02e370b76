-- Each step of the cells keeps their rule, and tells its pass what it does.
use Rattle.std.proofs.Common.{◌≡◌, ◌≢◌, ◌⊎◌, ℕ, ◌+◌, ◌*◌, ◌^◌, ◌%◌, ◌<◌, ◌≤◌, List, [], ◌∷◌, set, refl, sym, ap, ◌∙◌, subst, ⊎_elim, inl, inr, arith, true≢false}
use Rattle.std.specs.Prelude.{sum_by, Contains, slice_index, Option, Some, None, Bool, true, false, ◌&&◌, ◌||◌, ◌==◌}
use Rattle.std.proofs.lemmas.Bool.Decides.{nat_tests}
use Rattle.std.proofs.lemmas.List.Elements.{Contains-append_right}
use Rattle.std.proofs.lemmas.List.{set-get_or, get_or-set_same, get_or-set_other}
use mathlib.Core.Option.{some, none}
use lib.ListN.{get_elem?}
use Rattle.atomic_table.specs.Table.{State, step, keeps, Allows, Splits, Joins}
use Rattle.atomic_table.proofs.Lists.{set_again, set_else}
use Rattle.sh_cells.specs.declared.word.Word.{Word}
use Rattle.sh_cells.specs.declared.word.Side.{Side}
use Rattle.sh_cells.specs.declared.word.Kind.{Kind}
use Rattle.sh_cells.specs.declared.view.Entry.{Entry}
use Rattle.sh_cells.specs.declared.view.Access.{Access}
use Rattle.sh_cells.specs.declared.view.PageStore.{PageStore}
use Rattle.sh_cells.specs.declared.view.PageRead.{PageRead}
use Rattle.sh_cells.specs.declared.view.View.{View}
use Rattle.sh_cells.specs.Words.{word_of, zero_word, side_of}
use Rattle.sh_cells.specs.Places.{cell_place, page_place, page_at, cell_side, cell_address}
use Rattle.sh_cells.specs.Views.{access, entry, page_store, page_read, nothing, with_entry, with_put, with_read, with_page_store, with_page_read, kept_of, given_of, both_of, makes_present, is_side, StampsBelow}
use Rattle.sh_cells.specs.Backed.{IsBacked, Covers, MayPut, MayCopy, IsSettled}
use Rattle.sh_cells.specs.Rule.{Told, IsConsistent, Kept, entries_of, puts_of, reads_of, page_stores_of, page_reads_of, left_of}
use Rattle.sh_cells.specs.Steps.{Holding, ReadsCell, PutsWord, DrawsEntry, FindsPage, SetsPage, Looks}
use Rattle.sh_cells.proofs.Told.{Same, told_same, told_adds, told_split, told_join}
use Rattle.sh_cells.proofs.Divided.{divided_step, divided_split, divided_join, left_within, quota_within, told_whole}
use Rattle.sh_cells.proofs.Consistent.{Finds, backed_on, same_words, put_word, draw_entry, set_page}
use Rattle.sh_cells.proofs.Places.{cell_side_is, cell_address_is}

-- a load leaves the words
pub read_allowed : (pages slots id : ℕ) (m : Holding) (side : Side) (at : ℕ) → at % 2 ≡ 0 → at < 4096 * pages → 1 ≤ m.0.quota
    → Allows (Kept pages) slots id m (cell_place side at) (λ n. n) (ReadsCell (step slots (cell_place side at) 0 0 none) m)
read_allowed pages slots id m side at even lt some' s h wide here bound =
    let i = cell_place side at in
    let n : ℕ = slice_index s.words i in
    let side_is = cell_side_is side at even in
    let at_is = cell_address_is side at even in
    let r : Access = access (cell_side i) (cell_address i) (word_of n) in
    let w : View = with_read m.0 r in
    let B : Side × ℕ → Type 0 = λ x. IsBacked (Told entries_of s.views) (Told puts_of s.views) x.0 x.1 (word_of n) in
    let backed : B (cell_side i, cell_address i) = subst B (λ k. (sym side_is k, sym at_is k)) (h.0.cells side at even lt) in
    let same : set s.words i n ≡ s.words = set-get_or s.words i 0 in
    let consistent = same_words pages s.words _ _ _ _ _ _ _ _ _ _
    (λ q t. ⊎_elim
    (λ (old : Told reads_of s.views q). inl old)
    (λ (is : r ≡ q). inr (subst (λ (y : Access). IsBacked (Told entries_of s.views) (Told puts_of s.views) y.side y.at y.word) is backed))
    ((told_adds reads_of s.views id m.0 w here r refl).2 q t))
    (λ q t. inl ((told_same page_reads_of s.views id m.0 w here refl).1 q t))
    (told_same entries_of s.views id m.0 w here refl) (told_same puts_of s.views id m.0 w here refl) (told_same page_stores_of s.views id m.0 w here refl) h.0 in
    let divided = divided_step s.words s.words s.views id m.0 w here (omega arith) refl some' h.1 in
    let K : List ℕ → Type 0 = λ ws. Kept pages (record { words = ws; homes = s.homes; views = set s.views id w }) in (
      w,
      keeps,
      tt,
      subst K (sym same) (consistent, divided),
      (
        refl,
        refl,
        λ u has. let C : ℕ → Type 0 = λ j. word_of (slice_index s.words j) ≢ zero_word in
            subst C (ap (λ (x : Side × ℕ). cell_place x.0 x.1) (λ k. (side_is k, at_is k))) (h.0.not_zero (access (cell_side i) (cell_address i) u) (id, m.0, here, has)),
      ),
    )

-- the stamps of a view are at most the last one drawn
stamps_of_view : (pages : ℕ) (s : State (Unit {0}) View) (id : ℕ) (v : View) → Kept pages s → get_elem? s.views id ≡ some v → StampsBelow (slice_index s.words 0 + 1) v
stamps_of_view pages s id v h here = record {
  drawn = λ e has. let d = h.0.drawn e (id, v, here, has) in omega (arith, d.1);
  read = λ r has. ⊎_elim
      (λ (z : r.word ≡ zero_word). omega (arith, ap (λ (w : Word). w.stamp) z))
      (λ (b : (e : Entry) × Told entries_of s.views e × Covers e r.at r.word × Told puts_of s.views (access r.side r.at r.word)). let d = h.0.drawn b.0 b.1 in omega (arith, d.1, b.2.0))
      (h.0.reads r (id, v, here, has));
}

stamps_below_more : (least most : ℕ) (v : View) → least ≤ most → StampsBelow least v → StampsBelow most v
stamps_below_more least most v le b = record {
  drawn = λ e has. omega (arith, le, b.drawn e has);
  read = λ r has. omega (arith, le, b.read r has);
}

-- some pass drew the entry of a word that this one may store there, by an entry of its own or by a read
known : (pages : ℕ) (s : State (Unit {0}) View) (id : ℕ) (v : View) (at : ℕ) (w : Word) → Kept pages s → get_elem? s.views id ≡ some v → MayPut v at w ⊎ MayCopy v at w
    → (e : Entry) × Told entries_of s.views e × Covers e at w
known pages s id v at w h here (inl (e, has, covers)) = (e, (id, v, here, has), covers)
known pages s id v at w h here (inr (from, has, not_zero)) =
    ⊎_elim
    (λ (z : w ≡ zero_word). absurd (not_zero z))
    (λ (b : (e : Entry) × Told entries_of s.views e × Covers e at w × Told puts_of s.views (access from at w)). (b.0, b.1, b.2))
    (h.0.reads (access from at w) (id, v, here, has))

pub known_small : (stamp : ℕ) (v : View) (at : ℕ) (w : Word) → MayPut v at w ⊎ MayCopy v at w → StampsBelow stamp v → w.stamp < stamp
known_small stamp v at w (inl (e, has, covers)) b = omega (arith, b.drawn e has, covers.0)
known_small stamp v at w (inr (from, has, not_zero)) b = b.read (access from at w) has

-- an entry stands behind the word, so its stamp is not 0
pub put_allowed : (pages slots id : ℕ) (m : Holding) (side : Side) (at n : ℕ) → at % 2 ≡ 0 → at < 4096 * pages → 1 ≤ m.0.quota
    → (w : Word) → MayPut m.0 at w ⊎ MayCopy m.0 at w → (w.stamp < 2 ^ 48 → word_of n ≡ w)
    → Allows (Kept pages) slots id m (cell_place side at) (λ _. n) (λ _. PutsWord (step slots (cell_place side at) n 0 none) m n)
put_allowed pages slots id m side at n even lt some' w may is s h wide here bound =
    let e = known pages s id m.0 at w h here may in
    let drawn = h.0.drawn e.0 e.1 in
    let word : word_of n ≡ w = is (omega (arith, e.2.0, drawn.1, h.1.stamps)) in
    let p : Access = access side at (word_of n) in
    let v : View = with_put m.0 p in
    let ps = told_adds puts_of s.views id m.0 v here p refl in
    let es = told_same entries_of s.views id m.0 v here refl in
    let consistent = put_word pages s.words _ _ _ _ _ _ _ _ _ _ side at n even lt
    (λ zero'. omega (arith, drawn.0, e.2.0, ap (λ (u : Word). u.stamp) (sym word ∙ zero')))
    (inr (e.0, es.0 e.0 e.1, subst (Covers e.0 at) (sym word) e.2, ps.1))
    es ps (told_same reads_of s.views id m.0 v here refl)
    (told_same page_stores_of s.views id m.0 v here refl) (told_same page_reads_of s.views id m.0 v here refl) h.0 in
    let place : ℕ = cell_place side at in
    let zeroth : slice_index (set s.words place n) 0 ≡ slice_index s.words 0 = get_or-set_other s.words place 0 n 0 (λ (c : 0 ≡ place). omega arith) in (
      v,
      keeps,
      tt,
      (consistent, divided_step s.words (set s.words place n) s.views id m.0 v here (omega (arith, zeroth)) refl some' h.1),
      (
        (λ k. with_put m.0 (access (sym (cell_side_is side at even) k) (sym (cell_address_is side at even) k) (word_of n))),
        refl,
        stamps_below_more _ _ m.0 (omega (arith, h.1.stamps)) (stamps_of_view pages s id m.0 h here),
      ),
    )

-- the new stamp is above all others, and what is left falls by as much as the last stamp rises
pub draw_allowed : (pages slots id : ℕ) (m : Holding) (kind : Kind) (base : ℕ) (bytes : List ℕ) → 1 ≤ m.0.quota → 1 ≤ m.0.left
    → Allows (Kept pages) slots id m 0 (λ n. (n + 1) % 2 ^ 64) (DrawsEntry kind base bytes (step slots 0 1 0 none) m)
draw_allowed pages slots id m kind base bytes some' left s h wide here bound =
    let n : ℕ = slice_index s.words 0 in
    let own : m.0.left ≤ sum_by left_of s.views = left_within s.views id m.0 here in
    let fits : (n + 1) % 2 ^ 64 ≡ n + 1 = omega (arith, h.1.stamps, own, left) in
    let e : Entry = entry (n + 1) kind base bytes in
    let v : View = with_entry m.0 e in
    let consistent = draw_entry pages s.words _ _ _ _ _ _ _ _ _ _ e refl
    (told_adds entries_of s.views id m.0 v here e refl) (told_same puts_of s.views id m.0 v here refl) (told_same reads_of s.views id m.0 v here refl)
    (told_same page_stores_of s.views id m.0 v here refl) (told_same page_reads_of s.views id m.0 v here refl) h.0 in
    let now : slice_index (set s.words 0 (n + 1)) 0 ≡ n + 1 = get_or-set_same s.words 0 (n + 1) 0 (omega (arith, h.0.wide)) in
    let K : ℕ → Type 0 = λ k. Kept pages (record { words = set s.words 0 k; homes = s.homes; views = set s.views id v }) in (
      v,
      keeps,
      tt,
      subst K (sym fits) (consistent, divided_step s.words (set s.words 0 (n + 1)) s.views id m.0 v here (omega (arith, now, left)) refl some' h.1),
      (refl, refl, omega (arith, h.1.stamps, own, left), stamps_of_view pages s id m.0 h here),
    )

sided : (o : Option Side) → is_side o ≡ true → (side : Side) × (o ≡ Some side)
sided None e = absurd (true≢false (sym e))
sided (Some side) e = (side, refl)

-- the first page store made the page present, or a later one did
one_known : (page : ℕ) (s : PageStore) (ss : List PageStore) (a b rest : Bool) → (s.page == page) ≡ a → is_side s.side ≡ b → (rest ≡ true → (side : Side) × Contains ss (page_store page (Some side)))
    → ((a && b) || rest) ≡ true → (side : Side) × Contains (s ∷ ss) (page_store page (Some side))
one_known page s ss true true rest same sure further e =
    let num : s.page ≡ page = grind (arith, nat_tests) in let o = sided s.side sure in (o.0, (0, omega arith, λ k. page_store (num k) (o.1 k)))
one_known page s ss true false rest same sure further e = let k = further e in (k.0, Contains-append_right (s ∷ []) ss _ k.1)
one_known page s ss false b rest same sure further e = let k = further e in (k.0, Contains-append_right (s ∷ []) ss _ k.1)

side_known : (page : ℕ) (stores : List PageStore) → makes_present page stores ≡ true → (side : Side) × Contains stores (page_store page (Some side))
side_known page [] is = absurd (true≢false (sym is))
side_known page (s ∷ ss) is = one_known page s ss (s.page == page) (is_side s.side) (makes_present page ss) refl refl (side_known page ss) is

-- a load of a page word leaves the words too
pub find_page_allowed : (pages slots id : ℕ) (m : Holding) (page : ℕ) → page < pages → 1 ≤ m.0.quota
    → Allows (Kept pages) slots id m (page_place page) (λ n. n) (FindsPage (step slots (page_place page) 0 0 none) m)
find_page_allowed pages slots id m page lt some' s h wide here bound =
    let i = page_place page in
    let n : ℕ = slice_index s.words i in
    let back : page_at i ≡ page = omega arith in
    let q : PageRead = page_read page (side_of n) m.0.page_stores in
    let w : View = with_page_read m.0 page (side_of n) in
    let same : set s.words i n ≡ s.words = set-get_or s.words i 0 in
    let F : PageRead → Type 0 = Finds pages s.words (Told page_stores_of s.views) in
    let finds : F q = (lt, refl, λ was. let k = side_known page m.0.page_stores was in (k.0, (id, m.0, here, k.1))) in
    let consistent = same_words pages s.words _ _ _ _ _ _ _ _ _ _
    (λ r t. inl ((told_same reads_of s.views id m.0 w here refl).1 r t))
    (λ r t. ⊎_elim
    (λ (old : Told page_reads_of s.views r). inl old)
    (λ (is : q ≡ r). inr (subst F is finds))
    ((told_adds page_reads_of s.views id m.0 w here q refl).2 r t))
    (told_same entries_of s.views id m.0 w here refl) (told_same puts_of s.views id m.0 w here refl) (told_same page_stores_of s.views id m.0 w here refl) h.0 in
    let divided = divided_step s.words s.words s.views id m.0 w here (omega arith) refl some' h.1 in
    let K : List ℕ → Type 0 = λ ws. Kept pages (record { words = ws; homes = s.homes; views = set s.views id w }) in
    (w, keeps, tt, subst K (sym same) (consistent, divided), ((λ k. with_page_read m.0 (sym back k) (side_of n)), refl))

-- what a page word says stands among the page stores
pub set_page_allowed : (pages slots id : ℕ) (m : Holding) (page n : ℕ) → page < pages → 1 ≤ m.0.quota
    → Allows (Kept pages) slots id m (page_place page) (λ _. n) (λ _. SetsPage (step slots (page_place page) n 0 none) m n)
set_page_allowed pages slots id m page n lt some' s h wide here bound =
    let i = page_place page in
    let back : page_at i ≡ page = omega arith in
    let p : PageStore = page_store page (side_of n) in
    let w : View = with_page_store m.0 p in
    let consistent = set_page pages s.words _ _ _ _ _ _ _ _ _ _ page n lt
    (told_same entries_of s.views id m.0 w here refl) (told_same puts_of s.views id m.0 w here refl) (told_same reads_of s.views id m.0 w here refl)
    (told_adds page_stores_of s.views id m.0 w here p refl) (told_same page_reads_of s.views id m.0 w here refl) h.0 in
    let zeroth : slice_index (set s.words i n) 0 ≡ slice_index s.words 0 = get_or-set_other s.words i 0 n 0 (λ (c : 0 ≡ i). omega arith) in (
      w,
      keeps,
      tt,
      (consistent, divided_step s.words (set s.words i n) s.views id m.0 w here (omega (arith, zeroth)) refl some' h.1),
      ((λ k. with_page_store m.0 (page_store (sym back k) (side_of n))), refl),
    )

-- nothing changes, and where a view has the whole quota, what any view tells is its own
pub look_allowed : (pages slots id : ℕ) (m : Holding) → 1 ≤ m.0.quota
    → Allows (Kept pages) slots id m 0 (λ n. n) (Looks (step slots 0 0 0 none) m)
look_allowed pages slots id m some' s h wide here bound =
    let n : ℕ = slice_index s.words 0 in
    let v : View = m.0 in
    let same : set s.words 0 n ≡ s.words = set-get_or s.words 0 0 in
    let as_before : set s.views id v ≡ s.views = set_again s.views id v here in
    let K : List ℕ × List View → Type 0 = λ x. Kept pages (record { words = x.0; homes = s.homes; views = x.1 }) in
    let settled : v.quota ≡ 2 ^ 47 → IsSettled v = λ whole.
    let entries = told_whole entries_of s.words s.views id v refl here whole h.1 in
    let stores = told_whole page_stores_of s.words s.views id v refl here whole h.1 in
    record {
      stamps = λ e t. let d = h.0.drawn e (id, v, here, t) in (d.0, omega (arith, d.1, h.1.stamps));
      one_each = λ d e t u is. h.0.one_each d e (id, v, here, t) (id, v, here, u) is;
      reads = λ r t. backed_on _ _ _ _ r.side r.at r.word entries (told_whole puts_of s.words s.views id v refl here whole h.1) (h.0.reads r (id, v, here, t));
      found_present = λ r side t is. stores _ (h.0.found_present r side (id, v, here, t) is);
      found_absent = λ r t is was. stores _ (h.0.found_absent r (id, v, here, t) is was);
    } in (
      v,
      keeps,
      tt,
      subst K (λ k. (sym same k, sym as_before k)) h,
      (refl, omega (arith, h.1.stamps, left_within s.views id v here), omega (arith, h.1.quotas, quota_within s.views id v here), settled),
    )

-- a step that leaves the words and all that is told
same_all : (pages : ℕ) (words : List ℕ) (views views' : List View)
    → Same (Told entries_of views) (Told entries_of views') → Same (Told puts_of views) (Told puts_of views') → Same (Told reads_of views) (Told reads_of views')
    → Same (Told page_stores_of views) (Told page_stores_of views') → Same (Told page_reads_of views) (Told page_reads_of views')
    → IsConsistent pages words (Told entries_of views) (Told puts_of views) (Told reads_of views) (Told page_stores_of views) (Told page_reads_of views)
    → IsConsistent pages words (Told entries_of views') (Told puts_of views') (Told reads_of views') (Told page_stores_of views') (Told page_reads_of views')
same_all pages words views views' es ps rs ss qs h = same_words pages words _ _ _ _ _ _ _ _ _ _ (λ r t. inl (rs.1 r t)) (λ q t. inl (qs.1 q t)) es ps ss h

pub split_allowed : (pages id : ℕ) (v : View) (share : ℕ) → 1 ≤ share → share ≤ v.left → share < v.quota
    → Splits (Kept pages) id v (kept_of share v) (given_of share v)
split_allowed pages id v share some' within below s h here =
    let l : View = kept_of share v in
    let r : View = given_of share v in (
      same_all pages s.words _ _
          (told_split entries_of s.views id v here l r refl refl) (told_split puts_of s.views id v here l r refl refl) (told_split reads_of s.views id v here l r refl refl)
          (told_split page_stores_of s.views id v here l r refl refl) (told_split page_reads_of s.views id v here l r refl refl) h.0,
      divided_split s.words s.views id v l r here (omega (arith, within)) (omega (arith, below)) (omega (arith, below)) some' h.1,
    )

pub join_allowed : (pages id : ℕ) (v : View) (other : ℕ) (w : View) → 1 ≤ v.quota
    → Joins (Kept pages) id v other w (both_of v w) nothing
join_allowed pages id v other w some' s h here apart there =
    let b : View = both_of v w in
    let there' : get_elem? s.views other ≡ some w = sym (set_else s.views id other b apart) ∙ there in (
      same_all pages s.words _ _
          (told_join entries_of s.views id v here other w b nothing apart there' refl refl) (told_join puts_of s.views id v here other w b nothing apart there' refl refl)
          (told_join reads_of s.views id v here other w b nothing apart there' refl refl) (told_join page_stores_of s.views id v here other w b nothing apart there' refl refl)
          (told_join page_reads_of s.views id v here other w b nothing apart there' refl refl) h.0,
      divided_join s.words s.views id other v w here apart there' some' h.1,
    )
