-- What is newest and what is kept, over a write to the disk and over one to the cache.
use Rattle.std.proofs.Common.{◌≡◌, ◌≢◌, ℕ, ◌+◌, ◌/◌, ◌<◌, ◌≤◌, ◌⊎◌, inl, inr, Bool, true, false, if◌then◌else◌, List, [], ◌∷◌, length, Option, Some, None, refl, sym, ap, subst, ◌∙◌, arith}
use Rattle.std.specs.Option.{unwrap_or}
use Rattle.std.proofs.lemmas.Bool.{cases_eq, cases_lt}
use Rattle.std.proofs.lemmas.List.{get_or_past}
use Rattle.vd_num.specs.Number.{is_within}
use Rattle.blk_disk.specs.Contents.{Has}
use Rattle.blk_disk.specs.Moments.{Lie, IsListedWrite, AreSingle}
use Rattle.blk_dirty.specs.Dirty.{DirtyLines, bytes_at, over, piece, mark, marked, with_bytes, with_pieces}
use Rattle.blk_dirty.proofs.Marks.{with_same, with_other, marked_some}
use Rattle.blk_cache.specs.Cached.{now, given, kept_with, newest_alone, Keeps, Moves}

over_dirty : (o : Option (List ℕ)) (b below : List ℕ) → o ≡ Some b → unwrap_or o below ≡ b
over_dirty o b below there = ap (λ (p : Option (List ℕ)). unwrap_or p below) there

-- after a failed write of a dirty sector
pub newest_failed : (f : ℕ → Option (List ℕ)) (p q : ℕ → List ℕ) (sector : ℕ) (b : List ℕ) → f sector ≡ Some b → ((s : ℕ) → s ≢ sector → q s ≡ p s) → (s : ℕ) → over f q s ≡ over f p s
newest_failed f p q sector b there others s = elim (cases_eq s sector) [
  | inl here ↦
      (let at : f s ≡ Some b = ap (λ (t : ℕ). f t) here ∙ there in
      over_dirty (f s) b (q s) at ∙ sym (over_dirty (f s) b (p s) at))
  | inr apart ↦ ap (λ (x : List ℕ). unwrap_or (f s) x) (others s apart)
]

-- after a write of a dirty sector, which is clean then
pub newest_written : (f g : ℕ → Option (List ℕ)) (p q : ℕ → List ℕ) (sector : ℕ) (b : List ℕ) → f sector ≡ Some b → ((s : ℕ) → g s ≡ with_bytes sector None f s) → q sector ≡ b →
    ((s : ℕ) → s ≢ sector → q s ≡ p s) → (s : ℕ) → over g q s ≡ over f p s
newest_written f g p q sector b there is at others s = elim (cases_eq s sector) [
  | inl here ↦
      (let gone : g sector ≡ None = is sector ∙ with_same sector None f in
      let new : over g q sector ≡ b = ap (λ (o : Option (List ℕ)). unwrap_or o (q sector)) gone ∙ at in
      let old : over f p sector ≡ b = over_dirty (f sector) b (p sector) there in
      ap (λ (t : ℕ). over g q t) here ∙ new ∙ sym old ∙ ap (λ (t : ℕ). over f p t) (sym here))
  | inr apart ↦
      (let other : g s ≡ f s = is s ∙ with_other sector None f s apart in
      ap (λ (o : Option (List ℕ)). unwrap_or o (q s)) other ∙ ap (λ (x : List ℕ). unwrap_or (f s) x) (others s apart))
]

pub keeps_write : (kept : ℕ → List (List ℕ)) (n m : ℕ → List ℕ) (L M : ℕ → List (List ℕ)) (sector : ℕ) (b : List ℕ) → n sector ≡ b → ((s : ℕ) → m s ≡ n s) → IsListedWrite sector b L M → Keeps kept n L → Keeps kept m M
keeps_write kept n m L M sector b newest same listed k = record {
  crash = λ s content has. elim (cases_eq s sector) [
    | inl here ↦
        (let there : Has content (M sector) = subst (λ (t : ℕ). Has content (M t)) here has in
        let kept_there : Has content (kept sector) = elim (listed.own content there) [
          | inl is ↦ subst (λ (x : List ℕ). Has x (kept sector)) (newest ∙ sym is) (k.newest sector)
          | inr before ↦ k.crash sector content before
        ] in
        subst (λ (t : ℕ). Has content (kept t)) (sym here) kept_there)
    | inr apart ↦ k.crash s content (subst (λ (xs : List (List ℕ)). Has content xs) (listed.others s apart) has)
  ];
  newest = λ s. subst (λ (x : List ℕ). Has x (kept s)) (sym (same s)) (k.newest s);
}

pub keeps_same : (kept : ℕ → List (List ℕ)) (n m : ℕ → List ℕ) (L M : ℕ → List (List ℕ)) → ((s : ℕ) → m s ≡ n s) → ((s : ℕ) → M s ≡ L s) → Keeps kept n L → Keeps kept m M
keeps_same kept n m L M same lists k = record {
  crash = λ s content has. k.crash s content (subst (λ (xs : List (List ℕ)). Has content xs) (lists s) has);
  newest = λ s. subst (λ (x : List ℕ). Has x (kept s)) (sym (same s)) (k.newest s);
}

has_more : (b : Bool) (x content : List ℕ) (xs : List (List ℕ)) → Has content xs → Has content (if b then x ∷ xs else xs)
has_more true x content xs has = inr has
has_more false x content xs has = has

-- with what a write gives besides
pub keeps_more : (kept : ℕ → List (List ℕ)) (first : ℕ) (bytes : List ℕ) (n : ℕ → List ℕ) (L : ℕ → List (List ℕ)) → Keeps kept n L → Keeps (kept_with first bytes kept) n L
keeps_more kept first bytes n L k = record {
  crash = λ s content has. has_more (is_within first (length bytes / 512) s) (piece first bytes s) content (kept s) (k.crash s content has);
  newest = λ s. has_more (is_within first (length bytes / 512) s) (piece first bytes s) (n s) (kept s) (k.newest s);
}

has_given : (b : Bool) (x y : List ℕ) (xs : List (List ℕ)) → Has y (if b then x ∷ xs else xs) → Has (if b then x else y) (if b then x ∷ xs else xs)
has_given true x y xs has = inl refl
has_given false x y xs has = has

-- after the write
pub keeps_put : (kept : ℕ → List (List ℕ)) (first : ℕ) (bytes : List ℕ) (n m : ℕ → List ℕ) (L : ℕ → List (List ℕ)) → ((s : ℕ) → m s ≡ given first bytes n s) → Keeps (kept_with first bytes kept) n L →
    Keeps (kept_with first bytes kept) m L
keeps_put kept first bytes n m L is k = record {
  crash = k.crash;
  newest = λ s.
      subst (λ (x : List ℕ). Has x (kept_with first bytes kept s)) (sym (is s)) (has_given (is_within first (length bytes / 512) s) (piece first bytes s) (n s) (kept s) (k.newest s));
}

over_either : (b : Bool) (x : List ℕ) (o : Option (List ℕ)) (below : List ℕ) → unwrap_or (if b then Some x else o) below ≡ (if b then x else unwrap_or o below)
over_either true x o below = refl
over_either false x o below = refl

pub newest_put : (f g : ℕ → Option (List ℕ)) (p : ℕ → List ℕ) (first : ℕ) (bytes : List ℕ) → ((s : ℕ) → g s ≡ with_pieces first (length bytes / 512) bytes f s) → (s : ℕ) → over g p s ≡ given first bytes (over f p) s
newest_put f g p first bytes is s =
    ap (λ (o : Option (List ℕ)). unwrap_or o (p s)) (is s) ∙ over_either (is_within first (length bytes / 512) s) (piece first bytes s) (f s) (p s)

-- each list is the present content, which is the newest one where nothing is dirty
pub keeps_alone : (n p : ℕ → List ℕ) (L : ℕ → List (List ℕ)) → ((s : ℕ) → p s ≡ n s) → AreSingle p L → Keeps (newest_alone n) n L
keeps_alone n p L same single = record {
  crash = λ s content has. elim (let h : Has content (p s ∷ []) = subst (λ (xs : List (List ℕ)). Has content xs) (single s) has in h) [
    | inl is ↦ inl (is ∙ same s)
    | inr none ↦ absurd none
  ];
  newest = λ s. inl refl;
}

pub over_none : (f : ℕ → Option (List ℕ)) (p : ℕ → List ℕ) (s : ℕ) → f s ≡ None → over f p s ≡ p s
over_none f p s none = ap (λ (o : Option (List ℕ)). unwrap_or o (p s)) none

-- a sync of a disk under a cache with nothing dirty
pub keeps_single : (kept : ℕ → List (List ℕ)) (n p : ℕ → List ℕ) (L : ℕ → List (List ℕ)) → ((s : ℕ) → p s ≡ n s) → AreSingle p L → ((s : ℕ) → Has (n s) (kept s)) → Keeps kept n L
keeps_single kept n p L same single newest = record {
  crash = λ s content has. elim (let h : Has content (p s ∷ []) = subst (λ (xs : List (List ℕ)). Has content xs) (single s) has in h) [
    | inl is ↦ subst (λ (x : List ℕ). Has x (kept s)) (sym (is ∙ same s)) (newest s)
    | inr none ↦ absurd none
  ];
  newest = newest;
}

-- a disk without unsettled writes, under a cache with nothing dirty
pub keeps_start : (f : ℕ → Option (List ℕ)) (p : ℕ → List ℕ) (L : ℕ → List (List ℕ)) → ((s : ℕ) → f s ≡ None) → AreSingle p L → Keeps (newest_alone p) (over f p) L
keeps_start f p L none single = record {
  crash = λ s content has. subst (λ (xs : List (List ℕ)). Has content xs) (single s) has;
  newest = λ s. inl (over_none f p s (none s));
}

past_end : (d : DirtyLines) (s : ℕ) → length d.lines ≤ s → bytes_at d s ≡ None
unfolding bytes_at
past_end d s past = get_or_past d.lines s None past

not_marked : (o : Option (List ℕ)) → mark o ≤ 0 → o ≡ None
not_marked None few = refl
not_marked (Some bytes) few = absurd (omega arith)

-- none is dirty where none is counted
pub none_counted : (d : DirtyLines) → marked (bytes_at d) (length d.lines) ≤ 0 → (s : ℕ) → bytes_at d s ≡ None
none_counted d none s = elim (cases_lt s (length d.lines)) [
  | inl inside ↦ not_marked (bytes_at d s) (omega (arith, marked_some (bytes_at d) s (length d.lines) inside))
  | inr past ↦ past_end d s past
]

module _ {D : Type 0} (tells : Bool) (present : D → ℕ → List ℕ) (may_leave : D → ℕ → List (List ℕ)) (through : (ℕ → List (List ℕ)) → D → D → Type 0) where
  -- the disk is the same
  pub stay : ((kept : ℕ → List (List ℕ)) (d : D) → Lie kept (may_leave d) → through kept d d) → (a : D) (old new : DirtyLines) → ((s : ℕ) → bytes_at new s ≡ bytes_at old s) →
      Moves tells present may_leave through a a old new
  stay stays a old new same =
      let newest : (s : ℕ) → now new (present a) s ≡ now old (present a) s = λ s. ap (λ (o : Option (List ℕ)). unwrap_or o (present a s)) (same s) in
      record {
        newest = λ told. newest;
        moments = λ told kept k. (stays kept a k.crash, keeps_same kept (now old (present a)) (now new (present a)) (may_leave a) (may_leave a) newest (λ s. refl) k);
      }

  pub both : ((kept : ℕ → List (List ℕ)) (a b c : D) → through kept a b → through kept b c → through kept a c) → (a b c : D) (first mid last : DirtyLines) →
      Moves tells present may_leave through a b first mid → Moves tells present may_leave through b c mid last → Moves tells present may_leave through a c first last
  both goes_on a b c first mid last one two = record {
    newest = λ told s. two.newest told s ∙ one.newest told s;
    moments = λ told kept k.
        let early = one.moments told kept k in
        let late = two.moments told kept early.1 in
        (goes_on kept a b c early.0 late.0, late.1);
  }

  -- a dirty sector was written to the disk, or not, and stays dirty
  pub unwritten : (a b : D) (d : DirtyLines) (sector : ℕ) (bytes : List ℕ) → bytes_at d sector ≡ Some bytes → (tells ≡ true → (s : ℕ) → s ≢ sector → present b s ≡ present a s) →
      (tells ≡ true → IsListedWrite sector bytes (may_leave a) (may_leave b)) →
      (tells ≡ true → (map : ℕ → List (List ℕ)) → Lie map (may_leave a) → Lie map (may_leave b) → through map a b) → Moves tells present may_leave through a b d d
  unwritten a b d sector bytes there others lists moments = record {
    newest = λ told. newest_failed (bytes_at d) (present a) (present b) sector bytes there (others told);
    moments = λ told kept k.
        let same : (s : ℕ) → now d (present b) s ≡ now d (present a) s = newest_failed (bytes_at d) (present a) (present b) sector bytes there (others told) in
        let newest : now d (present a) sector ≡ bytes = over_dirty (bytes_at d sector) bytes (present a sector) there in
        let after : Keeps kept (now d (present b)) (may_leave b) = keeps_write kept (now d (present a)) (now d (present b)) (may_leave a) (may_leave b) sector bytes newest same (lists told) k in
        (moments told kept k.crash after.crash, after);
  }

  -- a dirty sector was written to the disk, and is clean
  pub written_back : (a b : D) (d e : DirtyLines) (sector : ℕ) (bytes : List ℕ) → bytes_at d sector ≡ Some bytes → ((s : ℕ) → bytes_at e s ≡ with_bytes sector None (bytes_at d) s) →
      (tells ≡ true → present b sector ≡ bytes) → (tells ≡ true → (s : ℕ) → s ≢ sector → present b s ≡ present a s) →
      (tells ≡ true → IsListedWrite sector bytes (may_leave a) (may_leave b)) →
      (tells ≡ true → (map : ℕ → List (List ℕ)) → Lie map (may_leave a) → Lie map (may_leave b) → through map a b) → Moves tells present may_leave through a b d e
  written_back a b d e sector bytes there gone at others lists moments = record {
    newest = λ told. newest_written (bytes_at d) (bytes_at e) (present a) (present b) sector bytes there gone (at told) (others told);
    moments = λ told kept k.
        let same : (s : ℕ) → now e (present b) s ≡ now d (present a) s =
        newest_written (bytes_at d) (bytes_at e) (present a) (present b) sector bytes there gone (at told) (others told) in
        let newest : now d (present a) sector ≡ bytes = over_dirty (bytes_at d sector) bytes (present a sector) there in
        let after : Keeps kept (now e (present b)) (may_leave b) = keeps_write kept (now d (present a)) (now e (present b)) (may_leave a) (may_leave b) sector bytes newest same (lists told) k in
        (moments told kept k.crash after.crash, after);
  }

  -- a call that changed no content
  pub unchanged : (a b : D) (d : DirtyLines) → (tells ≡ true → (s : ℕ) → present b s ≡ present a s) → (tells ≡ true → (s : ℕ) → may_leave b s ≡ may_leave a s) →
      (tells ≡ true → (map : ℕ → List (List ℕ)) → Lie map (may_leave a) → Lie map (may_leave b) → through map a b) → Moves tells present may_leave through a b d d
  unchanged a b d contents lists moments = record {
    newest = λ told s. ap (λ (x : List ℕ). unwrap_or (bytes_at d s) x) (contents told s);
    moments = λ told kept k.
        let after : Keeps kept (now d (present b)) (may_leave b) =
        keeps_same kept (now d (present a)) (now d (present b)) (may_leave a) (may_leave b) (λ s. ap (λ (x : List ℕ). unwrap_or (bytes_at d s) x) (contents told s)) (lists told) k in
        (moments told kept k.crash after.crash, after);
  }

  -- a write to the cache, between what makes room for it and what is written back after it
  pub write_newest : (a b c : D) (d e g h : DirtyLines) (sector : ℕ) (bytes : List ℕ) → Moves tells present may_leave through a b d e →
      ((s : ℕ) → bytes_at g s ≡ with_pieces sector (length bytes / 512) bytes (bytes_at e) s) → Moves tells present may_leave through b c g h →
      tells ≡ true → (s : ℕ) → now h (present c) s ≡ given sector bytes (now d (present a)) s
  write_newest a b c d e g h sector bytes one put two told s =
      two.newest told s ∙ newest_put (bytes_at e) (bytes_at g) (present b) sector bytes put s
      ∙ ap (λ (x : List ℕ). if is_within sector (length bytes / 512) s then piece sector bytes s else x) (one.newest told s)

  pub write_moments : ((map : ℕ → List (List ℕ)) (a b c : D) → through map a b → through map b c → through map a c) → (a b c : D) (d e g h : DirtyLines) (sector : ℕ) (bytes : List ℕ) →
      Moves tells present may_leave through a b d e → ((s : ℕ) → bytes_at g s ≡ with_pieces sector (length bytes / 512) bytes (bytes_at e) s) → Moves tells present may_leave through b c g h →
      tells ≡ true → (kept : ℕ → List (List ℕ)) → Keeps kept (now d (present a)) (may_leave a) →
      through (kept_with sector bytes kept) a c × Keeps (kept_with sector bytes kept) (now h (present c)) (may_leave c)
  write_moments goes_on a b c d e g h sector bytes one put two told kept k =
      let early = one.moments told (kept_with sector bytes kept) (keeps_more kept sector bytes (now d (present a)) (may_leave a) k) in
      let mid : Keeps (kept_with sector bytes kept) (now g (present b)) (may_leave b) =
      keeps_put kept sector bytes (now e (present b)) (now g (present b)) (may_leave b) (newest_put (bytes_at e) (bytes_at g) (present b) sector bytes put) early.1 in
      let late = two.moments told (kept_with sector bytes kept) mid in
      (goes_on (kept_with sector bytes kept) a b c early.0 late.0, late.1)

  -- a write that found no room
  pub refused_moments : (a b : D) (d e : DirtyLines) (sector : ℕ) (bytes : List ℕ) → Moves tells present may_leave through a b d e →
      tells ≡ true → (kept : ℕ → List (List ℕ)) → Keeps kept (now d (present a)) (may_leave a) →
      through (kept_with sector bytes kept) a b × Keeps (kept_with sector bytes kept) (now e (present b)) (may_leave b)
  refused_moments a b d e sector bytes one told kept k = one.moments told (kept_with sector bytes kept) (keeps_more kept sector bytes (now d (present a)) (may_leave a) k)

  -- a flush: what is dirty was written back, and then the disk was synced
  pub flush_moments : ((map : ℕ → List (List ℕ)) (a b c : D) → through map a b → through map b c → through map a c) → (a b c : D) (d e : DirtyLines) →
      Moves tells present may_leave through a b d e → (tells ≡ true → (s : ℕ) → present c s ≡ present b s) → ((s : ℕ) → bytes_at e s ≡ None) → (tells ≡ true → AreSingle (present c) (may_leave c)) →
      (tells ≡ true → (map : ℕ → List (List ℕ)) → Lie map (may_leave b) → Lie map (may_leave c) → through map b c) →
      tells ≡ true → (kept : ℕ → List (List ℕ)) → Keeps kept (now d (present a)) (may_leave a) → through kept a c × Keeps kept (now e (present c)) (may_leave c)
  flush_moments goes_on a b c d e one contents none single moments told kept k =
      let early = one.moments told kept k in
      let same : (s : ℕ) → now e (present c) s ≡ now e (present b) s = λ s. ap (λ (x : List ℕ). unwrap_or (bytes_at e s) x) (contents told s) in
      let newest : (s : ℕ) → Has (now e (present c) s) (kept s) = λ s. subst (λ (x : List ℕ). Has x (kept s)) (sym (same s)) (early.1.newest s) in
      let after : Keeps kept (now e (present c)) (may_leave c) =
      keeps_single kept (now e (present c)) (present c) (may_leave c) (λ s. sym (over_none (bytes_at e) (present c) s (none s))) (single told) newest in
      (goes_on kept a b c early.0 (moments told kept early.1.crash after.crash), after)

  pub flush_settles : (a b c : D) (d e : DirtyLines) → Moves tells present may_leave through a b d e → (tells ≡ true → (s : ℕ) → present c s ≡ present b s) → ((s : ℕ) → bytes_at e s ≡ None) →
      (tells ≡ true → AreSingle (present c) (may_leave c)) → tells ≡ true → Keeps (newest_alone (now d (present a))) (now e (present c)) (may_leave c)
  flush_settles a b c d e one contents none single told =
      let same : (s : ℕ) → now e (present c) s ≡ now d (present a) s = λ s. ap (λ (x : List ℕ). unwrap_or (bytes_at e s) x) (contents told s) ∙ one.newest told s in
      keeps_single (newest_alone (now d (present a))) (now e (present c)) (present c) (may_leave c) (λ s. sym (over_none (bytes_at e) (present c) s (none s))) (single told) (λ s. inl (same s))
