-- The acts that end pending requests, and what they leave.
use Rattle.std.proofs.Common.{◌≡◌, ℕ, zero, suc, ◌+◌, ◌<◌, ◌≤◌, arith, Bool, true, false, ◌==◌, ◌||◌, if◌then◌else◌, refl, ap, sym, subst, ◌∙◌, List, [], ◌∷◌, ◌++◌, append_assoc, Some, None, Option, All, filter, inl, inr, true≢false}
use Rattle.std.specs.Prelude.{find, not}
use Rattle.std.specs.List.{list_any}
use Rattle.std.specs.Option.{option_map, option_map_or}
use Rattle.std.proofs.lemmas.Bool.Decides.{eqb_tells, leb_tells}
use Rattle.std.proofs.lemmas.List.Elements.{All-filter}
use Rattle.vd_model.specs.Acts.{Act, Driver, Streaming, Unmapped, Freed}
use Rattle.vd_model.specs.Live.{live_mappings}
use Rattle.vd_model.specs.Queues.{has_map}
use Rattle.vd_model.specs.RingTurns.{unmap_act, unmap_acts, free_acts, request_end_acts}
use Rattle.vd_queue_sides.proofs.Daemons.{itself}
use Rattle.blk_driver.specs.Driver.{request_in, maps_in, has_head}
use Rattle.blk_driver.specs.declared.pending.Pending.{Pending}
use Rattle.vd_request_lines.specs.Ending.{pending_end_acts}
use Rattle.vd_request_lines.proofs.Left.{found_number, free_live}
use Rattle.vd_request_lines.proofs.Under.{unmaps_same}

-- ---- a mapping of a number, after others were unmapped

abbrev pub numbered : ℕ → List Streaming → Option Streaming
numbered number ms = find (λ m. m.number == number) ms

other_stays : (number gone : ℕ) (ms : List Streaming) → (gone == number) ≡ false → numbered number (filter (λ l. not (l.number == gone)) ms) ≡ numbered number ms
other_stays number gone [] off = refl
other_stays number gone (m ∷ ms) off = by (m.number == gone) refl (other_stays number gone ms off) where
  by : (t : Bool) → (m.number == gone) ≡ t → numbered number (filter (λ l. not (l.number == gone)) ms) ≡ numbered number ms
      → numbered number (if not (m.number == gone) then m ∷ filter (λ l. not (l.number == gone)) ms else filter (λ l. not (l.number == gone)) ms) ≡ numbered number (m ∷ ms)
  by true e rest =
      let same : m.number ≡ gone = elim (eqb_tells m.number gone) [ inl h ↦ h.1 | inr h ↦ absurd (true≢false (sym e ∙ h.0)) ] in
      ap (λ t. numbered number (if not t then m ∷ filter (λ l. not (l.number == gone)) ms else filter (λ l. not (l.number == gone)) ms)) e
      ∙ rest ∙ sym (ap (λ t. if t then Some m else numbered number ms) (ap (λ k. k == number) same ∙ off))
  by false e rest =
      ap (λ t. numbered number (if not t then m ∷ filter (λ l. not (l.number == gone)) ms else filter (λ l. not (l.number == gone)) ms)) e
      ∙ ap (λ o. if m.number == number then Some m else o) rest

neither : (a b : Bool) → (a || b) ≡ false → (a ≡ false) × (b ≡ false)
neither true b e = absurd (true≢false e)
neither false b e = (refl, e)

or_second : (a : Bool) {b : Bool} → b ≡ true → (a || b) ≡ true
or_second true e = refl
or_second false e = e

others_stay : (mappings : List Streaming) (numbers : List ℕ) (done : List Act) (number : ℕ) → list_any (λ m. m == number) numbers ≡ false
    → numbered number (live_mappings (unmap_acts mappings numbers ++ done)) ≡ numbered number (live_mappings done)
others_stay mappings [] done number off = refl
others_stay mappings (a ∷ tail) done number off =
    let both = neither (a == number) (list_any (λ m. m == number) tail) off in
    ap (λ l. numbered number (live_mappings l)) (append_assoc (unmap_acts mappings tail) (unmap_act mappings a) done)
    ∙ others_stay mappings tail (unmap_act mappings a ++ done) number both.1
    ∙ by both.0 (find (λ m. m.number == a) mappings) refl where
      by : (a == number) ≡ false → (o : Option Streaming) → find (λ m. m.number == a) mappings ≡ o
          → numbered number (live_mappings (option_map_or (λ m. Driver (Unmapped m) ∷ []) o [] ++ done)) ≡ numbered number (live_mappings done)
      by off None e = refl
      by off (Some m) e = other_stays number m.number (live_mappings done) (ap (λ k. k == number) (found_number a mappings m e) ∙ off)

-- the same mappings are unmapped where each number is of the same one
pub same_unmaps : (ms ns : List Streaming) (numbers : List ℕ) → ((n : ℕ) → list_any (λ k. k == n) numbers ≡ true → numbered n ms ≡ numbered n ns) → unmap_acts ms numbers ≡ unmap_acts ns numbers
same_unmaps ms ns [] same = refl
same_unmaps ms ns (a ∷ tail) same =
    ap (λ l. l ++ unmap_act ms a) (same_unmaps ms ns tail (λ n there. same n (or_second (a == n) there)))
    ∙ ap (λ o. unmap_acts ns tail ++ option_map_or (λ m. Driver (Unmapped m) ∷ []) o []) (same a (ap (λ t. t || list_any (λ k. k == a) tail) (itself a)))

unmaps_all : (Q : Streaming → Type 0) (mappings : List Streaming) (numbers : List ℕ) (done : List Act) → All Q (live_mappings done) → All Q (live_mappings (unmap_acts mappings numbers ++ done))
unmaps_all Q mappings [] done all = all
unmaps_all Q mappings (a ∷ tail) done all =
    subst (λ l. All Q (live_mappings l)) (sym (append_assoc (unmap_acts mappings tail) (unmap_act mappings a) done))
    (unmaps_all Q mappings tail (unmap_act mappings a ++ done) (by (find (λ m. m.number == a) mappings))) where
      by : (o : Option Streaming) → All Q (live_mappings (option_map_or (λ m. Driver (Unmapped m) ∷ []) o [] ++ done))
      by None = all
      by (Some m) = All-filter (λ (l : Streaming). not (l.number == m.number)) Q (live_mappings done) all

frees_same : {X : Type 0} (f : List Act → X) → ((b : ℕ) (done : List Act) → f (Driver (Freed b) ∷ done) ≡ f done) → (buffer n : ℕ) (done : List Act) → f (free_acts buffer n ++ done) ≡ f done
frees_same f one buffer zero done = refl
frees_same f one buffer (suc n) done = one (buffer + n) (free_acts buffer n ++ done) ∙ frees_same f one buffer n done

-- ---- the requests with a head below a number

module _ (mappings : List Streaming) (ps : List Pending) where
  abbrev ends : ℕ → List Act
  ends n = pending_end_acts mappings ps n

  abbrev next_end : Option Pending → List Act
  next_end o = option_map_or (request_end_acts mappings) (option_map request_in o) []

  pub ends_next : (n : ℕ) (o : Option Pending) → find (has_head n) ps ≡ o
      → pending_end_acts mappings ps (suc n) ≡ option_map_or (request_end_acts mappings) (option_map request_in o) [] ++ pending_end_acts mappings ps n
  ends_next n o e = ap (λ o. next_end o ++ ends n) e

  -- heads that none has end nothing
  pub ends_up : (a b : ℕ) → a ≤ b → ((id : ℕ) → a ≤ id → id < b → find (has_head id) ps ≡ None) → pending_end_acts mappings ps b ≡ pending_end_acts mappings ps a
  ends_up a zero le none = ap ends (let e : zero ≡ a = omega (arith, le) in e)
  ends_up a (suc b) le none = elim (leb_tells a b) [
    | inl h ↦ (let low = h.1 in ends_next b None (none b low (omega arith)) ∙ ends_up a b low (λ id from to. none id from (omega (arith, to))))
    | inr h ↦ (let more = h.1 in ap ends (let e : suc b ≡ a = omega (arith, le, more) in e))
  ]

  joined : (p : Pending) (n : ℕ) (done : List Act) → (request_end_acts mappings (request_in p) ++ ends n) ++ done ≡ free_acts p.buffer p.buffers ++ (unmap_acts mappings (maps_in p) ++ (ends n ++ done))
  joined p n done =
      append_assoc (free_acts p.buffer p.buffers ++ unmap_acts mappings (maps_in p)) (ends n) done
      ∙ append_assoc (free_acts p.buffer p.buffers) (unmap_acts mappings (maps_in p)) (ends n ++ done)

  -- a request ends after those of lower heads
  pub ends_found : (n : ℕ) (p : Pending) (done : List Act) → find (has_head n) ps ≡ Some p
      → pending_end_acts mappings ps (suc n) ++ done ≡ free_acts p.buffer p.buffers ++ (unmap_acts mappings (maps_in p) ++ (pending_end_acts mappings ps n ++ done))
  ends_found n p done e = ap (λ l. l ++ done) (ends_next n (Some p) e) ∙ joined p n done

  -- what neither an unmap nor a free changes stays
  pub ends_same : {X : Type 0} (f : List Act → X) → ((m : Streaming) (done : List Act) → f (Driver (Unmapped m) ∷ done) ≡ f done) → ((b : ℕ) (done : List Act) → f (Driver (Freed b) ∷ done) ≡ f done)
      → (done : List Act) (n : ℕ) → f (pending_end_acts mappings ps n ++ done) ≡ f done
  ends_same f one two done zero = refl
  ends_same f one two done (suc n) = by (find (has_head n) ps) (ends_same f one two done n) where
    by : (o : Option Pending) → f (ends n ++ done) ≡ f done → f ((next_end o ++ ends n) ++ done) ≡ f done
    by None rest = rest
    by (Some p) rest =
        ap f (joined p n done) ∙ frees_same f two p.buffer p.buffers (unmap_acts mappings (maps_in p) ++ (ends n ++ done))
        ∙ unmaps_same f one mappings (maps_in p) (ends n ++ done) ∙ rest

  -- the live mappings that are left are some of those before
  pub ends_all : (Q : Streaming → Type 0) (done : List Act) → All Q (live_mappings done) → (n : ℕ) → All Q (live_mappings (pending_end_acts mappings ps n ++ done))
  ends_all Q done all zero = all
  ends_all Q done all (suc n) = by (find (has_head n) ps) (ends_all Q done all n) where
    by : (o : Option Pending) → All Q (live_mappings (ends n ++ done)) → All Q (live_mappings ((next_end o ++ ends n) ++ done))
    by None rest = rest
    by (Some p) rest =
        subst (λ l. All Q (live_mappings l)) (sym (joined p n done))
        (subst (λ ms. All Q ms) (sym (free_live p.buffer p.buffers (unmap_acts mappings (maps_in p) ++ (ends n ++ done))))
        (unmaps_all Q mappings (maps_in p) (ends n ++ done) rest))

  -- a mapping that is none of theirs is live still
  pub ends_others : (done : List Act) (number n : ℕ) → ((j : ℕ) → j < n → (p : Pending) → find (has_head j) ps ≡ Some p → has_map number (Some (request_in p)) ≡ false)
      → numbered number (live_mappings (pending_end_acts mappings ps n ++ done)) ≡ numbered number (live_mappings done)
  ends_others done number zero others = refl
  ends_others done number (suc n) others = by (find (has_head n) ps) refl (ends_others done number n (λ j below p e. others j (omega (arith, below)) p e)) where
    by : (o : Option Pending) → find (has_head n) ps ≡ o → numbered number (live_mappings (ends n ++ done)) ≡ numbered number (live_mappings done)
        → numbered number (live_mappings ((next_end o ++ ends n) ++ done)) ≡ numbered number (live_mappings done)
    by None e rest = rest
    by (Some p) e rest =
        ap (λ l. numbered number (live_mappings l)) (joined p n done)
        ∙ ap (numbered number) (free_live p.buffer p.buffers (unmap_acts mappings (maps_in p) ++ (ends n ++ done)))
        ∙ others_stay mappings (maps_in p) (ends n ++ done) number (others n (omega arith) p e) ∙ rest
