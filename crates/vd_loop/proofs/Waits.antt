-- The replies that were written, those that wait, and the line of each of their bytes.
use Rattle.std.proofs.Common.{◌≡◌, ◌⊎◌, zero, suc, Bool, ℕ, ◌+◌, ◌-◌, ◌<◌, ◌≤◌, true, ap, subst, sym, ◌∙◌, refl, arith, Option, None, Some, List, [], ◌∷◌, ◌++◌, length, take, drop, length-append, length-drop, take-add, append_assoc, append-nil, inl, inr, slice_get}
use Rattle.std.proofs.Math.Seq.{take-length, take-append_seam, take-append-add}
use Rattle.std.proofs.lemmas.List.{take-append-drop, take-append-le, length-take-le}
use Rattle.std.proofs.lemmas.List.Folds.{concat-append}
use Rattle.std.proofs.lemmas.Bool.Decides.{leb_tells}
use Rattle.std.specs.List.{concat}
use Rattle.vd_io.specs.Told.{Pushed}
use Rattle.vd_loop.specs.Written.{Appended}
use Rattle.vd_loop.specs.Replies.{Replies, IsReplyAdded, Cut, Flushed, line_at}
use Rattle.vd_loop.specs.Runs.{IsIn, Waits, IsOut, NoneLater, IsCut, AllWritten}

-- ---- what is written

pub appended_none : (held : Option (List ℕ)) → Appended held held []
appended_none None = tt
appended_none (Some base) = ap Some (sym (append-nil base))

pub appended_both : (old now next : Option (List ℕ)) (a b : List ℕ) → Appended old now a → Appended now next b → Appended old next (a ++ b)
appended_both None now next a b p q = tt
appended_both (Some base) now next a b p q = subst (λ o. Appended o next b) p q ∙ ap Some (append_assoc base a b)

pub appended_more : (at n : ℕ) (bytes : List ℕ) (first now later : Option (List ℕ)) → Appended first now (take at bytes) → Pushed n (drop at bytes) now later → Appended first later (take (at + n) bytes)
appended_more at n bytes None now later a p = tt
appended_more at n bytes (Some base) now later a p =
    let q = subst (λ o. Pushed n (drop at bytes) o later) a p in
    q ∙ ap Some (append_assoc base (take at bytes) (take n (drop at bytes)) ∙ ap (λ l. base ++ l) (sym (take-add at n bytes)))

-- all that follows
pub take_rest : (n : ℕ) (xs : List ℕ) → take (length xs - n) (drop n xs) ≡ drop n xs
take_rest n xs = subst (λ k. take k (drop n xs) ≡ drop n xs) (length-drop n xs) (take-length (drop n xs))

pub flushed_same : (waiting : Replies) (held : Option (List ℕ)) → Flushed waiting waiting held held
flushed_same waiting held = record { front = []; written = appended_none held; rest = refl; line = λ n below. ap (line_at waiting) (let e : n ≡ 0 + n = omega arith in e) }

-- all that waited was written
pub flushed_all : (old new : Replies) (held later : Option (List ℕ)) → Appended held later old.bytes → new.bytes ≡ [] → Flushed old new held later
flushed_all old new held later a none = record {
  front = old.bytes;
  written = a;
  rest = ap (λ t. old.bytes ++ t) none ∙ append-nil old.bytes;
  line = λ n below. absurd (let size = ap length none in omega (arith, below, size));
}

-- ---- the line of each byte

module _ (replies : List (List ℕ)) (reply : List ℕ) where
  in_more : (k n : ℕ) → IsIn replies k n → IsIn (replies ++ reply ∷ []) k n
  in_more k n i =
      let within = i.within in let size = length-append replies (reply ∷ []) in
      record {
        within = omega (arith, within, size);
        begins = subst (λ l. length (concat l) ≤ n) (sym (take-append-le k replies (reply ∷ []) (omega (arith, within)))) i.begins;
        ends = subst (λ l. n < length (concat l)) (sym (take-append-le (k + 1) replies (reply ∷ []) (omega (arith, within)))) i.ends;
      }

  in_last : (n : ℕ) → length (concat replies) ≤ n → n < length (concat (replies ++ reply ∷ [])) → IsIn (replies ++ reply ∷ []) (length replies) n
  in_last n low high =
      let size = length-append replies (reply ∷ []) in
      record {
        within = omega (arith, size);
        begins = subst (λ l. length (concat l) ≤ n) (sym (take-append_seam replies (reply ∷ []))) low;
        ends = subst (λ l. n < length (concat l)) (sym (take-append-add replies (reply ∷ []) 1)) high;
      }

-- ---- the lines that were answered

-- nothing waits yet
pub out_first : (alone : List ℕ → Bool) (waiting : Replies) (held : Option (List ℕ)) → waiting.bytes ≡ [] → IsOut alone [] [] waiting 0 held held
out_first alone waiting held none =
    let size : length waiting.bytes ≡ 0 = ap length none in
    record {
      count = refl;
      each = refl;
      waits = record { front = []; written = appended_none held; all = none; line = λ n below. absurd (omega (arith, below, size)) };
      none_later = λ n below. absurd (omega (arith, below, size));
    }

module _ (alone : List ℕ → Bool) (done replies : List (List ℕ)) (waiting : Replies) (lines : ℕ) (old now : Option (List ℕ)) (o : IsOut alone done replies waiting lines old now) where
  waits_flushed : (later : Replies) (next : Option (List ℕ)) → Flushed waiting later now next → Waits replies later old next
  waits_flushed later next f =
      let w = o.waits in
      record {
        front = w.front ++ f.front;
        written = appended_both old now next w.front f.front w.written f.written;
        all = append_assoc w.front f.front later.bytes ∙ ap (λ t. w.front ++ t) f.rest ∙ w.all;
        line = λ n below.
            let size = length-append w.front f.front in
            let early : length f.front + n < length waiting.bytes = (let both = length-append f.front later.bytes in let same = ap length f.rest in omega (arith, both, same, below)) in
            subst (λ m. IsIn replies (line_at later n) m) (let e : length w.front + (length f.front + n) ≡ length (w.front ++ f.front) + n = omega (arith, size) in e)
            (subst (λ k. IsIn replies k (length w.front + (length f.front + n))) (sym (f.line n below)) (w.line (length f.front + n) early));
      }

  -- the replies that wait are written, or wait still
  pub out_flushed : (later : Replies) (next : Option (List ℕ)) → Flushed waiting later now next → IsOut alone done replies later lines old next
  out_flushed later next f = record {
    count = o.count;
    each = o.each;
    waits = waits_flushed later next f;
    none_later = λ n below k line there is.
        let early : length f.front + n < length waiting.bytes = (let both = length-append f.front later.bytes in let same = ap length f.rest in omega (arith, both, same, below)) in
        subst (λ m. k ≤ m) (sym (f.line n below)) (o.none_later (length f.front + n) early k line there is);
  }

  -- a front of them is written
  pub cut_of : (written : ℕ) (next : Option (List ℕ)) → Cut waiting written now next → IsCut alone done replies written old next
  cut_of written next c =
      let w = o.waits in let less = c.less in
      let here : IsIn replies written (length w.front + c.size) = subst (λ k. IsIn replies k (length w.front + c.size)) (sym c.line) (w.line c.size less) in
      let low = here.begins in let high = here.ends in
      let size : length (w.front ++ take c.size waiting.bytes) ≡ length w.front + c.size =
      length-append w.front (take c.size waiting.bytes) ∙ ap (λ n. length w.front + n) (length-take-le c.size waiting.bytes (omega (arith, less))) in
      record {
        bytes = w.front ++ take c.size waiting.bytes;
        back = drop c.size waiting.bytes;
        written = appended_both old now next w.front (take c.size waiting.bytes) w.written c.written;
        front = append_assoc w.front (take c.size waiting.bytes) (drop c.size waiting.bytes) ∙ ap (λ t. w.front ++ t) (take-append-drop c.size waiting.bytes) ∙ w.all;
        within = here.within;
        whole = omega (arith, low, size);
        not_next = omega (arith, high, size);
        none_later = λ k line there is. subst (λ m. k ≤ m) (sym c.line) (o.none_later c.size less k line there is);
      }

  -- all of them are written
  pub all_of : (next : Option (List ℕ)) → Appended now next waiting.bytes → AllWritten done replies lines old next
  all_of next a =
      let w = o.waits in
      record { count = o.count; written = subst (Appended old next) w.all (appended_both old now next w.front waiting.bytes w.written a) }

-- the reply to a line more waits
module _ (alone : List ℕ → Bool) (done replies : List (List ℕ)) (kept : Replies) (lines : ℕ) (old now : Option (List ℕ)) (o : IsOut alone done replies kept lines old now)
    (line reply : List ℕ) (later : Replies) (a : IsReplyAdded reply lines kept later) (none : alone line ≡ true → kept.bytes ≡ []) where
  all_more : o.waits.front ++ later.bytes ≡ concat (replies ++ reply ∷ [])
  all_more =
      let w = o.waits in
      ap (λ t. w.front ++ t) a.bytes ∙ sym (append_assoc w.front kept.bytes reply) ∙ ap (λ t. t ++ reply) w.all ∙ ap (λ t. concat replies ++ t) (sym (append-nil reply))
      ∙ sym (concat-append replies (reply ∷ []))

  line_more : (n : ℕ) → n < length later.bytes → IsIn (replies ++ reply ∷ []) (line_at later n) (length o.waits.front + n)
  line_more n below = elim (leb_tells (length kept.bytes) n) [ inl past ↦ last past.1 | inr early ↦ still early.1 ] where
    last : length kept.bytes ≤ n → IsIn (replies ++ reply ∷ []) (line_at later n) (length o.waits.front + n)
    last past =
        let w = o.waits in let count = o.count in let each = o.each in
        let before = ap length w.all in let before_is = length-append w.front kept.bytes in
        let after = ap length all_more in let after_is = length-append w.front later.bytes in
        subst (λ k. IsIn (replies ++ reply ∷ []) k (length w.front + n)) (sym (a.added n past below ∙ count ∙ sym each))
        (in_last replies reply (length w.front + n) (omega (arith, past, before, before_is)) (omega (arith, below, after, after_is)))

    still : n < length kept.bytes → IsIn (replies ++ reply ∷ []) (line_at later n) (length o.waits.front + n)
    still early =
        let w = o.waits in
        subst (λ k. IsIn (replies ++ reply ∷ []) k (length w.front + n)) (sym (a.kept n early)) (in_more replies reply (line_at kept n) (length w.front + n) (w.line n early))

  -- a line among those that were answered, or the last
  last_or : (k : ℕ) (it : List ℕ) → slice_get (done ++ line ∷ []) k ≡ Some it → (slice_get done k ≡ Some it) ⊎ ((k ≡ length done) × (line ≡ it))
  last_or k it there = by done k there where
    some_is : (a b : List ℕ) → Some a ≡ Some b → a ≡ b
    some_is a b e = cc

    by : (done : List (List ℕ)) (k : ℕ) → slice_get (done ++ line ∷ []) k ≡ Some it → (slice_get done k ≡ Some it) ⊎ ((k ≡ length done) × (line ≡ it))
    by [] zero e = inr (refl, some_is line it e)
    by [] (suc k) e = absurd (let f : None ≡ Some it = e in cc)
    by (d ∷ done) zero e = inl e
    by (d ∷ done) (suc k) e = elim (by done k e) [ inl h ↦ inl h | inr h ↦ inr (ap suc h.0, h.1) ]

  -- a line that was answered alone stands before each byte that waits
  none_more : (n : ℕ) → n < length later.bytes → NoneLater alone (done ++ line ∷ []) (line_at later n)
  none_more n below k it there is = elim (last_or k it there) [
    | inl before ↦
        elim (leb_tells (length kept.bytes) n) [
          | inl past ↦
              (let within = get_within done k it before in let count = o.count in let at = a.added n past.1 below in
              omega (arith, within, count, at))
          | inr early ↦ subst (λ m. k ≤ m) (sym (a.kept n early.1)) (o.none_later n early.1 k it before is)
        ]
    | inr here ↦
        (let size = ap length (none (subst (λ l. alone l ≡ true) (sym here.1) is)) in
        let count = o.count in let k_is = here.0 in
        let at = a.added n (omega (arith, size)) below in
        omega (arith, count, k_is, at))
  ] where
    get_within : (xs : List (List ℕ)) (k : ℕ) (it : List ℕ) → slice_get xs k ≡ Some it → k < length xs
    get_within [] k it e = absurd (let f : None ≡ Some it = e in cc)
    get_within (x ∷ xs) zero it e = omega arith
    get_within (x ∷ xs) (suc k) it e = let less = get_within xs k it e in omega (arith, less)

  pub out_more : IsOut alone (done ++ line ∷ []) (replies ++ reply ∷ []) later (lines + 1) old now
  out_more =
      let count = o.count in let each = o.each in let one = length-append done (line ∷ []) in let other = length-append replies (reply ∷ []) in
      record {
        count = omega (arith, count, one);
        each = omega (arith, each, one, other);
        waits = record { front = o.waits.front; written = o.waits.written; all = all_more; line = line_more };
        none_later = none_more;
      }
