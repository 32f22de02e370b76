-- Rows of frames, and what calls leave to others.
use Rattle.std.proofs.Common.{◌≡◌, ◌≢◌, ℕ, zero, suc, ◌⊎◌, inl, inr, refl, ap, sym, ◌∙◌, arith, List, [], ◌∷◌, ◌++◌, length, true, false, ◌==◌, Option, Some, None}
use Rattle.std.proofs.lemmas.Bool.Decides.{nat_tests, eqb_tells}
use Rattle.vd_pool.specs.Memory.{PoolMemory, Writes, Gives}
use Rattle.vd_bounce.specs.Frames.{frame_of, Holds, Keeps}

pub nat_tells : (a b : ℕ) → (a ≡ b) ⊎ (a ≢ b)
nat_tells a b = elim (eqb_tells a b) [ inl h ↦ inl h.1 | inr h ↦ inr h.1 ]

pub differ : (a b : ℕ) → a ≢ b → (a == b) ≡ false
differ a b ne = grind (arith, nat_tests)

pub same_test : (a : ℕ) → (a == a) ≡ true
same_test a = grind (arith, nat_tests)

pub keeps_none : {frames : List (Option ℕ)} {m : PoolMemory} → Holds frames m → Keeps frames frames m m
keeps_none h = record { holds = h; size = refl; others = λ g o i. (o, i, λ j. refl) }

pub keeps_more : {a b c : List (Option ℕ)} {k m n : PoolMemory} → Keeps a b k m → Keeps b c m n → Keeps a c k n
keeps_more first next = record {
  holds = next.holds;
  size = next.size ∙ first.size;
  others = λ g o i. let x = first.others g o i in let y = next.others g x.0 x.1 in (y.0, y.1, λ j. y.2 j ∙ x.2 j);
}

-- ---- a write in a frame of the row

pub wrote_kept : {frames : List (Option ℕ)} {m n : PoolMemory} (page f at : ℕ) (text : List ℕ) → Holds frames m → frame_of frames page ≡ Some f → Writes f at text m n → Keeps frames frames m n
wrote_kept page f at text h e w = record {
  holds = record { out = λ p g there. w.out g ∙ h.out p g there; apart = h.apart };
  size = w.size;
  others = λ g o i.
      let no : (g == f) ≡ false = differ g f (λ same. i page (e ∙ ap (λ k. Some k) (sym same))) in
      (w.out g ∙ o, i, λ j. w.bytes g j ∙ rw no refl);
}

-- ---- the last page of a row is taken off

pub front_frame : (xs : List (Option ℕ)) (x : Option ℕ) (p f : ℕ) → frame_of xs p ≡ Some f → frame_of (xs ++ x ∷ []) p ≡ Some f
front_frame [] x zero f e = cc
front_frame [] x (suc p) f e = cc
front_frame (y ∷ ys) x zero f e = e
front_frame (y ∷ ys) x (suc p) f e = front_frame ys x p f e

past_end : (xs : List (Option ℕ)) → frame_of xs (length xs) ≡ None
past_end [] = refl
past_end (y ∷ ys) = past_end ys

last_frame : (xs : List (Option ℕ)) (x : Option ℕ) → frame_of (xs ++ x ∷ []) (length xs) ≡ x
last_frame [] x = refl
last_frame (y ∷ ys) x = last_frame ys x

pub popped_none : (xs : List (Option ℕ)) (m : PoolMemory) → Holds (xs ++ None ∷ []) m → Keeps (xs ++ None ∷ []) xs m m
popped_none xs m h = record {
  holds = record {
    out = λ p f e. h.out p f (front_frame xs None p f e);
    apart = λ p q f e e'. h.apart p q f (front_frame xs None p f e) (front_frame xs None q f e');
  };
  size = refl;
  others = λ g o i. (o, (λ p e. i p (front_frame xs None p g e)), λ j. refl);
}

pub popped_some : (xs : List (Option ℕ)) (f : ℕ) (m n : PoolMemory) → Holds (xs ++ Some f ∷ []) m → Gives f m n → Keeps (xs ++ Some f ∷ []) xs m n
popped_some xs f m n h w = record {
  holds = record {
    out = λ p g e.
        let ne : g ≢ f = λ same.
        let here : p ≡ length xs = h.apart p (length xs) g (front_frame xs (Some f) p g e) (last_frame xs (Some f) ∙ ap (λ k. Some k) (sym same)) in
        let none : frame_of xs p ≡ None = ap (λ k. frame_of xs k) here ∙ past_end xs in
        cc in
        w.out g ∙ rw (differ g f ne) (h.out p g (front_frame xs (Some f) p g e));
    apart = λ p q g e e'. h.apart p q g (front_frame xs (Some f) p g e) (front_frame xs (Some f) q g e');
  };
  size = w.size;
  others = λ g o i.
      let ne : g ≢ f = λ same. i (length xs) (last_frame xs (Some f) ∙ ap (λ k. Some k) (sym same)) in
      (w.out g ∙ rw (differ g f ne) o, (λ p e. i p (front_frame xs (Some f) p g e)), λ j. w.bytes g j);
}
