-- The pages in use, as they are counted.
use Rattle.std.proofs.Common.{◌≡◌, ℕ, ◌<◌, refl, ap, sym, ◌∙◌, arith, Bool, true, false, cond, ◌||◌, nat_lt, List, [], ◌∷◌, length}
use Rattle.std.proofs.lemmas.Bool.Decides.{nat_tests}
use Rattle.std.specs.Prelude.{is_some}
use Rattle.std.specs.List.{slice_index, slice_index_or, filter, list_any}
use Rattle.vd_iova.specs.Space.{Space}
use Rattle.vd_pool.specs.Memory.{PoolMemory}
use Rattle.vd_bounce.specs.Frames.{frame_of}
use Rattle.vd_model.specs.Setting.{Setting}
use Rattle.vd_model.specs.Acts.{Act}
use Rattle.vd_model.specs.Live.{is_in_use, meets_page}
use Rattle.vd_domain.specs.Held.{Held, IsFit}
use Rattle.vd_domain.specs.Stands.{Stands}

pub any_counted : {X : Type 0} (f : X → Bool) (xs : List X) → nat_lt 0 (length (filter f xs)) ≡ list_any f xs
any_counted f [] = refl
any_counted {X} f (x ∷ xs) = by (f x) (any_counted f xs) where
  by : (b : Bool) → nat_lt 0 (length (filter f xs)) ≡ list_any f xs → nat_lt 0 (length (cond b (x ∷ filter f xs) (filter f xs))) ≡ (b || list_any f xs)
  by true rest = grind (arith, nat_tests)
  by false rest = rest

module _ (x : Setting) (acts : List Act) (h : Held) (m : PoolMemory) (low high : Space) (uses : List ℕ) (flags : List Bool)
    (s : Stands x acts h m) (fit : IsFit h low high uses) (flagged : (p : ℕ) → slice_index_or flags p false ≡ nat_lt 0 (slice_index uses p)) where
  -- a flag says whether its page is in use
  pub flag_is : (p : ℕ) → p < length h.bounce.frames → slice_index_or flags p false ≡ is_in_use x.per_page acts p
  flag_is p below =
      flagged p ∙ ap (λ n. nat_lt 0 n) (fit.count p below) ∙ any_counted (meets_page h.bounce.per_page p) h.live
      ∙ ap (λ g. list_any (meets_page g p) h.live) (sym s.per_page) ∙ ap (λ l. list_any (meets_page x.per_page p) l) s.live

  -- a page in use has a frame
  pub flag_framed : (p : ℕ) → slice_index_or flags p false ≡ true → is_some (frame_of h.bounce.frames p) ≡ true
  flag_framed p e = let test : nat_lt 0 (slice_index uses p) ≡ true = sym (flagged p) ∙ e in fit.framed p (grind (arith, nat_tests))
