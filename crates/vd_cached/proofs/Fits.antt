-- The sizes that words ask for meet the conditions of the laws.
use Rattle.std.proofs.Common.{◌≡◌, ℕ, ◌+◌, ◌*◌, ◌/◌, ◌%◌, ◌≤◌, ◌<◌, ◌∙◌, Bool, true, false, cond, refl, ap, sym, subst, arith, List, [], ◌∷◌, Option, Some, None, ◌==◌}
use Rattle.std.specs.Prelude.{codes}
use Rattle.std.specs.Option.{option_and_then}
use Rattle.std.specs.Str.{bytes_eq}
use Rattle.std.proofs.lemmas.Bool.Decides.{nat_tests}
use Rattle.vd_model.specs.Setting.{Setting}
use Rattle.vd_laws.specs.Runs.{IsAddressed, IsWhole}
use Rattle.vd_options.specs.declared.words.Chosen.{Chosen}
use Rattle.vd_options.specs.declared.words.Page.{Page}
use Rattle.vd_options.specs.declared.words.Page.TheVariants.{Small, Large}
use Rattle.vd_options.specs.Words.{Sizes, are_fit, chosen_sizes, sizes_of, slots_of, with_pairs, nothing_chosen, asked_sizes}
use Rattle.vd_top.specs.Asked.{HasSizes}
use Rattle.vd_cached.specs.Words.{CachedRun, cached_run, cached_sizes}

pub record Fits (s : Sizes) : Type 0 where
  pub small : s.iova ≤ 65536
  pub pages : ℕ
  pub whole : s.bounce ≡ pages * s.per_page

pages_of : (page : Page) (s : Sizes) → s.per_page ≡ slots_of page → are_fit s ≡ true → Fits s
pages_of Small s is fit = record { small = grind (arith, nat_tests, fit); pages = s.bounce; whole = (let one : s.bounce ≡ s.bounce * 1 = omega arith in one) ∙ ap (λ n. s.bounce * n) (sym is) }
pages_of Large s is fit =
    let rest : (s.bounce % s.per_page == 0) ≡ true = grind (arith, nat_tests, fit) in
    let none : (s.bounce % 16 == 0) ≡ true = subst (λ n. (s.bounce % n == 0) ≡ true) is rest in
    let zero : s.bounce % 16 ≡ 0 = grind (arith, nat_tests, none) in
    record { small = grind (arith, nat_tests, fit); pages = s.bounce / 16; whole = (let split : s.bounce ≡ s.bounce / 16 * 16 = omega (arith, zero) in split) ∙ ap (λ n. s.bounce / 16 * n) (sym is) }

chosen_fit : (chosen : Option Chosen) (s : Sizes) → option_and_then sizes_of chosen ≡ Some s → Fits s
chosen_fit None s is = absurd (cc)
chosen_fit (Some c) s is = by (are_fit (chosen_sizes c)) refl is where
  by : (b : Bool) → are_fit (chosen_sizes c) ≡ b → cond b (Some (chosen_sizes c)) None ≡ Some s → Fits s
  by true fit e = let same : chosen_sizes c ≡ s = cc in subst Fits same (pages_of _ (chosen_sizes c) refl fit)
  by false fit e = absurd (cc)

run_fit : (words : List (List ℕ)) (s : Sizes) → asked_sizes words ≡ Some s → Fits s
run_fit [] s is = absurd (cc)
run_fit (first ∷ rest) s is = by (bytes_eq first (codes "run")) is where
  by : (b : Bool) → cond b (option_and_then sizes_of (with_pairs nothing_chosen rest)) None ≡ Some s → Fits s
  by true e = chosen_fit (with_pairs nothing_chosen rest) s e
  by false e = absurd (cc)

cached_fit : (words : List (List ℕ)) (s : Sizes) → cached_sizes words ≡ Some s → Fits s
cached_fit words s is = by (cached_run words) is where
  by : (o : Option CachedRun) → option_and_then (λ run. asked_sizes run.words) o ≡ Some s → Fits s
  by None e = absurd (cc)
  by (Some run) e = run_fit run.words s e

module _ (words : List (List ℕ)) (x : Setting) (s : Sizes) (asked : cached_sizes words ≡ Some s) (has : HasSizes x s) where
  pub is_addressed : IsAddressed x
  is_addressed = let fits = cached_fit words s asked in let small = fits.small in let same = has.iova in omega (arith, small, same)

  pub is_whole : IsWhole x
  is_whole = let fits = cached_fit words s asked in (fits.pages, has.bounce ∙ fits.whole ∙ ap (λ n. fits.pages * n) (sym has.per_page))
