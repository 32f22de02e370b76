-- A run over a cache, from what the run itself says.
use Rattle.std.proofs.Common.{◌≡◌, ℕ, ◌+◌, ◌∙◌, ap, sym, subst, Bool, true, List, [], Option, Some, take}
use Rattle.vd_model.specs.Setting.{Setting}
use Rattle.vd_model.specs.History.{History, deeds_of}
use Rattle.vd_output.specs.Out.{good_lines, history_after}
use Rattle.vd_options.specs.Words.{Sizes, asked_sizes}
use Rattle.vd_engine.specs.Image.{IsImage}
use Rattle.vd_laws.proofs.AllLaws.{all_laws}
use Rattle.vd_transfer_laws.proofs.Transfers.{transfer_law}
use Rattle.vd_region_laws.proofs.LiveRegions.{region_law}
use Rattle.vd_order_laws.proofs.OrderLaw.{order_law}
use Rattle.vd_disk_laws.proofs.BlockLaw.{block_law}
use Rattle.vd_loop.specs.declared.progress.Stop.{Stop}
use Rattle.vd_top.specs.Asked.{IsGiven}
use Rattle.vd_top.specs.Pictures.{Shown, ImageAt, IsDepicted}
use Rattle.vd_top.specs.RunLaws.{RunLaws}
use Rattle.vd_loop.specs.Statuses.{is_status, stop_of_status}
use Rattle.vd_cached.specs.Words.{cached_sizes}
use Rattle.vd_cached.specs.Ends.{IsGivenCached, DiskAt, flushed_status, stop_of_cached}
use Rattle.vd_cached.proofs.Statuses.{run_is}

pub given_run : (run words : List (List ℕ)) (sizes : Sizes) (left : Option (List ℕ)) (text : List ℕ) → asked_sizes run ≡ cached_sizes words → IsGivenCached words sizes left text → IsGiven run sizes left text
given_run run words sizes left text same given = record { asked = same ∙ given.asked; told = given.told }

pub stop_is : (f : Bool) (n last : ℕ) → last ≡ flushed_status f n → is_status n ≡ true → stop_of_cached last ≡ stop_of_status n
stop_is f n last is known = ap stop_of_cached is ∙ ap stop_of_status (run_is f n known)

pub image_of : (x : Setting) (n m : ℕ) (a b : Option (List ℕ)) → n ≡ m → a ≡ b → IsImage x [] m b → IsImage x [] n a
image_of x n m a b size same is = subst (λ k. IsImage x [] k a) (sym size) (subst (λ o. IsImage x [] m o) (sym same) is)

pub run_laws : (x : Setting) (h : History) → RunLaws x h
run_laws x h = record { laws = all_laws x h; transfers = transfer_law x h; regions = region_law x h; requests = record { order = order_law x h; block = block_law x h } }

pub disk_holds : (x : Setting) (text failures : List ℕ) (stop other : Stop) (lines size now : ℕ) (first last : Shown) (content : Option (List ℕ)) → other ≡ stop → now ≡ size → content ≡ last.content
    → ImageAt x text failures stop lines size first last → DiskAt x text failures other lines now content
disk_holds x text failures stop other lines size now first last content is sized same at = record {
  run = at.run;
  near = subst (λ s. IsDepicted s lines at.run) (sym is) at.near;
  there = at.there;
  holds =
      subst (λ n. IsImage x (deeds_of x (history_after failures 1 [] (take at.run (good_lines text)))) n content) (sym sized)
      (subst (λ o. IsImage x (deeds_of x (history_after failures 1 [] (take at.run (good_lines text)))) size o) (sym same) at.holds.image);
}
