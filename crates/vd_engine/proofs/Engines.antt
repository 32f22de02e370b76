-- What an engine stands for.
use Rattle.std.proofs.Common.{◌≡◌, ℕ, ◌+◌, ◌≤◌, false, true, refl, ap, subst, ◌∙◌, sym, arith, List, [], ◌∷◌, ◌++◌, None, Some, Result, Ok}
use Rattle.std.proofs.Common.{Err as Bad}
use Rattle.std.specs.Prelude.{All, Bool, IfOk, MatchResult, Option}
use Rattle.std.specs.List.{slice_index_or}
use Rattle.std.specs.Option.{option_map_or}
use Rattle.vd_num.specs.declared.errno.Errno.TheVariants.{Nodev}
use Rattle.vd_model.specs.declared.step.Step.{Step}
use Rattle.vd_model.specs.declared.answer.Answer.{Answer}
use Rattle.vd_model.specs.declared.answer.Answer.TheVariants.{Err}
use Rattle.vd_model.specs.Setting.{Setting}
use Rattle.vd_model.specs.Acts.{Act}
use Rattle.vd_model.specs.Creation.{Creation}
use Rattle.vd_model.specs.Turn.{Turn, refusal_turn}
use Rattle.vd_model.specs.Deeds.{Deed, made_with, image_byte}
use Rattle.vd_model.specs.ControlTurns.{Outcome}
use Rattle.vd_model.specs.History.{History, deeds_of, device_outcome, outcome}
use Rattle.vd_device.specs.Sizes.{AreFit, IsSized}
use Rattle.vd_instance.specs.Stands.{IsWithin}
use Rattle.vd_engine.specs.declared.devices.Named.{Named}
use Rattle.vd_engine.specs.declared.engine.Engine.{Engine}
use Rattle.vd_engine.specs.Machine.{NoneIs, DeviceIs, AllStand, StandsAt, StandsFor, IsReached}
use Rattle.vd_engine.specs.Image.{IsImage}
use Rattle.vd_engine.specs.Windows.{HasWindows}
use Rattle.vd_engine.specs.declared.windows.Given.{Given}
use Rattle.vd_engine.specs.Does.{Results, Does, MayDo, Serves, Goes, StandsForMore, plain_of}
use Rattle.vd_engine.proofs.Counts.{within_later}
use Rattle.vd_engine.proofs.Images.{holds_own, image_kept}

-- ---- a new one

pub new_stands : (x : Setting) (e : Engine) → IsSized x e.sizes → AreFit e.sizes → e.pool.per_page ≡ e.sizes.per_page → e.sectors ≡ x.sectors → e.windows.items ≡ [] → e.now ≡ 0 → e.asked ≡ 0 → e.devices.items ≡ [] → StandsFor x [] e
unfolding deeds_of
new_stands x e sized fit page sectors bare now asked none = record {
  asked = asked;
  stands = record {
    sizes = sized;
    fit = fit;
    sectors = sectors;
    windows = subst (λ (gs : List Given). HasWindows [] e.sectors gs) (sym bare) (record { window = λ n. refl; taken = λ first count. refl; inside = λ k d below. absurd (omega arith) });
    page = page;
    now = now;
    devices = subst (λ (ds : List Named). AllStand x [] ds e.pool) (sym none) (record {
      each = λ name. refl;
      count = refl;
      once = λ i j c d differ at. absurd (nothing at);
      frames = record { held = λ i d at. absurd (nothing at); apart = λ i j c d differ at. absurd (nothing at) };
    });
    counts = subst (λ (ds : List Named). All (λ d. IsWithin e.asked d.instance) ds) (sym none) (λ k d below. absurd (omega arith));
  };
} where
  nothing : {d : Named} → None ≡ Some d → ⊥
  nothing e = cc

pub reached_new : (e : Engine) → AreFit e.sizes → e.pool.per_page ≡ e.sizes.per_page → e.windows.items ≡ [] → e.now ≡ 0 → e.asked ≡ 0 → e.devices.items ≡ [] → IsReached e
unfolding deeds_of
reached_new e fit page bare now asked none =
    let x : Setting = record { bounce = e.sizes.bounce; iova = e.sizes.iova; per_page = e.sizes.per_page; sectors = e.sectors; content = λ i. 0 } in
    record { setting = x; done = []; stands = (new_stands x e (record { bounce = refl; iova = refl; per_page = refl }) fit page refl bare now asked none).stands }

-- ---- counts

pub counts_later : (least most : ℕ) (ds : List Named) → least ≤ most → All (λ d. IsWithin least d.instance) ds → All (λ d. IsWithin most d.instance) ds
counts_later least most ds le all = λ k d below. within_later least most (slice_index_or ds k d).instance le (all k d below)

-- the same deeds, under a greater number
pub stands_later : (x : Setting) (done : List Deed) (least most : ℕ) (e : Engine) → least ≤ most → StandsAt x done least e → StandsAt x done most e
stands_later x done least most e le s = record { sizes = s.sizes; fit = s.fit; sectors = s.sectors; windows = s.windows; page = s.page; now = s.now; devices = s.devices; counts = counts_later least most e.devices.items le s.counts }

-- ---- what a line is answered that changes nothing

pub quiet : {x : Setting} {heard : Answer → Type 0} {outcome : Outcome} {done : List Deed} {most : ℕ} (e : Engine) (answer : Answer) → outcome ≡ record { answer = answer; deeds = [] } → heard answer → StandsAt x done most e → Results x heard outcome done most e
quiet {x} {heard} {outcome} {done} {most} e answer is h s = subst (λ o. Results x heard o done most e) (sym is) (record { says = h; stands = stands_later x done most (most + 1) e (omega arith) s })

pub results_as : {x : Setting} {heard : Answer → Type 0} {outcome like : Outcome} {done : List Deed} {most : ℕ} {e : Engine} → outcome ≡ like → Results x heard like done most e → Results x heard outcome done most e
results_as {x} {heard} {outcome} {like} {done} {most} {e} is r = subst (λ o. Results x heard o done most e) (sym is) r

-- no device has the name
pub no_device : (x : Setting) (done : List Deed) (e : Engine) → StandsAt x done e.asked e → (name : List ℕ) → NoneIs name e.devices.items → (turn : Creation → Turn Act)
    → device_outcome name (option_map_or turn (made_with name done) (refusal_turn Nodev)) ≡ record { answer = Err Nodev; deeds = [] }
no_device x done e s name none turn = ap (λ o. device_outcome name (option_map_or turn o (refusal_turn Nodev))) (subst (λ o. DeviceIs x name done o e.pool) none (s.devices.each name))

-- ---- a call that answers a line as another

pub may_do_as : {E : Type 0} {heard : Answer → Type 0} {outcome like : Setting → List Deed → Outcome} {old new : Engine} {r : Result (Unit {0}) E} → ((x : Setting) (done : List Deed) → outcome x done ≡ like x done) → MayDo heard like old new r → MayDo heard outcome old new r
may_do_as {E} {heard} {outcome} {like} {old} {new} {r} same h = record { line = λ x done s. by x done r (h.line x done s); asked = h.asked } where
  by : (x : Setting) (done : List Deed) (r : Result (Unit {0}) E) → MatchResult r (λ _. Results x heard (like x done) done old.asked new) (λ _. StandsAt x done old.asked new) → MatchResult r (λ _. Results x heard (outcome x done) done old.asked new) (λ _. StandsAt x done old.asked new)
  by x done (Ok u) k = results_as (same x done) k
  by x done (Bad error) k = k

-- one that can't fail
pub may_do_ok : {E : Type 0} {heard : Answer → Type 0} {outcome like : Setting → List Deed → Outcome} {old new : Engine} → ((x : Setting) (done : List Deed) → outcome x done ≡ like x done) → Does heard like old new → MayDo {E = E} heard outcome old new (Ok tt)
may_do_ok same h = record { line = λ x done s. results_as (same x done) (h.line x done s); asked = h.asked }

pub does_as : {heard : Answer → Type 0} {outcome like : Setting → List Deed → Outcome} {old new : Engine} → ((x : Setting) (done : List Deed) → outcome x done ≡ like x done) → Does heard like old new → Does heard outcome old new
does_as same h = record { line = λ x done s. results_as (same x done) (h.line x done s); asked = h.asked }

-- ---- a line that leaves the image alone

pub serves_plain : {E : Type 0} {heard : Answer → Type 0} {outcome : Setting → List Deed → Bool → Outcome} {like : Setting → List Deed → Outcome} {touches : Bool} {old new : Engine} {size : ℕ} {content : Option (List ℕ)} {r : Result (Unit {0}) E} {q : Result Bool E}
    → ((x : Setting) (done : List Deed) → outcome x done false ≡ like x done) → ((x : Setting) (done : List Deed) (i : ℕ) → image_byte x ((outcome x done false).deeds ++ done) i ≡ image_byte x done i)
    → q ≡ plain_of r → MayDo heard like old new r → Serves heard outcome touches old new size content content q
serves_plain {E} {heard} {outcome} {like} {touches} {old} {new} {size} {content} {r} {q} same alone is h = subst (Serves heard outcome touches old new size content content) (sym is) (record {
  line = λ x done s image. line x done r (h.line x done s);
  image = λ x done s own image. after x done image r;
  more = λ x done s. more x done r (h.line x done s);
  asked = h.asked;
}) where
  line : (x : Setting) (done : List Deed) (r : Result (Unit {0}) E) → MatchResult r (λ _. Results x heard (like x done) done old.asked new) (λ _. StandsAt x done old.asked new)
      → IfOk (plain_of r) (λ failed. Results x heard (outcome x done failed) done old.asked new)
  line x done (Ok u) k = results_as (same x done) k
  line x done (Bad error) k = tt

  after : (x : Setting) (done : List Deed) → IsImage x done size content → (r : Result (Unit {0}) E) → IfOk (plain_of r) (λ failed. IsImage x ((outcome x done failed).deeds ++ done) size content)
  after x done image (Ok u) = image_kept ((outcome x done false).deeds ++ done) refl (alone x done) image
  after x done image (Bad error) = tt

  more : (x : Setting) (done : List Deed) (r : Result (Unit {0}) E) → MatchResult r (λ _. Results x heard (like x done) done old.asked new) (λ _. StandsAt x done old.asked new)
      → MatchResult (plain_of r) (λ _. StandsForMore x done old.asked new) (λ _. StandsAt x done old.asked new)
  more x done (Ok u) k = record { more = (like x done).deeds; stands = k.stands }
  more x done (Bad error) k = k

-- a line that changes nothing
pub serves_quiet : {E : Type 0} {heard : Answer → Type 0} {outcome : Setting → List Deed → Bool → Outcome} {touches : Bool} {size : ℕ} {content : Option (List ℕ)} (e : Engine) (answer : Answer)
    → ((x : Setting) (done : List Deed) → StandsAt x done e.asked e → outcome x done false ≡ record { answer = answer; deeds = [] }) → heard answer → Serves {E = E} heard outcome touches e e size content content (Ok false)
serves_quiet {E} {heard} {outcome} {touches} {size} {content} e answer is h = record {
  line = λ x done s image. quiet e answer (is x done s) h s;
  image = λ x done s own image. subst (λ (o : Outcome). IsImage x (o.deeds ++ done) size content) (sym (is x done s)) image;
  more = λ x done s. record { more = []; stands = stands_later x done e.asked (e.asked + 1) e (omega arith) s };
  asked = refl;
}

-- a line on a queue that is served as another
pub serves_as : {E : Type 0} {heard : Answer → Type 0} {outcome like : Setting → List Deed → Bool → Outcome} {touches other : Bool} {old new : Engine} {size : ℕ} {before after : Option (List ℕ)} {r : Result Bool E}
    → ((x : Setting) (done : List Deed) (failed : Bool) → outcome x done failed ≡ like x done failed) → touches ≡ other → Serves heard like other old new size before after r → Serves heard outcome touches old new size before after r
serves_as {E} {heard} {outcome} {like} {touches} {other} {old} {new} {size} {before} {after} {r} same touched h = record {
  line = λ x done s image. line x done r (h.line x done s (λ e. image (touched ∙ e)));
  image = λ x done s own image. stored x done r (h.image x done s own image);
  more = h.more;
  asked = h.asked;
} where
  line : (x : Setting) (done : List Deed) (r : Result Bool E) → IfOk r (λ failed. Results x heard (like x done failed) done old.asked new) → IfOk r (λ failed. Results x heard (outcome x done failed) done old.asked new)
  line x done (Ok failed) k = results_as (same x done failed) k
  line x done (Bad error) k = tt

  stored : (x : Setting) (done : List Deed) (r : Result Bool E) → IfOk r (λ failed. IsImage x ((like x done failed).deeds ++ done) size after) → IfOk r (λ failed. IsImage x ((outcome x done failed).deeds ++ done) size after)
  stored x done (Ok failed) k = subst (λ (o : Outcome). IsImage x (o.deeds ++ done) size after) (sym (same x done failed)) k
  stored x done (Bad error) k = tt

-- ---- a step of a history

-- a step more was asked
pub counted : {x : Setting} {done : List Deed} {most : ℕ} (new : Engine) → new.asked ≡ most → StandsAt x done (most + 1) new → StandsAt x done (new.asked + 1) (record new { asked = new.asked + 1 })
counted {x} {done} {most} new same s = record {
  sizes = s.sizes;
  fit = s.fit;
  sectors = s.sectors;
  windows = s.windows;
  page = s.page;
  now = s.now;
  devices = s.devices;
  counts = subst (λ n. All (λ k. IsWithin (n + 1) k.instance) new.devices.items) (sym same) s.counts;
}

module _ {E : Type 0} {heard : Answer → Type 0} {outcomes : Setting → List Deed → Bool → Outcome} {touches : Bool} {old new : Engine} {size : ℕ} {before after : Option (List ℕ)} where
  -- a step for which there was no memory
  pub stays : {error : E} (x : Setting) (h : History) → Serves {E = E} heard outcomes touches old new size before after (Bad error) → StandsFor x h old → StandsFor x h new
  stays x h d s = record {
    asked = d.asked ∙ s.asked;
    stands = subst (λ n. StandsAt x (deeds_of x h) n new) (sym d.asked) (d.more x (deeds_of x h) s.stands);
  }

  pub still_reached : {error : E} → Serves {E = E} heard outcomes touches old new size before after (Bad error) → IsReached old → IsReached new
  still_reached d r = record { setting = r.setting; done = r.done; stands = subst (λ n. StandsAt r.setting r.done n new) (sym d.asked) (d.more r.setting r.done r.stands) }

  pub still_sectors : {error : E} → Serves {E = E} heard outcomes touches old new size before after (Bad error) → IsReached old → new.sectors ≡ old.sectors
  still_sectors d r = (d.more r.setting r.done r.stands).sectors ∙ sym r.stands.sectors

  -- a step that was answered
  module _ {failed : Bool} (d : Serves {E = E} heard outcomes touches old new size before after (Ok failed)) where
    pub reached_more : IsReached old → IsReached (record new { asked = new.asked + 1 })
    reached_more r = let m = d.more r.setting r.done r.stands in record { setting = r.setting; done = m.more ++ r.done; stands = counted new d.asked m.stands }

    pub sectors_more : IsReached old → new.sectors ≡ old.sectors
    sectors_more r = (d.more r.setting r.done r.stands).stands.sectors ∙ sym r.stands.sectors

module _ {E : Type 0} {heard : Answer → Type 0} {touches : Bool} {old new : Engine} {size : ℕ} {before after : Option (List ℕ)} {failed : Bool} (x : Setting) (h : History) (step : Step)
    (d : Serves {E = E} heard (λ x done failed. outcome x done step failed) touches old new size before after (Ok failed)) (s : StandsFor x h old) where
  pub goes_on : (touches ≡ true → IsImage x (deeds_of x h) size before) → Goes x heard h step failed (record new { asked = new.asked + 1 })
  unfolding deeds_of
  goes_on image =
      let r = d.line x (deeds_of x h) s.stands (λ e. (holds_own x h, image e)) in
      let same = d.asked in
      let was = s.asked in
      record { says = r.says; stands = record { asked = omega (arith, same, was); stands = counted new d.asked r.stands } }

  pub image_on : (later : ℕ) → later ≡ size → IsImage x (deeds_of x h) size before → IsImage x (deeds_of x (record { step = step; failed = failed } ∷ h)) later after
  unfolding deeds_of
  image_on later same image = subst (λ n. IsImage x ((outcome x (deeds_of x h) step failed).deeds ++ deeds_of x h) n after) (sym same) (d.image x (deeds_of x h) s.stands (holds_own x h) image)
