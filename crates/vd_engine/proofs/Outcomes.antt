-- What an engine stands for after a line.
use Rattle.std.proofs.Common.{◌≡◌, ℕ, ◌+◌, ◌≤◌, refl, ap, subst, ◌∙◌, sym, arith, Option, None, List, [], ◌∷◌, ◌++◌, Some, map, find, Result, Ok, Err, inl, inr}
use Rattle.std.specs.Prelude.{All, Bool, IfOk, MatchResult}
use Rattle.std.specs.Option.{option_map_or}
use Rattle.std.specs.List.{slice_get, slice_set, remove}
use Rattle.vd_num.specs.declared.errno.Errno.TheVariants.{Nodev}
use Rattle.vd_pool.specs.Memory.{PoolMemory as Pool}
use Rattle.vd_bounce.specs.Frames.{Keeps}
use Rattle.vd_model.specs.declared.answer.Answer.{Answer}
use Rattle.vd_model.specs.Setting.{Setting}
use Rattle.vd_model.specs.Creation.{Creation}
use Rattle.vd_model.specs.Acts.{Act}
use Rattle.vd_model.specs.Turn.{Turn, refusal_turn}
use Rattle.vd_model.specs.declared.memory.Window.{Window}
use Rattle.vd_model.specs.Deeds.{Deed, Made, Destroyed, On, Passed, acts_of_device, made_with}
use Rattle.vd_model.specs.Deeds.{Given as Has}
use Rattle.vd_model.specs.History.{device_outcome}
use Rattle.vd_answers.specs.Tells.{MayTell}
use Rattle.vd_device.specs.declared.sizes.Sizes.{Sizes}
use Rattle.vd_device.specs.Sizes.{AreFit, IsSized}
use Rattle.vd_instance.specs.Stands.{Stands, After, IsHeld, IsNamed, IsWithin, KeepsOthers, frames}
use Rattle.vd_instance.specs.Stands as instance
use Rattle.vd_instance.specs.Image.{Plays}
use Rattle.vd_engine.specs.declared.devices.Named.{Named}
use Rattle.vd_engine.specs.declared.engine.Engine.{Engine}
use Rattle.vd_engine.specs.declared.windows.Given.{Given}
use Rattle.vd_engine.specs.Windows.{HasWindows, has_window}
use Rattle.vd_engine.specs.Machine.{is_named, FirstIs, NoneIs, IsThat, AllStand, StandsAt}
use Rattle.vd_engine.specs.Ticked.{AreTicked}
use Rattle.vd_engine.specs.Does.{Results, StandsForMore}
use Rattle.vd_engine.proofs.Names.{set_at, pushed_at, place_before, removed_at, all_at, all_from}
use Rattle.vd_engine.proofs.Counts.{within_later, within_same}
use Rattle.vd_engine.proofs.Held.{no_frames}
use Rattle.vd_engine.proofs.Sectors.{windows_moved, windows_on, windows_more}
use Rattle.vd_engine.proofs.Deeds.{found_stands, clock_on, device_moves}
use Rattle.vd_engine.proofs.Engines.{results_as, counts_later}
use Rattle.vd_engine.proofs.AfterLine.{all_stepped}
use Rattle.vd_engine.proofs.AfterMaking.{all_made}
use Rattle.vd_engine.proofs.AfterEnd.{all_gone}
use Rattle.vd_engine.proofs.AfterTick.{all_ticked, entry_before}

-- ---- counts

module _ (e : Engine) (most : ℕ) (counts : All (λ d. IsWithin most d.instance) e.devices.items) where
  pub counts_at : (j : ℕ) (d : Named) → slice_get e.devices.items j ≡ Some d → IsWithin most d.instance
  counts_at j d at = all_at (λ (k : Named). IsWithin most k.instance) e.devices.items j d counts at

  counts_above : (more : ℕ) → most ≤ more → (j : ℕ) (d : Named) → slice_get e.devices.items j ≡ Some d → IsWithin more d.instance
  counts_above more le j d at = within_later most more d.instance le (counts_at j d at)

  pub counts_set : (more i : ℕ) (new : Named) → most ≤ more → IsWithin more new.instance → All (λ d. IsWithin more d.instance) (slice_set e.devices.items i new)
  counts_set more i new le within = all_from (λ (d : Named). IsWithin more d.instance) (slice_set e.devices.items i new) (λ j d at. elim (set_at e.devices.items i new j d at) [
    | inl here ↦ subst (λ (k : Named). IsWithin more k.instance) (sym here.1) within
    | inr other ↦ counts_above more le j d other.1
  ])

  pub counts_pushed : (more : ℕ) (new : Named) → most ≤ more → IsWithin more new.instance → All (λ d. IsWithin more d.instance) (e.devices.items ++ new ∷ [])
  counts_pushed more new le within = all_from (λ (d : Named). IsWithin more d.instance) (e.devices.items ++ new ∷ []) (λ j d at. elim (pushed_at e.devices.items new j d at) [
    | inl here ↦ subst (λ (k : Named). IsWithin more k.instance) (sym here.1) within
    | inr other ↦ counts_above more le j d other.1
  ])

  pub counts_removed : (more i : ℕ) → most ≤ more → All (λ d. IsWithin more d.instance) (remove e.devices.items i)
  counts_removed more i le = all_from (λ (d : Named). IsWithin more d.instance) (remove e.devices.items i) (λ j d at. counts_above more le (place_before i j) d (sym (removed_at e.devices.items i j) ∙ at))

-- ---- the sectors of names

windows_as : (e f : Engine) (later : List Deed) → f.sectors ≡ e.sectors → f.windows.items ≡ e.windows.items → HasWindows later e.sectors e.windows.items → HasWindows later f.sectors f.windows.items
windows_as e f later sectors windows h =
    subst (λ n. HasWindows later n f.windows.items) (sym sectors) (subst (λ (l : List Given). HasWindows later e.sectors l) (sym windows) h)

-- one name more has some
pub window_done : (x : Setting) (done : List Deed) (e f : Engine) (s : StandsAt x done e.asked e) (name : List ℕ) (w : Window) (new : Given) → new.name ≡ name → new.window ≡ w → find (has_window name) e.windows.items ≡ None → w.first + w.count ≤ e.sectors
    → f.sizes ≡ e.sizes → f.sectors ≡ e.sectors → f.windows.items ≡ e.windows.items ++ new ∷ [] → f.pool ≡ e.pool → f.devices.items ≡ e.devices.items → f.now ≡ e.now → StandsAt x (Has name w ∷ done) (e.asked + 1) f
window_done x done e f s name w new same with none inside sizes sectors windows pool devices now = record {
  sizes = subst (λ k. IsSized x k) (sym sizes) s.sizes;
  fit = subst AreFit (sym sizes) s.fit;
  sectors = sectors ∙ s.sectors;
  windows = subst (λ n. HasWindows (Has name w ∷ done) n f.windows.items) (sym sectors)
      (subst (λ (l : List Given). HasWindows (Has name w ∷ done) e.sectors l) (sym windows) (windows_more done e.sectors e.windows.items s.windows name w new same with none inside));
  page = ap (λ (k : Pool). k.per_page) pool ∙ s.page ∙ ap (λ (k : Sizes). k.per_page) (sym sizes);
  now = now ∙ s.now;
  devices = subst (λ (k : Pool). AllStand x (Has name w ∷ done) f.devices.items k) (sym pool)
      (subst (λ (l : List Named). AllStand x (Has name w ∷ done) l e.pool) (sym devices) (all_given s.devices));
  counts = subst (All (λ k. IsWithin (e.asked + 1) k.instance)) (sym devices) (counts_later e.asked (e.asked + 1) e.devices.items (omega arith) s.counts);
} where
  all_given : AllStand x done e.devices.items e.pool → AllStand x (Has name w ∷ done) e.devices.items e.pool
  all_given a = record {
    each = λ other. device_moves x other done (Has name w ∷ done) (find (is_named other) e.devices.items) e.pool e.pool refl refl (λ c f made acts stands. stands) (a.each other);
    count = a.count;
    once = a.once;
    frames = a.frames;
  }

-- ---- a line on a device

module _ (x : Setting) (done : List Deed) (e f : Engine) (s : StandsAt x done e.asked e) (name : List ℕ) (i : ℕ) (d new : Named) (first : FirstIs name e.devices.items i) (there : slice_get e.devices.items i ≡ Some d)
    (same : new.name ≡ d.name) (sizes : f.sizes ≡ e.sizes) (sectors : f.sectors ≡ e.sectors) (windows : f.windows.items ≡ e.windows.items) (now : f.now ≡ e.now) (items : f.devices.items ≡ slice_set e.devices.items i new)
    (keeps : KeepsOthers d.instance new.instance e.pool f.pool) (names : (n : List ℕ) → IsNamed n d.instance → IsNamed n new.instance) where
  pub that : IsThat x name done d e.pool
  that = found_stands x done e.devices.items e.pool s.devices name i d first there

  pub after_line : (acts : List Act) (most : ℕ) → e.asked ≤ most → IsWithin most new.instance → Stands x that.made (acts ++ acts_of_device name done) new.instance f.pool → StandsAt x (map (On name) acts ++ done) most f
  after_line acts most le within stands = record {
    sizes = subst (λ k. IsSized x k) (sym sizes) s.sizes;
    fit = subst AreFit (sym sizes) s.fit;
    sectors = sectors ∙ s.sectors;
    windows = windows_as e f (map (On name) acts ++ done) sectors windows (windows_on done e.sectors e.windows.items s.windows name acts);
    page = keeps.kept.size ∙ s.page ∙ ap (λ (k : Sizes). k.per_page) (sym sizes);
    now = now ∙ s.now ∙ sym (clock_on name acts done);
    devices = subst (λ k. AllStand x (map (On name) acts ++ done) k f.pool) (sym items)
        (all_stepped x done e.devices.items e.pool s.devices name i d new f.pool first there same keeps that.made acts that.with_that stands (names name that.named));
    counts = subst (All (λ k. IsWithin most k.instance)) (sym items) (counts_set e e.asked s.counts most i new le within);
  }

  pub line_done : {E : Type 0} {heard : Answer → Type 0} (turn : Creation → Turn Act) (r : Result (Unit {0}) E) → ((most : ℕ) → IsWithin most d.instance → IsWithin (most + 1) new.instance)
      → ((made : Creation) → Stands x made (acts_of_device name done) d.instance e.pool → MayTell heard (turn made) (After x made (acts_of_device name done) new.instance f.pool) r)
      → MatchResult r (λ _. Results x heard (device_outcome name (option_map_or turn (made_with name done) (refusal_turn Nodev))) done e.asked f) (λ _. StandsAt x done e.asked f)
  line_done {E} {heard} turn r within told = by r (told that.made that.stands) where
    by : (r : Result (Unit {0}) E) → MayTell heard (turn that.made) (After x that.made (acts_of_device name done) new.instance f.pool) r
        → MatchResult r (λ _. Results x heard (device_outcome name (option_map_or turn (made_with name done) (refusal_turn Nodev))) done e.asked f) (λ _. StandsAt x done e.asked f)
    by (Ok u) h = results_as (ap (λ o. device_outcome name (option_map_or turn o (refusal_turn Nodev))) that.with_that) (record {
      says = h.says;
      stands = after_line (turn that.made).acts (e.asked + 1) (omega arith) (within e.asked (counts_at e e.asked s.counts i d there)) h.stands;
    })
    by (Err error) h = after_line [] e.asked (omega arith) (within_same d.instance new.instance e.asked that.stands h.stands (counts_at e e.asked s.counts i d there)) h.stands

  -- the same of a line on a queue
  pub queue_done : {E : Type 0} (heard : Answer → Type 0) (turn : Creation → Bool → Turn Act) (r : Result Bool E) → ((most : ℕ) → IsWithin most d.instance → IsWithin (most + 1) new.instance)
      → ((made : Creation) → Stands x made (acts_of_device name done) d.instance e.pool → Plays heard (turn made) (After x made (acts_of_device name done) new.instance f.pool) r)
      → IfOk r (λ failed. Results x heard (device_outcome name (option_map_or (λ made. turn made failed) (made_with name done) (refusal_turn Nodev))) done e.asked f)
  queue_done {E} heard turn r within told = by r (told that.made that.stands) where
    by : (r : Result Bool E) → Plays heard (turn that.made) (After x that.made (acts_of_device name done) new.instance f.pool) r
        → IfOk r (λ failed. Results x heard (device_outcome name (option_map_or (λ made. turn made failed) (made_with name done) (refusal_turn Nodev))) done e.asked f)
    by (Ok failed) h = results_as (ap (λ o. device_outcome name (option_map_or (λ made. turn made failed) o (refusal_turn Nodev))) that.with_that) (record {
      says = h.0;
      stands = after_line (turn that.made failed).acts (e.asked + 1) (omega arith) (within e.asked (counts_at e e.asked s.counts i d there)) h.1;
    })
    by (Err error) h = tt

  pub queue_more : {E : Type 0} (r : Result Bool E) → ((most : ℕ) → IsWithin most d.instance → IsWithin (most + 1) new.instance)
      → ((made : Creation) → Stands x made (acts_of_device name done) d.instance e.pool
      → MatchResult r (λ _. instance.StandsForMore x made (acts_of_device name done) new.instance f.pool) (λ _. Stands x made (acts_of_device name done) new.instance f.pool))
      → MatchResult r (λ _. StandsForMore x done e.asked f) (λ _. StandsAt x done e.asked f)
  queue_more {E} r within told = by r (told that.made that.stands) where
    by : (r : Result Bool E) → MatchResult r (λ _. instance.StandsForMore x that.made (acts_of_device name done) new.instance f.pool) (λ _. Stands x that.made (acts_of_device name done) new.instance f.pool)
        → MatchResult r (λ _. StandsForMore x done e.asked f) (λ _. StandsAt x done e.asked f)
    by (Ok failed) h = record {
      more = map (On name) h.more;
      stands = after_line h.more (e.asked + 1) (omega arith) (within e.asked (counts_at e e.asked s.counts i d there)) h.stands;
    }
    by (Err error) h = after_line [] e.asked (omega arith) (within_same d.instance new.instance e.asked that.stands h (counts_at e e.asked s.counts i d there)) h

-- ---- a device more

pub making_done : (x : Setting) (done : List Deed) (e f : Engine) (s : StandsAt x done e.asked e) (name : List ℕ) (new : Named) (made : Creation) (acts : List Act) → NoneIs name e.devices.items → new.name ≡ name
    → f.sizes ≡ e.sizes → f.sectors ≡ e.sectors → f.windows.items ≡ e.windows.items → f.now ≡ e.now → f.pool ≡ e.pool → f.devices.items ≡ e.devices.items ++ new ∷ []
    → ((x : Setting) (m : Pool) → IsSized x e.sizes → Stands x made acts new.instance m) → ((m : Pool) → m.per_page ≡ e.sizes.per_page → IsHeld new.instance m) → IsWithin (e.asked + 1) new.instance → IsNamed name new.instance
    → StandsAt x (map (On name) acts ++ Made name made ∷ done) (e.asked + 1) f
making_done x done e f s name new made acts none same sizes sectors windows now pool items stands held within named = record {
  sizes = subst (λ k. IsSized x k) (sym sizes) s.sizes;
  fit = subst AreFit (sym sizes) s.fit;
  sectors = sectors ∙ s.sectors;
  windows = windows_as e f (map (On name) acts ++ Made name made ∷ done) sectors windows
      (windows_on (Made name made ∷ done) e.sectors e.windows.items (windows_moved done e.sectors e.windows.items s.windows (Made name made ∷ done) (λ n. refl) (λ first count. refl)) name acts);
  page = ap (λ (k : Pool). k.per_page) pool ∙ s.page ∙ ap (λ (k : Sizes). k.per_page) (sym sizes);
  now = now ∙ s.now ∙ sym (clock_on name acts (Made name made ∷ done));
  devices = subst (λ (k : Pool). AllStand x (map (On name) acts ++ Made name made ∷ done) f.devices.items k) (sym pool)
      (subst (λ k. AllStand x (map (On name) acts ++ Made name made ∷ done) k e.pool) (sym items)
      (all_made x done e.devices.items e.pool s.devices name none new same (held e.pool s.page) (no_frames new.instance e.sizes.per_page held) made acts (stands x e.pool s.sizes) named));
  counts = subst (All (λ k. IsWithin (e.asked + 1) k.instance)) (sym items) (counts_pushed e e.asked s.counts (e.asked + 1) new (omega arith) within);
}

-- ---- a device less

pub end_done : (x : Setting) (done : List Deed) (e f : Engine) (s : StandsAt x done e.asked e) (name : List ℕ) (i : ℕ) (d : Named) (rows : List (Option ℕ)) → FirstIs name e.devices.items i → slice_get e.devices.items i ≡ Some d
    → f.sizes ≡ e.sizes → f.sectors ≡ e.sectors → f.windows.items ≡ e.windows.items → f.now ≡ e.now → f.devices.items ≡ remove e.devices.items i → Keeps (frames d.instance) rows e.pool f.pool → StandsAt x (Destroyed name ∷ done) (e.asked + 1) f
end_done x done e f s name i d rows first there sizes sectors windows now items keeps = record {
  sizes = subst (λ k. IsSized x k) (sym sizes) s.sizes;
  fit = subst AreFit (sym sizes) s.fit;
  sectors = sectors ∙ s.sectors;
  windows = windows_as e f (Destroyed name ∷ done) sectors windows (windows_moved done e.sectors e.windows.items s.windows (Destroyed name ∷ done) (λ n. refl) (λ first count. refl));
  page = keeps.size ∙ s.page ∙ ap (λ (k : Sizes). k.per_page) (sym sizes);
  now = now ∙ s.now;
  devices = subst (λ k. AllStand x (Destroyed name ∷ done) k f.pool) (sym items) (all_gone x done e.devices.items e.pool s.devices name i d first there rows f.pool keeps);
  counts = subst (All (λ k. IsWithin (e.asked + 1) k.instance)) (sym items) (counts_removed e e.asked s.counts (e.asked + 1) i (omega arith));
}

-- ---- a tick

pub tick_done : (x : Setting) (done : List Deed) (e f : Engine) (s : StandsAt x done e.asked e) → f.sizes ≡ e.sizes → f.sectors ≡ e.sectors → f.windows.items ≡ e.windows.items → f.pool ≡ e.pool → AreTicked f.now e.devices.items f.devices.items → StandsAt x (Passed f.now ∷ done) (e.asked + 1) f
tick_done x done e f s sizes sectors windows pool ticked = record {
  sizes = subst (λ k. IsSized x k) (sym sizes) s.sizes;
  fit = subst AreFit (sym sizes) s.fit;
  sectors = sectors ∙ s.sectors;
  windows = windows_as e f (Passed f.now ∷ done) sectors windows (windows_moved done e.sectors e.windows.items s.windows (Passed f.now ∷ done) (λ n. refl) (λ first count. refl));
  page = ap (λ (k : Pool). k.per_page) pool ∙ s.page ∙ ap (λ (k : Sizes). k.per_page) (sym sizes);
  now = refl;
  devices = subst (λ (k : Pool). AllStand x (Passed f.now ∷ done) f.devices.items k) (sym pool) (all_ticked x done e.devices.items f.devices.items e.pool f.now s.devices ticked);
  counts = all_from (λ (k : Named). IsWithin (e.asked + 1) k.instance) f.devices.items (λ j d at.
      let c = entry_before e.devices.items f.devices.items ticked.count j d at in
      (ticked.each j c.0 d c.1 at).within (e.asked + 1) (within_later e.asked (e.asked + 1) c.0.instance (omega arith) (counts_at e e.asked s.counts j c.0 c.1)));
}
