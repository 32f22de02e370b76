-- The pending requests of a queue end one after another, the one of least head first.
use Rattle.std.proofs.Common.{◌≡◌, ℕ, suc, ◌+◌, ◌<◌, ◌≤◌, ◌^◌, arith, false, ◌==◌, refl, ap, sym, subst, ◌∙◌, List, [], ◌++◌, length, Some, None, inl, inr}
use Rattle.std.specs.Prelude.{find}
use Rattle.std.specs.Option.{option_map, option_map_or}
use Rattle.std.proofs.lemmas.Bool.Decides.{eqb_tells, leb_tells}
use Rattle.vd_pool.specs.Memory.{PoolMemory as Pool}
use Rattle.vd_model.specs.Setting.{Setting}
use Rattle.vd_model.specs.Acts.{Act}
use Rattle.vd_model.specs.Live.{buffers, live_mappings}
use Rattle.vd_model.specs.RingTurns.{unmap_acts, free_acts}
use Rattle.vd_memory_lines.specs.declared.memory.Memory.{Memory}
use Rattle.vd_memory_lines.specs.Stands.{Stands, IsHeld}
use Rattle.blk_driver.specs.Driver.{request_in, made_in, maps_in, has_head, without_first, without_pending, least_of}
use Rattle.blk_driver.specs.Driver as blk
use Rattle.blk_driver.specs.declared.driver.Made.{Made}
use Rattle.blk_driver.specs.declared.pending.Pending.{Pending}
use Rattle.vd_driver_port.specs.Rest.{KeepsMemory}
use Rattle.vd_driver_port.specs.RestLemmas.{memory_more}
use Rattle.vd_request_laws.specs.Owned.{IsOwned}
use Rattle.vd_request_lines.specs.Ended.{IsLeft}
use Rattle.vd_request_lines.specs.Ending.{pending_end_acts, AreLone, CanEnd}
use Rattle.vd_request_lines.proofs.Left.{IsOne, left_after}
use Rattle.vd_request_lines.proofs.Leasts.{none_some, above, IsLeast, least_is, least_made, fewer, without_other, none_without, lone_gone, lone_without}
use Rattle.vd_request_lines.proofs.Endings.{same_unmaps, ends_up, ends_found, ends_all, ends_others}
use Rattle.vd_request_lines.proofs.Owning.{found_request, other_maps}

-- those with a head below a number ended, and the others are left
pub record HaveEnded (x : Setting) (acts : List Act) (ps left : List Pending) (k : Memory) (m : Pool) : Type 0 where
  pub below : ℕ
  pub gone : (id : ℕ) → id < below → find (has_head id) left ≡ None
  pub same : (id : ℕ) → below ≤ id → find (has_head id) left ≡ find (has_head id) ps
  pub lone : AreLone left
  pub stands : Stands x (pending_end_acts (live_mappings acts) ps below ++ acts) k m

pub none_ended : (x : Setting) (acts : List Act) (ps : List Pending) (k : Memory) (m : Pool) → Stands x acts k m → CanEnd acts ps → HaveEnded x acts ps ps k m
none_ended x acts ps k m s can = record { below = 0; gone = λ id low. absurd (omega (arith, low)); same = λ id from. refl; lone = can.lone; stands = s }

-- where none is left, all ended, and no higher head is one's
pub all_ended : (x : Setting) (acts : List Act) (ps left : List Pending) (k : Memory) (m : Pool) → HaveEnded x acts ps left k m → left ≡ [] → (n : ℕ) → ((id : ℕ) → n ≤ id → find (has_head id) ps ≡ None)
    → Stands x (pending_end_acts (live_mappings acts) ps n ++ acts) k m
all_ended x acts ps left k m h none n past =
    subst (λ l. Stands x (l ++ acts) k m) (elim (leb_tells h.below n) [
      | inl low ↦ (let from = low.1 in sym (ends_up (live_mappings acts) ps h.below n from (λ id above to. sym (h.same id above) ∙ ap (find (has_head id)) none)))
      | inr high ↦ (let more = high.1 in ends_up (live_mappings acts) ps n h.below (omega (arith, more)) (λ id above to. past id above))
    ]) h.stands

module _ (x : Setting) (acts : List Act) (ps left : List Pending) (can : CanEnd acts ps) (k : Memory) (m : Pool) (h : HaveEnded x acts ps left k m) (p : Pending) (is : least_of left ≡ Some p) where
  abbrev ends : ℕ → List Act
  ends n = pending_end_acts (live_mappings acts) ps n

  least : IsLeast left p
  least = least_is left p is

  high : h.below ≤ p.head
  high = elim (leb_tells h.below p.head) [ inl low ↦ low.1 | inr less ↦ absurd (none_some (sym (h.gone p.head less.1) ∙ least.found)) ]

  found : find (has_head p.head) ps ≡ Some p
  found = sym (h.same p.head high) ∙ least.found

  own : IsOwned acts (request_in p)
  own = found_request (IsOwned acts) ps p.head p can.own.each found

  -- the buffers that were made for it have numbers
  pub few : buffers acts < 2 ^ 62 → p.buffer + p.buffers < 2 ^ 64
  few low = let made = own.made in omega (arith, low, made)

  -- those of lower heads ended
  stands : Stands x (ends p.head ++ acts) k m
  stands = subst (λ l. Stands x (l ++ acts) k m) (sym (ends_up (live_mappings acts) ps h.below p.head high (λ id from to. sym (h.same id from) ∙ least.less id to))) h.stands

  -- and left its mappings live
  unmaps : unmap_acts (live_mappings (ends p.head ++ acts)) (maps_in p) ≡ unmap_acts (live_mappings acts) (maps_in p)
  unmaps = same_unmaps (live_mappings (ends p.head ++ acts)) (live_mappings acts) (maps_in p)
      (λ n there. ends_others (live_mappings acts) ps acts n p.head (λ j below r e. other_maps ps can.own.apart p.head j (above p.head j below) p r found e n there))

  none_of_them : IsLeft (unmap_acts (live_mappings acts) (maps_in p) ++ (ends p.head ++ acts)) (made_in p)
  none_of_them =
      subst (λ l. IsLeft (l ++ (ends p.head ++ acts)) (made_in p)) unmaps
      (left_after (made_in p) (maps_in p) (ends p.head ++ acts) (ends_all (live_mappings acts) ps (IsOne (made_in p) (maps_in p)) acts own.mapped p.head))

  -- it is the next that ends
  pub one_ended : (between after : Memory) (n : Pool)
      → ((x : Setting) (acts : List Act) → Stands x acts k m → Stands x (unmap_acts (live_mappings acts) (maps_in p) ++ acts) between n)
      → ((x : Setting) (acts : List Act) (m : Pool) → Stands x acts between m → IsLeft acts (made_in p) → Stands x (free_acts p.buffer p.buffers ++ acts) after m)
      → HaveEnded x acts ps (without_first (has_head p.head) left) after n
  one_ended between after n unmapped freed = record {
    below = suc p.head;
    gone = λ id low. elim (eqb_tells id p.head) [
      | inl e ↦ subst (λ j. find (has_head j) (without_first (has_head p.head) left) ≡ None) (sym e.1) (lone_gone left p.head h.lone)
      | inr e ↦ none_without left p.head id (least.less id (let other = e.1 in lower id p.head low other))
    ];
    same = λ id from. without_other left p.head id (below_other p.head id from) ∙ h.same id (omega (arith, from, high));
    lone = lone_without left p.head h.lone;
    stands = subst (λ l. Stands x l after n) (sym (ends_found (live_mappings acts) ps p.head p acts found))
        (freed x (unmap_acts (live_mappings acts) (maps_in p) ++ (ends p.head ++ acts)) n
        (subst (λ l. Stands x (l ++ (ends p.head ++ acts)) between n) unmaps (unmapped x (ends p.head ++ acts) stands)) none_of_them);
  } where
    lower : (a b : ℕ) → a < suc b → (a ≡ b → ⊥) → a < b
    lower a b low other = elim (leb_tells b a) [ inl h ↦ absurd (other (let from = h.1 in omega (arith, low, from))) | inr h ↦ h.1 ]

    below_other : (a b : ℕ) → suc a ≤ b → (a == b) ≡ false
    below_other a b from = elim (eqb_tells a b) [ inl h ↦ absurd (let same = h.1 in omega (arith, from, same)) | inr h ↦ h.0 ]

-- ---- one turn of the loop, by what its calls ensure

module _ (old new : blk.Driver) (made : Made) (is : Some made ≡ option_map made_in (least_of old.pending)) (state : new ≡ without_pending (least_of old.pending) old) where
  gone_is : (p : Pending) → least_of old.pending ≡ Some p → new.pending ≡ without_first (has_head p.head) old.pending
  gone_is p e = ap (λ (d : blk.Driver). d.pending) (state ∙ ap (λ o. without_pending o old) e)

  pub next_fewer : length new.pending < length old.pending
  next_fewer =
      let least = least_made old.pending made is in
      subst (λ ps. length ps < length old.pending) (sym (gone_is least.0 least.1)) (fewer old.pending least.0.head least.0 (least_is old.pending least.0 least.1).found)

  module _ (x : Setting) (acts : List Act) (ps : List Pending) (can : CanEnd acts ps) (h : Memory) (m : Pool) (ended : HaveEnded x acts ps old.pending h m) where
    pub next_few : buffers acts < 2 ^ 62 → made.buffer + made.count < 2 ^ 64
    next_few low =
        let least = least_made old.pending made is in
        subst (λ (d : Made). d.buffer + d.count < 2 ^ 64) (sym least.2) (few x acts ps old.pending can h m ended least.0 least.1 low)

    pub next_ended : (k l : Memory) (n : Pool)
        → ((x : Setting) (acts : List Act) → Stands x acts h m → Stands x (unmap_acts (live_mappings acts) (option_map_or maps_in (least_of old.pending) []) ++ acts) k n)
        → ((x : Setting) (acts : List Act) (m : Pool) → Stands x acts k m → IsLeft acts made → Stands x (free_acts made.buffer made.count ++ acts) l m)
        → HaveEnded x acts ps new.pending l n
    next_ended k l n unmapped freed =
        let least = least_made old.pending made is in
        subst (λ left. HaveEnded x acts ps left l n) (sym (gone_is least.0 least.1))
        (one_ended x acts ps old.pending can h m ended least.0 least.1 k l n
        (λ x acts s. subst (λ o. Stands x (unmap_acts (live_mappings acts) (option_map_or maps_in o []) ++ acts) k n) least.1 (unmapped x acts s))
        (λ x acts m s none. subst (λ (d : Made). Stands x (free_acts d.buffer d.count ++ acts) l m) least.2 (freed x acts m s (subst (λ (d : Made). IsLeft acts d) (sym least.2) none))))

-- the last turn finds none
pub last_ended : (x : Setting) (acts : List Act) (ps : List Pending) (old : blk.Driver) (h k : Memory) (m n : Pool) → HaveEnded x acts ps old.pending h m → old.pending ≡ []
    → ((x : Setting) (acts : List Act) → Stands x acts h m → Stands x (unmap_acts (live_mappings acts) (option_map_or maps_in (least_of old.pending) []) ++ acts) k n)
    → (top : ℕ) → ((id : ℕ) → top ≤ id → find (has_head id) ps ≡ None) → Stands x (pending_end_acts (live_mappings acts) ps top ++ acts) k n
last_ended x acts ps old h k m n ended none unmapped top past =
    let done : List Act = pending_end_acts (live_mappings acts) ps top ++ acts in
    subst (λ ps. Stands x (unmap_acts (live_mappings done) (option_map_or maps_in (least_of ps) []) ++ done) k n) none
    (unmapped x done (all_ended x acts ps old.pending h m ended none top past))

-- what a turn leaves alone
pub out_after : {h k l : Memory} {m n : Pool} → IsHeld h m → KeepsMemory h k m n → l ≡ record k { buffers = l.buffers } → IsHeld l n
out_after {h} {k} {l} {m} {n} out keeps rest =
    subst (λ (t : Memory). IsHeld t n) (sym rest) (record { holds = keeps.kept.holds; size = keeps.kept.size ∙ out.size ∙ sym keeps.page })

pub keeps_after : {g h k l : Memory} {m n o : Pool} → KeepsMemory g h m n → KeepsMemory h k n o → l ≡ record k { buffers = l.buffers } → KeepsMemory g l m o
keeps_after {g} {h} {k} {l} {m} {n} {o} first next rest =
    let both = memory_more first next in
    subst (λ (t : Memory). KeepsMemory g t m o) (sym rest) (record { kept = both.kept; page = both.page; made = both.made })

pub maps_after : (g h k l : Memory) → h.domain.maps ≤ g.domain.maps → k.domain.maps ≤ h.domain.maps → l ≡ record k { buffers = l.buffers } → l.domain.maps ≤ g.domain.maps
maps_after g h k l first next rest = let same : l.domain.maps ≡ k.domain.maps = ap (λ (t : Memory). t.domain.maps) rest in omega (arith, first, next, same)
