-- Where a mapping lies, and what else the right answers of the domain's journal say.
use Rattle.std.proofs.Common.{◌≡◌, ◌≢◌, is_some, ℕ, zero, suc, ◌+◌, ◌*◌, ◌%◌, ◌≤◌, Bool, true, false, refl, arith, Option, None, Some, cond, List, ◌==◌, not, nat_le, if◌then◌else◌}
use Rattle.std.specs.Option.{option_map_or}
use Rattle.std.specs.List.{list_any}
use Rattle.std.proofs.lemmas.Bool.{and_parts, leb-true}
use Rattle.vd_num.specs.Number.{pages_of}
use Rattle.vd_num.specs.declared.errno.Errno.{Errno}
use Rattle.vd_num.specs.declared.errno.Errno.TheVariants as errno
use Rattle.vd_model.specs.declared.memory.Dir.{Dir}
use Rattle.vd_model.specs.Acts.{Act, Node, Registered, Deregistered}
use Rattle.vd_model.specs.Live.{registration_of}
use Rattle.vd_model.specs.Setting.{bounce_size}
use Rattle.vd_model.specs.Place.{Slots, greatest, is_place, place_of, meets, taken_slots}
use Rattle.sh_parts.specs.declared.entry.DomainStep.TheVariants as step
use Rattle.sh_parts.specs.declared.entry.DomainAnswer.TheVariants as says
use Rattle.sh_parts.specs.declared.entry.DomainAnswer.{DomainAnswer}
use Rattle.sh_parts.specs.Legal.{Numbers, domain_turn, mapping_at, region_at, domain_refusal, done_by, setting_of}

greatest_is : (p : ℕ → Bool) (n s : ℕ) → greatest p n ≡ Some s → p s ≡ true
unfolding greatest
greatest_is p zero s e = cc
greatest_is p (suc n) s e = by (p n) refl e (greatest_is p n s) where
  by : (b : Bool) → p n ≡ b → cond b (Some n) (greatest p n) ≡ Some s → (greatest p n ≡ Some s → p s ≡ true) → p s ≡ true
  by true here f later = cc
  by false here f later = later f

place_high : (held : List Slots) (n lo hi slot : ℕ) → place_of held n lo hi ≡ Some slot → slot + n ≤ hi
unfolding place_of
place_high held n lo hi slot e =
    let a = and_parts _ (not (list_any (meets slot n) held)) (greatest_is (is_place held n lo hi) hi slot e) in
    let b = and_parts _ (nat_le (slot + n) hi) a.0 in
    leb-true (slot + n) hi b.1

-- a mapping begins at a page and lies in the bounce memory
pub mapped_inside : (x : Numbers) (done : List Act) (len : ℕ) (dir : Dir) (number iova : ℕ) → says.Mapped number iova ≡ (domain_turn x done (step.Map len dir)).answer
    → (iova % 4096 ≡ 0) × (iova + 4096 * pages_of len ≤ 4096 * x.bounce)
mapped_inside x done len dir number iova e = by (len == 0) (place_of (taken_slots done) (pages_of len) 1 x.bounce) refl e where
  by : (b : Bool) (o : Option ℕ) → place_of (taken_slots done) (pages_of len) 1 x.bounce ≡ o
      → says.Mapped number iova ≡ (if b then domain_refusal errno.Inval else option_map_or (mapping_at done len dir) o (domain_refusal errno.Nospc)).answer
      → (iova % 4096 ≡ 0) × (iova + 4096 * pages_of len ≤ 4096 * x.bounce)
  by true o p f = cc
  by false None p f = cc
  by false (Some slot) p f =
      let high = place_high (taken_slots done) (pages_of len) 1 x.bounce slot p in
      let start : iova ≡ 4096 * slot = cc in
      (omega (arith, start), omega (arith, start, high))

-- a coherent region begins at a page and lies in the memory
pub region_inside : (x : Numbers) (done : List Act) (len number iova : ℕ) → says.Mapped number iova ≡ (domain_turn x done (step.Coherent len)).answer
    → (iova % 4096 ≡ 0) × (iova + 4096 * pages_of len ≤ 4096 * x.pages)
region_inside x done len number iova e = by (len == 0) (place_of (taken_slots done) (pages_of len) x.bounce x.pages) refl e where
  by : (b : Bool) (o : Option ℕ) → place_of (taken_slots done) (pages_of len) x.bounce x.pages ≡ o
      → says.Mapped number iova ≡ (if b then domain_refusal errno.Inval else option_map_or (region_at done len) o (domain_refusal errno.Nospc)).answer
      → (iova % 4096 ≡ 0) × (iova + 4096 * pages_of len ≤ 4096 * x.pages)
  by true o p f = cc
  by false None p f = cc
  by false (Some slot) p f =
      let high = place_high (taken_slots done) (pages_of len) x.bounce x.pages slot p in
      let start : iova ≡ 4096 * slot = cc in
      (omega (arith, start), omega (arith, start, high))

-- a registration answers Err or Done, and so does its end
pub register_done : (x : Numbers) (done : List Act) (a : DomainAnswer) → a ≡ (domain_turn x done step.Register).answer → ((e : Errno) → a ≢ says.Err e) → a ≡ says.Done
register_done x done a is not = by (is_some (registration_of done)) is where
  by : (b : Bool) → a ≡ (if b then domain_refusal errno.Exist else done_by (Node (Registered 0 (bounce_size (setting_of x))))).answer → a ≡ says.Done
  by true e = absurd (not errno.Exist e)
  by false e = e

pub deregister_done : (x : Numbers) (done : List Act) (a : DomainAnswer) → a ≡ (domain_turn x done step.Deregister).answer → ((e : Errno) → a ≢ says.Err e) → a ≡ says.Done
deregister_done x done a is not = by (is_some (registration_of done)) is where
  by : (b : Bool) → a ≡ (if b then done_by (Node Deregistered) else domain_refusal errno.Noent).answer → a ≡ says.Done
  by true e = e
  by false e = absurd (not errno.Noent e)
