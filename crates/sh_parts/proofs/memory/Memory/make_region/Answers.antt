use Rattle.std.proofs.Common.{◌≡◌, ℕ, Bool, false, List, [], ◌∷◌, ◌++◌, Option, Some, None, ◌<◌, ◌≤◌, ◌+◌, ◌*◌, ◌==◌, if◌then◌else◌, map, arith, refl, sym, ap, ◌∙◌, subst}
use Rattle.std.specs.Option.{option_map_or}
use Rattle.vd_num.specs.Number.{pages_of}
use Rattle.vd_num.specs.declared.errno.Errno.TheVariants.{Inval, Nospc}
use Rattle.vd_iova.specs.Space.{Space}
use Rattle.vd_regions.specs.Ordered.{with_region}
use Rattle.vd_model.specs.Acts.{Act}
use Rattle.vd_model.specs.Live.{maps, regions, live_regions}
use Rattle.vd_model.specs.Place.{place_of, taken_slots}
use Rattle.sh_parts.specs.declared.entry.DomainAnswer.TheVariants.{Mapped, Err}
use Rattle.vd_model.specs.declared.memory.Region.{Region}
use Rattle.sh_parts.specs.declared.memory.Live.{Live}
use Rattle.sh_parts.specs.declared.memory.Memory.{Memory}
use Rattle.sh_parts.specs.Legal.{DomainTurn, region_at, next_number, domain_refusal}
use Rattle.sh_parts.specs.Memory.{range_of, IsKept, HaveSame, Stands, kept_region}
use Rattle.sh_parts.proofs.Kept.{differs}
use Rattle.sh_parts.proofs.Turns.{kept_later, kept_push, coherent_place, adding, by_turn, kept_back, same_push, told_ok, told_err}
use Rattle.sh_parts.proofs.memory.Memory.make_region.Goals as goal

-- the turn, by whether the length is 0 and by the place
abbrev turn : List Act → ℕ → Bool × Option ℕ → DomainTurn
turn done len y = if y.0 then domain_refusal Inval else option_map_or (region_at done len) y.1 (domain_refusal Nospc)

-- an address space that ends at the same page
moved : {n lo hi top : ℕ} {ks ls : List Live} {s : Space} → ls ≡ ks → top ≡ hi → IsKept n lo hi ks s → IsKept n lo top ls s
moved {n} {lo} {hi} {top} {ks} {ls} {s} e f = subst (λ (y : ℕ × List Live). IsKept n lo y.0 y.1 s) (λ i. (sym f i, sym e i))

pub returns-in_err-reserve-clause-sound : goal.returns-in_err-reserve-clause-sound
returns-in_err-reserve-clause-sound c =
    let s = c.requires.sound in
    record {
      some = s.some;
      more = s.more;
      few = s.few;
      mappings = s.mappings;
      areas = moved c.reserve.ensures.items refl s.areas;
      regions = subst (λ ks. HaveSame c.args.self.now.regions (map range_of ks)) (sym c.reserve.ensures.items) s.regions;
    }

pub returns-in_default-clause-sound : goal.returns-in_default-clause-sound
returns-in_default-clause-sound c =
    let s = c.requires.sound in
    let end = ap (λ (t : Space). t.«end») c.in_default.ensures.err in
    record {
      some = s.some;
      more = subst (λ n. c.args.self.now.bounce_pages < n) (sym end) s.more;
      few = subst (λ n. n ≤ 4096) (sym end) s.few;
      mappings = s.mappings;
      areas = moved c.reserve.ensures.items end (subst (λ t. IsKept c.args.self.now.next c.args.self.now.bounce_pages c.args.self.now.coherent.«end» c.args.self.now.areas.items t) (sym c.in_default.ensures.err) s.areas);
      regions = subst (λ ks. HaveSame c.args.self.now.regions (map range_of ks)) (sym c.reserve.ensures.items) s.regions;
    }

pub returns-in_default-clause-makes : goal.returns-in_default-clause-makes
returns-in_default-clause-makes c = λ x done s.
    let m : Memory = record {
      bounce_pages = c.args.self.now.bounce_pages;
      bounce = c.args.self.now.bounce;
      coherent = c.take.new.self;
      regions = c.args.self.now.regions;
      mappings = c.args.self.now.mappings;
      areas = c.reserve.new.self;
      next = c.args.self.now.next;
      mapped = c.args.self.now.mapped;
      registered = c.args.self.now.registered;
    } in
    let place : None ≡ place_of (taken_slots done) (pages_of c.args.len) x.bounce x.pages =
    c.in_default.ensures.place ∙ coherent_place x done c.args.self.now c.requires.sound s c.pages-count.result ∙ ap (λ n. place_of (taken_slots done) n x.bounce x.pages) c.pages-count.ensures.value in
    let zero : (c.args.len == 0) ≡ false = differs c.args.len 0 c.if-len-eq0.false in
    let same : Stands x done m = record {
      bounce = s.bounce;
      pages = ap (λ (t : Space). t.«end») c.in_default.ensures.err ∙ s.pages;
      next = s.next;
      mapped = s.mapped;
      registered = s.registered;
      mappings = s.mappings;
      areas = c.reserve.ensures.items ∙ s.areas;
    } in
    by_turn x done (turn done c.args.len (c.args.len == 0, place_of (taken_slots done) (pages_of c.args.len) x.bounce x.pages)) (domain_refusal Nospc) (Err Nospc) m
    (ap (turn done c.args.len) (λ i. (zero i, sym place i))) refl same

pub returns-then-is_err-clause-sound : goal.returns-then-is_err-clause-sound
returns-then-is_err-clause-sound c =
    let s = c.requires.sound in
    let took = c.in-Ok.ensures.ok in
    let gave = c.give.ensures.new in
    let first : Space → ℕ = λ t. t.first in
    let end : Space → ℕ = λ t. t.«end» in
    let top : c.give.new.self.«end» ≡ c.args.self.now.coherent.«end» = ap end gave ∙ ap end took in
    let kept : c.add.new.self ≡ c.args.self.now.regions = told_err c.add.result _ (sym c.is_err.ensures.value ∙ c.if-is_err.true) c.add.ensures.err in
    record {
      some = s.some;
      more = subst (λ n. c.args.self.now.bounce_pages < n) (sym top) s.more;
      few = subst (λ n. n ≤ 4096) (sym top) s.few;
      mappings = s.mappings;
      areas = moved c.reserve.ensures.items top (kept_back _ _ _ _ c.args.self.now.coherent c.take.new.self c.give.new.self c.in-Ok.page c.pages-count.result s.areas c.in-Ok.ensures.fresh
          (ap first took) (ap end took) (ap first gave) (ap end gave) c.in-Ok.ensures.taken c.give.ensures.taken);
      regions = subst (λ (y : List Region × List Live). HaveSame y.0 (map range_of y.1)) (λ i. (sym kept i, sym c.reserve.ensures.items i)) s.regions;
    }

pub returns-clause-sound : goal.returns-clause-sound
returns-clause-sound c =
    let s = c.requires.sound in
    let enough = c.pages-count.ensures.enough in
    let zero = c.if-len-eq0.false in
    let some : 0 < c.pages-count.result = omega arith in
    let first = s.areas.first in
    let within = c.in-Ok.ensures.within in
    let low : c.args.self.now.bounce_pages ≤ c.in-Ok.page = omega (arith, first, within.0) in
    let k : Live = record { number = c.args.self.now.next; page = c.in-Ok.page; count = c.pages-count.result } in
    let more : c.push_reserved.new.self.items ≡ c.args.self.now.areas.items ++ k ∷ [] = c.push_reserved.ensures.items ∙ ap (λ l. l ++ k ∷ []) c.reserve.ensures.items in
    let end : c.take.new.self.«end» ≡ c.args.self.now.coherent.«end» = ap (λ (t : Space). t.«end») c.in-Ok.ensures.ok in
    let with : c.add.new.self ≡ with_region c.region_of.result c.args.self.now.regions = told_ok c.add.result _ (sym c.is_err.ensures.value ∙ c.if-is_err.false) c.add.ensures.ok in
    record {
      some = s.some;
      more = subst (λ n. c.args.self.now.bounce_pages < n) (sym end) s.more;
      few = subst (λ n. n ≤ 4096) (sym end) s.few;
      mappings = kept_later _ _ _ _ _ _ (omega arith) s.mappings;
      areas = moved refl end (kept_push c.args.self.now.next c.args.self.now.bounce_pages c.args.self.now.coherent.«end» c.args.self.now.areas.items c.push_reserved.new.self.items c.args.self.now.coherent c.take.new.self k
          more s.areas refl some low within.1 c.in-Ok.ensures.fresh
          (ap (λ (t : Space). t.first) c.in-Ok.ensures.ok) end c.in-Ok.ensures.taken);
      regions = same_push c.args.self.now.regions c.add.new.self c.args.self.now.areas.items c.push_reserved.new.self.items k s.regions (with ∙ ap (λ r. with_region r c.args.self.now.regions) c.region_of.ensures) more;
    }

pub returns-clause-makes : goal.returns-clause-makes
returns-clause-makes c = λ x done s.
    let k : Live = record { number = c.args.self.now.next; page = c.in-Ok.page; count = c.pages-count.result } in
    let m : Memory = record {
      bounce_pages = c.args.self.now.bounce_pages;
      bounce = c.args.self.now.bounce;
      coherent = c.take.new.self;
      regions = c.add.new.self;
      mappings = c.args.self.now.mappings;
      areas = c.push_reserved.new.self;
      next = c.args.self.now.next + 1;
      mapped = c.args.self.now.mapped;
      registered = c.args.self.now.registered;
    } in
    let place : Some c.in-Ok.page ≡ place_of (taken_slots done) (pages_of c.args.len) x.bounce x.pages =
    c.in-Ok.ensures.place ∙ coherent_place x done c.args.self.now c.requires.sound s c.pages-count.result ∙ ap (λ n. place_of (taken_slots done) n x.bounce x.pages) c.pages-count.ensures.value in
    let zero : (c.args.len == 0) ≡ false = differs c.args.len 0 c.if-len-eq0.false in
    let next = s.next in
    let later : c.args.self.now.next + 1 ≡ maps done + (regions done + 1) = omega arith in
    let made : Stands x ((region_at done c.args.len c.in-Ok.page).acts ++ done) m = record {
      bounce = s.bounce;
      pages = ap (λ (t : Space). t.«end») c.in-Ok.ensures.ok ∙ s.pages;
      next = later;
      mapped = s.mapped;
      registered = s.registered;
      mappings = s.mappings;
      areas = c.push_reserved.ensures.items ∙ ap (λ l. l ++ k ∷ []) c.reserve.ensures.items
          ∙ adding kept_region 0 (live_regions done) c.args.self.now.areas.items k
          (record { number = next_number done; slot = c.in-Ok.page; len = c.args.len })
          s.areas (λ i. record { number = s.next i; page = c.in-Ok.page; count = c.pages-count.ensures.value i });
    } in
    by_turn x done (turn done c.args.len (c.args.len == 0, place_of (taken_slots done) (pages_of c.args.len) x.bounce x.pages)) (region_at done c.args.len c.in-Ok.page) (Mapped c.args.self.now.next (4096 * c.in-Ok.page)) m
    (ap (turn done c.args.len) (λ i. (zero i, sym place i))) (ap (λ n. Mapped n (4096 * c.in-Ok.page)) s.next) made
