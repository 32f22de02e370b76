use Rattle.std.proofs.Common.{◌≡◌, ℕ, Bool, true, false, List, [], ◌∷◌, ◌++◌, Option, Some, None, ◌<◌, ◌≤◌, ◌+◌, ◌*◌, ◌==◌, if◌then◌else◌, arith, refl, sym, ap, ◌∙◌}
use Rattle.std.specs.Option.{option_map_or}
use Rattle.vd_num.specs.Number.{pages_of}
use Rattle.vd_num.specs.declared.errno.Errno.TheVariants.{Inval, Nospc}
use Rattle.vd_iova.specs.Space.{Space}
use Rattle.vd_model.specs.declared.memory.Dir.{Dir}
use Rattle.vd_model.specs.Acts.{Act}
use Rattle.vd_model.specs.Live.{maps, regions, live_mappings}
use Rattle.vd_model.specs.Place.{place_of, taken_slots}
use Rattle.vd_model.specs.DriverTurns.{want_of}
use Rattle.sh_parts.specs.declared.entry.DomainAnswer.TheVariants.{Mapped, Err}
use Rattle.sh_parts.specs.declared.memory.Live.{Live}
use Rattle.sh_parts.specs.declared.memory.Memory.{Memory}
use Rattle.sh_parts.specs.Legal.{DomainTurn, mapping_at, next_number, domain_refusal}
use Rattle.sh_parts.specs.Memory.{Stands, kept_mapping}
use Rattle.sh_parts.proofs.Kept.{differs}
use Rattle.sh_parts.proofs.Turns.{kept_later, kept_push, bounce_place, adding, by_turn}
use Rattle.sh_parts.proofs.memory.Memory.map.Goals as goal

-- the turn, by whether the length is 0 and by the place
abbrev turn : List Act → ℕ → Dir → Bool × Option ℕ → DomainTurn
turn done len dir y = if y.0 then domain_refusal Inval else option_map_or (mapping_at done len dir) y.1 (domain_refusal Nospc)

pub returns-in_default-clause-makes : goal.returns-in_default-clause-makes
returns-in_default-clause-makes c = λ x done dir s.
    let m : Memory = record {
      bounce_pages = c.args.self.now.bounce_pages;
      bounce = c.take.new.self;
      coherent = c.args.self.now.coherent;
      regions = c.args.self.now.regions;
      mappings = c.reserve.new.self;
      areas = c.args.self.now.areas;
      next = c.args.self.now.next;
      mapped = c.args.self.now.mapped;
      registered = c.args.self.now.registered;
    } in
    let place : None ≡ place_of (taken_slots done) (pages_of c.args.len) 1 x.bounce =
    c.in_default.ensures.place ∙ bounce_place x done c.args.self.now c.requires.sound s c.pages-count.result ∙ ap (λ n. place_of (taken_slots done) n 1 x.bounce) c.pages-count.ensures.value in
    let zero : (c.args.len == 0) ≡ false = differs c.args.len 0 c.if-len-eq0.false in
    let same : Stands x done m = record {
      bounce = s.bounce;
      pages = s.pages;
      next = s.next;
      mapped = s.mapped;
      registered = s.registered;
      mappings = c.reserve.ensures.items ∙ s.mappings;
      areas = s.areas;
    } in
    by_turn x done (turn done c.args.len dir (c.args.len == 0, place_of (taken_slots done) (pages_of c.args.len) 1 x.bounce)) (domain_refusal Nospc) (Err Nospc) m
    (ap (turn done c.args.len dir) (λ i. (zero i, sym place i))) refl same

pub returns-clause-sound : goal.returns-clause-sound
returns-clause-sound c =
    let s = c.requires.sound in
    let enough = c.pages-count.ensures.enough in
    let zero = c.if-len-eq0.false in
    let some : 0 < c.pages-count.result = omega arith in
    let first = s.mappings.first in
    let last = s.mappings.last in
    let within = c.in-Ok.ensures.within in
    let low : 1 ≤ c.in-Ok.page = omega (arith, first, within.0) in
    let high : c.in-Ok.page + c.pages-count.result ≤ c.args.self.now.bounce_pages = omega (arith, last, within.1) in
    let k : Live = record { number = c.args.self.now.next; page = c.in-Ok.page; count = c.pages-count.result } in
    record {
      some = s.some;
      more = s.more;
      few = s.few;
      mappings = kept_push c.args.self.now.next 1 c.args.self.now.bounce_pages c.args.self.now.mappings.items c.push_reserved.new.self.items c.args.self.now.bounce c.take.new.self k
          (c.push_reserved.ensures.items ∙ ap (λ l. l ++ k ∷ []) c.reserve.ensures.items)
          s.mappings refl some low high c.in-Ok.ensures.fresh
          (ap (λ (t : Space). t.first) c.in-Ok.ensures.ok) (ap (λ (t : Space). t.«end») c.in-Ok.ensures.ok) c.in-Ok.ensures.taken;
      areas = kept_later _ _ _ _ _ _ (omega arith) s.areas;
      regions = s.regions;
    }

pub returns-clause-makes : goal.returns-clause-makes
returns-clause-makes c = λ x done dir s.
    let k : Live = record { number = c.args.self.now.next; page = c.in-Ok.page; count = c.pages-count.result } in
    let m : Memory = record {
      bounce_pages = c.args.self.now.bounce_pages;
      bounce = c.take.new.self;
      coherent = c.args.self.now.coherent;
      regions = c.args.self.now.regions;
      mappings = c.push_reserved.new.self;
      areas = c.args.self.now.areas;
      next = c.args.self.now.next + 1;
      mapped = true;
      registered = c.args.self.now.registered;
    } in
    let place : Some c.in-Ok.page ≡ place_of (taken_slots done) (pages_of c.args.len) 1 x.bounce =
    c.in-Ok.ensures.place ∙ bounce_place x done c.args.self.now c.requires.sound s c.pages-count.result ∙ ap (λ n. place_of (taken_slots done) n 1 x.bounce) c.pages-count.ensures.value in
    let zero : (c.args.len == 0) ≡ false = differs c.args.len 0 c.if-len-eq0.false in
    let next = s.next in
    let later : c.args.self.now.next + 1 ≡ maps done + 1 + regions done = omega arith in
    let made : Stands x ((mapping_at done c.args.len dir c.in-Ok.page).acts ++ done) m = record {
      bounce = s.bounce;
      pages = s.pages;
      next = later;
      mapped = refl;
      registered = s.registered;
      mappings = c.push_reserved.ensures.items ∙ ap (λ l. l ++ k ∷ []) c.reserve.ensures.items
          ∙ adding kept_mapping 0 (live_mappings done) c.args.self.now.mappings.items k
          (record { number = next_number done; slot = c.in-Ok.page; want = want_of 0 0 c.args.len dir })
          s.mappings (λ i. record { number = s.next i; page = c.in-Ok.page; count = c.pages-count.ensures.value i });
      areas = s.areas;
    } in
    by_turn x done (turn done c.args.len dir (c.args.len == 0, place_of (taken_slots done) (pages_of c.args.len) 1 x.bounce)) (mapping_at done c.args.len dir c.in-Ok.page) (Mapped c.args.self.now.next (4096 * c.in-Ok.page)) m
    (ap (turn done c.args.len dir) (λ i. (zero i, sym place i))) (ap (λ n. Mapped n (4096 * c.in-Ok.page)) s.next) made
