use Rattle.std.proofs.Common.{◌≡◌, ℕ, List, ◌∷◌, Option, ◌<◌, ◌≤◌, subst, arith, refl, sym, ap, ◌∙◌, ◌==◌, find}
use Rattle.std.specs.Option.{option_map_or}
use Rattle.vd_num.specs.declared.errno.Errno.TheVariants.{Noent}
use Rattle.vd_iova.specs.Space.{Space}
use Rattle.vd_model.specs.Acts.{Coherent, Driver, Region_freed}
use Rattle.vd_model.specs.Live.{live_regions}
use Rattle.sh_parts.specs.declared.entry.DomainAnswer.TheVariants.{Done, Err}
use Rattle.sh_parts.specs.declared.memory.Live.{Live}
use Rattle.sh_parts.specs.declared.memory.Memory.{Memory}
use Rattle.sh_parts.specs.Legal.{DomainTurn, done_by, domain_refusal}
use Rattle.sh_parts.specs.Memory.{Stands, IsKept, kept_region}
use Rattle.sh_parts.proofs.Kept.{finds}
use Rattle.sh_parts.proofs.Turns.{same_drop, kept_drop, found_taken, none_among, some_among, lacking, by_turn}
use Rattle.sh_parts.proofs.memory.Memory.free_region.Goals as goal

kept_end : {n lo hi top : ℕ} {ks : List Live} {s : Space} → top ≡ hi → IsKept n lo hi ks s → IsKept n lo top ks s
kept_end {n} {lo} {hi} {top} {ks} {s} e = subst (λ k. IsKept n lo k ks s) (sym e)

-- the turn, by what is found
abbrev turn : Option Coherent → DomainTurn
turn found = option_map_or (λ m. done_by (Driver (Region_freed m))) found (domain_refusal Noent)

pub returns-in_default-clause-makes : goal.returns-in_default-clause-makes
returns-in_default-clause-makes c = λ x done s.
    let none = none_among kept_region c.args.number (live_regions done) c.args.self.now.areas.items s.areas (sym c.find_live.ensures ∙ c.in_default.is) in
    by_turn x done (turn (find (λ m. m.number == c.args.number) (live_regions done))) (domain_refusal Noent) (Err Noent) c.args.self.now (ap turn none) refl s

pub give-requires : goal.give-requires
give-requires c = found_taken _ _ _ c.args.number _ _ _ c.requires.sound.areas (sym c.find_live.ensures ∙ c.in-Some.is)

pub overflow_mul-live : goal.overflow_mul-live
overflow_mul-live c =
    let s = c.requires.sound in
    let f = finds _ _ _ c.args.number _ _ s.areas.apart (sym c.find_live.ensures ∙ c.in-Some.is) in
    let high = f.high in
    let few = s.few in
    omega arith

pub returns-clause-sound : goal.returns-clause-sound
returns-clause-sound c =
    let s = c.requires.sound in
    let found = sym c.find_live.ensures ∙ c.in-Some.is in
    let last = ap (λ (t : Space). t.«end») c.give.ensures.new in
    record {
      some = s.some;
      more = subst (λ n. c.args.self.now.bounce_pages < n) (sym last) s.more;
      few = subst (λ n. n ≤ 4096) (sym last) s.few;
      mappings = s.mappings;
      areas = kept_end last (kept_drop _ _ _ c.args.number _ c.drop_live.new.list.items c.args.self.now.coherent c.give.new.self _ c.drop_live.ensures s.areas found (ap (λ (t : Space). t.first) c.give.ensures.new) last c.give.ensures.taken);
      regions = same_drop _ _ _ c.args.number _ c.remove.new.self _ c.drop_live.new.list.items _ s.areas.apart found s.regions c.remove.ensures.new c.drop_live.ensures;
    }

pub returns-clause-makes : goal.returns-clause-makes
returns-clause-makes c = λ x done s.
    let m : Memory = record {
      bounce_pages = c.args.self.now.bounce_pages;
      bounce = c.args.self.now.bounce;
      coherent = c.give.new.self;
      regions = c.remove.new.self;
      mappings = c.args.self.now.mappings;
      areas = c.drop_live.new.list;
      next = c.args.self.now.next;
      mapped = c.args.self.now.mapped;
      registered = c.args.self.now.registered;
    } in
    let among = some_among kept_region c.args.number (live_regions done) c.args.self.now.areas.items _ s.areas (sym c.find_live.ensures ∙ c.in-Some.is) in
    let made : Stands x (Driver (Region_freed among.one) ∷ done) m = record {
      bounce = s.bounce;
      pages = ap (λ (t : Space). t.«end») c.give.ensures.new ∙ s.pages;
      next = s.next;
      mapped = s.mapped;
      registered = s.registered;
      mappings = s.mappings;
      areas = c.drop_live.ensures ∙ lacking kept_region c.args.number (live_regions done) c.args.self.now.areas.items among.one.number s.areas among.number;
    } in
    by_turn x done (turn (find (λ m. m.number == c.args.number) (live_regions done))) (done_by (Driver (Region_freed among.one))) Done m (ap turn among.found) refl made
