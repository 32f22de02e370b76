use Rattle.std.proofs.Common.{◌∷◌, Option, refl, sym, ap, ◌∙◌, ◌==◌, find}
use Rattle.std.specs.Option.{option_map_or}
use Rattle.vd_num.specs.declared.errno.Errno.TheVariants.{Noent}
use Rattle.vd_iova.specs.Space.{Space}
use Rattle.vd_model.specs.Acts.{Streaming, Driver, Unmapped}
use Rattle.vd_model.specs.Live.{live_mappings}
use Rattle.sh_parts.specs.declared.entry.DomainAnswer.TheVariants.{Done, Err}
use Rattle.sh_parts.specs.declared.memory.Memory.{Memory}
use Rattle.sh_parts.specs.Legal.{DomainTurn, done_by, domain_refusal}
use Rattle.sh_parts.specs.Memory.{Stands, kept_mapping}
use Rattle.sh_parts.proofs.Turns.{kept_drop, found_taken, none_among, some_among, lacking, by_turn}
use Rattle.sh_parts.proofs.memory.Memory.unmap.Goals as goal

-- the turn, by what is found
abbrev turn : Option Streaming → DomainTurn
turn found = option_map_or (λ m. done_by (Driver (Unmapped m))) found (domain_refusal Noent)

pub returns-in_default-clause-makes : goal.returns-in_default-clause-makes
returns-in_default-clause-makes c = λ x done s.
    let none = none_among kept_mapping c.args.number (live_mappings done) c.args.self.now.mappings.items s.mappings (sym c.find_live.ensures ∙ c.in_default.is) in
    by_turn x done (turn (find (λ m. m.number == c.args.number) (live_mappings done))) (domain_refusal Noent) (Err Noent) c.args.self.now (ap turn none) refl s

pub give-requires : goal.give-requires
give-requires c = found_taken _ _ _ c.args.number _ _ _ c.requires.sound.mappings (sym c.find_live.ensures ∙ c.in-Some.is)

pub returns-clause-sound : goal.returns-clause-sound
returns-clause-sound c =
    let s = c.requires.sound in
    let found = sym c.find_live.ensures ∙ c.in-Some.is in
    record {
      some = s.some;
      more = s.more;
      few = s.few;
      mappings = kept_drop _ _ _ c.args.number _ c.drop_live.new.list.items c.args.self.now.bounce c.give.new.self _ c.drop_live.ensures s.mappings found (ap (λ (t : Space). t.first) c.give.ensures.new) (ap (λ (t : Space). t.«end») c.give.ensures.new) c.give.ensures.taken;
      areas = s.areas;
      regions = s.regions;
    }

pub returns-clause-makes : goal.returns-clause-makes
returns-clause-makes c = λ x done s.
    let m : Memory = record {
      bounce_pages = c.args.self.now.bounce_pages;
      bounce = c.give.new.self;
      coherent = c.args.self.now.coherent;
      regions = c.args.self.now.regions;
      mappings = c.drop_live.new.list;
      areas = c.args.self.now.areas;
      next = c.args.self.now.next;
      mapped = c.args.self.now.mapped;
      registered = c.args.self.now.registered;
    } in
    let among = some_among kept_mapping c.args.number (live_mappings done) c.args.self.now.mappings.items _ s.mappings (sym c.find_live.ensures ∙ c.in-Some.is) in
    let made : Stands x (Driver (Unmapped among.one) ∷ done) m = record {
      bounce = s.bounce;
      pages = s.pages;
      next = s.next;
      mapped = s.mapped;
      registered = s.registered;
      mappings = c.drop_live.ensures ∙ lacking kept_mapping c.args.number (live_mappings done) c.args.self.now.mappings.items among.one.number s.mappings among.number;
      areas = s.areas;
    } in
    by_turn x done (turn (find (λ m. m.number == c.args.number) (live_mappings done))) (done_by (Driver (Unmapped among.one))) Done m (ap turn among.found) refl made
