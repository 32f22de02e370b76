use Rattle.std.proofs.Common.{◌≡◌, arith}
use Rattle.vd_iova.specs.Bits.{Takes}
use Rattle.vd_iova.proofs.Powers.{small_step, large_step}
use Rattle.vd_iova.proofs.Searches.{small_run}
use Rattle.vd_iova.proofs.iova.take_run.Goals as goal

pub take-requires-clause-search : goal.take-requires-clause-search
take-requires-clause-search g c = record {
  some = c.requires.some;
  fits = c.align_of-step.ensures.enough;
  least = c.align_of-step.ensures.least;
  room = c.requires.room;
  inside = c.requires.inside;
  small = c.requires.small;
  outside = c.requires.outside;
}

pub take-requires-clause-whole : goal.take-requires-clause-whole
take-requires-clause-whole g c =
    let least = c.align_of-step.ensures.least in
    small_step c.args.n c.align_of-step.result c.align_of-step.ensures.value (omega arith)

pub take-requires-else-n-le64-clause-search : goal.take-requires-else-n-le64-clause-search
take-requires-else-n-le64-clause-search g c = record {
  some = c.requires.some;
  fits = c.align_of-step.ensures.enough;
  least = c.align_of-step.ensures.least;
  room = c.requires.room;
  inside = c.requires.inside;
  small = c.requires.small;
  outside = c.requires.outside;
}

pub take-requires-else-n-le64-clause-whole : goal.take-requires-else-n-le64-clause-whole
take-requires-else-n-le64-clause-whole g c =
    let enough = c.align_of-step.ensures.enough in
    large_step c.args.n c.align_of-step.result c.align_of-step.ensures.value (omega arith)

pub returns-then-n-le64-clause-run : goal.returns-then-n-le64-clause-run
returns-then-n-le64-clause-run g c =
    small_run c.args.words.now c.align_of-step.result c.args.n c.args.first c.args.«end» (c.take.new.words ≡ c.args.words.now) (c.take.new.full ≡ c.args.full.now)
    (λ s. Takes s c.args.n c.args.words.now c.args.full.now c.take.new.words c.take.new.full) c.take.result
    c.requires.some c.requires.outside c.requires.inside c.align_of-step.ensures.value c.take.ensures.run
