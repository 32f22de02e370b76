use Rattle.vd_model.specs.History.{deeds_of}
use Rattle.vd_engine.proofs.Images.{holds_own}
use Rattle.vd_engine.proofs.Engines.{stays, still_reached, still_sectors, reached_more, sectors_more, goes_on, image_on}
use Rattle.vd_engine.proofs.engine.Engine.play.Goals as goal

pub returns-in-Err-clause-err : goal.returns-in-Err-clause-err
returns-in-Err-clause-err g c = λ x h s. stays x h c.in-Err.ensures.line s

pub returns-in-Err-clause-reached : goal.returns-in-Err-clause-reached
returns-in-Err-clause-reached g c = still_reached c.in-Err.ensures.line c.requires.reached

pub returns-in-Err-clause-still_asked : goal.returns-in-Err-clause-still_asked
returns-in-Err-clause-still_asked g c = c.in-Err.ensures.line.asked

pub returns-in-Err-clause-sectors : goal.returns-in-Err-clause-sectors
returns-in-Err-clause-sectors g c = still_sectors c.in-Err.ensures.line c.requires.reached

pub returns-in-Ok-clause-ok : goal.returns-in-Ok-clause-ok
returns-in-Ok-clause-ok g c = λ x h s image. goes_on x h c.args.step.now c.in-Ok.ensures.line s image

pub returns-in-Ok-clause-image : goal.returns-in-Ok-clause-image
returns-in-Ok-clause-image g c = λ x h s image. image_on x h c.args.step.now c.in-Ok.ensures.line s _ c.answer.ensures.size image

pub returns-in-Ok-clause-reached : goal.returns-in-Ok-clause-reached
returns-in-Ok-clause-reached g c = reached_more c.in-Ok.ensures.line c.requires.reached

pub returns-in-Ok-clause-sectors : goal.returns-in-Ok-clause-sectors
returns-in-Ok-clause-sectors g c = sectors_more c.in-Ok.ensures.line c.requires.reached

pub returns-in-Ok-clause-flushed : goal.returns-in-Ok-clause-flushed
returns-in-Ok-clause-flushed g c = λ x h s image. c.in-Ok.ensures.flushed x (deeds_of x h) s.stands (holds_own x h) image
