use Rattle.std.proofs.Common.{refl, sym}
use Rattle.vd_engine.proofs.Engines.{new_stands, reached_new}
use Rattle.vd_engine.proofs.engine.Engine.new.Goals as goal

pub returns-clause-stands : goal.returns-clause-stands
returns-clause-stands c = λ x sized sectors. new_stands x _ sized c.requires c.new-2.ensures.size (sym sectors) c.new.ensures.items refl refl c.new-3.ensures.items

pub returns-clause-reached : goal.returns-clause-reached
returns-clause-reached c = reached_new _ c.requires c.new-2.ensures.size c.new.ensures.items refl refl c.new-3.ensures.items
