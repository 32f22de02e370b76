-- What is told of a fetch.
use Rattle.std.specs.Prelude.{◌∷◌, [], List, Result, IsOk, IsErr}
use Rattle.vd_num.specs.declared.errno.Errno.TheVariants as errno
use Rattle.vd_model.specs.declared.answer.Item.{Item}
use Rattle.vd_model.specs.declared.answer.Item.TheVariants.{Word, Number}
use Rattle.vd_model.specs.declared.answer.Tag.TheVariants as tag
use Rattle.vd_model.specs.declared.answer.Answer.{Answer}
use Rattle.vd_model.specs.declared.answer.Answer.TheVariants as answer
use Rattle.blk_daemon.specs.declared.error.FetchError.{FetchError}
use Rattle.blk_daemon.specs.declared.error.FetchError.TheVariants.{Busy, Empty, Ahead, Fault, Shape, Bus, Memory}
use Rattle.blk_daemon.specs.declared.request.Fetched.{Fetched}

-- the request's head, type and first sector
abbrev pub fetched_items : Fetched → List Item
fetched_items f = Word tag.Head ∷ Number f.head ∷ Word tag.Kind ∷ Number f.header.kind ∷ Word tag.Sector ∷ Number f.header.sector ∷ []

-- why nothing is fetched; for want of memory there is no answer
abbrev pub FailsAs : {E : Type 0} → (Answer → Type 0) → FetchError → Result (Unit {0}) E → Type 0
FailsAs heard Busy r = IsOk r × heard (answer.Err errno.Busy)
FailsAs heard Empty r = IsOk r × heard (answer.Err errno.Again)
FailsAs heard (Ahead found known) r = IsOk r × heard (answer.Ahead found known)
FailsAs heard (Fault fault) r = IsOk r × heard (answer.Chain fault)
FailsAs heard (Shape readable writable) r = IsOk r × heard (answer.Shape readable writable)
FailsAs heard (Bus at) r = IsOk r × heard (answer.Bus at)
FailsAs heard Memory r = IsErr r
