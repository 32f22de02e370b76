-- The end of a session.
use Rattle.std.proofs.Common.{◌≡◌, ◌++◌, ◌∷◌, true, false, ap, sym, ◌∙◌, Option, Some, None, List, true≢false, is_some}
use Rattle.vd_pool.specs.Memory.{PoolMemory}
use Rattle.vd_model.specs.Setting.{Setting}
use Rattle.vd_model.specs.Acts.{Act, Node, Deregistered}
use Rattle.vd_model.specs.Live.{Registration, registration_of}
use Rattle.vd_model.specs.NodeTurns.{registration_end}
use Rattle.vd_domain.specs.Held.{Held}
use Rattle.vd_domain.specs.Stands.{Stands}
use Rattle.vd_domain.proofs.Presence.{some_map}

-- a registration that stood has ended
pub ended_registration : {x : Setting} {acts : List Act} {h k : Held} {m n : PoolMemory} → is_some h.bounce.user ≡ true → Stands x acts h m
    → Stands x (Node Deregistered ∷ acts) k n → Stands x (registration_end (registration_of acts) ++ acts) k n
ended_registration {x} {acts} {h} {k} {m} {n} there s t = by (registration_of acts) (ap is_some s.registered ∙ some_map _ h.bounce.user ∙ there) where
  by : (o : Option Registration) → is_some o ≡ true → Stands x (registration_end o ++ acts) k n
  by None e = absurd (true≢false (sym e))
  by (Some r) e = t

-- none stood
pub no_registration : {x : Setting} {acts : List Act} {h : Held} {m : PoolMemory} → is_some h.bounce.user ≡ false → Stands x acts h m → Stands x (registration_end (registration_of acts) ++ acts) h m
no_registration {x} {acts} {h} {m} there s = by (registration_of acts) (ap is_some s.registered ∙ some_map _ h.bounce.user ∙ there) where
  by : (o : Option Registration) → is_some o ≡ false → Stands x (registration_end o ++ acts) h m
  by None e = s
  by (Some r) e = absurd (true≢false e)
