-- Where the bytes that a daemon reads of a plain device came from.
use Rattle.std.specs.Prelude.{ℕ, zero, suc, ◌+◌, List, [], ◌∷◌, ◌++◌, Bool, true, false, ◌==◌, ◌&&◌, ◌||◌, not, if◌then◌else◌, Option, Some, None, codes, decimal}
use Rattle.std.specs.Str.{bytes_eq}
use Rattle.std.specs.List.{list_any, join_with_byte}
use Rattle.vd_model.specs.declared.memory.Origin.{Origin}
use Rattle.vd_model.specs.declared.memory.Origin.TheVariants.{Zero, Daemon, Handed}
use Rattle.vd_model.specs.declared.answer.Answer.{Answer}
use Rattle.vd_model.specs.declared.answer.Answer.TheVariants.{Err}
use Rattle.vd_model.specs.declared.step.Step.{Step}
use Rattle.vd_model.specs.declared.step.Step.TheVariants.{Queue}
use Rattle.vd_model.specs.declared.step.QueueStep.{QueueStep}
use Rattle.vd_model.specs.declared.step.QueueStep.TheVariants.{Walk, Execute}
use Rattle.vd_model.specs.Setting.{Setting}
use Rattle.vd_model.specs.Deeds.{Deed, Made, acts_of_device}
use Rattle.vd_model.specs.Puts.{shown_put}
use Rattle.vd_model.specs.AreaTurns.{is_accessible}
use Rattle.vd_model.specs.History.{History, outcome, deeds_of, reply}

-- ---- plain devices: none of their rings was used

-- a deed makes the device of this name
abbrev pub is_making : List ℕ → Deed → Bool
is_making name (Made made creation) = bytes_eq name made
is_making name _ = false

abbrev pub is_refusal : Answer → Bool
is_refusal (Err errno) = true
is_refusal _ = false

-- the lines that make, fill or serve a ring; a walk and an execution do none of it
abbrev pub is_ring_step : QueueStep → Bool
is_ring_step (Walk queue head) = false
is_ring_step (Execute queue) = false
is_ring_step _ = true

-- a step that uses a ring of the device, and isn't refused
abbrev pub uses_ring : List ℕ → Step → Answer → Bool
uses_ring name (Queue named step) answer = bytes_eq name named && is_ring_step step && not (is_refusal answer)
uses_ring name _ answer = false

-- no ring of the device was used since it was last made
unfoldable pub is_plain : Setting → List ℕ → History → Bool
is_plain x name [] = true
is_plain x name (entry ∷ before) =
    list_any (is_making name) (outcome x (deeds_of x before) entry.step entry.failed).deeds
    || (not (uses_ring name entry.step (reply x before entry.step entry.failed)) && is_plain x name before)

-- the origin of the byte that the daemon of a plain device sees at an address that it can access
abbrev pub origin_of : Setting → List ℕ → History → ℕ → Option Origin
origin_of x name h a =
    if is_plain x name h && is_accessible x (acts_of_device name (deeds_of x h)) a
    then Some (shown_put x.per_page (acts_of_device name (deeds_of x h)) a).origin else None

-- ---- groups of neighbours of one origin

pub record Group : Type 0 where
  pub origin : Origin
  pub count : ℕ

-- two mappings, or the driver's own writes, are the same
abbrev pub is_same_mapping : Option ℕ → Option ℕ → Bool
is_same_mapping None None = true
is_same_mapping (Some m) (Some n) = m == n
is_same_mapping _ _ = false

abbrev pub is_same_origin : Origin → Origin → Bool
is_same_origin Zero Zero = true
is_same_origin Daemon Daemon = true
is_same_origin (Handed m) (Handed n) = is_same_mapping m n
is_same_origin _ _ = false

-- one byte more in front: of the first group's origin, or of another
abbrev pub onto_groups : Origin → List Group → List Group
onto_groups origin [] = record { origin = origin; count = 1 } ∷ []
onto_groups origin (g ∷ gs) =
    if is_same_origin origin g.origin then record { origin = g.origin; count = g.count + 1 } ∷ gs
    else record { origin = origin; count = 1 } ∷ g ∷ gs

unfoldable pub groups : List Origin → List Group
groups [] = []
groups (origin ∷ origins) = onto_groups origin (groups origins)

-- the origins of len bytes from an address on
unfoldable pub origins_from : (ℕ → Origin) → ℕ → ℕ → List Origin
origins_from of at zero = []
origins_from of at (suc len) = of at ∷ origins_from of (at + 1) len

-- how a group is written: zero, daemon, driver, or handed and the mapping's number, and how many bytes it has
abbrev pub origin_words : Origin → List (List ℕ)
origin_words Zero = codes "zero" ∷ []
origin_words Daemon = codes "daemon" ∷ []
origin_words (Handed None) = codes "driver" ∷ []
origin_words (Handed (Some m)) = codes "handed" ∷ decimal m ∷ []

abbrev pub group_words : List Group → List (List ℕ)
group_words [] = []
group_words (g ∷ gs) = origin_words g.origin ++ decimal g.count ∷ group_words gs

-- the line on the load in this line of the transcript
abbrev pub origins_line : ℕ → List Group → List ℕ
origins_line line gs = join_with_byte 32 (codes "origins" ∷ decimal line ∷ group_words gs) ++ 10 ∷ []
