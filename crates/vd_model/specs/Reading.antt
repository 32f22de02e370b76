-- What a script says: its lines, and the step that each line says.
use Rattle.std.specs.Prelude.{ℕ, ◌==◌, List, [], ◌∷◌, if◌then◌else◌, Option, Some, None, option_and_then, option_map}
use Rattle.vd_model.specs.Fields.{name_field}
use Rattle.vd_model.specs.Forms.{Form, cut_at, ◌▹◌, form_as}
use Rattle.vd_model.specs.ControlLines.{control_word, control_form}
use Rattle.vd_model.specs.NodeLines.{node_word, node_form}
use Rattle.vd_model.specs.AreaLines.{area_word, area_form}
use Rattle.vd_model.specs.BusLines.{bus_word, bus_form}
use Rattle.vd_model.specs.DriverLines.{driver_word, driver_form}
use Rattle.vd_model.specs.QueueLines.{queue_word, queue_form}
use Rattle.vd_model.specs.declared.word.Keyword.{Keyword}
use Rattle.vd_model.specs.declared.word.Keyword.TheVariants as first
use Rattle.vd_model.specs.declared.step.Step.{Step}
use Rattle.vd_model.specs.declared.step.Step.TheVariants.{Control, Device, Queue}
use Rattle.vd_model.specs.declared.step.DevStep.TheVariants.{Node, Area, Bus, Driver}

-- lines, the first of them with b in front
abbrev pub onto_first : ℕ → List (List ℕ) → List (List ℕ)
onto_first b [] = (b ∷ []) ∷ []
onto_first b (line ∷ lines) = (b ∷ line) ∷ lines

-- the lines of a text, each ended by LF; a last part without LF counts if it isn't empty
unfoldable pub lines : List ℕ → List (List ℕ)
lines [] = []
lines (b ∷ bytes) = if b == 10 then [] ∷ lines bytes else onto_first b (lines bytes)

-- the first of the two that is there
abbrev pub or_else : {X : Type 0} → Option X → Option X → Option X
or_else None o = o
or_else (Some x) o = Some x

-- the first word that is written so, of any group: no word stands in two groups
abbrev pub keyword : List ℕ → Option Keyword
keyword w =
    or_else (option_map first.Driver (driver_word w))
    (or_else (option_map first.Area (area_word w))
    (or_else (option_map first.Queue (queue_word w))
    (or_else (option_map first.Node (node_word w))
    (or_else (option_map first.Bus (bus_word w))
    (option_map first.Control (control_word w))))))

-- what stands behind a first word: but for control lines a device's name, and then the word's fields
abbrev pub form_of : Keyword → Form Step
form_of (first.Control w) = form_as Control (control_form w)
form_of (first.Node w) = name_field ▹ λ d. form_as (λ s. Device d (Node s)) (node_form w)
form_of (first.Area w) = name_field ▹ λ d. form_as (λ s. Device d (Area s)) (area_form w)
form_of (first.Bus w) = name_field ▹ λ d. form_as (λ s. Device d (Bus s)) (bus_form w)
form_of (first.Driver w) = name_field ▹ λ d. form_as (λ s. Device d (Driver s)) (driver_form w)
form_of (first.Queue w) = name_field ▹ λ d. form_as (Queue d) (queue_form w)

-- the step that the words of a line say
unfoldable pub step_form : Form Step
step_form [] = None
step_form (w ∷ ws) = option_and_then (λ k. form_of k ws) (keyword w)

-- What a line says: Some of its step, or Some None where it is empty or begins with #. None for a line that isn't in the grammar.
abbrev pub reading : List ℕ → Option (Option Step)
reading [] = Some None
reading (c ∷ cs) = if c == 35 then Some None else option_map Some (step_form (cut_at 32 (c ∷ cs)))
