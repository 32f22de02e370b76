-- Which pages of bounce memory are present, said by the last act that decides it.
use Rattle.std.specs.Prelude.{ℕ, List, [], ◌∷◌, Bool, false, ◌&&◌, ◌||◌}
use Rattle.vd_model.specs.Acts.{Act, Node, Driver, Mapped, Deregistered}
use Rattle.vd_model.specs.Live.{meets_page, is_in_use}

-- of the maps that met the page and the ends of a registration at which it wasn't in use, the last is a map
abbrev pub was_mapped : ℕ → List Act → ℕ → Bool
was_mapped g [] page = false
was_mapped g (Driver (Mapped m) ∷ acts) page = meets_page g page m || was_mapped g acts page
was_mapped g (Node Deregistered ∷ acts) page = is_in_use g acts page && was_mapped g acts page
was_mapped g (_ ∷ acts) page = was_mapped g acts page
