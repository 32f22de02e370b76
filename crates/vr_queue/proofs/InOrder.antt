-- The test of a chain's order, a part at a time.
use Rattle.std.specs.Prelude.{Bool, List, if◌then◌else◌}
use Rattle.vd_model.specs.declared.parts.Part.{Part}
use Rattle.vr_pair.specs.QueueLists.{is_all_writable, is_readable_first}

-- the rest of the parts, after one that is writable or not
abbrev pub rest_in_order : Bool → List Part → Bool
rest_in_order any ps = if any then is_all_writable ps else is_readable_first ps
