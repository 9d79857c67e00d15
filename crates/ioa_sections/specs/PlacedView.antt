-- What the code keeps of a system section (view).
use Rattle.ioa_sections.specs.declared.placed.Placed.{Placed}
use Rattle.ioa_sections.specs.Placing.{PlacedParts, placed}

abbrev pub placed_of : Placed → PlacedParts
placed_of s = placed s.programs.items s.channels.items s.scripts.items
