-- What an invariant may speak of, as plain data (view).
use Rattle.std.specs.Prelude.{List, refl}
use Rattle.std.specs.Coded.{Coded, code_by, coded×, coded_list}
use Rattle.ioa_operators.specs.ShapeCode.{shape_code}
use Rattle.ioa_terms.specs.contracts.name.Name as called
use Rattle.ioa_terms.specs.Sorted.{NameShapes}
use Rattle.ioa_source.specs.declared.declaration.Channel.{Channel}
use Rattle.ioa_source.specs.contracts.declaration.Channel as channel
use Rattle.ioa_system.specs.Parts.{Parts, parts_code}

-- the text's constants, the programs of the nodes from node 0 on, and the channels
pub record SectionParts : Type 0 where
  pub constants : NameShapes
  pub programs : List Parts
  pub channels : List Channel

-- a section of these parts
abbrev pub section_parts : NameShapes → List Parts → List Channel → SectionParts
section_parts ns ps cs = record { constants = ns; programs = ps; channels = cs }

-- the code of the parts: a nest of pairs
abbrev pub section_code : Coded SectionParts
section_code =
    code_by (NameShapes × (List Parts × List Channel))
    (coded× (coded_list (coded× called.the_row.coded shape_code))
    (coded× (coded_list parts_code) (coded_list channel.the_row.coded)))
    (λ s. (s.constants, (s.programs, s.channels)))
    (λ t. section_parts t.0 t.1.0 t.1.1)
    (λ _. refl)
