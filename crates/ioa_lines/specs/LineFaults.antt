-- The text of each fault of a line (profile).
use Rattle.std.specs.Prelude.{ℕ, List, ◌++◌, codes}
use Rattle.std.specs.Fmt.{decimal}
use Rattle.ioa_lines.specs.declared.fault.LineFault.{LineFault}
use Rattle.ioa_lines.specs.declared.fault.LineFault.TheVariants.{BadLine, Memory}

-- the number, the name and the line
abbrev pub line_fault_text : LineFault → List ℕ
line_fault_text (BadLine k) = codes "61 BadLine at " ++ decimal k
line_fault_text Memory = codes "3 Memory"
