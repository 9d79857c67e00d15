-- The lines of a script of rows (profile).
use Rattle.std.specs.Prelude.{ℕ, List, [], ◌∷◌, ◌==◌, if◌then◌else◌}
use Rattle.ioa_rows.specs.declared.line.Line.{Line}
use Rattle.ioa_rows.specs.declared.line.Line.TheVariants.{Wanted, Remark, Command}

-- what a line is by its first byte: `#` (35) begins a remark, `=` (61) an answer that is wanted
abbrev pub line_by : ℕ → Line
line_by byte = if byte == 35 then Remark else (if byte == 61 then Wanted else Command)

-- what a line is; one that is empty is a remark
abbrev pub line_at : List ℕ → Line
line_at [] = Remark
line_at (byte ∷ bytes) = line_by byte
