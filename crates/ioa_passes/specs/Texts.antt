-- What comes of looks, as text (profile).
use Rattle.std.specs.Prelude.{ℕ, List, ◌++◌, codes}
use Rattle.std.specs.Fmt.{decimal}
use Rattle.ioa_actions.specs.ComponentText.{component_text}
use Rattle.ioa_passes.specs.declared.outcome.Aged.{Aged}
use Rattle.ioa_passes.specs.declared.outcome.Aged.TheVariants as aged
use Rattle.ioa_passes.specs.declared.outcome.Older.{Older}
use Rattle.ioa_passes.specs.declared.outcome.ViewFault.{ViewFault}
use Rattle.ioa_passes.specs.declared.outcome.ViewFault.TheVariants as view

-- what is older than it was seen
abbrev pub aged_text : Aged → List ℕ
aged_text (aged.Component k) = component_text k
aged_text aged.Length = codes "length"

-- the same with what was seen and what is held
abbrev pub older_text : Older → List ℕ
older_text o =
    codes "54 Older "
    ++ (aged_text o.of ++ (codes ": seen " ++ (decimal o.seen ++ (codes ", held " ++ decimal o.held))))

-- why there is no look
abbrev pub view_fault_text : ViewFault → List ℕ
view_fault_text view.Memory = codes "3 Memory"
view_fault_text view.Unknown = codes "53 Unknown"
view_fault_text (view.Older o) = older_text o
