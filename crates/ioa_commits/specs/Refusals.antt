-- Why a commit is refused, as text (profile): its number, its name, and what it is of.
use Rattle.std.specs.Prelude.{ℕ, List, ◌++◌, codes}
use Rattle.std.specs.Fmt.{decimal}
use Rattle.ioa_actions.specs.ComponentText.{component_text}
use Rattle.ioa_commits.specs.declared.outcome.CommitRefusal.{CommitRefusal}
use Rattle.ioa_commits.specs.declared.outcome.CommitRefusal.TheVariants as refusal

-- why a proposal is not committed
abbrev pub refusal_text : CommitRefusal → List ℕ
refusal_text (refusal.Unknown k) = codes "53 Unknown " ++ component_text k
refusal_text (refusal.Stale k read held) =
    codes "50 Stale " ++ (component_text k ++ (codes ": read " ++ (decimal read ++ (codes ", held " ++ decimal held))))
refusal_text (refusal.Differs k) = codes "51 Differs " ++ component_text k
refusal_text refusal.Full = codes "52 Full"
