-- What comes of attempts and finishing, as text (profile).
use Rattle.std.specs.Prelude.{ℕ, List, codes}
use Rattle.ioa_commits.specs.Refusals.{refusal_text}
use Rattle.ioa_passes.specs.Texts.{older_text}
use Rattle.ioa_held.specs.declared.finish.FinishFault.{FinishFault}
use Rattle.ioa_held.specs.declared.finish.FinishFault.TheVariants as finish
use Rattle.ioa_held.specs.declared.outcome.Miss.{Miss}
use Rattle.ioa_held.specs.declared.outcome.Miss.TheVariants as miss

-- why an attempt is missed
abbrev pub miss_text : Miss → List ℕ
miss_text (miss.Older o) = older_text o
miss_text (miss.Refused why) = refusal_text why

-- why a book is not finished
abbrev pub finish_fault_text : FinishFault → List ℕ
finish_fault_text finish.Foreign = codes "55 Foreign"
finish_fault_text finish.SharesMissing = codes "57 SharesMissing"
finish_fault_text finish.Memory = codes "3 Memory"
finish_fault_text finish.Unaccounted = codes "56 Unaccounted"
