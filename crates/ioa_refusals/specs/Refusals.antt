-- The numbers and the names of refusals, and their text (profile).
use Rattle.std.specs.Prelude.{ℕ, List, ◌++◌, codes}
use Rattle.std.specs.Fmt.{decimal}
use Rattle.ioa_refusals.specs.declared.refusal.Refusal.{Refusal}
use Rattle.ioa_refusals.specs.declared.refusal.Refusal.TheVariants as refusal

-- the number of a refusal
abbrev pub refusal_number : Refusal → ℕ
refusal_number refusal.Unknown = 20
refusal_number refusal.Twice = 21
refusal_number refusal.Sorts = 22
refusal_number refusal.NoInitial = 23
refusal_number refusal.InputPre = 24
refusal_number refusal.NoTransition = 25
refusal_number refusal.ScheduleAssignsState = 26
refusal_number refusal.ChannelSorts = 27
refusal_number refusal.InputMissing = 28
refusal_number refusal.SelfChannel = 29
refusal_number refusal.NodeGap = 30
refusal_number refusal.Limit = 31
refusal_number refusal.EmptyOfWhat = 32
refusal_number refusal.InputWhere = 33
refusal_number refusal.BadArgument = 34
refusal_number refusal.Memory = 3

-- the name of a refusal
abbrev pub refusal_name : Refusal → List ℕ
refusal_name refusal.Unknown = codes "Unknown"
refusal_name refusal.Twice = codes "Twice"
refusal_name refusal.Sorts = codes "Sorts"
refusal_name refusal.NoInitial = codes "NoInitial"
refusal_name refusal.InputPre = codes "InputPre"
refusal_name refusal.NoTransition = codes "NoTransition"
refusal_name refusal.ScheduleAssignsState = codes "ScheduleAssignsState"
refusal_name refusal.ChannelSorts = codes "ChannelSorts"
refusal_name refusal.InputMissing = codes "InputMissing"
refusal_name refusal.SelfChannel = codes "SelfChannel"
refusal_name refusal.NodeGap = codes "NodeGap"
refusal_name refusal.Limit = codes "Limit"
refusal_name refusal.EmptyOfWhat = codes "EmptyOfWhat"
refusal_name refusal.InputWhere = codes "InputWhere"
refusal_name refusal.BadArgument = codes "BadArgument"
refusal_name refusal.Memory = codes "Memory"

-- a refusal: its number and its name
abbrev pub refusal_text : Refusal → List ℕ
refusal_text r = decimal (refusal_number r) ++ (codes " " ++ refusal_name r)
