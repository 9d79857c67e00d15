-- What refusals are called and what they ask for, in words for people (profile).
use Rattle.std.specs.Prelude.{ℕ, List, [], codes}
use Rattle.ioa_refusals.specs.declared.refusal.Refusal.{Refusal}
use Rattle.ioa_refusals.specs.declared.refusal.Refusal.TheVariants as refusal
use Rattle.ioa_text_reader.specs.declared.fault.FrontFault.{FrontFault}
use Rattle.ioa_text_reader.specs.declared.fault.FrontFault.TheVariants as front

-- the number and the name of a refusal of the reader
abbrev pub front_title : FrontFault → List ℕ
front_title front.Empty = codes "10 Empty"
front_title (front.BadCharacter offset) = codes "11 BadCharacter"
front_title (front.Unexpected offset) = codes "12 Unexpected"
front_title (front.NumberTooLarge offset) = codes "13 NumberTooLarge"
front_title (front.TooDeep offset) = codes "14 TooDeep"
front_title front.TooLong = codes "15 TooLong"
front_title (front.LeftOut w offset) = codes "16 LeftOut"
front_title front.Memory = codes "3 Memory"

-- what the reader asks for beside what is told of the place; nothing if there is no more to say
abbrev pub reading_rule : FrontFault → List ℕ
reading_rule front.Empty = codes "The text has no token: it needs at least `system`."
reading_rule (front.BadCharacter offset) = []
reading_rule (front.Unexpected offset) = []
reading_rule (front.NumberTooLarge offset) = codes "A number is at most 9223372036854775807."
reading_rule (front.TooDeep offset) =
    codes "A term and a statement are at most 64 high, and at most 128 brackets are open at once."
reading_rule front.TooLong = codes "A text has at most 1048576 bytes."
reading_rule (front.LeftOut w offset) =
    codes "The language leaves this word of I/O automata out, and keeps it: it is no name either."
reading_rule front.Memory = []

-- what the check asks for, where it refuses a text
abbrev pub rule_text : Refusal → List ℕ
rule_text refusal.Unknown = codes "A name is used only where it is declared and in view."
rule_text refusal.Twice = codes "Two things that have to differ have two names, or two numbers."
rule_text refusal.Sorts =
    codes "A part has the sort that its operator, function or place takes, and no part is missing or too much."
rule_text refusal.NoInitial = codes "A state variable and a variable of a schedule have an initial value."
rule_text refusal.InputPre = codes "An input has no `pre`: it is enabled in each state."
rule_text refusal.NoTransition = codes "Each entry of a signature has a transition."
rule_text refusal.ScheduleAssignsState = codes "A schedule assigns its own variables, and no state variable."
rule_text refusal.ChannelSorts =
    codes "The messages that a channel's sender sends have the sort that its receiver takes."
rule_text refusal.InputMissing = codes "A channel's receiver has a `receive` that takes from the sender."
rule_text refusal.SelfChannel = codes "A channel goes from one node to another."
rule_text refusal.NodeGap = codes "The nodes of a system have the numbers 0 to n - 1."
rule_text refusal.Limit =
    codes "A sort and a type are at most 64 high, and a system has at most 64 nodes and 256 channels."
rule_text refusal.EmptyOfWhat = codes "The sort of a display is told by what stands beside it, or by its place."
rule_text refusal.InputWhere = codes "An input has no `where`: it takes each value of its sorts."
rule_text refusal.BadArgument =
    codes "What is constant has a value, a transition repeats its entry, and `send` and `receive` are their node's."
rule_text refusal.Memory = []
