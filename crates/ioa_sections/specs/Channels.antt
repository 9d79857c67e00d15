-- The channels between nodes (profile).
use Rattle.std.specs.Prelude.{ℤ, Bool, true, false, if◌then◌else◌, List, [], ◌∷◌}
use Rattle.std.specs.Prelude.{Option, Some, None, Result, Ok, Err, slice_get}
use Rattle.std.specs.Ordering.{int_eq}
use Rattle.ioa_values.specs.Outcome.{and_then}
use Rattle.ioa_operators.specs.Shapes.{PlainShape}
use Rattle.ioa_terms.specs.Bindings.{Bindings}
use Rattle.ioa_terms.specs.Meaning.{answer}
use Rattle.ioa_actions.specs.ActionParts.{send_name, receive_name}
use Rattle.ioa_source.specs.PlainText.{const, named}
use Rattle.ioa_source.specs.Sides.{CheckedParameter, SourcePlacement}
use Rattle.ioa_source.specs.declared.declaration.Channel.{Channel}
use Rattle.ioa_system.specs.Declarations.{same_channel}
use Rattle.ioa_system.specs.InView.{given_bindings}
use Rattle.ioa_system.specs.Parts.{Parts, PlainRule, rule_named}
use Rattle.ioa_system.specs.Systems.{program_numbered}
use Rattle.ioa_sort_rules.specs.SameSorts.{same_sort}
use Rattle.ioa_refusals.specs.declared.refusal.Refusal.{Refusal}
use Rattle.ioa_refusals.specs.declared.refusal.Refusal.TheVariants.{Unknown, Twice, ChannelSorts, InputMissing}
use Rattle.ioa_refusals.specs.declared.refusal.Refusal.TheVariants.{SelfChannel}
use Rattle.ioa_sections.specs.declared.channels.TheConstants.{MOST_CHANNELS}
use Rattle.ioa_sections.specs.Distinct.{differ_from}
use Rattle.ioa_sections.specs.Sections.{channels_in}
use Rattle.ioa_sections.specs.Nodes.{at_most, gives_number}

-- channels, if they differ
unfoldable pub channels_or : List Channel → Result (List Channel) Refusal
channels_or cs = if differ_from same_channel [] cs then Ok cs else Err Twice

-- the channels of a system section: not too many, and different ones
abbrev pub channels_at : List SourcePlacement → Result (List Channel) Refusal
channels_at ps = and_then (at_most MOST_CHANNELS (channels_in ps)) channels_or

unfoldable pub program_or : Option Parts → Result Parts Refusal
program_or None = Err Unknown
program_or (Some p) = Ok p

-- whether a parameter is there and takes a number: a constant takes its own value alone
abbrev pub takes_number : Bindings → ℤ → Option CheckedParameter → Bool
takes_number e k None = false
takes_number e k (Some (named d)) = true
takes_number e k (Some (const t)) = gives_number k (answer t e)

-- whether the `receive` of a program takes messages from the node of a number
abbrev pub takes_from : Parts → ℤ → PlainRule → Bool
takes_from p k r = takes_number (given_bindings p.automaton p.arguments) k (slice_get r.entry.parameters 1)

-- the `receive` of a program, if it takes messages from that node
unfoldable pub input_or : Parts → ℤ → Option PlainRule → Result PlainRule Refusal
input_or p k None = Err InputMissing
input_or p k (Some r) = if takes_from p k r then Ok r else Err InputMissing

-- whether the messages of two rules are of one sort, in which tuple types are compared by name: they are the first
-- arguments
abbrev pub same_message : List PlainShape → List PlainShape → Bool
same_message [] ts = false
same_message (s ∷ ss) [] = false
same_message (s ∷ ss) (t ∷ ts) = same_sort s t

-- the `send` of a sender, if it has one, sends what the receiver's rule takes
unfoldable pub output_at : PlainRule → Option PlainRule → Result (Unit {0}) Refusal
output_at r None = Ok tt
output_at r (Some s) = if same_message s.shapes r.shapes then Ok tt else Err ChannelSorts

-- a channel from a sender to a receiver, which takes what the sender sends
unfoldable pub channel_to : Parts → Parts → ℤ → Result (Unit {0}) Refusal
channel_to sender receiver k = and_then (input_or receiver k (rule_named receive_name receiver.automaton.rules))
    (λ r. output_at r (rule_named send_name sender.automaton.rules))

-- a channel between two nodes
unfoldable pub channel_between : List Parts → Channel → Result (Unit {0}) Refusal
channel_between ps c = and_then (program_or (program_numbered c.from ps))
    (λ p. and_then (program_or (program_numbered c.to ps)) (λ q. channel_to p q c.from))

-- from one to another
unfoldable pub channel_at : List Parts → Channel → Result (Unit {0}) Refusal
channel_at ps c = if int_eq c.from c.to then Err SelfChannel else channel_between ps c

abbrev pub all_channels_at : List Parts → List Channel → Result (Unit {0}) Refusal
all_channels_at ps [] = Ok tt
all_channels_at ps (c ∷ cs) = and_then (channel_at ps c) (λ x. all_channels_at ps cs)
