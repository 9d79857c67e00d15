-- The channels of a text.
use Rattle.std.proofs.Common.{◌≡◌, ◌≤◌, ℤ, true, List, [], ◌∷◌, Option, Some, None, refl, sym, ap, subst, ◌∙◌, length, slice_get, int_eq}
use Rattle.std.specs.List.{AllByRecursion, IsDistinct}
use Rattle.std.proofs.lemmas.Bool.Decides.{Decides-int_eq, not_from_Decides}
use Rattle.ioa_values.specs.Outcome.{and_then}
use Rattle.ioa_operators.specs.Shapes.{PlainShape}
use Rattle.ioa_terms.specs.Bindings.{Bindings}
use Rattle.ioa_terms.specs.Meaning.{answer}
use Rattle.ioa_actions.specs.ActionParts.{send_name, receive_name}
use Rattle.ioa_source.specs.PlainText.{const, named}
use Rattle.ioa_source.specs.Sides.{SourcePlacement, CheckedParameter}
use Rattle.ioa_source.specs.declared.declaration.Channel.{Channel}
use Rattle.ioa_system.specs.Declarations.{same_channel}
use Rattle.ioa_system.specs.InView.{given_bindings}
use Rattle.ioa_system.specs.Parts.{Parts, PlainRule, rule_named}
use Rattle.ioa_refusals.specs.declared.refusal.Refusal.TheVariants.{Twice, ChannelSorts, InputMissing, SelfChannel}
use Rattle.ioa_automata.proofs.Results.{result_is}
use Rattle.ioa_sections.specs.declared.channels.TheConstants.{MOST_CHANNELS}
use Rattle.ioa_sections.specs.Distinct.{differ_from}
use Rattle.ioa_sections.specs.Sections.{channels_in}
use Rattle.ioa_sections.specs.Nodes.{at_most}
use Rattle.ioa_sections.specs.Channels.{channels_or, channels_at, program_or, takes_number, takes_from, input_or, same_message, output_at, channel_to, channel_between, channel_at, all_channels_at}
use Rattle.ioa_system.specs.Systems.{program_numbered}
use Rattle.ioa_sections.specs.Meant.{TakesNumber, HaveOneMessage, IsChannelOf}
use Rattle.ioa_sections.proofs.Results.{first_of, is_passed, is_not_met, result_same}
use Rattle.ioa_sections.proofs.Apart.{new_differ}
use Rattle.ioa_sections.proofs.SoundNodes.{few_sound, number_given}

-- which channels there are
differ_sound : (cs ds : List Channel) → channels_or cs ≡ result_is ds → (cs ≡ ds) × IsDistinct same_channel cs
unfolding channels_or
differ_sound cs ds h =
    let test = is_passed (differ_from same_channel [] cs) (result_is cs) Twice ds h in
    (result_same cs ds test.1, (new_differ same_channel [] cs test.0).1)

pub record AreChannelsIn (ps : List SourcePlacement) (cs : List Channel) : Type 0 where
  pub same : channels_in ps ≡ cs
  pub few : length (channels_in ps) ≤ MOST_CHANNELS
  pub differ : IsDistinct same_channel (channels_in ps)

pub channels_sound : (ps : List SourcePlacement) (cs : List Channel) → channels_at ps ≡ result_is cs → AreChannelsIn ps cs
channels_sound ps cs h =
    let one = first_of (at_most MOST_CHANNELS (channels_in ps)) channels_or cs h in
    let few = few_sound MOST_CHANNELS (channels_in ps) one.0 one.1 in
    let differ = differ_sound one.0 cs one.2 in
    record { same = few.0 ∙ differ.0; few = few.1; differ = subst (IsDistinct same_channel) (sym few.0) differ.1 }

-- what a receiver takes
pub program_found : (o : Option Parts) (p : Parts) → program_or o ≡ result_is p → o ≡ Some p
unfolding program_or
program_found None p h = absurd (cc)
program_found (Some q) p h = ap Some (result_same q p h)

takes_sound : (e : Bindings) (k : ℤ) (o : Option CheckedParameter) → takes_number e k o ≡ true → TakesNumber e k o
takes_sound e k None h = absurd (cc)
takes_sound e k (Some (const t)) h = number_given k (answer t e) h
takes_sound e k (Some (named d)) h = tt

input_sound : (p : Parts) (k : ℤ) (o : Option PlainRule) (r : PlainRule) → input_or p k o ≡ result_is r → (o ≡ Some r) × (takes_from p k r ≡ true)
unfolding input_or
input_sound p k None r h = absurd (cc)
input_sound p k (Some s) r h =
    let test = is_passed (takes_from p k s) (result_is s) InputMissing r h in
    let same = result_same s r test.1 in
    (ap Some same, subst (λ x. takes_from p k x ≡ true) same test.0)

-- what a sender sends
message_sound : (ss ts : List PlainShape) → same_message ss ts ≡ true → HaveOneMessage ss ts
message_sound [] ts h = absurd (cc)
message_sound (s ∷ ss) [] h = absurd (cc)
message_sound (s ∷ ss) (t ∷ ts) h = (s, t, refl, refl, h)

output_sound : (r : PlainRule) (o : Option PlainRule) (x : Unit {0}) → output_at r o ≡ result_is x → (s : PlainRule) → o ≡ Some s → HaveOneMessage s.shapes r.shapes
unfolding output_at
output_sound r None x h s e = absurd (cc)
output_sound r (Some u) x h s e =
    let same : u ≡ s = cc in
    let test = is_passed (same_message u.shapes r.shapes) (result_is tt) ChannelSorts x h in
    subst (λ v. HaveOneMessage v.shapes r.shapes) same (message_sound u.shapes r.shapes test.0)

-- a channel
channel_sound : (ps : List Parts) (c : Channel) (x : Unit {0}) → channel_at ps c ≡ result_is x → IsChannelOf ps c
unfolding channel_at channel_between channel_to
channel_sound ps c x h =
    let two = is_not_met (int_eq c.from c.to) (channel_between ps c) SelfChannel x h in
    let from = first_of (program_or (program_numbered c.from ps)) (λ p. and_then (program_or (program_numbered c.to ps)) (λ q. channel_to p q c.from)) x two.1 in
    let to = first_of (program_or (program_numbered c.to ps)) (λ q. channel_to from.0 q c.from) x from.2 in
    let taken = first_of (input_or to.0 c.from (rule_named receive_name to.0.automaton.rules)) (λ r. output_at r (rule_named send_name from.0.automaton.rules)) x to.2 in
    let input = input_sound to.0 c.from (rule_named receive_name to.0.automaton.rules) taken.0 taken.1 in
    record {
      two = not_from_Decides (int_eq c.from c.to) (Decides-int_eq c.from c.to) two.0;
      sender = from.0;
      receiver = to.0;
      from = program_found (program_numbered c.from ps) from.0 from.1;
      to = program_found (program_numbered c.to ps) to.0 to.1;
      input = taken.0;
      found = input.0;
      takes = takes_sound (given_bindings to.0.automaton to.0.arguments) c.from (slice_get taken.0.entry.parameters 1) input.1;
      sorts = output_sound taken.0 (rule_named send_name from.0.automaton.rules) x taken.2;
    }

pub joined_sound : (ps : List Parts) (cs : List Channel) (x : Unit {0}) → all_channels_at ps cs ≡ result_is x → AllByRecursion (IsChannelOf ps) cs
joined_sound ps [] x h = tt
joined_sound ps (c ∷ cs) x h =
    let one = first_of (channel_at ps c) (λ y. all_channels_at ps cs) x h in
    (channel_sound ps c one.0 one.1, joined_sound ps cs x one.2)
