-- Each channel between nodes passes.
use Rattle.std.proofs.Common.{◌≡◌, ℤ, List, [], ◌∷◌, Option, Some, None, refl, slice_get}
use Rattle.std.specs.List.{AllByRecursion}
use Rattle.ioa_source.specs.declared.declaration.Channel.{Channel}
use Rattle.ioa_actions.specs.ActionParts.{send_name}
use Rattle.ioa_system.specs.InView.{given_bindings}
use Rattle.ioa_system.specs.Parts.{Parts, PlainRule, rule_named}
use Rattle.ioa_automata.proofs.Results.{result_is}
use Rattle.ioa_sections.specs.Channels.{program_or, input_or, output_at, channel_to, channel_between, channel_at, all_channels_at}
use Rattle.ioa_sections.specs.Meant.{TakesNumber, HaveOneMessage, IsChannelOf}
use Rattle.ioa_sections.proofs.CompleteNodes.{passes}
use Rattle.ioa_sections.proofs.Tests.{numbers_apart, takes_back, message_back}

-- the `receive` of the receiver
input_found : (p : Parts) (k : ℤ) (r : PlainRule) → TakesNumber (given_bindings p.automaton p.arguments) k (slice_get r.entry.parameters 1) → result_is r ≡ input_or p k (Some r)
unfolding input_or
input_found p k r h = rw (takes_back (given_bindings p.automaton p.arguments) k (slice_get r.entry.parameters 1) h) refl

-- the `send` of the sender
output_found : (r : PlainRule) (o : Option PlainRule) → ((s : PlainRule) → o ≡ Some s → HaveOneMessage s.shapes r.shapes) → passes ≡ output_at r o
unfolding output_at
output_found r None f = refl
output_found r (Some s) f = rw (message_back s.shapes r.shapes (f s refl)) refl

module _ (ps : List Parts) where
  to_found : (c : Channel) (h : IsChannelOf ps c) → passes ≡ channel_to h.sender h.receiver c.from
  unfolding channel_to
  to_found c h =
      rw (h.found, ← input_found h.receiver c.from h.input h.takes) (output_found h.input (rule_named send_name h.sender.automaton.rules) h.sorts)

  between_found : (c : Channel) → IsChannelOf ps c → passes ≡ channel_between ps c
  unfolding channel_between program_or
  between_found c h = rw (h.from, h.to) (to_found c h)

  channel_found : (c : Channel) → IsChannelOf ps c → passes ≡ channel_at ps c
  unfolding channel_at
  channel_found c h = rw (numbers_apart c.from c.to h.two) (between_found c h)

  pub channels_found : (cs : List Channel) → AllByRecursion (IsChannelOf ps) cs → passes ≡ all_channels_at ps cs
  channels_found [] h = refl
  channels_found (c ∷ cs) h = rw (← channel_found c h.0) (channels_found cs h.1)
