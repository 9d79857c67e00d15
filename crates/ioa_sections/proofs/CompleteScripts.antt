-- Each script of a text is found.
use Rattle.std.proofs.Common.{◌≡◌, ◌≢◌, ℕ, ℤ, Bool, true, false, List, [], Some, refl, ap}
use Rattle.std.specs.List.{AllZip, IsDistinct}
use Rattle.std.proofs.lemmas.Slice.Eq.{bytes_eq-Decides}
use Rattle.ioa_terms.specs.Bindings.{same_word}
use Rattle.ioa_terms.specs.SameTerms.{same_kind}
use Rattle.ioa_terms.specs.Sorted.{NameShapes}
use Rattle.ioa_terms.specs.declared.tree.Kind.TheVariants.{Input}
use Rattle.ioa_terms.proofs.SameTerms.{kind_is}
use Rattle.ioa_actions.specs.ActionParts.{send_name, receive_name, node_action}
use Rattle.ioa_actions.specs.declared.action.NodeAction.{NodeAction}
use Rattle.ioa_source.specs.Sides.{SourceCall, SourcePlacement, SourceScript}
use Rattle.ioa_system.specs.Parts.{AutomatonParts, Parts, PlainRule, rule_named}
use Rattle.ioa_system.specs.Systems.{ScriptParts, script_parts}
use Rattle.ioa_automata.proofs.Results.{result_is, zip_weaker}
use Rattle.ioa_sections.specs.Sections.{scripts_in}
use Rattle.ioa_sections.specs.Channels.{program_or}
use Rattle.ioa_sections.specs.Scripts.{same_node, scripts_or, input_of, input_called, stimulus_at, stimuli_at, script_at, script_of, scripts_at}
use Rattle.ioa_sections.specs.Meant.{IsStimulusOf, IsScriptOf}
use Rattle.ioa_sections.proofs.CompleteNodes.{all_are, given_found}
use Rattle.ioa_sections.proofs.Tests.{differ_anew}

-- the scripts of a system section
listed_scripts : (ss : List SourceScript) → IsDistinct same_node ss → result_is ss ≡ scripts_or ss
unfolding scripts_or
listed_scripts ss differ = rw (differ_anew same_node [] ss differ) refl

words_differ : (w v : List ℕ) → w ≢ v → same_word w v ≡ false
words_differ w v f = by_test (same_word w v) refl
  where
    by_test : (b : Bool) → same_word w v ≡ b → same_word w v ≡ false
    by_test true e = absurd (f ((bytes_eq-Decides w v).0 e))
    by_test false e = e

-- the rule of an input that a call names
called_found : (w : List ℕ) (rs : List PlainRule) (r : PlainRule) → w ≢ send_name → w ≢ receive_name → rule_named w rs ≡ Some r → r.entry.kind ≡ Input → result_is r ≡ input_called w rs
unfolding input_called input_of
called_found w rs r no_send no_receive found kind =
    let test : same_kind r.entry.kind Input ≡ true = (kind_is r.entry.kind Input).1 kind in
    rw (words_differ w send_name no_send, words_differ w receive_name no_receive, found, test) refl

-- a call, as a stimulus
module _ (names : NameShapes) (k : ℤ) (a : AutomatonParts) where
  stimulus_found : (c : SourceCall) (x : NodeAction) → IsStimulusOf names k a c x → result_is x ≡ stimulus_at names k a c
  unfolding stimulus_at
  stimulus_found c x h =
      rw (← called_found c.name a.rules h.input h.no_send h.no_receive h.found h.kind, ← given_found names h.input.shapes c.arguments h.arguments x.arguments h.sorted h.given)
      (ap result_is rebuilt)
    where
      rebuilt : x ≡ node_action k c.name x.arguments
      rebuilt = λ i. record { node = h.node i; name = h.name i; arguments = x.arguments }

  stimuli_found : (cs : List SourceCall) (xs : List NodeAction) → AllZip (IsStimulusOf names k a) cs xs → result_is xs ≡ stimuli_at names k a cs
  stimuli_found cs xs h = all_are (stimulus_at names k a) cs xs (zip_weaker (IsStimulusOf names k a) (λ c x. result_is x ≡ stimulus_at names k a c) stimulus_found cs xs h)

-- scripts, whose nodes have these programs
module _ (names : NameShapes) (ps : List Parts) where
  script_found : (s : SourceScript) (c : ScriptParts) → IsScriptOf names ps s c → result_is c ≡ script_of names ps s
  unfolding script_at program_or
  script_found s c h =
      rw (h.of_node, ← stimuli_found names s.node h.program.automaton s.calls c.stimuli h.stimuli) (ap result_is rebuilt)
    where
      rebuilt : c ≡ script_parts s.node c.stimuli
      rebuilt = λ i. record { node = h.node i; stimuli = c.stimuli }

  pub scripts_found : (placements : List SourcePlacement) (cs : List ScriptParts) → IsDistinct same_node (scripts_in placements) → AllZip (IsScriptOf names ps) (scripts_in placements) cs → result_is cs ≡ scripts_at names ps placements
  unfolding scripts_at
  scripts_found placements cs differ h =
      rw (← listed_scripts (scripts_in placements) differ)
      (all_are (script_of names ps) (scripts_in placements) cs (zip_weaker (IsScriptOf names ps) (λ s c. result_is c ≡ script_of names ps s) script_found (scripts_in placements) cs h))
