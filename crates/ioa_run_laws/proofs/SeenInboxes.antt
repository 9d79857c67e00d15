-- The inboxes that a schedule block sees have their shape.
use Rattle.std.proofs.Common.{◌≡◌, ℤ, Bool, true, false, List, [], ◌∷◌, Option, Some, None, if◌then◌else◌, refl, sym, ap, subst, ◌∙◌}
use Rattle.std.specs.Prelude.{is_some, slice_get}
use Rattle.std.specs.List.{AllByRecursion, Contains}
use Rattle.std.specs.Option.{IfSome, option_and_then}
use Rattle.std.specs.Ordering.{int_eq}
use Rattle.std.proofs.lemmas.Bool.Decides.{Decides-int_eq}
use Rattle.std.proofs.lemmas.Slice.Eq.{bytes_eq-Decides}
use Rattle.ioa_values.specs.Data.{Data}
use Rattle.ioa_values.proofs.AllOf.{all_appended}
use Rattle.ioa_operators.specs.Shapes.{PlainShape}
use Rattle.ioa_operators.proofs.Holding.{map_holds}
use Rattle.ioa_terms.specs.Bindings.{same_word}
use Rattle.ioa_terms.specs.Inboxes.{inbox_values}
use Rattle.ioa_terms.proofs.ShapesKept.{Has, HoldShaped, inboxes_have}
use Rattle.ioa_actions.specs.ActionParts.{receive_name}
use Rattle.ioa_actions.specs.declared.component.Component.{Component}
use Rattle.ioa_actions.specs.declared.component.Component.TheVariants as component
use Rattle.ioa_source.specs.PlainText.{named}
use Rattle.ioa_source.specs.Sides.{SourceEntry, SourceText, CheckedDeclared}
use Rattle.ioa_system.specs.InView.{entry_constant}
use Rattle.ioa_system.specs.Parts.{Parts, PlainRule, message_shape, rule_named}
use Rattle.ioa_system.specs.Systems.{SystemParts}
use Rattle.ioa_sorts.proofs.Lookups.{contained_found, found_contained}
use Rattle.ioa_automata.specs.SortedAutomata.{IsConstantAt, IsRuleOf, names_at}
use Rattle.ioa_check.proofs.Declared.{declared_once}
use Rattle.ioa_system.specs.Systems.{program_numbered}
use Rattle.ioa_check.specs.Systems.{IsSystemOf}
use Rattle.ioa_channels.specs.Queues.{messages_of}
use Rattle.ioa_channels.specs.declared.queue.Item.{Item}
use Rattle.ioa_channels.specs.declared.queue.Item.TheVariants.{Message, Stimulus}
use Rattle.ioa_compose.specs.declared.configuration.Conf.{Conf}
use Rattle.ioa_compose.specs.declared.configuration.Conf.TheVariants.{Node, Queue}
use Rattle.ioa_turns.specs.Inboxes.{inbox_of, inbox_at, inboxes_in, inboxes_seen}
use Rattle.ioa_run_laws.specs.Shaped.{FitInboxes, IsMessageTo, IsItemTo, IsShapedQueue, IsShapedConf, AreShaped}
use Rattle.ioa_run_laws.proofs.Accepted.{IsAcceptedProgram, is_accepted}
use Rattle.ioa_run_laws.proofs.Messages.{first_named}
use Rattle.ioa_run_laws.proofs.NodeSteps.{is_rule}

of_some : {A : Type 0} (a b : A) → Some a ≡ Some b → a ≡ b
of_some a b e = cc

-- a message to the node of a program has the shape that the program's automaton takes
pub message_has : (x : SourceText) (s : SystemParts) → IsSystemOf x s → (p : Parts) → Contains s.programs p → (t : PlainShape) → message_shape p.automaton.rules ≡ Some t → (m : Data) → IsMessageTo s p.node m → Has t m
message_has x s h p present t e m k = subst (λ (z : PlainShape). Has z m) (sym shape) k.fits
  where
    found : program_numbered p.node s.programs ≡ Some p
    found = contained_found int_eq (λ k. (Decides-int_eq k k).1 refl) (λ (q : Parts). q.node) s.programs (declared_once x s h).nodes p present

    there : rule_named receive_name p.automaton.rules ≡ Some k.input
    there =
        let same : k.receiver ≡ p = of_some k.receiver p (sym k.to ∙ found) in
        subst (λ (q : Parts). rule_named receive_name q.automaton.rules ≡ Some k.input) same k.found

    first_shape : slice_get k.input.shapes 0 ≡ Some t
    first_shape = sym (ap (λ (o : Option PlainRule). option_and_then (λ (r : PlainRule). slice_get r.shapes 0) o) there) ∙ e

    rule_found : Contains p.automaton.rules k.input × (same_word k.input.entry.name receive_name ≡ true)
    rule_found = found_contained (λ (r : PlainRule). same_word r.entry.name receive_name) p.automaton.rules k.input there

    accepted : IsAcceptedProgram h.types p
    accepted = is_accepted x s h p present

    taken_by : (u : SourceEntry) × IsRuleOf h.types p.automaton.parameters p.automaton.variables accepted.source.transitions u k.input
    taken_by = is_rule h.types p accepted k.input rule_found.0

    free : IsConstantAt k.input.entry.parameters 0 → ⊥
    free = (taken_by.1.message.receive ((bytes_eq-Decides k.input.entry.name receive_name).0 rule_found.1)).message

    first : (d : CheckedDeclared) × (slice_get k.input.entry.parameters 0 ≡ Some (named d)) × (t ≡ d.shape)
    first =
        first_named h.types.types (names_at entry_constant h.types.constants p.automaton.parameters p.automaton.variables [])
        taken_by.0.parameters k.input.entry.parameters k.input.shapes t taken_by.1.parameters first_shape free

    shape : t ≡ k.parameter.shape
    shape =
        let both : Some (named first.0) ≡ Some (named k.parameter) = sym first.1 ∙ k.first in
        let same : first.0 ≡ k.parameter = cc in
        first.2 ∙ ap (λ (d : CheckedDeclared). d.shape) same

-- what waits for a node, if the messages to it have a shape
module _ (s : SystemParts) (node : ℤ) (t : PlainShape) (has : (m : Data) → IsMessageTo s node m → Has t m) where
  messages_have : (items : List Item) → AllByRecursion (IsItemTo s node) items → IfSome (messages_of items) (AllByRecursion (Has t))
  messages_have [] k = tt
  messages_have (Message m ∷ more) k =
      map_holds (AllByRecursion (Has t)) (AllByRecursion (Has t)) (λ (ms : List Data). m ∷ ms) (messages_of more)
      (messages_have more k.1) (λ ms l. (has m k.0, l))
  messages_have (Stimulus a ∷ more) k = absurd k.0

  script_has : (l : ℤ) (o : Option (List Data)) → HoldShaped t (inbox_of node o (component.Script l))
  script_has l None = tt
  script_has l (Some ms) = tt

  channel_has : (i j : ℤ) (o : Option (List Data)) → (j ≡ node → IfSome o (AllByRecursion (Has t))) → HoldShaped t (inbox_of node o (component.Channel i j))
  channel_has i j None k = tt
  channel_has i j (Some ms) k = by_test (int_eq j node) refl
    where
      by_test : (b : Bool) → int_eq j node ≡ b → HoldShaped t (if b then (i, ms) ∷ [] else [])
      by_test true e = (k ((Decides-int_eq j node).0 e), tt)
      by_test false e = tt

  queue_has : (c : Component) (items : List Item) → IsShapedQueue s c items → HoldShaped t (inbox_of node (messages_of items) c)
  queue_has (component.Node l) items k = absurd k
  queue_has (component.Channel i j) items k =
      channel_has i j (messages_of items) (λ e. messages_have items (subst (λ (l : ℤ). AllByRecursion (IsItemTo s l) items) e k.messages))
  queue_has (component.Script l) items k = script_has l (messages_of items)

  conf_has : (c : Conf) → IsShapedConf s c → HoldShaped t (inbox_at node c)
  conf_has (Node c) k = tt
  conf_has (Queue q) k = queue_has q.component q.items k

  inboxes_shaped : (cs : List Conf) → AreShaped s cs → HoldShaped t (inboxes_in node cs)
  inboxes_shaped [] k = tt
  inboxes_shaped (c ∷ cs) k =
      all_appended (λ (i : ℤ × List Data). AllByRecursion (Has t) i.1) (inbox_at node c) (inboxes_in node cs) (conf_has c k.0) (inboxes_shaped cs k.1)

pub seen_fit : (x : SourceText) (s : SystemParts) → IsSystemOf x s → (p : Parts) → Contains s.programs p → (cs : List Conf) → AreShaped s cs → FitInboxes (message_shape p.automaton.rules) (inbox_values (inboxes_seen p cs))
seen_fit x s h p present cs shaped = by_shape (message_shape p.automaton.rules) refl
  where
    by_shape : (o : Option PlainShape) → message_shape p.automaton.rules ≡ o → FitInboxes o (inbox_values (if is_some o then Some (inboxes_in p.node cs) else None))
    by_shape None e = tt
    by_shape (Some t) e = inboxes_have t (inboxes_in p.node cs) (inboxes_shaped s p.node t (message_has x s h p present t e) cs shaped)
