-- A fired action is of its entry's kind, and has the name and the arguments that it is fired with.
use Rattle.std.proofs.Common.{◌≡◌, ◌≢◌, inl, inr, ℕ, ℤ, Bool, true, false, List, Option, Some, None, if◌then◌else◌, refl, nat_eq}
use Rattle.std.proofs.lemmas.Slice.Eq.{bytes_eq-Decides}
use lib.Pointwise.{pointwise}
use Rattle.ioa_values.specs.Data.{Data}
use Rattle.ioa_terms.specs.SameTerms.{same_kind}
use Rattle.ioa_terms.specs.declared.tree.Kind.{Kind}
use Rattle.ioa_terms.specs.declared.tree.Kind.TheVariants.{Input, Output, Internal}
use Rattle.ioa_terms.proofs.SameTerms.{kind_is}
use Rattle.ioa_actions.specs.ActionParts.{send_name, receive_name, action_name, action_arguments, message_and_ends, node_action, input_by, input_at, locally_controlled_by, locally_controlled_at}
use Rattle.ioa_actions.specs.declared.action.Action.{Action}
use Rattle.ioa_actions.specs.declared.action.Action.TheVariants.{Send, Receive, Local, Stimulus}
use Rattle.ioa_actions.proofs.Parts.{input_named, input_kept, controlled_named, controlled_kept}
use Rattle.ioa_system.specs.Parts.{Parts, PlainRule, rule_named}
use Rattle.ioa_transitions.specs.NodeStep.{IsOfKind}
use Rattle.ioa_turns.specs.Fired.{AreArgumentsFor, is_input, action_fired}

-- the name and the arguments
by_kind : (P : Action → Type 0) (b : Bool) (x y : Action) → P x → P y → P (if b then x else y)
by_kind P true x y h k = h
by_kind P false x y h k = k

pub fired_named : (p : Parts) (w : List ℕ) (vs : List Data) → action_name (action_fired p w vs) ≡ w
fired_named p w vs =
    by_kind (λ a. action_name a ≡ w) (is_input (rule_named w p.automaton.rules)) (input_at p.node w vs) (locally_controlled_at p.node w vs) (input_named p.node w vs) (controlled_named p.node w vs)

pub fired_kept : (p : Parts) (w : List ℕ) (vs : List Data) → action_arguments (action_fired p w vs) ≡ vs
fired_kept p w vs =
    by_kind (λ a. action_arguments a ≡ vs) (is_input (rule_named w p.automaton.rules)) (input_at p.node w vs) (locally_controlled_at p.node w vs) (input_kept p.node w vs) (controlled_kept p.node w vs)

words_apart : (w v : List ℕ) → pointwise nat_eq w v ≡ false → w ≢ v
words_apart w v h = λ e. let same = (bytes_eq-Decides w v).1 e in absurd (cc)

-- the kind
module _ (n : ℤ) (w : List ℕ) (vs : List Data) where
  input_kind : (k : Kind) → AreArgumentsFor k w vs → k ≡ Input → (o : Option (Data × ℤ × ℤ)) → message_and_ends vs ≡ o → IsOfKind (input_by n w vs o) k
  input_kind k h e None f = (e, λ same. let message = (h.receive same).1 in let none = message.1 in absurd (cc))
  input_kind k h e (Some p) f = by_name (pointwise nat_eq w receive_name) refl
    where
      by_name : (b : Bool) → pointwise nat_eq w receive_name ≡ b → IsOfKind (if b then Receive p.0 p.1 p.2 else Stimulus (node_action n w vs)) k
      by_name true t = e
      by_name false t = (e, words_apart w receive_name t)

  local_kind : (k : Kind) → (k ≡ Input → ⊥) → w ≢ send_name → IsOfKind (Local (node_action n w vs)) k
  local_kind Input f g = absurd (f refl)
  local_kind Output f g = inr (refl, g)
  local_kind Internal f g = inl refl

  controlled_kind : (k : Kind) → AreArgumentsFor k w vs → (k ≡ Input → ⊥) → (o : Option (Data × ℤ × ℤ)) → message_and_ends vs ≡ o → IsOfKind (locally_controlled_by n w vs o) k
  controlled_kind k h e None f = local_kind k e (λ same. let message = (h.send same).1 in let none = message.1 in absurd (cc))
  controlled_kind k h e (Some p) f = by_name (pointwise nat_eq w send_name) refl
    where
      by_name : (b : Bool) → pointwise nat_eq w send_name ≡ b → IsOfKind (if b then Send p.0 p.1 p.2 else Local (node_action n w vs)) k
      by_name true t = (h.send ((bytes_eq-Decides w send_name).0 t)).0
      by_name false t = local_kind k e (words_apart w send_name t)

pub fired_kind : (p : Parts) (r : PlainRule) (w : List ℕ) (vs : List Data) → rule_named w p.automaton.rules ≡ Some r → AreArgumentsFor r.entry.kind w vs → IsOfKind (action_fired p w vs) r.entry.kind
fired_kind p r w vs found h = rw found (by_test (same_kind r.entry.kind Input) refl)
  where
    by_test : (b : Bool) → same_kind r.entry.kind Input ≡ b → IsOfKind (if b then input_at p.node w vs else locally_controlled_at p.node w vs) r.entry.kind
    by_test true t = input_kind p.node w vs r.entry.kind h ((kind_is r.entry.kind Input).0 t) (message_and_ends vs) refl
    by_test false t = controlled_kind p.node w vs r.entry.kind h (λ e. let same = (kind_is r.entry.kind Input).1 e in absurd (cc)) (message_and_ends vs) refl
