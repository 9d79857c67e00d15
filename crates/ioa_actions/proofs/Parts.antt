-- The action that a name and arguments give has that name and these arguments.
use Rattle.std.proofs.Common.{◌≡◌, ℕ, ℤ, Bool, true, false, List, [], ◌∷◌, Option, Some, None, if◌then◌else◌, nat_eq, refl, ap, sym, ◌∙◌}
use Rattle.std.specs.Option.{option_and_then, option_map}
use Rattle.std.proofs.lemmas.Slice.Eq.{bytes_eq-Decides}
use lib.Pointwise.{pointwise}
use Rattle.ioa_values.specs.Data.{Data, number, truth, constant, tuple, sequence, finite_set, finite_map, as_number}
use Rattle.ioa_actions.specs.ActionParts.{send_name, receive_name, action_name, action_arguments, message_and_ends, node_action, input_by, input_at, locally_controlled_by, locally_controlled_at}
use Rattle.ioa_actions.specs.declared.action.Action.{Action}
use Rattle.ioa_actions.specs.declared.action.Action.TheVariants.{Send, Receive, Local, Stimulus}

-- a number that a value is, is the value
number_is : (v : Data) (z : ℤ) → as_number v ≡ Some z → number z ≡ v
number_is (number x) z e = let same : x ≡ z = cc in ap number (sym same)
number_is (truth b) z e = absurd (cc)
number_is (constant k) z e = absurd (cc)
number_is (tuple ds) z e = absurd (cc)
number_is (sequence ds) z e = absurd (cc)
number_is (finite_set ds) z e = absurd (cc)
number_is (finite_map es) z e = absurd (cc)

-- a message and its ends, as arguments
abbrev as_arguments : Data × ℤ × ℤ → List Data
as_arguments p = p.0 ∷ number p.1 ∷ number p.2 ∷ []

-- the arguments that are a message and its ends
ends_are : (vs : List Data) (p : Data × ℤ × ℤ) → message_and_ends vs ≡ Some p → as_arguments p ≡ vs
ends_are [] p e = absurd (cc)
ends_are (m ∷ []) p e = absurd (cc)
ends_are (m ∷ x ∷ []) p e = absurd (cc)
ends_are (m ∷ x ∷ y ∷ []) p e = by_ends (as_number x) (as_number y) refl refl e
  where
    by_ends : (a b : Option ℤ) → as_number x ≡ a → as_number y ≡ b → option_and_then (λ i. option_map (λ j. (m, i, j)) b) a ≡ Some p → as_arguments p ≡ m ∷ x ∷ y ∷ []
    by_ends None b f g h = absurd (cc)
    by_ends (Some i) None f g h = absurd (cc)
    by_ends (Some i) (Some j) f g h =
        let same : (m, i, j) ≡ p = cc in
        rw (← same) (rw (number_is x i f, number_is y j g) refl)
ends_are (m ∷ x ∷ y ∷ z ∷ more) p e = absurd (cc)

-- an action that a test of its name chooses: with a message and its ends, or without
abbrev by_test : Action → Action → Bool → Action
by_test message other b = if b then message else other

-- its name is that of both
named_by_test : (name : List ℕ) (message other : Action) (word : List ℕ) (b : Bool) → pointwise nat_eq name word ≡ b → action_name message ≡ word → action_name other ≡ name → action_name (by_test message other b) ≡ name
named_by_test name message other word true e m o = m ∙ sym ((bytes_eq-Decides name word).0 e)
named_by_test name message other word false e m o = o

-- its arguments are those of both
kept_by_test : (vs : List Data) (message other : Action) (b : Bool) → action_arguments message ≡ vs → action_arguments other ≡ vs → action_arguments (by_test message other b) ≡ vs
kept_by_test vs message other true m o = m
kept_by_test vs message other false m o = o

-- the input that a name and arguments give has that name
input_by_named : (k : ℤ) (name : List ℕ) (vs : List Data) (p : Option (Data × ℤ × ℤ)) → action_name (input_by k name vs p) ≡ name
input_by_named k name vs None = refl
input_by_named k name vs (Some p) =
    named_by_test name (Receive p.0 p.1 p.2) (Stimulus (node_action k name vs)) receive_name (pointwise nat_eq name receive_name) refl refl refl

pub input_named : (k : ℤ) (name : List ℕ) (vs : List Data) → action_name (input_at k name vs) ≡ name
input_named k name vs = input_by_named k name vs (message_and_ends vs)

-- and these arguments
input_by_kept : (k : ℤ) (name : List ℕ) (vs : List Data) (p : Option (Data × ℤ × ℤ)) → message_and_ends vs ≡ p → action_arguments (input_by k name vs p) ≡ vs
input_by_kept k name vs None e = refl
input_by_kept k name vs (Some p) e =
    kept_by_test vs (Receive p.0 p.1 p.2) (Stimulus (node_action k name vs)) (pointwise nat_eq name receive_name) (ends_are vs p e) refl

pub input_kept : (k : ℤ) (name : List ℕ) (vs : List Data) → action_arguments (input_at k name vs) ≡ vs
input_kept k name vs = input_by_kept k name vs (message_and_ends vs) refl

-- so has the action that a node controls
controlled_by_named : (k : ℤ) (name : List ℕ) (vs : List Data) (p : Option (Data × ℤ × ℤ)) → action_name (locally_controlled_by k name vs p) ≡ name
controlled_by_named k name vs None = refl
controlled_by_named k name vs (Some p) =
    named_by_test name (Send p.0 p.1 p.2) (Local (node_action k name vs)) send_name (pointwise nat_eq name send_name) refl refl refl

pub controlled_named : (k : ℤ) (name : List ℕ) (vs : List Data) → action_name (locally_controlled_at k name vs) ≡ name
controlled_named k name vs = controlled_by_named k name vs (message_and_ends vs)

controlled_by_kept : (k : ℤ) (name : List ℕ) (vs : List Data) (p : Option (Data × ℤ × ℤ)) → message_and_ends vs ≡ p → action_arguments (locally_controlled_by k name vs p) ≡ vs
controlled_by_kept k name vs None e = refl
controlled_by_kept k name vs (Some p) e =
    kept_by_test vs (Send p.0 p.1 p.2) (Local (node_action k name vs)) (pointwise nat_eq name send_name) (ends_are vs p e) refl

pub controlled_kept : (k : ℤ) (name : List ℕ) (vs : List Data) → action_arguments (locally_controlled_at k name vs) ≡ vs
controlled_kept k name vs = controlled_by_kept k name vs (message_and_ends vs) refl
