-- When arguments are those of an action, and that an action which is fired may be kept.
use Rattle.std.proofs.Common.{◌≡◌, ◌<◌, ◌≤◌, ℕ, ℤ, List, [], ◌∷◌, Bool, true, false, Some, None, length, refl, sym, ap, subst, ◌∙◌, arith}
use Rattle.std.specs.Prelude.{◌&&◌}
use Rattle.std.proofs.lemmas.Slice.Eq.{slice_eq-Decides}
use Rattle.std.specs.Bool.{Decides}
use Rattle.std.specs.Ordering.{int_eq}
use Rattle.std.proofs.lemmas.Bool.Decides.{Decides-int_eq}
use Rattle.ioa_values.specs.Data.{Data, number, truth, constant, tuple, sequence, finite_set, finite_map, as_number}
use Rattle.ioa_values.specs.DataOrder.{same}
use Rattle.ioa_values.proofs.Equality.{same_equal, same_itself}
use Rattle.ioa_actions.specs.ActionParts.{action_arguments, action_name}
use Rattle.ioa_actions.specs.ValuesOrder.{all_same}
use Rattle.ioa_actions.specs.declared.action.Action.{Action}
use Rattle.ioa_operators.specs.declared.shape.Shape.{Shape}
use Rattle.ioa_terms.specs.declared.callee.Callee.{Callee}
use Rattle.ioa_terms.specs.PlainTerm.{PlainFiring, PlainStatements, no_statements, statement}
use Rattle.ioa_schedules.specs.Turns.{IsAtFiring}
use Rattle.ioa_system.proofs.Numbers.{one_name}
use Rattle.ioa_system.specs.Numbered.{IsNumberOf, IsNumbered, AreNumbered}
use Rattle.ioa_system.specs.Parts.{Parts, PlainRule}
use Rattle.ioa_turns.specs.Fired.{action_fired}
use Rattle.ioa_turns.specs.LastFired.{IsFiredBy}
use Rattle.ioa_turns.proofs.Fired.{fired_named, fired_kept}

and_false : (b : Bool) → (b && false) ≡ false
and_false true = refl
and_false false = refl

-- arguments that are the same by a test are one list
Decides-same : (a b : Data) → Decides (same a b) (a ≡ b)
Decides-same a b = (same_equal a b, λ e. rw (← e) (same_itself a))

pub all_same_are : (vs ws : List Data) → all_same vs ws ≡ true → vs ≡ ws
all_same_are vs ws h = (slice_eq-Decides Decides-same vs ws _ refl).0 h

-- a value that is a number
number_of : (v : Data) (n : ℤ) → as_number v ≡ Some n → v ≡ number n
number_of (number z) n h = let same : z ≡ n = cc in ap number same
number_of (truth b) n h = absurd (cc)
number_of (constant k) n h = absurd (cc)
number_of (tuple ds) n h = absurd (cc)
number_of (sequence ds) n h = absurd (cc)
number_of (finite_set ds) n h = absurd (cc)
number_of (finite_map es) n h = absurd (cc)

-- two numbers are the same by a test of numbers
numbers_same : (n w : ℤ) → int_eq n w ≡ same (number w) (number n)
numbers_same n w = by_tests (int_eq n w) (same (number w) (number n)) refl refl
  where
    by_tests : (a b : Bool) → int_eq n w ≡ a → same (number w) (number n) ≡ b → a ≡ b
    by_tests true true e f = refl
    by_tests false false e f = refl
    by_tests true false e f =
        let equal : n ≡ w = (Decides-int_eq n w).0 e in
        let itself : same (number w) (number n) ≡ true = rw equal (same_itself (number w)) in
        absurd (cc)
    by_tests false true e f =
        let equal : number w ≡ number n = same_equal (number w) (number n) f in
        let one : w ≡ n = cc in
        let itself : int_eq n w ≡ true = (Decides-int_eq n w).1 (sym one) in
        absurd (cc)

pub number_same : (v : Data) (n w : ℤ) → as_number v ≡ Some n → int_eq n w ≡ same (number w) v
number_same v n w h = rw (number_of v n h) (numbers_same n w)

pub no_number : (v : Data) (w : ℤ) → as_number v ≡ None → false ≡ same (number w) v
no_number (number z) w h = absurd (cc)
no_number (truth b) w h = refl
no_number (constant k) w h = refl
no_number (tuple ds) w h = refl
no_number (sequence ds) w h = refl
no_number (finite_set ds) w h = refl
no_number (finite_map es) w h = refl

pub number_first : (v u : Data) (n : ℤ) (b : Bool) → as_number v ≡ Some n → b ≡ same (number n) u → b ≡ same v u
number_first v u n b h e = rw (number_of v n h) e

-- three values are not the same as fewer or as more
pub fewer : (u v w : Data) (vs : List Data) → length vs < 3 → false ≡ all_same (u ∷ v ∷ w ∷ []) vs
fewer u v w [] h = refl
fewer u v w (a ∷ []) h = sym (and_false (same u a))
fewer u v w (a ∷ b ∷ []) h = rw (and_false (same v b)) (sym (and_false (same u a)))
fewer u v w (a ∷ b ∷ c ∷ more) h = absurd (omega (arith, h))

pub further : (u v w : Data) (vs : List Data) → 4 ≤ length vs → false ≡ all_same (u ∷ v ∷ w ∷ []) vs
further u v w [] h = absurd (omega (arith, h))
further u v w (a ∷ []) h = absurd (omega (arith, h))
further u v w (a ∷ b ∷ []) h = absurd (omega (arith, h))
further u v w (a ∷ b ∷ c ∷ []) h = absurd (omega (arith, h))
further u v w (a ∷ b ∷ c ∷ d ∷ more) h = rw (and_false (same w c), and_false (same v b)) (sym (and_false (same u a)))

-- a message and its ends, whatever the ends are called
pub same_ends : (b : Bool) (m : Data) (i j k l : ℤ) (vs : List Data) → b ≡ all_same (m ∷ number i ∷ number j ∷ []) vs → i ≡ k → j ≡ l → b ≡ all_same (m ∷ number k ∷ number l ∷ []) vs
same_ends b m i j k l vs h e f = rw (← e, ← f) h

-- an action that is fired may be kept with the number of its rule
pub fired_is : (p : Parts) (n : ℕ) (a : Action) (w : List ℕ) (vs : List Data) → IsNumberOf p.automaton.rules w n → a ≡ action_fired p w vs → IsFiredBy p (Some (n, a))
fired_is p n a w vs numbered e =
    let named : action_name a ≡ w = ap action_name e ∙ fired_named p w vs in
    let given : action_arguments a ≡ vs = ap action_arguments e ∙ fired_kept p w vs in
    (rw named numbered, rw (named, given) (sym e))

-- one that was kept is fired again by a firing of the same rule with the same arguments
pub fired_again : (p : Parts) (n : ℕ) (a : Action) (w : List ℕ) (vs : List Data) → IsFiredBy p (Some (n, a)) → IsNumberOf p.automaton.rules w n → action_arguments a ≡ vs → a ≡ action_fired p w vs
fired_again p n a w vs kept numbered given =
    let named : action_name a ≡ w = one_name (action_name a) w p.automaton.rules n kept.0 numbered in
    sym ((λ i. action_fired p (sym named i) (sym given i)) ∙ kept.1)

-- the block stands at a firing that bears the number of its rule
pub firing_numbered : (rules : List PlainRule) (f : PlainFiring ℕ Callee Shape) (todo : PlainStatements ℕ Callee Shape) → IsAtFiring f todo → AreNumbered rules todo → IsNumberOf rules f.action f.rule
firing_numbered rules f no_statements h n = absurd h
firing_numbered rules f (statement s rest) h n = subst (IsNumbered rules) h n.0
