-- Whether two rules, two automata or two programs are the same (profile).
use Rattle.std.specs.Prelude.{◌≡◌, Bool, ◌&&◌, List, nat_eq, refl}
use Rattle.std.specs.Ordering.{int_eq}
use Rattle.std.specs.Bool.{Decides}
use Rattle.std.specs.Cmp.{IsPartialEquivalence, decided, partial_equiv_from_equiv}
use lib.Pointwise.{pointwise}
use Rattle.std.proofs.Common.{ap}
use Rattle.std.proofs.lemmas.Bool.Decides.{Decides-and, Decides-eqb, Decides-int_eq, Decides-like}
use Rattle.std.proofs.lemmas.Slice.Eq.{slice_eq-Decides, bytes_eq-Decides}
use Rattle.ioa_values.specs.DataOrder.{same}
use Rattle.ioa_values.proofs.Equality.{same_is}
use Rattle.ioa_operators.specs.SameShapes.{same_shape}
use Rattle.ioa_operators.specs.ShapeEquality.{same_shape_is}
use Rattle.ioa_terms.specs.SameNames.{same_callee, same_callee_is}
use Rattle.ioa_source.specs.Sides.{CheckedDeclared, CheckedVariable}
use Rattle.ioa_source.specs.SameTexts.{same_declared, same_entry, same_schedule, same_variable, same_transition}
use Rattle.ioa_source.proofs.SameTexts.{same_declared_is, same_entry_is, same_schedule_is, same_variable_is}
use Rattle.ioa_source.proofs.SameTexts.{same_transition_is}
use Rattle.ioa_system.specs.Parts.{AutomatonParts, Parts, PlainRule}

-- two rules are the same if their entries, the shapes of their arguments, their transitions and the names of their own
-- are
abbrev pub same_rule : PlainRule → PlainRule → Bool
same_rule a b =
    same_entry nat_eq same_callee same_shape a.entry b.entry
    && (pointwise same_shape a.shapes b.shapes
    && (same_transition nat_eq same_callee same_shape a.transition b.transition
    && pointwise (pointwise nat_eq) a.own b.own))

-- whether two lists have the same state variables
abbrev pub same_variables : List CheckedVariable → List CheckedVariable → Bool
same_variables vs ws = pointwise (same_variable nat_eq same_callee same_shape) vs ws

-- whether two lists have the same declared names
abbrev pub same_parameters : List CheckedDeclared → List CheckedDeclared → Bool
same_parameters ds es = pointwise (same_declared same_shape) ds es

-- two automata are the same if their parts are
abbrev pub same_automaton : AutomatonParts → AutomatonParts → Bool
same_automaton a b =
    pointwise nat_eq a.name b.name
    && (pointwise (pointwise nat_eq) a.constants b.constants
    && (same_parameters a.parameters b.parameters
    && (same_variables a.variables b.variables
    && (pointwise same_rule a.rules b.rules
    && same_schedule nat_eq same_callee same_shape a.schedule b.schedule))))

-- two programs are the same if their parts are
abbrev pub same_program : Parts → Parts → Bool
same_program a b =
    int_eq a.node b.node
    && (pointwise same a.arguments b.arguments
    && (pointwise same a.initial b.initial
    && (pointwise same a.block b.block && same_automaton a.automaton b.automaton)))

-- the test finds two rules the same if and only if they are equal
pub same_rule_is : (a b : PlainRule) → Decides (same_rule a b) (a ≡ b)
same_rule_is a b =
    Decides-like _
    (λ p i. record { entry = p.0 i; shapes = p.1.0 i; transition = p.1.1.0 i; own = p.1.1.1 i })
    (λ e. (
      ap (λ (r : PlainRule). r.entry) e,
      (
        ap (λ (r : PlainRule). r.shapes) e,
        (ap (λ (r : PlainRule). r.transition) e, ap (λ (r : PlainRule). r.own) e),
      ),
    ))
    (Decides-and _ _ (same_entry_is Decides-eqb same_callee_is same_shape_is a.entry b.entry)
    (Decides-and _ _ (slice_eq-Decides same_shape_is a.shapes b.shapes _ refl)
    (Decides-and _ _ (same_transition_is Decides-eqb same_callee_is same_shape_is a.transition b.transition)
    (slice_eq-Decides bytes_eq-Decides a.own b.own _ refl))))

pub same_rule_partial : IsPartialEquivalence same_rule
same_rule_partial = partial_equiv_from_equiv (decided same_rule same_rule_is)

-- two automata
pub same_automaton_is : (a b : AutomatonParts) → Decides (same_automaton a b) (a ≡ b)
same_automaton_is a b =
    Decides-like _
    (λ p i. record {
      name = p.0 i;
      constants = p.1.0 i;
      parameters = p.1.1.0 i;
      variables = p.1.1.1.0 i;
      rules = p.1.1.1.1.0 i;
      schedule = p.1.1.1.1.1 i;
    })
    (λ e. (
      ap (λ (x : AutomatonParts). x.name) e,
      (
        ap (λ (x : AutomatonParts). x.constants) e,
        (
          ap (λ (x : AutomatonParts). x.parameters) e,
          (
            ap (λ (x : AutomatonParts). x.variables) e,
            (ap (λ (x : AutomatonParts). x.rules) e, ap (λ (x : AutomatonParts). x.schedule) e),
          ),
        ),
      ),
    ))
    (Decides-and _ _ (bytes_eq-Decides a.name b.name)
    (Decides-and _ _ (slice_eq-Decides bytes_eq-Decides a.constants b.constants _ refl)
    (Decides-and _ _ (slice_eq-Decides (same_declared_is same_shape_is) a.parameters b.parameters _ refl)
    (Decides-and _ _
    (slice_eq-Decides (same_variable_is Decides-eqb same_callee_is same_shape_is) a.variables b.variables _ refl)
    (Decides-and _ _ (slice_eq-Decides same_rule_is a.rules b.rules _ refl)
    (same_schedule_is Decides-eqb same_callee_is same_shape_is a.schedule b.schedule))))))

-- and two programs
pub same_program_is : (a b : Parts) → Decides (same_program a b) (a ≡ b)
same_program_is a b =
    Decides-like _
    (λ p i. record {
      node = p.0 i;
      automaton = p.1.1.1.1 i;
      arguments = p.1.0 i;
      initial = p.1.1.0 i;
      block = p.1.1.1.0 i;
    })
    (λ e. (
      ap (λ (p : Parts). p.node) e,
      (
        ap (λ (p : Parts). p.arguments) e,
        (
          ap (λ (p : Parts). p.initial) e,
          (ap (λ (p : Parts). p.block) e, ap (λ (p : Parts). p.automaton) e),
        ),
      ),
    ))
    (Decides-and _ _ (Decides-int_eq a.node b.node)
    (Decides-and _ _ (slice_eq-Decides same_is a.arguments b.arguments _ refl)
    (Decides-and _ _ (slice_eq-Decides same_is a.initial b.initial _ refl)
    (Decides-and _ _ (slice_eq-Decides same_is a.block b.block _ refl)
    (same_automaton_is a.automaton b.automaton)))))
