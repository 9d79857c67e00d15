-- Two proofs that two texts are the same are the same, since the parts of texts are plain data.
use Rattle.std.proofs.Common.{◌≡◌, ℕ, List, Option, Some, None, refl}
use Rattle.std.proofs.Math.IntN.{ℤ_set}
use Rattle.std.proofs.Math.Nat.{ℕ_set}
use Rattle.std.proofs.Math.Bool.{Bool-set}
use Rattle.std.proofs.Math.Option.{is_set as maybe_set}
use mathlib.Core.Option as maybe
use mathlib.Core.List.{is_set as List-set}
use base.Stored.{Coded-set}
use ghost.Sets.{retract_set}
use Rattle.ioa_operators.specs.contracts.operator.UnaryOperator as unary
use Rattle.ioa_operators.specs.contracts.operator.BinaryOperator as binary
use Rattle.ioa_operators.specs.contracts.shape.DisplayForm as form
use Rattle.ioa_terms.specs.declared.name.Name.{Name}
use Rattle.ioa_terms.specs.contracts.name.Name as called
use Rattle.ioa_terms.specs.declared.tree.Kind.{Kind}
use Rattle.ioa_terms.specs.contracts.tree.Kind as kind
use Rattle.ioa_terms.specs.PlainTerm.{PlainTerm-set, PlainTarget-set, PlainStatement-set, PlainFiring-set, PlainChoice-set}
use Rattle.ioa_source.specs.contracts.declaration.Channel as channel
use Rattle.ioa_terms.specs.PlainSort.{PlainSort-set}
use Rattle.ioa_source.specs.PlainText.{PlainDeclared-set, PlainParameter-set, PlainEntry-set, PlainVariable-set, PlainTransition-set, PlainSchedule-set, PlainAutomaton-set, PlainForm-set, PlainType-set, PlainDeclaration-set, PlainNode-set, PlainCall-set, PlainScript-set, PlainPlacement-set, PlainInvariant-set, PlainText-set}
use Rattle.ioa_source.specs.Sides.{SourceTerm, SourceTarget, SourceStatement, SourceFiring, SourceChoice, SourceDeclared, SourceEntry, SourceVariable, SourceTransition, SourceSchedule, SourceAutomaton, SourceDeclaration, SourcePlacement, SourceText}

word_set : IsSet (List ℕ)
word_set = List-set ℕ_set

unit_set : IsSet (Unit {0})
unit_set = λ x y p q. refl

as_maybe : {A : Type 0} → Option A → maybe.Option A
as_maybe None = maybe.none
as_maybe (Some a) = maybe.some a

as_option : {A : Type 0} → maybe.Option A → Option A
as_option maybe.none = None
as_option (maybe.some a) = Some a

as_it_was : {A : Type 0} (o : Option A) → as_option (as_maybe o) ≡ o
unfolding as_option as_maybe
as_it_was None = refl
as_it_was (Some a) = refl

-- the options of a set are a set
pub Option-set : {A : Type 0} → IsSet A → IsSet (Option A)
Option-set s = retract_set as_maybe as_option as_it_was (maybe_set s)

name_set : IsSet Name
name_set = Coded-set called.the_row.coded

kind_set : IsSet Kind
kind_set = Coded-set kind.the_row.coded

term_set : IsSet SourceTerm
term_set = PlainTerm-set ℤ_set Bool-set name_set unit_set (Coded-set unary.the_row.coded) (Coded-set binary.the_row.coded) word_set unit_set (Coded-set form.the_row.coded) unit_set

target_set : IsSet SourceTarget
target_set = PlainTarget-set word_set unit_set unit_set term_set

firing_set : IsSet SourceFiring
firing_set = PlainFiring-set (Option-set kind_set) word_set unit_set (List-set term_set)

choice_set : IsSet SourceChoice
choice_set = PlainChoice-set target_set word_set (PlainSort-set word_set) unit_set term_set

statement_set : IsSet SourceStatement
statement_set = PlainStatement-set target_set term_set firing_set choice_set

declared_set : IsSet SourceDeclared
declared_set = PlainDeclared-set word_set (PlainSort-set word_set) unit_set

entry_set : IsSet SourceEntry
entry_set = PlainEntry-set kind_set word_set (List-set (PlainParameter-set term_set declared_set)) (Option-set term_set)

variable_set : IsSet SourceVariable
variable_set = PlainVariable-set declared_set (Option-set term_set)

transition_set : IsSet SourceTransition
transition_set = PlainTransition-set kind_set word_set (List-set term_set) (Option-set term_set) (List-set statement_set)

schedule_set : IsSet SourceSchedule
schedule_set = PlainSchedule-set (List-set variable_set) (List-set statement_set)

automaton_set : IsSet SourceAutomaton
automaton_set =
    PlainAutomaton-set word_set (List-set declared_set) (List-set entry_set) (List-set variable_set) (List-set transition_set) schedule_set

declaration_set : IsSet SourceDeclaration
declaration_set = PlainDeclaration-set (PlainType-set word_set (PlainForm-set (List-set word_set) (List-set declared_set))) automaton_set

placement_set : IsSet SourcePlacement
placement_set =
    PlainPlacement-set (PlainNode-set ℤ_set word_set (List-set term_set)) (Coded-set channel.the_row.coded)
    (PlainScript-set ℤ_set (List-set (PlainCall-set word_set (List-set term_set))))

-- whole texts
pub text_set : IsSet SourceText
text_set = PlainText-set (List-set declaration_set) (List-set placement_set) (List-set (PlainInvariant-set word_set term_set))
