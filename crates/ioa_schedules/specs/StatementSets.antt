-- That two lists of statements are the same is said in one way at most (form).
use Rattle.std.specs.Prelude.{◌≡◌, ℕ, List, Option, Some, None, refl}
use Rattle.std.proofs.Math.IntN.{ℤ_set}
use Rattle.std.proofs.Math.Nat.{ℕ_set}
use Rattle.std.proofs.Math.Bool.{Bool-set}
use Rattle.std.proofs.Math.Option.{is_set as maybe_set}
use mathlib.Core.Option as maybe
use mathlib.Core.List.{is_set as List-set}
use base.Stored.{Coded-set}
use ghost.Sets.{retract_set}
use Rattle.ioa_operators.specs.contracts.operator.UnaryOperator as unary
use Rattle.ioa_operators.specs.contracts.operator.BinaryOperator as binary
use Rattle.ioa_operators.specs.contracts.shape.DisplayForm as form
use Rattle.ioa_operators.specs.contracts.shape.Shape as shape
use Rattle.ioa_operators.specs.declared.shape.Shape.{Shape}
use Rattle.ioa_terms.specs.contracts.callee.Callee as callee
use Rattle.ioa_terms.specs.declared.callee.Callee.{Callee}
use Rattle.ioa_terms.specs.contracts.name.Name as name
use Rattle.ioa_terms.specs.contracts.tree.Kind as kind
use Rattle.ioa_terms.specs.PlainSort.{PlainSort-set}
use Rattle.ioa_terms.specs.PlainTerm.{PlainStatement, PlainTarget, PlainTerm, PlainFiring, PlainChoice}
use Rattle.ioa_terms.specs.PlainTerm.{PlainTerm-set, PlainTarget-set, PlainStatement-set, PlainFiring-set, PlainChoice-set}

word_set : IsSet (List ℕ)
word_set = List-set ℕ_set

shape_set : IsSet Shape
shape_set = Coded-set shape.the_row.coded

as_maybe : {A : Type 0} → Option A → maybe.Option A
as_maybe None = maybe.none
as_maybe (Some a) = maybe.some a

as_option : {A : Type 0} → maybe.Option A → Option A
as_option maybe.none = None
as_option (maybe.some a) = Some a

as_it_was : {A : Type 0} (o : Option A) → as_option (as_maybe o) ≡ o
unfolding as_option as_maybe
as_it_was None = refl
as_it_was (Some a) = refl

-- the options of a set are a set
pub Option-set : {A : Type 0} → IsSet A → IsSet (Option A)
Option-set s = retract_set as_maybe as_option as_it_was (maybe_set s)

term_set : IsSet (PlainTerm ℕ Callee Shape)
term_set =
    PlainTerm-set ℤ_set Bool-set (Coded-set name.the_row.coded) ℕ_set (Coded-set unary.the_row.coded)
    (Coded-set binary.the_row.coded) word_set (Coded-set callee.the_row.coded) (Coded-set form.the_row.coded) shape_set

target_set : IsSet (PlainTarget ℕ Callee Shape)
target_set = PlainTarget-set word_set ℕ_set shape_set term_set

firing_set : IsSet (PlainFiring ℕ Callee Shape)
firing_set = PlainFiring-set (Option-set (Coded-set kind.the_row.coded)) word_set ℕ_set (List-set term_set)

choice_set : IsSet (PlainChoice ℕ Callee Shape)
choice_set = PlainChoice-set target_set word_set (PlainSort-set word_set) shape_set term_set

-- the statements of a list
pub AreStatements-set : IsSet (List (PlainStatement ℕ Callee Shape))
AreStatements-set = List-set (PlainStatement-set target_set term_set firing_set choice_set)
