-- The tuple types in the shapes of an accepted system are the declared ones of their names.
use Rattle.std.proofs.Common.{◌≡◌, List, [], ◌∷◌, Some, subst, slice_get}
use Rattle.std.specs.List.{AllByRecursion, Contains}
use Rattle.ioa_operators.specs.Shapes.{PlainShape}
use Rattle.ioa_system.specs.Parts.{Parts, PlainRule}
use Rattle.ioa_sort_rules.specs.DeclaredTypes.{IsDeclared}
use Rattle.ioa_types.specs.Meanings.{AreTextTypes, tuple_types}
use Rattle.ioa_types.specs.TextTypes.{PlainTextTypes}
use Rattle.ioa_automata.proofs.DeclaredShapes.{automaton_declared}
use Rattle.ioa_sorts.proofs.Lookups.{contained_has}
use Rattle.ioa_run_laws.proofs.Accepted.{IsAcceptedProgram}

-- what holds of each element holds of the first
of_first : {A : Type 0} (P : A → Type 0) (xs : List A) (x : A) → AllByRecursion P xs → slice_get xs 0 ≡ Some x → P x
of_first P [] x h e = absurd (cc)
of_first P (y ∷ ys) x h e = let same : y ≡ x = cc in subst P same h.0

-- the first of the shapes that a rule's actions take
pub message_declared : (t : PlainTextTypes) → AreTextTypes t → (p : Parts) → IsAcceptedProgram t p → (r : PlainRule) → Contains p.automaton.rules r → (s : PlainShape) → slice_get r.shapes 0 ≡ Some s → IsDeclared (tuple_types t.types) s
message_declared t types p accepted r present s e =
    let all = (automaton_declared t types accepted.source p.automaton accepted.automaton).arguments in
    of_first (IsDeclared (tuple_types t.types)) r.shapes s (contained_has (λ (q : PlainRule). AllByRecursion (IsDeclared (tuple_types t.types)) q.shapes) p.automaton.rules r all present) e
