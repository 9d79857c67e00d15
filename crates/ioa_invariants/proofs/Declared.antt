-- The shapes of what is read are declared ones.
use Rattle.std.proofs.Common.{◌≡◌, ℕ, ℤ, Bool, true, false, if◌then◌else◌, List, [], ◌∷◌, ◌++◌, Option, Some, None, refl, ap, subst, map, slice_get}
use Rattle.std.specs.List.{AllByRecursion, AllZip, list_any, zip}
use Rattle.std.specs.Option.{option_and_then, option_map}
use Rattle.std.specs.Ordering.{int_eq}
use Rattle.ioa_operators.specs.Shapes.{PlainShape, sequences}
use Rattle.ioa_terms.specs.Bindings.{same_word}
use Rattle.ioa_terms.specs.Sorted.{NameShapes}
use Rattle.ioa_terms.specs.declared.name.Name.{Name}
use Rattle.ioa_terms.specs.declared.name.Name.TheVariants.{Word, Variable, Queue}
use Rattle.ioa_actions.specs.ActionParts.{receive_name}
use Rattle.ioa_source.specs.Sides.{CheckedVariable}
use Rattle.ioa_source.specs.declared.declaration.Channel.{Channel}
use Rattle.ioa_system.specs.Parts.{Parts, PlainRule, rule_named, variable_named}
use Rattle.ioa_system.specs.Systems.{program_numbered}
use Rattle.ioa_sort_rules.specs.DeclaredTypes.{TupleTypes, IsDeclared, AreAllDeclared}
use Rattle.ioa_names.specs.NameTables.{words}
use Rattle.ioa_names.specs.Views.{AreWords}
use Rattle.ioa_sorts.proofs.Lookups.{found_has}
use Rattle.ioa_invariants.specs.Checked.{HasDeclaredParts}
use Rattle.ioa_invariants.specs.ReadShapes.{is_channel, variable_shape, queue_shape, reading_shape}

-- a name reads what has a shape
abbrev pub IsThere : List Parts → List Channel → Name → PlainShape → Type 0
IsThere ps cs x s = reading_shape ps cs x ≡ Some s

module _ (types : TupleTypes) where
  -- the shape of a variable
  of_variable : (o : Option CheckedVariable) → ((v : CheckedVariable) → o ≡ Some v → IsDeclared types v.declared.shape) → (s : PlainShape) → option_map (λ (v : CheckedVariable). v.declared.shape) o ≡ Some s → IsDeclared types s
  of_variable None g s h = absurd (cc)
  of_variable (Some v) g s h = let e : v.declared.shape ≡ s = cc in subst (IsDeclared types) e (g v refl)

  variable_declared : (x : List ℕ) (o : Option Parts) → ((p : Parts) → o ≡ Some p → HasDeclaredParts types p) → (s : PlainShape) → variable_shape x o ≡ Some s → IsDeclared types s
  variable_declared x None g s h = absurd (cc)
  variable_declared x (Some p) g s h =
      of_variable (variable_named x p.automaton.variables)
      (λ v e. found_has (λ (w : CheckedVariable). IsDeclared types w.declared.shape) (λ (w : CheckedVariable). same_word x w.declared.name) p.automaton.variables v (g p refl).variables e) s h

  -- the shape of a queue
  of_first : (ss : List PlainShape) → AllByRecursion (IsDeclared types) ss → (s : PlainShape) → option_map sequences (slice_get ss 0) ≡ Some s → IsDeclared types s
  of_first [] d s h = absurd (cc)
  of_first (x ∷ xs) d s h = let e : sequences x ≡ s = cc in subst (IsDeclared types) e d.0

  of_message : (o : Option PlainRule) → ((r : PlainRule) → o ≡ Some r → AllByRecursion (IsDeclared types) r.shapes) → (s : PlainShape) → option_map sequences (option_and_then (λ (r : PlainRule). slice_get r.shapes 0) o) ≡ Some s → IsDeclared types s
  of_message None g s h = absurd (cc)
  of_message (Some r) g s h = of_first r.shapes (g r refl) s h

  queue_declared : (o : Option Parts) → ((p : Parts) → o ≡ Some p → HasDeclaredParts types p) → (s : PlainShape) → queue_shape o ≡ Some s → IsDeclared types s
  queue_declared None g s h = absurd (cc)
  queue_declared (Some p) g s h =
      of_message (rule_named receive_name p.automaton.rules)
      (λ r e. found_has (λ (q : PlainRule). AllByRecursion (IsDeclared types) q.shapes) (λ (q : PlainRule). same_word q.entry.name receive_name) p.automaton.rules r (g p refl).arguments e) s h

  module _ (ps : List Parts) (cs : List Channel) (declared : AllByRecursion (HasDeclaredParts types) ps) where
    numbered : (k : ℤ) (p : Parts) → program_numbered k ps ≡ Some p → HasDeclaredParts types p
    numbered k p e = found_has (HasDeclaredParts types) (λ (q : Parts). int_eq q.node k) ps p declared e

    channel_declared : (b : Bool) (j : ℤ) (s : PlainShape) → (if b then queue_shape (program_numbered j ps) else None) ≡ Some s → IsDeclared types s
    channel_declared true j s h = queue_declared (program_numbered j ps) (numbered j) s h
    channel_declared false j s h = absurd (cc)

    reading_declared : (x : Name) (s : PlainShape) → IsThere ps cs x s → IsDeclared types s
    reading_declared (Word w) s h = absurd (cc)
    reading_declared (Variable x k) s h = variable_declared x (program_numbered k ps) (numbered k) s h
    reading_declared (Queue i j) s h = channel_declared (list_any (is_channel i j) cs) j s h

    pub readings_declared : (constants : NameShapes) → AreAllDeclared types constants → (ns : List Name) (ss : List PlainShape) → AllZip (IsThere ps cs) ns ss → AreAllDeclared types (zip ns ss ++ constants)
    readings_declared constants d [] [] h = d
    readings_declared constants d [] (s ∷ ss) h = absurd h
    readings_declared constants d (x ∷ ns) [] h = absurd h
    readings_declared constants d (x ∷ ns) (s ∷ ss) h = (reading_declared x s h.0, readings_declared constants d ns ss h.1)

-- the names in view are the readings, and the constants behind them
pub names_in_view : (ps : List Parts) (cs : List Channel) (constants : NameShapes) → AreWords constants → (ns : List Name) (ss : List PlainShape) → AllZip (IsThere ps cs) ns ss → map (λ n. n.0) (zip ns ss ++ constants) ≡ ns ++ map Word (words constants)
names_in_view ps cs constants w [] [] h = w
names_in_view ps cs constants w [] (s ∷ ss) h = absurd h
names_in_view ps cs constants w (x ∷ ns) [] h = absurd h
names_in_view ps cs constants w (x ∷ ns) (s ∷ ss) h = ap (λ (ms : List Name). x ∷ ms) (names_in_view ps cs constants w ns ss h.1)
