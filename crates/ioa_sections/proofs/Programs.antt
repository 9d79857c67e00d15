-- The programs of nodes, one after another, as a loop makes them.
use Rattle.std.proofs.Common.{◌≡◌, ◌⊎◌, inl, inr, ◌<◌, ◌+◌, ◌-◌, ℕ, ℤ, pos, List, [], ◌∷◌, ◌++◌, Result, Ok, Err, refl, sym, ap, subst, ◌∙◌, length}
use Rattle.std.specs.Prelude.{find, IfOk}
use Rattle.std.proofs.lemmas.List.{append_assoc}
use Rattle.ioa_values.specs.Data.{Data}
use Rattle.ioa_values.specs.Outcome.{Answers, and_then}
use Rattle.ioa_operators.specs.Shapes.{PlainShape}
use Rattle.ioa_terms.specs.Bindings.{Bindings}
use Rattle.ioa_terms.specs.Sorted.{NameShapes}
use Rattle.ioa_source.specs.Sides.{CheckedTerm, SourceNode}
use Rattle.ioa_system.specs.Parts.{AutomatonParts, Parts}
use Rattle.ioa_refusals.specs.declared.refusal.Refusal.{Refusal}
use Rattle.ioa_refusals.specs.declared.refusal.Refusal.TheVariants.{Memory}
use Rattle.ioa_automata.proofs.Loops.{results_are}
use Rattle.ioa_sections.specs.Nodes.{argument_values, has_number, program_at, programs_from}
use Rattle.ioa_sections.proofs.Loops.{one_fewer}
use Rattle.ioa_sections.proofs.Grounds.{as_many_values}

module _ (names : NameShapes) (automata : List AutomatonParts) (ns : List SourceNode) where
  abbrev numbered_program : ℤ → Result Parts Refusal
  numbered_program k = program_at names automata k (find (has_number k) ns)

  -- the same number, written in another way
  pub same_program : {k j : ℤ} → k ≡ j → (r : Result Parts Refusal) → program_at names automata k (find (has_number k) ns) ≡ r → program_at names automata j (find (has_number j) ns) ≡ r
  same_program same r h = subst (λ (i : ℤ). numbered_program i ≡ r) same h

  pub same_refusal : {k j : ℤ} → k ≡ j → (e : Refusal) → (e ≡ Memory) ⊎ (program_at names automata k (find (has_number k) ns) ≡ Err e) → (e ≡ Memory) ⊎ (program_at names automata j (find (has_number j) ns) ≡ Err e)
  same_refusal same e h = elim h [
    | inl lacks ↦ inl lacks
    | inr refused ↦ inr (same_program same (Err e) refused)
  ]

  pushed : (done : List Parts) (p : Parts) (r : Result (List Parts) Refusal) → and_then (and_then r (λ ps. results_are (p ∷ ps))) (λ ps. results_are (done ++ ps)) ≡ and_then r (λ ps. results_are ((done ++ p ∷ []) ++ ps))
  pushed done p (Ok ps) = ap results_are (sym (append_assoc done (p ∷ []) ps))
  pushed done p (Err e) = refl

  -- one more program
  pub programs_more : (many i : ℕ) (done : List Parts) (p : Parts) → i < many → program_at names automata (pos i) (find (has_number (pos i)) ns) ≡ Ok p → and_then (programs_from names automata ns i (many - i)) (λ ps. results_are (done ++ ps)) ≡ and_then (programs_from names automata ns (i + 1) (many - (i + 1))) (λ ps. results_are ((done ++ p ∷ []) ++ ps))
  programs_more many i done p less made = rw (one_fewer many i less, made) (pushed done p (programs_from names automata ns (i + 1) (many - (i + 1))))

  -- a program that is refused
  pub programs_stop : (many i : ℕ) (done : List Parts) (e : Refusal) {whole : Result (List Parts) Refusal} → i < many → whole ≡ and_then (programs_from names automata ns i (many - i)) (λ ps. results_are (done ++ ps)) → (e ≡ Memory) ⊎ (program_at names automata (pos i) (find (has_number (pos i)) ns) ≡ Err e) → (e ≡ Memory) ⊎ (whole ≡ Err e)
  programs_stop many i done e less all h = elim h [
    | inl lacks ↦ inl lacks
    | inr refused ↦ inr (all ∙ rw (one_fewer many i less, refused) refl)
  ]

-- as many values as arguments
pub many_given : {X : Type 0} (view : X → List Data) (e : Bindings) (ss : List PlainShape) (ts : List CheckedTerm) (r : Result X Refusal) → Answers Memory view r (argument_values e ss ts) → length ts ≡ length ss → IfOk r (λ x. length (view x) ≡ length ss)
many_given view e ss ts (Ok x) h many = as_many_values e ss ts (view x) h many
many_given view e ss ts (Err f) h many = tt
