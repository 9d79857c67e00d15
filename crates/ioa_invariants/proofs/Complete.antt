-- Each invariant that a text's may be is found.
use Rattle.std.proofs.Common.{◌≡◌, List, [], ◌∷◌, ◌++◌, Result, Ok, refl, sym, ap, ◌∙◌}
use Rattle.std.specs.List.{AllZip, zip}
use Rattle.ioa_operators.specs.Shapes.{PlainShape, truths}
use Rattle.ioa_terms.specs.Sorted.{NameShapes}
use Rattle.ioa_terms.specs.declared.name.Name.{Name}
use Rattle.ioa_source.specs.Sides.{SourceInvariant}
use Rattle.ioa_source.specs.declared.declaration.Channel.{Channel}
use Rattle.ioa_system.specs.Invariants.{InvariantParts, invariant_parts}
use Rattle.ioa_system.specs.Parts.{Parts}
use Rattle.ioa_refusals.specs.declared.refusal.Refusal.{Refusal}
use Rattle.ioa_names.specs.NameTables.{words}
use Rattle.ioa_sorts.proofs.Complete.{fit_complete}
use Rattle.ioa_invariants.specs.Checked.{invariant_at}
use Rattle.ioa_invariants.specs.Meant.{IsInvariantOf}
use Rattle.ioa_invariants.specs.ReadNames.{names_in, once, read_in}
use Rattle.ioa_invariants.specs.ReadShapes.{reading_shapes}
use Rattle.ioa_invariants.proofs.NamesRead.{read_is, read_or}
use Rattle.ioa_invariants.proofs.Declared.{IsThere}

abbrev names_are : List Name → Result (List Name) Refusal
names_are ns = Ok ns

abbrev shapes_are : List PlainShape → Result (List PlainShape) Refusal
shapes_are ss = Ok ss

abbrev pub invariant_is : InvariantParts → Result InvariantParts Refusal
invariant_is v = Ok v

-- the shapes of what is there are found
shapes_found : (ps : List Parts) (cs : List Channel) (ns : List Name) (ss : List PlainShape) → AllZip (IsThere ps cs) ns ss → shapes_are ss ≡ reading_shapes ps cs ns
shapes_found ps cs [] [] h = refl
shapes_found ps cs [] (s ∷ ss) h = absurd h
shapes_found ps cs (x ∷ ns) [] h = absurd h
shapes_found ps cs (x ∷ ns) (s ∷ ss) h = rw (h.0, ← shapes_found ps cs ns ss h.1) refl

pub invariant_found : (constants : NameShapes) (ps : List Parts) (cs : List Channel) (v : SourceInvariant) (found : InvariantParts) → IsInvariantOf constants ps cs v found → invariant_is found ≡ invariant_at constants ps cs v
unfolding invariant_at
invariant_found constants ps cs v found h =
    rw (← names_found, ← shapes_found ps cs found.readings h.shapes h.there, ← fit_complete (zip found.readings h.shapes ++ constants) v.term found.term truths h.term) (ap invariant_is rebuilt)
  where
    names_found : names_are found.readings ≡ read_in [] v.term
    names_found = ap names_are h.readings ∙ ap (λ b. read_or b (once (names_in v.term))) (sym h.queues) ∙ sym (read_is [] v.term)

    rebuilt : found ≡ invariant_parts v.name (words constants) found.readings found.term
    rebuilt = λ i. invariant_parts (h.name i) (h.constants_named i) found.readings found.term
