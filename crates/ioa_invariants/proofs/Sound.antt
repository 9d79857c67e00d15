-- The invariant that is found is the text's.
use Rattle.std.proofs.Common.{◌≡◌, Bool, true, false, List, [], ◌∷◌, ◌++◌, Option, Some, None, Result, Ok, Err, IfOk, refl, sym, ap, subst, ◌∙◌, map, length}
use Rattle.std.specs.List.{AllZip, zip}
use Rattle.std.proofs.lemmas.Slice.Zip.{firsts-zip}
use Rattle.ioa_values.specs.Outcome.{and_then}
use Rattle.ioa_operators.specs.Shapes.{PlainShape, truths}
use Rattle.ioa_terms.specs.Resolved.{IsResolved}
use Rattle.ioa_terms.specs.Sorted.{NameShapes}
use Rattle.ioa_terms.specs.declared.name.Name.{Name}
use Rattle.ioa_terms.specs.declared.name.Name.TheVariants.{Word}
use Rattle.ioa_source.specs.Sides.{SourceInvariant, SourceTerm, CheckedTerm}
use Rattle.ioa_source.specs.declared.declaration.Channel.{Channel}
use Rattle.ioa_system.specs.Invariants.{InvariantParts, invariant_parts}
use Rattle.ioa_system.specs.Parts.{Parts}
use Rattle.ioa_refusals.specs.declared.refusal.Refusal.{Refusal}
use Rattle.ioa_names.specs.NameTables.{declared_names, words}
use Rattle.ioa_names.specs.Views.{AreWords}
use Rattle.ioa_sorts.specs.Sorting.{fit, sorting}
use Rattle.ioa_sorts.specs.SortedTerms.{IsTermOf}
use Rattle.ioa_sorts.proofs.Chains.{chain}
use Rattle.ioa_sorts.proofs.Sound.{fit_sound}
use Rattle.ioa_invariants.specs.Checked.{AreDeclaredParts, invariant_at}
use Rattle.ioa_invariants.specs.Meant.{IsInvariantOf}
use Rattle.ioa_invariants.specs.ReadNames.{calls_queue, names_in, once, read_in}
use Rattle.ioa_invariants.specs.ReadShapes.{reading_shape, reading_shapes, shape_or}
use Rattle.ioa_invariants.proofs.NamesRead.{read_is, read_or}
use Rattle.ioa_invariants.proofs.Declared.{IsThere, readings_declared, names_in_view}

-- the names are those of the term, each once
abbrev AreRead : SourceTerm → List Name → Type 0
AreRead t ns = (calls_queue t ≡ false) × (ns ≡ once (names_in t))

names_read : (t : SourceTerm) → IfOk (read_in [] t) (AreRead t)
names_read t = subst (λ r. IfOk r (AreRead t)) (sym (read_is [] t)) (by_test (calls_queue t) refl)
  where
    by_test : (b : Bool) → calls_queue t ≡ b → IfOk (read_or b (once (names_in t))) (AreRead t)
    by_test true e = tt
    by_test false e = (e, refl)

-- the shapes are those of what they read
shape_there : (o : Option PlainShape) → IfOk (shape_or o) (λ s. o ≡ Some s)
shape_there None = tt
shape_there (Some s) = refl

abbrev pub shapes_are : List PlainShape → Result (List PlainShape) Refusal
shapes_are ss = Ok ss

shapes_there : (ps : List Parts) (cs : List Channel) (ns : List Name) → IfOk (reading_shapes ps cs ns) (λ ss. AllZip (IsThere ps cs) ns ss)
shapes_there ps cs [] = tt
shapes_there ps cs (x ∷ ns) =
    chain (IsThere ps cs x) (λ ss. AllZip (IsThere ps cs) (x ∷ ns) ss) (λ s. and_then (reading_shapes ps cs ns) (λ ss. shapes_are (s ∷ ss))) (shape_or (reading_shape ps cs x)) (shape_there (reading_shape ps cs x))
    (λ s h. chain (λ ss. AllZip (IsThere ps cs) ns ss) (λ ss. AllZip (IsThere ps cs) (x ∷ ns) ss) (λ ss. shapes_are (s ∷ ss)) (reading_shapes ps cs ns) (shapes_there ps cs ns) (λ ss g. (h, g)))

pub shapes_found_there : (ps : List Parts) (cs : List Channel) (ns : List Name) (ss : List PlainShape) → reading_shapes ps cs ns ≡ shapes_are ss → AllZip (IsThere ps cs) ns ss
shapes_found_there ps cs ns ss h = subst (λ r. IfOk r (λ ss. AllZip (IsThere ps cs) ns ss)) h (shapes_there ps cs ns)

-- the term is a truth value
abbrev pub term_is : CheckedTerm → Result CheckedTerm Refusal
term_is t = Ok t

module _ (constants : NameShapes) (ps : List Parts) (cs : List Channel) (declared : AreDeclaredParts constants ps) where
  pub term_meant : (u : SourceTerm) (ns : List Name) (ss : List PlainShape) (t : CheckedTerm) → AllZip (IsThere ps cs) ns ss → fit (sorting (zip ns ss ++ constants) u) truths ≡ term_is t → IsTermOf (zip ns ss ++ constants) u t truths
  term_meant u ns ss t h e = fit_sound declared.types (zip ns ss ++ constants) (readings_declared declared.types ps cs declared.programs_declared constants declared.constants_declared ns ss h) u truths tt t (sym e)

  -- and resolved among the readings and the constants behind them
  pub term_resolved : AreWords constants → (u : SourceTerm) (ns : List Name) (ss : List PlainShape) (t : CheckedTerm) → reading_shapes ps cs ns ≡ shapes_are ss → fit (sorting (zip ns ss ++ constants) u) truths ≡ term_is t → IsResolved t (ns ++ map Word (words constants))
  term_resolved w u ns ss t h e =
      let there = shapes_found_there ps cs ns ss h in
      subst (λ (ms : List Name). IsResolved t ms) (names_in_view ps cs constants w ns ss there) (term_meant u ns ss t there e).resolved

  terms_meant : (u : SourceTerm) (ns : List Name) (ss : List PlainShape) → AllZip (IsThere ps cs) ns ss → IfOk (fit (sorting (zip ns ss ++ constants) u) truths) (λ t. IsTermOf (zip ns ss ++ constants) u t truths)
  terms_meant u ns ss h = by_found (fit (sorting (zip ns ss ++ constants) u) truths) refl
    where
      by_found : (r : Result CheckedTerm Refusal) → fit (sorting (zip ns ss ++ constants) u) truths ≡ r → IfOk r (λ t. IsTermOf (zip ns ss ++ constants) u t truths)
      by_found (Ok t) e = term_meant u ns ss t h e
      by_found (Err f) e = tt

  abbrev found_with : SourceInvariant → List Name → CheckedTerm → Result InvariantParts Refusal
  found_with v ns t = Ok (invariant_parts v.name (words constants) ns t)

  invariant_good : (v : SourceInvariant) → IfOk (invariant_at constants ps cs v) (IsInvariantOf constants ps cs v)
  unfolding invariant_at
  invariant_good v =
      chain (AreRead v.term) (IsInvariantOf constants ps cs v) (λ ns. and_then (reading_shapes ps cs ns) (λ ss. and_then (fit (sorting (zip ns ss ++ constants) v.term) truths) (found_with v ns))) (read_in [] v.term) (names_read v.term)
      (λ ns read. chain (λ ss. AllZip (IsThere ps cs) ns ss) (IsInvariantOf constants ps cs v) (λ ss. and_then (fit (sorting (zip ns ss ++ constants) v.term) truths) (found_with v ns)) (reading_shapes ps cs ns) (shapes_there ps cs ns)
      (λ ss there. chain (λ t. IsTermOf (zip ns ss ++ constants) v.term t truths) (IsInvariantOf constants ps cs v) (found_with v ns) (fit (sorting (zip ns ss ++ constants) v.term) truths) (terms_meant v.term ns ss there)
      (λ t meant. record {
        name = refl;
        constants_named = refl;
        queues = read.0;
        readings = read.1;
        shapes = ss;
        there = there;
        term = meant;
      })))

abbrev pub invariant_is : InvariantParts → Result InvariantParts Refusal
invariant_is v = Ok v

pub invariant_sound : (constants : NameShapes) (ps : List Parts) (cs : List Channel) (v : SourceInvariant) (found : InvariantParts) → AreDeclaredParts constants ps → invariant_at constants ps cs v ≡ invariant_is found → IsInvariantOf constants ps cs v found
invariant_sound constants ps cs v found declared e = subst (λ r. IfOk r (IsInvariantOf constants ps cs v)) e (invariant_good constants ps cs declared v)

-- as the code finds it: the readings that are carried are the names that were read
pub carried : (ns : List Name) (ss : List PlainShape) (read : NameShapes) (items : List Name) → read ≡ zip ns ss → length ss ≡ length ns → items ≡ declared_names read → items ≡ ns
carried ns ss read items r many i = i ∙ ap declared_names r ∙ firsts-zip ns ss many

pub found_by_parts : (constants : NameShapes) (ps : List Parts) (cs : List Channel) (v : SourceInvariant) (ns : List Name) (ss : List PlainShape) (t : CheckedTerm) → read_in [] v.term ≡ Ok ns → reading_shapes ps cs ns ≡ shapes_are ss → fit (sorting (zip ns ss ++ constants) v.term) truths ≡ term_is t → invariant_at constants ps cs v ≡ invariant_is (invariant_parts v.name (words constants) ns t)
unfolding invariant_at
found_by_parts constants ps cs v ns ss t names shapes term = rw (names, shapes, term) refl
