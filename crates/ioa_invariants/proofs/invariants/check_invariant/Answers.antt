use Rattle.std.proofs.Common.{◌≡◌, ◌++◌, ◌∙◌, sym, ap, length, rules}
use Rattle.std.specs.Arc.{arc_value}
use Rattle.std.specs.List.{zip}
use Rattle.ioa_operators.specs.Shapes.{truths}
use Rattle.ioa_terms.specs.View.{term_of}
use Rattle.ioa_source.specs.TextView.{invariant_of}
use Rattle.ioa_system.specs.Invariants.{invariant_parts}
use Rattle.ioa_names.specs.NameTables.{words}
use Rattle.ioa_types.specs.TextTypes.{PlainTextTypes}
use Rattle.ioa_sorts.specs.Sorting.{fit, sorting}
use Rattle.ioa_invariants.specs.ReadShapes.{reading_shapes}
use Rattle.ioa_invariants.proofs.Sound.{carried, found_by_parts, invariant_is, shapes_are, term_is, term_resolved}
use Rattle.ioa_invariants.proofs.invariants.check_invariant.Goals as goal

pub new-requires-2 : goal.new-requires-2
new-requires-2 c =
    let table = c.section.inside.types.now.constants in
    let ps = c.section.inside.programs.now in
    let cs = c.section.inside.channels.now in
    let u = term_of c.args.invariant.now.term in
    let ns = c.in_ok-names.names in
    let ss = c.in_ok-shapes.shapes.items in
    let t = term_of c.in_ok-term.term in
    let made : c.in_ok-readings.readings ≡ zip ns ss = c.in_ok-readings.ensures in
    let listed : c.as_slice.result.now ≡ ns = c.as_slice.ensures in
    let many : length ss ≡ length ns = c.in_ok-shapes.ensures.many ∙ ap length listed in
    let shapes : reading_shapes ps cs ns ≡ shapes_are ss = rw listed at c.in_ok-shapes.ensures.shapes in
    let same : c.constants-table.result.now ≡ table = c.constants-table.ensures.value ∙ ap (λ (x : PlainTextTypes). x.constants) c.types.ensures.value in
    let fits : fit (sorting (zip ns ss ++ table) u) truths ≡ term_is t = rw (made, same) at c.in_ok-term.ensures in
    let items = carried ns ss c.in_ok-readings.readings c.in_ok-readings-2.readings.items made many c.in_ok-readings-2.ensures in
    let named : arc_value c.in_ok-constants.constants ≡ words table = search rules in
    rw (items, named) (term_resolved table ps cs c.section.invariant c.types.ensures.declared.named u ns ss t shapes fits)

pub returns : goal.returns
returns c =
    let table = c.section.inside.types.now.constants in
    let ps = c.section.inside.programs.now in
    let cs = c.section.inside.channels.now in
    let v = invariant_of c.args.invariant.now in
    let ns = c.in_ok-names.names in
    let ss = c.in_ok-shapes.shapes.items in
    let t = term_of c.in_ok-term.term in
    let made : c.in_ok-readings.readings ≡ zip ns ss = c.in_ok-readings.ensures in
    let listed : c.as_slice.result.now ≡ ns = c.as_slice.ensures in
    let many : length ss ≡ length ns = c.in_ok-shapes.ensures.many ∙ ap length listed in
    let shapes : reading_shapes ps cs ns ≡ shapes_are ss = rw listed at c.in_ok-shapes.ensures.shapes in
    let same : c.constants-table.result.now ≡ table = c.constants-table.ensures.value ∙ ap (λ (x : PlainTextTypes). x.constants) c.types.ensures.value in
    let fits : fit (sorting (zip ns ss ++ table) v.term) truths ≡ term_is t = rw (made, same) at c.in_ok-term.ensures in
    let items = carried ns ss c.in_ok-readings.readings c.in_ok-readings-2.readings.items made many c.in_ok-readings-2.ensures in
    let named : arc_value c.in_ok-constants.constants ≡ words table = search rules in
    let called : c.in_ok-name.name ≡ v.name = c.in_ok-name.ensures in
    rw (← c.section.view_is)
    (found_by_parts table ps cs v ns ss t c.in_ok-names.ensures shapes fits
    ∙ ap invariant_is (sym (c.new-2.ensures ∙ (λ i. invariant_parts (called i) (named i) (items i) t))))
