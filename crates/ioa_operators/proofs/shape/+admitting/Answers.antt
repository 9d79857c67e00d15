use Rattle.std.proofs.Common.{◌≡◌, ◌∙◌, true, false, min, length, sym, arith, rules}
use Rattle.ioa_values.specs.Collections.{keys_of, values_of}
use Rattle.ioa_values.proofs.EntryTrees.{many_keys}
use Rattle.ioa_operators.specs.Shapes.{has_shape, wide_shape_if}
use Rattle.ioa_operators.specs.ShapeKinds.{AdmitsKind}
use Rattle.ioa_operators.proofs.ShapeLists.{all_of_kind, have_shapes_ended, one_lacks, others_have, key_there, value_there, none_behind, many_values}
use Rattle.ioa_operators.proofs.shape.+admitting.Goals as goal

-- the shorter list has ended
pub each_fits-returns : goal.each_fits-returns
each_fits-returns t c =
    let at_end : c.loop-position.position ≡ min (length c.args.shapes.now.items) (length c.args.values.now.items) = omega arith in
    let ended = have_shapes_ended c.args.negative c.args.shapes.now.items c.args.values.now.items c.loop-position.position at_end in
    cc (c.args.shapes.now.ok.0, c.args.values.now.ok.0)

pub all_items_fit-returns-then-fits_kind : goal.all_items_fit-returns-then-fits_kind
all_items_fit-returns-then-fits_kind t c =
    let shape = wide_shape_if c.args.negative c.args.shape.now in
    let admits : AdmitsKind shape c.kind.result = c.fits_kind.ensures c.if-fits_kind.true in
    sym (all_of_kind shape c.kind.result c.args.items.now admits c.kind.ensures)

pub all_items_fit-returns-then-not-fits : goal.all_items_fit-returns-then-not-fits
all_items_fit-returns-then-not-fits t c =
    let shape = wide_shape_if c.args.negative c.args.shape.now in
    let lacks : has_shape shape c.at.result.now ≡ false = search rules in
    sym (c.loop-position.invariant ∙ one_lacks shape c.args.items.now c.loop-position.position c.at.result.now c.at.ensures lacks)

pub all_items_fit-loop-position-preserved : goal.all_items_fit-loop-position-preserved
all_items_fit-loop-position-preserved t c =
    let shape = wide_shape_if c.args.negative c.args.shape.now in
    let has : has_shape shape c.at.result.now ≡ true = search rules in
    c.loop-position.invariant ∙ others_have shape c.args.items.now c.loop-position.position c.at.result.now c.at.ensures has

pub all_members_fit-returns-then-fits_kind : goal.all_members_fit-returns-then-fits_kind
all_members_fit-returns-then-fits_kind t c =
    let shape = wide_shape_if c.args.negative c.args.shape.now in
    let admits : AdmitsKind shape c.kind.result = c.fits_kind.ensures c.if-fits_kind.true in
    sym (all_of_kind shape c.kind.result c.args.members.now admits c.kind.ensures)

pub all_members_fit-returns-then-not-fits : goal.all_members_fit-returns-then-not-fits
all_members_fit-returns-then-not-fits t c =
    let shape = wide_shape_if c.args.negative c.args.shape.now in
    let lacks : has_shape shape c.at.result.now ≡ false = search rules in
    sym (c.loop-position.invariant ∙ one_lacks shape c.args.members.now c.loop-position.position c.at.result.now c.at.ensures lacks)

pub all_members_fit-loop-position-preserved : goal.all_members_fit-loop-position-preserved
all_members_fit-loop-position-preserved t c =
    let shape = wide_shape_if c.args.negative c.args.shape.now in
    let has : has_shape shape c.at.result.now ≡ true = search rules in
    c.loop-position.invariant ∙ others_have shape c.args.members.now c.loop-position.position c.at.result.now c.at.ensures has

pub all_keys_fit-returns-then-fits_kind : goal.all_keys_fit-returns-then-fits_kind
all_keys_fit-returns-then-fits_kind t c =
    let shape = wide_shape_if c.args.negative c.args.shape.now in
    let admits : AdmitsKind shape c.key_kind.result = c.fits_kind.ensures c.if-fits_kind.true in
    sym (all_of_kind shape c.key_kind.result (keys_of c.args.entries.now) admits c.key_kind.ensures)

pub all_keys_fit-returns-then-not-fits : goal.all_keys_fit-returns-then-not-fits
all_keys_fit-returns-then-not-fits t c =
    let shape = wide_shape_if c.args.negative c.args.shape.now in
    let lacks : has_shape shape c.at.result.0.now ≡ false = search rules in
    sym (c.loop-position.invariant ∙ one_lacks shape (keys_of c.args.entries.now) c.loop-position.position c.at.result.0.now (key_there c.args.entries.now c.loop-position.position c.at.result.0.now c.at.result.1.now c.at.ensures) lacks)

pub all_keys_fit-loop-position-preserved : goal.all_keys_fit-loop-position-preserved
all_keys_fit-loop-position-preserved t c =
    let shape = wide_shape_if c.args.negative c.args.shape.now in
    let has : has_shape shape c.at.result.0.now ≡ true = search rules in
    c.loop-position.invariant ∙ others_have shape (keys_of c.args.entries.now) c.loop-position.position c.at.result.0.now (key_there c.args.entries.now c.loop-position.position c.at.result.0.now c.at.result.1.now c.at.ensures) has

pub all_values_fit-returns-then-fits_kind : goal.all_values_fit-returns-then-fits_kind
all_values_fit-returns-then-fits_kind t c =
    let shape = wide_shape_if c.args.negative c.args.shape.now in
    let admits : AdmitsKind shape c.value_kind.result = c.fits_kind.ensures c.if-fits_kind.true in
    sym (all_of_kind shape c.value_kind.result (values_of c.args.entries.now) admits c.value_kind.ensures)

pub all_values_fit-returns-then-not-fits : goal.all_values_fit-returns-then-not-fits
all_values_fit-returns-then-not-fits t c =
    let shape = wide_shape_if c.args.negative c.args.shape.now in
    let lacks : has_shape shape c.at.result.1.now ≡ false = search rules in
    sym (c.loop-position.invariant ∙ one_lacks shape (values_of c.args.entries.now) c.loop-position.position c.at.result.1.now (value_there c.args.entries.now c.loop-position.position c.at.result.0.now c.at.result.1.now c.at.ensures) lacks)

pub all_values_fit-loop-position-preserved : goal.all_values_fit-loop-position-preserved
all_values_fit-loop-position-preserved t c =
    let shape = wide_shape_if c.args.negative c.args.shape.now in
    let has : has_shape shape c.at.result.1.now ≡ true = search rules in
    c.loop-position.invariant ∙ others_have shape (values_of c.args.entries.now) c.loop-position.position c.at.result.1.now (value_there c.args.entries.now c.loop-position.position c.at.result.0.now c.at.result.1.now c.at.ensures) has

-- no entry is left
pub all_keys_fit-returns : goal.all_keys_fit-returns
all_keys_fit-returns t c =
    let shape = wide_shape_if c.args.negative c.args.shape.now in
    sym (c.loop-position.invariant ∙ none_behind shape (keys_of c.args.entries.now) c.loop-position.position (omega (arith, many_keys c.args.entries.now)))

pub all_values_fit-returns : goal.all_values_fit-returns
all_values_fit-returns t c =
    let shape = wide_shape_if c.args.negative c.args.shape.now in
    sym (c.loop-position.invariant ∙ none_behind shape (values_of c.args.entries.now) c.loop-position.position (omega (arith, many_values c.args.entries.now)))
