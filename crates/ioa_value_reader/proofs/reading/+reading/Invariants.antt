use Rattle.std.proofs.Common.{◌≡◌, ◌+◌, ◌-◌, ◌*◌, max, [], drop}
use Rattle.ioa_tokens.specs.declared.mark.Mark.TheVariants as mark
use Rattle.ioa_cursor.specs.Reading.{collect, skip, several_more}
use Rattle.ioa_operators.specs.Shapes.{shapes_of}
use Rattle.ioa_operators.specs.ShapeHeight.{height, heights}
use Rattle.ioa_value_reader.specs.Reading.{read_value, read_parts, read_entry}
use Rattle.ioa_value_reader.proofs.reading.+reading.Given as goal

abbrev pub decreases-read : goal.decreases-read
decreases-read l = 4 * height l.shape.now + 3

abbrev pub decreases-read_parts : goal.decreases-read_parts
decreases-read_parts l = 4 * heights (shapes_of l.shapes.now.items) + 4

abbrev pub decreases-read_more_items : goal.decreases-read_more_items
decreases-read_more_items l = 4 * height l.shape.now + 4

abbrev pub decreases-read_items : goal.decreases-read_items
decreases-read_items l = 4 * height l.shape.now + 5

abbrev pub decreases-read_entry : goal.decreases-read_entry
decreases-read_entry l = 4 * max (height l.keys.now) (height l.values.now) + 4

abbrev pub decreases-read_more_entries : goal.decreases-read_more_entries
decreases-read_more_entries l = 4 * max (height l.keys.now) (height l.values.now) + 5

abbrev pub decreases-read_entries : goal.decreases-read_entries
decreases-read_entries l = 4 * max (height l.keys.now) (height l.values.now) + 6

-- what is read of the shapes that are left is what is read of all
abbrev pub invariant-read_parts-loop-shape : goal.invariant-read_parts-loop-shape
invariant-read_parts-loop-shape l =
    read_parts l.names (shapes_of (drop l.shape-index l.shape-items)) l.parts.items l.tokens
    ≡ read_parts l.fn.names (shapes_of l.fn.shapes.items) [] l.fn.tokens

abbrev pub invariant-read_more_items-loop-turn : goal.invariant-read_more_items-loop-turn
invariant-read_more_items-loop-turn l =
    collect (skip mark.Comma) (read_value l.names l.shape) (l._turn-end - l._turn) l.items.items l.tokens
    ≡ several_more (skip mark.Comma) (read_value l.fn.names l.fn.shape) [] l.fn.tokens

abbrev pub invariant-read_more_entries-loop-turn : goal.invariant-read_more_entries-loop-turn
invariant-read_more_entries-loop-turn l =
    collect (skip mark.Comma) (read_entry (read_value l.names l.keys) (read_value l.names l.values)) (l._turn-end - l._turn) l.entries.items l.tokens
    ≡ several_more (skip mark.Comma) (read_entry (read_value l.fn.names l.fn.keys) (read_value l.fn.names l.fn.values)) [] l.fn.tokens
