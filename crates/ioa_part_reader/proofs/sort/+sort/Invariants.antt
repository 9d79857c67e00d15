use Rattle.std.proofs.Common.{◌+◌, ◌*◌}
use Rattle.ioa_part_reader.proofs.sort.+sort.Given as goal

abbrev pub decreases-inner_sort : goal.decreases-inner_sort
decreases-inner_sort l = 4 * l.room

abbrev pub decreases-item_sort : goal.decreases-item_sort
decreases-item_sort l = 4 * l.room + 1

abbrev pub decreases-map_sort : goal.decreases-map_sort
decreases-map_sort l = 4 * l.room + 1

abbrev pub decreases-marked_sort : goal.decreases-marked_sort
decreases-marked_sort l = 4 * l.room + 2

abbrev pub decreases-sort : goal.decreases-sort
decreases-sort l = 4 * l.room + 3
