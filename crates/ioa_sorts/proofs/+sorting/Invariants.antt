use Rattle.std.proofs.Common.{◌≡◌, ◌+◌, ◌*◌, ◌++◌, max, Ok, map, drop}
use Rattle.ioa_values.specs.Outcome.{and_then}
use Rattle.ioa_terms.specs.PlainTerm.{terms_of}
use Rattle.ioa_terms.specs.Sorted.{shape_in_terms}
use Rattle.ioa_terms.specs.View.{term_of}
use Rattle.ioa_sorts.specs.Sorting.{sortings, all_fit, each_fit}
use Rattle.ioa_sorts.proofs.+sorting.Given as goal

-- a call on a part is of a smaller term; among calls on one term or on the same parts the rank counts down
abbrev pub decreases-sorting::infer_part : goal.decreases-sorting::infer_part
decreases-sorting::infer_part l = 16 * goal.size-sorting::infer_part l + 1

abbrev pub decreases-sorting::fit : goal.decreases-sorting::fit
decreases-sorting::fit l = 16 * goal.size-sorting::fit l + 1

abbrev pub decreases-sorting::fit_declared : goal.decreases-sorting::fit_declared
decreases-sorting::fit_declared l = 16 * goal.size-sorting::fit_declared l + 2

abbrev pub decreases-sorting::own_of : goal.decreases-sorting::own_of
decreases-sorting::own_of l = 16 * goal.size-sorting::own_of l

abbrev pub decreases-parts::two_parts : goal.decreases-parts::two_parts
decreases-parts::two_parts l = 16 * max (goal.size-parts::two_parts l) (goal.size-parts::two_parts (record l { a = l.b })) + 4

abbrev pub decreases-parts::left_known : goal.decreases-parts::left_known
decreases-parts::left_known l = 16 * goal.size-parts::left_known l + 3

abbrev pub decreases-parts::left_by : goal.decreases-parts::left_by
decreases-parts::left_by l = 16 * goal.size-parts::left_by l + 2

abbrev pub decreases-parts::right_known : goal.decreases-parts::right_known
decreases-parts::right_known l = 16 * goal.size-parts::right_known l + 3

abbrev pub decreases-parts::right_by : goal.decreases-parts::right_by
decreases-parts::right_by l = 16 * goal.size-parts::right_by l + 2

abbrev pub decreases-parts::three_parts : goal.decreases-parts::three_parts
decreases-parts::three_parts l = 16 * max (goal.size-parts::three_parts l) (max (goal.size-parts::three_parts (record l { a = l.b })) (goal.size-parts::three_parts (record l { a = l.d }))) + 4

abbrev pub decreases-parts::map_known : goal.decreases-parts::map_known
decreases-parts::map_known l = 16 * max (goal.size-parts::map_known l) (goal.size-parts::map_known (record l { b = l.d })) + 3

abbrev pub decreases-parts::map_by : goal.decreases-parts::map_by
decreases-parts::map_by l = 16 * max (goal.size-parts::map_by l) (goal.size-parts::map_by (record l { b = l.d })) + 2

abbrev pub decreases-parts::key_known : goal.decreases-parts::key_known
decreases-parts::key_known l = 16 * max (goal.size-parts::key_known l) (goal.size-parts::key_known (record l { a = l.d })) + 3

abbrev pub decreases-calls::call : goal.decreases-calls::call
decreases-calls::call l = 16 * goal.size-calls::call l + 9

abbrev pub decreases-calls::call_of_none : goal.decreases-calls::call_of_none
decreases-calls::call_of_none l = 16 * goal.size-calls::call_of_none l + 8

abbrev pub decreases-calls::inbox : goal.decreases-calls::inbox
decreases-calls::inbox l = 16 * goal.size-calls::inbox l + 7

abbrev pub decreases-calls::inbox_of : goal.decreases-calls::inbox_of
decreases-calls::inbox_of l = 16 * goal.size-calls::inbox_of l + 6

abbrev pub decreases-calls::inbox_of_one : goal.decreases-calls::inbox_of_one
decreases-calls::inbox_of_one l = 16 * goal.size-calls::inbox_of_one l + 2

abbrev pub decreases-calls::call_of_arity : goal.decreases-calls::call_of_arity
decreases-calls::call_of_arity l = 16 * goal.size-calls::call_of_arity l + 8

abbrev pub decreases-calls::call_one : goal.decreases-calls::call_one
decreases-calls::call_one l = 16 * goal.size-calls::call_one l + 5

abbrev pub decreases-calls::call_of_one : goal.decreases-calls::call_of_one
decreases-calls::call_of_one l = 16 * goal.size-calls::call_of_one l + 2

abbrev pub decreases-calls::call_two : goal.decreases-calls::call_two
decreases-calls::call_two l = 16 * goal.size-calls::call_two l + 6

abbrev pub decreases-calls::call_of_two : goal.decreases-calls::call_of_two
decreases-calls::call_of_two l = 16 * max (goal.size-calls::call_of_two l) (goal.size-calls::call_of_two (record l { a = l.b })) + 5

abbrev pub decreases-calls::call_three : goal.decreases-calls::call_three
decreases-calls::call_three l = 16 * goal.size-calls::call_three l + 6

abbrev pub decreases-calls::call_of_three : goal.decreases-calls::call_of_three
decreases-calls::call_of_three l = 16 * max (goal.size-calls::call_of_three l) (max (goal.size-calls::call_of_three (record l { a = l.b })) (goal.size-calls::call_of_three (record l { a = l.d }))) + 5

abbrev pub decreases-displays::display : goal.decreases-displays::display
decreases-displays::display l = 16 * goal.size-displays::display l + 6

abbrev pub decreases-displays::display_parts : goal.decreases-displays::display_parts
decreases-displays::display_parts l = 16 * goal.size-displays::display_parts l + 5

abbrev pub decreases-displays::fit_all : goal.decreases-displays::fit_all
decreases-displays::fit_all l = 16 * goal.size-displays::fit_all l + 2

abbrev pub decreases-displays::fit_fields : goal.decreases-displays::fit_fields
decreases-displays::fit_fields l = 16 * goal.size-displays::fit_fields l + 4

abbrev pub decreases-displays::fit_each : goal.decreases-displays::fit_each
decreases-displays::fit_each l = 16 * goal.size-displays::fit_each l + 3

-- the terms of all parts are those so far and then those of the parts that are left
abbrev pub invariant-displays::fit_all-loop-part : goal.invariant-displays::fit_all-loop-part
invariant-displays::fit_all-loop-part l =
    all_fit (sortings l.view (terms_of (map term_of l.parts.items))) l.want
    ≡ and_then (all_fit (sortings l.view (terms_of (map term_of (drop l.part-index l.part-items)))) l.want) (λ ts. Ok (map term_of l.terms.items ++ ts))

abbrev pub invariant-displays::fit_each-loop-position : goal.invariant-displays::fit_each-loop-position
invariant-displays::fit_each-loop-position l =
    each_fit (sortings l.view (terms_of (map term_of l.parts.items))) (map shape_in_terms l.fields.items)
    ≡ and_then (each_fit (sortings l.view (terms_of (map term_of (drop l.position l.parts.items)))) (map shape_in_terms (drop l.position l.fields.items))) (λ ts. Ok (map term_of l.terms.items ++ ts))
