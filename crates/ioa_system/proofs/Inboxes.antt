-- The name of the inboxes behind those of a block's variables.
use Rattle.std.proofs.Common.{◌≡◌, ◌++◌, List, Option, Some, None, nat_lt, length, arith}
use Rattle.std.specs.Option.{is_some}
use Rattle.std.proofs.lemmas.Bool.Decides.{nat_tests}
use Rattle.std.proofs.lemmas.List.{length-append, length-map}
use Rattle.ioa_operators.specs.Shapes.{PlainShape}
use Rattle.ioa_source.specs.Sides.{CheckedVariable}
use Rattle.ioa_system.specs.InView.{inbox_words, variable_names}

-- there are more names than variables if and only if messages are taken
pub one_name_more : (vs : List CheckedVariable) (o : Option PlainShape) → nat_lt (length vs) (length (variable_names vs ++ inbox_words o)) ≡ is_some o
one_name_more vs None =
    let named = length-map vs (λ (v : CheckedVariable). v.declared.name) in
    let many = length-append (variable_names vs) (inbox_words None) in
    grind (arith, nat_tests)
one_name_more vs (Some s) =
    let named = length-map vs (λ (v : CheckedVariable). v.declared.name) in
    let many = length-append (variable_names vs) (inbox_words (Some s)) in
    grind (arith, nat_tests)
