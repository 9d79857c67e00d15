use Rattle.std.proofs.Common.{◌≡◌, ◌∙◌, ◌+◌, ◌<◌, ◌/◌, ◌∷◌, ◌++◌, length, take, drop, get_or, ap, arith, rules}
use Rattle.std.proofs.lemmas.Bool.Decides.{nat_tests}
use Rattle.ioa_values.specs.EntryTrees.{entries_in, entries_with}
use Rattle.ioa_values.proofs.EntryTrees.{there, keys_joined, whole_rest}
use Rattle.ioa_values.proofs.entry_tree.EntryTree.+of_keys.Goals as goal

-- the keys in front of the middle one, it, and those behind it are all keys
pub returns-in_ok-joined-in-Some : goal.returns-in_ok-joined-in-Some
returns-in_ok-joined-in-Some t c =
    let ks = c.args.keys.now in
    let v = c.args.value.now in
    let middle = length ks / 2 in
    let within : middle < length ks = grind (arith, nat_tests, c.get.ensures.lookup, c.in-Some.is) in
    let here : c.in-Some.key.now ≡ get_or ks middle c.in-Some.key.now = search rules in
    let all = keys_joined v ks middle c.in-Some.key.now (there ks middle c.in-Some.key.now within here) in
    let front : entries_in c.in_ok-left-in-Some.left ≡ entries_with v (take middle ks) = search rules in
    let behind : entries_in c.in_ok-right-in-Some.right ≡ entries_with v (drop (middle + 1) ks) = c.in_ok-right-in-Some.ensures ∙ ap (entries_with v) (whole_rest (middle + 1) ks) in
    let joined : c.in_ok-joined-in-Some.field-0.value.0 ≡ entries_in c.in_ok-left-in-Some.left ++ (c.in-Some.key.now, v) ∷ entries_in c.in_ok-right-in-Some.right = search rules in
    joined ∙ rw (front, behind) all
