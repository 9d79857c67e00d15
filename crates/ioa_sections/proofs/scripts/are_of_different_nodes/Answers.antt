use Rattle.std.proofs.Common.{◌≡◌, ◌∙◌, ◌++◌, ◌∷◌, [], sym, rules}
use Rattle.std.specs.Prelude.{not}
use Rattle.std.specs.List.{list_any}
use Rattle.std.specs.Ordering.{int_eq}
use Rattle.ioa_sections.specs.Sections.{script_behind}
use Rattle.ioa_sections.proofs.SeenScripts.{is_new, not_new, numbers_more, seen_goes_on, seen_stops}
use Rattle.ioa_sections.proofs.scripts.are_of_different_nodes.Goals as goal

pub returns-then-not-branch : goal.returns-then-not-branch
returns-then-not-branch c =
    let items = c.args.scripts.now in
    let i = c.loop-script.script-index in
    let script = c.script-item.result in
    let numbers = c.loop-script.numbers.keys in
    let told : c.in_ok-insert_number.field-0 ≡ not (list_any (int_eq (script_behind script).node) numbers) = search rules in
    let seen = not_new _ _ told c.if-not-branch.true in
    sym (c.loop-script.invariant.left ∙ seen_stops script_behind items i script c.loop-script-test.true c.script-item.is numbers c.loop-script.invariant.numbers seen)

pub loop-script-preserved : goal.loop-script-preserved
loop-script-preserved c =
    let items = c.args.scripts.now in
    let i = c.loop-script.script-index in
    let script = c.script-item.result in
    let numbers = c.loop-script.numbers.keys in
    let told : c.in_ok-insert_number.field-0 ≡ not (list_any (int_eq (script_behind script).node) numbers) = search rules in
    let behind : c.insert_number.new.numbers.keys ≡ numbers ++ (script_behind script).node ∷ [] = search rules in
    let unseen = is_new _ _ told c.if-not-branch.false in
    record {
      numbers = behind ∙ numbers_more script_behind items i script c.loop-script-test.true c.script-item.is numbers c.loop-script.invariant.numbers;
      left = c.loop-script.invariant.left ∙ seen_goes_on script_behind items i script c.loop-script-test.true c.script-item.is numbers c.loop-script.invariant.numbers unseen;
    }
