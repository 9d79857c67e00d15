use Rattle.std.proofs.Common.{rules, ◌≡◌, ◌∙◌, sym, Some, None, ◌<◌, length, nat_eq}
use Rattle.std.specs.List.{after_first, before_first, position_or_len}
use Rattle.ioa_command.specs.FailOn as spec
use Rattle.ioa_command.proofs.CommaWords.{all_one, all_split}
use Rattle.ioa_command.proofs.fail_on.+findings_among.Goals as goal

pub returns-in_err-with_finding-in-Some : goal.returns-in_err-with_finding-in-Some
returns-in_err-with_finding-in-Some t c =
    let names = c.args.names.now in
    let there : position_or_len (λ b. nat_eq b 44) names < length names = search rules in
    let first : c.in-Some.name.now ≡ before_first (λ b. nat_eq b 44) names = search rules in
    let more : c.in-Some.more.now ≡ after_first (λ b. nat_eq b 44) names = search rules in
    let none : spec.with_finding c.in-Some.name.now c.args.before ≡ None = search rules in
    rw (all_split names c.in-Some.name.now c.in-Some.more.now c.args.before there first more, none) (search rules)

pub returns-in-None : goal.returns-in-None
returns-in-None t c =
    let names = c.args.names.now in
    let none : position_or_len (λ b. nat_eq b 44) names ≡ length names = search rules in
    c.with_finding.ensures ∙ sym (all_one names c.args.before none)

pub returns-in_ok-with_finding-in-Some : goal.returns-in_ok-with_finding-in-Some
returns-in_ok-with_finding-in-Some t c =
    let names = c.args.names.now in
    let there : position_or_len (λ b. nat_eq b 44) names < length names = search rules in
    let first : c.in-Some.name.now ≡ before_first (λ b. nat_eq b 44) names = search rules in
    let more : c.in-Some.more.now ≡ after_first (λ b. nat_eq b 44) names = search rules in
    let some : spec.with_finding c.in-Some.name.now c.args.before ≡ Some c.in_ok-with_finding-in-Some.field-0 = search rules in
    rw (all_split names c.in-Some.name.now c.in-Some.more.now c.args.before there first more, some) c.findings_among.ensures
