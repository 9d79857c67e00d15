use Rattle.std.proofs.Common.{◌≡◌, ◌++◌, rules}
use Rattle.std.specs.Prelude.{string_bytes}
use Rattle.ioa_actions.specs.declared.fault.StepFault.TheVariants.{NotMine}
use Rattle.ioa_tell_text.specs.Refusals.{argument_text, fault_words}
use Rattle.ioa_tell_text.proofs.Written.{written_then}
use Rattle.ioa_tell_text.proofs.reasons.push_other_const.Goals as goal

pub returns : goal.returns
returns c =
    let start = string_bytes c.args.out.now in
    let words : string_bytes c.push_str.new.self ≡ start ++ fault_words NotMine = search rules in
    written_then c.push_argument.result start (string_bytes c.push_str.new.self) (string_bytes c.push_argument.new.out)
    (fault_words NotMine) (argument_text c.args.names.now c.args.found.now) words c.push_argument.ensures
