use Rattle.std.proofs.Common.{◌≡◌, length, rules}
use Rattle.std.proofs.lemmas.List.{length-map}
use Rattle.ioa_source.specs.TextView.{declaration_of, text_of}
use Rattle.ioa_check.proofs.FromDeclarations.{by_declarations, undeclared}
use Rattle.ioa_check.proofs.checking.find_system.Goals as goal

pub returns-in-Ok : goal.returns-in-Ok
returns-in-Ok c =
    let index : c.len.result ≡ length c.args.text.now.declarations.items = search rules in
    rw (← by_declarations (text_of c.args.text.now), c.in-Ok.ensures, length-map c.args.text.now.declarations.items declaration_of, ← index) c.check_parts.ensures

pub returns-in-Err : goal.returns-in-Err
returns-in-Err c = undeclared (text_of c.args.text.now) _ c.in-Err.ensures
