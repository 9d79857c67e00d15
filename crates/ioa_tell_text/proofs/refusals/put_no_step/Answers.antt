use Rattle.std.proofs.Common.{◌≡◌, ◌∙◌, ap, codes, rules}
use Rattle.ioa_paper.specs.Papers.{PlainPaper, and_text}
use Rattle.ioa_paper.proofs.Papers.{joined}
use Rattle.ioa_tell_text.specs.Lines.{numbered_text}
use Rattle.ioa_tell_text.proofs.refusals.put_no_step.Goals as goal

pub returns : goal.returns
returns g c =
    let paper = c.args.paper.now in
    let entry = numbered_text c.args.names.now c.args.number c.args.entry.now in
    let first : c.put.new.self ≡ and_text paper (codes "not a step: ") = search rules in
    let behind : c.put_numbered.new.paper ≡ and_text c.put.new.self entry = search rules in
    behind ∙ ap (λ (p : PlainPaper). and_text p entry) first ∙ joined paper (codes "not a step: ") entry
