use Rattle.std.proofs.Common.{◌≡◌, ◌∙◌, ap, codes, rules}
use Rattle.ioa_paper.specs.Papers.{PlainPaper, and_text}
use Rattle.ioa_paper.proofs.Papers.{joined}
use Rattle.ioa_tell_text.specs.Changes.{component_text}
use Rattle.ioa_tell_text.proofs.lines.put_absent.Goals as goal

pub returns : goal.returns
returns g c =
    let first : c.put_component.new.paper ≡ and_text c.args.paper.now (component_text c.args.queue) = search rules in
    let second : c.put.new.self ≡ and_text c.put_component.new.paper (codes " has no such message") = search rules in
    second
    ∙ ap (λ (p : PlainPaper). and_text p (codes " has no such message")) first
    ∙ joined c.args.paper.now (component_text c.args.queue) (codes " has no such message")
