use Rattle.std.proofs.Common.{◌≡◌, ◌∙◌, ap, codes, rules}
use Rattle.ioa_paper.specs.Papers.{PlainPaper, and_text}
use Rattle.ioa_paper.proofs.Papers.{joined}
use Rattle.ioa_tell_text.specs.Verdicts.{named_mark}
use Rattle.ioa_tell_text.proofs.verdicts.put_mark_line.Goals as goal

pub returns : goal.returns
returns g c =
    let paper = c.args.paper.now in
    let mark = named_mark c.args.name.now c.args.how.now c.args.place.now in
    let first : c.put.new.self ≡ and_text paper (codes "  invariant ") = search rules in
    let behind : c.put_named_mark.new.paper ≡ and_text c.put.new.self mark = search rules in
    behind ∙ ap (λ (p : PlainPaper). and_text p mark) first ∙ joined paper (codes "  invariant ") mark
