use Rattle.std.proofs.Common.{arith}
use Rattle.ioa_lines.proofs.LineFeeds.{lines_single, lines_split}
use Rattle.ioa_lines.proofs.lines.first_line.Goals as goal

pub returns-in-Some-clause-lines : goal.returns-in-Some-clause-lines
returns-in-Some-clause-lines c =
    let found = c.in-Some.ensures.byte (omega arith) (λ w o f. f) in
    lines_split c.args.text.now c.in-Some.line.now c.in-Some.rest.now found.0 found.1 found.2

pub returns-in-None-clause-lines : goal.returns-in-None-clause-lines
returns-in-None-clause-lines c = lines_single c.args.text.now (c.in-None.ensures.byte (omega arith) (λ w o f. f))
