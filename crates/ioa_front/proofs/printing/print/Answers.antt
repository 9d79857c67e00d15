use Rattle.std.specs.Prelude.{string_bytes}
use Rattle.ioa_source.specs.TextView.{text_of}
use Rattle.ioa_front.proofs.TextPrinted.{answer_spelled}
use Rattle.ioa_front.proofs.printing.print.Goals as goal

pub returns : goal.returns
returns c = record {
  written = rw c.text.ensures.same at c.print_text.ensures;
  spelled = answer_spelled string_bytes (text_of c.args.source.now.text) (rw c.text.ensures.same at c.text.ensures.spelled) c.print_text.result (rw c.text.ensures.same at c.print_text.ensures);
}
