use Rattle.ioa_text_reader.proofs.Parsed.{parses_found, parses_refused, parses_exact, parses_long, parses_only}
use Rattle.ioa_text_reader.proofs.parsing.parse.Goals as goal

pub returns : goal.returns
returns c = record {
  found = parses_found c.read.result c.args.text.now c.read.ensures;
  refused = parses_refused c.read.result c.args.text.now c.read.ensures;
  exact = parses_exact c.read.result c.args.text.now c.read.ensures;
  long = parses_long c.read.result c.args.text.now c.read.ensures;
  only = parses_only c.read.result c.args.text.now c.read.ensures;
}
