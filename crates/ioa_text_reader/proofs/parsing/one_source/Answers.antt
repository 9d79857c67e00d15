use Rattle.ioa_text_reader.proofs.Parsed.{spelled_once}
use Rattle.ioa_text_reader.proofs.parsing.one_source.Goals as goal

pub returns : goal.returns
returns c = spelled_once
