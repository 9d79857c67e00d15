use Rattle.std.proofs.Common.{sym}
use Rattle.ioa_sorts.proofs.SoundStatements.{statement_sound}
use Rattle.ioa_sorts.proofs.CompleteStatements.{statement_complete}
use Rattle.ioa_sorts.proofs.ToldStatements.{statement_told}
use Rattle.ioa_sorts.proofs.laws.statements_law.Goals as goal

pub returns : goal.returns
returns c = record {
  sound = λ types site d u s e. statement_sound types site d u s (sym e);
  found = λ site differ u s h. sym (statement_complete site differ u s h);
  told = statement_told;
}
