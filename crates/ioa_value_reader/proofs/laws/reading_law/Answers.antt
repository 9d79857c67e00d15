use Rattle.ioa_value_reader.proofs.Ascending.{value_ascends}
use Rattle.ioa_value_reader.proofs.Complete.{value_complete}
use Rattle.ioa_value_reader.proofs.Sound.{value_sound}
use Rattle.ioa_value_reader.proofs.laws.reading_law.Goals as goal

pub returns : goal.returns
returns c = record {
  sound = λ names s v xs ys e. let p = value_sound names s xs (v, ys) e in (p.is, p.has);
  complete = λ names s v xs ys d h. value_complete names d s h;
  ascends = λ names v xs ys d. value_ascends d;
}
