use Rattle.std.proofs.Common.{sym}
use Rattle.ioa_sorts.proofs.Sound.{own_sound, own_declared, own_bare, fit_sound}
use Rattle.ioa_sorts.proofs.Complete.{fit_complete, infer_complete}
use Rattle.ioa_sorts.proofs.Told.{fit_told, infer_told}
use Rattle.ioa_sorts.proofs.laws.sorts_law.Goals as goal

pub returns : goal.returns
returns c = record {
  own = λ types names h u t s e. own_sound types names h u t s (sym e);
  own_declared = λ types names h u t s e. own_declared types names h u t s (sym e);
  own_bare = λ types names h u t s e. own_bare types names h u t s (sym e);
  wanted = λ types names h u s d t e. fit_sound types names h u s d t (sym e);
  found = λ names u t s h. sym (fit_complete names u t s h);
  found_own = λ names u t s h e. sym (infer_complete names u t s h e);
  told = λ names u d s e. fit_told names u s d e;
  told_own = λ names u d e. infer_told names u d e;
}
