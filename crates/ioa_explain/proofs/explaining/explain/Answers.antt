use Rattle.std.proofs.KnownBytes.{Keeps-refl}
use Rattle.ioa_explain.proofs.Explained.{explained, found_by}
use Rattle.ioa_explain.proofs.explaining.explain.Goals as goal

-- the explanation is put out
pub returns-in-Ok : goal.returns-in-Ok
returns-in-Ok g c = record {
  found = found_by _ _ _ c.in-Ok.ensures.found c.put_explanation.ensures.finding;
  told = explained _ _ _ _ _ _ _ c.in-Ok.ensures.told c.put_explanation.ensures.put;
}

-- nothing is put out
pub returns-in-Err : goal.returns-in-Err
returns-in-Err g c = record { found = tt; told = (c.requires, Keeps-refl _) }
