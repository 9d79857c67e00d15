use Rattle.std.proofs.Common.{sym}
use Rattle.ioa_names.proofs.Names.{all_behind, all_differ, all_found, new_differ_between, new_found}
use Rattle.ioa_names.proofs.laws.names_law.Goals as goal

pub returns : goal.returns
returns c = record {
  behind = all_behind;
  differ = all_differ;
  found = λ names more d. sym (all_found names more d);
  between = λ outer constants names n h d e. let all = new_differ_between outer constants names n h d e in (sym all.0, all.1);
  passed = λ outer constants names d. sym (new_found outer constants names d);
}
