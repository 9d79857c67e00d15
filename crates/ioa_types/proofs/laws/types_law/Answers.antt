use Rattle.std.proofs.Common.{sym}
use Rattle.ioa_types.proofs.Meant.{sort_means, sort_found, sort_declared, no_types, enumeration_added, tuple_added}
use Rattle.ioa_types.proofs.laws.types_law.Goals as goal

pub returns : goal.returns
returns c = record {
  means = λ types s x t e. sort_means types t s x (sym e);
  found = λ types s x h l. sym (sort_found types s x h l);
  declared = λ types s x t e. sort_declared types t s x (sym e);
  none = no_types;
  enumeration = enumeration_added;
  tuple = λ types more w fields s t e h. tuple_added types more w fields s t (sym e) h;
}
