-- What the code of sites means (view).
use Rattle.std.specs.Prelude.{Bool, true, false, [], take}
use Rattle.ioa_types.specs.TypeTables.{TypeTable}
use Rattle.ioa_sorts.specs.declared.site.Place.{Place}
use Rattle.ioa_sorts.specs.declared.site.Place.TheVariants.{Effect, Block}
use Rattle.ioa_sorts.specs.declared.site.StatementSite.{StatementSite}
use Rattle.ioa_sorts.specs.StatementSites.{PlainStatementSite}

-- the types whose values may be chosen in a place, and whether it is a schedule block
abbrev pub types_of : Place → TypeTable
types_of (Effect types) = types.now
types_of Block = []

abbrev pub is_block : Place → Bool
is_block (Effect types) = false
is_block Block = true

-- where statements are written: the first names in view are the variables
abbrev pub site_of : StatementSite → PlainStatementSite
site_of s = record {
  types = types_of s.place;
  variables = take s.variables s.view.now;
  all_variables = take s.all_variables s.view.now;
  names = s.view.now;
  in_block = is_block s.place;
  rules = s.rules.now;
}
