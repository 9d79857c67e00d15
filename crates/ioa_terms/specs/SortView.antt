-- The plain data of the code's sorts (view).
use Rattle.ioa_terms.specs.PlainSort.{PlainSort, booleans, integers, naturals, sequences, sets, maps, named_type}
use Rattle.ioa_terms.specs.declared.sort.Sort.{Sort, fold-Sort}
use Rattle.ioa_terms.specs.declared.sort.Sort.TheOpen.{Sort-F}

abbrev pub sort_step : Sort-F PlainSort → PlainSort
sort_step Sort-F.Bool = booleans
sort_step Sort-F.Int = integers
sort_step Sort-F.Nat = naturals
sort_step (Sort-F.Seq s) = sequences s.value
sort_step (Sort-F.Set s) = sets s.value
sort_step (Sort-F.Map k v) = maps k.value v.value
sort_step (Sort-F.Named w) = named_type w

-- a sort
abbrev pub sort_of : Sort → PlainSort
sort_of = fold-Sort PlainSort sort_step
