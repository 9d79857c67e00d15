-- The names in view in a schedule block: in which order they are, and that they differ.
use Rattle.std.proofs.Common.{◌≡◌, ◌+◌, false, List, [], ◌∷◌, ◌++◌, Result, Ok, sym, ap, subst, ◌∙◌, length, take}
use Rattle.std.specs.List.{AllByRecursion, IsDistinct}
use Rattle.std.proofs.lemmas.List.{append_assoc}
use Rattle.ioa_values.proofs.AllOf.{all_appended, all_parts}
use Rattle.ioa_terms.specs.declared.name.Name.{Name}
use Rattle.ioa_terms.specs.Bindings.{same_name}
use Rattle.ioa_terms.specs.Sorted.{NameShapes}
use Rattle.ioa_source.specs.Sides.{CheckedDeclared, CheckedVariable}
use Rattle.ioa_system.specs.Parts.{PlainRule}
use Rattle.ioa_refusals.specs.declared.refusal.Refusal.{Refusal}
use Rattle.ioa_sorts.specs.StatementSites.{block_site}
use Rattle.ioa_names.specs.NameTables.{AreDistinct, declared_names}
use Rattle.ioa_names.proofs.Names.{all_found, first_differ, new_found, turned}
use Rattle.ioa_names.proofs.Words.{names_joined}
use Rattle.ioa_automata.specs.NamesInView.{parameter_shapes, variable_shapes, inbox_shapes, block_own_shapes, block_names_or}
use Rattle.ioa_automata.specs.Rules.{PlainSurroundings}
use Rattle.ioa_automata.specs.Schedules.{site_in}
use Rattle.ioa_automata.specs.SortedAutomata.{block_names, block_of}

-- names that differ still do without one of them, which differs from the others
apart_removed : (xs : List Name) (y : Name) (rest : List Name) → IsDistinct same_name (xs ++ y ∷ rest) → AllByRecursion (λ x. same_name y x ≡ false) (xs ++ rest) × IsDistinct same_name (xs ++ rest)
unfolding IsDistinct
apart_removed [] y rest d = d
apart_removed (x ∷ xs) y rest d =
    let others = apart_removed xs y rest d.1 in
    let apart = all_parts (λ z. same_name x z ≡ false) xs (y ∷ rest) d.0 in
    ((turned y x apart.1.0, others.0), (all_appended (λ z. same_name x z ≡ false) xs rest apart.0 apart.1.1, others.1))

-- and in another order
order_swapped : (xs ys zs : List Name) → IsDistinct same_name (xs ++ (ys ++ zs)) → IsDistinct same_name (ys ++ (xs ++ zs))
unfolding IsDistinct
order_swapped xs [] zs d = d
order_swapped xs (y ∷ ys) zs d =
    let others = apart_removed xs y (ys ++ zs) d in
    let first = all_parts (λ x. same_name y x ≡ false) xs (ys ++ zs) others.0 in
    let rest = all_parts (λ x. same_name y x ≡ false) ys zs first.1 in
    (all_appended (λ x. same_name y x ≡ false) ys (xs ++ zs) rest.0 (all_appended (λ x. same_name y x ≡ false) xs zs first.0 rest.1), order_swapped xs ys zs others.1)

names_of_three : (xs ys zs : NameShapes) → declared_names (xs ++ (ys ++ zs)) ≡ declared_names xs ++ (declared_names ys ++ declared_names zs)
names_of_three xs ys zs = names_joined xs (ys ++ zs) ∙ ap (λ ns. declared_names xs ++ ns) (names_joined ys zs)

pub names_swapped : (xs ys zs : NameShapes) → AreDistinct (xs ++ (ys ++ zs)) → AreDistinct (ys ++ (xs ++ zs))
names_swapped xs ys zs d =
    subst (IsDistinct same_name) (sym (names_of_three ys xs zs)) (order_swapped (declared_names xs) (declared_names ys) (declared_names zs) (subst (IsDistinct same_name) (names_of_three xs ys zs) d))

-- the site of a block, with its names in the order of the slots
pub site_same : (s : PlainSurroundings) (ps : List CheckedDeclared) (vs own : List CheckedVariable) (n : NameShapes) (rs : List PlainRule) → s.outer ≡ variable_shapes vs ++ parameter_shapes ps → s.variables ≡ length vs → n ≡ block_own_shapes own rs →
    site_in s n (length own) rs ≡ block_of (block_names s.constants ps vs own rs) vs own rs
site_same s ps vs own n rs outer many same =
    let view : n ++ (s.outer ++ s.constants) ≡ block_names s.constants ps vs own rs =
    (λ i. same i ++ (outer i ++ s.constants)) ∙ sym (append_assoc (block_own_shapes own rs) (variable_shapes vs ++ parameter_shapes ps) s.constants) in
    λ i. block_site (take (length own) (view i)) (take (length (same i) + many i) (view i)) (view i) rs

abbrev names_are : NameShapes → Result NameShapes Refusal
names_are n = Ok n

-- names of a block that differ are found
pub block_found : (outer constants : NameShapes) (own : List CheckedVariable) (rs : List PlainRule) → AreDistinct (block_own_shapes own rs ++ (outer ++ constants)) → names_are (block_own_shapes own rs) ≡ block_names_or outer constants own rs
block_found outer constants own rs d =
    let names = block_own_shapes own rs in
    let both = first_differ names (outer ++ constants) d in
    rw (← all_found [] (variable_shapes own) (first_differ (variable_shapes own) (inbox_shapes rs) both), ← all_found (variable_shapes own) (inbox_shapes rs) both) (new_found outer constants names (names_swapped names outer constants d))
