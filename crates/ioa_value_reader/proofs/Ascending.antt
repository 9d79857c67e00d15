-- The sets and maps of a value that is spelled ascend, at any depth.
use Rattle.std.proofs.Common.{ℕ, List}
use Rattle.ioa_tokens.specs.declared.token.Token.{Token}
use Rattle.ioa_values.specs.Canonical.{IsCanonical, AreCanonical, AreCanonicalEntries}
use Rattle.ioa_values.specs.Data.{Data, Items, Entries}
use Rattle.ioa_value_reader.specs.Grammar.{SpellsValue, plus, minus, is_true, is_false, named, parts, empty_sequence, empty_set, empty_map, items, members, entries}
use Rattle.ioa_value_reader.specs.Grammar.{SpellsItems, single, followed, SpellsEntries, single_entry, followed_entry}

module _ {names : List (List ℕ)} where
  mutual
    pub value_ascends : {d : Data} {xs ys : List Token} → SpellsValue names d xs ys → IsCanonical d
    value_ascends plus = tt
    value_ascends minus = tt
    value_ascends is_true = tt
    value_ascends is_false = tt
    value_ascends (named e) = tt
    value_ascends (parts d) = items_ascend d
    value_ascends empty_sequence = tt
    value_ascends empty_set = (tt, tt)
    value_ascends empty_map = (tt, tt)
    value_ascends (items d) = items_ascend d
    value_ascends (members a d) = (a, items_ascend d)
    value_ascends (entries a d) = (a, entries_ascend d)

    items_ascend : {ds : Items} {xs ys : List Token} → SpellsItems names ds xs ys → AreCanonical ds
    items_ascend (single d) = (value_ascends d, tt)
    items_ascend (followed d rest) = (value_ascends d, items_ascend rest)

    entries_ascend : {es : Entries} {xs ys : List Token} → SpellsEntries names es xs ys → AreCanonicalEntries es
    entries_ascend (single_entry k v) = ((value_ascends k, value_ascends v), tt)
    entries_ascend (followed_entry k v rest) = ((value_ascends k, value_ascends v), entries_ascend rest)
