-- The grammar of values (profile). `SpellsValue names v xs ys` says that the tokens `xs` are a spelling of `v` and
-- after it `ys`; `names` are those of the text's constants, in order.
use Rattle.std.specs.Prelude.{◌≡◌, ℕ, ℤ, pos, negsuc, neg_ℤ, nat_eq, true, false, List, ◌∷◌, Option, Some}
use Rattle.std.specs.List.{position}
use lib.Pointwise.{pointwise}
use Rattle.ioa_tokens.specs.declared.token.Token.{Token}
use Rattle.ioa_tokens.specs.declared.token.Token.TheVariants as token
use Rattle.ioa_tokens.specs.declared.mark.Mark.TheVariants as mark
use Rattle.ioa_values.specs.Collections.{IsAscending, keys_of}
use Rattle.ioa_values.specs.Data.{Data, number, truth, constant, tuple, sequence, finite_set, finite_map}
use Rattle.ioa_values.specs.Data.{Items, no_items, item, Entries, no_entries, entry, list_of, pairs_of}

-- the constant of a name: the first one that has it
abbrev pub constant_named : List (List ℕ) → List ℕ → Option ℕ
constant_named names w = position (pointwise nat_eq w) names

-- minus the amount of a number
abbrev pub minus_amount : ℤ → ℤ
minus_amount (pos n) = neg_ℤ (pos n)
minus_amount (negsuc n) = negsuc n

mutual
  pub data SpellsValue (names : List (List ℕ)) : Data → List Token → List Token → Type 0 where
    plus : {n : ℕ} {ys : List Token} → SpellsValue names (number (pos n)) (token.Number (pos n) ∷ ys) ys
    -- - Number
    minus : {n : ℤ} {ys : List Token} →
        SpellsValue names (number (minus_amount n)) (token.Mark mark.Minus ∷ token.Number n ∷ ys) ys
    is_true : {ys : List Token} → SpellsValue names (truth true) (token.Mark mark.True ∷ ys) ys
    is_false : {ys : List Token} → SpellsValue names (truth false) (token.Mark mark.False ∷ ys) ys
    named : {k : ℕ} {w : List ℕ} {ys : List Token} →
        constant_named names w ≡ Some k → SpellsValue names (constant k) (token.Word w ∷ ys) ys
    -- [ Value {, Value} ]
    parts : {ds : Items} {xs ys : List Token} →
        SpellsItems names ds xs (token.Mark mark.CloseSquare ∷ ys) →
        SpellsValue names (tuple ds) (token.Mark mark.OpenSquare ∷ xs) ys
    -- {}, which is a sequence, a set or a map
    empty_sequence : {ys : List Token} →
        SpellsValue names (sequence no_items) (token.Mark mark.OpenBrace ∷ token.Mark mark.CloseBrace ∷ ys) ys
    empty_set : {ys : List Token} →
        SpellsValue names (finite_set no_items) (token.Mark mark.OpenBrace ∷ token.Mark mark.CloseBrace ∷ ys) ys
    empty_map : {ys : List Token} →
        SpellsValue names (finite_map no_entries) (token.Mark mark.OpenBrace ∷ token.Mark mark.CloseBrace ∷ ys) ys
    -- { Value {, Value} }
    items : {ds : Items} {xs ys : List Token} →
        SpellsItems names ds xs (token.Mark mark.CloseBrace ∷ ys) →
        SpellsValue names (sequence ds) (token.Mark mark.OpenBrace ∷ xs) ys
    -- the same with values in ascending order, none of them twice
    members : {ds : Items} {xs ys : List Token} →
        IsAscending (list_of ds) → SpellsItems names ds xs (token.Mark mark.CloseBrace ∷ ys) →
        SpellsValue names (finite_set ds) (token.Mark mark.OpenBrace ∷ xs) ys
    -- { Value -> Value {, Value -> Value} } with keys in ascending order, none of them twice
    entries : {es : Entries} {xs ys : List Token} →
        IsAscending (keys_of (pairs_of es)) → SpellsEntries names es xs (token.Mark mark.CloseBrace ∷ ys) →
        SpellsValue names (finite_map es) (token.Mark mark.OpenBrace ∷ xs) ys

  -- Value {, Value}
  pub data SpellsItems (names : List (List ℕ)) : Items → List Token → List Token → Type 0 where
    single : {d : Data} {xs ys : List Token} →
        SpellsValue names d xs ys → SpellsItems names (item d no_items) xs ys
    followed : {d : Data} {ds : Items} {xs ys zs : List Token} →
        SpellsValue names d xs (token.Mark mark.Comma ∷ ys) →
        SpellsItems names ds ys zs → SpellsItems names (item d ds) xs zs

  -- Value -> Value {, Value -> Value}
  pub data SpellsEntries (names : List (List ℕ)) : Entries → List Token → List Token → Type 0 where
    single_entry : {k v : Data} {xs ys zs : List Token} →
        SpellsValue names k xs (token.Mark mark.Arrow ∷ ys) → SpellsValue names v ys zs →
        SpellsEntries names (entry k v no_entries) xs zs
    followed_entry : {k v : Data} {es : Entries} {xs ys zs us : List Token} →
        SpellsValue names k xs (token.Mark mark.Arrow ∷ ys) → SpellsValue names v ys (token.Mark mark.Comma ∷ zs) →
        SpellsEntries names es zs us → SpellsEntries names (entry k v es) xs us
