-- The tokens that a value is spelled by stand in front of those that come after it.
use Rattle.std.proofs.Common.{◌≡◌, ℕ, ◌<◌, List, [], ◌∷◌, ◌++◌, length, refl, ap, ◌∙◌, sym, append_assoc, arith}
use Rattle.ioa_tokens.specs.declared.token.Token.{Token}
use Rattle.ioa_values.specs.Data.{Data, Items, Entries}
use Rattle.ioa_value_reader.specs.Grammar.{SpellsValue, plus, minus, is_true, is_false, named, parts, empty_sequence, empty_set, empty_map, items, members, entries}
use Rattle.ioa_value_reader.specs.Grammar.{SpellsItems, single, followed, SpellsEntries, single_entry, followed_entry}

-- tokens stand in front of others
pub record Front (xs ys : List Token) : Type 0 where
  pub front : List Token
  pub same : xs ≡ front ++ ys

-- one token more in front
one_more : (t : Token) {xs ys : List Token} → Front xs ys → Front (t ∷ xs) ys
one_more t f = record { front = t ∷ f.front; same = ap (λ us. t ∷ us) f.same }

-- in front of what has a front
pub joined_fronts : {xs ys zs : List Token} → Front xs ys → Front ys zs → Front xs zs
joined_fronts {xs} {ys} {zs} f g =
    record { front = f.front ++ g.front; same = f.same ∙ ap (λ us. f.front ++ us) g.same ∙ sym (append_assoc f.front g.front zs) }

-- a token behind the front belongs to it
with_token : (t : Token) {xs ys : List Token} → Front xs (t ∷ ys) → Front xs ys
with_token t f = joined_fronts f (record { front = t ∷ []; same = refl })

module _ {names : List (List ℕ)} where
  mutual
    -- what comes after a value stands behind its tokens
    pub value_front : {v : Data} {xs ys : List Token} → SpellsValue names v xs ys → Front xs ys
    value_front plus = record { front = _ ∷ []; same = refl }
    value_front minus = record { front = _ ∷ _ ∷ []; same = refl }
    value_front is_true = record { front = _ ∷ []; same = refl }
    value_front is_false = record { front = _ ∷ []; same = refl }
    value_front (named k) = record { front = _ ∷ []; same = refl }
    value_front (parts d) = one_more _ (with_token _ (items_front d))
    value_front empty_sequence = record { front = _ ∷ _ ∷ []; same = refl }
    value_front empty_set = record { front = _ ∷ _ ∷ []; same = refl }
    value_front empty_map = record { front = _ ∷ _ ∷ []; same = refl }
    value_front (items d) = one_more _ (with_token _ (items_front d))
    value_front (members a d) = one_more _ (with_token _ (items_front d))
    value_front (entries a d) = one_more _ (with_token _ (entries_front d))

    pub items_front : {ds : Items} {xs ys : List Token} → SpellsItems names ds xs ys → Front xs ys
    items_front (single d) = value_front d
    items_front (followed d rest) = joined_fronts (with_token _ (value_front d)) (items_front rest)

    pub entries_front : {es : Entries} {xs ys : List Token} → SpellsEntries names es xs ys → Front xs ys
    entries_front (single_entry k v) = joined_fronts (with_token _ (value_front k)) (value_front v)
    entries_front (followed_entry k v rest) = joined_fronts (with_token _ (value_front k)) (joined_fronts (with_token _ (value_front v)) (entries_front rest))

  mutual
    -- and there are fewer of them
    pub value_shorter : {v : Data} {xs ys : List Token} → SpellsValue names v xs ys → length ys < length xs
    value_shorter plus = omega arith
    value_shorter minus = omega arith
    value_shorter is_true = omega arith
    value_shorter is_false = omega arith
    value_shorter (named k) = omega arith
    value_shorter (parts d) = let a = items_shorter d in omega arith
    value_shorter empty_sequence = omega arith
    value_shorter empty_set = omega arith
    value_shorter empty_map = omega arith
    value_shorter (items d) = let a = items_shorter d in omega arith
    value_shorter (members s d) = let a = items_shorter d in omega arith
    value_shorter (entries s d) = let a = entries_shorter d in omega arith

    pub items_shorter : {ds : Items} {xs ys : List Token} → SpellsItems names ds xs ys → length ys < length xs
    items_shorter (single d) = value_shorter d
    items_shorter (followed d rest) = let a = value_shorter d in let b = items_shorter rest in omega arith

    pub entries_shorter : {es : Entries} {xs ys : List Token} → SpellsEntries names es xs ys → length ys < length xs
    entries_shorter (single_entry k v) = let a = value_shorter k in let b = value_shorter v in omega arith
    entries_shorter (followed_entry k v rest) = let a = value_shorter k in let b = value_shorter v in let c = entries_shorter rest in omega arith
