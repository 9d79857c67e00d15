-- The values behind `choose`: what is read of them is spelled, and they are read as they are spelled.
use Rattle.std.proofs.Common.{◌≡◌, ℕ, ◌+◌, ◌<◌, true, false, ◌&&◌, nat_le, nat_lt, nat_eq, List, [], ◌∷◌, Some, length, refl, arith}
use Rattle.std.specs.List.{list_all}
use lib.Pointwise.{pointwise}
use Rattle.std.proofs.lemmas.Bool.{and_parts}
use Rattle.std.proofs.lemmas.Bool.Decides.{nat_tests}
use Rattle.std.proofs.lemmas.List.Quantifiers.{position-Some}
use Rattle.ioa_tokens.specs.declared.token.Token.{Token}
use Rattle.ioa_tokens.specs.declared.token.Token.TheVariants as token
use Rattle.ioa_tokens.specs.declared.mark.Mark.TheVariants as mark
use Rattle.ioa_cursor.specs.Lists as lists
use Rattle.ioa_cursor.specs.Lists.{SeparatedBy}
use Rattle.ioa_cursor.specs.Reading.{at, at_number, at_word, bind, choose, end, expect, several_more, skip}
use Rattle.ioa_cursor.proofs.CompleteLists.{separated_complete}
use Rattle.ioa_cursor.proofs.SoundLists.{separated_sound}
use Rattle.ioa_cursor.proofs.Steps.{bind_cases, expected_taken, read_next}
use Rattle.ioa_values.specs.Data.{Data, Items, items_of, list_of}
use Rattle.ioa_values.proofs.ItemLists.{list_of_items}
use Rattle.ioa_operators.specs.Shapes.{has_shape, wide_shape}
use Rattle.ioa_value_reader.specs.Grammar.{SpellsItems, SpellsValue, constant_named, empty_map, empty_sequence, empty_set, entries, followed, is_false, is_true, items, members, minus, named, parts, plus, single}
use Rattle.ioa_value_reader.proofs.Complete.{value_complete}
use Rattle.ioa_value_reader.proofs.Shorter.{value_shorter}
use Rattle.ioa_value_reader.proofs.Sound.{value_sound}
use Rattle.ioa_lines.specs.Grammar.{SpellsChosen, chosen, is_simple, nothing_chosen}
use Rattle.ioa_lines.specs.Reading.{read_chosen, read_simple, simple_shape}
use Rattle.ioa_lines.proofs.Parts.{ended, settled}

module _ (names : List (List ℕ)) where
  -- a value that has the shape which its first token tells is simple
  told_simple : {d : Data} {xs ys : List Token} → SpellsValue names d xs ys → has_shape (wide_shape (simple_shape names xs)) d ≡ true → is_simple d ≡ true
  unfolding simple_shape choose at at_number at_word
  told_simple plus h = refl
  told_simple minus h = refl
  told_simple is_true h = refl
  told_simple is_false h = refl
  told_simple (named k) h = refl
  told_simple (parts d) h = absurd cc
  told_simple empty_sequence h = absurd cc
  told_simple empty_set h = absurd cc
  told_simple empty_map h = absurd cc
  told_simple (items d) h = absurd cc
  told_simple (members a d) h = absurd cc
  told_simple (entries a d) h = absurd cc

  -- a constant is one of all
  is_constant : (w : List ℕ) (k : ℕ) → constant_named names w ≡ Some k → (nat_le 0 k && nat_lt k (0 + length names)) ≡ true
  is_constant w k e =
      let p = position-Some (pointwise nat_eq w) names k [] e in
      let low : k < length names = p.0 in
      grind (arith, nat_tests)

  -- a value that is simple has that shape
  simple_told : {d : Data} {xs ys : List Token} → SpellsValue names d xs ys → is_simple d ≡ true → has_shape (wide_shape (simple_shape names xs)) d ≡ true
  unfolding simple_shape choose at at_number at_word
  simple_told plus h = refl
  simple_told minus h = refl
  simple_told is_true h = refl
  simple_told is_false h = refl
  simple_told (named {k = k} {w = w} e) h = is_constant w k e
  simple_told (parts d) h = absurd cc
  simple_told empty_sequence h = absurd cc
  simple_told empty_set h = absurd cc
  simple_told empty_map h = absurd cc
  simple_told (items d) h = absurd cc
  simple_told (members a d) h = absurd cc
  simple_told (entries a d) h = absurd cc

  -- a simple value that is spelled
  record SpelledSimple (d : Data) (xs ys : List Token) : Type 0 where
    is : SpellsValue names d xs ys
    simple : is_simple d ≡ true

  simple_sound : (xs ys : List Token) (d : Data) → read_simple names xs ≡ read_next d ys → SpelledSimple d xs ys
  simple_sound xs ys d e =
      let r = value_sound names (simple_shape names xs) xs (d, ys) e in
      record { is = r.is; simple = told_simple r.is r.has }

  -- simple values with commas between
  listed_from : {ds : List Data} {xs ys : List Token} → SeparatedBy mark.Comma SpelledSimple ds xs ys → SpellsItems names (items_of ds) xs ys × (list_all is_simple ds ≡ true)
  listed_from (lists.single d) = (single d.is, rw d.simple refl)
  listed_from (lists.followed d rest) = let r = listed_from rest in (followed d.is r.0, rw d.simple r.1)

  -- chosen values that are read are spelled
  pub chosen_sound : (xs : List Token) (vs : List Data) → read_chosen names xs ≡ Some vs → SpellsChosen names vs xs
  unfolding read_chosen
  chosen_sound [] vs e = settled (λ us. SpellsChosen names us []) e nothing_chosen
  chosen_sound (x ∷ xs) vs e =
      let P : Type 0 = SpellsChosen names vs (x ∷ xs) in
      bind_cases P e (λ c c_is rest. bind_cases P rest (λ r r_is last. bind_cases P last (λ t t_is done.
      let d = listed_from (separated_sound SpelledSimple (read_simple names) simple_sound mark.Comma c.1 r.1 r.0 r_is) in
      rw (expected_taken mark.Choose (x ∷ xs) c c_is)
      (settled (λ us. SpellsChosen names us (token.Mark mark.Choose ∷ c.1)) done (chosen d.1 (rw (ended r.1 t t_is) at d.0))))))

  -- a simple value that is read
  record ReadSimple (d : Data) (xs ys : List Token) : Type 0 where
    reads : read_simple names xs ≡ read_next d ys
    shorter : length ys < length xs

  simple_complete : {d : Data} {xs ys : List Token} → SpellsValue names d xs ys → is_simple d ≡ true → ReadSimple d xs ys
  simple_complete {xs = xs} d h = record { reads = value_complete names d (simple_shape names xs) (simple_told d h); shorter = value_shorter d }

  listed_complete : {ds : Items} {xs ys : List Token} → SpellsItems names ds xs ys → list_all is_simple (list_of ds) ≡ true → SeparatedBy mark.Comma ReadSimple (list_of ds) xs ys
  listed_complete (single {d = e} d) h = let p = and_parts (is_simple e) true h in lists.single (simple_complete d p.0)
  listed_complete (followed {d = e} {ds = ds} d rest) h =
      let p = and_parts (is_simple e) (list_all is_simple (list_of ds)) h in
      lists.followed (simple_complete d p.0) (listed_complete rest p.1)

  nothing_follows : at mark.Comma [] ≡ false
  unfolding at
  nothing_follows = refl

  listed_read : (vs : List Data) (xs : List Token) → SeparatedBy mark.Comma ReadSimple vs xs [] → several_more (skip mark.Comma) (read_simple names) [] xs ≡ read_next vs []
  listed_read vs xs d =
      separated_complete (λ ys. Unit {0}) ReadSimple (read_simple names) (λ a us ws r _. r.reads) (λ a us ws r. r.shorter) mark.Comma (λ zs. tt) vs xs [] d tt nothing_follows

  behind_choose : (vs : List Data) (xs : List Token) → several_more (skip mark.Comma) (read_simple names) [] xs ≡ read_next vs [] → read_chosen names (token.Mark mark.Choose ∷ xs) ≡ Some vs
  unfolding read_chosen expect skip bind end
  behind_choose vs xs e = rw e refl

  none_chosen : read_chosen names [] ≡ Some []
  unfolding read_chosen
  none_chosen = refl

  -- chosen values are read as they are spelled
  pub chosen_complete : {vs : List Data} {xs : List Token} → SpellsChosen names vs xs → read_chosen names xs ≡ Some vs
  chosen_complete nothing_chosen = none_chosen
  chosen_complete (chosen {vs = vs} {xs = xs} simple d) =
      let back : list_of (items_of vs) ≡ vs = list_of_items vs in
      let all = listed_complete d (rw back simple) in
      behind_choose vs xs (listed_read vs xs (rw back at all))
