-- What is read of a sort is spelled.
use Rattle.std.proofs.Common.{◌≡◌, ℕ, zero, suc, List, ◌∷◌, Option, Some}
use Rattle.std.proofs.lemmas.Option.{some_pair_parts}
use Rattle.ioa_tokens.specs.declared.token.Token.{Token}
use Rattle.ioa_tokens.specs.declared.token.Token.TheVariants as token
use Rattle.ioa_tokens.specs.declared.mark.Mark.{Mark}
use Rattle.ioa_tokens.specs.declared.mark.Mark.TheVariants as mark
use Rattle.ioa_terms.specs.PlainSort.{PlainSort, sequences, sets, maps}
use Rattle.ioa_cursor.specs.Reading.{advance}
use Rattle.ioa_cursor.proofs.Steps.{read_next, choose_cases, bind_cases, expected_taken, word_taken, peek_mark_taken}
use Rattle.ioa_part_reader.specs.Grammar as grammar
use Rattle.ioa_part_reader.specs.Grammar.{SpellsSort}
use Rattle.ioa_part_reader.specs.Reading as reading

-- a sort in brackets that are still to be opened: none where no bracket may be
abbrev Within : ℕ → PlainSort → List Token → List Token → Type 0
Within zero s xs ys = ⊥
Within (suc room) s xs ys = SpellsSort room s xs ys

sequence_of : (room : ℕ) {s : PlainSort} {xs ys : List Token} → Within room s xs (token.Mark mark.CloseSquare ∷ ys) →
    SpellsSort room (sequences s) (token.Mark mark.Seq ∷ token.Mark mark.OpenSquare ∷ xs) ys
sequence_of zero d = absurd d
sequence_of (suc room) d = grammar.seq d

set_of : (room : ℕ) {s : PlainSort} {xs ys : List Token} → Within room s xs (token.Mark mark.CloseSquare ∷ ys) →
    SpellsSort room (sets s) (token.Mark mark.Set ∷ token.Mark mark.OpenSquare ∷ xs) ys
set_of zero d = absurd d
set_of (suc room) d = grammar.set d

map_of : (room : ℕ) {k v : PlainSort} {xs zs : List Token} (ys : List Token) → Within room k xs (token.Mark mark.Comma ∷ ys) →
    Within room v ys (token.Mark mark.CloseSquare ∷ zs) → SpellsSort room (maps k v) (token.Mark mark.Map ∷ token.Mark mark.OpenSquare ∷ xs) zs
map_of zero ys c d = absurd c
map_of (suc room) ys c d = grammar.map_of c d

module _ (room : ℕ) (next : List Token → Option (PlainSort × List Token))
    (sound : (xs ys : List Token) (s : PlainSort) → next xs ≡ read_next s ys → Within room s xs ys) where
  -- the tokens of one sort in brackets
  abbrev Item : List Token → PlainSort × List Token → Type 0
  Item xs r = (inner : List Token) × (xs ≡ token.Mark mark.OpenSquare ∷ inner) × Within room r.0 inner (token.Mark mark.CloseSquare ∷ r.1)

  item_taken : (xs : List Token) (r : PlainSort × List Token) → reading.item_sort next xs ≡ Some r → Item xs r
  unfolding reading.item_sort
  item_taken xs r e =
      let P : Type 0 = Item xs r in
      bind_cases P e (λ o o_is e1. bind_cases P e1 (λ s s_is e2. bind_cases P e2 (λ c c_is done.
      let p = some_pair_parts _ _ _ _ done in
      let d = sound o.1 s.1 s.0 s_is in
      (o.1, expected_taken mark.OpenSquare xs o o_is, rw (← p.0, ← p.1, ← expected_taken mark.CloseSquare s.1 c c_is) d))))

  map_sound : (xs ys : List Token) (s : PlainSort) → reading.map_sort next xs ≡ read_next s ys → SpellsSort room s (token.Mark mark.Map ∷ xs) ys
  unfolding reading.map_sort
  map_sound xs ys s e =
      let P : Type 0 = SpellsSort room s (token.Mark mark.Map ∷ xs) ys in
      bind_cases P e (λ o o_is e1. bind_cases P e1 (λ k k_is e2. bind_cases P e2 (λ m m_is e3. bind_cases P e3 (λ v v_is e4. bind_cases P e4 (λ c c_is done.
      let p = some_pair_parts _ _ _ _ done in
      let keys = rw (expected_taken mark.Comma k.1 m m_is) at (sound o.1 k.1 k.0 k_is) in
      let values = rw (expected_taken mark.CloseSquare v.1 c c_is) at (sound m.1 v.1 v.0 v_is) in
      rw (expected_taken mark.OpenSquare xs o o_is, ← p.0, ← p.1) (map_of room m.1 keys values))))))

  marked_sound : (m : Mark) (xs ys : List Token) (s : PlainSort) → reading.marked_sort next m xs ≡ read_next s ys → SpellsSort room s (token.Mark m ∷ xs) ys
  unfolding reading.marked_sort
  marked_sound mark.Bool xs ys s e = let p = some_pair_parts _ _ _ _ e in rw (← p.0, ← p.1) grammar.bool
  marked_sound mark.Int xs ys s e = let p = some_pair_parts _ _ _ _ e in rw (← p.0, ← p.1) grammar.int
  marked_sound mark.Nat xs ys s e = let p = some_pair_parts _ _ _ _ e in rw (← p.0, ← p.1) grammar.nat
  marked_sound mark.Seq xs ys s e =
      let P : Type 0 = SpellsSort room s (token.Mark mark.Seq ∷ xs) ys in
      bind_cases P e (λ r r_is done.
      let p = some_pair_parts _ _ _ _ done in
      let i = item_taken xs r r_is in
      rw (i.1, ← p.0, ← p.1) (sequence_of room i.2))
  marked_sound mark.Set xs ys s e =
      let P : Type 0 = SpellsSort room s (token.Mark mark.Set ∷ xs) ys in
      bind_cases P e (λ r r_is done.
      let p = some_pair_parts _ _ _ _ done in
      let i = item_taken xs r r_is in
      rw (i.1, ← p.0, ← p.1) (set_of room i.2))
  marked_sound mark.Map xs ys s e = map_sound xs ys s e
  marked_sound _ xs ys s e = absurd cc

  sort_by_sound : (xs ys : List Token) (s : PlainSort) → reading.sort_by next xs ≡ read_next s ys → SpellsSort room s xs ys
  sort_by_sound xs ys s e =
      let P : Type 0 = SpellsSort room s xs ys in
      choose_cases P e
      (λ _ named.
      bind_cases P named (λ w w_is done.
      let p = some_pair_parts _ _ _ _ done in
      rw (word_taken xs w w_is, ← p.0, ← p.1) grammar.named_by))
      (λ _ marked.
      bind_cases P marked (λ m m_is more. rw (peek_mark_taken xs m m_is) (marked_sound m (advance xs) ys s more)))

sort_in_sound : (depth : ℕ) (xs ys : List Token) (s : PlainSort) → reading.sort_in depth xs ≡ read_next s ys → Within depth s xs ys
unfolding reading.sort_in
sort_in_sound zero xs ys s e = absurd cc
sort_in_sound (suc depth) xs ys s e = sort_by_sound depth (reading.sort_in depth) (sort_in_sound depth) xs ys s e

-- what is read of a sort is spelled
pub sort_sound : (room : ℕ) (xs ys : List Token) (s : PlainSort) → reading.sort room xs ≡ read_next s ys → SpellsSort room s xs ys
sort_sound room xs ys s e = sort_in_sound (suc room) xs ys s e
