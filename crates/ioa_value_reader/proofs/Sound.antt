-- What is read of a value is spelled, and has the shape.
use Rattle.std.proofs.Common.{◌≡◌, ℕ, ◌+◌, ℤ, pos, negsuc, true, false, ◌&&◌, nat_le, nat_lt, nat_eq, List, [], ◌∷◌, ◌++◌, Option, Some, length, refl, sym, ◌∙◌}
use Rattle.std.specs.Prelude.{int_lt}
use Rattle.std.proofs.lemmas.List.{append_assoc, append-nil}
use Rattle.std.proofs.lemmas.Option.{some_pair_parts}
use Rattle.ioa_tokens.specs.declared.token.Token.{Token}
use Rattle.ioa_tokens.specs.declared.token.Token.TheVariants as token
use Rattle.ioa_tokens.specs.declared.mark.Mark.TheVariants as mark
use Rattle.ioa_cursor.specs.Lists as lists
use Rattle.ioa_cursor.specs.Lists.{SeparatedBy}
use Rattle.ioa_cursor.specs.Reading.{skip}
use Rattle.ioa_cursor.proofs.Steps.{read_next, choose_cases, bind_cases, skip_taken, skip_left, expected_taken, word_taken, number_taken}
use Rattle.ioa_cursor.proofs.SoundLists.{separated_sound}
use Rattle.ioa_values.specs.Collections.{IsAscending, keys_of}
use Rattle.ioa_values.specs.Data.{Data, number, tuple, sequence, finite_set, finite_map}
use Rattle.ioa_values.specs.Data.{items_of, entries_of}
use Rattle.ioa_values.proofs.ItemLists.{list_of_items, pairs_of_entries}
use Rattle.ioa_operators.specs.Shapes.{PlainShape, PlainShapes, truths, integers, naturals, constants, tuples, sequences, sets, maps, no_shapes, shape}
use Rattle.ioa_operators.specs.Shapes.{has_shape, have_shapes, all_have, entries_have, wide_shape, wide_shapes_if}
use Rattle.ioa_value_reader.specs.Grammar as grammar
use Rattle.ioa_value_reader.specs.Grammar.{SpellsValue, SpellsItems, SpellsEntries, constant_named}
use Rattle.ioa_value_reader.specs.Reading.{read_number, read_truth, constant_among, read_constant, in_braces, read_entry, between, as_set, as_map, read_value, read_parts}
use Rattle.ioa_value_reader.proofs.Ascents.{ascends_told}

settled : {A : Type 0} (P : A → Type 0) {x y : A} → Some x ≡ Some y → P x → P y
settled P {x} {y} e p = let same : x ≡ y = cc in rw same at p

-- a list in braces
data Braced {A : Type 0} (X : A → List Token → List Token → Type 0) : List A → List Token → List Token → Type 0 where
  empty : {ys : List Token} → Braced X [] (token.Mark mark.OpenBrace ∷ token.Mark mark.CloseBrace ∷ ys) ys
  filled : {all : List A} {xs ys : List Token} → SeparatedBy mark.Comma X all xs (token.Mark mark.CloseBrace ∷ ys) → Braced X all (token.Mark mark.OpenBrace ∷ xs) ys

braced_sound : {A : Type 0} (X : A → List Token → List Token → Type 0) (read : List Token → Option (A × List Token)) →
    ((xs ys : List Token) (x : A) → read xs ≡ read_next x ys → X x xs ys) → (xs : List Token) (r : List A × List Token) → in_braces read xs ≡ Some r → Braced X r.0 xs r.1
unfolding in_braces
braced_sound X read sound xs r e =
    let P : Type 0 = Braced X r.0 xs r.1 in
    bind_cases P e (λ o o_is inner.
    rw (expected_taken mark.OpenBrace xs o o_is)
    (choose_cases (Braced X r.0 (token.Mark mark.OpenBrace ∷ o.1) r.1) inner
    (λ closes done. rw (skip_taken mark.CloseBrace o.1 closes) (settled (λ s. Braced X s.0 (token.Mark mark.OpenBrace ∷ token.Mark mark.CloseBrace ∷ (skip mark.CloseBrace o.1).1) s.1) done empty))
    (λ goes_on more.
    let Q : Type 0 = Braced X r.0 (token.Mark mark.OpenBrace ∷ o.1) r.1 in
    bind_cases Q (rw (skip_left mark.CloseBrace o.1 goes_on) at more) (λ all all_is closed. bind_cases Q closed (λ c c_is done.
    settled (λ s. Braced X s.0 (token.Mark mark.OpenBrace ∷ o.1) s.1) done
    (filled (rw (expected_taken mark.CloseBrace all.1 c c_is) at (separated_sound X read sound mark.Comma o.1 all.1 all.0 all_is))))))))

module _ (names : List (List ℕ)) where
  -- a value that is spelled and has a shape, whatever the signs of its numbers
  pub record Spelled (s : PlainShape) (d : Data) (xs ys : List Token) : Type 0 where
    pub is : SpellsValue names d xs ys
    pub has : has_shape (wide_shape s) d ≡ true

  abbrev Read : PlainShape → List Token → Data × List Token → Type 0
  Read s xs r = Spelled s r.0 xs r.1

  natural_spelled : (z : ℤ) (ys : List Token) → int_lt z (pos 0) ≡ false → Spelled integers (number z) (token.Number z ∷ ys) ys
  natural_spelled (pos n) ys e = record { is = grammar.plus; has = refl }
  natural_spelled (negsuc n) ys e = absurd cc

  number_sound : (xs : List Token) (r : Data × List Token) → read_number xs ≡ Some r → Read integers xs r
  unfolding read_number
  number_sound xs r e =
      let P : Type 0 = Read integers xs r in
      choose_cases P e
      (λ marked is. bind_cases P is (λ n n_is done.
      rw (skip_taken mark.Minus xs marked, number_taken (skip mark.Minus xs).1 n n_is)
      (settled (Read integers (token.Mark mark.Minus ∷ token.Number n.0 ∷ n.1)) done (record { is = grammar.minus; has = refl }))))
      (λ alone is. bind_cases P is (λ n n_is kept. choose_cases P kept
      (λ _ none. absurd cc)
      (λ positive done.
      rw (number_taken xs n (rw (skip_left mark.Minus xs alone) at n_is))
      (settled (Read integers (token.Number n.0 ∷ n.1)) done (natural_spelled n.0 n.1 positive)))))

  truth_sound : (xs : List Token) (r : Data × List Token) → read_truth xs ≡ Some r → Read truths xs r
  unfolding read_truth
  truth_sound xs r e =
      let P : Type 0 = Read truths xs r in
      choose_cases P e
      (λ holds done. rw (skip_taken mark.True xs holds) (settled (Read truths (token.Mark mark.True ∷ (skip mark.True xs).1)) done (record { is = grammar.is_true; has = refl })))
      (λ other is. bind_cases P is (λ c c_is done.
      rw (expected_taken mark.False xs c (rw (skip_left mark.True xs other) at c_is))
      (settled (Read truths (token.Mark mark.False ∷ c.1)) done (record { is = grammar.is_false; has = refl }))))

  among_is : (from many : ℕ) (w : List ℕ) (k : ℕ) → constant_among names from many w ≡ Some k → (constant_named names w ≡ Some k) × ((nat_le from k && nat_lt k (from + many)) ≡ true)
  unfolding constant_among
  among_is from many w k e =
      let P : Type 0 = (constant_named names w ≡ Some k) × ((nat_le from k && nat_lt k (from + many)) ≡ true) in
      bind_cases P e (λ i i_is kept. choose_cases P kept
      (λ lies done. settled (λ j. (constant_named names w ≡ Some j) × ((nat_le from j && nat_lt j (from + many)) ≡ true)) done (i_is, lies))
      (λ _ none. absurd cc))

  constant_sound : (type : List ℕ) (from many : ℕ) (xs : List Token) (r : Data × List Token) → read_constant names from many xs ≡ Some r → Read (constants type from many) xs r
  unfolding read_constant
  constant_sound type from many xs r e =
      let P : Type 0 = Read (constants type from many) xs r in
      bind_cases P e (λ w w_is kept. bind_cases P kept (λ k k_is done.
      let p = among_is from many w.0 k k_is in
      rw (word_taken xs w w_is)
      (settled (Read (constants type from many) (token.Word w.0 ∷ w.1)) done (record { is = grammar.named p.0; has = p.1 }))))

  -- values one after another that have one shape
  items_from : {s : PlainShape} {ds : List Data} {xs ys : List Token} → SeparatedBy mark.Comma (Spelled s) ds xs ys →
      SpellsItems names (items_of ds) xs ys × (all_have (wide_shape s) (items_of ds) ≡ true)
  items_from (lists.single d) = (grammar.single d.is, rw d.has refl)
  items_from (lists.followed d rest) = let r = items_from rest in (grammar.followed d.is r.0, rw d.has r.1)

  sequence_from : {s : PlainShape} {ds : List Data} {xs ys : List Token} → Braced (Spelled s) ds xs ys → Spelled (sequences s) (sequence (items_of ds)) xs ys
  sequence_from empty = record { is = grammar.empty_sequence; has = refl }
  sequence_from (filled d) = let r = items_from d in record { is = grammar.items r.0; has = r.1 }

  set_from : {s : PlainShape} {ds : List Data} {xs ys : List Token} → IsAscending ds → Braced (Spelled s) ds xs ys → Spelled (sets s) (finite_set (items_of ds)) xs ys
  set_from a empty = record { is = grammar.empty_set; has = refl }
  set_from {ds = ds} a (filled d) = let r = items_from d in record { is = grammar.members (rw (list_of_items ds) a) r.0; has = r.1 }

  set_sound : (s : PlainShape) (xs : List Token) (p : List Data × List Token) (r : Data × List Token) → Braced (Spelled s) p.0 xs p.1 → as_set p ≡ Some r → Read (sets s) xs r
  set_sound s xs p r d e =
      choose_cases (Read (sets s) xs r) e
      (λ up done. settled (Read (sets s) xs) done (set_from (ascends_told p.0 up) d))
      (λ _ none. absurd cc)

  -- an entry that is spelled, and whose key and value have their shapes
  record SpelledEntry (s t : PlainShape) (e : Data × Data) (xs ys : List Token) : Type 0 where
    middle : List Token
    key : Spelled s e.0 xs (token.Mark mark.Arrow ∷ middle)
    value : Spelled t e.1 middle ys

  entry_sound : (s t : PlainShape) (read_key read_item : List Token → Option (Data × List Token)) →
      ((xs ys : List Token) (d : Data) → read_key xs ≡ read_next d ys → Spelled s d xs ys) → ((xs ys : List Token) (d : Data) → read_item xs ≡ read_next d ys → Spelled t d xs ys) →
      (xs ys : List Token) (e : Data × Data) → read_entry read_key read_item xs ≡ read_next e ys → SpelledEntry s t e xs ys
  unfolding read_entry
  entry_sound s t read_key read_item key_sound item_sound xs ys e is =
      let P : Type 0 = SpelledEntry s t e xs ys in
      bind_cases P is (λ k k_is arrow. bind_cases P arrow (λ a a_is kept. bind_cases P kept (λ v v_is done.
      settled (λ r. SpelledEntry s t r.0 xs r.1) done
      (record { middle = a.1; key = rw (expected_taken mark.Arrow k.1 a a_is) at (key_sound xs k.1 k.0 k_is); value = item_sound a.1 v.1 v.0 v_is }))))

  entries_from : {s t : PlainShape} {es : List (Data × Data)} {xs ys : List Token} → SeparatedBy mark.Comma (SpelledEntry s t) es xs ys →
      SpellsEntries names (entries_of es) xs ys × (entries_have (wide_shape s) (wide_shape t) (entries_of es) ≡ true)
  entries_from (lists.single d) = (grammar.single_entry d.key.is d.value.is, rw (d.key.has, d.value.has) refl)
  entries_from (lists.followed d rest) = let r = entries_from rest in (grammar.followed_entry d.key.is d.value.is r.0, rw (d.key.has, d.value.has) r.1)

  map_from : {s t : PlainShape} {es : List (Data × Data)} {xs ys : List Token} → IsAscending (keys_of es) → Braced (SpelledEntry s t) es xs ys → Spelled (maps s t) (finite_map (entries_of es)) xs ys
  map_from a empty = record { is = grammar.empty_map; has = refl }
  map_from {es = es} a (filled d) = let r = entries_from d in record { is = grammar.entries (rw (pairs_of_entries es) a) r.0; has = r.1 }

  map_sound : (s t : PlainShape) (xs : List Token) (p : List (Data × Data) × List Token) (r : Data × List Token) → Braced (SpelledEntry s t) p.0 xs p.1 → as_map p ≡ Some r → Read (maps s t) xs r
  map_sound s t xs p r d e =
      choose_cases (Read (maps s t) xs r) e
      (λ up done. settled (Read (maps s t) xs) done (map_from (ascends_told (keys_of p.0) up) d))
      (λ _ none. absurd cc)

  -- the parts of a tuple behind the first, each behind its comma
  data MoreParts : PlainShapes → List Data → List Token → List Token → Type 0 where
    no_more : {ys : List Token} → MoreParts no_shapes [] ys ys
    one_more : {s : PlainShape} {ss : PlainShapes} {d : Data} {ds : List Data} {xs ys zs : List Token} → Spelled s d xs ys → MoreParts ss ds ys zs → MoreParts (shape s ss) (d ∷ ds) (token.Mark mark.Comma ∷ xs) zs

  -- what is read behind the parts that are done
  record ReadMore (ss : PlainShapes) (done : List Data) (xs : List Token) (r : List Data × List Token) : Type 0 where
    more : List Data
    same : r.0 ≡ done ++ more
    spelled : MoreParts ss more xs r.1

  -- all parts, of which there is one at least
  record AllParts (ss : PlainShapes) (ds : List Data) (xs ys : List Token) : Type 0 where
    are : SpellsItems names (items_of ds) xs ys
    have : have_shapes (wide_shapes_if true ss) (items_of ds) ≡ true

  with_part : {s : PlainShape} {ss : PlainShapes} {done : List Data} (d : Data) {xs ys : List Token} {r : List Data × List Token} → Spelled s d xs ys → ReadMore ss (done ++ d ∷ []) ys r →
      ReadMore (shape s ss) done (token.Mark mark.Comma ∷ xs) r
  with_part {done = done} d spelled m = record { more = d ∷ m.more; same = m.same ∙ append_assoc done (d ∷ []) m.more; spelled = one_more spelled m.spelled }

  parts_from : {s : PlainShape} {ss : PlainShapes} {d : Data} {ds : List Data} {xs ys zs : List Token} → Spelled s d xs ys → MoreParts ss ds ys zs → AllParts (shape s ss) (d ∷ ds) xs zs
  parts_from d no_more = record { are = grammar.single d.is; have = rw d.has refl }
  parts_from d (one_more e rest) = let r = parts_from e rest in record { are = grammar.followed d.is r.are; have = rw d.has r.have }

  parts_at : {ss : PlainShapes} {all ds : List Data} {xs ys zs : List Token} → xs ≡ ys → all ≡ ds → AllParts ss ds ys zs → AllParts ss all xs zs
  parts_at e f q = rw (e, f) q

  no_first : (b : Unit {0} × List Token) (xs : List Token) → read_next tt xs ≡ Some b → xs ≡ b.1
  no_first b xs e = (some_pair_parts _ _ _ _ e).1

  tuple_from : (type : List ℕ) (fields : List (List ℕ)) {ss : PlainShapes} {ds : List Data} {xs ys : List Token} →
      AllParts ss ds xs (token.Mark mark.CloseSquare ∷ ys) → Spelled (tuples type fields ss) (tuple (items_of ds)) (token.Mark mark.OpenSquare ∷ xs) ys
  tuple_from type fields q = record { is = grammar.parts q.are; has = q.have }

  mutual
    unfolding read_value read_parts between

    pub value_sound : (s : PlainShape) (xs : List Token) (r : Data × List Token) → read_value names s xs ≡ Some r → Read s xs r
    value_sound truths xs r e = truth_sound xs r e
    value_sound integers xs r e = number_sound xs r e
    value_sound naturals xs r e = let p = number_sound xs r e in record { is = p.is; has = p.has }
    value_sound (constants type from many) xs r e = constant_sound type from many xs r e
    value_sound (tuples type fields ss) xs r e =
        let P : Type 0 = Read (tuples type fields ss) xs r in
        bind_cases P e (λ o o_is inner. bind_cases P inner (λ p p_is closed. bind_cases P closed (λ c c_is kept. choose_cases P kept
        (λ _ none. absurd cc)
        (λ some done.
        let q = parts_sound ss o.1 p p_is some in
        rw (expected_taken mark.OpenSquare xs o o_is)
        (settled (Read (tuples type fields ss) (token.Mark mark.OpenSquare ∷ o.1)) done (tuple_from type fields (rw (expected_taken mark.CloseSquare p.1 c c_is) at q)))))))
    value_sound (sequences s) xs r e =
        bind_cases (Read (sequences s) xs r) e (λ p p_is done.
        settled (Read (sequences s) xs) done (sequence_from (braced_sound (Spelled s) (read_value names s) (λ us vs d is. value_sound s us (d, vs) is) xs p p_is)))
    value_sound (sets s) xs r e =
        bind_cases (Read (sets s) xs r) e (λ p p_is kept.
        set_sound s xs p r (braced_sound (Spelled s) (read_value names s) (λ us vs d is. value_sound s us (d, vs) is) xs p p_is) kept)
    value_sound (maps s t) xs r e =
        bind_cases (Read (maps s t) xs r) e (λ p p_is kept.
        map_sound s t xs p r
        (braced_sound (SpelledEntry s t) (read_entry (read_value names s) (read_value names t))
        (entry_sound s t (read_value names s) (read_value names t) (λ us vs d is. value_sound s us (d, vs) is) (λ us vs d is. value_sound t us (d, vs) is)) xs p p_is)
        kept)

    parts_sound : (ss : PlainShapes) (xs : List Token) (p : List Data × List Token) → read_parts names ss [] xs ≡ Some p → nat_eq (length p.0) 0 ≡ false → AllParts ss p.0 xs p.1
    parts_sound no_shapes xs p e some = settled (λ q. nat_eq (length q.0) 0 ≡ false → AllParts no_shapes q.0 xs q.1) e (λ f. absurd cc) some
    parts_sound (shape s ss) xs p e some =
        let P : Type 0 = AllParts (shape s ss) p.0 xs p.1 in
        bind_cases P e (λ b b_is rest. bind_cases P rest (λ v v_is others.
        let m = more_sound ss v.0 [] v.1 p others in
        parts_at (no_first b xs b_is) m.same (parts_from (value_sound s b.1 v v_is) m.spelled)))

    more_sound : (ss : PlainShapes) (first : Data) (done : List Data) (xs : List Token) (p : List Data × List Token) → read_parts names ss (first ∷ done) xs ≡ Some p → ReadMore ss (first ∷ done) xs p
    more_sound no_shapes first done xs p e =
        settled (ReadMore no_shapes (first ∷ done) xs) e (record { more = []; same = sym (append-nil (first ∷ done)); spelled = no_more })
    more_sound (shape s ss) first done xs p e =
        let P : Type 0 = ReadMore (shape s ss) (first ∷ done) xs p in
        bind_cases P e (λ b b_is rest. bind_cases P rest (λ v v_is others.
        rw (expected_taken mark.Comma xs b b_is)
        (with_part v.0 (value_sound s b.1 v v_is) (more_sound ss first (done ++ v.0 ∷ []) v.1 p others))))
