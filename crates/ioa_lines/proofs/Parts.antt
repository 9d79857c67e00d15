-- The arguments of an action: what is read of them is spelled, and they are read as they are spelled.
use Rattle.std.proofs.Common.{◌≡◌, ℕ, true, false, List, [], ◌∷◌, ◌++◌, Some, refl, sym, ap, ◌∙◌}
use Rattle.std.proofs.lemmas.Bool.{and_parts}
use Rattle.std.proofs.lemmas.List.{append_assoc, append-nil}
use Rattle.std.proofs.lemmas.Option.{some_pair_parts}
use Rattle.ioa_tokens.specs.declared.token.Token.{Token}
use Rattle.ioa_tokens.specs.declared.token.Token.TheVariants as token
use Rattle.ioa_tokens.specs.declared.mark.Mark.TheVariants as mark
use Rattle.ioa_cursor.specs.Reading.{bind, end, expect, skip}
use Rattle.ioa_cursor.proofs.Steps.{bind_cases, expected_taken, read_next}
use Rattle.ioa_values.specs.Data.{Data, Items, items_of, list_of, no_items}
use Rattle.ioa_values.proofs.ItemLists.{list_of_items}
use Rattle.ioa_operators.specs.Shapes.{PlainShape, PlainShapes, has_shape, have_shapes, no_shapes, shape, shapes_of, wide_shape, wide_shapes_if}
use Rattle.ioa_value_reader.specs.Grammar.{SpellsItems, followed, single}
use Rattle.ioa_value_reader.specs.Reading.{between, read_parts, read_value}
use Rattle.ioa_value_reader.proofs.Complete.{value_complete}
use Rattle.ioa_value_reader.proofs.Shorter.{Front, items_front}
use Rattle.ioa_value_reader.proofs.Sound.{Spelled, value_sound}
use Rattle.ioa_lines.specs.Grammar.{SpellsArguments, listed, none}
use Rattle.ioa_lines.specs.Reading.{read_arguments}

-- no token is left at the end
pub ended : (xs : List Token) (e : Unit {0} × List Token) → end xs ≡ Some e → xs ≡ []
unfolding end
ended [] e h = refl
ended (x ∷ xs) e h = absurd cc

-- what is found is what is wanted
pub settled : {A : Type 0} (P : A → Type 0) {x y : A} → Some x ≡ Some y → P x → P y
settled P {x} {y} e p = let same : x ≡ y = cc in rw same at p

module _ (names : List (List ℕ)) where
  -- the values behind the first, each behind its comma
  data MoreValues : PlainShapes → List Data → List Token → List Token → Type 0 where
    no_more : {ys : List Token} → MoreValues no_shapes [] ys ys
    one_more : {s : PlainShape} {ss : PlainShapes} {d : Data} {ds : List Data} {xs ys zs : List Token} → Spelled names s d xs ys → MoreValues ss ds ys zs →
        MoreValues (shape s ss) (d ∷ ds) (token.Mark mark.Comma ∷ xs) zs

  -- what is read behind the values that are done
  record ReadMore (ss : PlainShapes) (done : List Data) (xs : List Token) (r : List Data × List Token) : Type 0 where
    more : List Data
    same : r.0 ≡ done ++ more
    spelled : MoreValues ss more xs r.1

  -- values that are spelled with commas between, and have these shapes
  pub record SpelledValues (ss : PlainShapes) (ds : List Data) (xs ys : List Token) : Type 0 where
    pub are : SpellsItems names (items_of ds) xs ys
    pub have : have_shapes (wide_shapes_if true ss) (items_of ds) ≡ true

  with_value : {s : PlainShape} {ss : PlainShapes} {done : List Data} (d : Data) {xs ys : List Token} {r : List Data × List Token} → Spelled names s d xs ys → ReadMore ss (done ++ d ∷ []) ys r →
      ReadMore (shape s ss) done (token.Mark mark.Comma ∷ xs) r
  with_value {done = done} d spelled m = record { more = d ∷ m.more; same = m.same ∙ append_assoc done (d ∷ []) m.more; spelled = one_more spelled m.spelled }

  values_from : {s : PlainShape} {ss : PlainShapes} {d : Data} {ds : List Data} {xs ys zs : List Token} → Spelled names s d xs ys → MoreValues ss ds ys zs → SpelledValues (shape s ss) (d ∷ ds) xs zs
  values_from d no_more = record { are = single d.is; have = rw d.has refl }
  values_from d (one_more e rest) = let r = values_from e rest in record { are = followed d.is r.are; have = rw d.has r.have }

  values_at : {ss : PlainShapes} {all ds : List Data} {xs ys zs : List Token} → xs ≡ ys → all ≡ ds → SpelledValues ss ds ys zs → SpelledValues ss all xs zs
  values_at e f q = rw (e, f) q

  no_comma : (b : Unit {0} × List Token) (xs : List Token) → read_next tt xs ≡ Some b → xs ≡ b.1
  no_comma b xs e = (some_pair_parts _ _ _ _ e).1

  more_sound : (ss : PlainShapes) (first : Data) (done : List Data) (xs : List Token) (p : List Data × List Token) → read_parts names ss (first ∷ done) xs ≡ Some p → ReadMore ss (first ∷ done) xs p
  unfolding read_parts between
  more_sound no_shapes first done xs p e =
      settled (ReadMore no_shapes (first ∷ done) xs) e (record { more = []; same = sym (append-nil (first ∷ done)); spelled = no_more })
  more_sound (shape s ss) first done xs p e =
      let P : Type 0 = ReadMore (shape s ss) (first ∷ done) xs p in
      bind_cases P e (λ b b_is rest. bind_cases P rest (λ v v_is others.
      rw (expected_taken mark.Comma xs b b_is)
      (with_value v.0 (value_sound names s b.1 v v_is) (more_sound ss first (done ++ v.0 ∷ []) v.1 p others))))

  -- values that are read are spelled and have the shapes
  values_sound : (s : PlainShape) (ss : PlainShapes) (xs : List Token) (p : List Data × List Token) → read_parts names (shape s ss) [] xs ≡ Some p → SpelledValues (shape s ss) p.0 xs p.1
  unfolding read_parts between
  values_sound s ss xs p e =
      let P : Type 0 = SpelledValues (shape s ss) p.0 xs p.1 in
      bind_cases P e (λ b b_is rest. bind_cases P rest (λ v v_is others.
      let m = more_sound ss v.0 [] v.1 p others in
      values_at (no_comma b xs b_is) m.same (values_from (value_sound names s b.1 v v_is) m.spelled)))

  -- arguments that are spelled and have these shapes
  pub record SpelledArguments (ss : List PlainShape) (vs : List Data) (xs ys : List Token) : Type 0 where
    pub are : SpellsArguments names vs xs ys
    pub have : have_shapes (wide_shapes_if true (shapes_of ss)) (items_of vs) ≡ true

  no_arguments : (xs : List Token) → SpelledArguments [] [] xs xs
  no_arguments xs = record { are = none; have = refl }

  in_brackets : {ss : List PlainShape} {vs : List Data} {xs ys : List Token} → SpelledValues (shapes_of ss) vs xs (token.Mark mark.CloseRound ∷ ys) → SpelledArguments ss vs (token.Mark mark.OpenRound ∷ xs) ys
  in_brackets q = record { are = listed q.are; have = q.have }

  abbrev ArgumentsRead : List PlainShape → List Token → List Data × List Token → Type 0
  ArgumentsRead ss xs r = SpelledArguments ss r.0 xs r.1

  -- arguments that are read are spelled and have the shapes
  pub arguments_sound : (ss : List PlainShape) (xs : List Token) (r : List Data × List Token) → read_arguments names ss xs ≡ Some r → SpelledArguments ss r.0 xs r.1
  unfolding read_arguments
  arguments_sound [] xs r e = settled (ArgumentsRead [] xs) e (no_arguments xs)
  arguments_sound (s ∷ ss) xs r e =
      let P : Type 0 = ArgumentsRead (s ∷ ss) xs r in
      bind_cases P e (λ o o_is inner. bind_cases P inner (λ p p_is closed. bind_cases P closed (λ c c_is done.
      rw (expected_taken mark.OpenRound xs o o_is)
      (settled (ArgumentsRead (s ∷ ss) (token.Mark mark.OpenRound ∷ o.1)) done
      (in_brackets (rw (expected_taken mark.CloseRound p.1 c c_is) at (values_sound s (shapes_of ss) o.1 p p_is)))))))

  -- one value more

  last_value : (s : PlainShape) (done : List Data) (d : Data) (xs ys zs : List Token) → between done xs ≡ read_next tt ys → read_value names s ys ≡ read_next d zs →
      read_parts names (shape s no_shapes) done xs ≡ read_next (done ++ d ∷ []) zs
  unfolding read_parts bind
  last_value s done d xs ys zs b e = rw b (rw e refl)

  further_value : (s : PlainShape) (ss : PlainShapes) (done more : List Data) (d : Data) (xs ys zs us : List Token) → between done xs ≡ read_next tt ys → read_value names s ys ≡ read_next d zs →
      read_parts names ss (done ++ d ∷ []) zs ≡ read_next ((done ++ d ∷ []) ++ more) us → read_parts names (shape s ss) done xs ≡ read_next (done ++ (d ∷ more)) us
  unfolding read_parts bind
  further_value s ss done more d xs ys zs us b e f = rw b (rw e (f ∙ ap (λ all. read_next all us) (append_assoc done (d ∷ []) more)))

  comma_behind : (done : List Data) (d : Data) (ys : List Token) → between (done ++ d ∷ []) (token.Mark mark.Comma ∷ ys) ≡ read_next tt ys
  unfolding between expect skip
  comma_behind [] d ys = refl
  comma_behind (e ∷ done) d ys = refl

  -- values are read as they are spelled, if they have the shapes
  values_complete : {ds : Items} {xs ys : List Token} → SpellsItems names ds xs ys → (ss : PlainShapes) → have_shapes (wide_shapes_if true ss) ds ≡ true →
      (done : List Data) (zs : List Token) → between done zs ≡ read_next tt xs → read_parts names ss done zs ≡ read_next (done ++ list_of ds) ys
  values_complete (single d) no_shapes h done zs b = absurd cc
  values_complete (single {d = e} {xs = xs} {ys = ys} d) (shape s no_shapes) h done zs b =
      let p = and_parts (has_shape (wide_shape s) e) true h in
      last_value s done e zs xs ys b (value_complete names d s p.0)
  values_complete (single {d = e} d) (shape s (shape t ss)) h done zs b =
      let p = and_parts (has_shape (wide_shape s) e) false h in
      absurd cc
  values_complete (followed d rest) no_shapes h done zs b = absurd cc
  values_complete (followed {d = e} {ds = ds} {xs = xs} {ys = ys} {zs = us} d rest) (shape s ss) h done zs b =
      let p = and_parts (has_shape (wide_shape s) e) (have_shapes (wide_shapes_if true ss) ds) h in
      further_value s ss done (list_of ds) e zs xs (token.Mark mark.Comma ∷ ys) us b (value_complete names d s p.0)
      (values_complete rest ss p.1 (done ++ e ∷ []) (token.Mark mark.Comma ∷ ys) (comma_behind done e ys))

  at_first : (xs : List Token) → between [] xs ≡ read_next tt xs
  unfolding between
  at_first xs = refl

  bracketed : (s : PlainShape) (ss : List PlainShape) (vs : List Data) (xs ys : List Token) → read_parts names (shapes_of (s ∷ ss)) [] xs ≡ read_next vs (token.Mark mark.CloseRound ∷ ys) →
      read_arguments names (s ∷ ss) (token.Mark mark.OpenRound ∷ xs) ≡ read_next vs ys
  unfolding read_arguments expect skip bind
  bracketed s ss vs xs ys e = rw e refl

  -- no list of no values is spelled
  some_items : {ds : Items} {xs ys : List Token} → SpellsItems names ds xs ys → ds ≡ no_items → ⊥
  some_items (single d) e = absurd cc
  some_items (followed d rest) e = absurd cc

  -- arguments are read as they are spelled, if they have the shapes
  pub arguments_complete : {vs : List Data} {xs ys : List Token} → SpellsArguments names vs xs ys → (ss : List PlainShape) → have_shapes (wide_shapes_if true (shapes_of ss)) (items_of vs) ≡ true →
      read_arguments names ss xs ≡ read_next vs ys
  unfolding read_arguments
  arguments_complete none [] h = refl
  arguments_complete none (s ∷ ss) h = absurd cc
  arguments_complete (listed {vs = []} d) ss h = absurd (some_items d refl)
  arguments_complete (listed {vs = v ∷ vs} d) [] h = absurd cc
  arguments_complete (listed {vs = v ∷ vs} {xs = xs} {ys = ys} d) (s ∷ ss) h =
      bracketed s ss (v ∷ vs) xs ys
      (values_complete d (shapes_of (s ∷ ss)) h [] xs (at_first xs) ∙ ap (λ all. read_next all (token.Mark mark.CloseRound ∷ ys)) (list_of_items (v ∷ vs)))

  -- the tokens behind arguments stand behind theirs
  pub arguments_front : {vs : List Data} {xs ys : List Token} → SpellsArguments names vs xs ys → Front xs ys
  arguments_front none = record { front = []; same = refl }
  arguments_front (listed {ys = ys} d) =
      let f = items_front d in
      record { front = token.Mark mark.OpenRound ∷ (f.front ++ token.Mark mark.CloseRound ∷ []); same = ap (λ us. token.Mark mark.OpenRound ∷ us) (f.same ∙ sym (append_assoc f.front (token.Mark mark.CloseRound ∷ []) ys)) }
