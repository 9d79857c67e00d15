-- A list is read as it is spelled, if its items are. `Follows ys` is what the reading of an item needs of
-- the tokens `ys` that come after it.
use Rattle.std.proofs.Common.{◌≡◌, inl, inr, ℕ, zero, suc, ◌<◌, ◌≤◌, Bool, true, false, List, [], ◌∷◌, ◌++◌, length, Option, refl, sym, ap, ◌∙◌, arith}
use Rattle.std.proofs.lemmas.List.{append_assoc, append-nil}
use Rattle.ioa_tokens.specs.declared.token.Token.{Token}
use Rattle.ioa_tokens.specs.declared.token.Token.TheVariants as token
use Rattle.ioa_tokens.specs.declared.mark.Mark.{Mark}
use Rattle.ioa_cursor.specs.Lists.{Several, none, some, SeparatedBy, single, followed, SeparatedOrEndedBy, last, closed, continued, Section, absent, present, Optional, left_out, written, ListsSeparatedBy, single_group, followed_group, SeveralLists, no_group, some_groups}
use Rattle.ioa_cursor.specs.Reading.{bind, choose, collect, begins_with, resumes_with, skip, at, several, several_more, section, optional, collect_lists, several_lists, several_more_lists}
use Rattle.ioa_cursor.proofs.Steps.{stays, read_next}
use Rattle.ioa_cursor.proofs.Follow.{skip_other, skip_same, several_starts, gathered_several_starts}
use Rattle.ioa_cursor.proofs.SoundLists.{Behind, behind, Trailing}

-- an item is found and read
pub record Taken {A : Type 0} (next : List Token → Bool × List Token) (read : List Token → Option (A × List Token)) (a : A) (xs ys : List Token) : Type 0 where
  pub rest : List Token
  pub goes : next xs ≡ stays true rest
  pub is : read rest ≡ read_next a ys

-- nothing is read of no tokens
stopped : (next : List Token → Bool × List Token) → (next []).1 ≡ [] → (ys : List Token) → next [] ≡ stays false ys → [] ≡ ys
stopped next at_end ys e = sym at_end ∙ ap (λ p. p.1) e

module _ {A : Type 0} (Y : A → List Token → List Token → Type 0) (Follows : List Token → Type 0) (next : List Token → Bool × List Token) (read : List Token → Option (A × List Token))
    (reads : (a : A) (xs ys : List Token) → Y a xs ys → Follows ys → Taken next read a xs ys) (starts : (a : A) (xs ys : List Token) → Y a xs ys → Follows xs)
    (shorter : (a : A) (xs ys : List Token) → Y a xs ys → length ys < length xs) (at_end : (next []).1 ≡ []) where
  collected_end : (turns : ℕ) (done : List A) (xs ys : List Token) → length xs ≤ turns → next xs ≡ stays false ys → collect next read turns done xs ≡ read_next (done ++ []) ys
  unfolding collect choose
  collected_end zero done [] ys h e = rw (append-nil done) (ap (λ zs. read_next done zs) (stopped next at_end ys e))
  collected_end zero done (x ∷ xs) ys h e = absurd (omega arith)
  collected_end (suc turns) done xs ys h e = rw (append-nil done) (rw e refl)

  collected_some : (turns : ℕ) (done more : List A) (a : A) (xs ys zs : List Token) → length ys < length xs → length xs ≤ turns → Taken next read a xs ys →
      ((turns : ℕ) (done : List A) → length ys ≤ turns → collect next read turns done ys ≡ read_next (done ++ more) zs) →
      collect next read turns done xs ≡ read_next (done ++ (a ∷ more)) zs
  unfolding collect bind choose
  collected_some zero done more a xs ys zs s h t rest = absurd (omega arith)
  collected_some (suc turns) done more a xs ys zs s h t rest =
      rw t.goes (rw t.is (rest turns (done ++ a ∷ []) (omega arith) ∙ ap (λ all. read_next all zs) (append_assoc done (a ∷ []) more)))

  pub collected_complete : {items : List A} {xs stop : List Token} → Several Y items xs stop → (ys : List Token) → Follows stop → next stop ≡ stays false ys →
      (turns : ℕ) (done : List A) → length xs ≤ turns → collect next read turns done xs ≡ read_next (done ++ items) ys
  collected_complete none ys h e turns done l = collected_end turns done _ ys l e
  collected_complete (some d rest) ys h e turns done l =
      collected_some turns done _ _ _ _ ys (shorter _ _ _ d) l (reads _ _ _ d (several_starts Follows Y starts rest h)) (λ n more k. collected_complete rest ys h e n more k)

module _ {A : Type 0} (Y : List A → List Token → List Token → Type 0) (Follows : List Token → Type 0) (next : List Token → Bool × List Token) (read : List Token → Option (List A × List Token))
    (reads : (items : List A) (xs ys : List Token) → Y items xs ys → Follows ys → Taken next read items xs ys) (starts : (items : List A) (xs ys : List Token) → Y items xs ys → Follows xs)
    (shorter : (items : List A) (xs ys : List Token) → Y items xs ys → length ys < length xs) (at_end : (next []).1 ≡ []) where
  gathered_end : (turns : ℕ) (done : List A) (xs ys : List Token) → length xs ≤ turns → next xs ≡ stays false ys → collect_lists next read turns done xs ≡ read_next (done ++ []) ys
  unfolding collect_lists choose
  gathered_end zero done [] ys h e = rw (append-nil done) (ap (λ zs. read_next done zs) (stopped next at_end ys e))
  gathered_end zero done (x ∷ xs) ys h e = absurd (omega arith)
  gathered_end (suc turns) done xs ys h e = rw (append-nil done) (rw e refl)

  gathered_some : (turns : ℕ) (done items others : List A) (xs ys zs : List Token) → length ys < length xs → length xs ≤ turns → Taken next read items xs ys →
      ((turns : ℕ) (done : List A) → length ys ≤ turns → collect_lists next read turns done ys ≡ read_next (done ++ others) zs) →
      collect_lists next read turns done xs ≡ read_next (done ++ (items ++ others)) zs
  unfolding collect_lists bind choose
  gathered_some zero done items others xs ys zs s h t rest = absurd (omega arith)
  gathered_some (suc turns) done items others xs ys zs s h t rest =
      rw t.goes (rw t.is (rest turns (done ++ items) (omega arith) ∙ ap (λ all. read_next all zs) (append_assoc done items others)))

  pub gathered_from_complete : {items : List A} {xs stop : List Token} → SeveralLists Y items xs stop → (ys : List Token) → Follows stop → next stop ≡ stays false ys →
      (turns : ℕ) (done : List A) → length xs ≤ turns → collect_lists next read turns done xs ≡ read_next (done ++ items) ys
  gathered_from_complete no_group ys h e turns done l = gathered_end turns done _ ys l e
  gathered_from_complete (some_groups d rest) ys h e turns done l =
      gathered_some turns done _ _ _ _ ys (shorter _ _ _ d) l (reads _ _ _ d (gathered_several_starts Follows Y starts rest h)) (λ n more k. gathered_from_complete rest ys h e n more k)

-- the first item of a list, and the others
pub record Parts {A : Type 0} (m : Mark) (X : A → List Token → List Token → Type 0) (items : List A) (xs stop : List Token) : Type 0 where
  pub first : A
  pub more : List A
  pub same : items ≡ first ∷ more
  pub middle : List Token
  pub head : X first xs middle
  pub tail : Several (Behind m X) more middle stop

parts_more : {A : Type 0} {m : Mark} {X : A → List Token → List Token → Type 0} (first : A) {items : List A} {xs ys stop : List Token} →
    X first xs (token.Mark m ∷ ys) → Parts m X items ys stop → Parts m X (first ∷ items) xs stop
parts_more {m = m} first {ys = ys} d p = record {
  first = first;
  more = p.first ∷ p.more;
  same = ap (λ others. first ∷ others) p.same;
  middle = token.Mark m ∷ ys;
  head = d;
  tail = some (behind p.head) p.tail;
}

pub separated_parts : {A : Type 0} {m : Mark} {X : A → List Token → List Token → Type 0} {items : List A} {xs ys : List Token} → SeparatedBy m X items xs ys → Parts m X items xs ys
separated_parts (single d) = record { first = _; more = []; same = refl; middle = _; head = d; tail = none }
separated_parts (followed d rest) = parts_more _ d (separated_parts rest)

-- the same, and how the list ends
pub record EndedParts {A : Type 0} (m : Mark) (X : A → List Token → List Token → Type 0) (items : List A) (xs ys : List Token) : Type 0 where
  pub stop : List Token
  pub parts : Parts m X items xs stop
  pub ended : Trailing m stop ys

pub ended_parts : {A : Type 0} {m : Mark} {X : A → List Token → List Token → Type 0} {items : List A} {xs ys : List Token} → SeparatedOrEndedBy m X items xs ys → EndedParts m X items xs ys
ended_parts (last d) = record { stop = _; parts = record { first = _; more = []; same = refl; middle = _; head = d; tail = none }; ended = inl refl }
ended_parts (closed d) = record { stop = _; parts = record { first = _; more = []; same = refl; middle = _; head = d; tail = none }; ended = inr refl }
ended_parts (continued d rest) = let p = ended_parts rest in record { stop = p.stop; parts = parts_more _ d p.parts; ended = p.ended }

-- the items of the first list, and those of the others
pub record GatheredParts {A : Type 0} (m : Mark) (X : List A → List Token → List Token → Type 0) (items : List A) (xs stop : List Token) : Type 0 where
  pub first : List A
  pub more : List A
  pub same : items ≡ first ++ more
  pub middle : List Token
  pub head : X first xs middle
  pub tail : SeveralLists (Behind m X) more middle stop

gathered_parts_more : {A : Type 0} {m : Mark} {X : List A → List Token → List Token → Type 0} (first : List A) {items : List A} {xs ys stop : List Token} →
    X first xs (token.Mark m ∷ ys) → GatheredParts m X items ys stop → GatheredParts m X (first ++ items) xs stop
gathered_parts_more {m = m} first {ys = ys} d p = record {
  first = first;
  more = p.first ++ p.more;
  same = ap (λ others. first ++ others) p.same;
  middle = token.Mark m ∷ ys;
  head = d;
  tail = some_groups (behind p.head) p.tail;
}

pub gathered_parts : {A : Type 0} {m : Mark} {X : List A → List Token → List Token → Type 0} {items : List A} {xs ys : List Token} → ListsSeparatedBy m X items xs ys → GatheredParts m X items xs ys
gathered_parts (single_group {items = items} d) = record { first = items; more = []; same = sym (append-nil items); middle = _; head = d; tail = no_group }
gathered_parts (followed_group d rest) = gathered_parts_more _ d (gathered_parts rest)

begun_same : (begins : List Token → Bool) (xs : List Token) (b : Bool) → begins xs ≡ b → begins_with begins xs ≡ stays b xs
begun_same begins xs b e = ap (λ a. stays a xs) e

resumed_same : (m : Mark) (begins : List Token → Bool) (xs : List Token) (b : Bool) → begins xs ≡ b → resumes_with m begins (token.Mark m ∷ xs) ≡ stays b xs
unfolding resumes_with
resumed_same m begins xs b e = rw (skip_same m xs) (rw e refl)

resumed_other : (m : Mark) (begins : List Token → Bool) (xs : List Token) → at m xs ≡ false → resumes_with m begins xs ≡ stays false xs
unfolding resumes_with
resumed_other m begins xs h = rw (skip_other m xs h) refl

skip_end : (m : Mark) → (skip m []).1 ≡ []
unfolding skip
skip_end m = refl

resumed_end : (m : Mark) (begins : List Token → Bool) → (resumes_with m begins []).1 ≡ []
unfolding resumes_with skip
resumed_end m begins = refl

stop_next : (m : Mark) (begins : List Token → Bool) (stop ys : List Token) → Trailing m stop ys → at m ys ≡ false → begins ys ≡ false → resumes_with m begins stop ≡ stays false ys
stop_next m begins stop ys (inl same) k e = rw same (resumed_other m begins ys k)
stop_next m begins stop ys (inr same) k e = rw same (resumed_same m begins ys false e)

behind_shorter : {A : Type 0} (X : A → List Token → List Token → Type 0) → ((a : A) (xs ys : List Token) → X a xs ys → length ys < length xs) →
    (m : Mark) (a : A) (xs ys : List Token) → Behind m X a xs ys → length ys < length xs
behind_shorter X shorter m _ _ _ (behind d) = let s = shorter _ _ _ d in omega arith

module _ (Follows : List Token → Type 0) where
  behind_follows : {A : Type 0} (X : A → List Token → List Token → Type 0) (m : Mark) → ((zs : List Token) → Follows (token.Mark m ∷ zs)) → (a : A) (xs ys : List Token) → Behind m X a xs ys → Follows xs
  behind_follows X m marked _ _ _ (behind {xs = us} d) = marked us

  stop_follows : (m : Mark) → ((zs : List Token) → Follows (token.Mark m ∷ zs)) → (stop ys : List Token) → Trailing m stop ys → Follows ys → Follows stop
  stop_follows m marked stop ys (inl same) h = rw same h
  stop_follows m marked stop ys (inr same) h = rw same (marked ys)

  module _ {A : Type 0} (X : A → List Token → List Token → Type 0) (read : List Token → Option (A × List Token))
      (complete : (a : A) (xs ys : List Token) → X a xs ys → Follows ys → read xs ≡ read_next a ys) where
    skipped_taken : (m : Mark) (a : A) (xs ys : List Token) → Behind m X a xs ys → Follows ys → Taken (skip m) read a xs ys
    skipped_taken m _ _ _ (behind {xs = us} d) h = record { rest = us; goes = skip_same m us; is = complete _ _ _ d h }

    resumed_taken : (m : Mark) (begins : List Token → Bool) → ((a : A) (xs ys : List Token) → X a xs ys → begins xs ≡ true) →
        (a : A) (xs ys : List Token) → Behind m X a xs ys → Follows ys → Taken (resumes_with m begins) read a xs ys
    resumed_taken m begins begin _ _ _ (behind {xs = us} d) h = record { rest = us; goes = resumed_same m begins us true (begin _ _ _ d); is = complete _ _ _ d h }

    begun_taken : (begins : List Token → Bool) → ((a : A) (xs ys : List Token) → X a xs ys → begins xs ≡ true) → (a : A) (xs ys : List Token) → X a xs ys → Follows ys → Taken (begins_with begins) read a xs ys
    begun_taken begins begin a xs ys d h = record { rest = xs; goes = begun_same begins xs true (begin a xs ys d); is = complete a xs ys d h }

    -- an item behind its word
    pub optional_complete : (m : Mark) (item : Option A) (xs ys : List Token) → Optional m X item xs ys → Follows ys → at m ys ≡ false → optional m read xs ≡ read_next item ys
    unfolding bind choose
    optional_complete m _ xs ys left_out h k = rw (skip_other m xs k) refl
    optional_complete m _ _ ys (written {xs = us} d) h k = rw (skip_same m us) (rw (complete _ us ys d h) refl)

    module _ (shorter : (a : A) (xs ys : List Token) → X a xs ys → length ys < length xs) where
      -- an item begins where `begins` says so, and no item begins after the last
      pub several_complete : (begins : List Token → Bool) → ((a : A) (xs ys : List Token) → X a xs ys → begins xs ≡ true) → ((a : A) (xs ys : List Token) → X a xs ys → Follows xs) →
          (items : List A) (xs ys : List Token) → Several X items xs ys → Follows ys → begins ys ≡ false → several (begins_with begins) read xs ≡ read_next items ys
      several_complete begins begin starts items xs ys d h e =
          collected_complete X Follows (begins_with begins) read (begun_taken begins begin) starts shorter refl d ys h (begun_same begins ys false e) (length xs) [] (omega arith)

      -- the first item, and then the others
      first_read : (next : List Token → Bool × List Token) (first : A) (more : List A) (xs ys zs : List Token) → read xs ≡ read_next first ys →
          collect next read (length ys) (first ∷ []) ys ≡ read_next (first ∷ more) zs → several_more next read [] xs ≡ read_next (first ∷ more) zs
      unfolding bind
      first_read next first more xs ys zs e f = rw e f

      -- the mark may come after an item, and does not come after the last
      pub separated_complete : (m : Mark) → ((zs : List Token) → Follows (token.Mark m ∷ zs)) → (items : List A) (xs ys : List Token) → SeparatedBy m X items xs ys →
          Follows ys → at m ys ≡ false → several_more (skip m) read [] xs ≡ read_next items ys
      separated_complete m marked items xs ys d h k =
          let p = separated_parts d in
          let after = several_starts Follows (Behind m X) (behind_follows X m marked) p.tail h in
          first_read (skip m) p.first p.more xs p.middle ys (complete p.first xs p.middle p.head after)
          (collected_complete (Behind m X) Follows (skip m) read (skipped_taken m) (behind_follows X m marked) (behind_shorter X shorter m) (skip_end m) p.tail ys h (skip_other m ys k) (length p.middle) (p.first ∷ []) (omega arith))
          ∙ ap (λ all. read_next all ys) (sym p.same)

      -- the same, and no item begins after the last, whether the mark ends the list or not
      pub ended_complete : (m : Mark) (begins : List Token → Bool) → ((a : A) (xs ys : List Token) → X a xs ys → begins xs ≡ true) → ((zs : List Token) → Follows (token.Mark m ∷ zs)) →
          (items : List A) (xs ys : List Token) → SeparatedOrEndedBy m X items xs ys → Follows ys → at m ys ≡ false → begins ys ≡ false → several_more (resumes_with m begins) read [] xs ≡ read_next items ys
      ended_complete m begins begin marked items xs ys d h k e =
          let q = ended_parts d in
          let p = q.parts in
          let low = stop_follows m marked q.stop ys q.ended h in
          let after = several_starts Follows (Behind m X) (behind_follows X m marked) p.tail low in
          first_read (resumes_with m begins) p.first p.more xs p.middle ys (complete p.first xs p.middle p.head after)
          (collected_complete (Behind m X) Follows (resumes_with m begins) read (resumed_taken m begins begin) (behind_follows X m marked) (behind_shorter X shorter m) (resumed_end m begins) p.tail ys low (stop_next m begins q.stop ys q.ended k e) (length p.middle) (p.first ∷ []) (omega arith))
          ∙ ap (λ all. read_next all ys) (sym p.same)

  module _ {A : Type 0} (X : List A → List Token → List Token → Type 0) (read : List Token → Option (List A × List Token))
      (complete : (items : List A) (xs ys : List Token) → X items xs ys → Follows ys → read xs ≡ read_next items ys) where
    -- a part behind its word
    pub section_complete : (m : Mark) (items : List A) (xs ys : List Token) → Section m X items xs ys → Follows ys → at m ys ≡ false → section m read xs ≡ read_next items ys
    unfolding choose
    section_complete m _ xs ys absent h k = rw (skip_other m xs k) refl
    section_complete m items _ ys (present {xs = us} d) h k = rw (skip_same m us) (complete items us ys d h)

    module _ (shorter : (items : List A) (xs ys : List Token) → X items xs ys → length ys < length xs) where
      pub gathered_several_complete : (begins : List Token → Bool) → ((items : List A) (xs ys : List Token) → X items xs ys → begins xs ≡ true) → ((items : List A) (xs ys : List Token) → X items xs ys → Follows xs) →
          (items : List A) (xs ys : List Token) → SeveralLists X items xs ys → Follows ys → begins ys ≡ false → several_lists (begins_with begins) read xs ≡ read_next items ys
      gathered_several_complete begins begin starts items xs ys d h e =
          gathered_from_complete X Follows (begins_with begins) read (begun_taken X read complete begins begin) starts shorter refl d ys h (begun_same begins ys false e) (length xs) [] (omega arith)

      first_list_read : (next : List Token → Bool × List Token) (first more : List A) (xs ys zs : List Token) → read xs ≡ read_next first ys →
          collect_lists next read (length ys) first ys ≡ read_next (first ++ more) zs → several_more_lists next read xs ≡ read_next (first ++ more) zs
      unfolding bind
      first_list_read next first more xs ys zs e f = rw e f

      pub gathered_complete : (m : Mark) → ((zs : List Token) → Follows (token.Mark m ∷ zs)) → (items : List A) (xs ys : List Token) → ListsSeparatedBy m X items xs ys →
          Follows ys → at m ys ≡ false → several_more_lists (skip m) read xs ≡ read_next items ys
      gathered_complete m marked items xs ys d h k =
          let p = gathered_parts d in
          let after = gathered_several_starts Follows (Behind m X) (behind_follows X m marked) p.tail h in
          first_list_read (skip m) p.first p.more xs p.middle ys (complete p.first xs p.middle p.head after)
          (gathered_from_complete (Behind m X) Follows (skip m) read (skipped_taken X read complete m) (behind_follows X m marked) (behind_shorter X shorter m) (skip_end m) p.tail ys h (skip_other m ys k) (length p.middle) p.first (omega arith))
          ∙ ap (λ all. read_next all ys) (sym p.same)
