-- What is read of a list is spelled, if what is read of its items is.
use Rattle.std.proofs.Common.{◌≡◌, ◌⊎◌, inl, inr, ℕ, zero, suc, Bool, true, false, List, [], ◌∷◌, ◌++◌, length, Option, if◌then◌else◌, refl, sym, ◌∙◌}
use Rattle.std.proofs.lemmas.Option.{some_pair_parts}
use Rattle.std.proofs.lemmas.List.{append_assoc, append-nil}
use Rattle.ioa_tokens.specs.declared.token.Token.{Token}
use Rattle.ioa_tokens.specs.declared.token.Token.TheVariants as token
use Rattle.ioa_tokens.specs.declared.mark.Mark.{Mark}
use Rattle.ioa_cursor.specs.Lists.{Several, none, some, SeparatedBy, single, followed, SeparatedOrEndedBy, last, closed, continued, Section, absent, present, Optional, left_out, written, ListsSeparatedBy, single_group, followed_group, SeveralLists, no_group, some_groups}
use Rattle.ioa_cursor.specs.Reading.{collect, begins_with, resumes_with, skip, several, several_more, section, optional, collect_lists, several_lists, several_more_lists}
use Rattle.ioa_cursor.proofs.Steps.{read_next, choose_cases, bind_cases, skip_taken, skip_left}

-- an item behind a mark
pub data Behind {A : Type 0} (m : Mark) (X : A → List Token → List Token → Type 0) : A → List Token → List Token → Type 0 where
  behind : {a : A} {xs ys : List Token} → X a xs ys → Behind m X a (token.Mark m ∷ xs) ys

-- the items that were collected, spelled as a list `L`, and how the list ended
pub record Collected {A : Type 0} (L : List A → List Token → List Token → Type 0) (E : List Token → List Token → Type 0) (done all : List A) (xs ys : List Token) : Type 0 where
  pub more : List A
  pub same : all ≡ done ++ more
  pub stop : List Token
  pub spelled : L more xs stop
  pub ended : E stop ys

-- one item more
one_more : {A : Type 0} {Y : A → List Token → List Token → Type 0} {E : List Token → List Token → Type 0} {done all : List A} (first : A) {xs ys zs : List Token} →
    Y first xs zs → Collected (Several Y) E (done ++ first ∷ []) all zs ys → Collected (Several Y) E done all xs ys
one_more {done = done} first d c = record {
  more = first ∷ c.more;
  same = c.same ∙ append_assoc done (first ∷ []) c.more;
  stop = c.stop;
  spelled = some d c.spelled;
  ended = c.ended;
}

-- the items of one list more
one_list_more : {A : Type 0} {Y : List A → List Token → List Token → Type 0} {E : List Token → List Token → Type 0} {done all : List A} (items : List A) {xs ys zs : List Token} →
    Y items xs zs → Collected (SeveralLists Y) E (done ++ items) all zs ys → Collected (SeveralLists Y) E done all xs ys
one_list_more {done = done} items d c = record {
  more = items ++ c.more;
  same = c.same ∙ append_assoc done items c.more;
  stop = c.stop;
  spelled = some_groups d c.spelled;
  ended = c.ended;
}

module _ {A : Type 0} (Y : A → List Token → List Token → Type 0) (E : List Token → List Token → Type 0) (next : List Token → Bool × List Token) (read : List Token → Option (A × List Token))
    (step : (xs zs : List Token) (x : A) → (next xs).0 ≡ true → read (next xs).1 ≡ read_next x zs → Y x xs zs) (stops : (xs : List Token) → (next xs).0 ≡ false → E xs (next xs).1)
    (ends : (xs : List Token) → E xs xs) where
  pub collected_sound : (turns : ℕ) (done all : List A) (xs ys : List Token) → collect next read turns done xs ≡ read_next all ys → Collected (Several Y) E done all xs ys
  unfolding collect
  collected_sound zero done all xs ys e =
      let p = some_pair_parts _ _ _ _ e in
      rw (← p.0, ← p.1) (record { more = []; same = sym (append-nil done); stop = xs; spelled = none; ended = ends xs })
  collected_sound (suc turns) done all xs ys e =
      let P : Type 0 = Collected (Several Y) E done all xs ys in
      choose_cases P e
      (λ goes more. bind_cases P more (λ r r_is rest. one_more r.0 (step xs r.1 r.0 goes r_is) (collected_sound turns (done ++ r.0 ∷ []) all r.1 ys rest)))
      (λ no done_is.
      let p = some_pair_parts _ _ _ _ done_is in
      rw (← p.0, ← p.1) (record { more = []; same = sym (append-nil done); stop = xs; spelled = none; ended = stops xs no }))

module _ {A : Type 0} (Y : List A → List Token → List Token → Type 0) (E : List Token → List Token → Type 0) (next : List Token → Bool × List Token) (read : List Token → Option (List A × List Token))
    (step : (xs zs : List Token) (items : List A) → (next xs).0 ≡ true → read (next xs).1 ≡ read_next items zs → Y items xs zs) (stops : (xs : List Token) → (next xs).0 ≡ false → E xs (next xs).1)
    (ends : (xs : List Token) → E xs xs) where
  pub gathered_from_sound : (turns : ℕ) (done all : List A) (xs ys : List Token) → collect_lists next read turns done xs ≡ read_next all ys → Collected (SeveralLists Y) E done all xs ys
  unfolding collect_lists
  gathered_from_sound zero done all xs ys e =
      let p = some_pair_parts _ _ _ _ e in
      rw (← p.0, ← p.1) (record { more = []; same = sym (append-nil done); stop = xs; spelled = no_group; ended = ends xs })
  gathered_from_sound (suc turns) done all xs ys e =
      let P : Type 0 = Collected (SeveralLists Y) E done all xs ys in
      choose_cases P e
      (λ goes more. bind_cases P more (λ r r_is rest. one_list_more r.0 (step xs r.1 r.0 goes r_is) (gathered_from_sound turns (done ++ r.0) all r.1 ys rest)))
      (λ no done_is.
      let p = some_pair_parts _ _ _ _ done_is in
      rw (← p.0, ← p.1) (record { more = []; same = sym (append-nil done); stop = xs; spelled = no_group; ended = stops xs no }))

-- a list that ends as its last item does
abbrev pub Plain : List Token → List Token → Type 0
Plain xs ys = xs ≡ ys

-- a list that may end with a mark
abbrev pub Trailing : Mark → List Token → List Token → Type 0
Trailing m xs ys = (xs ≡ ys) ⊎ (xs ≡ token.Mark m ∷ ys)

resumed_if : (b c : Bool) → (if b then c else false) ≡ true → b ≡ true
resumed_if true c e = refl
resumed_if false c e = e

stopped_if : (b c : Bool) (m : Mark) (xs ys : List Token) → (b ≡ true → xs ≡ token.Mark m ∷ ys) → (b ≡ false → ys ≡ xs) → (if b then c else false) ≡ false → Trailing m xs ys
stopped_if true c m xs ys f g e = inr (f refl)
stopped_if false c m xs ys f g e = inl (sym (g refl))

several_at : {A : Type 0} {X : A → List Token → List Token → Type 0} {more all : List A} {xs stop ys : List Token} → all ≡ more → stop ≡ ys → Several X more xs stop → Several X all xs ys
several_at same ended d = rw (same, ← ended) d

separated_at : {A : Type 0} {m : Mark} {X : A → List Token → List Token → Type 0} {more all : List A} {xs stop ys : List Token} →
    all ≡ more → stop ≡ ys → SeparatedBy m X more xs stop → SeparatedBy m X all xs ys
separated_at same ended d = rw (same, ← ended) d

separated_from : {A : Type 0} {m : Mark} {X : A → List Token → List Token → Type 0} {first : A} {more : List A} {xs ys zs : List Token} →
    X first xs ys → Several (Behind m X) more ys zs → SeparatedBy m X (first ∷ more) xs zs
separated_from d none = single d
separated_from d (some (behind b) rest) = followed d (separated_from b rest)

ended_from : {A : Type 0} {m : Mark} {X : A → List Token → List Token → Type 0} {first : A} {more : List A} {xs ys stop zs : List Token} →
    X first xs ys → Several (Behind m X) more ys stop → Trailing m stop zs → SeparatedOrEndedBy m X (first ∷ more) xs zs
ended_from d none (inl same) = last (rw same at d)
ended_from d none (inr mark_is) = closed (rw mark_is at d)
ended_from d (some (behind b) rest) t = continued d (ended_from b rest t)

ended_at : {A : Type 0} {m : Mark} {X : A → List Token → List Token → Type 0} {more all : List A} {xs ys : List Token} → all ≡ more → SeparatedOrEndedBy m X more xs ys → SeparatedOrEndedBy m X all xs ys
ended_at same d = rw same d

gathered_several_at : {A : Type 0} {X : List A → List Token → List Token → Type 0} {more all : List A} {xs stop ys : List Token} →
    all ≡ more → stop ≡ ys → SeveralLists X more xs stop → SeveralLists X all xs ys
gathered_several_at same ended d = rw (same, ← ended) d

gathered_at : {A : Type 0} {m : Mark} {X : List A → List Token → List Token → Type 0} {more all : List A} {xs stop ys : List Token} →
    all ≡ more → stop ≡ ys → ListsSeparatedBy m X more xs stop → ListsSeparatedBy m X all xs ys
gathered_at same ended d = rw (same, ← ended) d

gathered_from : {A : Type 0} {m : Mark} {X : List A → List Token → List Token → Type 0} (first more : List A) {xs ys zs : List Token} →
    X first xs ys → SeveralLists (Behind m X) more ys zs → ListsSeparatedBy m X (first ++ more) xs zs
gathered_from first _ d no_group = rw (append-nil first) (single_group d)
gathered_from first _ d (some_groups (behind b) rest) = followed_group d (gathered_from _ _ b rest)

module _ {A : Type 0} (X : A → List Token → List Token → Type 0) (read : List Token → Option (A × List Token))
    (sound : (xs ys : List Token) (x : A) → read xs ≡ read_next x ys → X x xs ys) where
  pub several_sound : (begins : List Token → Bool) (xs ys : List Token) (all : List A) → several (begins_with begins) read xs ≡ read_next all ys → Several X all xs ys
  several_sound begins xs ys all e =
      let c = collected_sound X Plain (begins_with begins) read (λ us vs x _ r. sound us vs x r) (λ us _. refl) (λ us. refl) (length xs) [] all xs ys e in
      several_at c.same c.ended c.spelled

  pub separated_sound : (m : Mark) (xs ys : List Token) (all : List A) → several_more (skip m) read [] xs ≡ read_next all ys → SeparatedBy m X all xs ys
  separated_sound m xs ys all e =
      bind_cases (SeparatedBy m X all xs ys) e (λ r r_is rest.
      let c = collected_sound (Behind m X) Plain (skip m) read (λ us vs x goes is. rw (skip_taken m us goes) (behind (sound _ vs x is))) (λ us no. sym (skip_left m us no)) (λ us. refl) (length r.1) (r.0 ∷ []) all r.1 ys rest in
      separated_at c.same c.ended (separated_from (sound xs r.1 r.0 r_is) c.spelled))

  pub ended_sound : (m : Mark) (begins : List Token → Bool) (xs ys : List Token) (all : List A) → several_more (resumes_with m begins) read [] xs ≡ read_next all ys → SeparatedOrEndedBy m X all xs ys
  unfolding resumes_with
  ended_sound m begins xs ys all e =
      bind_cases (SeparatedOrEndedBy m X all xs ys) e (λ r r_is rest.
      let c = collected_sound (Behind m X) (Trailing m) (resumes_with m begins) read
      (λ us vs x goes is. rw (skip_taken m us (resumed_if (skip m us).0 _ goes)) (behind (sound _ vs x is)))
      (λ us no. stopped_if (skip m us).0 _ m us _ (skip_taken m us) (skip_left m us) no)
      (λ us. inl refl) (length r.1) (r.0 ∷ []) all r.1 ys rest in
      ended_at c.same (ended_from (sound xs r.1 r.0 r_is) c.spelled c.ended))

module _ {A : Type 0} (X : List A → List Token → List Token → Type 0) (read : List Token → Option (List A × List Token))
    (sound : (xs ys : List Token) (items : List A) → read xs ≡ read_next items ys → X items xs ys) where
  pub gathered_several_sound : (begins : List Token → Bool) (xs ys : List Token) (all : List A) → several_lists (begins_with begins) read xs ≡ read_next all ys → SeveralLists X all xs ys
  gathered_several_sound begins xs ys all e =
      let c = gathered_from_sound X Plain (begins_with begins) read (λ us vs x _ r. sound us vs x r) (λ us _. refl) (λ us. refl) (length xs) [] all xs ys e in
      gathered_several_at c.same c.ended c.spelled

  pub gathered_sound : (m : Mark) (xs ys : List Token) (all : List A) → several_more_lists (skip m) read xs ≡ read_next all ys → ListsSeparatedBy m X all xs ys
  gathered_sound m xs ys all e =
      bind_cases (ListsSeparatedBy m X all xs ys) e (λ r r_is rest.
      let c = gathered_from_sound (Behind m X) Plain (skip m) read (λ us vs x goes is. rw (skip_taken m us goes) (behind (sound _ vs x is))) (λ us no. sym (skip_left m us no)) (λ us. refl) (length r.1) r.0 all r.1 ys rest in
      gathered_at c.same c.ended (gathered_from r.0 c.more (sound xs r.1 r.0 r_is) c.spelled))

-- a part behind its word
pub section_sound : {A : Type 0} (m : Mark) (X : List A → List Token → List Token → Type 0) (read : List Token → Option (List A × List Token)) →
    ((xs ys : List Token) (all : List A) → read xs ≡ read_next all ys → X all xs ys) →
    (xs ys : List Token) (all : List A) → section m read xs ≡ read_next all ys → Section m X all xs ys
section_sound m X read sound xs ys all e =
    choose_cases (Section m X all xs ys) e
    (λ goes is. rw (skip_taken m xs goes) (present (sound _ ys all is)))
    (λ no is. let p = some_pair_parts _ _ _ _ is in rw (← p.0, ← p.1, skip_left m xs no) absent)

-- an item behind its word
pub optional_sound : {A : Type 0} (m : Mark) (X : A → List Token → List Token → Type 0) (read : List Token → Option (A × List Token)) →
    ((xs ys : List Token) (item : A) → read xs ≡ read_next item ys → X item xs ys) →
    (xs ys : List Token) (item : Option A) → optional m read xs ≡ read_next item ys → Optional m X item xs ys
optional_sound m X read sound xs ys item e =
    let P : Type 0 = Optional m X item xs ys in
    choose_cases P e
    (λ goes more.
    bind_cases P more (λ r r_is done.
    let p = some_pair_parts _ _ _ _ done in
    rw (skip_taken m xs goes, ← p.0, ← p.1) (written (sound _ r.1 r.0 r_is))))
    (λ no is. let p = some_pair_parts _ _ _ _ is in rw (← p.0, ← p.1, skip_left m xs no) left_out)
