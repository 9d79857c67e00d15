-- What may follow a part of a text: a list begins as its first item begins, and a mark that does not come
-- first is not read.
use Rattle.std.proofs.Common.{◌≡◌, ◌≢◌, Bool, true, false, List, [], ◌∷◌, Option, Some, refl, ap}
use Rattle.ioa_tokens.specs.declared.token.Token.{Token}
use Rattle.ioa_tokens.specs.declared.token.Token.TheVariants as token
use Rattle.ioa_tokens.specs.declared.mark.Mark.{Mark}
use Rattle.ioa_cursor.specs.Lists.{Several, none, some, SeparatedBy, single, followed, SeparatedOrEndedBy, last, closed, continued, Section, absent, present, Optional, left_out, written, ListsSeparatedBy, single_group, followed_group, SeveralLists, no_group, some_groups}
use Rattle.ioa_cursor.specs.Reading.{skip, at, peek_mark}
use Rattle.ioa_tokens.specs.Tables.{same_mark}
use Rattle.ioa_cursor.proofs.Steps.{stays, same_mark_true, same_mark_self}

-- a mark is skipped if it comes first
pub skip_same : (m : Mark) (xs : List Token) → skip m (token.Mark m ∷ xs) ≡ stays true xs
unfolding skip
skip_same m xs = rw (same_mark_self m) refl

-- a mark that does not come first is not skipped
pub skip_other : (m : Mark) (xs : List Token) → at m xs ≡ false → skip m xs ≡ stays false xs
unfolding skip at
skip_other m (token.Mark k ∷ xs) e = rw e refl
skip_other m (token.Word w ∷ xs) e = refl
skip_other m (token.Number n ∷ xs) e = refl
skip_other m (token.LeftOut w ∷ xs) e = refl
skip_other m [] e = refl

unlike : (b : Bool) (k m : Mark) → (b ≡ true → k ≡ m) → Some k ≢ Some m → b ≡ false
unlike true k m same other = absurd (other (ap Some (same refl)))
unlike false k m same other = refl

-- if another mark comes first, or none, this one does not
pub at_unlike : (m : Mark) (xs : List Token) → peek_mark xs ≢ Some m → at m xs ≡ false
unfolding at peek_mark
at_unlike m (token.Mark k ∷ xs) other = unlike (same_mark k m) k m (same_mark_true k m) other
at_unlike m (token.Word w ∷ xs) other = refl
at_unlike m (token.Number n ∷ xs) other = refl
at_unlike m (token.LeftOut w ∷ xs) other = refl
at_unlike m [] other = refl

-- the same, of a mark that is to be skipped
pub skip_unlike : (m : Mark) (xs : List Token) → peek_mark xs ≢ Some m → skip m xs ≡ stays false xs
skip_unlike m xs other = skip_other m xs (at_unlike m xs other)

module _ (Starts : List Token → Type 0) where
  module _ {A : Type 0} (X : A → List Token → List Token → Type 0) (starts : (a : A) (xs ys : List Token) → X a xs ys → Starts xs) where
    pub several_starts : {items : List A} {xs ys : List Token} → Several X items xs ys → Starts ys → Starts xs
    several_starts none h = h
    several_starts (some d rest) h = starts _ _ _ d

    pub separated_starts : {m : Mark} {items : List A} {xs ys : List Token} → SeparatedBy m X items xs ys → Starts xs
    separated_starts (single d) = starts _ _ _ d
    separated_starts (followed d rest) = starts _ _ _ d

    pub ended_starts : {m : Mark} {items : List A} {xs ys : List Token} → SeparatedOrEndedBy m X items xs ys → Starts xs
    ended_starts (last d) = starts _ _ _ d
    ended_starts (closed d) = starts _ _ _ d
    ended_starts (continued d rest) = starts _ _ _ d

  module _ {A : Type 0} (X : List A → List Token → List Token → Type 0) (starts : (items : List A) (xs ys : List Token) → X items xs ys → Starts xs) where
    pub gathered_starts : {m : Mark} {items : List A} {xs ys : List Token} → ListsSeparatedBy m X items xs ys → Starts xs
    gathered_starts (single_group d) = starts _ _ _ d
    gathered_starts (followed_group d rest) = starts _ _ _ d

    pub gathered_several_starts : {items : List A} {xs ys : List Token} → SeveralLists X items xs ys → Starts ys → Starts xs
    gathered_several_starts no_group h = h
    gathered_several_starts (some_groups d rest) h = starts _ _ _ d

  pub section_starts : {A : Type 0} (m : Mark) (X : List A → List Token → List Token → Type 0) → ((zs : List Token) → Starts (token.Mark m ∷ zs)) →
      (items : List A) (xs ys : List Token) → Section m X items xs ys → Starts ys → Starts xs
  section_starts m X marked _ _ _ absent h = h
  section_starts m X marked _ _ _ (present d) h = marked _

  pub optional_starts : {A : Type 0} (m : Mark) (X : A → List Token → List Token → Type 0) → ((zs : List Token) → Starts (token.Mark m ∷ zs)) →
      (item : Option A) (xs ys : List Token) → Optional m X item xs ys → Starts ys → Starts xs
  optional_starts m X marked _ _ _ left_out h = h
  optional_starts m X marked _ _ _ (written d) h = marked _
