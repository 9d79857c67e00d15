-- A part of a text takes tokens: what comes after it is shorter.
use Rattle.std.proofs.Common.{◌<◌, ◌≤◌, List, Option, length, arith}
use Rattle.ioa_tokens.specs.declared.token.Token.{Token}
use Rattle.ioa_tokens.specs.declared.mark.Mark.{Mark}
use Rattle.ioa_cursor.specs.Lists.{Several, none, some, SeparatedBy, single, followed, SeparatedOrEndedBy, last, closed, continued, Section, absent, present, Optional, left_out, written, ListsSeparatedBy, single_group, followed_group, SeveralLists, no_group, some_groups}

module _ {A : Type 0} (X : A → List Token → List Token → Type 0) (shorter : (a : A) (xs ys : List Token) → X a xs ys → length ys < length xs) where
  pub several_shorter : {items : List A} {xs ys : List Token} → Several X items xs ys → length ys ≤ length xs
  several_shorter none = omega arith
  several_shorter (some d rest) = let a = shorter _ _ _ d in let b = several_shorter rest in omega arith

  pub separated_shorter : {m : Mark} {items : List A} {xs ys : List Token} → SeparatedBy m X items xs ys → length ys < length xs
  separated_shorter (single d) = shorter _ _ _ d
  separated_shorter (followed d rest) = let a = shorter _ _ _ d in let b = separated_shorter rest in omega arith

  pub ended_shorter : {m : Mark} {items : List A} {xs ys : List Token} → SeparatedOrEndedBy m X items xs ys → length ys < length xs
  ended_shorter (last d) = shorter _ _ _ d
  ended_shorter (closed d) = let a = shorter _ _ _ d in omega arith
  ended_shorter (continued d rest) = let a = shorter _ _ _ d in let b = ended_shorter rest in omega arith

module _ {A : Type 0} (X : List A → List Token → List Token → Type 0) (shorter : (items : List A) (xs ys : List Token) → X items xs ys → length ys < length xs) where
  pub gathered_shorter : {m : Mark} {items : List A} {xs ys : List Token} → ListsSeparatedBy m X items xs ys → length ys < length xs
  gathered_shorter (single_group d) = shorter _ _ _ d
  gathered_shorter (followed_group d rest) = let a = shorter _ _ _ d in let b = gathered_shorter rest in omega arith

  pub gathered_several_shorter : {items : List A} {xs ys : List Token} → SeveralLists X items xs ys → length ys ≤ length xs
  gathered_several_shorter no_group = omega arith
  gathered_several_shorter (some_groups d rest) = let a = shorter _ _ _ d in let b = gathered_several_shorter rest in omega arith

pub section_shorter : {A : Type 0} (X : List A → List Token → List Token → Type 0) → ((items : List A) (xs ys : List Token) → X items xs ys → length ys ≤ length xs) →
    {m : Mark} {items : List A} {xs ys : List Token} → Section m X items xs ys → length ys ≤ length xs
section_shorter X shorter absent = omega arith
section_shorter X shorter (present d) = let a = shorter _ _ _ d in omega arith

pub optional_shorter : {A : Type 0} (X : A → List Token → List Token → Type 0) → ((a : A) (xs ys : List Token) → X a xs ys → length ys ≤ length xs) →
    {m : Mark} {item : Option A} {xs ys : List Token} → Optional m X item xs ys → length ys ≤ length xs
optional_shorter X shorter left_out = omega arith
optional_shorter X shorter (written d) = let a = shorter _ _ _ d in omega arith
