-- The forms of list of the grammar (profile), for any item.
use Rattle.std.specs.Prelude.{List, [], ◌∷◌, ◌++◌, Option, Some, None}
use Rattle.ioa_tokens.specs.declared.token.Token.{Token}
use Rattle.ioa_tokens.specs.declared.token.Token.TheVariants as token
use Rattle.ioa_tokens.specs.declared.mark.Mark.{Mark}

-- a production `X`: `X x xs ys` says that the tokens `xs` are a spelling of `x` and after it `ys`
abbrev pub Production : Type 0 → Type 1
Production A = A → List Token → List Token → Type 0

-- {X}: any number of an X
pub data Several {A : Type 0} (X : Production A) : List A → List Token → List Token → Type 0 where
  none : {xs : List Token} → Several X [] xs xs
  some : {first : A} {more : List A} {xs ys zs : List Token} →
      X first xs ys → Several X more ys zs → Several X (first ∷ more) xs zs

-- X {m X}: one or more, with a mark between
pub data SeparatedBy {A : Type 0} (m : Mark) (X : Production A) : List A → List Token → List Token → Type 0 where
  single : {only : A} {xs ys : List Token} → X only xs ys → SeparatedBy m X (only ∷ []) xs ys
  followed : {first : A} {more : List A} {xs ys zs : List Token} →
      X first xs (token.Mark m ∷ ys) → SeparatedBy m X more ys zs → SeparatedBy m X (first ∷ more) xs zs

-- X {m X} [m]: one or more, with a mark between, and perhaps one at the end
pub data SeparatedOrEndedBy {A : Type 0} (m : Mark) (X : Production A) : List A → List Token → List Token → Type 0 where
  last : {only : A} {xs ys : List Token} → X only xs ys → SeparatedOrEndedBy m X (only ∷ []) xs ys
  closed : {only : A} {xs ys : List Token} → X only xs (token.Mark m ∷ ys) → SeparatedOrEndedBy m X (only ∷ []) xs ys
  continued : {first : A} {more : List A} {xs ys zs : List Token} →
      X first xs (token.Mark m ∷ ys) → SeparatedOrEndedBy m X more ys zs → SeparatedOrEndedBy m X (first ∷ more) xs zs

-- [m X]: a list behind its mark, or nothing, which is the empty list
pub data Section {A : Type 0} (m : Mark) (X : Production (List A)) : List A → List Token → List Token → Type 0 where
  absent : {xs : List Token} → Section m X [] xs xs
  present : {items : List A} {xs ys : List Token} → X items xs ys → Section m X items (token.Mark m ∷ xs) ys

-- [m X]: an item behind its mark, or nothing
pub data Optional {A : Type 0} (m : Mark) (X : Production A) : Option A → List Token → List Token → Type 0 where
  left_out : {xs : List Token} → Optional m X None xs xs
  written : {item : A} {xs ys : List Token} → X item xs ys → Optional m X (Some item) (token.Mark m ∷ xs) ys

-- X {m X}, if each X is a list: the items of all in order
pub data ListsSeparatedBy {A : Type 0} (m : Mark) (X : Production (List A)) :
    List A → List Token → List Token → Type 0 where
  single_group : {items : List A} {xs ys : List Token} → X items xs ys → ListsSeparatedBy m X items xs ys
  followed_group : {items others : List A} {xs ys zs : List Token} →
      X items xs (token.Mark m ∷ ys) → ListsSeparatedBy m X others ys zs → ListsSeparatedBy m X (items ++ others) xs zs

-- {X}, if each X is a list: the items of all in order
pub data SeveralLists {A : Type 0} (X : Production (List A)) : List A → List Token → List Token → Type 0 where
  no_group : {xs : List Token} → SeveralLists X [] xs xs
  some_groups : {items others : List A} {xs ys zs : List Token} →
      X items xs ys → SeveralLists X others ys zs → SeveralLists X (items ++ others) xs zs
