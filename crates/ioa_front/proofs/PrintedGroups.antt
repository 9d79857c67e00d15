-- Items that are spelled in groups, and are printed one by one: each is a group of its own.
use Rattle.std.proofs.Common.{List, [], ◌∷◌, ◌++◌, append_assoc, append-nil}
use Rattle.std.specs.List.{AllByRecursion}
use Rattle.std.specs.Prelude.{map}
use Rattle.ioa_tokens.specs.declared.token.Token.{Token}
use Rattle.ioa_tokens.specs.declared.token.Token.TheVariants as token
use Rattle.ioa_tokens.specs.declared.mark.Mark.{Mark}
use Rattle.ioa_tokens.specs.Written.{AreTokens}
use Rattle.ioa_cursor.specs.Lists.{SeparatedOrEndedBy, ListsSeparatedBy, SeveralLists}
use Rattle.ioa_cursor.specs.Lists as lists
use Rattle.ioa_term_reader.proofs.PrintedGood.{tokens_joined}
use Rattle.ioa_front.specs.Spelling.{more_separated_spelling, separated_spelling, joined_spelling}
use Rattle.ioa_front.proofs.PrintedLists.{Prints}
use Rattle.ioa_values.proofs.AllOf.{all_appended}

-- an item as a group of its own
abbrev pub Alone : {A : Type 0} → (List A → List Token → List Token → Type 0) → A → List Token → List Token → Type 0
Alone X a xs ys = X (a ∷ []) xs ys

-- it is spelled as it is printed
abbrev pub IsAgain : {A : Type 0} → (List A → List Token → List Token → Type 0) → (A → List Token) → A → Type 0
IsAgain X spell a = (zs : List Token) → X (a ∷ []) (spell a ++ zs) zs

-- there is an item
abbrev pub IsFilled : {A : Type 0} → List A → Type 0
IsFilled [] = ⊥
IsFilled (a ∷ more) = Unit {0}

joined_filled : {A : Type 0} (xs ys : List A) → IsFilled xs → IsFilled (xs ++ ys)
joined_filled [] ys h = absurd h
joined_filled (x ∷ xs) ys h = tt

pub mapped_filled : {A B : Type 0} (f : A → B) (xs : List A) → IsFilled xs → IsFilled (map f xs)
mapped_filled f [] h = absurd h
mapped_filled f (x ∷ xs) h = tt

-- what follows for each item holds of all
pub all_mapped : {A B : Type 0} (f : A → B) (P : A → Type 0) (Q : B → Type 0) → ((a : A) → P a → Q (f a)) → (xs : List A) → AllByRecursion P xs → AllByRecursion Q (map f xs)
all_mapped f P Q law [] h = tt
all_mapped f P Q law (x ∷ xs) h = (law x h.0, all_mapped f P Q law xs h.1)

-- what printing keeps of each item of a group that `xs` spell, and after it `ys`
pub record PrintsEach {A : Type 0} (X : List A → List Token → List Token → Type 0) (spell : A → List Token) (items : List A) (xs ys : List Token) : Type 0 where
  pub again : AllByRecursion (IsAgain X spell) items
  pub good : AreTokens xs → AllByRecursion (λ a. AreTokens (spell a)) items × AreTokens ys

module _ {A : Type 0} (X : List A → List Token → List Token → Type 0) (spell : A → List Token) where
  -- a group whose items are spelled one after another
  module _ (Y : A → List Token → List Token → Type 0) (m : Mark) (prints : (a : A) (xs ys : List Token) → Y a xs ys → Prints (Alone X) spell a xs ys) where
    pub ended_each : {items : List A} {xs ys : List Token} → SeparatedOrEndedBy m Y items xs ys → PrintsEach X spell items xs ys
    ended_each (lists.last {only = a} d) =
        let p = prints a _ _ d in
        record { again = (p.again, tt); good = λ h. let g = p.good h in ((g.0, tt), g.1) }
    ended_each (lists.closed {only = a} d) =
        let p = prints a _ _ d in
        record { again = (p.again, tt); good = λ h. let g = p.good h in ((g.0, tt), g.1.1) }
    ended_each (lists.continued {first = a} d rest) =
        let p = prints a _ _ d in
        let q = ended_each rest in
        record { again = (p.again, q.again); good = λ h. let g = p.good h in let i = q.good g.1.1 in ((g.0, i.0), i.1) }

  -- the tokens of items one after another, and with a mark between
  joined_good : (items : List A) → AllByRecursion (λ a. AreTokens (spell a)) items → AreTokens (joined_spelling spell items)
  joined_good [] h = tt
  joined_good (a ∷ more) h = tokens_joined (spell a) (joined_spelling spell more) h.0 (joined_good more h.1)

  more_separated_good : (m : Mark) (items : List A) → AllByRecursion (λ a. AreTokens (spell a)) items → AreTokens (more_separated_spelling m spell items)
  more_separated_good m [] h = tt
  more_separated_good m (a ∷ more) h = (tt, tokens_joined (spell a) (more_separated_spelling m spell more) h.0 (more_separated_good m more h.1))

  separated_good : (m : Mark) (items : List A) → AllByRecursion (λ a. AreTokens (spell a)) items → AreTokens (separated_spelling m spell items)
  separated_good m [] h = tt
  separated_good m (a ∷ more) h = tokens_joined (spell a) (more_separated_spelling m spell more) h.0 (more_separated_good m more h.1)

  -- groups of one item
  groups_again : (items : List A) (zs : List Token) → AllByRecursion (IsAgain X spell) items → SeveralLists X items (joined_spelling spell items ++ zs) zs
  groups_again [] zs h = lists.no_group
  groups_again (a ∷ more) zs h =
      rw (append_assoc (spell a) (joined_spelling spell more) zs) (lists.some_groups (h.0 (joined_spelling spell more ++ zs)) (groups_again more zs h.1))

  gathered_again : (m : Mark) (a : A) (more : List A) (zs : List Token) → AllByRecursion (IsAgain X spell) (a ∷ more) → ListsSeparatedBy m X (a ∷ more) (separated_spelling m spell (a ∷ more) ++ zs) zs
  gathered_again m a [] zs h = rw (append-nil (spell a)) (lists.single_group (h.0 zs))
  gathered_again m a (b ∷ more) zs h =
      rw (append_assoc (spell a) (token.Mark m ∷ separated_spelling m spell (b ∷ more)) zs)
      (lists.followed_group (h.0 (token.Mark m ∷ (separated_spelling m spell (b ∷ more) ++ zs))) (gathered_again m b more zs h.1))

  filled_again : (m : Mark) (items : List A) (zs : List Token) → IsFilled items → AllByRecursion (IsAgain X spell) items → ListsSeparatedBy m X items (separated_spelling m spell items ++ zs) zs
  filled_again m [] zs some h = absurd some
  filled_again m (a ∷ more) zs some h = gathered_again m a more zs h

  module _ (prints : (items : List A) (xs ys : List Token) → X items xs ys → PrintsEach X spell items xs ys) where
    groups_each : {items : List A} {xs ys : List Token} → SeveralLists X items xs ys → PrintsEach X spell items xs ys
    groups_each lists.no_group = record { again = tt; good = λ h. (tt, h) }
    groups_each (lists.some_groups {items = items} {others = others} d rest) =
        let p = prints items _ _ d in
        let q = groups_each rest in
        record {
          again = all_appended (IsAgain X spell) items others p.again q.again;
          good = λ h. let g = p.good h in let i = q.good g.1 in (all_appended (λ a. AreTokens (spell a)) items others g.0 i.0, i.1);
        }

    pub groups_prints : {items : List A} {xs ys : List Token} → SeveralLists X items xs ys → Prints (SeveralLists X) (joined_spelling spell) items xs ys
    groups_prints {items} d =
        let p = groups_each d in
        record { again = λ zs. groups_again items zs p.again; good = λ h. let g = p.good h in (joined_good items g.0, g.1) }

    module _ (m : Mark) (some : (items : List A) (xs ys : List Token) → X items xs ys → IsFilled items) where
      gathered_filled : {items : List A} {xs ys : List Token} → ListsSeparatedBy m X items xs ys → IsFilled items
      gathered_filled (lists.single_group {items = items} d) = some items _ _ d
      gathered_filled (lists.followed_group {items = items} {others = others} d rest) = joined_filled items others (some items _ _ d)

      gathered_each : {items : List A} {xs ys : List Token} → ListsSeparatedBy m X items xs ys → PrintsEach X spell items xs ys
      gathered_each (lists.single_group {items = items} d) = prints items _ _ d
      gathered_each (lists.followed_group {items = items} {others = others} d rest) =
          let p = prints items _ _ d in
          let q = gathered_each rest in
          record {
            again = all_appended (IsAgain X spell) items others p.again q.again;
            good = λ h. let g = p.good h in let i = q.good g.1.1 in (all_appended (λ a. AreTokens (spell a)) items others g.0 i.0, i.1);
          }

      pub gathered_prints : {items : List A} {xs ys : List Token} → ListsSeparatedBy m X items xs ys → Prints (ListsSeparatedBy m X) (separated_spelling m spell) items xs ys
      gathered_prints {items} d =
          let p = gathered_each d in
          record {
            again = λ zs. filled_again m items zs (gathered_filled d) p.again;
            good = λ h. let g = p.good h in (separated_good m items g.0, g.1);
          }
