-- Lists and parts as they are printed: they are spelled so again, before any tokens.
use Rattle.std.proofs.Common.{◌≡◌, List, [], ◌∷◌, ◌++◌, Option, refl, append_assoc, append-nil}
use Rattle.ioa_tokens.specs.declared.token.Token.{Token}
use Rattle.ioa_tokens.specs.declared.token.Token.TheVariants as token
use Rattle.ioa_tokens.specs.declared.mark.Mark.{Mark}
use Rattle.ioa_tokens.specs.declared.mark.Mark.TheVariants as mark
use Rattle.ioa_tokens.specs.Written.{AreTokens}
use Rattle.ioa_cursor.specs.Lists.{Several, SeparatedBy, Section, Optional}
use Rattle.ioa_cursor.specs.Lists as lists
use Rattle.ioa_part_reader.specs.Grammar.{InBrackets, bare, hollow, filled}
use Rattle.ioa_term_reader.proofs.PrintedGood.{AreGood, tokens_joined}
use Rattle.ioa_front.specs.Spelling.{more_separated_spelling, separated_spelling, joined_spelling, bracketed_spelling, section_spelling, optional_spelling}

-- what printing keeps of an item that `xs` spell, and after it `ys`
pub record Prints {A : Type 0} (X : A → List Token → List Token → Type 0) (spell : A → List Token) (a : A) (xs ys : List Token) : Type 0 where
  -- as it is printed it is spelled again, whatever is behind it
  pub again : (zs : List Token) → X a (spell a ++ zs) zs
  -- tokens that a text can have are printed as such
  pub good : AreTokens xs → AreGood (spell a) ys

module _ {A : Type 0} (X : A → List Token → List Token → Type 0) (spell : A → List Token) (prints : (a : A) (xs ys : List Token) → X a xs ys → Prints X spell a xs ys) where
  pub several_prints : {items : List A} {xs ys : List Token} → Several X items xs ys → Prints (Several X) (joined_spelling spell) items xs ys
  several_prints lists.none = record { again = λ zs. lists.none; good = λ h. (tt, h) }
  several_prints (lists.some {first = a} {more = more} d rest) =
      let p = prints a _ _ d in
      let q = several_prints rest in
      record {
        again = λ zs. rw (append_assoc (spell a) (joined_spelling spell more) zs) (lists.some (p.again (joined_spelling spell more ++ zs)) (q.again zs));
        good = λ h. let g = p.good h in let i = q.good g.1 in (tokens_joined (spell a) (joined_spelling spell more) g.0 i.0, i.1);
      }

  module _ (m : Mark) where
    -- behind an item, items that are spelled come after a mark
    separated_goes_on : {items : List A} {xs ys : List Token} → SeparatedBy m X items xs ys → more_separated_spelling m spell items ≡ token.Mark m ∷ separated_spelling m spell items
    separated_goes_on (lists.single d) = refl
    separated_goes_on (lists.followed d rest) = refl

    pub separated_prints : {items : List A} {xs ys : List Token} → SeparatedBy m X items xs ys → Prints (SeparatedBy m X) (separated_spelling m spell) items xs ys
    separated_prints (lists.single {only = a} d) =
        let p = prints a _ _ d in
        record {
          again = λ zs. rw (append-nil (spell a)) (lists.single (p.again zs));
          good = λ h. let g = p.good h in (tokens_joined (spell a) [] g.0 tt, g.1);
        }
    separated_prints (lists.followed {first = a} {more = more} d rest) =
        let p = prints a _ _ d in
        let q = separated_prints rest in
        let on = separated_goes_on rest in
        record {
          again = λ zs.
              rw (on, append_assoc (spell a) (token.Mark m ∷ separated_spelling m spell more) zs) (lists.followed (p.again (token.Mark m ∷ (separated_spelling m spell more ++ zs))) (q.again zs));
          good = λ h.
              let g = p.good h in
              let i = q.good g.1.1 in
              (rw on (tokens_joined (spell a) (token.Mark m ∷ separated_spelling m spell more) g.0 (tt, i.0)), i.1);
        }

    pub optional_prints : {item : Option A} {xs ys : List Token} → Optional m X item xs ys → Prints (Optional m X) (optional_spelling m spell) item xs ys
    optional_prints lists.left_out = record { again = λ zs. lists.left_out; good = λ h. (tt, h) }
    optional_prints (lists.written {item = a} d) =
        let p = prints a _ _ d in
        record { again = λ zs. lists.written (p.again zs); good = λ h. let g = p.good h.1 in ((tt, g.0), g.1) }

module _ {A : Type 0} (X : List A → List Token → List Token → Type 0) (spell : List A → List Token) (prints : (items : List A) (xs ys : List Token) → X items xs ys → Prints X spell items xs ys) (m : Mark) where
  -- a part without items is not printed
  present_prints : (items : List A) (xs ys : List Token) → Prints X spell items xs ys → Prints (Section m X) (section_spelling m spell) items (token.Mark m ∷ xs) ys
  present_prints [] xs ys p = record { again = λ zs. lists.absent; good = λ h. let g = p.good h.1 in (tt, g.1) }
  present_prints (a ∷ more) xs ys p = record { again = λ zs. lists.present (p.again zs); good = λ h. let g = p.good h.1 in ((tt, g.0), g.1) }

  pub section_prints : {items : List A} {xs ys : List Token} → Section m X items xs ys → Prints (Section m X) (section_spelling m spell) items xs ys
  section_prints lists.absent = record { again = λ zs. lists.absent; good = λ h. (tt, h) }
  section_prints (lists.present {items = items} {xs = xs} {ys = ys} d) = present_prints items xs ys (prints items xs ys d)

-- the tokens of items in brackets
pub brackets_good : {A : Type 0} (spell : A → List Token) (items : List A) → AreTokens (separated_spelling mark.Comma spell items) → AreTokens (bracketed_spelling spell items)
brackets_good spell [] h = tt
brackets_good spell (a ∷ more) h = (tt, tokens_joined (separated_spelling mark.Comma spell (a ∷ more)) (token.Mark mark.CloseRound ∷ []) h (tt, tt))

module _ {A : Type 0} (X : List A → List Token → List Token → Type 0) (spell : A → List Token) where
  -- brackets as they are printed, and none where there is no item
  in_brackets : (items : List A) (zs : List Token) → ((us : List Token) → X items (separated_spelling mark.Comma spell items ++ us) us) → InBrackets X items (bracketed_spelling spell items ++ zs) zs
  in_brackets [] zs again = bare
  in_brackets (a ∷ more) zs again =
      rw (append_assoc (separated_spelling mark.Comma spell (a ∷ more)) (token.Mark mark.CloseRound ∷ []) zs) (filled (again (token.Mark mark.CloseRound ∷ zs)))

  pub bracketed_prints : ((items : List A) (xs ys : List Token) → X items xs ys → Prints X (separated_spelling mark.Comma spell) items xs ys) → {items : List A} {xs ys : List Token} → InBrackets X items xs ys → Prints (InBrackets X) (bracketed_spelling spell) items xs ys
  bracketed_prints prints bare = record { again = λ zs. bare; good = λ h. (tt, h) }
  bracketed_prints prints hollow = record { again = λ zs. bare; good = λ h. (tt, h.1.1) }
  bracketed_prints prints (filled {items = items} d) =
      let p = prints items _ _ d in
      record { again = λ zs. in_brackets items zs p.again; good = λ h. let g = p.good h.1 in (brackets_good spell items g.0, g.1.1) }
