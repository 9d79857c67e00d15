-- A term that is spelled at all is spelled as it is written, with brackets about its operator terms: they never go
-- deeper than the term is high.
use Rattle.std.proofs.Common.{◌≡◌, ℕ, suc, ◌-◌, ◌≤◌, Bool, true, false, List, [], ◌∷◌, ◌++◌, Option, Some, None, refl, append_assoc, append-nil, arith}
use Rattle.ioa_tokens.specs.declared.token.Token.{Token}
use Rattle.ioa_tokens.specs.declared.token.Token.TheVariants as token
use Rattle.ioa_tokens.specs.declared.mark.Mark.{Mark}
use Rattle.ioa_tokens.specs.declared.mark.Mark.TheVariants as mark
use Rattle.ioa_operators.specs.declared.operator.UnaryOperator.{UnaryOperator}
use Rattle.ioa_operators.specs.declared.operator.UnaryOperator.TheVariants.{Not, Negative}
use Rattle.ioa_operators.specs.declared.operator.BinaryOperator.{BinaryOperator}
use Rattle.ioa_operators.specs.declared.operator.BinaryOperator.TheVariants as operator
use Rattle.ioa_terms.specs.PlainTerm.{two}
use Rattle.ioa_source.specs.Sides.{SourceTerm, SourceTerms}
use Rattle.ioa_term_reader.specs.Grammar as grammar
use Rattle.ioa_term_reader.specs.Grammar.{SpellsAt, SpellsTerms, SpellsTerm, called}
use Rattle.ioa_source.specs.Heights.{height, heights, height_limit}
use Rattle.ioa_term_reader.specs.Levels.{prefix_mark, prefix_level, prefix_of, infix_mark, infix_of, level, left_level, right_level, postfix_level}
use Rattle.ioa_term_reader.specs.Spelling.{infix_end, is_operation, spelling, part_spelling, parts_spelling, more_parts_spelling}
use Rattle.ioa_term_reader.proofs.Called.{called_height, called_plain, called_spelling}
use Rattle.ioa_term_reader.proofs.Sound.{looser}

-- the marks of operators, and the levels of their terms

prefix_is : (op : UnaryOperator) → prefix_of (prefix_mark op) ≡ Some op
prefix_is Not = refl
prefix_is Negative = refl

prefix_inside : (op : UnaryOperator) → prefix_level op ≤ postfix_level
prefix_inside Not = omega arith
prefix_inside Negative = omega arith

prefix_alone : (op : UnaryOperator) → 1 ≤ prefix_level op
prefix_alone Not = omega arith
prefix_alone Negative = omega arith

-- whether an operator is written between its two terms
is_between : BinaryOperator → Bool
is_between operator.At = false
is_between _ = true

are_between : Option BinaryOperator → Bool
are_between (Some op) = is_between op
are_between None = true

marks_between : (m : Mark) → are_between (infix_of m) ≡ true
unfolding are_between is_between
marks_between mark.Dot = refl
marks_between _ = refl

mark_between : (m : Mark) (op : BinaryOperator) → infix_of m ≡ Some op → is_between op ≡ true
unfolding are_between is_between
mark_between m op e = rw e at (marks_between m)

infix_is : (op : BinaryOperator) → is_between op ≡ true → infix_of (infix_mark op) ≡ Some op
unfolding is_between
infix_is operator.At e = absurd cc
infix_is _ e = refl

end_is : (op : BinaryOperator) → is_between op ≡ true → infix_end op ≡ []
unfolding is_between
end_is operator.At e = absurd cc
end_is _ e = refl

operation_is : (op : BinaryOperator) → is_between op ≡ true → (a b : SourceTerm) → is_operation (two op a b) ≡ true
unfolding is_between
operation_is operator.At e a b = absurd cc
operation_is _ e a b = refl

left_inside : (op : BinaryOperator) → left_level op ≤ postfix_level
left_inside operator.At = omega arith
left_inside _ = omega arith

right_inside : (op : BinaryOperator) → is_between op ≡ true → right_level op ≤ postfix_level
unfolding is_between
right_inside operator.At e = absurd cc
right_inside _ e = omega arith

infix_alone : (op : BinaryOperator) → 1 ≤ level op
infix_alone operator.At = omega arith
infix_alone _ = omega arith

-- a term is spelled as it is written, alone and as a part of another
pub record Printed (t : SourceTerm) : Type 0 where
  pub alone : (e : ℕ) (zs : List Token) → height t ≤ e → SpellsAt e 1 t (spelling t ++ zs) zs
  pub inside : (e : ℕ) (zs : List Token) → height t ≤ e → SpellsAt e postfix_level t (part_spelling t ++ zs) zs

-- terms are spelled as they are written, and behind others
pub record PrintedTerms (ts : SourceTerms) : Type 0 where
  pub listed : (e : ℕ) (zs : List Token) → heights ts ≤ e → SpellsTerms e ts (parts_spelling ts ++ zs) zs
  pub goes_on : more_parts_spelling ts ≡ token.Mark mark.Comma ∷ parts_spelling ts

-- an operation needs a bracket as a part of another, and one less alone
operation_printed : (t : SourceTerm) → is_operation t ≡ true → 1 ≤ height t → ((e : ℕ) (zs : List Token) → height t ≤ suc e → SpellsAt e 1 t (spelling t ++ zs) zs) → Printed t
operation_printed t is high here = record {
  alone = λ e zs h. here e zs (omega arith);
  inside = λ e zs h.
      let deeper : e ≡ suc (e - 1) = omega arith in
      rw (is, append_assoc (spelling t) (token.Mark mark.CloseRound ∷ []) zs, deeper) (grammar.tighter (grammar.brackets (here (e - 1) (token.Mark mark.CloseRound ∷ zs) (omega arith))));
}

plain_printed : (t : SourceTerm) → is_operation t ≡ false → ((e : ℕ) (zs : List Token) → height t ≤ e → SpellsAt e postfix_level t (spelling t ++ zs) zs) → Printed t
plain_printed t is here = record {
  alone = λ e zs h. looser (omega arith) (here e zs h);
  inside = λ e zs h. rw is (here e zs h);
}

mutual
  pub at_printed : {room l : ℕ} {t : SourceTerm} {xs ys : List Token} → SpellsAt room l t xs ys → Printed t
  at_printed {t = t} grammar.numeral = plain_printed t refl (λ e zs h. grammar.tighter grammar.numeral)
  at_printed {t = t} grammar.yes = plain_printed t refl (λ e zs h. grammar.tighter grammar.yes)
  at_printed {t = t} grammar.no = plain_printed t refl (λ e zs h. grammar.tighter grammar.no)
  at_printed {t = t} grammar.word = plain_printed t refl (λ e zs h. grammar.tighter grammar.word)
  at_printed {t = t} grammar.at_node = plain_printed t refl (λ e zs h. grammar.tighter grammar.at_node)
  at_printed (grammar.call {w = w} {ts = ts} d) =
      let p = terms_printed d in
      let tall = called_height w ts in
      plain_printed (called w ts) (called_plain w ts) (λ e zs h.
      let deeper : e ≡ suc (e - 1) = omega arith in
      rw (called_spelling w ts, append_assoc (parts_spelling ts) (token.Mark mark.CloseRound ∷ []) zs, deeper) (grammar.tighter (grammar.call (p.listed (e - 1) (token.Mark mark.CloseRound ∷ zs) (omega arith)))))
  at_printed (grammar.brackets d) = at_printed d
  at_printed {t = t} grammar.empty =
      plain_printed t refl (λ e zs h. let deeper : e ≡ suc (e - 1) = omega arith in rw deeper (grammar.tighter grammar.empty))
  at_printed {t = t} (grammar.braces {ts = ts} d) =
      let p = terms_printed d in
      plain_printed t refl (λ e zs h.
      let deeper : e ≡ suc (e - 1) = omega arith in
      rw (append_assoc (parts_spelling ts) (token.Mark mark.CloseBrace ∷ []) zs, deeper) (grammar.tighter (grammar.braces (p.listed (e - 1) (token.Mark mark.CloseBrace ∷ zs) (omega arith)))))
  at_printed {t = t} (grammar.fields {ts = ts} d) =
      let p = terms_printed d in
      plain_printed t refl (λ e zs h.
      let deeper : e ≡ suc (e - 1) = omega arith in
      rw (append_assoc (parts_spelling ts) (token.Mark mark.CloseSquare ∷ []) zs, deeper) (grammar.tighter (grammar.fields (p.listed (e - 1) (token.Mark mark.CloseSquare ∷ zs) (omega arith)))))
  at_printed {t = t} (grammar.field {t = a} {w = w} d) =
      let p = at_printed d in
      plain_printed t refl (λ e zs h.
      rw (append_assoc (part_spelling a) (token.Mark mark.Dot ∷ token.Word w ∷ []) zs) (grammar.field (p.inside e (token.Mark mark.Dot ∷ token.Word w ∷ zs) (omega arith))))
  at_printed {t = t} (grammar.key {t = a} {u = k} d index) =
      let p = at_printed d in
      let q = at_printed index in
      plain_printed t refl (λ e zs h.
      let deeper : e ≡ suc (e - 1) = omega arith in
      rw (append_assoc (part_spelling a) (token.Mark mark.OpenSquare ∷ (part_spelling k ++ token.Mark mark.CloseSquare ∷ [])) zs, append_assoc (part_spelling k) (token.Mark mark.CloseSquare ∷ []) zs, deeper)
      (grammar.key
      (p.inside (suc (e - 1)) (token.Mark mark.OpenSquare ∷ (part_spelling k ++ token.Mark mark.CloseSquare ∷ zs)) (omega arith))
      (looser (omega arith) (q.inside (e - 1) (token.Mark mark.CloseSquare ∷ zs) (omega arith)))))
  at_printed {t = t} (grammar.before {t = a} m op is d) =
      let p = at_printed d in
      operation_printed t refl (omega arith) (λ e zs h.
      looser (prefix_alone op) (grammar.before (prefix_mark op) op (prefix_is op) (looser (prefix_inside op) (p.inside e zs (omega arith)))))
  at_printed {t = t} (grammar.between {t = a} {u = b} m op is d k) =
      let p = at_printed d in
      let q = at_printed k in
      let binary = mark_between m op is in
      operation_printed t (operation_is op binary a b) (omega arith) (λ e zs h.
      rw (end_is op binary, append-nil (part_spelling b), append_assoc (part_spelling a) (token.Mark (infix_mark op) ∷ part_spelling b) zs)
      (looser (infix_alone op)
      (grammar.between (infix_mark op) op (infix_is op binary)
      (looser (left_inside op) (p.inside e (token.Mark (infix_mark op) ∷ (part_spelling b ++ zs)) (omega arith)))
      (looser (right_inside op binary) (q.inside e zs (omega arith))))))
  at_printed (grammar.tighter d) = at_printed d

  pub terms_printed : {room : ℕ} {ts : SourceTerms} {xs ys : List Token} → SpellsTerms room ts xs ys → PrintedTerms ts
  terms_printed (grammar.single {t = t} d) =
      let p = at_printed d in
      record { listed = λ e zs h. rw (append-nil (part_spelling t)) (grammar.single (looser (omega arith) (p.inside e zs (omega arith)))); goes_on = refl }
  terms_printed (grammar.followed {t = t} {ts = ts} d rest) =
      let p = at_printed d in
      let q = terms_printed rest in
      record {
        listed = λ e zs h.
            rw (q.goes_on, append_assoc (part_spelling t) (token.Mark mark.Comma ∷ parts_spelling ts) zs)
            (grammar.followed (looser (omega arith) (p.inside e (token.Mark mark.Comma ∷ (parts_spelling ts ++ zs)) (omega arith))) (q.listed e zs (omega arith)));
        goes_on = refl;
      }

-- what is spelled is spelled as it is written, within as many brackets as it is high
pub printed : {room : ℕ} {t : SourceTerm} {xs ys : List Token} → SpellsTerm room t xs ys → (e : ℕ) → height t ≤ e → (zs : List Token) → SpellsAt e 1 t (spelling t ++ zs) zs
printed d e h zs = (at_printed d.spelled).alone e zs h

-- so it is a term again wherever there is room for the highest
pub term_printed : {room : ℕ} {t : SourceTerm} {xs ys : List Token} → SpellsTerm room t xs ys → (e : ℕ) → height_limit ≤ e → (zs : List Token) → SpellsTerm e t (spelling t ++ zs) zs
term_printed d e h zs = let low = d.low in record { spelled = printed d e (omega arith) zs; low = low }
