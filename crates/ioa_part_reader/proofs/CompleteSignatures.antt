-- Calls and signatures are read as they are spelled.
use Rattle.std.proofs.Common.{◌≡◌, ℕ, ◌<◌, true, false, List, [], ◌∷◌, Option, refl, arith}
use Rattle.ioa_tokens.specs.declared.token.Token.{Token}
use Rattle.ioa_tokens.specs.declared.token.Token.TheVariants as token
use Rattle.ioa_tokens.specs.declared.mark.Mark.TheVariants as mark
use Rattle.ioa_terms.specs.declared.tree.Kind.{Kind}
use Rattle.ioa_source.specs.Sides.{SourceTerm as Term, SourceParameter as Parameter, SourceEntry as Entry, SourceCall as Call}
use Rattle.ioa_cursor.specs.Lists.{SeparatedBy, SeparatedOrEndedBy, Optional, ListsSeparatedBy, SeveralLists, Section}
use Rattle.ioa_cursor.specs.Reading.{bind, choose, skip, expect, word, at, at_word, peek_mark, advance}
use Rattle.ioa_cursor.proofs.Steps.{read_next, stays}
use Rattle.ioa_cursor.proofs.Follow.{at_unlike, skip_same, skip_other, separated_starts, optional_starts}
use Rattle.ioa_cursor.proofs.CompleteLists.{separated_complete, ended_complete, gathered_several_complete, section_complete, optional_complete}
use Rattle.ioa_term_reader.specs.Grammar.{bracket_limit, SpellsTerm}
use Rattle.ioa_term_reader.specs.Reading.{term}
use Rattle.ioa_term_reader.proofs.Begins.{term_begins, not_mark_first}
use Rattle.ioa_term_reader.proofs.Shorter.{term_shorter}
use Rattle.ioa_term_reader.proofs.CompleteTerms.{term_complete}
use Rattle.ioa_part_reader.specs.Grammar as grammar
use Rattle.ioa_part_reader.specs.Grammar.{inner_limit, InBrackets, SpellsParameters, SpellsCall, SpellsKind, SpellsEntry, SpellsGroup}
use Rattle.ioa_part_reader.specs.Reading as reading
use Rattle.ioa_part_reader.specs.Reading.{kind_first, at_kind}
use Rattle.ioa_part_reader.proofs.Closing.{Below, level, closes, at_below, at_word_below, at_kind_below}
use Rattle.ioa_part_reader.proofs.Shorter.{call_shorter, entry_shorter, group_shorter}
use Rattle.ioa_part_reader.proofs.CompleteSorts.{all_parameters_complete, all_parameters_not_close}

-- trees of their parts

abbrev call_with : List ℕ → List Term → Call
call_with w ts = record { name = w; arguments = ts }

abbrev entry_with : Kind → List ℕ → List Parameter → Option Term → Entry
entry_with k w ps c = record { kind = k; name = w; parameters = ps; condition = c }

-- terms whose brackets may be open all

pub whole_term : (t : Term) (xs ys : List Token) → SpellsTerm bracket_limit t xs ys → level ys < 14 → term bracket_limit xs ≡ read_next t ys
whole_term t xs ys d h = term_complete bracket_limit t xs ys d (omega arith) (closes ys h)

pub inner_term : (t : Term) (xs ys : List Token) → SpellsTerm inner_limit t xs ys → level ys < 14 → term inner_limit xs ≡ read_next t ys
inner_term t xs ys d h = term_complete inner_limit t xs ys d (omega arith) (closes ys h)

-- brackets

module _ {A : Type 0} (X : List A → List Token → List Token → Type 0) (read : List Token → Option (List A × List Token)) where
  none_bracketed : (xs : List Token) → skip mark.OpenRound xs ≡ stays false xs → reading.in_brackets read xs ≡ read_next [] xs
  unfolding choose
  none_bracketed xs e = rw e refl

  empty_bracketed : (xs : List Token) → reading.in_brackets read (token.Mark mark.OpenRound ∷ token.Mark mark.CloseRound ∷ xs) ≡ read_next [] xs
  unfolding skip choose
  empty_bracketed xs = refl

  some_bracketed : (items : List A) (xs ys : List Token) → skip mark.CloseRound xs ≡ stays false xs → read xs ≡ read_next items (token.Mark mark.CloseRound ∷ ys) →
      reading.in_brackets read (token.Mark mark.OpenRound ∷ xs) ≡ read_next items ys
  unfolding expect bind choose
  some_bracketed items xs ys e f = rw (skip_same mark.OpenRound xs) (rw e (rw f (rw (skip_same mark.CloseRound ys) refl)))

  bracketed_complete : ((items : List A) (xs ys : List Token) → X items xs ys → level ys < 11 → read xs ≡ read_next items ys) →
      ((items : List A) (xs ys : List Token) → X items xs ys → at mark.CloseRound xs ≡ false) →
      (items : List A) (xs ys : List Token) → InBrackets X items xs ys → at mark.OpenRound ys ≡ false → reading.in_brackets read xs ≡ read_next items ys
  bracketed_complete complete starts _ _ ys grammar.bare h = none_bracketed ys (skip_other mark.OpenRound ys h)
  bracketed_complete complete starts _ _ ys grammar.hollow h = empty_bracketed ys
  bracketed_complete complete starts items _ ys (grammar.filled {xs = xs} d) h =
      some_bracketed items xs ys (skip_other mark.CloseRound xs (starts items xs _ d)) (complete items xs _ d (omega arith))

-- calls

term_not_close : (t : Term) (xs ys : List Token) → SpellsTerm inner_limit t xs ys → at mark.CloseRound xs ≡ false
term_not_close t xs ys d = at_unlike mark.CloseRound xs (not_mark_first mark.CloseRound refl xs (term_begins d))

terms_not_close : (ts : List Term) (xs ys : List Token) → SeparatedBy mark.Comma (SpellsTerm inner_limit) ts xs ys → at mark.CloseRound xs ≡ false
terms_not_close ts xs ys d = separated_starts (λ xs. at mark.CloseRound xs ≡ false) (SpellsTerm inner_limit) term_not_close d

terms_complete : (ts : List Term) (xs ys : List Token) → SeparatedBy mark.Comma (SpellsTerm inner_limit) ts xs ys → level ys < 11 → reading.terms xs ≡ read_next ts ys
unfolding reading.terms
terms_complete ts xs ys d h =
    separated_complete (Below 14) (SpellsTerm inner_limit) (term inner_limit) inner_term (term_shorter inner_limit) mark.Comma (λ zs. omega arith) ts xs ys d (omega arith) (at_below mark.Comma ys h)

arguments_complete : (ts : List Term) (xs ys : List Token) → InBrackets (SeparatedBy mark.Comma (SpellsTerm inner_limit)) ts xs ys → level ys < 14 → reading.arguments xs ≡ read_next ts ys
unfolding reading.arguments
arguments_complete ts xs ys d h =
    bracketed_complete (SeparatedBy mark.Comma (SpellsTerm inner_limit)) reading.terms terms_complete terms_not_close ts xs ys d (at_below mark.OpenRound ys h)

call_read : (w : List ℕ) (ts : List Term) (xs ys : List Token) → reading.arguments xs ≡ read_next ts ys → reading.call (token.Word w ∷ xs) ≡ read_next (call_with w ts) ys
unfolding reading.call word bind
call_read w ts xs ys e = rw e refl

pub call_complete : (c : Call) (xs ys : List Token) → SpellsCall c xs ys → level ys < 14 → reading.call xs ≡ read_next c ys
call_complete _ _ ys (grammar.called {w = w} {ts = ts} {xs = xs} d) h = call_read w ts xs ys (arguments_complete ts xs ys d h)

pub calls_complete : (cs : List Call) (xs ys : List Token) → SeparatedBy mark.Comma SpellsCall cs xs ys → level ys < 11 → reading.calls xs ≡ read_next cs ys
unfolding reading.calls
calls_complete cs xs ys d h =
    separated_complete (Below 14) SpellsCall reading.call call_complete call_shorter mark.Comma (λ zs. omega arith) cs xs ys d (omega arith) (at_below mark.Comma ys h)

-- kinds

pub kind_complete : (k : Kind) (xs ys : List Token) → SpellsKind k xs ys → reading.kind xs ≡ read_next k ys
unfolding reading.kind kind_first peek_mark advance bind
kind_complete _ _ _ grammar.input = refl
kind_complete _ _ _ grammar.output = refl
kind_complete _ _ _ grammar.internal = refl

pub kind_begins : (k : Kind) (xs ys : List Token) → SpellsKind k xs ys → at_kind xs ≡ true
unfolding at_kind kind_first peek_mark bind
kind_begins _ _ _ grammar.input = refl
kind_begins _ _ _ grammar.output = refl
kind_begins _ _ _ grammar.internal = refl

pub kind_level : (k : Kind) (xs ys : List Token) → SpellsKind k xs ys → level xs < 9
kind_level _ _ _ grammar.input = omega arith
kind_level _ _ _ grammar.output = omega arith
kind_level _ _ _ grammar.internal = omega arith

-- signatures

entry_parameters_complete : (ps : List Parameter) (xs ys : List Token) → InBrackets (ListsSeparatedBy mark.Comma (SpellsParameters inner_limit)) ps xs ys → level ys < 14 →
    reading.entry_parameters xs ≡ read_next ps ys
unfolding reading.entry_parameters
entry_parameters_complete ps xs ys d h =
    bracketed_complete (ListsSeparatedBy mark.Comma (SpellsParameters inner_limit)) (reading.parameters inner_limit) (all_parameters_complete inner_limit (omega arith)) (all_parameters_not_close inner_limit)
    ps xs ys d (at_below mark.OpenRound ys h)

condition_complete : (c : Option Term) (xs ys : List Token) → Optional mark.Where (SpellsTerm bracket_limit) c xs ys → level ys < 12 → reading.condition xs ≡ read_next c ys
unfolding reading.condition
condition_complete c xs ys d h =
    optional_complete (Below 14) (SpellsTerm bracket_limit) (term bracket_limit) whole_term mark.Where c xs ys d (omega arith) (at_below mark.Where ys h)

entry_read : (k : Kind) (w : List ℕ) (ps : List Parameter) (c : Option Term) (xs ys zs : List Token) → reading.entry_parameters xs ≡ read_next ps ys → reading.condition ys ≡ read_next c zs →
    reading.entry k (token.Word w ∷ xs) ≡ read_next (entry_with k w ps c) zs
unfolding reading.entry word bind
entry_read k w ps c xs ys zs e f = rw e (rw f refl)

entry_complete : (k : Kind) (x : Entry) (xs ys : List Token) → SpellsEntry k x xs ys → level ys < 12 → reading.entry k xs ≡ read_next x ys
entry_complete k _ _ zs (grammar.entry {w = w} {parameters = ps} {condition = c} {xs = xs} {ys = ys} pd cd) h =
    let low = optional_starts (Below 14) mark.Where (SpellsTerm bracket_limit) (λ us. omega arith) c ys zs cd (omega arith) in
    entry_read k w ps c xs ys zs (entry_parameters_complete ps xs ys pd low) (condition_complete c ys zs cd h)

entry_first : (k : Kind) (x : Entry) (xs ys : List Token) → SpellsEntry k x xs ys → at_word xs ≡ true
unfolding at_word
entry_first k _ _ _ (grammar.entry pd cd) = refl

entries_complete : (k : Kind) (es : List Entry) (xs ys : List Token) → SeparatedOrEndedBy mark.Comma (SpellsEntry k) es xs ys → level ys < 11 → reading.entries k xs ≡ read_next es ys
unfolding reading.entries
entries_complete k es xs ys d h =
    ended_complete (Below 12) (SpellsEntry k) (reading.entry k) (entry_complete k) (entry_shorter k) mark.Comma at_word (entry_first k) (λ zs. omega arith) es xs ys d (omega arith)
    (at_below mark.Comma ys h) (at_word_below ys h)

group_read : (k : Kind) (es : List Entry) (xs ys zs : List Token) → reading.kind xs ≡ read_next k ys → reading.entries k ys ≡ read_next es zs → reading.group xs ≡ read_next es zs
unfolding reading.group bind
group_read k es xs ys zs e f = rw e f

group_complete : (es : List Entry) (xs ys : List Token) → SpellsGroup es xs ys → level ys < 11 → reading.group xs ≡ read_next es ys
group_complete es xs zs (grammar.group {k = k} {ys = ys} kd ed) h = group_read k es xs ys zs (kind_complete k xs ys kd) (entries_complete k es ys zs ed h)

group_begins : (es : List Entry) (xs ys : List Token) → SpellsGroup es xs ys → at_kind xs ≡ true
group_begins _ _ _ (grammar.group kd ed) = kind_begins _ _ _ kd

group_level : (es : List Entry) (xs ys : List Token) → SpellsGroup es xs ys → level xs < 11
group_level _ _ _ (grammar.group kd ed) = let low = kind_level _ _ _ kd in omega arith

groups_complete : (es : List Entry) (xs ys : List Token) → SeveralLists SpellsGroup es xs ys → level ys < 8 → reading.groups xs ≡ read_next es ys
unfolding reading.groups
groups_complete es xs ys d h =
    gathered_several_complete (Below 11) SpellsGroup reading.group group_complete group_shorter at_kind group_begins group_level es xs ys d (omega arith) (at_kind_below ys h)

pub signature_complete : (es : List Entry) (xs ys : List Token) → Section mark.Signature (SeveralLists SpellsGroup) es xs ys → level ys < 7 → reading.signature_part xs ≡ read_next es ys
unfolding reading.signature_part
signature_complete es xs ys d h = section_complete (Below 8) (SeveralLists SpellsGroup) reading.groups groups_complete mark.Signature es xs ys d (omega arith) (at_below mark.Signature ys h)
