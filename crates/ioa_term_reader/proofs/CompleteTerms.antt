-- A term is read as it is spelled, where it is within the limits and what comes behind it goes on with no term.
use Rattle.std.proofs.Common.{◌≡◌, ℕ, zero, suc, ◌+◌, ◌<◌, ◌≤◌, true, false, List, [], ◌∷◌, ◌++◌, length, Option, Some, refl, ap, ◌∙◌, arith}
use Rattle.std.proofs.lemmas.List.{append_assoc, append-nil}
use Rattle.ioa_tokens.specs.declared.token.Token.{Token}
use Rattle.ioa_tokens.specs.declared.token.Token.TheVariants as token
use Rattle.ioa_tokens.specs.declared.mark.Mark.{Mark}
use Rattle.ioa_tokens.specs.declared.mark.Mark.TheVariants as mark
use Rattle.ioa_operators.specs.declared.operator.BinaryOperator.TheVariants.{At}
use Rattle.ioa_operators.specs.declared.shape.DisplayForm.{DisplayForm}
use Rattle.ioa_operators.specs.declared.shape.DisplayForm.TheVariants.{Braces, Brackets}
use Rattle.ioa_terms.specs.declared.name.Name.TheVariants.{Word, Variable, Queue}
use Rattle.ioa_terms.specs.PlainTerm as plain
use Rattle.ioa_terms.specs.PlainTerm.{no_terms, terms_of}
use Rattle.ioa_source.specs.Sides.{SourceTerm, SourceTerms}
use Rattle.ioa_cursor.specs.Reading.{bind, choose, skip, collect}
use Rattle.ioa_tokens.specs.Tables.{same_mark}
use Rattle.ioa_cursor.proofs.Steps.{stays, read_next}
use Rattle.ioa_cursor.proofs.Follow.{skip_same}
use Rattle.ioa_source.specs.Heights.{height, heights, height_limit}
use Rattle.ioa_term_reader.specs.Levels.{prefix_level, level, left_level, right_level, postfix_level, atom_level}
use Rattle.ioa_term_reader.specs.Grammar as grammar
use Rattle.ioa_term_reader.specs.Grammar.{SpellsAt, SpellsTerms, SpellsTerm, bracket_limit, called}
use Rattle.ioa_term_reader.specs.Reading.{limited_term, term_at_level, after_of, level_of, left_of, terms_in, operand, extended_term, climb, read, term, depth_limit}
use Rattle.ioa_term_reader.specs.declared.after.After.{After}
use Rattle.ioa_term_reader.specs.declared.after.After.TheVariants.{Infix, Field, Key}
use Rattle.ioa_term_reader.proofs.Closing.{binds, mark_binds, binds_infix, Closes, left_level_above, right_level_above, ends_right, ends_prefix, ends_whole}
use Rattle.ioa_term_reader.proofs.Called.{called_height}
use Rattle.ioa_term_reader.proofs.Shorter.{at_shorter}
use Rattle.ioa_term_reader.proofs.Begins.{terms_begin, skip_at_term}
use Rattle.ioa_term_reader.proofs.CompleteSteps.{limited_low, accepted_next, after_infix, climb_stops, climb_same, climb_more, grown_infix, grown_field, grown_key, operand_number, operand_truth, operand_falsity, operand_prefix, operand_word, operand_at_node, operand_call, operand_brackets, operand_empty, operand_fields, operand_braces, read_operand}

-- where the reader is once it has read the term `t` of level `most`, in a number of turns that are left
record Reached (depth room least most : ℕ) (t : SourceTerm) (xs ys : List Token) : Type 0 where
  turns : ℕ
  enough : height_limit < turns + height t
  is : read (suc depth) room least xs ≡ climb (read depth) turns room least most t ys

pub height_positive : (t : SourceTerm) → 1 ≤ height t
height_positive (plain.number n) = omega arith
height_positive (plain.truth b) = omega arith
height_positive (plain.name (Word w) at) = omega arith
height_positive (plain.name (Variable w k) at) = omega arith
height_positive (plain.name (Queue i j) at) = omega arith
height_positive (plain.one op t) = omega arith
height_positive (plain.two op t u) = omega arith
height_positive (plain.call w c ts) = omega arith
height_positive (plain.display form shape ts) = omega arith
height_positive (plain.field t w shape) = omega arith

-- an operand was read, and no turn is taken yet
from_operand : (depth room least most : ℕ) (t : SourceTerm) (xs ys : List Token) → operand (read depth) room least xs ≡ term_at_level most t ys → Reached depth room least most t xs ys
from_operand depth room least most t xs ys e =
    let p = height_positive t in
    record { turns = height_limit; enough = omega arith; is = read_operand depth room least most t xs ys e }

-- a term of a level is one of a looser level too, if what comes behind it goes on at that one
loosened : (depth room least most other : ℕ) (t : SourceTerm) (xs ys : List Token) → binds ys ≤ most → binds ys ≤ other →
    Reached depth room least most t xs ys → Reached depth room least other t xs ys
loosened depth room least most other t xs ys h k r =
    record { turns = r.turns; enough = r.enough; is = r.is ∙ climb_same (read depth) r.turns room least most other t ys h k }

more_turns : (depth room turns least most : ℕ) (m : Mark) (a : After) (t u : SourceTerm) (xs ys zs : List Token) → after_of m ≡ Some a → least ≤ level_of a → left_of a ≤ most →
    extended_term (read depth) room t a ys ≡ read_next u zs → height t < height u → height u ≤ height_limit → height_limit < turns + height t →
    read (suc depth) room least xs ≡ climb (read depth) turns room least most t (token.Mark m ∷ ys) → Reached depth room least (level_of a) u xs zs
more_turns depth room zero least most m a t u xs ys zs is h k g low high enough e = absurd (omega arith)
more_turns depth room (suc turns) least most m a t u xs ys zs is h k g low high enough e =
    record { turns = turns; enough = omega arith; is = e ∙ climb_more (read depth) turns room least most m a t u ys zs (accepted_next least most m a ys is h k) g }

-- a term goes on by one turn
onward : (depth room least most : ℕ) (m : Mark) (a : After) (t u : SourceTerm) (xs ys zs : List Token) → after_of m ≡ Some a → least ≤ level_of a → left_of a ≤ most →
    extended_term (read depth) room t a ys ≡ read_next u zs → height t < height u → height u ≤ height_limit → Reached depth room least most t xs (token.Mark m ∷ ys) → Reached depth room least (level_of a) u xs zs
onward depth room least most m a t u xs ys zs is h k g low high r = more_turns depth room r.turns least most m a t u xs ys zs is h k g low high r.enough r.is

-- a term is read whole where nothing goes on with it
whole : (depth room least most end : ℕ) (t : SourceTerm) (xs ys : List Token) → 1 ≤ depth → binds ys ≤ end → ((a : After) → left_of a ≤ end → level_of a < least) →
    ((less : ℕ) → depth ≡ suc less → Reached less room least most t xs ys) → read depth room least xs ≡ read_next t ys
whole zero room least most end t xs ys d h ends k = absurd (omega arith)
whole (suc depth) room least most end t xs ys d h ends k = let r = k depth refl in r.is ∙ climb_stops (read depth) r.turns room least most end t ys h ends

-- terms are read one after another
record ReadAll (depth room : ℕ) (ts : SourceTerms) (xs ys : List Token) : Type 0 where
  first : SourceTerm
  others : List SourceTerm
  same : terms_of (first ∷ others) ≡ ts
  middle : List Token
  less : length middle < length xs
  head : read depth room 1 xs ≡ read_next first middle
  tail : (turns : ℕ) (done : List SourceTerm) → length middle ≤ turns → collect (skip mark.Comma) (read depth room 1) turns done middle ≡ read_next (done ++ others) ys

collected_end : (next : List Token → Option (SourceTerm × List Token)) (turns : ℕ) (done : List SourceTerm) (ys : List Token) → skip mark.Comma ys ≡ stays false ys →
    collect (skip mark.Comma) next turns done ys ≡ read_next (done ++ []) ys
unfolding collect choose
collected_end next zero done ys e = rw (append-nil done) refl
collected_end next (suc turns) done ys e = rw (append-nil done) (rw e refl)

collected_more : (next : List Token → Option (SourceTerm × List Token)) (turns : ℕ) (done : List SourceTerm) (t : SourceTerm) (more : List SourceTerm) (ys zs end : List Token) →
    length (token.Mark mark.Comma ∷ ys) ≤ turns → length zs < length ys → next ys ≡ read_next t zs →
    ((turns : ℕ) (done : List SourceTerm) → length zs ≤ turns → collect (skip mark.Comma) next turns done zs ≡ read_next (done ++ more) end) →
    collect (skip mark.Comma) next turns done (token.Mark mark.Comma ∷ ys) ≡ read_next (done ++ (t ∷ more)) end
unfolding collect bind choose
collected_more next zero done t more ys zs end h s e k = absurd (omega arith)
collected_more next (suc turns) done t more ys zs end h s e k =
    rw (skip_same mark.Comma ys) (rw e (k turns (done ++ t ∷ []) (omega arith) ∙ ap (λ all. read_next all end) (append_assoc done (t ∷ []) more)))

read_one : (depth room : ℕ) (t : SourceTerm) (xs ys : List Token) → length ys < length xs → skip mark.Comma ys ≡ stays false ys → read depth room 1 xs ≡ read_next t ys →
    ReadAll depth room (plain.term t no_terms) xs ys
read_one depth room t xs ys s c e = record {
  first = t;
  others = [];
  same = refl;
  middle = ys;
  less = s;
  head = e;
  tail = λ turns done h. collected_end (read depth room 1) turns done ys c;
}

read_more : (depth room : ℕ) (t : SourceTerm) (ts : SourceTerms) (xs ys zs : List Token) → length (token.Mark mark.Comma ∷ ys) < length xs →
    read depth room 1 xs ≡ read_next t (token.Mark mark.Comma ∷ ys) → ReadAll depth room ts ys zs → ReadAll depth room (plain.term t ts) xs zs
read_more depth room t ts xs ys zs s e r = record {
  first = t;
  others = r.first ∷ r.others;
  same = ap (λ us. plain.term t us) r.same;
  middle = token.Mark mark.Comma ∷ ys;
  less = s;
  head = e;
  tail = λ turns done h. collected_more (read depth room 1) turns done r.first r.others ys r.middle zs h r.less r.head r.tail;
}

terms_read : (depth room : ℕ) (ts : SourceTerms) (xs ys : List Token) (r : ReadAll depth room ts xs ys) → terms_in (read depth) room xs ≡ read_next (r.first ∷ r.others) ys
unfolding terms_in bind
terms_read depth room ts xs ys r = rw r.head (r.tail (length r.middle) (r.first ∷ []) (omega arith))

limited_call : (w : List ℕ) (ts : SourceTerms) (us : List SourceTerm) → terms_of us ≡ ts → height (called w ts) ≤ height_limit →
    limited_term (called w (terms_of us)) ≡ Some (called w ts)
limited_call w ts us same h = rw same (limited_low (called w ts) h)

limited_display : (form : DisplayForm) (ts : SourceTerms) (us : List SourceTerm) → terms_of us ≡ ts → height (plain.display form tt ts) ≤ height_limit →
    limited_term (plain.display form tt (terms_of us)) ≡ Some (plain.display form tt ts)
limited_display form ts us same h = rw same (limited_low (plain.display form tt ts) h)

-- what comes behind a word opens no call
mark_not_opened : (m : Mark) (xs : List Token) → mark_binds m ≤ atom_level → skip mark.OpenRound (token.Mark m ∷ xs) ≡ stays false (token.Mark m ∷ xs)
unfolding skip
mark_not_opened mark.OpenRound xs h = absurd (omega arith)
mark_not_opened _ xs h = refl

not_opened : (xs : List Token) → binds xs ≤ atom_level → skip mark.OpenRound xs ≡ stays false xs
unfolding skip
not_opened (token.Mark m ∷ xs) h = mark_not_opened m xs h
not_opened (token.Word w ∷ xs) h = refl
not_opened (token.Number n ∷ xs) h = refl
not_opened (token.LeftOut w ∷ xs) h = refl
not_opened [] h = refl

-- nor does it name a node
mark_not_at : (m : Mark) (xs : List Token) → mark_binds m ≤ atom_level → skip mark.AtSign (token.Mark m ∷ xs) ≡ stays false (token.Mark m ∷ xs)
unfolding skip
mark_not_at mark.AtSign xs h = absurd (omega arith)
mark_not_at _ xs h = refl

not_at : (xs : List Token) → binds xs ≤ atom_level → skip mark.AtSign xs ≡ stays false xs
unfolding skip
not_at (token.Mark m ∷ xs) h = mark_not_at m xs h
not_at (token.Word w ∷ xs) h = refl
not_at (token.Number n ∷ xs) h = refl
not_at (token.LeftOut w ∷ xs) h = refl
not_at [] h = refl

-- a closing bracket is no comma
no_comma : (m : Mark) (ys : List Token) → same_mark m mark.Comma ≡ false → skip mark.Comma (token.Mark m ∷ ys) ≡ stays false (token.Mark m ∷ ys)
unfolding skip
no_comma m ys e = rw e refl

mutual
  -- the reader comes to the end of a term of a level, and may go on from there
  reach : {room l : ℕ} {t : SourceTerm} {xs ys : List Token} → SpellsAt room l t xs ys → (depth least : ℕ) → least ≤ l → height t ≤ height_limit → binds ys ≤ l →
      height t + room ≤ suc depth → Reached depth room least l t xs ys
  reach (grammar.numeral {room = room} {n = n} {ys = ys}) depth least h high b deep = from_operand depth room least atom_level (plain.number n) _ ys (operand_number (read depth) room least n ys)
  reach (grammar.yes {room = room} {ys = ys}) depth least h high b deep = from_operand depth room least atom_level (plain.truth true) _ ys (operand_truth (read depth) room least ys)
  reach (grammar.no {room = room} {ys = ys}) depth least h high b deep = from_operand depth room least atom_level (plain.truth false) _ ys (operand_falsity (read depth) room least ys)
  reach (grammar.word {room = room} {w = w} {ys = ys}) depth least h high b deep =
      from_operand depth room least atom_level (plain.name (Word w) tt) _ ys (operand_word (read depth) room least w ys (not_opened ys b) (not_at ys b))
  reach (grammar.at_node {room = room} {w = w} {k = k} {ys = ys}) depth least h high b deep =
      from_operand depth room least atom_level (plain.name (Variable w k) tt) _ ys (operand_at_node (read depth) room least w k ys)
  reach (grammar.call {room = room} {w = w} {ts = ts} {xs = xs} {ys = ys} d) depth least h high b deep =
      let tall = called_height w ts in
      let r = reach_all d depth (omega arith) (omega arith) (omega arith) (no_comma mark.CloseRound ys refl) in
      from_operand depth (suc room) least atom_level (called w ts) _ ys
      (operand_call (read depth) room least w (r.first ∷ r.others) (called w ts) xs ys (terms_read depth room ts xs _ r) (limited_call w ts (r.first ∷ r.others) r.same high))
  reach (grammar.brackets {room = room} {t = t} {xs = xs} {ys = ys} d) depth least h high b deep =
      let p = height_positive t in
      from_operand depth (suc room) least atom_level t _ ys
      (operand_brackets (read depth) room least t xs ys
      (whole depth room 1 1 0 t xs _ (omega arith) (omega arith) ends_whole (λ less same. reach d less 1 (omega arith) high (omega arith) (omega arith))))
  reach (grammar.empty {room = room} {ys = ys}) depth least h high b deep =
      from_operand depth (suc room) least atom_level (plain.display Braces tt no_terms) _ ys (operand_empty (read depth) room least ys)
  reach (grammar.braces {room = room} {ts = ts} {xs = xs} {ys = ys} d) depth least h high b deep =
      let r = reach_all d depth (omega arith) (omega arith) (omega arith) (no_comma mark.CloseBrace ys refl) in
      from_operand depth (suc room) least atom_level (plain.display Braces tt ts) _ ys
      (operand_braces (read depth) room least (r.first ∷ r.others) (plain.display Braces tt ts) xs ys (skip_at_term mark.CloseBrace refl xs (terms_begin d)) (terms_read depth room ts xs _ r)
      (limited_display Braces ts (r.first ∷ r.others) r.same high))
  reach (grammar.fields {room = room} {ts = ts} {xs = xs} {ys = ys} d) depth least h high b deep =
      let r = reach_all d depth (omega arith) (omega arith) (omega arith) (no_comma mark.CloseSquare ys refl) in
      from_operand depth (suc room) least atom_level (plain.display Brackets tt ts) _ ys
      (operand_fields (read depth) room least (r.first ∷ r.others) (plain.display Brackets tt ts) xs ys (terms_read depth room ts xs _ r)
      (limited_display Brackets ts (r.first ∷ r.others) r.same high))
  reach (grammar.field {room = room} {t = t} {w = w} {xs = xs} {ys = ys} d) depth least h high b deep =
      onward depth room least postfix_level mark.Dot Field t (plain.field t w tt) xs (token.Word w ∷ ys) ys refl h (omega arith) (grown_field (read depth) room t w ys high) (omega arith) high
      (reach d depth least h (omega arith) (omega arith) (omega arith))
  reach (grammar.key {room = room} {t = t} {u = u} {xs = xs} {ys = ys} {zs = zs} d e) depth least h high b deep =
      let p = height_positive u in
      onward depth (suc room) least postfix_level mark.OpenSquare Key t (plain.two At t u) xs ys zs refl h (omega arith)
      (grown_key (read depth) room t u ys zs
      (whole depth room 1 1 0 u ys _ (omega arith) (omega arith) ends_whole (λ less same. reach e less 1 (omega arith) (omega arith) (omega arith) (omega arith))) high)
      (omega arith) high (reach d depth least h (omega arith) (omega arith) (omega arith))
  reach (grammar.before {room = room} {t = t} {xs = xs} {ys = ys} m op is d) depth least h high b deep =
      let p = height_positive t in
      from_operand depth room least (prefix_level op) (plain.one op t) _ ys
      (operand_prefix (read depth) room least m op t xs ys is h
      (whole depth room (prefix_level op) (prefix_level op) (prefix_level op) t xs ys (omega arith) b (ends_prefix op)
      (λ less same. reach d less (prefix_level op) (omega arith) (omega arith) b (omega arith))) high)
  reach (grammar.between {room = room} {t = t} {u = u} {xs = xs} {ys = ys} {zs = zs} m op is d e) depth least h high b deep =
      let p = height_positive u in
      let left = left_level_above op in
      let right = right_level_above op in
      let bound = binds_infix m op is in
      onward depth room least (left_level op) m (Infix op) t (plain.two op t u) xs ys zs (after_infix m op is) h (omega arith)
      (grown_infix (read depth) room op t u ys zs
      (whole depth room (right_level op) (right_level op) (level op) u ys zs (omega arith) b (ends_right op)
      (λ less same. reach e less (right_level op) (omega arith) (omega arith) (omega arith) (omega arith))) high)
      (omega arith) high (reach d depth least (omega arith) (omega arith) (omega arith) (omega arith))
  reach (grammar.tighter {room = room} {l = l} {t = t} {xs = xs} {ys = ys} d) depth least h high b deep =
      loosened depth room least (suc l) l t xs ys (omega arith) b (reach d depth least (omega arith) high (omega arith) deep)

  reach_all : {room : ℕ} {ts : SourceTerms} {xs ys : List Token} → SpellsTerms room ts xs ys → (depth : ℕ) → heights ts ≤ height_limit → heights ts + room ≤ depth → binds ys ≤ 0 →
      skip mark.Comma ys ≡ stays false ys → ReadAll depth room ts xs ys
  reach_all (grammar.single {room = room} {t = t} {xs = xs} {ys = ys} d) depth high deep b c =
      let p = height_positive t in
      read_one depth room t xs ys (at_shorter d) c
      (whole depth room 1 1 0 t xs ys (omega arith) b ends_whole (λ less same. reach d less 1 (omega arith) (omega arith) (omega arith) (omega arith)))
  reach_all (grammar.followed {room = room} {t = t} {ts = ts} {xs = xs} {ys = ys} {zs = zs} d rest) depth high deep b c =
      let p = height_positive t in
      read_more depth room t ts xs ys zs (at_shorter d)
      (whole depth room 1 1 0 t xs _ (omega arith) (omega arith) ends_whole (λ less same. reach d less 1 (omega arith) (omega arith) (omega arith) (omega arith)))
      (reach_all rest depth (omega arith) (omega arith) b c)

-- a term within the limits is read as it is spelled
pub term_complete : (room : ℕ) (t : SourceTerm) (xs ys : List Token) → SpellsTerm room t xs ys → room ≤ bracket_limit → Closes ys → term room xs ≡ read_next t ys
unfolding term
term_complete room t xs ys d h closes =
    let low = d.low in
    whole depth_limit room 1 1 0 t xs ys (omega arith) (omega arith) ends_whole (λ less same. reach d.spelled less 1 (omega arith) d.low (omega arith) (omega arith))
