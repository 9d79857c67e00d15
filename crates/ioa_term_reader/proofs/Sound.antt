-- What is read of a term is spelled.
use Rattle.std.proofs.Common.{◌≡◌, ◌≢◌, ℕ, zero, suc, ◌+◌, ◌-◌, ◌≤◌, Bool, true, false, nat_le, nat_eq, List, ◌∷◌, Option, Some, None, if◌then◌else◌, refl, arith}
use Rattle.std.specs.Option.{option_map}
use Rattle.std.proofs.lemmas.Bool.Decides.{nat_tests}
use Rattle.ioa_tokens.specs.declared.token.Token.{Token}
use Rattle.ioa_tokens.specs.declared.token.Token.TheVariants as token
use Rattle.ioa_tokens.specs.declared.mark.Mark.{Mark}
use Rattle.ioa_tokens.specs.declared.mark.Mark.TheVariants as mark
use Rattle.ioa_operators.specs.declared.operator.UnaryOperator.{UnaryOperator}
use Rattle.ioa_operators.specs.declared.operator.UnaryOperator.TheVariants.{Not, Negative}
use Rattle.ioa_operators.specs.declared.operator.BinaryOperator.{BinaryOperator}
use Rattle.ioa_operators.specs.declared.operator.BinaryOperator.TheVariants as operator
use Rattle.ioa_operators.specs.declared.shape.DisplayForm.{DisplayForm}
use Rattle.ioa_operators.specs.declared.shape.DisplayForm.TheVariants.{Braces, Brackets}
use Rattle.ioa_terms.specs.PlainTerm as plain
use Rattle.ioa_terms.specs.PlainTerm.{terms_of}
use Rattle.ioa_source.specs.Sides.{SourceTerm, SourceTerms}
use Rattle.ioa_cursor.specs.Lists.{SeparatedBy}
use Rattle.ioa_cursor.specs.Lists as lists
use Rattle.ioa_cursor.specs.Reading.{choose, skip, advance}
use Rattle.ioa_cursor.proofs.Steps.{read_next, choose_cases, bind_cases, skip_taken, skip_left, expected_taken, word_taken, number_taken, peek_mark_taken}
use Rattle.ioa_cursor.proofs.SoundLists.{separated_sound}
use Rattle.ioa_term_reader.specs.Grammar as grammar
use Rattle.ioa_term_reader.specs.Grammar.{SpellsAt, SpellsTerms, SpellsTerm}
use Rattle.ioa_source.specs.Heights.{height, height_limit}
use Rattle.ioa_term_reader.specs.Levels.{prefix_level, prefix_of, infix_of, level, right_level, postfix_level, atom_level}
use Rattle.ioa_term_reader.specs.Reading.{limited_term, TermAtLevel, after_of, level_of, left_of, accepted_after, terms_in, bracketed_term, display_term, braced_term, call_term, name_term, word_term, prefixed_term, operator_term, marked_term, operand, extended_term, climb, read, depth_limit, term}
use Rattle.ioa_term_reader.specs.declared.after.After.{After}
use Rattle.ioa_term_reader.specs.declared.after.After.TheVariants.{Infix, Field, Key}
use Rattle.std.proofs.lemmas.Bool.{and_parts}

-- a term that is spelled at a level, and not too high
abbrev pub Good : ℕ → ℕ → SourceTerm → List Token → List Token → Type 0
Good room l t xs ys = SpellsAt room l t xs ys × (height t ≤ height_limit)

-- a term that is spelled at the level that was reached, which is as tight as the least that may be there
abbrev Operand : ℕ → ℕ → List Token → TermAtLevel → Type 0
Operand room least xs o = Good room o.0.0 o.0.1 xs o.1 × (least ≤ o.0.0)

looser_by : (steps l m : ℕ) {room : ℕ} {t : SourceTerm} {xs ys : List Token} → m ≡ steps + l → SpellsAt room m t xs ys → SpellsAt room l t xs ys
looser_by zero l m e d = let same : m ≡ l = omega arith in rw same at d
looser_by (suc steps) l m e d = grammar.tighter (looser_by steps (suc l) m (omega arith) d)

-- what a level spells, each looser one spells too
pub looser : {l m room : ℕ} {t : SourceTerm} {xs ys : List Token} → l ≤ m → SpellsAt room m t xs ys → SpellsAt room l t xs ys
looser {l} {m} h d = looser_by (m - l) l m (omega arith) d

settled : {A : Type 0} (P : A → Type 0) {x y : A} → Some x ≡ Some y → P x → P y
settled P {x} {y} e p = let same : x ≡ y = cc in rw same at p

limited_if : (Q : SourceTerm → Type 0) (b : Bool) {t u : SourceTerm} → (b ≡ true → height t ≤ height_limit) → (if b then Some t else None) ≡ Some u → (height t ≤ height_limit → Q t) → Q u
limited_if Q true low e k = settled Q e (k (low refl))
limited_if Q false low e k = absurd cc

-- a tree that is kept is not too high
kept : (Q : SourceTerm → Type 0) {t u : SourceTerm} → limited_term t ≡ Some u → (height t ≤ height_limit → Q t) → Q u
unfolding limited_term
kept Q {t} e k = limited_if Q (nat_le (height t) height_limit) (λ low. grind (arith, nat_tests)) e k

some_room : (room : ℕ) → nat_eq room 0 ≡ false → room ≡ suc (room - 1)
some_room room e = grind (arith, nat_tests)

-- where a bracket is opened, there is room for it
opened : {A : Type 0} (Q : ℕ → Type 0) (room : ℕ) {x : Option A} {z : A} → choose (nat_eq room 0) None x ≡ Some z → (room ≡ suc (room - 1) → x ≡ Some z → Q (suc (room - 1))) → Q room
opened Q room e k = choose_cases (Q room) e (λ _ none. absurd cc) (λ some is. let has_room = some_room room some in rw has_room (k has_room is))

prefix_within : (op : UnaryOperator) → prefix_level op ≤ atom_level
prefix_within Not = omega arith
prefix_within Negative = omega arith

terms_from : {room : ℕ} {ts : List SourceTerm} {xs ys : List Token} → SeparatedBy mark.Comma (SpellsAt room 1) ts xs ys → SpellsTerms room (terms_of ts) xs ys
terms_from (lists.single d) = grammar.single d
terms_from (lists.followed d rest) = grammar.followed d (terms_from rest)

-- what reads the parts reads what is spelled
module _ (next : ℕ → ℕ → List Token → Option (SourceTerm × List Token))
    (sound : (room l : ℕ) (xs ys : List Token) (t : SourceTerm) → l ≤ atom_level → next room l xs ≡ read_next t ys → Good room l t xs ys) where
  terms_sound : (room : ℕ) (xs ys : List Token) (ts : List SourceTerm) → terms_in next room xs ≡ read_next ts ys → SpellsTerms room (terms_of ts) xs ys
  unfolding terms_in
  terms_sound room xs ys ts e =
      terms_from (separated_sound (SpellsAt room 1) (next room 1) (λ us vs t is. (sound room 1 us vs t (omega arith) is).0) mark.Comma xs ys ts e)

  module _ (least : ℕ) (within : least ≤ atom_level) where
    bracketed_sound : (room : ℕ) (xs : List Token) (o : TermAtLevel) → bracketed_term next room xs ≡ Some o → Operand room least (token.Mark mark.OpenRound ∷ xs) o
    unfolding bracketed_term
    bracketed_sound room xs o e =
        opened (λ r. Operand r least (token.Mark mark.OpenRound ∷ xs) o) room e (λ _ inner.
        let P : Type 0 = Operand (suc (room - 1)) least (token.Mark mark.OpenRound ∷ xs) o in
        bind_cases P inner (λ t t_is close. bind_cases P close (λ c c_is done.
        let s = sound (room - 1) 1 xs t.1 t.0 (omega arith) t_is in
        settled (Operand (suc (room - 1)) least (token.Mark mark.OpenRound ∷ xs)) done
        ((grammar.brackets (rw (expected_taken mark.CloseRound t.1 c c_is) at s.0), s.1), within))))

    displayed_sound : (form : DisplayForm) (close opening : Mark) →
        ((room : ℕ) (ts : SourceTerms) (xs ys : List Token) → SpellsTerms room ts xs (token.Mark close ∷ ys) → SpellsAt (suc room) atom_level (plain.display form tt ts) (token.Mark opening ∷ xs) ys) →
        (room : ℕ) (xs : List Token) (o : TermAtLevel) → display_term next form close room xs ≡ Some o → Operand room least (token.Mark opening ∷ xs) o
    unfolding display_term
    displayed_sound form close opening spelled room xs o e =
        opened (λ r. Operand r least (token.Mark opening ∷ xs) o) room e (λ _ inner.
        let P : Type 0 = Operand (suc (room - 1)) least (token.Mark opening ∷ xs) o in
        bind_cases P inner (λ ts ts_is closed. bind_cases P closed (λ c c_is high. bind_cases P high (λ t t_is done.
        let s = terms_sound (room - 1) xs ts.1 ts.0 ts_is in
        settled (Operand (suc (room - 1)) least (token.Mark opening ∷ xs)) done
        (kept (λ u. Good (suc (room - 1)) atom_level u (token.Mark opening ∷ xs) c.1) t_is (λ low. (spelled _ _ _ _ (rw (expected_taken close ts.1 c c_is) at s), low)), within)))))

    braced_sound : (room : ℕ) (xs : List Token) (o : TermAtLevel) → braced_term next room xs ≡ Some o → Operand room least (token.Mark mark.OpenBrace ∷ xs) o
    unfolding braced_term
    braced_sound room xs o e =
        let P : Type 0 = Operand room least (token.Mark mark.OpenBrace ∷ xs) o in
        choose_cases P e
        (λ _ none. absurd cc)
        (λ some inner.
        choose_cases P inner
        (λ closes done.
        rw (some_room room some, skip_taken mark.CloseBrace xs closes)
        (settled (Operand (suc (room - 1)) least (token.Mark mark.OpenBrace ∷ token.Mark mark.CloseBrace ∷ (skip mark.CloseBrace xs).1)) done
        ((grammar.empty, omega arith), within)))
        (λ goes_on is. displayed_sound Braces mark.CloseBrace mark.OpenBrace (λ r ts us vs d. grammar.braces d) room xs o (rw (skip_left mark.CloseBrace xs goes_on) at is)))

    called_sound : (room : ℕ) (w : List ℕ) (xs : List Token) (o : TermAtLevel) → call_term next room w xs ≡ Some o → Operand room least (token.Word w ∷ token.Mark mark.OpenRound ∷ xs) o
    unfolding call_term
    called_sound room w xs o e =
        let start : List Token = token.Word w ∷ token.Mark mark.OpenRound ∷ xs in
        opened (λ r. Operand r least start o) room e (λ _ inner.
        let P : Type 0 = Operand (suc (room - 1)) least start o in
        bind_cases P inner (λ ts ts_is closed. bind_cases P closed (λ c c_is high. bind_cases P high (λ t t_is done.
        let s = terms_sound (room - 1) xs ts.1 ts.0 ts_is in
        settled (Operand (suc (room - 1)) least start) done
        (kept (λ u. Good (suc (room - 1)) atom_level u start c.1) t_is (λ low. (grammar.call (rw (expected_taken mark.CloseRound ts.1 c c_is) at s), low)), within)))))

    named_sound : (room : ℕ) (w : List ℕ) (xs : List Token) (o : TermAtLevel) → name_term w xs ≡ Some o → Operand room least (token.Word w ∷ xs) o
    unfolding name_term
    named_sound room w xs o e =
        choose_cases (Operand room least (token.Word w ∷ xs) o) e
        (λ marked is.
        let P : Type 0 = Operand room least (token.Word w ∷ token.Mark mark.AtSign ∷ (skip mark.AtSign xs).1) o in
        rw (skip_taken mark.AtSign xs marked)
        (bind_cases P is (λ k k_is done.
        rw (number_taken (skip mark.AtSign xs).1 k k_is)
        (settled (Operand room least (token.Word w ∷ token.Mark mark.AtSign ∷ token.Number k.0 ∷ k.1)) done ((grammar.at_node, omega arith), within)))))
        (λ alone done. settled (Operand room least (token.Word w ∷ xs)) (rw (skip_left mark.AtSign xs alone) at done) ((grammar.word, omega arith), within))

    worded_sound : (room : ℕ) (w : List ℕ) (xs : List Token) (o : TermAtLevel) → word_term next room w xs ≡ Some o → Operand room least (token.Word w ∷ xs) o
    unfolding word_term
    worded_sound room w xs o e =
        choose_cases (Operand room least (token.Word w ∷ xs) o) e
        (λ opens is. rw (skip_taken mark.OpenRound xs opens) (called_sound room w (skip mark.OpenRound xs).1 o is))
        (λ alone is. named_sound room w xs o (rw (skip_left mark.OpenRound xs alone) at is))

    prefixed_sound : (m : Mark) (op : UnaryOperator) → prefix_of m ≡ Some op → (room : ℕ) (xs : List Token) (o : TermAtLevel) → prefixed_term next room least op xs ≡ Some o →
        Operand room least (token.Mark m ∷ xs) o
    unfolding prefixed_term
    prefixed_sound m op is_prefix room xs o e =
        let P : Type 0 = Operand room least (token.Mark m ∷ xs) o in
        choose_cases P e
        (λ tight inner.
        bind_cases P inner (λ t t_is high. bind_cases P high (λ u u_is done.
        let s = sound room (prefix_level op) xs t.1 t.0 (prefix_within op) t_is in
        settled (Operand room least (token.Mark m ∷ xs)) done
        (kept (λ v. Good room (prefix_level op) v (token.Mark m ∷ xs) t.1) u_is (λ low. (grammar.before m op is_prefix s.0, low)), grind (arith, nat_tests)))))
        (λ _ none. absurd cc)

    marked_sound : (room : ℕ) (m : Mark) (xs : List Token) (o : TermAtLevel) → marked_term next room least m xs ≡ Some o → Operand room least (token.Mark m ∷ xs) o
    unfolding marked_term operator_term
    marked_sound room mark.True xs o e = settled (Operand room least (token.Mark mark.True ∷ xs)) e ((grammar.yes, omega arith), within)
    marked_sound room mark.False xs o e = settled (Operand room least (token.Mark mark.False ∷ xs)) e ((grammar.no, omega arith), within)
    marked_sound room mark.OpenRound xs o e = bracketed_sound room xs o e
    marked_sound room mark.OpenBrace xs o e = braced_sound room xs o e
    marked_sound room mark.OpenSquare xs o e = displayed_sound Brackets mark.CloseSquare mark.OpenSquare (λ r ts us vs d. grammar.fields d) room xs o e
    marked_sound room m xs o e =
        bind_cases (Operand room least (token.Mark m ∷ xs) o) e (λ op op_is more. prefixed_sound m op op_is room xs o more)

    operand_sound : (room : ℕ) (xs : List Token) (o : TermAtLevel) → operand next room least xs ≡ Some o → Operand room least xs o
    unfolding operand
    operand_sound room xs o e =
        let P : Type 0 = Operand room least xs o in
        choose_cases P e
        (λ _ number_is.
        bind_cases P number_is (λ n n_is done.
        rw (number_taken xs n n_is) (settled (Operand room least (token.Number n.0 ∷ n.1)) done ((grammar.numeral, omega arith), within))))
        (λ _ other.
        choose_cases P other
        (λ _ word_is. bind_cases P word_is (λ w w_is rest. rw (word_taken xs w w_is) (worded_sound room w.0 w.1 o rest)))
        (λ _ mark_is. bind_cases P mark_is (λ m m_is rest. rw (peek_mark_taken xs m m_is) (marked_sound room m (advance xs) o rest))))

-- how a term goes on, behind which mark and between which levels
record Accepted (least most : ℕ) (xs : List Token) (a : After) : Type 0 where
  m : Mark
  first : xs ≡ token.Mark m ∷ advance xs
  goes_on : after_of m ≡ Some a
  above_least : least ≤ level_of a
  below_most : left_of a ≤ most

accepted_is : (least most : ℕ) (xs : List Token) (a : After) → accepted_after least most xs ≡ Some a → Accepted least most xs a
unfolding accepted_after
accepted_is least most xs a e =
    let P : Type 0 = Accepted least most xs a in
    bind_cases P e (λ m m_is e1. bind_cases P e1 (λ b b_is e2.
    choose_cases P e2
    (λ fits done.
    let levels = and_parts (nat_le least (level_of b)) (nat_le (left_of b) most) fits in
    settled (Accepted least most xs) done
    (record { m = m; first = peek_mark_taken xs m m_is; goes_on = b_is; above_least = grind (arith, nat_tests); below_most = grind (arith, nat_tests) }))
    (λ _ none. absurd cc)))

infix_mapped : (o : Option BinaryOperator) (op : BinaryOperator) → option_map Infix o ≡ Some (Infix op) → o ≡ Some op
infix_mapped (Some p) op e = cc
infix_mapped None op e = absurd cc

not_mapped : (o : Option BinaryOperator) (a : After) → ((op : BinaryOperator) → Infix op ≢ a) → option_map Infix o ≢ Some a
not_mapped (Some p) a other e = other p cc
not_mapped None a other e = absurd cc

-- the mark behind a term tells how it goes on
infix_is : (m : Mark) (op : BinaryOperator) → after_of m ≡ Some (Infix op) → infix_of m ≡ Some op
infix_is mark.Dot op e = absurd cc
infix_is mark.OpenSquare op e = absurd cc
infix_is m op e = infix_mapped (infix_of m) op e

field_is : (m : Mark) → after_of m ≡ Some Field → m ≡ mark.Dot
field_is mark.Dot e = refl
field_is mark.OpenSquare e = absurd cc
field_is m e = absurd (not_mapped (infix_of m) Field (λ op same. absurd cc) e)

key_is : (m : Mark) → after_of m ≡ Some Key → m ≡ mark.OpenSquare
key_is mark.Dot e = absurd cc
key_is mark.OpenSquare e = refl
key_is m e = absurd (not_mapped (infix_of m) Key (λ op same. absurd cc) e)

right_within : (op : BinaryOperator) → right_level op ≤ atom_level
right_within operator.At = omega arith
right_within _ = omega arith

-- which way a part that may be absent went
gone : {A B : Type 0} (P : Type 0) (o : Option A) (none : B) (some : A → B) {z : B} → (elim o as (λ _. B) [ None ↦ none | Some a ↦ some a ]) ≡ z →
    (o ≡ None → none ≡ z → P) → ((a : A) → o ≡ Some a → some a ≡ z → P) → P
gone P None none some e f g = f refl e
gone P (Some a) none some e f g = g a refl e

module _ (next : ℕ → ℕ → List Token → Option (SourceTerm × List Token))
    (sound : (room l : ℕ) (xs ys : List Token) (t : SourceTerm) → l ≤ atom_level → next room l xs ≡ read_next t ys → Good room l t xs ys) where
  grown_sound : (room : ℕ) (left : SourceTerm) (a : After) (m : Mark) → after_of m ≡ Some a → (start xs : List Token) (s : SourceTerm × List Token) →
      SpellsAt room (left_of a) left start (token.Mark m ∷ xs) → extended_term next room left a xs ≡ Some s → Good room (level_of a) s.0 start s.1
  unfolding extended_term
  grown_sound room left (Infix op) m m_is start xs s d e =
      let P : Type 0 = Good room (level op) s.0 start s.1 in
      bind_cases P e (λ t t_is high. bind_cases P high (λ u u_is done.
      let right = sound room (right_level op) xs t.1 t.0 (right_within op) t_is in
      settled (λ r. Good room (level op) r.0 start r.1) done
      (kept (λ v. Good room (level op) v start t.1) u_is (λ low. (grammar.between m op (infix_is m op m_is) d right.0, low)))))
  grown_sound room left Field m m_is start xs s d e =
      let P : Type 0 = Good room postfix_level s.0 start s.1 in
      bind_cases P e (λ w w_is high. bind_cases P high (λ u u_is done.
      settled (λ r. Good room postfix_level r.0 start r.1) done
      (kept (λ v. Good room postfix_level v start w.1) u_is (λ low. (grammar.field (rw (field_is m m_is, word_taken xs w w_is) at d), low)))))
  grown_sound room left Key m m_is start xs s d e =
      opened (λ r. Good r postfix_level s.0 start s.1) room e (λ has_room inner.
      let P : Type 0 = Good (suc (room - 1)) postfix_level s.0 start s.1 in
      bind_cases P inner (λ t t_is close. bind_cases P close (λ c c_is high. bind_cases P high (λ u u_is done.
      let k = sound (room - 1) 1 xs t.1 t.0 (omega arith) t_is in
      settled (λ r. Good (suc (room - 1)) postfix_level r.0 start r.1) done
      (kept (λ v. Good (suc (room - 1)) postfix_level v start c.1) u_is
      (λ low. (grammar.key (rw (has_room, key_is m m_is) at d) (rw (expected_taken mark.CloseSquare t.1 c c_is) at k.0), low)))))))

  -- from `start` on, a term of level `most` is to the left
  climb_sound : (turns room least most : ℕ) (left : SourceTerm) (start xs ys : List Token) (t : SourceTerm) → Good room most left start xs → least ≤ most →
      climb next turns room least most left xs ≡ read_next t ys → Good room least t start ys
  unfolding climb
  climb_sound zero room least most left start xs ys t d h e =
      settled (λ r. Good room least r.0 start r.1) e (looser h d.0, d.1)
  climb_sound (suc turns) room least most left start xs ys t d h e =
      gone (Good room least t start ys) (accepted_after least most xs) _ _ e
      (λ _ done. settled (λ r. Good room least r.0 start r.1) done (looser h d.0, d.1))
      (λ a a_is more.
      let k = accepted_is least most xs a a_is in
      bind_cases (Good room least t start ys) more (λ s s_is rest.
      let longer = grown_sound room left a k.m k.goes_on start (advance xs) s (rw k.first at (looser k.below_most d.0)) s_is in
      climb_sound turns room least (level_of a) s.0 start s.1 ys t longer k.above_least rest))

-- what is read of a term at a level is spelled at it, and not too high
pub read_sound : (depth room least : ℕ) (xs ys : List Token) (t : SourceTerm) → least ≤ atom_level → read depth room least xs ≡ read_next t ys → Good room least t xs ys
unfolding read
read_sound zero room least xs ys t h e = absurd cc
read_sound (suc depth) room least xs ys t h e =
    bind_cases (Good room least t xs ys) e (λ o o_is rest.
    let sound : (r l : ℕ) (us vs : List Token) (u : SourceTerm) → l ≤ atom_level → read depth r l us ≡ read_next u vs → Good r l u us vs = λ r l us vs u k is. read_sound depth r l us vs u k is in
    let first = operand_sound (read depth) sound least h room xs o o_is in
    climb_sound (read depth) sound height_limit room least o.0.0 o.0.1 xs o.1 ys t first.0 first.1 rest)

-- what is read of a term is spelled
pub term_sound : (room : ℕ) (xs ys : List Token) (t : SourceTerm) → term room xs ≡ read_next t ys → SpellsTerm room t xs ys
unfolding term
term_sound room xs ys t e = let d = read_sound depth_limit room 1 xs ys t (omega arith) e in record { spelled = d.0; low = d.1 }
