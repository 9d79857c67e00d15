-- Sorts and declared names are read as they are spelled.
use Rattle.std.proofs.Common.{◌≡◌, ℕ, suc, ◌<◌, ◌≤◌, true, false, List, [], ◌∷◌, map, Option, refl, arith}
use Rattle.ioa_tokens.specs.declared.token.Token.{Token}
use Rattle.ioa_tokens.specs.declared.token.Token.TheVariants as token
use Rattle.ioa_tokens.specs.declared.mark.Mark.TheVariants as mark
use Rattle.ioa_terms.specs.PlainSort.{PlainSort, booleans, integers, naturals, sequences, sets, maps, named_type}
use Rattle.ioa_source.specs.PlainText.{const, named}
use Rattle.ioa_source.specs.Sides.{SourceTerm as Term, SourceDeclared as Declared, SourceParameter as Parameter}
use Rattle.ioa_cursor.specs.Lists.{SeparatedBy, ListsSeparatedBy}
use Rattle.ioa_cursor.specs.Reading.{bind, choose, skip, expect, word, at, at_word, peek_mark, advance}
use Rattle.ioa_cursor.proofs.Steps.{read_next, stays}
use Rattle.ioa_cursor.proofs.Follow.{skip_other, separated_starts, gathered_starts}
use Rattle.ioa_cursor.proofs.CompleteLists.{separated_complete, gathered_complete}
use Rattle.ioa_term_reader.specs.Grammar.{bracket_limit}
use Rattle.ioa_term_reader.specs.Reading.{term}
use Rattle.ioa_term_reader.proofs.CompleteTerms.{term_complete}
use Rattle.ioa_part_reader.specs.Grammar as grammar
use Rattle.ioa_part_reader.specs.Grammar.{declare, SpellsSort, SpellsWord, SpellsDeclared, SpellsParameters}
use Rattle.ioa_part_reader.specs.Reading as reading
use Rattle.ioa_part_reader.proofs.Closing.{Below, level, closes, at_below, at_word_no_mark}
use Rattle.ioa_part_reader.proofs.Shorter.{word_shorter, declared_shorter, parameters_shorter}

-- sorts

module _ (next : List Token → Option (PlainSort × List Token)) where
  item_read : (s : PlainSort) (xs ys : List Token) → next xs ≡ read_next s (token.Mark mark.CloseSquare ∷ ys) →
      reading.item_sort next (token.Mark mark.OpenSquare ∷ xs) ≡ read_next s ys
  unfolding reading.item_sort expect skip bind
  item_read s xs ys e = rw e refl

  seq_read : (s : PlainSort) (xs ys : List Token) → reading.item_sort next xs ≡ read_next s ys → reading.sort_by next (token.Mark mark.Seq ∷ xs) ≡ read_next (sequences s) ys
  unfolding reading.marked_sort at_word peek_mark advance bind choose
  seq_read s xs ys e = rw e refl

  set_read : (s : PlainSort) (xs ys : List Token) → reading.item_sort next xs ≡ read_next s ys → reading.sort_by next (token.Mark mark.Set ∷ xs) ≡ read_next (sets s) ys
  unfolding reading.marked_sort at_word peek_mark advance bind choose
  set_read s xs ys e = rw e refl

  map_read : (k v : PlainSort) (xs ys zs : List Token) → next xs ≡ read_next k (token.Mark mark.Comma ∷ ys) → next ys ≡ read_next v (token.Mark mark.CloseSquare ∷ zs) →
      reading.sort_by next (token.Mark mark.Map ∷ token.Mark mark.OpenSquare ∷ xs) ≡ read_next (maps k v) zs
  unfolding reading.marked_sort reading.map_sort at_word peek_mark advance expect skip bind choose
  map_read k v xs ys zs e f = rw e (rw f refl)

sort_is : (room : ℕ) (xs : List Token) → reading.sort room xs ≡ reading.sort_by (reading.sort_in room) xs
unfolding reading.sort_in
sort_is room xs = refl

bool_read : (room : ℕ) (xs : List Token) → reading.sort room (token.Mark mark.Bool ∷ xs) ≡ read_next booleans xs
unfolding reading.sort_in reading.marked_sort at_word peek_mark advance bind choose
bool_read room xs = refl

int_read : (room : ℕ) (xs : List Token) → reading.sort room (token.Mark mark.Int ∷ xs) ≡ read_next integers xs
unfolding reading.sort_in reading.marked_sort at_word peek_mark advance bind choose
int_read room xs = refl

nat_read : (room : ℕ) (xs : List Token) → reading.sort room (token.Mark mark.Nat ∷ xs) ≡ read_next naturals xs
unfolding reading.sort_in reading.marked_sort at_word peek_mark advance bind choose
nat_read room xs = refl

named_read : (room : ℕ) (w : List ℕ) (xs : List Token) → reading.sort room (token.Word w ∷ xs) ≡ read_next (named_type w) xs
unfolding reading.sort_in at_word word bind choose
named_read room w xs = refl

-- a sort is read whatever follows it
pub sort_complete : (room : ℕ) (s : PlainSort) (xs ys : List Token) → SpellsSort room s xs ys → reading.sort room xs ≡ read_next s ys
sort_complete room _ _ ys grammar.bool = bool_read room ys
sort_complete room _ _ ys grammar.int = int_read room ys
sort_complete room _ _ ys grammar.nat = nat_read room ys
sort_complete room _ _ ys (grammar.named_by {w = w}) = named_read room w ys
sort_complete _ _ _ ys (grammar.seq {room = room} {s = s} {xs = xs} d) =
    rw (sort_is (suc room) _) (seq_read (reading.sort room) s _ ys (item_read (reading.sort room) s xs ys (sort_complete room s xs _ d)))
sort_complete _ _ _ ys (grammar.set {room = room} {s = s} {xs = xs} d) =
    rw (sort_is (suc room) _) (set_read (reading.sort room) s _ ys (item_read (reading.sort room) s xs ys (sort_complete room s xs _ d)))
sort_complete _ _ _ zs (grammar.map_of {room = room} {k = k} {v = v} {xs = xs} {ys = ys} kd vd) =
    rw (sort_is (suc room) _) (map_read (reading.sort room) k v xs ys zs (sort_complete room k xs _ kd) (sort_complete room v ys _ vd))

-- names

word_complete : (w : List ℕ) (xs ys : List Token) → SpellsWord w xs ys → level ys < 14 → word xs ≡ read_next w ys
unfolding word
word_complete _ _ _ grammar.word h = refl

word_first : (w : List ℕ) (xs ys : List Token) → SpellsWord w xs ys → at_word xs ≡ true
unfolding at_word
word_first _ _ _ grammar.word = refl

pub words_complete : (ws : List (List ℕ)) (xs ys : List Token) → SeparatedBy mark.Comma SpellsWord ws xs ys → level ys < 11 → reading.words xs ≡ read_next ws ys
unfolding reading.words
words_complete ws xs ys d h =
    separated_complete (Below 14) SpellsWord word word_complete word_shorter mark.Comma (λ zs. omega arith) ws xs ys d (omega arith) (at_below mark.Comma ys h)

group_read : (room : ℕ) (ws : List (List ℕ)) (s : PlainSort) (xs ys zs : List Token) → reading.words xs ≡ read_next ws (token.Mark mark.Colon ∷ ys) → reading.sort room ys ≡ read_next s zs →
    reading.declared_group room xs ≡ read_next (declare s ws) zs
unfolding reading.declared_group expect skip bind
group_read room ws s xs ys zs e f = rw e (rw f refl)

pub declared_complete : (room : ℕ) (ds : List Declared) (xs ys : List Token) → SpellsDeclared room ds xs ys → level ys < 14 → reading.declared_group room xs ≡ read_next ds ys
declared_complete room _ xs zs (grammar.declared {ws = ws} {s = s} {ys = ys} wd sd) h =
    group_read room ws s xs ys zs (words_complete ws xs _ wd (omega arith)) (sort_complete room s ys zs sd)

pub declared_first : (room : ℕ) (ds : List Declared) (xs ys : List Token) → SpellsDeclared room ds xs ys → at_word xs ≡ true
declared_first room _ _ _ (grammar.declared wd sd) = separated_starts (λ xs. at_word xs ≡ true) SpellsWord word_first wd

pub declared_names_complete : (room : ℕ) (ds : List Declared) (xs ys : List Token) → ListsSeparatedBy mark.Comma (SpellsDeclared room) ds xs ys → level ys < 11 → reading.declared_names room xs ≡ read_next ds ys
unfolding reading.declared_names
declared_names_complete room ds xs ys d h =
    gathered_complete (Below 14) (SpellsDeclared room) (reading.declared_group room) (declared_complete room) (declared_shorter room) mark.Comma (λ zs. omega arith) ds xs ys d (omega arith) (at_below mark.Comma ys h)

-- parameters

constant_read : (room : ℕ) (t : Term) (xs ys : List Token) → term room xs ≡ read_next t ys → reading.parameter_group room (token.Mark mark.Const ∷ xs) ≡ read_next (const t ∷ []) ys
unfolding reading.parameter_group skip bind choose
constant_read room t xs ys e = rw e refl

names_read : (room : ℕ) (ds : List Declared) (xs ys : List Token) → skip mark.Const xs ≡ stays false xs → reading.declared_group room xs ≡ read_next ds ys →
    reading.parameter_group room xs ≡ read_next (map named ds) ys
unfolding reading.parameter_group bind choose
names_read room ds xs ys e f = rw e (rw f refl)

parameters_complete : (room : ℕ) → room ≤ bracket_limit → (ps : List Parameter) (xs ys : List Token) → SpellsParameters room ps xs ys → level ys < 14 → reading.parameter_group room xs ≡ read_next ps ys
parameters_complete room low _ _ ys (grammar.constant {t = t} {xs = xs} d) h = constant_read room t xs ys (term_complete room t xs ys d low (closes ys h))
parameters_complete room low _ xs ys (grammar.names {ds = ds} d) h =
    names_read room ds xs ys (skip_other mark.Const xs (at_word_no_mark mark.Const xs (declared_first room ds xs ys d))) (declared_complete room ds xs ys d h)

const_not_close : (xs : List Token) → at mark.CloseRound (token.Mark mark.Const ∷ xs) ≡ false
unfolding at
const_not_close xs = refl

parameters_not_close : (room : ℕ) (ps : List Parameter) (xs ys : List Token) → SpellsParameters room ps xs ys → at mark.CloseRound xs ≡ false
parameters_not_close room _ _ _ (grammar.constant {xs = xs} d) = const_not_close xs
parameters_not_close room _ xs ys (grammar.names {ds = ds} d) = at_word_no_mark mark.CloseRound xs (declared_first room ds xs ys d)

pub all_parameters_complete : (room : ℕ) → room ≤ bracket_limit → (ps : List Parameter) (xs ys : List Token) → ListsSeparatedBy mark.Comma (SpellsParameters room) ps xs ys → level ys < 11 →
    reading.parameters room xs ≡ read_next ps ys
unfolding reading.parameters
all_parameters_complete room low ps xs ys d h =
    gathered_complete (Below 14) (SpellsParameters room) (reading.parameter_group room) (parameters_complete room low) (parameters_shorter room) mark.Comma (λ zs. omega arith) ps xs ys d (omega arith)
    (at_below mark.Comma ys h)

pub all_parameters_not_close : (room : ℕ) (ps : List Parameter) (xs ys : List Token) → ListsSeparatedBy mark.Comma (SpellsParameters room) ps xs ys → at mark.CloseRound xs ≡ false
all_parameters_not_close room ps xs ys d = gathered_starts (λ xs. at mark.CloseRound xs ≡ false) (SpellsParameters room) (parameters_not_close room) d
