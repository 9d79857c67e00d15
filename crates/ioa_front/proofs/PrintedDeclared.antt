-- Terms, sorts, declared names, calls and entries as they are printed.
use Rattle.std.proofs.Common.{◌≤◌, ℕ, List, [], ◌∷◌, ◌++◌, append_assoc, arith}
use Rattle.std.specs.List.{AllByRecursion}
use Rattle.ioa_tokens.specs.declared.token.Token.{Token}
use Rattle.ioa_tokens.specs.declared.token.Token.TheVariants as token
use Rattle.ioa_tokens.specs.declared.mark.Mark.TheVariants as mark
use Rattle.ioa_tokens.specs.Written.{IsName, AreTokens}
use Rattle.ioa_terms.specs.declared.tree.Kind.{Kind}
use Rattle.ioa_terms.specs.declared.tree.Kind.TheVariants as kind
use Rattle.ioa_terms.specs.PlainSort.{PlainSort}
use Rattle.ioa_source.specs.PlainText as plain
use Rattle.ioa_source.specs.Sides.{SourceTerm as Term, SourceDeclared as Declared, SourceParameter as Parameter, SourceEntry as Entry, SourceCall as Call}
use Rattle.ioa_cursor.specs.Lists.{SeparatedBy, ListsSeparatedBy, SeveralLists}
use Rattle.ioa_cursor.specs.Lists as lists
use Rattle.ioa_source.specs.Heights.{height_limit}
use Rattle.ioa_term_reader.specs.Grammar.{bracket_limit, SpellsTerm}
use Rattle.ioa_term_reader.specs.Spelling.{spelling}
use Rattle.ioa_term_reader.proofs.Printed.{term_printed}
use Rattle.ioa_term_reader.proofs.PrintedGood.{tokens_joined, term_good}
use Rattle.ioa_part_reader.specs.Grammar as grammar
use Rattle.ioa_part_reader.specs.Grammar.{inner_limit, SpellsSort, SpellsWord, declare, SpellsDeclared, SpellsParameters, SpellsCall, SpellsKind, SpellsEntry, SpellsGroup}
use Rattle.ioa_front.specs.Spelling.{separated_spelling, joined_spelling, bracketed_spelling, optional_spelling, word_spelling, sort_spelling, declared_spelling, parameter_spelling, kind_mark, one_call_spelling, entry_spelling}
use Rattle.ioa_front.proofs.PrintedLists.{Prints, separated_prints, optional_prints, bracketed_prints}
use Rattle.ioa_front.proofs.PrintedGroups.{Alone, IsAgain, IsFilled, mapped_filled, all_mapped, PrintsEach, ended_each, groups_prints, gathered_prints}

-- terms where the limit lets all brackets be opened, and inside a bracket

term_prints : {room : ℕ} {t : Term} {xs ys : List Token} → height_limit ≤ room → SpellsTerm room t xs ys → Prints (SpellsTerm room) spelling t xs ys
term_prints {room} enough d = record { again = λ zs. term_printed d room enough zs; good = λ h. term_good d h }

pub outer_term : (t : Term) (xs ys : List Token) → SpellsTerm bracket_limit t xs ys → Prints (SpellsTerm bracket_limit) spelling t xs ys
outer_term t xs ys d = term_prints (omega arith) d

pub inner_term : (t : Term) (xs ys : List Token) → SpellsTerm inner_limit t xs ys → Prints (SpellsTerm inner_limit) spelling t xs ys
inner_term t xs ys d = term_prints (omega arith) d

pub sort_prints : {room : ℕ} {s : PlainSort} {xs ys : List Token} → SpellsSort room s xs ys → Prints (SpellsSort room) sort_spelling s xs ys
sort_prints grammar.bool = record { again = λ zs. grammar.bool; good = λ h. ((tt, tt), h.1) }
sort_prints grammar.int = record { again = λ zs. grammar.int; good = λ h. ((tt, tt), h.1) }
sort_prints grammar.nat = record { again = λ zs. grammar.nat; good = λ h. ((tt, tt), h.1) }
sort_prints grammar.named_by = record { again = λ zs. grammar.named_by; good = λ h. ((h.0, tt), h.1) }
sort_prints (grammar.seq {s = s} d) =
    let p = sort_prints d in
    let end = token.Mark mark.CloseSquare ∷ [] in
    record {
      again = λ zs. rw (append_assoc (sort_spelling s) end zs) (grammar.seq (p.again (token.Mark mark.CloseSquare ∷ zs)));
      good = λ h. let g = p.good h.1.1 in ((tt, (tt, tokens_joined (sort_spelling s) end g.0 (tt, tt))), g.1.1);
    }
sort_prints (grammar.set {s = s} d) =
    let p = sort_prints d in
    let end = token.Mark mark.CloseSquare ∷ [] in
    record {
      again = λ zs. rw (append_assoc (sort_spelling s) end zs) (grammar.set (p.again (token.Mark mark.CloseSquare ∷ zs)));
      good = λ h. let g = p.good h.1.1 in ((tt, (tt, tokens_joined (sort_spelling s) end g.0 (tt, tt))), g.1.1);
    }
sort_prints (grammar.map_of {k = k} {v = v} d e) =
    let p = sort_prints d in
    let q = sort_prints e in
    let end = token.Mark mark.CloseSquare ∷ [] in
    record {
      again = λ zs.
          rw (append_assoc (sort_spelling k) (token.Mark mark.Comma ∷ (sort_spelling v ++ end)) zs, append_assoc (sort_spelling v) end zs)
          (grammar.map_of (p.again (token.Mark mark.Comma ∷ (sort_spelling v ++ token.Mark mark.CloseSquare ∷ zs))) (q.again (token.Mark mark.CloseSquare ∷ zs)));
      good = λ h.
          let g = p.good h.1.1 in
          let i = q.good g.1.1 in
          ((tt, (tt, tokens_joined (sort_spelling k) (token.Mark mark.Comma ∷ (sort_spelling v ++ end)) g.0 (tt, tokens_joined (sort_spelling v) end i.0 (tt, tt)))), i.1.1);
    }

-- names of one sort, each with the sort behind it

pub word_prints : (w : List ℕ) (xs ys : List Token) → SpellsWord w xs ys → Prints SpellsWord word_spelling w xs ys
word_prints w xs ys grammar.word = record { again = λ zs. grammar.word; good = λ h. ((h.0, tt), h.1) }

-- the names of a list of words are all names
words_good : {ws : List (List ℕ)} {xs ys : List Token} → SeparatedBy mark.Comma SpellsWord ws xs ys → AreTokens xs → AllByRecursion IsName ws × AreTokens ys
words_good (lists.single grammar.word) h = ((h.0, tt), h.1)
words_good (lists.followed grammar.word rest) h = let g = words_good rest h.1.1 in ((h.0, g.0), g.1)

words_filled : {ws : List (List ℕ)} {xs ys : List Token} → SeparatedBy mark.Comma SpellsWord ws xs ys → IsFilled ws
words_filled (lists.single d) = tt
words_filled (lists.followed d rest) = tt

-- a name of a sort that is spelled as it is printed
declared_again : (room : ℕ) (s : PlainSort) → ((zs : List Token) → SpellsSort room s (sort_spelling s ++ zs) zs) → (ws : List (List ℕ)) → AllByRecursion (IsAgain (SpellsDeclared room) declared_spelling) (declare s ws)
declared_again room s again [] = tt
declared_again room s again (w ∷ ws) = ((λ zs. grammar.declared (lists.single grammar.word) (again zs)), declared_again room s again ws)

declared_good : (s : PlainSort) → AreTokens (sort_spelling s) → (ws : List (List ℕ)) → AllByRecursion IsName ws → AllByRecursion (λ d. AreTokens (declared_spelling d)) (declare s ws)
declared_good s good [] h = tt
declared_good s good (w ∷ ws) h = ((h.0, (tt, good)), declared_good s good ws h.1)

declared_each : (room : ℕ) (ds : List Declared) (xs ys : List Token) → SpellsDeclared room ds xs ys → PrintsEach (SpellsDeclared room) declared_spelling ds xs ys
declared_each room ds xs ys (grammar.declared {ws = ws} {s = s} d e) =
    let p = sort_prints e in
    record {
      again = declared_again room s p.again ws;
      good = λ h. let g = words_good d h in let i = p.good g.1.1 in (declared_good s i.0 ws g.0, i.1);
    }

declared_filled : (room : ℕ) (ds : List Declared) (xs ys : List Token) → SpellsDeclared room ds xs ys → IsFilled ds
declared_filled room ds xs ys (grammar.declared {ws = ws} d e) = mapped_filled _ ws (words_filled d)

pub declared_prints : {room : ℕ} {ds : List Declared} {xs ys : List Token} → ListsSeparatedBy mark.Comma (SpellsDeclared room) ds xs ys → Prints (ListsSeparatedBy mark.Comma (SpellsDeclared room)) (separated_spelling mark.Comma declared_spelling) ds xs ys
declared_prints {room} d = gathered_prints (SpellsDeclared room) declared_spelling (declared_each room) mark.Comma (declared_filled room) d

-- the parameters of an entry

parameters_each : (ps : List Parameter) (xs ys : List Token) → SpellsParameters inner_limit ps xs ys → PrintsEach (SpellsParameters inner_limit) parameter_spelling ps xs ys
parameters_each ps xs ys (grammar.constant {t = t} d) =
    let p = inner_term t _ _ d in
    record { again = ((λ zs. grammar.constant (p.again zs)), tt); good = λ h. let g = p.good h.1 in (((tt, g.0), tt), g.1) }
parameters_each ps xs ys (grammar.names {ds = ds} d) =
    let p = declared_each inner_limit ds _ _ d in
    record {
      again = all_mapped plain.named (IsAgain (SpellsDeclared inner_limit) declared_spelling) (IsAgain (SpellsParameters inner_limit) parameter_spelling) (λ a again zs. grammar.names (again zs)) ds p.again;
      good = λ h. let g = p.good h in (all_mapped plain.named (λ a. AreTokens (declared_spelling a)) (λ a. AreTokens (parameter_spelling a)) (λ a good. good) ds g.0, g.1);
    }

parameters_filled : (ps : List Parameter) (xs ys : List Token) → SpellsParameters inner_limit ps xs ys → IsFilled ps
parameters_filled ps xs ys (grammar.constant d) = tt
parameters_filled ps xs ys (grammar.names {ds = ds} d) = mapped_filled plain.named ds (declared_filled inner_limit ds _ _ d)

parameters_prints : (ps : List Parameter) (xs ys : List Token) → ListsSeparatedBy mark.Comma (SpellsParameters inner_limit) ps xs ys → Prints (ListsSeparatedBy mark.Comma (SpellsParameters inner_limit)) (separated_spelling mark.Comma parameter_spelling) ps xs ys
parameters_prints ps xs ys d = gathered_prints (SpellsParameters inner_limit) parameter_spelling parameters_each mark.Comma parameters_filled d

-- an action with its arguments

terms_print : (ts : List Term) (xs ys : List Token) → SeparatedBy mark.Comma (SpellsTerm inner_limit) ts xs ys → Prints (SeparatedBy mark.Comma (SpellsTerm inner_limit)) (separated_spelling mark.Comma spelling) ts xs ys
terms_print ts xs ys d = separated_prints (SpellsTerm inner_limit) spelling inner_term mark.Comma d

pub call_prints : {c : Call} {xs ys : List Token} → SpellsCall c xs ys → Prints SpellsCall one_call_spelling c xs ys
call_prints (grammar.called d) =
    let p = bracketed_prints (SeparatedBy mark.Comma (SpellsTerm inner_limit)) spelling terms_print d in
    record { again = λ zs. grammar.called (p.again zs); good = λ h. let g = p.good h.1 in ((h.0, g.0), g.1) }

-- a kind, and the tokens behind it

pub kind_again : (k : Kind) (zs : List Token) → SpellsKind k (token.Mark (kind_mark k) ∷ zs) zs
kind_again kind.Input zs = grammar.input
kind_again kind.Output zs = grammar.output
kind_again kind.Internal zs = grammar.internal

pub kind_good : {k : Kind} {xs ys : List Token} → SpellsKind k xs ys → AreTokens xs → AreTokens ys
kind_good grammar.input h = h.1
kind_good grammar.output h = h.1
kind_good grammar.internal h = h.1

-- entries, each a group with its own kind

entry_prints : (k : Kind) (e : Entry) (xs ys : List Token) → SpellsEntry k e xs ys → Prints (Alone SpellsGroup) entry_spelling e xs ys
entry_prints k e xs ys (grammar.entry {parameters = ps} {condition = c} d o) =
    let p = bracketed_prints (ListsSeparatedBy mark.Comma (SpellsParameters inner_limit)) parameter_spelling parameters_prints d in
    let q = optional_prints (SpellsTerm bracket_limit) spelling outer_term mark.Where o in
    let left = bracketed_spelling parameter_spelling ps in
    let right = optional_spelling mark.Where spelling c in
    record {
      again = λ zs. rw (append_assoc left right zs) (grammar.group (kind_again k _) (lists.last (grammar.entry (p.again (right ++ zs)) (q.again zs))));
      good = λ h. let g = p.good h.1 in let i = q.good g.1 in ((tt, (h.0, tokens_joined left right g.0 i.0)), i.1);
    }

group_each : (es : List Entry) (xs ys : List Token) → SpellsGroup es xs ys → PrintsEach SpellsGroup entry_spelling es xs ys
group_each es xs ys (grammar.group {k = k} kinded d) =
    let p = ended_each SpellsGroup entry_spelling (SpellsEntry k) mark.Comma (entry_prints k) d in
    record { again = p.again; good = λ h. p.good (kind_good kinded h) }

pub entries_print : (es : List Entry) (xs ys : List Token) → SeveralLists SpellsGroup es xs ys → Prints (SeveralLists SpellsGroup) (joined_spelling entry_spelling) es xs ys
entries_print es xs ys d = groups_prints SpellsGroup entry_spelling group_each d
