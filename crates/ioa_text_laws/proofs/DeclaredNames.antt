-- What a text declares has names, since its tokens are those of a text, and its tuple types have fields.
use Rattle.std.proofs.Common.{ℕ, List, [], ◌∷◌, ◌++◌}
use Rattle.std.specs.List.{AllByRecursion}
use Rattle.ioa_tokens.specs.declared.token.Token.{Token}
use Rattle.ioa_tokens.specs.declared.token.Token.TheVariants as token
use Rattle.ioa_tokens.specs.declared.mark.Mark.TheVariants as mark
use Rattle.ioa_tokens.specs.Written.{AreTokens, IsName}
use Rattle.ioa_tokens.proofs.Goods.{tokens_good}
use Rattle.ioa_source.specs.PlainText.{enumeration, tuple_of, type_named, automaton}
use Rattle.ioa_source.specs.Sides.{SourceDeclaration, SourceDeclared, SourceEntry, SourceForm, SourceText}
use Rattle.ioa_cursor.specs.Lists.{ListsSeparatedBy, SeparatedBy, Several}
use Rattle.ioa_cursor.specs.Lists as lists
use Rattle.ioa_part_reader.specs.Grammar as grammar
use Rattle.ioa_part_reader.specs.Grammar.{Spells, SpellsDeclaration, SpellsDeclared, SpellsForm, SpellsWord}
use Rattle.ioa_text_reader.specs.Texts.{TextSpells, bare}
use Rattle.ioa_front.specs.Spelling.{declaration_spelling, entry_spelling, form_spelling, head_spelling, joined_spelling, more_separated_spelling, schedule_spelling, separated_spelling, signature_spelling, states_spelling, system_spelling, text_spelling, transitions_spelling, word_spelling}
use Rattle.ioa_front.proofs.PrintedGroups.{IsFilled, mapped_filled}
use Rattle.ioa_front.proofs.PrintedTexts.{text_good}

-- of tokens of a text, those in front and those behind
front_tokens : (xs ys : List Token) → AreTokens (xs ++ ys) → AreTokens xs
front_tokens [] ys h = tt
front_tokens (x ∷ xs) ys h = (h.0, front_tokens xs ys h.1)

back_tokens : (xs ys : List Token) → AreTokens (xs ++ ys) → AreTokens ys
back_tokens [] ys h = h
back_tokens (x ∷ xs) ys h = back_tokens xs ys h.1

-- a type: its constants have names, and a tuple type has fields
abbrev pub IsNamedForm : SourceForm → Type 0
IsNamedForm (enumeration ws) = AllByRecursion IsName ws
IsNamedForm (tuple_of ds) = IsFilled ds

-- the entries of a signature have names
abbrev pub AreNamedEntries : List SourceEntry → Type 0
AreNamedEntries es = AllByRecursion (λ e. IsName e.name) es

abbrev pub IsNamedDeclaration : SourceDeclaration → Type 0
IsNamedDeclaration (type_named d) = IsNamedForm d.form
IsNamedDeclaration (automaton a) = AreNamedEntries a.signature

-- words with commas between
later_names : (ws : List (List ℕ)) → AreTokens (more_separated_spelling mark.Comma word_spelling ws) → AllByRecursion IsName ws
later_names [] h = tt
later_names (w ∷ ws) h = (h.1.0, later_names ws h.1.1)

all_names : (ws : List (List ℕ)) → AreTokens (separated_spelling mark.Comma word_spelling ws) → AllByRecursion IsName ws
all_names [] h = tt
all_names (w ∷ ws) h = (h.0, later_names ws h.1)

-- entries
entry_names : (es : List SourceEntry) → AreTokens (joined_spelling entry_spelling es) → AreNamedEntries es
entry_names [] h = tt
entry_names (e ∷ es) h = (h.1.0, entry_names es (back_tokens (entry_spelling e) (joined_spelling entry_spelling es) h))

signature_names : (es : List SourceEntry) → AreTokens (signature_spelling es) → AreNamedEntries es
signature_names [] h = tt
signature_names (e ∷ es) h = entry_names (e ∷ es) h.1

-- what is declared in one list has a name
words_filled : {ws : List (List ℕ)} {xs ys : List Token} → SeparatedBy mark.Comma SpellsWord ws xs ys → IsFilled ws
words_filled (lists.single d) = tt
words_filled (lists.followed d rest) = tt

declared_filled : (room : ℕ) (ds : List SourceDeclared) (xs ys : List Token) → SpellsDeclared room ds xs ys → IsFilled ds
declared_filled room ds xs ys (grammar.declared {ws = ws} d e) = mapped_filled _ ws (words_filled d)

filled_more : {A : Type 0} (xs ys : List A) → IsFilled xs → IsFilled (xs ++ ys)
filled_more [] ys h = absurd h
filled_more (x ∷ xs) ys h = tt

groups_filled : {room : ℕ} {ds : List SourceDeclared} {xs ys : List Token} → ListsSeparatedBy mark.Comma (SpellsDeclared room) ds xs ys → IsFilled ds
groups_filled {room} (lists.single_group {items = items} d) = declared_filled room items _ _ d
groups_filled {room} (lists.followed_group {items = items} {others = others} d rest) = filled_more items others (declared_filled room items _ _ d)

form_named : (f : SourceForm) (xs ys : List Token) → SpellsForm f xs ys → AreTokens (form_spelling f) → IsNamedForm f
form_named _ xs ys (grammar.constants {ws = ws} d) h = all_names ws h.1.1
form_named _ xs ys (grammar.fields d) h = groups_filled d

declaration_named : (d : SourceDeclaration) (xs ys : List Token) → SpellsDeclaration d xs ys → AreTokens (declaration_spelling d) → IsNamedDeclaration d
declaration_named _ xs ys (grammar.type_form {f = f} d) h = form_named f _ _ d h.1.1.1
declaration_named _ xs ys (grammar.automaton_parts {head = head} {entries = entries} {variables = variables} {transitions = transitions} {block = block} d e f g b) h =
    let behind = states_spelling variables ++ (transitions_spelling transitions ++ schedule_spelling block) in
    signature_names entries (front_tokens (signature_spelling entries) behind (back_tokens (head_spelling head) (signature_spelling entries ++ behind) h.1.1))

declarations_named : {ds : List SourceDeclaration} {xs ys : List Token} → Several SpellsDeclaration ds xs ys → AreTokens (joined_spelling declaration_spelling ds) → AllByRecursion IsNamedDeclaration ds
declarations_named lists.none h = tt
declarations_named (lists.some {first = d} {more = more} one rest) h =
    let behind = joined_spelling declaration_spelling more in
    (declaration_named d _ _ one (front_tokens (declaration_spelling d) behind h), declarations_named rest (back_tokens (declaration_spelling d) behind h))

spelled_named : (p : SourceText) (xs : List Token) → Spells p xs → AreTokens (text_spelling p) → AllByRecursion IsNamedDeclaration p.declarations
spelled_named _ xs (grammar.text {declarations = declarations} {system = system} {invariants = invariants} d e f) h =
    let whole : SourceText = record { declarations = declarations; system = system; invariants = invariants } in
    declarations_named d (front_tokens (joined_spelling declaration_spelling declarations) (token.Mark mark.System ∷ system_spelling whole) h)

-- the declarations of a text
pub text_named : (p : SourceText) (text : List ℕ) → TextSpells p text → AllByRecursion IsNamedDeclaration p.declarations
text_named p text t = spelled_named p (bare t.0) t.2 (text_good p (bare t.0) t.2 (tokens_good text t.0 t.1))
