-- Which actions a system has, and which entries the lines of a text spell (profile).
use Rattle.std.specs.Prelude.{◌≡◌, ℕ, ◌+◌, Bool, true, false, ◌==◌, List, [], ◌∷◌, ◌++◌, map, length}
use Rattle.std.specs.Prelude.{Option, Some, None, Result, Ok, Err}
use Rattle.std.specs.List.{slice_split}
use Rattle.std.specs.Borrow.{Bor}
use Rattle.ioa_tokens.specs.declared.token.Token.{Token}
use Rattle.ioa_tokens.specs.declared.token.LocatedToken.{LocatedToken}
use Rattle.ioa_tokens.specs.declared.fault.CutFault.{CutFault}
use Rattle.ioa_tokens.specs.LineTokens.{line_tokens}
use Rattle.ioa_values.specs.Data.{items_of}
use Rattle.ioa_values.specs.Outcome.{and_then}
use Rattle.ioa_operators.specs.Shapes.{have_shapes, shapes_of, wide_shapes_if}
use Rattle.ioa_actions.specs.ActionParts.{action_arguments, action_name, node_of}
use Rattle.ioa_actions.specs.declared.action.Action.{Action}
use Rattle.ioa_actions.specs.declared.action.Action.TheVariants.{Send, Receive, Local, Stimulus}
use Rattle.ioa_terms.specs.SameTerms.{same_kind}
use Rattle.ioa_terms.specs.declared.tree.Kind.TheVariants.{Input}
use Rattle.ioa_system.specs.Parts.{Parts, PlainRule, rule_named}
use Rattle.ioa_system.specs.Systems.{SystemParts, program_numbered}
use Rattle.ioa_transitions.specs.Entries.{PlainEntry}
use Rattle.ioa_lines.specs.Grammar.{SpellsAlone}
use Rattle.ioa_lines.specs.Reading.{line_entry}
use Rattle.ioa_lines.specs.declared.fault.LineFault.{LineFault}
use Rattle.ioa_lines.specs.declared.fault.LineFault.TheVariants.{BadLine, Memory}

-- whether an action is an input of its node (Lynch 8.1)
abbrev pub is_input : Action → Bool
is_input (Send m i j) = false
is_input (Receive m i j) = true
is_input (Local a) = false
is_input (Stimulus a) = true

-- an action of a system: its node has a program with a rule of its name, for inputs if it is one, whose arguments are
-- as many and have these sorts; a negative number passes for a natural
pub record IsActionOf (s : SystemParts) (a : Action) : Type 0 where
  pub program : Parts
  pub placed : program_numbered (node_of a) s.programs ≡ Some program
  pub rule : PlainRule
  pub named : rule_named (action_name a) program.automaton.rules ≡ Some rule
  pub kind : same_kind rule.entry.kind Input ≡ is_input a
  pub sorted : have_shapes (wide_shapes_if true (shapes_of rule.shapes)) (items_of (action_arguments a)) ≡ true

-- tokens of a line that spell an entry by an action of a system; whether the effect may choose these values is no
-- matter of lines
pub record SpellsLine (s : SystemParts) (xs : List Token) (e : PlainEntry) : Type 0 where
  pub spelled : SpellsAlone s.names e xs
  pub taken : IsActionOf s e.action

-- the tokens of located ones
abbrev pub tokens_of : List LocatedToken → List Token
tokens_of ts = map (λ t. t.token) ts

-- a line that spells an entry of a system
pub record LineSpells (s : SystemParts) (line : List ℕ) (e : PlainEntry) : Type 0 where
  pub tokens : List LocatedToken
  pub cut : line_tokens line ≡ Ok tokens
  pub spells : SpellsLine s (tokens_of tokens) e

-- lines of which those that have tokens spell these entries, one by one
pub data LinesSpell (s : SystemParts) : List (List ℕ) → List PlainEntry → Type 0 where
  no_line : LinesSpell s [] []
  blank : {line : List ℕ} {lines : List (List ℕ)} {entries : List PlainEntry} →
      line_tokens line ≡ Ok [] → LinesSpell s lines entries → LinesSpell s (line ∷ lines) entries
  entry_line : {line : List ℕ} {lines : List (List ℕ)} {e : PlainEntry} {entries : List PlainEntry} →
      LineSpells s line e → LinesSpell s lines entries → LinesSpell s (line ∷ lines) (e ∷ entries)

-- the lines of a text: its parts between line feeds
abbrev pub lines_of : List ℕ → List (List ℕ)
lines_of text = slice_split (λ b. b == 10) text

-- a text whose lines spell these entries
abbrev pub Lines : SystemParts → List ℕ → List PlainEntry → Type 0
Lines s text entries = LinesSpell s (lines_of text) entries

-- lines of which those in front of one spell k entries, and that one has tokens, or what is no token, and spells none
pub record IsBadLine (s : SystemParts) (k : ℕ) (lines : List (List ℕ)) : Type 0 where
  pub front : List (List ℕ)
  pub line : List ℕ
  pub behind : List (List ℕ)
  pub split : lines ≡ front ++ line ∷ behind
  pub entries : List PlainEntry
  pub spelled : LinesSpell s front entries
  pub count : length entries ≡ k
  pub tokens : line_tokens line ≡ Ok [] → ⊥
  pub bad : (e : PlainEntry) → LineSpells s line e → ⊥

-- lines that are still to be read, and how many with tokens came before them
pub record LinesLeft : Type 0 where
  pub count : ℕ
  pub lines : List (List ℕ)

-- the lines behind so many with tokens
abbrev pub lines_left : ℕ → List (List ℕ) → LinesLeft
lines_left k lines = record { count = k; lines = lines }

-- the lines of what is left of a text; none behind its last line
abbrev pub lines_behind : Option (Bor (List ℕ)) → List (List ℕ)
lines_behind None = []
lines_behind (Some text) = lines_of text.now

-- more than the bytes of what is left of a text
abbrev pub bytes_behind : Option (Bor (List ℕ)) → ℕ
bytes_behind None = 0
bytes_behind (Some text) = length text.now + 1

-- the entry of a line that has tokens, behind k others
abbrev pub entry_or_bad : ℕ → Option PlainEntry → Result PlainEntry LineFault
entry_or_bad k None = Err (BadLine k)
entry_or_bad k (Some e) = Ok e

-- the entry of a line behind k others that have tokens, or nothing if it has no token
abbrev pub cut_entry : SystemParts → ℕ → Result (List LocatedToken) CutFault → Result (Option PlainEntry) LineFault
cut_entry s k (Ok []) = Ok None
cut_entry s k (Ok (t ∷ ts)) = and_then (entry_or_bad k (line_entry s (tokens_of (t ∷ ts)))) (λ e. Ok (Some e))
cut_entry s k (Err f) = Err (BadLine k)

-- the next entry, if one comes, and the lines that are left behind it; or the fault of a line
abbrev pub Next : Type 0
Next = Result (Option PlainEntry × LinesLeft) LineFault

-- the next entry is that of the first line, if it has one, otherwise that of the lines behind it
abbrev pub next_by : ℕ → List (List ℕ) → Option PlainEntry → Next → Next
next_by k lines None later = later
next_by k lines (Some e) later = Ok (Some e, lines_left (k + 1) lines)

-- the next entry of lines, behind k others that have tokens
abbrev pub next_from : SystemParts → ℕ → List (List ℕ) → Next
next_from s k [] = Ok (None, lines_left k [])
next_from s k (line ∷ lines) =
    and_then (cut_entry s k (line_tokens line)) (λ o. next_by k lines o (next_from s k lines))

-- the next entry of the lines that are left
unfoldable pub next_answer : SystemParts → LinesLeft → Next
next_answer s left = next_from s left.count left.lines

-- the entries of lines, or the fault of one
abbrev pub Entries : Type 0
Entries = Result (List PlainEntry) LineFault

-- the entries of lines behind an entry
abbrev pub with_entry : PlainEntry → Entries → Entries
with_entry e later = and_then later (λ more. Ok (e ∷ more))

-- the entries of lines, behind k others that have tokens, or the first of these lines that spells none
abbrev pub entries_by : ℕ → Option PlainEntry → (ℕ → Entries) → Entries
entries_by k None later = later k
entries_by k (Some e) later = with_entry e (later (k + 1))

abbrev pub entries_from : SystemParts → List (List ℕ) → ℕ → Entries
entries_from s [] k = Ok []
entries_from s (line ∷ lines) k =
    and_then (cut_entry s k (line_tokens line)) (λ o. entries_by k o (entries_from s lines))

-- the entries of the lines that are left
unfoldable pub entries_left : SystemParts → LinesLeft → Entries
entries_left s left = entries_from s left.lines left.count

-- the entries of the lines of a text
abbrev pub lines_answer : SystemParts → List ℕ → Entries
lines_answer s text = entries_left s (lines_left 0 (lines_of text))

-- what reading on tells of the entries of the lines that were left: the next one comes, and those of the lines that are
-- left now behind it; or there is none; or the first line that spells none
abbrev pub TellsEntries : SystemParts → LinesLeft → Result (Option PlainEntry) LineFault → LinesLeft → Type 0
TellsEntries s old (Ok (Some e)) new = entries_left s old ≡ with_entry e (entries_left s new)
TellsEntries s old (Ok None) new = entries_left s old ≡ Ok []
TellsEntries s old (Err (BadLine k)) new = entries_left s old ≡ Err (BadLine k)
TellsEntries s old (Err Memory) new = Unit {0}
