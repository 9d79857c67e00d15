-- The tokens that print puts for each part of a text (profile): each name has its own sort, each entry its own kind,
-- and no mark ends a list.
use Rattle.std.specs.Prelude.{ℕ, Bool, true, false, ◌&&◌, if◌then◌else◌, List, [], ◌∷◌, ◌++◌, Option, Some, None}
use Rattle.ioa_actions.specs.declared.component.ChannelKind.{ChannelKind}
use Rattle.ioa_actions.specs.declared.component.ChannelKind.TheVariants.{Ordered, Unordered}
use Rattle.ioa_tokens.specs.declared.token.Token.{Token}
use Rattle.ioa_tokens.specs.declared.token.Token.TheVariants as token
use Rattle.ioa_tokens.specs.declared.mark.Mark.{Mark}
use Rattle.ioa_tokens.specs.declared.mark.Mark.TheVariants as mark
use Rattle.ioa_terms.specs.declared.tree.Kind.{Kind}
use Rattle.ioa_terms.specs.declared.tree.Kind.TheVariants as kind
use Rattle.ioa_terms.specs.PlainTerm.{variable, at_key, at_field, assign, branch, loop, fire, choosing}
use Rattle.ioa_terms.specs.PlainTerm.{no_statements, statement, statements_of, no_arms, arm}
use Rattle.ioa_terms.specs.PlainSort.{PlainSort, booleans, integers, naturals, sequences, sets, maps, named_type}
use Rattle.ioa_source.specs.PlainText.{const, named, enumeration, tuple_of, type_named, automaton}
use Rattle.ioa_source.specs.PlainText.{node, channel, script}
use Rattle.ioa_source.specs.Sides.{SourceTerm as Term, SourceTarget as Target, SourceStatement as Statement}
use Rattle.ioa_source.specs.Sides.{SourceStatements as Statements, SourceArms as Arms, SourceFiring as Firing}
use Rattle.ioa_source.specs.Sides.{SourceChoice as Choice}
use Rattle.ioa_source.specs.Sides.{SourceDeclared as Declared}
use Rattle.ioa_source.specs.Sides.{SourceParameter as Parameter, SourceEntry as Entry, SourceVariable as Variable}
use Rattle.ioa_source.specs.Sides.{SourceTransition as Transition, SourceSchedule as Schedule, SourceForm as Form}
use Rattle.ioa_source.specs.Sides.{SourceDeclaration as Declaration, SourceCall as Call, SourcePlacement as Placement}
use Rattle.ioa_source.specs.Sides.{SourceInvariant as Invariant, SourceText}
use Rattle.ioa_term_reader.specs.Spelling.{spelling}

-- items, each after a mark
abbrev pub more_separated_spelling : {A : Type 0} → Mark → (A → List Token) → List A → List Token
more_separated_spelling m spell [] = []
more_separated_spelling m spell (a ∷ more) = token.Mark m ∷ (spell a ++ more_separated_spelling m spell more)

-- items with a mark between
abbrev pub separated_spelling : {A : Type 0} → Mark → (A → List Token) → List A → List Token
separated_spelling m spell [] = []
separated_spelling m spell (a ∷ more) = spell a ++ more_separated_spelling m spell more

-- items one after another
abbrev pub joined_spelling : {A : Type 0} → (A → List Token) → List A → List Token
joined_spelling spell [] = []
joined_spelling spell (a ∷ more) = spell a ++ joined_spelling spell more

-- items with commas between in round brackets, and nothing if there is no item
abbrev pub bracketed_spelling : {A : Type 0} → (A → List Token) → List A → List Token
bracketed_spelling spell [] = []
bracketed_spelling spell (a ∷ more) =
    token.Mark mark.OpenRound ∷ (separated_spelling mark.Comma spell (a ∷ more) ++ token.Mark mark.CloseRound ∷ [])

-- a part after its word, and nothing if it has no item
abbrev pub section_spelling : {A : Type 0} → Mark → (List A → List Token) → List A → List Token
section_spelling m spell [] = []
section_spelling m spell (a ∷ more) = token.Mark m ∷ spell (a ∷ more)

-- an item after its word, and nothing if there is none
abbrev pub optional_spelling : {A : Type 0} → Mark → (A → List Token) → Option A → List Token
optional_spelling m spell None = []
optional_spelling m spell (Some a) = token.Mark m ∷ spell a

-- Word
abbrev pub word_spelling : List ℕ → List Token
word_spelling w = token.Word w ∷ []

-- Sort
abbrev pub sort_spelling : PlainSort → List Token
sort_spelling booleans = token.Mark mark.Bool ∷ []
sort_spelling integers = token.Mark mark.Int ∷ []
sort_spelling naturals = token.Mark mark.Nat ∷ []
sort_spelling (sequences s) =
    token.Mark mark.Seq ∷ token.Mark mark.OpenSquare ∷ (sort_spelling s ++ token.Mark mark.CloseSquare ∷ [])
sort_spelling (sets s) =
    token.Mark mark.Set ∷ token.Mark mark.OpenSquare ∷ (sort_spelling s ++ token.Mark mark.CloseSquare ∷ [])
sort_spelling (maps k v) =
    token.Mark mark.Map ∷ token.Mark mark.OpenSquare ∷ (sort_spelling k
    ++ (token.Mark mark.Comma ∷ (sort_spelling v ++ token.Mark mark.CloseSquare ∷ [])))
sort_spelling (named_type w) = token.Word w ∷ []

-- Word : Sort
abbrev pub declared_spelling : Declared → List Token
declared_spelling d = token.Word d.name ∷ token.Mark mark.Colon ∷ sort_spelling d.sort

-- const Term, or Word : Sort
abbrev pub parameter_spelling : Parameter → List Token
parameter_spelling (const t) = token.Mark mark.Const ∷ spelling t
parameter_spelling (named d) = declared_spelling d

-- the word of a kind
abbrev pub kind_mark : Kind → Mark
kind_mark kind.Input = mark.Input
kind_mark kind.Output = mark.Output
kind_mark kind.Internal = mark.Internal

-- Word [ ( Term {, Term} ) ]
abbrev pub call_spelling : List ℕ → List Term → List Token
call_spelling w ts = token.Word w ∷ bracketed_spelling spelling ts

-- Call, as one value
abbrev pub one_call_spelling : Call → List Token
one_call_spelling c = call_spelling c.name c.arguments

-- Call {, Call}
abbrev pub calls_spelling : List Call → List Token
calls_spelling cs = separated_spelling mark.Comma one_call_spelling cs

-- [ ( Param {, Param} ) ]
abbrev pub parameters_spelling : List Parameter → List Token
parameters_spelling ps = bracketed_spelling parameter_spelling ps

-- Kind Word [ ( Param {, Param} ) ] [where Term]
abbrev pub entry_spelling : Entry → List Token
entry_spelling e =
    token.Mark (kind_mark e.kind) ∷ token.Word e.name ∷
    (parameters_spelling e.parameters ++ optional_spelling mark.Where spelling e.condition)

-- [signature {Kind Word [ ( Param {, Param} ) ] [where Term]}]
abbrev pub signature_spelling : List Entry → List Token
signature_spelling es = section_spelling mark.Signature (joined_spelling entry_spelling) es

-- Word : Sort [:= Term]
abbrev pub variable_spelling : Variable → List Token
variable_spelling v = declared_spelling v.declared ++ optional_spelling mark.Assign spelling v.initial

-- [states Variable {, Variable}]
abbrev pub states_spelling : List Variable → List Token
states_spelling vs = section_spelling mark.States (separated_spelling mark.Comma variable_spelling) vs

-- Word, Word [ Term ], or Word . Word
abbrev pub target_spelling : Target → List Token
target_spelling (variable w at shape) = token.Word w ∷ []
target_spelling (at_key w at shape t) =
    token.Word w ∷ token.Mark mark.OpenSquare ∷ (spelling t ++ token.Mark mark.CloseSquare ∷ [])
target_spelling (at_field w at shape f) = token.Word w ∷ token.Mark mark.Dot ∷ token.Word f ∷ []

-- a kind, if one is written
abbrev pub kind_spelling : Option Kind → List Token
kind_spelling None = []
kind_spelling (Some k) = token.Mark (kind_mark k) ∷ []

-- [Kind] Call, after `fire`
abbrev pub firing_spelling : Firing → List Token
firing_spelling f = kind_spelling f.kind ++ call_spelling f.action f.arguments

-- where Term yield Term
abbrev pub condition_spelling : Choice → List Token
condition_spelling c = token.Mark mark.Where ∷ (spelling c.condition ++ (token.Mark mark.Yield ∷ spelling c.yields))

-- choose Word : Sort where Term yield Term
abbrev pub chosen_spelling : Choice → List Token
chosen_spelling c =
    token.Mark mark.Choose ∷ token.Word c.name ∷ token.Mark mark.Colon ∷ (sort_spelling c.sort ++ condition_spelling c)

-- Target := choose Word : Sort where Term yield Term
abbrev pub choice_spelling : Choice → List Token
choice_spelling c = target_spelling c.target ++ (token.Mark mark.Assign ∷ chosen_spelling c)

-- [else Statements]: `xs` are the tokens of the statements
abbrev pub else_spelling : Statements → List Token → List Token
else_spelling no_statements xs = []
else_spelling (statement s more) xs = token.Mark mark.Else ∷ xs

-- do [Statements] od: `xs` are the tokens of the statements
abbrev pub between_do_and_od : List Token → List Token
between_do_and_od xs = token.Mark mark.Do ∷ (xs ++ token.Mark mark.Od ∷ [])

abbrev mutual
  -- Target := Term, if Term then Statements {elseif Term then Statements} [else Statements] fi, while Term do
  -- Statements od, fire [Kind] Call, or a choice
  pub statement_spelling : Statement → List Token
  statement_spelling (assign p t) = target_spelling p ++ (token.Mark mark.Assign ∷ spelling t)
  statement_spelling (branch arms rest) =
      token.Mark mark.If ∷ (arms_spelling arms
      ++ (else_spelling rest (statements_spelling rest) ++ token.Mark mark.Fi ∷ []))
  statement_spelling (loop t body) =
      token.Mark mark.While ∷ (spelling t ++ between_do_and_od (statements_spelling body))
  statement_spelling (fire f) = token.Mark mark.Fire ∷ firing_spelling f
  statement_spelling (choosing c) = choice_spelling c

  -- Statement {; Statement}
  pub statements_spelling : Statements → List Token
  statements_spelling no_statements = []
  statements_spelling (statement s more) = statement_spelling s ++ more_statements_spelling more

  -- statements, each after a semicolon
  pub more_statements_spelling : Statements → List Token
  more_statements_spelling no_statements = []
  more_statements_spelling (statement s more) =
      token.Mark mark.Semicolon ∷ (statement_spelling s ++ more_statements_spelling more)

  -- Term then Statements {elseif Term then Statements}
  pub arms_spelling : Arms → List Token
  arms_spelling no_arms = []
  arms_spelling (arm t body more) =
      spelling t ++ (token.Mark mark.Then ∷ (statements_spelling body ++ more_arms_spelling more))

  -- arms, each after `elseif`
  pub more_arms_spelling : Arms → List Token
  more_arms_spelling no_arms = []
  more_arms_spelling (arm t body more) =
      token.Mark mark.ElseIf ∷ (spelling t
      ++ (token.Mark mark.Then ∷ (statements_spelling body ++ more_arms_spelling more)))

-- the statements of an effect, of a part of an `if`, or of a block
abbrev pub list_spelling : List Statement → List Token
list_spelling ss = statements_spelling (statements_of ss)

-- the last part of an `if`: [else Statements]
abbrev pub rest_spelling : List Statement → List Token
rest_spelling ss = else_spelling (statements_of ss) (list_spelling ss)

-- do [Statements] od
abbrev pub block_spelling : List Statement → List Token
block_spelling ss = between_do_and_od (list_spelling ss)

-- [eff Statements]
abbrev pub effect_part_spelling : List Statement → List Token
effect_part_spelling ss = section_spelling mark.Eff list_spelling ss

-- Kind Call [pre Term] [eff Statements]
abbrev pub transition_spelling : Transition → List Token
transition_spelling t =
    token.Mark (kind_mark t.kind) ∷ (call_spelling t.name t.arguments
    ++ (optional_spelling mark.Pre spelling t.pre ++ effect_part_spelling t.effect))

-- [transitions {Transition}]
abbrev pub transitions_spelling : List Transition → List Token
transitions_spelling ts = section_spelling mark.Transitions (joined_spelling transition_spelling) ts

-- whether a list has no item
abbrev pub has_none : {A : Type 0} → List A → Bool
has_none [] = true
has_none (a ∷ more) = false

-- whether a schedule block has neither a variable nor a statement
abbrev pub is_empty_schedule : Schedule → Bool
is_empty_schedule s = has_none s.variables && has_none s.statements

-- [schedule [states Variable {, Variable}] do [Statements] od], and nothing for the empty block
abbrev pub schedule_spelling : Schedule → List Token
schedule_spelling s =
    if is_empty_schedule s then []
    else token.Mark mark.Schedule ∷ (states_spelling s.variables ++ block_spelling s.statements)

-- enumeration of Word {, Word}, or tuple of Declared {, Declared}
abbrev pub form_spelling : Form → List Token
form_spelling (enumeration ws) =
    token.Mark mark.Enumeration ∷ token.Mark mark.Of ∷ separated_spelling mark.Comma word_spelling ws
form_spelling (tuple_of ds) =
    token.Mark mark.Tuple ∷ token.Mark mark.Of ∷ separated_spelling mark.Comma declared_spelling ds

-- [ ( Declared {, Declared} ) ]
abbrev pub head_spelling : List Declared → List Token
head_spelling ds = bracketed_spelling declared_spelling ds

-- type Word = Form, or automaton Word [ ( Declared {, Declared} ) ] [Signature] [States] [Transitions] [Schedule]
abbrev pub declaration_spelling : Declaration → List Token
declaration_spelling (type_named t) =
    token.Mark mark.Type ∷ token.Word t.name ∷ token.Mark mark.Equal ∷ form_spelling t.form
declaration_spelling (automaton a) =
    token.Mark mark.Automaton ∷ token.Word a.name ∷ (head_spelling a.parameters
    ++ (signature_spelling a.signature
    ++ (states_spelling a.states
    ++ (transitions_spelling a.transitions
    ++ schedule_spelling a.schedule))))

-- [unordered], behind the ends of a channel
abbrev pub channel_kind_spelling : ChannelKind → List Token
channel_kind_spelling Ordered = []
channel_kind_spelling Unordered = token.Mark mark.Unordered ∷ []

-- node Number : Call, channel Number -> Number [unordered], or script Number : Call {, Call}
abbrev pub placement_spelling : Placement → List Token
placement_spelling (node n) =
    token.Mark mark.Node ∷ token.Number n.number ∷ token.Mark mark.Colon ∷ call_spelling n.automaton n.arguments
placement_spelling (channel c) =
    token.Mark mark.Channel ∷ token.Number c.from ∷ token.Mark mark.Arrow ∷ token.Number c.to
    ∷ channel_kind_spelling c.kind
placement_spelling (script s) =
    token.Mark mark.Script ∷ token.Number s.node ∷ token.Mark mark.Colon ∷ calls_spelling s.calls

-- invariant Word : Term
abbrev pub invariant_spelling : Invariant → List Token
invariant_spelling v = token.Mark mark.Invariant ∷ token.Word v.name ∷ token.Mark mark.Colon ∷ spelling v.term

-- what comes behind `system`: {Placement} {Invariant}
abbrev pub system_spelling : SourceText → List Token
system_spelling p = joined_spelling placement_spelling p.system ++ joined_spelling invariant_spelling p.invariants

-- a whole text
abbrev pub text_spelling : SourceText → List Token
text_spelling p =
    joined_spelling declaration_spelling p.declarations ++ (token.Mark mark.System ∷ system_spelling p)
