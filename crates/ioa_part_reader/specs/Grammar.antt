-- The grammar of texts (profile), a production at a time. `SpellsX x xs ys` says that the tokens `xs` are a spelling of
-- `x`, followed by the tokens `ys`. The next token decides each choice.
use Rattle.std.specs.Prelude.{ℕ, suc, ℤ, List, [], ◌∷◌, ◌≤◌, Option, Some, None, map}
use Rattle.ioa_actions.specs.declared.component.ChannelKind.TheVariants.{Ordered, Unordered}
use Rattle.ioa_tokens.specs.declared.token.Token.{Token}
use Rattle.ioa_tokens.specs.declared.token.Token.TheVariants as token
use Rattle.ioa_tokens.specs.declared.mark.Mark.TheVariants as mark
use Rattle.ioa_terms.specs.declared.tree.Kind.{Kind}
use Rattle.ioa_terms.specs.declared.tree.Kind.TheVariants as kind
use Rattle.ioa_terms.specs.PlainTerm as terms
use Rattle.ioa_terms.specs.PlainTerm.{variable, at_key, at_field, assign, branch, loop, fire}
use Rattle.ioa_terms.specs.PlainTerm.{no_statements, statement, statements_of, no_arms, arm}
use Rattle.ioa_terms.specs.PlainSort.{PlainSort, booleans, integers, naturals, sequences, sets, maps, named_type}
use Rattle.ioa_source.specs.PlainText.{const, named, enumeration, tuple_of, type_named, automaton}
use Rattle.ioa_source.specs.PlainText as plain
use Rattle.ioa_source.specs.Sides.{SourceTerm as Term, SourceTarget as Target, SourceStatement as Statement}
use Rattle.ioa_source.specs.Sides.{SourceStatements as Statements, SourceArms as Arms, SourceFiring as Firing}
use Rattle.ioa_source.specs.Sides.{SourceDeclared as Declared}
use Rattle.ioa_source.specs.Sides.{SourceParameter as Parameter, SourceEntry as Entry, SourceVariable as Variable}
use Rattle.ioa_source.specs.Sides.{SourceTransition as Transition, SourceSchedule as Schedule, SourceForm as Form}
use Rattle.ioa_source.specs.Sides.{SourceDeclaration as Declaration, SourceCall as Call, SourcePlacement as Placement}
use Rattle.ioa_source.specs.Sides.{SourceInvariant as Invariant, SourceText}
use Rattle.ioa_cursor.specs.Lists.{Several, SeparatedBy, SeparatedOrEndedBy, Section, Optional}
use Rattle.ioa_cursor.specs.Lists.{ListsSeparatedBy, SeveralLists}
use Rattle.ioa_source.specs.Heights.{height_limit, statements_height}
use Rattle.ioa_term_reader.specs.Grammar.{bracket_limit, SpellsTerm}
use Rattle.ioa_part_reader.specs.declared.call.TheConstants.{INNER_LIMIT}
use Rattle.ioa_part_reader.specs.declared.statement.Context.{Context}
use Rattle.ioa_part_reader.specs.declared.statement.Context.TheVariants.{Effect, Block}

-- how many brackets may be opened within the brackets of a call, an entry, an automaton or a target
abbrev pub inner_limit : ℕ
inner_limit = INNER_LIMIT

-- Sort. `room` is how many more brackets may be opened.
pub data SpellsSort : ℕ → PlainSort → List Token → List Token → Type 0 where
  bool : {room : ℕ} {xs : List Token} → SpellsSort room booleans (token.Mark mark.Bool ∷ xs) xs
  int : {room : ℕ} {xs : List Token} → SpellsSort room integers (token.Mark mark.Int ∷ xs) xs
  nat : {room : ℕ} {xs : List Token} → SpellsSort room naturals (token.Mark mark.Nat ∷ xs) xs
  named_by : {room : ℕ} {w : List ℕ} {xs : List Token} → SpellsSort room (named_type w) (token.Word w ∷ xs) xs
  seq : {room : ℕ} {s : PlainSort} {xs ys : List Token} →
      SpellsSort room s xs (token.Mark mark.CloseSquare ∷ ys) →
      SpellsSort (suc room) (sequences s) (token.Mark mark.Seq ∷ token.Mark mark.OpenSquare ∷ xs) ys
  set : {room : ℕ} {s : PlainSort} {xs ys : List Token} →
      SpellsSort room s xs (token.Mark mark.CloseSquare ∷ ys) →
      SpellsSort (suc room) (sets s) (token.Mark mark.Set ∷ token.Mark mark.OpenSquare ∷ xs) ys
  map_of : {room : ℕ} {k v : PlainSort} {xs ys zs : List Token} →
      SpellsSort room k xs (token.Mark mark.Comma ∷ ys) →
      SpellsSort room v ys (token.Mark mark.CloseSquare ∷ zs) →
      SpellsSort (suc room) (maps k v) (token.Mark mark.Map ∷ token.Mark mark.OpenSquare ∷ xs) zs

-- Word
pub data SpellsWord : List ℕ → List Token → List Token → Type 0 where
  word : {w : List ℕ} {xs : List Token} → SpellsWord w (token.Word w ∷ xs) xs

-- names of one sort
abbrev pub declare : PlainSort → List (List ℕ) → List Declared
declare s ws = map (λ w. record { name = w; sort = s; shape = tt }) ws

-- Declared: Word {, Word} : Sort
pub data SpellsDeclared (room : ℕ) : List Declared → List Token → List Token → Type 0 where
  declared : {ws : List (List ℕ)} {s : PlainSort} {xs ys zs : List Token} →
      SeparatedBy mark.Comma SpellsWord ws xs (token.Mark mark.Colon ∷ ys) →
      SpellsSort room s ys zs → SpellsDeclared room (declare s ws) xs zs

-- Param: const Term, or Declared
pub data SpellsParameters (room : ℕ) : List Parameter → List Token → List Token → Type 0 where
  constant : {t : Term} {xs ys : List Token} → SpellsTerm room t xs ys →
      SpellsParameters room (const t ∷ []) (token.Mark mark.Const ∷ xs) ys
  names : {ds : List Declared} {xs ys : List Token} → SpellsDeclared room ds xs ys →
      SpellsParameters room (map named ds) xs ys

-- [ ( [X] ) ]: empty brackets are the same as none
pub data InBrackets {A : Type 0} (X : List A → List Token → List Token → Type 0)
    : List A → List Token → List Token → Type 0 where
  bare : {xs : List Token} → InBrackets X [] xs xs
  hollow : {xs : List Token} → InBrackets X [] (token.Mark mark.OpenRound ∷ token.Mark mark.CloseRound ∷ xs) xs
  filled : {items : List A} {xs ys : List Token} → X items xs (token.Mark mark.CloseRound ∷ ys) →
      InBrackets X items (token.Mark mark.OpenRound ∷ xs) ys

-- Call: Word [ ( [Term {, Term}] ) ]
pub data SpellsCall : Call → List Token → List Token → Type 0 where
  called : {w : List ℕ} {ts : List Term} {xs ys : List Token} →
      InBrackets (SeparatedBy mark.Comma (SpellsTerm inner_limit)) ts xs ys →
      SpellsCall (record { name = w; arguments = ts }) (token.Word w ∷ xs) ys

-- Kind: input, output or internal
pub data SpellsKind : Kind → List Token → List Token → Type 0 where
  input : {xs : List Token} → SpellsKind kind.Input (token.Mark mark.Input ∷ xs) xs
  output : {xs : List Token} → SpellsKind kind.Output (token.Mark mark.Output ∷ xs) xs
  internal : {xs : List Token} → SpellsKind kind.Internal (token.Mark mark.Internal ∷ xs) xs

-- Entry: Word [ ( [Param {, Param}] ) ] [where Term]
pub data SpellsEntry (k : Kind) : Entry → List Token → List Token → Type 0 where
  entry : {w : List ℕ} {parameters : List Parameter} {condition : Option Term} {xs ys zs : List Token} →
      InBrackets (ListsSeparatedBy mark.Comma (SpellsParameters inner_limit)) parameters xs ys →
      Optional mark.Where (SpellsTerm bracket_limit) condition ys zs →
      SpellsEntry k (record { kind = k; name = w; parameters = parameters; condition = condition })
      (token.Word w ∷ xs) zs

-- Group: Kind Entry {, Entry} [,]
pub data SpellsGroup : List Entry → List Token → List Token → Type 0 where
  group : {k : Kind} {entries : List Entry} {xs ys zs : List Token} →
      SpellsKind k xs ys → SeparatedOrEndedBy mark.Comma (SpellsEntry k) entries ys zs →
      SpellsGroup entries xs zs

-- Variable: Word : Sort [:= Term]
pub data SpellsVariable : Variable → List Token → List Token → Type 0 where
  of_sort : {w : List ℕ} {s : PlainSort} {initial : Option Term} {xs ys zs : List Token} →
      SpellsSort bracket_limit s xs ys →
      Optional mark.Assign (SpellsTerm bracket_limit) initial ys zs →
      SpellsVariable (record { declared = record { name = w; sort = s; shape = tt }; initial = initial })
      (token.Word w ∷ token.Mark mark.Colon ∷ xs) zs

-- Target: Word, Word [ Term ], or Word . Word
pub data SpellsTarget : Target → List Token → List Token → Type 0 where
  whole : {w : List ℕ} {xs : List Token} → SpellsTarget (variable w tt tt) (token.Word w ∷ xs) xs
  at_a_key : {w : List ℕ} {t : Term} {xs ys : List Token} →
      SpellsTerm inner_limit t xs (token.Mark mark.CloseSquare ∷ ys) →
      SpellsTarget (at_key w tt tt t) (token.Word w ∷ token.Mark mark.OpenSquare ∷ xs) ys
  at_a_field : {w f : List ℕ} {xs : List Token} →
      SpellsTarget (at_field w tt tt f) (token.Word w ∷ token.Mark mark.Dot ∷ token.Word f ∷ xs) xs

-- [Kind] Call, after `fire`
pub data SpellsFiring : Firing → List Token → List Token → Type 0 where
  firing : {call : Call} {xs ys : List Token} → SpellsCall call xs ys →
      SpellsFiring (terms.firing None call.name tt call.arguments) xs ys
  kind_firing : {k : Kind} {call : Call} {xs ys zs : List Token} → SpellsKind k xs ys → SpellsCall call ys zs →
      SpellsFiring (terms.firing (Some k) call.name tt call.arguments) xs zs

mutual
  -- Statement: Target := Term, or if Arms [else Statements] fi; in an effect also
  -- Target := choose Word : Sort where Term yield Term; in a schedule block also while Term do Statements od, or
  -- fire [Kind] Call
  pub data SpellsStatement : Context → Statement → List Token → List Token → Type 0 where
    assignment : {c : Context} {p : Target} {t : Term} {xs ys zs : List Token} →
        SpellsTarget p xs (token.Mark mark.Assign ∷ ys) → SpellsTerm bracket_limit t ys zs →
        SpellsStatement c (assign p t) xs zs
    choice : {c : Context} {arms : Arms} {rest : Statements} {xs ys zs : List Token} →
        SpellsArms c arms xs ys → SpellsRest c rest ys zs →
        SpellsStatement c (branch arms rest) (token.Mark mark.If ∷ xs) zs
    repetition : {t : Term} {body : Statements} {xs ys zs : List Token} →
        SpellsTerm bracket_limit t xs (token.Mark mark.Do ∷ ys) →
        SpellsStatements Block body ys (token.Mark mark.Od ∷ zs) →
        SpellsStatement Block (loop t body) (token.Mark mark.While ∷ xs) zs
    fire_statement : {f : Firing} {xs ys : List Token} → SpellsFiring f xs ys →
        SpellsStatement Block (fire f) (token.Mark mark.Fire ∷ xs) ys
    choosing : {p : Target} {w : List ℕ} {s : PlainSort} {t u : Term} {xs ys zs us vs : List Token} →
        SpellsTarget p xs
        (token.Mark mark.Assign ∷ token.Mark mark.Choose ∷ token.Word w ∷ token.Mark mark.Colon ∷ ys) →
        SpellsSort bracket_limit s ys (token.Mark mark.Where ∷ zs) →
        SpellsTerm bracket_limit t zs (token.Mark mark.Yield ∷ us) → SpellsTerm bracket_limit u us vs →
        SpellsStatement Effect (terms.choosing (terms.choice_with p w s tt t u)) xs vs

  -- Arms: Term then Statements {elseif Term then Statements}
  pub data SpellsArms : Context → Arms → List Token → List Token → Type 0 where
    one_arm : {c : Context} {t : Term} {body : Statements} {xs ys zs : List Token} →
        SpellsTerm bracket_limit t xs (token.Mark mark.Then ∷ ys) → SpellsStatements c body ys zs →
        SpellsArms c (arm t body no_arms) xs zs
    more_arms : {c : Context} {t : Term} {body : Statements} {others : Arms} {xs ys zs ws : List Token} →
        SpellsTerm bracket_limit t xs (token.Mark mark.Then ∷ ys) →
        SpellsStatements c body ys (token.Mark mark.ElseIf ∷ zs) → SpellsArms c others zs ws →
        SpellsArms c (arm t body others) xs ws

  -- [else Statements] fi
  pub data SpellsRest : Context → Statements → List Token → List Token → Type 0 where
    no_else : {c : Context} {xs : List Token} → SpellsRest c no_statements (token.Mark mark.Fi ∷ xs) xs
    otherwise : {c : Context} {rest : Statements} {xs ys : List Token} →
        SpellsStatements c rest xs (token.Mark mark.Fi ∷ ys) → SpellsRest c rest (token.Mark mark.Else ∷ xs) ys

  -- Statements: Statement {; Statement} [;]
  pub data SpellsStatements : Context → Statements → List Token → List Token → Type 0 where
    last_statement : {c : Context} {s : Statement} {xs ys : List Token} → SpellsStatement c s xs ys →
        SpellsStatements c (statement s no_statements) xs ys
    closed_statement : {c : Context} {s : Statement} {xs ys : List Token} →
        SpellsStatement c s xs (token.Mark mark.Semicolon ∷ ys) → SpellsStatements c (statement s no_statements) xs ys
    more_statements : {c : Context} {s : Statement} {others : Statements} {xs ys zs : List Token} →
        SpellsStatement c s xs (token.Mark mark.Semicolon ∷ ys) → SpellsStatements c others ys zs →
        SpellsStatements c (statement s others) xs zs

-- the statements of an effect or of a schedule block, none of them too high
pub record SpellsLow (c : Context) (statements : List Statement) (xs ys : List Token) : Type 0 where
  pub spelled : SpellsStatements c (statements_of statements) xs ys
  pub low : statements_height (statements_of statements) ≤ height_limit

-- Term [;]
pub data SpellsGuard : Term → List Token → List Token → Type 0 where
  guard : {t : Term} {xs ys : List Token} → SpellsTerm bracket_limit t xs ys → SpellsGuard t xs ys
  closed_guard : {t : Term} {xs ys : List Token} → SpellsTerm bracket_limit t xs (token.Mark mark.Semicolon ∷ ys) →
      SpellsGuard t xs ys

-- Transition: Kind Call [pre Term [;]] [eff Statements]
pub data SpellsTransition : Transition → List Token → List Token → Type 0 where
  transition : {k : Kind} {head : Call} {pre : Option Term} {effect : List Statement} {xs ps qs rs ys : List Token} →
      SpellsKind k xs ps → SpellsCall head ps qs →
      Optional mark.Pre SpellsGuard pre qs rs → Section mark.Eff (SpellsLow Effect) effect rs ys →
      SpellsTransition
      (record { kind = k; name = head.name; arguments = head.arguments; pre = pre; effect = effect }) xs ys

-- do [Statements] od
pub data SpellsBlock : List Statement → List Token → List Token → Type 0 where
  idle : {xs : List Token} → SpellsBlock [] (token.Mark mark.Do ∷ token.Mark mark.Od ∷ xs) xs
  busy : {statements : List Statement} {xs ys : List Token} →
      SpellsLow Block statements xs (token.Mark mark.Od ∷ ys) → SpellsBlock statements (token.Mark mark.Do ∷ xs) ys

-- a schedule block with these variables and statements
abbrev pub schedule_with : List Variable → List Statement → Schedule
schedule_with vs ss = record { variables = vs; statements = ss }

-- [schedule [States] do [Statements] od]: an automaton without a schedule has the empty block
pub data SpellsSchedule : Schedule → List Token → List Token → Type 0 where
  no_schedule : {xs : List Token} → SpellsSchedule (schedule_with [] []) xs xs
  schedule : {variables : List Variable} {statements : List Statement} {xs ys zs : List Token} →
      Section mark.States (SeparatedBy mark.Comma SpellsVariable) variables xs ys → SpellsBlock statements ys zs →
      SpellsSchedule (schedule_with variables statements) (token.Mark mark.Schedule ∷ xs) zs

-- [ ( Declared {, Declared} ) ]
pub data SpellsHead : List Declared → List Token → List Token → Type 0 where
  no_parameters : {xs : List Token} → SpellsHead [] xs xs
  parameters : {ds : List Declared} {xs ys : List Token} →
      ListsSeparatedBy mark.Comma (SpellsDeclared inner_limit) ds xs (token.Mark mark.CloseRound ∷ ys) →
      SpellsHead ds (token.Mark mark.OpenRound ∷ xs) ys

-- enumeration of Word {, Word}, or tuple of Declared {, Declared}
pub data SpellsForm : Form → List Token → List Token → Type 0 where
  constants : {ws : List (List ℕ)} {xs ys : List Token} → SeparatedBy mark.Comma SpellsWord ws xs ys →
      SpellsForm (enumeration ws) (token.Mark mark.Enumeration ∷ token.Mark mark.Of ∷ xs) ys
  fields : {ds : List Declared} {xs ys : List Token} →
      ListsSeparatedBy mark.Comma (SpellsDeclared bracket_limit) ds xs ys →
      SpellsForm (tuple_of ds) (token.Mark mark.Tuple ∷ token.Mark mark.Of ∷ xs) ys

-- Declaration: type Word = Form, or
-- automaton Word [ ( Declared {, Declared} ) ] [Signature] [States] [Transitions] [Schedule]
pub data SpellsDeclaration : Declaration → List Token → List Token → Type 0 where
  type_form : {w : List ℕ} {f : Form} {xs ys : List Token} → SpellsForm f xs ys →
      SpellsDeclaration (type_named (record { name = w; form = f }))
      (token.Mark mark.Type ∷ token.Word w ∷ token.Mark mark.Equal ∷ xs) ys
  automaton_parts : {w : List ℕ} {head : List Declared} {entries : List Entry} {variables : List Variable}
      {transitions : List Transition} {block : Schedule} {xs os ps qs rs ys : List Token} →
      SpellsHead head xs os →
      Section mark.Signature (SeveralLists SpellsGroup) entries os ps →
      Section mark.States (SeparatedBy mark.Comma SpellsVariable) variables ps qs →
      Section mark.Transitions (Several SpellsTransition) transitions qs rs →
      SpellsSchedule block rs ys →
      SpellsDeclaration
      (automaton (record {
        name = w;
        parameters = head;
        signature = entries;
        states = variables;
        transitions = transitions;
        schedule = block;
      }))
      (token.Mark mark.Automaton ∷ token.Word w ∷ xs) ys

-- Placement: node Number : Call, channel Number -> Number [unordered], or script Number : Call {, Call}
pub data SpellsPlacement : Placement → List Token → List Token → Type 0 where
  node : {n : ℤ} {call : Call} {xs ys : List Token} → SpellsCall call xs ys →
      SpellsPlacement (plain.node (record { number = n; automaton = call.name; arguments = call.arguments }))
      (token.Mark mark.Node ∷ token.Number n ∷ token.Mark mark.Colon ∷ xs) ys
  channel : {i j : ℤ} {xs : List Token} →
      SpellsPlacement (plain.channel (record { from = i; to = j; kind = Ordered }))
      (token.Mark mark.Channel ∷ token.Number i ∷ token.Mark mark.Arrow ∷ token.Number j ∷ xs) xs
  unordered : {i j : ℤ} {xs : List Token} →
      SpellsPlacement (plain.channel (record { from = i; to = j; kind = Unordered }))
      (token.Mark mark.Channel ∷ token.Number i ∷ token.Mark mark.Arrow ∷ token.Number j
      ∷ token.Mark mark.Unordered ∷ xs) xs
  script : {n : ℤ} {calls : List Call} {xs ys : List Token} → SeparatedBy mark.Comma SpellsCall calls xs ys →
      SpellsPlacement (plain.script (record { node = n; calls = calls }))
      (token.Mark mark.Script ∷ token.Number n ∷ token.Mark mark.Colon ∷ xs) ys

-- Invariant: invariant Word : Term
pub data SpellsInvariant : Invariant → List Token → List Token → Type 0 where
  invariant : {w : List ℕ} {t : Term} {xs ys : List Token} → SpellsTerm bracket_limit t xs ys →
      SpellsInvariant (record { name = w; term = t })
      (token.Mark mark.Invariant ∷ token.Word w ∷ token.Mark mark.Colon ∷ xs) ys

-- Text: {Declaration} system {Placement} {Invariant}, and then nothing more
pub data Spells : SourceText → List Token → Type 0 where
  text : {declarations : List Declaration} {system : List Placement} {invariants : List Invariant}
      {xs ys zs : List Token} →
      Several SpellsDeclaration declarations xs (token.Mark mark.System ∷ ys) → Several SpellsPlacement system ys zs →
      Several SpellsInvariant invariants zs [] →
      Spells (record { declarations = declarations; system = system; invariants = invariants }) xs
