-- How the reader goes through the tokens (profile): a definition for each production, which returns the tree and the
-- tokens after it.
use Rattle.std.specs.Prelude.{ℕ, zero, suc, Bool, true, false, List, [], ◌∷◌, map}
use Rattle.std.specs.Prelude.{Option, Some, None, nat_le, if◌then◌else◌}
use Rattle.ioa_tokens.specs.declared.token.Token.{Token}
use Rattle.ioa_tokens.specs.declared.mark.Mark.{Mark}
use Rattle.ioa_tokens.specs.declared.mark.Mark.TheVariants as mark
use Rattle.ioa_terms.specs.declared.tree.Kind.{Kind}
use Rattle.ioa_terms.specs.declared.tree.Kind.TheVariants as kinds
use Rattle.ioa_terms.specs.PlainTerm as plain
use Rattle.ioa_terms.specs.PlainTerm.{statements_of, arms_of}
use Rattle.ioa_terms.specs.PlainSort.{PlainSort, booleans, integers, naturals, sequences, sets, maps, named_type}
use Rattle.ioa_source.specs.PlainText as declarations
use Rattle.ioa_source.specs.Sides.{SourceTerm as Term, SourceTarget as Target, SourceStatement as Statement}
use Rattle.ioa_source.specs.Sides.{SourceStatements as Statements, SourceFiring as Firing, SourceDeclared as Declared}
use Rattle.ioa_source.specs.Sides.{SourceParameter as Parameter, SourceEntry as Entry, SourceVariable as Variable}
use Rattle.ioa_source.specs.Sides.{SourceTransition as Transition, SourceSchedule as Schedule, SourceForm as Form}
use Rattle.ioa_source.specs.Sides.{SourceType as TypeOf}
use Rattle.ioa_source.specs.Sides.{SourceAutomaton as Automaton, SourceDeclaration as Declaration}
use Rattle.ioa_source.specs.Sides.{SourceNode as Node, SourceCall as Call, SourceScript as Script}
use Rattle.ioa_source.specs.Sides.{SourcePlacement as Placement, SourceInvariant as Invariant, SourceText}
use Rattle.ioa_actions.specs.declared.component.ChannelKind.{ChannelKind}
use Rattle.ioa_actions.specs.declared.component.ChannelKind.TheVariants.{Ordered, Unordered}
use Rattle.ioa_source.specs.declared.declaration.Channel.{Channel}
use Rattle.ioa_cursor.specs.Reading.{◌>>=◌, choose, skip, expect, word, number, end}
use Rattle.ioa_cursor.specs.Reading.{at, at_word, peek_mark, advance, begins_with, resumes_with}
use Rattle.ioa_cursor.specs.Reading.{several, several_more, section, optional, several_lists, several_more_lists}
use Rattle.ioa_source.specs.Heights.{height_limit, statement_height}
use Rattle.ioa_term_reader.specs.Grammar.{bracket_limit}
use Rattle.ioa_term_reader.specs.Reading.{term}
use Rattle.ioa_part_reader.specs.Grammar.{declare, inner_limit, schedule_with}
use Rattle.ioa_part_reader.specs.declared.statement.Context.{Context}
use Rattle.ioa_part_reader.specs.declared.statement.Context.TheVariants.{Effect, Block}

-- `next` reads the sorts in the brackets of a sort
module _ (next : List Token → Option (PlainSort × List Token)) where
  -- [ Sort ]
  unfoldable pub item_sort : List Token → Option (PlainSort × List Token)
  item_sort xs =
      expect mark.OpenSquare xs >>= λ o. next o.1 >>= λ s. expect mark.CloseSquare s.1 >>= λ c. Some (s.0, c.1)

  -- [ Sort , Sort ]
  unfoldable pub map_sort : List Token → Option (PlainSort × List Token)
  map_sort xs =
      expect mark.OpenSquare xs >>= λ o. next o.1 >>= λ k. expect mark.Comma k.1 >>= λ m. next m.1 >>= λ v.
      expect mark.CloseSquare v.1 >>= λ c. Some (maps k.0 v.0, c.1)

  -- the sort that a mark begins, after the mark
  unfoldable pub marked_sort : Mark → List Token → Option (PlainSort × List Token)
  marked_sort mark.Bool xs = Some (booleans, xs)
  marked_sort mark.Int xs = Some (integers, xs)
  marked_sort mark.Nat xs = Some (naturals, xs)
  marked_sort mark.Seq xs = item_sort xs >>= λ s. Some (sequences s.0, s.1)
  marked_sort mark.Set xs = item_sort xs >>= λ s. Some (sets s.0, s.1)
  marked_sort mark.Map xs = map_sort xs
  marked_sort _ xs = None

  abbrev pub sort_by : List Token → Option (PlainSort × List Token)
  sort_by xs =
      choose (at_word xs)
      (word xs >>= λ w. Some (named_type w.0, w.1))
      (peek_mark xs >>= λ m. marked_sort m (advance xs))

-- Sort, whose brackets are fewer than `depth` deep
unfoldable pub sort_in : ℕ → List Token → Option (PlainSort × List Token)
sort_in zero xs = None
sort_in (suc depth) xs = sort_by (sort_in depth) xs

-- Sort. `room` is how many more brackets may be opened.
abbrev pub sort : ℕ → List Token → Option (PlainSort × List Token)
sort room xs = sort_in (suc room) xs

-- Word {, Word}
unfoldable pub words : List Token → Option (List (List ℕ) × List Token)
words xs = several_more (skip mark.Comma) word [] xs

-- Word {, Word} : Sort
unfoldable pub declared_group : ℕ → List Token → Option (List Declared × List Token)
declared_group room xs =
    words xs >>= λ ws. expect mark.Colon ws.1 >>= λ c. sort room c.1 >>= λ s. Some (declare s.0 ws.0, s.1)

-- Declared {, Declared}
unfoldable pub declared_names : ℕ → List Token → Option (List Declared × List Token)
declared_names room xs = several_more_lists (skip mark.Comma) (declared_group room) xs

-- const Term, or Declared
unfoldable pub parameter_group : ℕ → List Token → Option (List Parameter × List Token)
parameter_group room xs =
    choose (skip mark.Const xs).0
    (term room (skip mark.Const xs).1 >>= λ t. Some (declarations.const t.0 ∷ [], t.1))
    (declared_group room (skip mark.Const xs).1 >>= λ ds. Some (map declarations.named ds.0, ds.1))

-- Param {, Param}
unfoldable pub parameters : ℕ → List Token → Option (List Parameter × List Token)
parameters room xs = several_more_lists (skip mark.Comma) (parameter_group room) xs

-- [ ( [X] ) ]
abbrev pub in_brackets : {A : Type 0} →
    (List Token → Option (List A × List Token)) → List Token → Option (List A × List Token)
in_brackets read xs =
    choose (skip mark.OpenRound xs).0
    (choose (skip mark.CloseRound (skip mark.OpenRound xs).1).0
    (Some ([], (skip mark.CloseRound (skip mark.OpenRound xs).1).1))
    (read (skip mark.CloseRound (skip mark.OpenRound xs).1).1 >>= λ r.
    expect mark.CloseRound r.1 >>= λ c. Some (r.0, c.1)))
    (Some ([], (skip mark.OpenRound xs).1))

-- Term {, Term}, in brackets
unfoldable pub terms : List Token → Option (List Term × List Token)
terms xs = several_more (skip mark.Comma) (term inner_limit) [] xs

-- [ ( [Term {, Term}] ) ]
unfoldable pub arguments : List Token → Option (List Term × List Token)
arguments xs = in_brackets terms xs

-- Word and its arguments
unfoldable pub call : List Token → Option (Call × List Token)
call xs = word xs >>= λ w. arguments w.1 >>= λ ts. Some (record { name = w.0; arguments = ts.0 }, ts.1)

-- Call {, Call}
unfoldable pub calls : List Token → Option (List Call × List Token)
calls xs = several_more (skip mark.Comma) call [] xs

-- the kind that a mark says, if it says one
abbrev pub kind_of : Mark → Option Kind
kind_of mark.Input = Some kinds.Input
kind_of mark.Output = Some kinds.Output
kind_of mark.Internal = Some kinds.Internal
kind_of _ = None

-- the kind that comes first, if one does
unfoldable pub kind_first : List Token → Option Kind
kind_first xs = peek_mark xs >>= λ m. kind_of m

-- whether a kind comes first
unfoldable pub at_kind : List Token → Bool
at_kind xs = elim (kind_first xs) [ None ↦ false | Some k ↦ true ]

-- input, output or internal
unfoldable pub kind : List Token → Option (Kind × List Token)
kind xs = kind_first xs >>= λ k. Some (k, advance xs)

-- [ ( [Param {, Param}] ) ]
unfoldable pub entry_parameters : List Token → Option (List Parameter × List Token)
entry_parameters xs = in_brackets (parameters inner_limit) xs

-- [where Term]
unfoldable pub condition : List Token → Option (Option Term × List Token)
condition xs = optional mark.Where (term bracket_limit) xs

-- Word [ ( [Param {, Param}] ) ] [where Term]
unfoldable pub entry : Kind → List Token → Option (Entry × List Token)
entry k xs =
    word xs >>= λ w. entry_parameters w.1 >>= λ ps. condition ps.1 >>= λ c.
    Some (record { kind = k; name = w.0; parameters = ps.0; condition = c.0 }, c.1)

-- Entry {, Entry} [,]
unfoldable pub entries : Kind → List Token → Option (List Entry × List Token)
entries k xs = several_more (resumes_with mark.Comma at_word) (entry k) [] xs

-- Kind Entry {, Entry} [,]
unfoldable pub group : List Token → Option (List Entry × List Token)
group xs = kind xs >>= λ k. entries k.0 k.1

-- {Kind Entry {, Entry} [,]}
unfoldable pub groups : List Token → Option (List Entry × List Token)
groups xs = several_lists (begins_with at_kind) group xs

-- [:= Term]
unfoldable pub initial : List Token → Option (Option Term × List Token)
initial xs = optional mark.Assign (term bracket_limit) xs

-- Word : Sort [:= Term]
unfoldable pub variable : List Token → Option (Variable × List Token)
variable xs =
    word xs >>= λ w. expect mark.Colon w.1 >>= λ c. sort bracket_limit c.1 >>= λ s. initial s.1 >>= λ i.
    Some (record { declared = record { name = w.0; sort = s.0; shape = tt }; initial = i.0 }, i.1)

-- Variable {, Variable}
unfoldable pub variables : List Token → Option (List Variable × List Token)
variables xs = several_more (skip mark.Comma) variable [] xs

-- Term ], after the word `w` and the bracket that opens
unfoldable pub key_target : List ℕ → List Token → Option (Target × List Token)
key_target w xs =
    term inner_limit xs >>= λ t. expect mark.CloseSquare t.1 >>= λ c. Some (plain.at_key w tt tt t.0, c.1)

-- Word, Word [ Term ], or Word . Word
unfoldable pub target : List Token → Option (Target × List Token)
target xs =
    word xs >>= λ w.
    choose (skip mark.OpenSquare w.1).0
    (key_target w.0 (skip mark.OpenSquare w.1).1)
    (choose (skip mark.Dot (skip mark.OpenSquare w.1).1).0
    (word (skip mark.Dot (skip mark.OpenSquare w.1).1).1 >>= λ f. Some (plain.at_field w.0 tt tt f.0, f.1))
    (Some (plain.variable w.0 tt tt, (skip mark.Dot (skip mark.OpenSquare w.1).1).1)))

-- Term, after the target `p` and :=
unfoldable pub assigned_term : Target → List Token → Option (Statement × List Token)
assigned_term p xs = term bracket_limit xs >>= λ t. Some (plain.assign p t.0, t.1)

-- Target := Term
unfoldable pub assignment : List Token → Option (Statement × List Token)
assignment xs = target xs >>= λ p. expect mark.Assign p.1 >>= λ a. assigned_term p.0 a.1

-- a statement, if it is not too high
unfoldable pub limited_statement : Statement → Option Statement
limited_statement s = if nat_le (statement_height s) height_limit then Some s else None

-- Word : Sort, after `choose`
unfoldable pub chosen_name : List Token → Option ((List ℕ × PlainSort) × List Token)
chosen_name xs =
    word xs >>= λ w. expect mark.Colon w.1 >>= λ c. sort bracket_limit c.1 >>= λ s. Some ((w.0, s.0), s.1)

-- where Term yield Term
unfoldable pub chosen_terms : List Token → Option ((Term × Term) × List Token)
chosen_terms xs =
    expect mark.Where xs >>= λ h. term bracket_limit h.1 >>= λ t. expect mark.Yield t.1 >>= λ y.
    term bracket_limit y.1 >>= λ u. Some ((t.0, u.0), u.1)

-- Word : Sort where Term yield Term, after the target `p`, := and `choose`
unfoldable pub choosing : Target → List Token → Option (Statement × List Token)
choosing p xs =
    chosen_name xs >>= λ n. chosen_terms n.1 >>= λ t.
    limited_statement (plain.choosing (plain.choice_with p n.0.0 n.0.1 tt t.0.0 t.0.1)) >>= λ s. Some (s, t.1)

-- Target := Term, or Target := choose Word : Sort where Term yield Term
unfoldable pub effect_statement : List Token → Option (Statement × List Token)
effect_statement xs =
    target xs >>= λ p. expect mark.Assign p.1 >>= λ a.
    choose (skip mark.Choose a.1).0
    (choosing p.0 (skip mark.Choose a.1).1)
    (assigned_term p.0 (skip mark.Choose a.1).1)

-- whether a statement begins with one of the words that only a schedule block has
unfoldable pub begins_in_block : List Token → Bool
begins_in_block xs = if at mark.While xs then true else at mark.Fire xs

-- whether a statement begins
unfoldable pub begins_statement : Context → List Token → Bool
begins_statement Effect xs = if at_word xs then true else at mark.If xs
begins_statement Block xs = if at_word xs then true else (if at mark.If xs then true else begins_in_block xs)

-- [Kind] Call, after `fire`
unfoldable pub firing : List Token → Option (Firing × List Token)
firing xs =
    choose (at_kind xs)
    (kind xs >>= λ k. call k.1 >>= λ c. Some (plain.firing (Some k.0) c.0.name tt c.0.arguments, c.1))
    (call xs >>= λ c. Some (plain.firing None c.0.name tt c.0.arguments, c.1))

-- fire [Kind] Call, after the first word
unfoldable pub fire_statement : List Token → Option (Statement × List Token)
fire_statement xs = firing xs >>= λ f. limited_statement (plain.fire f.0) >>= λ s. Some (s, f.1)

-- `next` reads the statements in a statement
module _ (next : List Token → Option (List Statement × List Token)) where
  -- Term then Statements
  unfoldable pub one_arm : List Token → Option ((Term × Statements) × List Token)
  one_arm xs =
      term bracket_limit xs >>= λ t. expect mark.Then t.1 >>= λ e. next e.1 >>= λ ss.
      Some ((t.0, statements_of ss.0), ss.1)

  -- Term then Statements {elseif Term then Statements}
  unfoldable pub all_arms : List Token → Option (List (Term × Statements) × List Token)
  all_arms xs = several_more (skip mark.ElseIf) one_arm [] xs

  -- [else Statements] fi
  unfoldable pub rest_of : List Token → Option (List Statement × List Token)
  rest_of xs =
      choose (skip mark.Else xs).0
      (next (skip mark.Else xs).1 >>= λ ss. expect mark.Fi ss.1 >>= λ c. Some (ss.0, c.1))
      (expect mark.Fi (skip mark.Else xs).1 >>= λ c. Some ([], c.1))

  -- if Arms [else Statements] fi, after the first word
  unfoldable pub choice : List Token → Option (Statement × List Token)
  choice xs =
      all_arms xs >>= λ arms. rest_of arms.1 >>= λ r.
      limited_statement (plain.branch (arms_of arms.0) (statements_of r.0)) >>= λ s. Some (s, r.1)

  -- while Term do Statements od, after the first word
  unfoldable pub repetition : List Token → Option (Statement × List Token)
  repetition xs =
      term bracket_limit xs >>= λ t. expect mark.Do t.1 >>= λ d. next d.1 >>= λ ss. expect mark.Od ss.1 >>= λ o.
      limited_statement (plain.loop t.0 (statements_of ss.0)) >>= λ s. Some (s, o.1)

  -- while, fire or an assignment
  unfoldable pub block_statement : List Token → Option (Statement × List Token)
  block_statement xs =
      choose (skip mark.While xs).0
      (repetition (skip mark.While xs).1)
      (choose (skip mark.Fire (skip mark.While xs).1).0
      (fire_statement (skip mark.Fire (skip mark.While xs).1).1)
      (assignment (skip mark.Fire (skip mark.While xs).1).1))

  -- a statement other than an `if`
  unfoldable pub other_statement : Context → List Token → Option (Statement × List Token)
  other_statement Effect xs = effect_statement xs
  other_statement Block xs = block_statement xs

  -- a statement, which begins with `if` or is another
  unfoldable pub one_statement : Context → List Token → Option (Statement × List Token)
  one_statement c xs = choose (skip mark.If xs).0 (choice (skip mark.If xs).1) (other_statement c (skip mark.If xs).1)

-- Statement {; Statement} [;]. The statements in a statement are read at one depth less.
unfoldable pub statements_in : Context → ℕ → List Token → Option (List Statement × List Token)
statements_in c zero xs = None
statements_in c (suc depth) xs =
    several_more (resumes_with mark.Semicolon (begins_statement c)) (one_statement (statements_in c depth) c) [] xs

-- the statements of an effect or of a schedule block
unfoldable pub statements : Context → List Token → Option (List Statement × List Token)
statements c xs = statements_in c height_limit xs

-- [eff Statements]
unfoldable pub effect : List Token → Option (List Statement × List Token)
effect xs = section mark.Eff (statements Effect) xs

-- Term [;]
unfoldable pub guard : List Token → Option (Term × List Token)
guard xs = term bracket_limit xs >>= λ t. Some (t.0, (skip mark.Semicolon t.1).1)

-- [pre Term [;]]
unfoldable pub guard_part : List Token → Option (Option Term × List Token)
guard_part xs = optional mark.Pre guard xs

-- Kind Call [pre Term [;]] [eff Statements]
unfoldable pub transition : List Token → Option (Transition × List Token)
transition xs =
    kind xs >>= λ k. call k.1 >>= λ h. guard_part h.1 >>= λ g. effect g.1 >>= λ e.
    Some (record { kind = k.0; name = h.0.name; arguments = h.0.arguments; pre = g.0; effect = e.0 }, e.1)

-- {Transition}
unfoldable pub transitions : List Token → Option (List Transition × List Token)
transitions xs = several (begins_with at_kind) transition xs

-- do [Statements] od
unfoldable pub block : List Token → Option (List Statement × List Token)
block xs =
    expect mark.Do xs >>= λ d.
    choose (skip mark.Od d.1).0
    (Some ([], (skip mark.Od d.1).1))
    (statements Block (skip mark.Od d.1).1 >>= λ ss. expect mark.Od ss.1 >>= λ o. Some (ss.0, o.1))

-- [signature Groups]
unfoldable pub signature_part : List Token → Option (List Entry × List Token)
signature_part xs = section mark.Signature groups xs

-- [states Variables]
unfoldable pub states_part : List Token → Option (List Variable × List Token)
states_part xs = section mark.States variables xs

-- [transitions {Transition}]
unfoldable pub transitions_part : List Token → Option (List Transition × List Token)
transitions_part xs = section mark.Transitions transitions xs

-- [states Variables] do [Statements] od
unfoldable pub schedule : List Token → Option (Schedule × List Token)
schedule xs = states_part xs >>= λ v. block v.1 >>= λ b. Some (schedule_with v.0 b.0, b.1)

-- [schedule [States] do [Statements] od]
unfoldable pub schedule_part : List Token → Option (Schedule × List Token)
schedule_part xs =
    choose (skip mark.Schedule xs).0
    (schedule (skip mark.Schedule xs).1)
    (Some (schedule_with [] [], (skip mark.Schedule xs).1))

-- [ ( Declared {, Declared} ) ]
unfoldable pub head : List Token → Option (List Declared × List Token)
head xs =
    choose (skip mark.OpenRound xs).0
    (declared_names inner_limit (skip mark.OpenRound xs).1 >>= λ ds.
    expect mark.CloseRound ds.1 >>= λ c. Some (ds.0, c.1))
    (Some ([], (skip mark.OpenRound xs).1))

-- an automaton after its first word: Word, and its five parts
unfoldable pub automaton : List Token → Option (Automaton × List Token)
automaton xs =
    word xs >>= λ w. head w.1 >>= λ h. signature_part h.1 >>= λ g. states_part g.1 >>= λ v.
    transitions_part v.1 >>= λ t. schedule_part t.1 >>= λ b.
    Some (
      record {
        name = w.0;
        parameters = h.0;
        signature = g.0;
        states = v.0;
        transitions = t.0;
        schedule = b.0;
      },
      b.1,
    )

-- enumeration of Word {, Word}, or tuple of Declared {, Declared}
unfoldable pub form : List Token → Option (Form × List Token)
form xs =
    choose (skip mark.Enumeration xs).0
    (expect mark.Of (skip mark.Enumeration xs).1 >>= λ o. words o.1 >>= λ ws.
    Some (declarations.enumeration ws.0, ws.1))
    (expect mark.Tuple (skip mark.Enumeration xs).1 >>= λ t. expect mark.Of t.1 >>= λ o.
    declared_names bracket_limit o.1 >>= λ ds. Some (declarations.tuple_of ds.0, ds.1))

-- a type after its first word: Word = Form
unfoldable pub type_declaration : List Token → Option (TypeOf × List Token)
type_declaration xs =
    word xs >>= λ w. expect mark.Equal w.1 >>= λ e. form e.1 >>= λ f. Some (record { name = w.0; form = f.0 }, f.1)

-- whether a declaration begins
unfoldable pub at_declaration : List Token → Bool
at_declaration xs = if at mark.Type xs then true else at mark.Automaton xs

-- Type or Automaton
unfoldable pub declaration : List Token → Option (Declaration × List Token)
declaration xs =
    choose (skip mark.Type xs).0
    (type_declaration (skip mark.Type xs).1 >>= λ t. Some (declarations.type_named t.0, t.1))
    (expect mark.Automaton (skip mark.Type xs).1 >>= λ m. automaton m.1 >>= λ a. Some (declarations.automaton a.0, a.1))

-- {Type or Automaton}
unfoldable pub all_declarations : List Token → Option (List Declaration × List Token)
all_declarations xs = several (begins_with at_declaration) declaration xs

-- whether node, channel or script comes first
unfoldable pub at_placement : List Token → Bool
at_placement xs = if at mark.Node xs then true else (if at mark.Channel xs then true else at mark.Script xs)

-- Number : Call, after the first word
unfoldable pub node : List Token → Option (Node × List Token)
node xs =
    number xs >>= λ n. expect mark.Colon n.1 >>= λ c. call c.1 >>= λ a.
    Some (record { number = n.0; automaton = a.0.name; arguments = a.0.arguments }, a.1)

-- the kind of a channel, by whether it is declared unordered
abbrev pub channel_kind : Bool → ChannelKind
channel_kind false = Ordered
channel_kind true = Unordered

-- Number -> Number [unordered], after the first word
unfoldable pub channel : List Token → Option (Channel × List Token)
channel xs =
    number xs >>= λ i. expect mark.Arrow i.1 >>= λ a. number a.1 >>= λ j.
    Some (record { from = i.0; to = j.0; kind = channel_kind (skip mark.Unordered j.1).0 }, (skip mark.Unordered j.1).1)

-- Number : Call {, Call}, after the first word
unfoldable pub script : List Token → Option (Script × List Token)
script xs =
    number xs >>= λ n. expect mark.Colon n.1 >>= λ c. calls c.1 >>= λ cs.
    Some (record { node = n.0; calls = cs.0 }, cs.1)

-- Node, Channel or Script
unfoldable pub placement : List Token → Option (Placement × List Token)
placement xs =
    choose (skip mark.Node xs).0
    (node (skip mark.Node xs).1 >>= λ n. Some (declarations.node n.0, n.1))
    (choose (skip mark.Channel (skip mark.Node xs).1).0
    (channel (skip mark.Channel (skip mark.Node xs).1).1 >>= λ c. Some (declarations.channel c.0, c.1))
    (expect mark.Script (skip mark.Channel (skip mark.Node xs).1).1 >>= λ m. script m.1 >>= λ s.
    Some (declarations.script s.0, s.1)))

-- {Placement}
unfoldable pub all_placements : List Token → Option (List Placement × List Token)
all_placements xs = several (begins_with at_placement) placement xs

-- invariant Word : Term
unfoldable pub invariant : List Token → Option (Invariant × List Token)
invariant xs =
    expect mark.Invariant xs >>= λ m. word m.1 >>= λ w. expect mark.Colon w.1 >>= λ c. term bracket_limit c.1 >>= λ t.
    Some (record { name = w.0; term = t.0 }, t.1)

-- {Invariant}
unfoldable pub all_invariants : List Token → Option (List Invariant × List Token)
all_invariants xs = several (begins_with (at mark.Invariant)) invariant xs

-- a whole text
unfoldable pub whole : List Token → Option (SourceText × List Token)
whole xs =
    all_declarations xs >>= λ d. expect mark.System d.1 >>= λ s. all_placements s.1 >>= λ p. all_invariants p.1 >>= λ v.
    end v.1 >>= λ e. Some (record { declarations = d.0; system = p.0; invariants = v.0 }, e.1)
