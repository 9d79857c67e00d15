-- Declarations, placements and invariants are read as they are spelled, a production at a time.
use Rattle.std.proofs.Common.{◌≡◌, ◌∙◌, ℕ, ℤ, ◌<◌, Bool, true, false, List, [], ◌∷◌, Option, refl, arith}
use Rattle.ioa_actions.specs.declared.component.ChannelKind.{ChannelKind}
use Rattle.ioa_actions.specs.declared.component.ChannelKind.TheVariants.{Ordered, Unordered}
use Rattle.ioa_tokens.specs.declared.token.Token.{Token}
use Rattle.ioa_tokens.specs.declared.token.Token.TheVariants as token
use Rattle.ioa_tokens.specs.declared.mark.Mark.TheVariants as mark
use Rattle.ioa_terms.specs.declared.tree.Kind.{Kind}
use Rattle.ioa_terms.specs.PlainSort.{PlainSort}
use Rattle.ioa_source.specs.PlainText as declarations
use Rattle.ioa_source.specs.Sides.{SourceTerm as Term, SourceStatement as Statement, SourceDeclared as Declared, SourceEntry as Entry, SourceVariable as Variable, SourceTransition as Transition, SourceSchedule as Schedule, SourceForm as Form, SourceType as TypeOf, SourceAutomaton as Automaton, SourceDeclaration as Declaration, SourceNode as Node, SourceCall as Call, SourceScript as Script, SourcePlacement as Placement, SourceInvariant as Invariant}
use Rattle.ioa_cursor.specs.Lists.{Several, SeparatedBy, Section, Optional, SeveralLists}
use Rattle.ioa_cursor.specs.Reading.{bind, choose, skip, expect, word, number, at}
use Rattle.ioa_cursor.proofs.Steps.{read_next, stays}
use Rattle.ioa_cursor.proofs.Follow.{skip_same, skip_other, several_starts, optional_starts, section_starts}
use Rattle.ioa_cursor.proofs.CompleteLists.{several_complete, separated_complete, section_complete, optional_complete}
use Rattle.ioa_term_reader.specs.Grammar.{bracket_limit, SpellsTerm}
use Rattle.ioa_term_reader.specs.Reading.{term}
use Rattle.ioa_part_reader.specs.declared.statement.Context.TheVariants.{Effect, Block}
use Rattle.ioa_part_reader.specs.Grammar as grammar
use Rattle.ioa_part_reader.specs.Grammar.{inner_limit, schedule_with, SpellsGroup, SpellsVariable, SpellsLow, SpellsGuard, SpellsTransition, SpellsBlock, SpellsSchedule, SpellsHead, SpellsForm, SpellsDeclaration, SpellsPlacement, SpellsInvariant}
use Rattle.ioa_part_reader.specs.Reading as reading
use Rattle.ioa_part_reader.specs.Reading.{at_kind, at_declaration, at_placement}
use Rattle.ioa_part_reader.proofs.Closing.{Below, level, at_below, skip_below, at_kind_below, at_declaration_below, at_placement_below}
use Rattle.ioa_part_reader.proofs.Shorter.{variable_shorter, transition_shorter, declaration_shorter, placement_shorter, invariant_shorter}
use Rattle.ioa_part_reader.proofs.CompleteSorts.{sort_complete, words_complete, declared_names_complete}
use Rattle.ioa_part_reader.proofs.CompleteSignatures.{whole_term, call_complete, calls_complete, kind_complete, kind_begins, kind_level, signature_complete}
use Rattle.ioa_part_reader.proofs.CompleteStatements.{effect_complete, statements_complete, statements_not_over}

-- trees of their parts

abbrev variable_with : List ℕ → PlainSort → Option Term → Variable
variable_with w s i = record { declared = record { name = w; sort = s; shape = tt }; initial = i }

abbrev transition_with : Kind → Call → Option Term → List Statement → Transition
transition_with k c g ss = record { kind = k; name = c.name; arguments = c.arguments; pre = g; effect = ss }

abbrev automaton_with : List ℕ → List Declared → List Entry → List Variable → List Transition → Schedule → Automaton
automaton_with w ds es vs ts b = record { name = w; parameters = ds; signature = es; states = vs; transitions = ts; schedule = b }

abbrev type_with : List ℕ → Form → TypeOf
type_with w f = record { name = w; form = f }

abbrev node_with : ℤ → Call → Node
node_with n c = record { number = n; automaton = c.name; arguments = c.arguments }

abbrev script_with : ℤ → List Call → Script
script_with n cs = record { node = n; calls = cs }

abbrev invariant_with : List ℕ → Term → Invariant
invariant_with w t = record { name = w; term = t }

-- states

initial_complete : (i : Option Term) (xs ys : List Token) → Optional mark.Assign (SpellsTerm bracket_limit) i xs ys → level ys < 13 → reading.initial xs ≡ read_next i ys
unfolding reading.initial
initial_complete i xs ys d h =
    optional_complete (Below 14) (SpellsTerm bracket_limit) (term bracket_limit) whole_term mark.Assign i xs ys d (omega arith) (at_below mark.Assign ys h)

variable_read : (w : List ℕ) (s : PlainSort) (i : Option Term) (xs ys zs : List Token) → reading.sort bracket_limit xs ≡ read_next s ys → reading.initial ys ≡ read_next i zs →
    reading.variable (token.Word w ∷ token.Mark mark.Colon ∷ xs) ≡ read_next (variable_with w s i) zs
unfolding reading.variable word expect skip bind
variable_read w s i xs ys zs e f = rw e (rw f refl)

variable_complete : (x : Variable) (xs ys : List Token) → SpellsVariable x xs ys → level ys < 13 → reading.variable xs ≡ read_next x ys
variable_complete _ _ zs (grammar.of_sort {w = w} {s = s} {initial = i} {xs = xs} {ys = ys} sd id) h =
    variable_read w s i xs ys zs (sort_complete bracket_limit s xs ys sd) (initial_complete i ys zs id h)

variables_complete : (vs : List Variable) (xs ys : List Token) → SeparatedBy mark.Comma SpellsVariable vs xs ys → level ys < 11 → reading.variables xs ≡ read_next vs ys
unfolding reading.variables
variables_complete vs xs ys d h =
    separated_complete (Below 13) SpellsVariable reading.variable variable_complete variable_shorter mark.Comma (λ zs. omega arith) vs xs ys d (omega arith) (at_below mark.Comma ys h)

states_complete : (vs : List Variable) (xs ys : List Token) → Section mark.States (SeparatedBy mark.Comma SpellsVariable) vs xs ys → level ys < 6 → reading.states_part xs ≡ read_next vs ys
unfolding reading.states_part
states_complete vs xs ys d h =
    section_complete (Below 11) (SeparatedBy mark.Comma SpellsVariable) reading.variables variables_complete mark.States vs xs ys d (omega arith) (at_below mark.States ys h)

-- transitions

guard_read : (t : Term) (xs ys zs : List Token) (b : Bool) → term bracket_limit xs ≡ read_next t ys → skip mark.Semicolon ys ≡ stays b zs → reading.guard xs ≡ read_next t zs
unfolding reading.guard bind
guard_read t xs ys zs b e f = rw e (rw f refl)

guard_complete : (t : Term) (xs ys : List Token) → SpellsGuard t xs ys → level ys < 11 → reading.guard xs ≡ read_next t ys
guard_complete t xs ys (grammar.guard d) h = guard_read t xs ys ys false (whole_term t xs ys d (omega arith)) (skip_below mark.Semicolon ys h)
guard_complete t xs ys (grammar.closed_guard d) h = guard_read t xs _ ys true (whole_term t xs _ d (omega arith)) (skip_same mark.Semicolon ys)

guard_part_complete : (g : Option Term) (xs ys : List Token) → Optional mark.Pre SpellsGuard g xs ys → level ys < 10 → reading.guard_part xs ≡ read_next g ys
unfolding reading.guard_part
guard_part_complete g xs ys d h = optional_complete (Below 11) SpellsGuard reading.guard guard_complete mark.Pre g xs ys d (omega arith) (at_below mark.Pre ys h)

transition_read : (k : Kind) (c : Call) (g : Option Term) (ss : List Statement) (xs ps qs rs ys : List Token) →
    reading.kind xs ≡ read_next k ps → reading.call ps ≡ read_next c qs → reading.guard_part qs ≡ read_next g rs → reading.effect rs ≡ read_next ss ys →
    reading.transition xs ≡ read_next (transition_with k c g ss) ys
unfolding reading.transition bind
transition_read k c g ss xs ps qs rs ys e f i j = rw e (rw f (rw i (rw j refl)))

transition_complete : (x : Transition) (xs ys : List Token) → SpellsTransition x xs ys → level ys < 9 → reading.transition xs ≡ read_next x ys
transition_complete _ xs ys (grammar.transition {k = k} {head = c} {pre = g} {effect = ss} {ps = ps} {qs = qs} {rs = rs} kd cd gd ed) h =
    let below = section_starts (Below 10) mark.Eff (SpellsLow Effect) (λ zs. omega arith) ss rs ys ed (omega arith) in
    let low = optional_starts (Below 14) mark.Pre SpellsGuard (λ zs. omega arith) g qs rs gd (omega arith) in
    transition_read k c g ss xs ps qs rs ys (kind_complete k xs ps kd) (call_complete c ps qs cd low) (guard_part_complete g qs rs gd below) (effect_complete ss rs ys ed h)

transition_begins : (x : Transition) (xs ys : List Token) → SpellsTransition x xs ys → at_kind xs ≡ true
transition_begins _ _ _ (grammar.transition kd cd gd ed) = kind_begins _ _ _ kd

transition_level : (x : Transition) (xs ys : List Token) → SpellsTransition x xs ys → level xs < 9
transition_level _ _ _ (grammar.transition kd cd gd ed) = kind_level _ _ _ kd

transitions_complete : (ts : List Transition) (xs ys : List Token) → Several SpellsTransition ts xs ys → level ys < 8 → reading.transitions xs ≡ read_next ts ys
unfolding reading.transitions
transitions_complete ts xs ys d h =
    several_complete (Below 9) SpellsTransition reading.transition transition_complete transition_shorter at_kind transition_begins transition_level ts xs ys d (omega arith) (at_kind_below ys h)

transitions_part_complete : (ts : List Transition) (xs ys : List Token) → Section mark.Transitions (Several SpellsTransition) ts xs ys → level ys < 5 → reading.transitions_part xs ≡ read_next ts ys
unfolding reading.transitions_part
transitions_part_complete ts xs ys d h =
    section_complete (Below 8) (Several SpellsTransition) reading.transitions transitions_complete mark.Transitions ts xs ys d (omega arith) (at_below mark.Transitions ys h)

-- schedules

idle_block : (xs : List Token) → reading.block (token.Mark mark.Do ∷ token.Mark mark.Od ∷ xs) ≡ read_next [] xs
unfolding reading.block expect skip bind choose
idle_block xs = refl

busy_block : (ss : List Statement) (xs ys : List Token) → skip mark.Od xs ≡ stays false xs → reading.statements Block xs ≡ read_next ss (token.Mark mark.Od ∷ ys) →
    reading.block (token.Mark mark.Do ∷ xs) ≡ read_next ss ys
unfolding reading.block expect bind choose
busy_block ss xs ys e f = rw (skip_same mark.Do xs) (rw e (rw f (rw (skip_same mark.Od ys) refl)))

block_complete : (ss : List Statement) (xs ys : List Token) → SpellsBlock ss xs ys → reading.block xs ≡ read_next ss ys
block_complete _ _ ys grammar.idle = idle_block ys
block_complete ss _ ys (grammar.busy {xs = xs} d) =
    busy_block ss xs ys (skip_other mark.Od xs (statements_not_over d.spelled)) (statements_complete Block ss xs _ d (omega arith))

block_level : (ss : List Statement) (xs ys : List Token) → SpellsBlock ss xs ys → level xs < 6
block_level _ _ _ grammar.idle = omega arith
block_level _ _ _ (grammar.busy d) = omega arith

no_schedule_read : (xs : List Token) → skip mark.Schedule xs ≡ stays false xs → reading.schedule_part xs ≡ read_next (schedule_with [] []) xs
unfolding reading.schedule_part choose
no_schedule_read xs e = rw e refl

schedule_read : (vs : List Variable) (ss : List Statement) (xs ys zs : List Token) → reading.states_part xs ≡ read_next vs ys → reading.block ys ≡ read_next ss zs →
    reading.schedule_part (token.Mark mark.Schedule ∷ xs) ≡ read_next (schedule_with vs ss) zs
unfolding reading.schedule_part reading.schedule skip bind choose
schedule_read vs ss xs ys zs e f = rw e (rw f refl)

schedule_complete : (x : Schedule) (xs ys : List Token) → SpellsSchedule x xs ys → level ys < 4 → reading.schedule_part xs ≡ read_next x ys
schedule_complete _ _ ys grammar.no_schedule h = no_schedule_read ys (skip_below mark.Schedule ys h)
schedule_complete _ _ zs (grammar.schedule {variables = vs} {statements = ss} {xs = xs} {ys = ys} vd bd) h =
    schedule_read vs ss xs ys zs (states_complete vs xs ys vd (block_level ss ys zs bd)) (block_complete ss ys zs bd)

schedule_level : (x : Schedule) (xs ys : List Token) → SpellsSchedule x xs ys → level ys < 4 → level xs < 5
schedule_level _ _ _ grammar.no_schedule h = omega arith
schedule_level _ _ _ (grammar.schedule vd bd) h = omega arith

-- automata

no_head : (xs : List Token) → skip mark.OpenRound xs ≡ stays false xs → reading.head xs ≡ read_next [] xs
unfolding reading.head choose
no_head xs e = rw e refl

some_head : (ds : List Declared) (xs ys : List Token) → reading.declared_names inner_limit xs ≡ read_next ds (token.Mark mark.CloseRound ∷ ys) →
    reading.head (token.Mark mark.OpenRound ∷ xs) ≡ read_next ds ys
unfolding reading.head expect skip bind choose
some_head ds xs ys e = rw e refl

head_complete : (ds : List Declared) (xs ys : List Token) → SpellsHead ds xs ys → level ys < 14 → reading.head xs ≡ read_next ds ys
head_complete _ _ ys grammar.no_parameters h = no_head ys (skip_below mark.OpenRound ys h)
head_complete ds _ ys (grammar.parameters {xs = xs} d) h = some_head ds xs ys (declared_names_complete inner_limit ds xs _ d (omega arith))

automaton_read : (w : List ℕ) (ds : List Declared) (es : List Entry) (vs : List Variable) (ts : List Transition) (b : Schedule) (xs os ps qs rs ys : List Token) →
    reading.head xs ≡ read_next ds os → reading.signature_part os ≡ read_next es ps → reading.states_part ps ≡ read_next vs qs → reading.transitions_part qs ≡ read_next ts rs →
    reading.schedule_part rs ≡ read_next b ys → reading.automaton (token.Word w ∷ xs) ≡ read_next (automaton_with w ds es vs ts b) ys
unfolding reading.automaton word bind
automaton_read w ds es vs ts b xs os ps qs rs ys e f i j k = rw e (rw f (rw i (rw j (rw k refl))))

declared_automaton : (a : Automaton) (xs ys : List Token) → reading.automaton xs ≡ read_next a ys → reading.declaration (token.Mark mark.Automaton ∷ xs) ≡ read_next (declarations.automaton a) ys
unfolding reading.declaration expect skip bind choose
declared_automaton a xs ys e = rw e refl

-- types

constants_read : (ws : List (List ℕ)) (xs ys : List Token) → reading.words xs ≡ read_next ws ys → reading.form (token.Mark mark.Enumeration ∷ token.Mark mark.Of ∷ xs) ≡ read_next (declarations.enumeration ws) ys
unfolding reading.form expect skip bind choose
constants_read ws xs ys e = rw e refl

fields_read : (ds : List Declared) (xs ys : List Token) → reading.declared_names bracket_limit xs ≡ read_next ds ys →
    reading.form (token.Mark mark.Tuple ∷ token.Mark mark.Of ∷ xs) ≡ read_next (declarations.tuple_of ds) ys
unfolding reading.form expect skip bind choose
fields_read ds xs ys e = rw e refl

form_complete : (f : Form) (xs ys : List Token) → SpellsForm f xs ys → level ys < 11 → reading.form xs ≡ read_next f ys
form_complete _ _ ys (grammar.constants {ws = ws} {xs = xs} d) h = constants_read ws xs ys (words_complete ws xs ys d h)
form_complete _ _ ys (grammar.fields {ds = ds} {xs = xs} d) h = fields_read ds xs ys (declared_names_complete bracket_limit ds xs ys d h)

type_read : (w : List ℕ) (f : Form) (xs ys : List Token) → reading.form xs ≡ read_next f ys →
    reading.declaration (token.Mark mark.Type ∷ token.Word w ∷ token.Mark mark.Equal ∷ xs) ≡ read_next (declarations.type_named (type_with w f)) ys
unfolding reading.declaration reading.type_declaration word expect skip bind choose
type_read w f xs ys e = rw e refl

-- declarations

declaration_complete : (x : Declaration) (xs ys : List Token) → SpellsDeclaration x xs ys → level ys < 4 → reading.declaration xs ≡ read_next x ys
declaration_complete _ _ ys (grammar.type_form {w = w} {f = f} {xs = xs} d) h = type_read w f xs ys (form_complete f xs ys d (omega arith))
declaration_complete _ _ ys (grammar.automaton_parts {w = w} {head = ds} {entries = es} {variables = vs} {transitions = ts} {block = b} {xs = xs} {os = os} {ps = ps} {qs = qs} {rs = rs} hd ed vd td sd) h =
    let starts = schedule_level b rs ys sd h in
    let d = section_starts (Below 6) mark.Transitions (Several SpellsTransition) (λ zs. omega arith) ts qs rs td (omega arith) in
    let c = section_starts (Below 7) mark.States (SeparatedBy mark.Comma SpellsVariable) (λ zs. omega arith) vs ps qs vd (omega arith) in
    let e = section_starts (Below 14) mark.Signature (SeveralLists SpellsGroup) (λ zs. omega arith) es os ps ed (omega arith) in
    declared_automaton (automaton_with w ds es vs ts b) (token.Word w ∷ xs) ys
    (automaton_read w ds es vs ts b xs os ps qs rs ys (head_complete ds xs os hd e) (signature_complete es os ps ed c) (states_complete vs ps qs vd d) (transitions_part_complete ts qs rs td starts)
    (schedule_complete b rs ys sd h))

declaration_begins : (x : Declaration) (xs ys : List Token) → SpellsDeclaration x xs ys → at_declaration xs ≡ true
unfolding at_declaration at
declaration_begins _ _ _ (grammar.type_form d) = refl
declaration_begins _ _ _ (grammar.automaton_parts hd ed vd td sd) = refl

declaration_level : (x : Declaration) (xs ys : List Token) → SpellsDeclaration x xs ys → level xs < 4
declaration_level _ _ _ (grammar.type_form d) = omega arith
declaration_level _ _ _ (grammar.automaton_parts hd ed vd td sd) = omega arith

-- declarations are read as they are spelled
pub declared_complete : (ds : List Declaration) (xs ys : List Token) → Several SpellsDeclaration ds xs ys → level ys < 3 → reading.all_declarations xs ≡ read_next ds ys
unfolding reading.all_declarations
declared_complete ds xs ys d h =
    several_complete (Below 4) SpellsDeclaration reading.declaration declaration_complete declaration_shorter at_declaration declaration_begins declaration_level ds xs ys d (omega arith)
    (at_declaration_below ys h)

-- systems

node_read : (n : ℤ) (c : Call) (xs ys : List Token) → reading.call xs ≡ read_next c ys →
    reading.placement (token.Mark mark.Node ∷ token.Number n ∷ token.Mark mark.Colon ∷ xs) ≡ read_next (declarations.node (node_with n c)) ys
unfolding reading.placement reading.node number expect skip bind choose
node_read n c xs ys e = rw e refl

abbrev channel_with : ℤ → ℤ → ChannelKind → Placement
channel_with i j o = declarations.channel (record { from = i; to = j; kind = o })

-- what stands behind the ends of a channel
channel_read : (i j : ℤ) (xs : List Token) → reading.placement (token.Mark mark.Channel ∷ token.Number i ∷ token.Mark mark.Arrow ∷ token.Number j ∷ xs)
    ≡ read_next (channel_with i j (reading.channel_kind (skip mark.Unordered xs).0)) (skip mark.Unordered xs).1
unfolding reading.placement reading.channel number expect skip bind choose
channel_read i j xs = refl

ordered_read : (i j : ℤ) (xs : List Token) → level xs < 4 → reading.placement (token.Mark mark.Channel ∷ token.Number i ∷ token.Mark mark.Arrow ∷ token.Number j ∷ xs)
    ≡ read_next (channel_with i j Ordered) xs
ordered_read i j xs h = channel_read i j xs ∙ rw (skip_below mark.Unordered xs h) refl

unordered_read : (i j : ℤ) (xs : List Token) → reading.placement (token.Mark mark.Channel ∷ token.Number i ∷ token.Mark mark.Arrow ∷ token.Number j ∷ token.Mark mark.Unordered ∷ xs)
    ≡ read_next (channel_with i j Unordered) xs
unfolding reading.placement reading.channel number expect skip bind choose
unordered_read i j xs = refl

script_read : (n : ℤ) (cs : List Call) (xs ys : List Token) → reading.calls xs ≡ read_next cs ys →
    reading.placement (token.Mark mark.Script ∷ token.Number n ∷ token.Mark mark.Colon ∷ xs) ≡ read_next (declarations.script (script_with n cs)) ys
unfolding reading.placement reading.script number expect skip bind choose
script_read n cs xs ys e = rw e refl

placement_complete : (x : Placement) (xs ys : List Token) → SpellsPlacement x xs ys → level ys < 4 → reading.placement xs ≡ read_next x ys
placement_complete _ _ ys (grammar.node {n = n} {call = c} {xs = xs} d) h = node_read n c xs ys (call_complete c xs ys d (omega arith))
placement_complete _ _ ys (grammar.channel {i = i} {j = j}) h = ordered_read i j ys h
placement_complete _ _ ys (grammar.unordered {i = i} {j = j}) h = unordered_read i j ys
placement_complete _ _ ys (grammar.script {n = n} {calls = cs} {xs = xs} d) h = script_read n cs xs ys (calls_complete cs xs ys d (omega arith))

placement_begins : (x : Placement) (xs ys : List Token) → SpellsPlacement x xs ys → at_placement xs ≡ true
unfolding at_placement at
placement_begins _ _ _ (grammar.node d) = refl
placement_begins _ _ _ grammar.channel = refl
placement_begins _ _ _ grammar.unordered = refl
placement_begins _ _ _ (grammar.script d) = refl

placement_level : (x : Placement) (xs ys : List Token) → SpellsPlacement x xs ys → level xs < 4
placement_level _ _ _ (grammar.node d) = omega arith
placement_level _ _ _ grammar.channel = omega arith
placement_level _ _ _ grammar.unordered = omega arith
placement_level _ _ _ (grammar.script d) = omega arith

-- placements are read as they are spelled
pub placed_complete : (ps : List Placement) (xs ys : List Token) → Several SpellsPlacement ps xs ys → level ys < 3 → reading.all_placements xs ≡ read_next ps ys
unfolding reading.all_placements
placed_complete ps xs ys d h =
    several_complete (Below 4) SpellsPlacement reading.placement placement_complete placement_shorter at_placement placement_begins placement_level ps xs ys d (omega arith)
    (at_placement_below ys h)

-- invariants

invariant_read : (w : List ℕ) (t : Term) (xs ys : List Token) → term bracket_limit xs ≡ read_next t ys →
    reading.invariant (token.Mark mark.Invariant ∷ token.Word w ∷ token.Mark mark.Colon ∷ xs) ≡ read_next (invariant_with w t) ys
unfolding reading.invariant word expect skip bind
invariant_read w t xs ys e = rw e refl

invariant_complete : (x : Invariant) (xs ys : List Token) → SpellsInvariant x xs ys → level ys < 3 → reading.invariant xs ≡ read_next x ys
invariant_complete _ _ ys (grammar.invariant {w = w} {t = t} {xs = xs} d) h = invariant_read w t xs ys (whole_term t xs ys d (omega arith))

invariant_begins : (x : Invariant) (xs ys : List Token) → SpellsInvariant x xs ys → at mark.Invariant xs ≡ true
unfolding at
invariant_begins _ _ _ (grammar.invariant d) = refl

invariant_level : (x : Invariant) (xs ys : List Token) → SpellsInvariant x xs ys → level xs < 3
invariant_level _ _ _ (grammar.invariant d) = omega arith

-- the invariants with which a text ends are read as they are spelled
pub invariants_complete : (vs : List Invariant) (xs : List Token) → Several SpellsInvariant vs xs [] → reading.all_invariants xs ≡ read_next vs []
unfolding reading.all_invariants
invariants_complete vs xs d =
    several_complete (Below 3) SpellsInvariant reading.invariant invariant_complete invariant_shorter (at mark.Invariant) invariant_begins invariant_level vs xs [] d (omega arith)
    (at_below mark.Invariant [] (omega arith))

-- the invariants of a text do not go on with a placement
pub invariants_level : (vs : List Invariant) (xs : List Token) → Several SpellsInvariant vs xs [] → level xs < 3
invariants_level vs xs d = several_starts (Below 3) SpellsInvariant invariant_level d (omega arith)
