-- A node takes each message that is under way to it.
use Rattle.std.proofs.Common.{◌≡◌, ℕ, ℤ, pos, true, List, [], ◌∷◌, Option, Some, None, Ok, inl, inr, refl, sym, ap, subst, ◌∙◌, slice_get, map, take, length, le-leb, arith}
use Rattle.std.specs.List.{AllZip, Contains}
use Rattle.std.specs.Ordering.{int_eq}
use Rattle.std.proofs.lemmas.Bool.Decides.{Decides-int_eq}
use Rattle.std.proofs.lemmas.Slice.Eq.{bytes_eq-Decides}
use Rattle.ioa_values.specs.Data.{Data, number}
use Rattle.ioa_operators.specs.Shapes.{PlainShape, has_shape}
use Rattle.ioa_terms.specs.Bindings.{Bindings, same_word}
use Rattle.ioa_terms.specs.Meaning.{value, numbers_met}
use Rattle.ioa_terms.specs.Sorted.{NameShapes}
use Rattle.ioa_terms.specs.declared.tree.Kind.TheVariants.{Input}
use Rattle.ioa_terms.specs.Choices.{left, given}
use Rattle.ioa_terms.specs.Performance.{after}
use Rattle.ioa_actions.specs.ActionParts.{receive_name, action_arguments}
use Rattle.ioa_actions.specs.declared.action.Action.{Action}
use Rattle.ioa_actions.specs.declared.component.Component.TheVariants as component
use Rattle.ioa_actions.specs.declared.action.Action.TheVariants.{Receive}
use Rattle.ioa_source.specs.PlainText.{const, named}
use Rattle.ioa_source.specs.declared.declaration.Channel as declaration
use Rattle.ioa_source.specs.Sides.{SourceEntry, SourceParameter, SourceTerm, SourceText, CheckedDeclared, CheckedParameter, CheckedTerm, CheckedVariable}
use Rattle.ioa_system.specs.InView.{entry_constant, entry_condition, guard_or_effect, given_bindings}
use Rattle.ioa_system.specs.Declarations.{DeclaresOnce}
use Rattle.ioa_system.specs.Parts.{Parts, PlainRule}
use Rattle.ioa_system.specs.Systems.{SystemParts}
use Rattle.ioa_types.specs.TextTypes.{PlainTextTypes}
use Rattle.ioa_types.specs.TypeTables.{TypeTable}
use Rattle.ioa_automata.specs.SortedAutomata.{AreMessageShapes, AreParametersOf, IsConditionOf, IsNumber, IsParameterOf, IsReceive, IsRuleOf, names_at}
use Rattle.ioa_system.specs.Systems.{program_numbered}
use Rattle.ioa_system.specs.Parts.{rule_named}
use Rattle.ioa_sections.specs.Meant.{IsChannelOf, IsConstantOf, IsEntryOn, TakesNumber}
use Rattle.ioa_check.specs.Systems.{IsSystemOf}
use Rattle.ioa_check.proofs.Declared.{declared_once}
use Rattle.ioa_compose.specs.Composition.{component_of, find_conf}
use Rattle.ioa_transitions.specs.Entries.{entry}
use Rattle.ioa_transitions.specs.NodeState.{NodeState, node_state}
use Rattle.ioa_transitions.specs.NodeStep.{GuardHolds, HasRule, IsNodeStep, IsOfSort, IsState, TakesArgument, rule_bindings}
use Rattle.ioa_actions.specs.ComponentOrder.{same_component}
use Rattle.ioa_channels.specs.Queues.{QueueState}
use Rattle.ioa_compose.specs.declared.configuration.Conf.{Conf}
use Rattle.ioa_compose.specs.declared.configuration.Conf.TheVariants.{Node, Queue}
use Rattle.ioa_channels.specs.declared.queue.Item.TheVariants.{Message}
use Rattle.ioa_compose.proofs.Components.{name_found}
use Rattle.ioa_transitions.proofs.NodeSignatures.{range_check_parts}
use Rattle.ioa_transitions.proofs.NodeSteps.{names_left}
use Rattle.ioa_run_laws.specs.Shaped.{FitsVariable, IsShapedNode, IsMessageTo, IsItemTo, IsShapedChannel, IsShapedQueue, IsShapedConf, AreShaped}
use Rattle.ioa_run_laws.specs.Awaited.{IsAwaited, AreMessagesAwaited}
use Rattle.ioa_sorts.proofs.Lookups.{contained_found, contained_has, found_contained, found_has}
use Rattle.ioa_run_laws.proofs.Accepted.{IsAcceptedProgram, is_accepted}
use Rattle.ioa_run_laws.proofs.Assigned.{widened}
use Rattle.ioa_run_laws.proofs.NodeSteps.{is_rule}

of_some : {A : Type 0} (a b : A) → Some a ≡ Some b → a ≡ b
of_some a b e = cc

-- the parameters of an entry, one by one
record FirstParameter (types : TypeTable) (names : NameShapes) (ps : List CheckedParameter) (s : PlainShape) (ss : List PlainShape) : Type 0 where
  written : SourceParameter
  others_written : List SourceParameter
  first : CheckedParameter
  others : List CheckedParameter
  same : ps ≡ first ∷ others
  sorted : IsParameterOf types names written first s
  others_sorted : AreParametersOf types names others_written others ss

first_parameter : (types : TypeTable) (names : NameShapes) (us : List SourceParameter) (ps : List CheckedParameter) (s : PlainShape) (ss : List PlainShape) → AreParametersOf types names us ps (s ∷ ss) → FirstParameter types names ps s ss
first_parameter types names [] [] s ss h = absurd h
first_parameter types names [] (p ∷ ps) s ss h = absurd h
first_parameter types names (u ∷ us) [] s ss h = absurd h
first_parameter types names (u ∷ us) (p ∷ ps) s ss h = record { written = u; others_written = us; first = p; others = ps; same = refl; sorted = h.0; others_sorted = h.1 }

no_parameter : (types : TypeTable) (names : NameShapes) (us : List SourceParameter) (ps : List CheckedParameter) → AreParametersOf types names us ps [] → ps ≡ []
no_parameter types names [] [] h = refl
no_parameter types names [] (p ∷ ps) h = absurd h
no_parameter types names (u ∷ us) [] h = absurd h
no_parameter types names (u ∷ us) (p ∷ ps) h = absurd h

record ThreeParameters (types : TypeTable) (names : NameShapes) (ps : List CheckedParameter) (s : PlainShape) : Type 0 where
  first : CheckedParameter
  second : CheckedParameter
  third : CheckedParameter
  same : ps ≡ first ∷ second ∷ third ∷ []
  written : SourceParameter
  sorted : IsParameterOf types names written second s

three_parameters : (types : TypeTable) (names : NameShapes) (us : List SourceParameter) (ps : List CheckedParameter) (r s t : PlainShape) → AreParametersOf types names us ps (r ∷ s ∷ t ∷ []) → ThreeParameters types names ps s
three_parameters types names us ps r s t h = by_one (first_parameter types names us ps r (s ∷ t ∷ []) h)
  where
    by_three : (one : FirstParameter types names ps r (s ∷ t ∷ [])) (two : FirstParameter types names one.others s (t ∷ [])) (three : FirstParameter types names two.others t []) → three.others ≡ [] → ThreeParameters types names ps s
    by_three one two three end = record { first = one.first; second = two.first; third = three.first; same = whole; written = two.written; sorted = two.sorted }
      where
        whole : ps ≡ one.first ∷ two.first ∷ three.first ∷ []
        whole = one.same ∙ ap (λ (qs : List CheckedParameter). one.first ∷ qs) (two.same ∙ ap (λ (qs : List CheckedParameter). two.first ∷ qs) (three.same ∙ ap (λ (qs : List CheckedParameter). three.first ∷ qs) end))

    by_two : (one : FirstParameter types names ps r (s ∷ t ∷ [])) (two : FirstParameter types names one.others s (t ∷ [])) → FirstParameter types names two.others t [] → ThreeParameters types names ps s
    by_two one two three = by_three one two three (no_parameter types names three.others_written three.others three.others_sorted)

    by_one : FirstParameter types names ps r (s ∷ t ∷ []) → ThreeParameters types names ps s
    by_one one = by_second (first_parameter types names one.others_written one.others s (t ∷ []) one.others_sorted)
      where
        by_second : FirstParameter types names one.others s (t ∷ []) → ThreeParameters types names ps s
        by_second two = by_two one two (first_parameter types names two.others_written two.others t [] two.others_sorted)

-- a parameter takes a value of its sort
abbrev Takes : Bindings → CheckedParameter → Data → Type 0
Takes b p v = TakesArgument b p v × IsOfSort p v

-- a message
message_taken : (b : Bindings) (p : CheckedParameter) (d : CheckedDeclared) (m : Data) → Some p ≡ Some (named d) → has_shape d.shape m ≡ true → Takes b p m
message_taken b p d m e h =
    subst (λ (q : CheckedParameter). Takes b q m) (sym (of_some p (named d) e)) (widened d.shape m h, h)

-- the number of a node, for a parameter that takes numbers
number_has : (s : PlainShape) (k : ℕ) → IsNumber s → has_shape s (number (pos k)) ≡ true
number_has s k (inl e) = rw e refl
number_has s k (inr e) = rw e (le-leb 0 k (omega arith))

number_taken : (types : TypeTable) (names : NameShapes) (b : Bindings) (u : SourceParameter) (p : CheckedParameter) (s : PlainShape) (k : ℕ) → IsParameterOf types names u p s → IsNumber s → TakesNumber b (pos k) (Some p) → Takes b p (number (pos k))
number_taken types names b (const u) (const t) s k h n e = ((range_check_parts (numbers_met t b) (value t b) (number (pos k)) e).1, tt)
number_taken types names b (const u) (named d) s k h n e = absurd h
number_taken types names b (named u) (const t) s k h n e = absurd h
number_taken types names b (named u) (named d) s k h n e =
    let fits : has_shape d.shape (number (pos k)) ≡ true = subst (λ (z : PlainShape). has_shape z (number (pos k)) ≡ true) h.1 (number_has s k n) in
    (widened d.shape (number (pos k)) fits, fits)

-- the constant of a number
constant_taken : (b : Bindings) (k : ℤ) (p : CheckedParameter) → IsConstantOf b k (Some p) → Takes b p (number k)
constant_taken b k p h =
    subst (λ (q : CheckedParameter). Takes b q (number k)) (sym (of_some p (const h.0) h.1)) ((range_check_parts (numbers_met h.0 b) (value h.0 b) (number k) h.2).1, tt)

-- a condition that is not written is none
none_written : (names : NameShapes) (o : Option SourceTerm) (c : Option CheckedTerm) → IsConditionOf names o c → o ≡ None → c ≡ None
none_written names None None h e = refl
none_written names None (Some c) h e = absurd h
none_written names (Some u) None h e = refl
none_written names (Some u) (Some c) h e = absurd (cc)

-- three parameters that take three values
abbrev TakesAll : Bindings → List CheckedParameter → List Data → Type 0
TakesAll b ps vs = AllZip (TakesArgument b) ps vs × AllZip IsOfSort ps vs

three_taken : (b : Bindings) (ps : List CheckedParameter) (p q r : CheckedParameter) (u v w : Data) → ps ≡ p ∷ q ∷ r ∷ [] → Takes b p u → Takes b q v → Takes b r w → TakesAll b ps (u ∷ v ∷ w ∷ [])
three_taken b ps p q r u v w e x y z =
    subst (λ (ts : List CheckedParameter). TakesAll b ts (u ∷ v ∷ w ∷ [])) (sym e) ((x.0, (y.0, (z.0, tt))), (x.1, (y.1, (z.1, tt))))

-- the rule of `receive` of a program takes a message from a node
receive_taken : (t : PlainTextTypes) (p : Parts) (accepted : IsAcceptedProgram t p) (r : PlainRule) → Contains p.automaton.rules r → r.entry.name ≡ receive_name → (k : ℕ) (m : Data) →
    TakesNumber (given_bindings p.automaton p.arguments) (pos k) (slice_get r.entry.parameters 1) → (d : CheckedDeclared) → slice_get r.entry.parameters 0 ≡ Some (named d) → has_shape d.shape m ≡ true →
    HasRule p (Receive m (pos k) p.node) r × AllZip IsOfSort r.entry.parameters (m ∷ number (pos k) ∷ number p.node ∷ []) × (r.entry.condition ≡ None) × (r.transition.pre ≡ None)
receive_taken t p accepted r present name k m from d first fits = (
  record { present = present; action = record { name = name; kind = receive.kind; arguments = all.0 } },
  all.1,
  none_written (names_at entry_condition t.constants p.automaton.parameters p.automaton.variables r.entry.parameters) made.0.condition r.entry.condition made.1.condition (made.1.no_condition kind),
  none_written (names_at guard_or_effect t.constants p.automaton.parameters p.automaton.variables r.entry.parameters) made.1.written.pre r.transition.pre made.1.transition.pre (made.1.no_guard kind),
)
  where
    b : Bindings
    b = given_bindings p.automaton p.arguments

    made : (e : SourceEntry) × IsRuleOf t p.automaton.parameters p.automaton.variables accepted.source.transitions e r
    made = is_rule t p accepted r present

    receive : IsReceive (record { entry = r.entry; shapes = r.shapes })
    receive = made.1.message.receive name

    kind : made.0.kind ≡ Input
    kind = sym made.1.kind ∙ receive.kind

    home : IsEntryOn b p.node r
    home = contained_has (IsEntryOn b p.node) p.automaton.rules r accepted.program.entries present

    names : NameShapes
    names = names_at entry_constant t.constants p.automaton.parameters p.automaton.variables []

    ss : AreMessageShapes r.shapes
    ss = receive.shapes

    three : ThreeParameters t.types names r.entry.parameters ss.from
    three =
        three_parameters t.types names made.0.parameters r.entry.parameters ss.message ss.from ss.to
        (subst (λ (zs : List PlainShape). AreParametersOf t.types names made.0.parameters r.entry.parameters zs) ss.same made.1.parameters)

    message : Some three.first ≡ Some (named d)
    message = subst (λ (ps : List CheckedParameter). slice_get ps 0 ≡ Some (named d)) three.same first

    sender : TakesNumber b (pos k) (Some three.second)
    sender = subst (λ (ps : List CheckedParameter). TakesNumber b (pos k) (slice_get ps 1)) three.same from

    receiver : IsConstantOf b p.node (Some three.third)
    receiver = subst (λ (ps : List CheckedParameter). IsConstantOf b p.node (slice_get ps 2)) three.same (home.receive name)

    all : TakesAll b r.entry.parameters (m ∷ number (pos k) ∷ number p.node ∷ [])
    all =
        three_taken b r.entry.parameters three.first three.second three.third m (number (pos k)) (number p.node) three.same
        (message_taken b three.first d m message fits)
        (number_taken t.types names b three.written three.second ss.from k three.sorted ss.numbers.0 sender)
        (constant_taken b p.node three.third receiver)

-- a rule with neither a condition nor a guard has a step if its effect leaves values
none_holds : (o : Option CheckedTerm) (e : Bindings) → o ≡ None → GuardHolds o e
none_holds None e h = tt
none_holds (Some t) e h = absurd (cc)

as_many : (xs : List CheckedVariable) (vs : List Data) → AllZip FitsVariable xs vs → length vs ≡ length xs
as_many [] [] h = refl
as_many [] (v ∷ vs) h = absurd h
as_many (x ∷ xs) [] h = absurd h
as_many (x ∷ xs) (v ∷ vs) h = let rest = as_many xs vs h.1 in omega (arith, rest)

step_by : (x : SourceText) (s : SystemParts) → IsSystemOf x s → (n : NodeState) → IsShapedNode s n → (r : PlainRule) (a : Action) → HasRule n.program a r → AllZip IsOfSort r.entry.parameters (action_arguments a) → r.entry.condition ≡ None → r.transition.pre ≡ None →
    (chosen : List Data) (reached : Bindings) → after r.transition.effect (left (rule_bindings guard_or_effect r a n) (given chosen)) ≡ Ok (left reached (given [])) → (d : NodeState) × IsNodeStep (entry a chosen) n d
step_by x s h n shaped r a mine sorts condition guard chosen reached effect = (
  node_state n.program (take (length n.variables) (map (λ b. b.1) reached)),
  record {
    rule = r;
    mine = mine;
    sorts = sorts;
    condition = none_holds r.entry.condition (rule_bindings entry_condition r a n) condition;
    guard = none_holds r.transition.pre (rule_bindings guard_or_effect r a n) guard;
    reached = reached;
    effect = effect;
    variables = names_left n r a (given chosen) (left reached (given [])) state effect;
    program = refl;
  },
)
  where
    state : IsState n
    state = record {
      program = contained_has DeclaresOnce s.programs n.program (declared_once x s h).programs shaped.program;
      valued = as_many n.program.automaton.variables n.variables shaped.variables;
    }

-- the rule that takes what comes from a node
record IsInput (p : Parts) (k : ℤ) : Type 0 where
  input : PlainRule
  found : rule_named receive_name p.automaton.rules ≡ Some input
  takes : TakesNumber (given_bindings p.automaton p.arguments) k (slice_get input.entry.parameters 1)

-- a message on a declared channel to a node
awaited : (x : SourceText) (s : SystemParts) → IsSystemOf x s → (m : Data) (i j : ℤ) (c : declaration.Channel) → Contains s.channels c → c.from ≡ i → c.to ≡ j → IsMessageTo s j m → (n : NodeState) → IsShapedNode s n → n.program.node ≡ j → IsAwaited n m i j
awaited x s h m i j c present from to message n shaped mine =
    record { rule = rule; mine = taken.0; sorts = taken.1; condition = taken.2; guard = taken.3; enabled = step_by x s h n shaped rule (Receive m i j) taken.0 taken.1 taken.2 taken.3 }
  where
    joined : IsChannelOf s.programs c
    joined = contained_has (IsChannelOf s.programs) s.channels c h.joined present

    found : program_numbered j s.programs ≡ Some n.program
    found =
        subst (λ (k : ℤ). program_numbered k s.programs ≡ Some n.program) mine
        (contained_found int_eq (λ k. (Decides-int_eq k k).1 refl) (λ (p : Parts). p.node) s.programs (declared_once x s h).nodes n.program shaped.program)

    input : IsInput n.program i
    input =
        let same : joined.receiver ≡ n.program = of_some joined.receiver n.program (sym (subst (λ (k : ℤ). program_numbered k s.programs ≡ Some joined.receiver) to joined.to) ∙ found) in
        subst (λ (p : Parts). IsInput p i) same (subst (λ (k : ℤ). IsInput joined.receiver k) from (record { input = joined.input; found = joined.found; takes = joined.takes }))

    rule : PlainRule
    rule = input.input

    parameter : slice_get rule.entry.parameters 0 ≡ Some (named message.parameter)
    parameter =
        let same : message.receiver ≡ n.program = of_some message.receiver n.program (sym message.to ∙ found) in
        let there : rule_named receive_name n.program.automaton.rules ≡ Some message.input = subst (λ (p : Parts). rule_named receive_name p.automaton.rules ≡ Some message.input) same message.found in
        let one : message.input ≡ rule = of_some message.input rule (sym there ∙ input.found) in
        subst (λ (r : PlainRule). slice_get r.entry.parameters 0 ≡ Some (named message.parameter)) one message.first

    accepted : IsAcceptedProgram h.types n.program
    accepted = is_accepted x s h n.program shaped.program

    rule_found : Contains n.program.automaton.rules rule × (same_word rule.entry.name receive_name ≡ true)
    rule_found = found_contained (λ (r : PlainRule). same_word r.entry.name receive_name) n.program.automaton.rules rule input.found

    sender : IsAcceptedProgram h.types joined.sender
    sender = is_accepted x s h joined.sender (found_contained (λ (p : Parts). int_eq p.node c.from) s.programs joined.sender joined.from).0

    number_is : pos sender.position ≡ i
    number_is =
        let same : joined.sender.node ≡ c.from = (Decides-int_eq joined.sender.node c.from).0 (found_contained (λ (p : Parts). int_eq p.node c.from) s.programs joined.sender joined.from).1 in
        sym sender.number ∙ same ∙ from

    taken : HasRule n.program (Receive m i j) rule × AllZip IsOfSort rule.entry.parameters (m ∷ number i ∷ number j ∷ []) × (rule.entry.condition ≡ None) × (rule.transition.pre ≡ None)
    taken =
        subst (λ (k : ℤ). HasRule n.program (Receive m k j) rule × AllZip IsOfSort rule.entry.parameters (m ∷ number k ∷ number j ∷ []) × (rule.entry.condition ≡ None) × (rule.transition.pre ≡ None)) number_is
        (subst (λ (l : ℤ). HasRule n.program (Receive m (pos sender.position) l) rule × AllZip IsOfSort rule.entry.parameters (m ∷ number (pos sender.position) ∷ number l ∷ []) × (rule.entry.condition ≡ None) × (rule.transition.pre ≡ None)) mine
        (receive_taken h.types n.program accepted rule rule_found.0 ((bytes_eq-Decides rule.entry.name receive_name).0 rule_found.1) sender.position m
        (subst (λ (k : ℤ). TakesNumber (given_bindings n.program.automaton n.program.arguments) k (slice_get rule.entry.parameters 1)) (sym number_is) input.takes) message.parameter parameter message.fits))

-- each message in the queue of a channel is awaited
queue_awaited : (x : SourceText) (s : SystemParts) (cs : List Conf) (i j : ℤ) (q : QueueState) (m : Data) (c : NodeState) → IsSystemOf x s → AreShaped s cs →
    find_conf (component.Channel i j) cs ≡ Some (Queue q) → Contains q.items (Message m) → find_conf (component.Node j) cs ≡ Some (Node c) → IsAwaited c m i j
queue_awaited x s cs i j q m c h shaped queue present node =
    awaited x s h m i j channel.channel channel.declared channel.from channel.to (contained_has (IsItemTo s j) q.items (Message m) channel.messages present) c
    (found_has (IsShapedConf s) (λ b. same_component (component.Node j) (component_of b)) cs (Node c) shaped node) mine
  where
    channel : IsShapedChannel s i j q.items
    channel =
        let name : q.component ≡ component.Channel i j = name_found (component.Channel i j) cs (Queue q) queue in
        let there : IsShapedQueue s q.component q.items = found_has (IsShapedConf s) (λ b. same_component (component.Channel i j) (component_of b)) cs (Queue q) shaped queue in
        subst (λ k. IsShapedQueue s k q.items) name there

    mine : c.program.node ≡ j
    mine = let name : component.Node c.program.node ≡ component.Node j = name_found (component.Node j) cs (Node c) node in cc

pub messages_awaited : (x : SourceText) (s : SystemParts) (cs : List Conf) → IsSystemOf x s → AreShaped s cs → AreMessagesAwaited cs
messages_awaited x s cs h shaped = λ i j q m c queue present node. queue_awaited x s cs i j q m c h shaped queue present node
