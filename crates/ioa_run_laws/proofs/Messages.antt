-- A message under way has the shape that its receiver takes.
use Rattle.std.proofs.Common.{◌≡◌, ℕ, ℤ, true, List, [], ◌∷◌, ◌++◌, Some, refl, sym, subst, ◌∙◌, slice_get}
use Rattle.std.specs.List.{AllByRecursion, AllZip, Contains}
use Rattle.std.specs.Ordering.{int_eq}
use Rattle.std.proofs.lemmas.Bool.{and_parts}
use Rattle.std.proofs.lemmas.Bool.Decides.{Decides-int_eq}
use Rattle.std.proofs.lemmas.Slice.Eq.{bytes_eq-Decides}
use Rattle.ioa_values.specs.Data.{Data, number}
use Rattle.ioa_operators.specs.Shapes.{PlainShape, has_shape}
use Rattle.ioa_terms.specs.Bindings.{Bindings, same_word}
use Rattle.ioa_terms.specs.Sorted.{NameShapes, IsShaped}
use Rattle.ioa_terms.proofs.Sound.{value_has}
use Rattle.ioa_actions.specs.ActionParts.{send_name, receive_name}
use Rattle.ioa_actions.specs.declared.component.Component.{Component}
use Rattle.ioa_actions.specs.declared.component.Component.TheVariants as component
use Rattle.ioa_actions.specs.declared.component.ChannelKind.{ChannelKind}
use Rattle.ioa_actions.specs.declared.component.ChannelKind.TheVariants.{Ordered, Unordered}
use Rattle.ioa_actions.specs.declared.action.Action.{Action}
use Rattle.ioa_actions.specs.declared.action.Action.TheVariants as action
use Rattle.ioa_source.specs.PlainText.{const, named}
use Rattle.ioa_source.specs.Sides.{SourceEntry, SourceParameter, SourceText, CheckedDeclared, CheckedParameter}
use Rattle.ioa_source.specs.declared.declaration.Channel as declaration
use Rattle.ioa_system.specs.Declarations.{DeclaresOnce, IsWellDeclared}
use Rattle.ioa_system.specs.InView.{entry_constant, given_bindings}
use Rattle.ioa_system.specs.Parts.{Parts, PlainRule}
use Rattle.ioa_system.specs.Systems.{SystemParts}
use Rattle.ioa_sorts.proofs.Types.{same_is}
use Rattle.ioa_types.specs.Meanings.{tuple_types}
use Rattle.ioa_types.specs.TypeTables.{TypeTable}
use Rattle.ioa_automata.specs.SortedAutomata.{AreParametersOf, IsConstantAt, IsReceive, IsRuleOf, names_at}
use Rattle.ioa_system.specs.Systems.{program_numbered}
use Rattle.ioa_system.specs.Parts.{rule_named}
use Rattle.ioa_sections.specs.Meant.{HaveOneMessage, IsChannelOf}
use Rattle.ioa_check.specs.Systems.{IsSystemOf}
use Rattle.ioa_check.proofs.Declared.{declared_once}
use Rattle.ioa_transitions.specs.Entries.{entry}
use Rattle.ioa_transitions.specs.NodeState.{NodeState}
use Rattle.ioa_transitions.specs.NodeStep.{IsOfSort, IsNodeStep, TakesArgument}
use Rattle.ioa_compose.specs.Participants.{takes_part}
use Rattle.ioa_channels.specs.Queues.{QueueState}
use Rattle.ioa_channels.specs.QueueSteps.{IsQueueStep, ComesOut, LosesItem}
use Rattle.ioa_channels.specs.declared.queue.Item.{Item}
use Rattle.ioa_channels.specs.declared.queue.Item.TheVariants.{Message, Stimulus}
use Rattle.ioa_run_laws.specs.Shaped.{IsShapedNode, IsMessageTo, IsItemTo, IsShapedQueue}
use Rattle.ioa_sorts.proofs.Lookups.{contained_found, contained_has, found_contained}
use Rattle.ioa_run_laws.proofs.Accepted.{IsAcceptedProgram, is_accepted, system_constants}
use Rattle.ioa_run_laws.proofs.DeclaredTypes.{message_declared}
use Rattle.ioa_run_laws.proofs.Environments.{given_valued}
use Rattle.ioa_run_laws.proofs.NodeSteps.{is_rule}
use Rattle.ioa_run_laws.proofs.Numbered.{text_types_of}

-- the first argument has the first of an entry's shapes
module _ (types : TypeTable) (names : NameShapes) where
  first_fits : (b : Bindings) → IsShaped names b → (us : List SourceParameter) (ps : List CheckedParameter) (ss : List PlainShape) (m : Data) (ms : List Data) (t : PlainShape) → AreParametersOf types names us ps ss →
      AllZip (TakesArgument b) ps (m ∷ ms) → AllZip IsOfSort ps (m ∷ ms) → slice_get ss 0 ≡ Some t → has_shape t m ≡ true
  first_fits b g us [] ss m ms t h k l e = absurd k
  first_fits b g [] (p ∷ ps) ss m ms t h k l e = absurd h
  first_fits b g (u ∷ us) (p ∷ ps) [] m ms t h k l e = absurd h
  first_fits b g (const u ∷ us) (const p ∷ ps) (s ∷ ss) m ms t h k l e =
      let same : s ≡ t = cc in
      subst (λ (z : PlainShape). has_shape z m ≡ true) same (value_has names b g p s h.0.term.has_shape m k.0)
  first_fits b g (const u ∷ us) (named p ∷ ps) (s ∷ ss) m ms t h k l e = absurd h.0
  first_fits b g (named u ∷ us) (const p ∷ ps) (s ∷ ss) m ms t h k l e = absurd h.0
  first_fits b g (named u ∷ us) (named p ∷ ps) (s ∷ ss) m ms t h k l e =
      let same : s ≡ t = cc in
      subst (λ (z : PlainShape). has_shape z m ≡ true) (sym h.0.1 ∙ same) l.0

  -- the first parameter, if it is no constant, has that shape
  pub first_named : (us : List SourceParameter) (ps : List CheckedParameter) (ss : List PlainShape) (t : PlainShape) → AreParametersOf types names us ps ss → slice_get ss 0 ≡ Some t → (IsConstantAt ps 0 → ⊥) →
      (d : CheckedDeclared) × (slice_get ps 0 ≡ Some (named d)) × (t ≡ d.shape)
  first_named us ps [] t h e free = absurd (cc)
  first_named [] [] (s ∷ ss) t h e free = absurd h
  first_named [] (p ∷ ps) (s ∷ ss) t h e free = absurd h
  first_named (u ∷ us) [] (s ∷ ss) t h e free = absurd h
  first_named (u ∷ us) (const p ∷ ps) (s ∷ ss) t h e free = absurd (free (p, refl))
  first_named (const u ∷ us) (named p ∷ ps) (s ∷ ss) t h e free = absurd h.0
  first_named (named u ∷ us) (named p ∷ ps) (s ∷ ss) t h e free =
      let same : s ≡ t = cc in
      (p, refl, sym same ∙ h.0.1)

-- what a node sends on a declared channel
pub message_fits : (x : SourceText) (s : SystemParts) → IsSystemOf x s → (m : Data) (i j : ℤ) (chosen : List Data) (c : declaration.Channel) → Contains s.channels c → c.from ≡ i → c.to ≡ j → (n d : NodeState) → IsShapedNode s n → n.program.node ≡ i → IsNodeStep (entry (action.Send m i j) chosen) n d → IsMessageTo s j m
message_fits x s h m i j chosen c present from to n d shaped mine step = record {
  receiver = joined.receiver;
  to = subst (λ (k : ℤ). program_numbered k s.programs ≡ Some joined.receiver) to joined.to;
  input = joined.input;
  found = joined.found;
  parameter = first.0;
  first = first.1;
  fits = subst (λ (z : PlainShape). has_shape z m ≡ true) (same ∙ first.2) sent;
}
  where
    well : IsWellDeclared s
    well = declared_once x s h

    joined : IsChannelOf s.programs c
    joined = contained_has (IsChannelOf s.programs) s.channels c h.joined present

    of_some : {A : Type 0} (a b : A) → Some a ≡ Some b → a ≡ b
    of_some a b e = cc

    -- the sender
    sender : n.program ≡ joined.sender
    sender =
        let own : program_numbered n.program.node s.programs ≡ Some n.program = contained_found int_eq (λ k. (Decides-int_eq k k).1 refl) (λ (p : Parts). p.node) s.programs well.nodes n.program shaped.program in
        let there : program_numbered c.from s.programs ≡ Some n.program = subst (λ (k : ℤ). program_numbered k s.programs ≡ Some n.program) (mine ∙ sym from) own in
        of_some n.program joined.sender (sym there ∙ joined.from)

    rule : PlainRule
    rule = step.rule

    rule_found : rule_named send_name n.program.automaton.rules ≡ Some rule
    rule_found =
        let once : DeclaresOnce n.program = contained_has DeclaresOnce s.programs n.program well.programs shaped.program in
        subst (λ (w : List ℕ). rule_named w n.program.automaton.rules ≡ Some rule) step.mine.action.name
        (contained_found same_word (λ w. (bytes_eq-Decides w w).1 refl) (λ (r : PlainRule). r.entry.name) n.program.automaton.rules once.entries rule step.mine.present)

    one : HaveOneMessage rule.shapes joined.input.shapes
    one = joined.sorts rule (subst (λ (p : Parts). rule_named send_name p.automaton.rules ≡ Some rule) sender rule_found)

    sender_accepted : IsAcceptedProgram h.types n.program
    sender_accepted = is_accepted x s h n.program shaped.program

    sent_by : (e : SourceEntry) × IsRuleOf h.types n.program.automaton.parameters n.program.automaton.variables sender_accepted.source.transitions e rule
    sent_by = is_rule h.types n.program sender_accepted rule step.mine.present

    sent : has_shape one.0 m ≡ true
    sent =
        let b = n.program.automaton in
        first_fits h.types.types (names_at entry_constant h.types.constants b.parameters b.variables []) (given_bindings b n.program.arguments)
        (given_valued h.types b sender_accepted.automaton.constants (system_constants x s h) n.program.arguments shaped.arguments).shaped
        sent_by.0.parameters rule.entry.parameters rule.shapes m (number i ∷ number j ∷ []) one.0 sent_by.1.parameters step.mine.action.arguments step.sorts one.2

    -- the receiver
    receiver_accepted : IsAcceptedProgram h.types joined.receiver
    receiver_accepted = is_accepted x s h joined.receiver (found_contained (λ (p : Parts). int_eq p.node c.to) s.programs joined.receiver joined.to).0

    input_found : Contains joined.receiver.automaton.rules joined.input × (same_word joined.input.entry.name receive_name ≡ true)
    input_found = found_contained (λ (r : PlainRule). same_word r.entry.name receive_name) joined.receiver.automaton.rules joined.input joined.found

    taken_by : (e : SourceEntry) × IsRuleOf h.types joined.receiver.automaton.parameters joined.receiver.automaton.variables receiver_accepted.source.transitions e joined.input
    taken_by = is_rule h.types joined.receiver receiver_accepted joined.input input_found.0

    first : (d : CheckedDeclared) × (slice_get joined.input.entry.parameters 0 ≡ Some (named d)) × (one.1 ≡ d.shape)
    first =
        let receive : IsReceive (record { entry = joined.input.entry; shapes = joined.input.shapes }) = taken_by.1.message.receive ((bytes_eq-Decides joined.input.entry.name receive_name).0 input_found.1) in
        first_named h.types.types (names_at entry_constant h.types.constants joined.receiver.automaton.parameters joined.receiver.automaton.variables [])
        taken_by.0.parameters joined.input.entry.parameters joined.input.shapes one.1 taken_by.1.parameters one.3 receive.message

    -- both are of one sort, and so of one shape
    same : one.0 ≡ one.1
    same =
        let types = text_types_of x.declarations h.types h.declared in
        same_is (tuple_types h.types.types) one.0 one.1
        (message_declared h.types types n.program sender_accepted rule step.mine.present one.0 one.2)
        (message_declared h.types types joined.receiver receiver_accepted joined.input input_found.0 one.1 one.3)
        one.4

-- a step of a queue
module _ (s : SystemParts) where
  all_behind : (j : ℤ) (items : List Item) (m : Data) → AllByRecursion (IsItemTo s j) items → IsMessageTo s j m → AllByRecursion (IsItemTo s j) (items ++ Message m ∷ [])
  all_behind j [] m h g = (g, tt)
  all_behind j (y ∷ items) m h g = (h.0, all_behind j items m h.1 g)

  one_more : (k : Component) (items : List Item) (m : Data) (i j : ℤ) → takes_part k (action.Send m i j) ≡ true → ((c : declaration.Channel) → Contains s.channels c → c.from ≡ i → c.to ≡ j → IsMessageTo s j m) →
      IsShapedQueue s k items → IsShapedQueue s k (items ++ Message m ∷ [])
  one_more (component.Node l) items m i j part sent h = absurd h
  one_more (component.Channel from to) items m i j part sent h =
      let both = and_parts (int_eq from i) (int_eq to j) part in
      let same_from : from ≡ i = (Decides-int_eq from i).0 both.0 in
      let same_to : to ≡ j = (Decides-int_eq to j).0 both.1 in
      record {
        channel = h.channel;
        declared = h.declared;
        from = h.from;
        to = h.to;
        messages = all_behind to items m h.messages (subst (λ (l : ℤ). IsMessageTo s l m) (sym same_to) (sent h.channel h.declared (h.from ∙ same_from) (h.to ∙ same_to)));
      }
  one_more (component.Script l) items m i j part sent h = tt

  others : (j : ℤ) (x : Item) (before behind : List Item) → AllByRecursion (IsItemTo s j) (before ++ x ∷ behind) → AllByRecursion (IsItemTo s j) (before ++ behind)
  others j x [] behind h = h.1
  others j x (y ∷ before) behind h = (h.0, others j x before behind h.1)

  left : (j : ℤ) (x : Item) (o : ChannelKind) (xs ys : List Item) → ComesOut x o xs ys → AllByRecursion (IsItemTo s j) xs → AllByRecursion (IsItemTo s j) ys
  left j (Message m) Ordered xs ys out h = (subst (AllByRecursion (IsItemTo s j)) out h).1
  left j (Message m) Unordered xs ys out h =
      subst (AllByRecursion (IsItemTo s j)) (sym out.rest) (others j (Message m) out.before out.behind (subst (AllByRecursion (IsItemTo s j)) out.whole h))
  left j (Stimulus a) o xs ys out h = (subst (AllByRecursion (IsItemTo s j)) out h).1

  one_less : (k : Component) (x : Item) (o : ChannelKind) (xs ys : List Item) → ComesOut x o xs ys → IsShapedQueue s k xs → IsShapedQueue s k ys
  one_less (component.Node l) x o xs ys out h = absurd h
  one_less (component.Channel from to) x o xs ys out h =
      record { channel = h.channel; declared = h.declared; from = h.from; to = h.to; messages = left to x o xs ys out h.messages }
  one_less (component.Script l) x o xs ys out h = tt

  loses : (x : Item) (q r : QueueState) → LosesItem x q r → IsShapedQueue s q.component q.items → IsShapedQueue s r.component r.items
  loses x q r lost h = subst (λ (p : QueueState). IsShapedQueue s p.component r.items) (sym lost.1) (one_less q.component x q.kind q.items r.items lost.0 h)

  pub queue_shaped : (a : Action) (q r : QueueState) → takes_part q.component a ≡ true → ((m : Data) (i j : ℤ) → a ≡ action.Send m i j → (c : declaration.Channel) → Contains s.channels c → c.from ≡ i → c.to ≡ j → IsMessageTo s j m) →
      IsShapedQueue s q.component q.items → IsQueueStep a q r → IsShapedQueue s r.component r.items
  queue_shaped (action.Send m i j) q r part sent h step =
      subst (λ (p : QueueState). IsShapedQueue s p.component p.items) (sym step) (one_more q.component q.items m i j part (sent m i j refl) h)
  queue_shaped (action.Receive m i j) q r part sent h step =
      loses (Message m) q r step h
  queue_shaped (action.Local a) q r part sent h step = absurd step
  queue_shaped (action.Stimulus a) q r part sent h step =
      loses (Stimulus a) q r step h
