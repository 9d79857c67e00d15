-- In each state that a replay of an accepted system reaches, its invariants read what is there.
use Rattle.std.proofs.Common.{◌≡◌, ℕ, ℤ, Bool, true, false, ◌||◌, List, [], ◌∷◌, ◌++◌, Option, Some, None, if◌then◌else◌, refl, sym, ap, subst, ◌∙◌, map, zip}
use Rattle.std.specs.List.{AllByRecursion, AllZip, Contains, list_any}
use Rattle.std.specs.Option.{IfSome, option_and_then, option_map}
use Rattle.std.specs.Ordering.{int_eq}
use Rattle.std.proofs.lemmas.Bool.{and_parts}
use Rattle.std.proofs.lemmas.Bool.Decides.{Decides-int_eq}
use Rattle.ioa_values.specs.Data.{Data, truth, sequence, items_of}
use Rattle.ioa_operators.specs.Shapes.{PlainShape, truths, sequences, has_shape, all_have}
use Rattle.ioa_actions.specs.ComponentOrder.{same_component}
use Rattle.ioa_actions.specs.declared.component.Component.{Component}
use Rattle.ioa_actions.specs.declared.component.Component.TheVariants as component
use Rattle.ioa_terms.specs.declared.name.Name.{Name}
use Rattle.ioa_terms.specs.declared.name.Name.TheVariants.{Word, Variable}
use Rattle.ioa_terms.specs.declared.name.Name.TheVariants as called
use Rattle.ioa_terms.specs.Bindings.{Bindings, environment, lookup, same_word}
use Rattle.ioa_terms.specs.Meaning.{value}
use Rattle.ioa_terms.specs.Sorted.{NameShapes}
use Rattle.ioa_terms.proofs.ShapesKept.{Has}
use Rattle.ioa_source.specs.declared.declaration.Channel as declaration
use Rattle.ioa_source.specs.Sides.{CheckedVariable, SourceInvariant, SourceText}
use Rattle.ioa_system.specs.InView.{variable_names}
use Rattle.ioa_system.specs.Invariants.{InvariantParts, invariant_bindings}
use Rattle.ioa_system.specs.Parts.{Parts, message_shape, variable_named}
use Rattle.ioa_system.specs.Systems.{SystemParts, program_numbered}
use Rattle.ioa_names.specs.NameTables.{declared_names}
use Rattle.ioa_sorts.proofs.Lookups.{contained_found, contained_has, found_contained, found_has}
use Rattle.ioa_invariants.specs.Meant.{IsInvariantOf}
use Rattle.ioa_invariants.specs.ReadShapes.{is_channel, variable_shape, queue_shape, reading_shape}
use Rattle.ioa_check.proofs.Declared.{declared_once}
use Rattle.ioa_check.specs.Systems.{IsSystemOf}
use Rattle.ioa_channels.specs.Queues.{QueueState, messages_of}
use Rattle.ioa_channels.specs.declared.queue.Item.{Item}
use Rattle.ioa_channels.specs.declared.queue.Item.TheVariants.{Message, Stimulus}
use Rattle.ioa_transitions.specs.Entries.{PlainEntry}
use Rattle.ioa_transitions.specs.NodeState.{NodeState, node_state}
use Rattle.ioa_compose.specs.Composition.{component_of, find_conf}
use Rattle.ioa_compose.specs.Executions.{replay}
use Rattle.ioa_compose.specs.IsStart.{IsStart, StartsEmpty, StartsInitial}
use Rattle.ioa_compose.specs.Readings.{queue_messages, variable_value, reading, readings}
use Rattle.ioa_compose.specs.Start.{start}
use Rattle.ioa_compose.specs.Steps.{IsStep}
use Rattle.ioa_compose.specs.declared.configuration.Conf.{Conf}
use Rattle.ioa_compose.specs.declared.configuration.Conf.TheVariants.{Node, Queue}
use Rattle.ioa_compose.proofs.Components.{name_found}
use Rattle.ioa_compose.proofs.Projections.{projects, replays}
use Rattle.ioa_compose.proofs.Starts.{is_start, start_state}
use Rattle.ioa_run_laws.specs.Invariants.{IsWellRead}
use Rattle.ioa_run_laws.specs.Parts.{HasShapeThroughout}
use Rattle.ioa_run_laws.specs.Shaped.{FitsVariable, IsMessageTo, IsItemTo, IsShapedNode, IsShapedQueue, IsShapedConf, AreShaped}
use Rattle.ioa_run_laws.proofs.Accepted.{each_related, system_constants}
use Rattle.ioa_run_laws.proofs.Environments.{FitsName, front_valued}
use Rattle.ioa_run_laws.proofs.Parts.{throughout_value}
use Rattle.ioa_run_laws.proofs.Runs.{replay_shaped}
use Rattle.ioa_run_laws.proofs.SeenInboxes.{message_has}
use Rattle.ioa_run_laws.proofs.Throughout.{HasValuesOf, throughout}

-- a name has a value of a shape in a state
record IsRead (x : Name) (t : PlainShape) (cs : List Conf) : Type 0 where
  held : Data
  there : reading x cs ≡ Some held
  shaped : has_shape t held ≡ true

-- the value of a state variable, among those of a node
variable_read : (x : List ℕ) (vs : List CheckedVariable) (ds : List Data) (t : PlainShape) → AllZip FitsVariable vs ds → option_map (λ v. v.declared.shape) (variable_named x vs) ≡ Some t →
    (d : Data) × (lookup (Word x) (zip (map Word (variable_names vs)) ds) ≡ Some d) × (has_shape t d ≡ true)
variable_read x [] ds t h e = absurd (cc)
variable_read x (v ∷ vs) [] t h e = absurd h
variable_read x (v ∷ vs) (d ∷ ds) t h e = by_test (same_word x v.declared.name) e (variable_read x vs ds t h.1)
  where
    by_test : (b : Bool) → option_map (λ v. v.declared.shape) (if b then Some v else variable_named x vs) ≡ Some t →
        (option_map (λ v. v.declared.shape) (variable_named x vs) ≡ Some t → (c : Data) × (lookup (Word x) (zip (map Word (variable_names vs)) ds) ≡ Some c) × (has_shape t c ≡ true)) →
        (c : Data) × ((if b then Some d else lookup (Word x) (zip (map Word (variable_names vs)) ds)) ≡ Some c) × (has_shape t c ≡ true)
    by_test true e further =
        let same : v.declared.shape ≡ t = cc in
        (d, refl, subst (λ (z : PlainShape). has_shape z d ≡ true) same h.0)
    by_test false e further = further e

-- the messages that wait on a channel
messages_read : (s : SystemParts) (j : ℤ) (t : PlainShape) → ((m : Data) → IsMessageTo s j m → Has t m) → (items : List Item) → AllByRecursion (IsItemTo s j) items →
    (ms : List Data) × (messages_of items ≡ Some ms) × (all_have t (items_of ms) ≡ true)
messages_read s j t has [] h = ([], refl, refl)
messages_read s j t has (Message m ∷ more) h =
    let rest = messages_read s j t has more h.1 in
    (m ∷ rest.0, rw rest.1 refl, rw (has m h.0) rest.2)
messages_read s j t has (Stimulus a ∷ more) h = absurd h.0

-- one of several that passes a test, and what holds of it as of each
some_has : {A : Type 0} (P : A → Type 0) (test : A → Bool) (xs : List A) → AllByRecursion P xs → list_any test xs ≡ true → (x : A) × P x × (test x ≡ true)
some_has P test [] all h = absurd (cc)
some_has {A} P test (x ∷ xs) all h = by_test (test x) refl h (some_has P test xs all.1)
  where
    by_test : (b : Bool) → test x ≡ b → (b || list_any test xs) ≡ true → (list_any test xs ≡ true → (y : A) × P y × (test y ≡ true)) → (y : A) × P y × (test y ≡ true)
    by_test true e h further = (x, all.0, e)
    by_test false e h further = further h

of_some : {A : Type 0} (a b : A) → Some a ≡ Some b → a ≡ b
of_some a b e = cc

-- names with their shapes and their values
names_zipped : (P : Name → PlainShape → Type 0) (xs : List Name) (ts : List PlainShape) → AllZip P xs ts → declared_names (zip xs ts) ≡ xs
names_zipped P [] [] h = refl
names_zipped P [] (t ∷ ts) h = absurd h
names_zipped P (x ∷ xs) [] h = absurd h
names_zipped P (x ∷ xs) (t ∷ ts) h = ap (λ (ns : List Name). x ∷ ns) (names_zipped P xs ts h.1)

abbrev AreFitting : List PlainShape → List Data → Type 0
AreFitting ts ds = AllZip (λ t d. has_shape t d ≡ true) ts ds

values_zipped : (P : Name → PlainShape → Type 0) (xs : List Name) (ts : List PlainShape) (ds : List Data) → AllZip P xs ts → AreFitting ts ds → AllZip FitsName (zip xs ts) ds
values_zipped P [] [] [] h g = tt
values_zipped P [] [] (d ∷ ds) h g = absurd g
values_zipped P [] (t ∷ ts) ds h g = absurd h
values_zipped P (x ∷ xs) [] ds h g = absurd h
values_zipped P (x ∷ xs) (t ∷ ts) [] h g = absurd g
values_zipped P (x ∷ xs) (t ∷ ts) (d ∷ ds) h g = (g.0, values_zipped P xs ts ds h.1 g.1)

-- a value that has the shape of truth values is one
is_truth : (d : Data) → has_shape truths d ≡ true → (b : Bool) × (d ≡ truth b)
is_truth (truth b) h = (b, refl)
is_truth _ h = absurd (cc)

truth_given : (o : Option Data) → IfSome o (λ v. has_shape truths v ≡ true) → (d : Data) → o ≡ Some d → (b : Bool) × (d ≡ truth b)
truth_given o h d e = is_truth d (subst (λ (p : Option Data). IfSome p (λ v. has_shape truths v ≡ true)) e h)

module _ (x : SourceText) (s : SystemParts) (h : IsSystemOf x s) where
  numbered : (p : Parts) → Contains s.programs p → program_numbered p.node s.programs ≡ Some p
  numbered p c = contained_found int_eq (λ k. (Decides-int_eq k k).1 refl) (λ (q : Parts). q.node) s.programs (declared_once x s h).nodes p c

  module _ (cs : List Conf) (shaped : AreShaped s cs) where
    conf_shaped : (k : Component) (c : Conf) → find_conf k cs ≡ Some c → IsShapedConf s c
    conf_shaped k c found = found_has (IsShapedConf s) (λ b. same_component k (component_of b)) cs c shaped found

    -- a node of a program has that program, and values of their shapes
    record IsNodeOf (p : Parts) : Type 0 where
      state : NodeState
      found : find_conf (component.Node p.node) cs ≡ Some (Node state)
      same : state.program ≡ p
      fits : AllZip FitsVariable state.program.automaton.variables state.variables

    node_of : (p : Parts) → Contains s.programs p → (c : Conf) → find_conf (component.Node p.node) cs ≡ Some c → IsNodeOf p
    node_of p present (Node c) found =
        let own : IsShapedNode s c = conf_shaped (component.Node p.node) (Node c) found in
        let name : component.Node c.program.node ≡ component.Node p.node = name_found (component.Node p.node) cs (Node c) found in
        let number : c.program.node ≡ p.node = cc in
        let there : program_numbered p.node s.programs ≡ Some c.program = subst (λ (k : ℤ). program_numbered k s.programs ≡ Some c.program) number (numbered c.program own.program) in
        record { state = c; found = found; same = of_some c.program p (sym there ∙ numbered p present); fits = own.variables }
    node_of p present (Queue q) found =
        let name : q.component ≡ component.Node p.node = name_found (component.Node p.node) cs (Queue q) found in
        absurd (subst (λ (k : Component). IsShapedQueue s k q.items) name (conf_shaped (component.Node p.node) (Queue q) found))

    -- a queue of a channel
    record IsQueueOf (i j : ℤ) : Type 0 where
      queue : QueueState
      found : find_conf (component.Channel i j) cs ≡ Some (Queue queue)
      messages : AllByRecursion (IsItemTo s j) queue.items

    queue_of : (i j : ℤ) (c : Conf) → find_conf (component.Channel i j) cs ≡ Some c → IsQueueOf i j
    queue_of i j (Node c) found =
        let name : component.Node c.program.node ≡ component.Channel i j = name_found (component.Channel i j) cs (Node c) found in
        absurd (cc)
    queue_of i j (Queue q) found =
        let name : q.component ≡ component.Channel i j = name_found (component.Channel i j) cs (Queue q) found in
        let channel : IsShapedQueue s (component.Channel i j) q.items = subst (λ (k : Component). IsShapedQueue s k q.items) name (conf_shaped (component.Channel i j) (Queue q) found) in
        record { queue = q; found = found; messages = channel.messages }

    -- each node is there, and the queue of each channel
    abbrev IsThere : Component → Type 0
    IsThere k = (c : Conf) × (find_conf k cs ≡ Some c)

    module _ (nodes : (p : Parts) → Contains s.programs p → IsThere (component.Node p.node)) (channels : AllByRecursion (λ c. IsThere (component.Channel c.from c.to)) s.channels) where
      -- a variable
      variable_is : (w : List ℕ) (k : ℤ) (t : PlainShape) (o : Option Parts) → program_numbered k s.programs ≡ o → variable_shape w o ≡ Some t → IsRead (Variable w k) t cs
      variable_is w k t None found e = absurd (cc)
      variable_is w k t (Some p) found e =
          let one = found_contained (λ (q : Parts). int_eq q.node k) s.programs p found in
          let number : p.node ≡ k = (Decides-int_eq p.node k).0 one.1 in
          let there = nodes p one.0 in
          let node = node_of p one.0 there.0 there.1 in
          let shape : variable_shape w (Some node.state.program) ≡ Some t = subst (λ (q : Parts). variable_shape w (Some q) ≡ Some t) (sym node.same) e in
          let held = variable_read w node.state.program.automaton.variables node.state.variables t node.fits shape in
          let at : find_conf (component.Node k) cs ≡ Some (Node node.state) = subst (λ (l : ℤ). find_conf (component.Node l) cs ≡ Some (Node node.state)) number node.found in
          record { held = held.0; there = ap (λ o. option_and_then (variable_value w) o) at ∙ held.1; shaped = held.2 }

      -- a queue
      queue_read : (i j : ℤ) (t m : PlainShape) (p : Parts) → Contains s.programs p → p.node ≡ j → message_shape p.automaton.rules ≡ Some m → sequences m ≡ t → IsThere (component.Channel i j) → IsRead (called.Queue i j) t cs
      queue_read i j t m p present number takes same there =
          let queue = queue_of i j there.0 there.1 in
          let has : (d : Data) → IsMessageTo s j d → Has m d = subst (λ (k : ℤ). (d : Data) → IsMessageTo s k d → Has m d) number (λ d k. message_has x s h p present m takes d k) in
          let held = messages_read s j m has queue.queue.items queue.messages in
          record {
            held = sequence (items_of held.0);
            there = ap (λ o. option_and_then queue_messages o) queue.found ∙ ap (λ o. option_map (λ ms. sequence (items_of ms)) o) held.1;
            shaped = subst (λ (z : PlainShape). has_shape z (sequence (items_of held.0)) ≡ true) same held.2;
          }

      queue_by_shape : (i j : ℤ) (t : PlainShape) (p : Parts) → Contains s.programs p → p.node ≡ j → IsThere (component.Channel i j) → (o : Option PlainShape) → message_shape p.automaton.rules ≡ o → option_map sequences o ≡ Some t → IsRead (called.Queue i j) t cs
      queue_by_shape i j t p present number there None takes e = absurd (cc)
      queue_by_shape i j t p present number there (Some m) takes e = let same : sequences m ≡ t = cc in queue_read i j t m p present number takes same there

      queue_is : (i j : ℤ) (t : PlainShape) (o : Option Parts) → program_numbered j s.programs ≡ o → queue_shape o ≡ Some t → IsThere (component.Channel i j) → IsRead (called.Queue i j) t cs
      queue_is i j t None found e there = absurd (cc)
      queue_is i j t (Some p) found e there =
          let one = found_contained (λ (q : Parts). int_eq q.node j) s.programs p found in
          queue_by_shape i j t p one.0 ((Decides-int_eq p.node j).0 one.1) there (message_shape p.automaton.rules) refl e

      channel_there : (i j : ℤ) → list_any (is_channel i j) s.channels ≡ true → IsThere (component.Channel i j)
      channel_there i j e =
          let one = some_has (λ c. IsThere (component.Channel c.from c.to)) (is_channel i j) s.channels channels e in
          let both = and_parts (int_eq one.0.from i) (int_eq one.0.to j) one.2 in
          let from : one.0.from ≡ i = (Decides-int_eq one.0.from i).0 both.0 in
          let to : one.0.to ≡ j = (Decides-int_eq one.0.to j).0 both.1 in
          subst (λ (k : ℤ). IsThere (component.Channel k j)) from (subst (λ (l : ℤ). IsThere (component.Channel one.0.from l)) to one.1)

      by_channel : (i j : ℤ) (t : PlainShape) (b : Bool) → list_any (is_channel i j) s.channels ≡ b → (if b then queue_shape (program_numbered j s.programs) else None) ≡ Some t → IsRead (called.Queue i j) t cs
      by_channel i j t true there e = queue_is i j t (program_numbered j s.programs) refl e (channel_there i j there)
      by_channel i j t false there e = absurd (cc)

      -- each name that has a shape has a value of it
      name_read : (n : Name) (t : PlainShape) → reading_shape s.programs s.channels n ≡ Some t → IsRead n t cs
      name_read (Word w) t e = absurd (cc)
      name_read (Variable w k) t e = variable_is w k t (program_numbered k s.programs) refl e
      name_read (called.Queue i j) t e = by_channel i j t (list_any (is_channel i j) s.channels) refl e

      abbrev AreDeclared : List Name → List PlainShape → Type 0
      AreDeclared ns ts = AllZip (λ n t. reading_shape s.programs s.channels n ≡ Some t) ns ts

      names_read : (ns : List Name) (ts : List PlainShape) → AreDeclared ns ts → (ds : List Data) × (readings ns cs ≡ Some ds) × AreFitting ts ds
      names_read [] [] g = ([], refl, tt)
      names_read [] (t ∷ ts) g = absurd g
      names_read (n ∷ ns) [] g = absurd g
      names_read (n ∷ ns) (t ∷ ts) g =
          let first = name_read n t g.0 in
          let rest = names_read ns ts g.1 in
          (first.held ∷ rest.0, rw (first.there, rest.1) refl, (first.shaped, rest.2))

      -- an invariant
      invariant_read : (u : SourceInvariant) (v : InvariantParts) → IsInvariantOf h.types.constants s.programs s.channels u v → IsWellRead s cs v
      invariant_read u v g = record {
        values = read.0;
        there = read.1;
        shapes = g.shapes;
        declared = g.there;
        shaped = read.2;
        sorted = sorted;
        truth = truth_given (value v.term (invariant_bindings v read.0)) (throughout_value (invariant_bindings v read.0) v.term truths sorted);
      }
        where
          read : (ds : List Data) × (readings v.readings cs ≡ Some ds) × AreFitting g.shapes ds
          read = names_read v.readings g.shapes g.there

          names : NameShapes
          names = zip v.readings g.shapes

          valued : HasValuesOf (names ++ h.types.constants) (invariant_bindings v read.0)
          valued =
              subst (λ (e : Bindings). HasValuesOf (names ++ h.types.constants) e)
              (λ i. environment (names_zipped (λ n t. reading_shape s.programs s.channels n ≡ Some t) v.readings g.shapes g.there i) read.0 (sym g.constants_named i))
              (front_valued names h.types.constants read.0 (values_zipped (λ n t. reading_shape s.programs s.channels n ≡ Some t) v.readings g.shapes read.0 g.there read.2) (system_constants x s h))

          sorted : HasShapeThroughout (invariant_bindings v read.0) v.term truths
          sorted = throughout (names ++ h.types.constants) (invariant_bindings v read.0) valued v.term truths g.term.has_shape

      invariants_read : (vs : List InvariantParts) → AllByRecursion (λ v. (u : SourceInvariant) × IsInvariantOf h.types.constants s.programs s.channels u v) vs → AllByRecursion (IsWellRead s cs) vs
      invariants_read [] g = tt
      invariants_read (v ∷ vs) g = (invariant_read g.0.0 v g.0.1, invariants_read vs g.1)

  -- after a replay from the start each component of the start is there
  module _ (entries : List PlainEntry) (cs : List Conf) (replayed : replay entries (start s) ≡ Some cs) where
    initial : IsStart s (start s)
    initial = is_start s (declared_once x s h)

    still_there : (k : Component) (c : Conf) → find_conf k (start s) ≡ Some c → (d : Conf) × (find_conf k cs ≡ Some d)
    still_there k c found =
        let end = projects IsStep entries (start s) cs (replays entries (start s) cs (start_state s (declared_once x s h)) replayed) k c found in
        (end.0, end.1)

    node_there : (p : Parts) → Contains s.programs p → (c : Conf) × (find_conf (component.Node p.node) cs ≡ Some c)
    node_there p present = still_there (component.Node p.node) (Node (node_state p p.initial)) (contained_has (StartsInitial (start s)) s.programs p initial.nodes present)

    queues_there : (channels : List declaration.Channel) → AllByRecursion (StartsEmpty (start s)) channels → AllByRecursion (λ c. (d : Conf) × (find_conf (component.Channel c.from c.to) cs ≡ Some d)) channels
    queues_there [] g = tt
    queues_there (c ∷ more) g = (still_there (component.Channel c.from c.to) _ g.0, queues_there more g.1)

    all_read : AllByRecursion (IsWellRead s cs) s.invariants
    all_read =
        invariants_read cs (replay_shaped x s entries cs h replayed) node_there (queues_there s.channels initial.channels) s.invariants
        (each_related (IsInvariantOf h.types.constants s.programs s.channels) x.invariants s.invariants h.invariants)

pub replay_read : (x : SourceText) (s : SystemParts) (entries : List PlainEntry) (cs : List Conf) → IsSystemOf x s → replay entries (start s) ≡ Some cs → AllByRecursion (IsWellRead s cs) s.invariants
replay_read x s entries cs h e = all_read x s h entries cs e
