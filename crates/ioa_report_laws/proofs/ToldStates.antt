-- The lines of nodes, channels and scripts tell the states of a system.
use Rattle.std.proofs.Common.{◌≡◌, ◌<◌, ◌^◌, ℕ, ℤ, true, List, [], ◌∷◌, ◌++◌, codes, decimal, length, map, refl, sym, ap, subst, ◌∙◌, append_assoc, arith, slice_get}
use Rattle.std.specs.Fmt.{signed_decimal}
use Rattle.std.specs.List.{AllByRecursion, AllZip}
use Rattle.std.specs.Ordering.{int_eq}
use Rattle.std.specs.Prelude.{Option, Some, None, is_some}
use Rattle.std.proofs.lemmas.Fmt.{decimal_injective}
use Rattle.std.proofs.lemmas.List.{append_cancel_left, length-append, length-map}
use Rattle.ioa_values.proofs.AllOf.{all_appended}
use Rattle.ioa_values.proofs.ItemLists.{list_of_items}
use Rattle.ioa_values.specs.Canonical.{AllCanonical, AreCanonical}
use Rattle.ioa_values.specs.Data.{Data, Items, items_of, list_of, no_items, item, sequence}
use Rattle.ioa_values.specs.Text.{text, texts, with_commas}
use Rattle.ioa_operators.specs.Shapes.{PlainShape, all_have, has_shape, sequences, truths}
use Rattle.ioa_terms.specs.Bindings.{same_word}
use Rattle.ioa_actions.specs.ActionParts.{receive_name}
use Rattle.ioa_actions.specs.declared.action.NodeAction.{NodeAction}
use Rattle.ioa_actions.specs.declared.component.Component.{Component}
use Rattle.ioa_actions.specs.declared.component.Component.TheVariants as component
use Rattle.ioa_actions.specs.ComponentOrder.{same_component}
use Rattle.ioa_source.specs.declared.declaration.Channel.{Channel}
use Rattle.ioa_source.specs.PlainText.{const, named}
use Rattle.ioa_source.specs.Sides.{CheckedDeclared, CheckedParameter, CheckedVariable}
use Rattle.ioa_system.specs.Parts.{Parts, PlainRule, rule_named}
use Rattle.ioa_system.specs.Systems.{ScriptParts, SystemParts, program_numbered, script_of}
use Rattle.ioa_sorts.proofs.Lookups.{contained_has, found_has}
use Rattle.ioa_channels.specs.Queues.{QueueState}
use Rattle.ioa_channels.specs.declared.queue.Item.{Item}
use Rattle.ioa_channels.specs.declared.queue.Item.TheVariants.{Message, Stimulus}
use Rattle.ioa_transitions.specs.NodeState.{NodeState}
use Rattle.ioa_compose.specs.Composition.{component_names, component_of, find_conf}
use Rattle.ioa_compose.specs.Start.{channel_start, node_start, script_start, start, stimuli_in}
use Rattle.ioa_compose.specs.declared.configuration.Conf.{Conf}
use Rattle.ioa_compose.specs.declared.configuration.Conf.TheVariants.{Node, Queue}
use Rattle.ioa_monitor.specs.Reports.{component_lines, item_text, queue_line, script_text, states_text, variable_line, variable_lines}
use Rattle.ioa_printed_lines.proofs.LineFeeds.{decimal_line}
use Rattle.ioa_printed_lines.specs.TextSystems.{AreBounded, IsBounded, IsTextParameter, IsTextProgram, IsTextRule, IsTextShape, IsTextSystem, IsTextVariable}
use Rattle.ioa_run_laws.specs.Shaped.{AreShaped, FitsVariable, IsItemTo, IsMessageTo, IsShapedConf, IsShapedNode, IsShapedQueue}
use Rattle.ioa_runtime_values.proofs.BoundedLists.{are_bounded}
use Rattle.ioa_runtime_values.specs.RuntimeValues.{AreRuntimeConfs, AreRuntimeValues, IsRuntimeConf, IsRuntimeItem, IsRuntimeQueue}
use Rattle.ioa_report_laws.proofs.KeptParts.{HoldsItems, HoldsRest, IsKept, IsOfStart, one_found}
use Rattle.ioa_report_laws.proofs.LineTexts.{same_rest}
use Rattle.ioa_report_laws.proofs.ToldValues.{IsTold, one_value, value_line}

-- lines that begin with the same texts
five_texts : (a b c d e x more us : List ℕ) → ((a ++ (b ++ (c ++ (d ++ (e ++ (x ++ codes "\n")))))) ++ more) ++ us ≡ ((a ++ (b ++ (c ++ (d ++ e)))) ++ (x ++ codes "\n")) ++ (more ++ us)
five_texts a b c d e x more us = simp append_assoc

braces : (a b c d x us : List ℕ) → (a ++ (b ++ (c ++ (d ++ (codes " {" ++ (x ++ codes "}\n")))))) ++ us ≡ ((a ++ (b ++ (c ++ (d ++ codes " ")))) ++ ((codes "{" ++ x ++ codes "}") ++ codes "\n")) ++ us
braces a b c d x us = simp append_assoc

count_texts : (a b c x us : List ℕ) → (a ++ (b ++ (c ++ (x ++ codes "\n")))) ++ us ≡ ((a ++ (b ++ c)) ++ (x ++ codes "\n")) ++ us
count_texts a b c x us = simp append_assoc

module _ (s : SystemParts) (is : IsTextSystem s) where
  -- the values of variables, one a line
  value_told : (x : CheckedVariable) (v : Data) (vs : List Data) → IsTextVariable (length s.names) x → FitsVariable x v → AreRuntimeValues (v ∷ vs) → IsTold s.names x.declared.shape v
  value_told x v vs of_text fits values = record { of_text = of_text; shaped = fits; bounded = values.bounded.0; canonical = values.canonical.0 }

  values_behind : (v : Data) (vs : List Data) → AreRuntimeValues (v ∷ vs) → AreRuntimeValues vs
  values_behind v vs values = record { bounded = values.bounded.1; canonical = values.canonical.1 }

  variables_told : (i : ℤ) (xs : List CheckedVariable) (vs ws : List Data) (us us' : List ℕ) → AllByRecursion (IsTextVariable (length s.names)) xs → AllZip FitsVariable xs vs → AllZip FitsVariable xs ws → AreRuntimeValues vs → AreRuntimeValues ws →
      variable_lines s.names i vs xs ++ us ≡ variable_lines s.names i ws xs ++ us' → (vs ≡ ws) × (us ≡ us')
  variables_told i [] [] [] us us' of_text fit also values others h = (refl, h)
  variables_told i [] (v ∷ vs) ws us us' of_text fit also values others h = absurd fit
  variables_told i [] [] (w ∷ ws) us us' of_text fit also values others h = absurd also
  variables_told i (x ∷ xs) [] ws us us' of_text fit also values others h = absurd fit
  variables_told i (x ∷ xs) (v ∷ vs) [] us us' of_text fit also values others h = absurd also
  variables_told i (x ∷ xs) (v ∷ vs) (w ∷ ws) us us' of_text fit also values others h =
      let shape = x.declared.shape in
      let one = value_told x v vs of_text.0 fit.0 values in
      let other = value_told x w ws of_text.0 also.0 others in
      let name = x.declared.name in
      let rest = variable_lines s.names i vs xs in
      let rest' = variable_lines s.names i ws xs in
      let first = same_rest (codes "node " ++ (signed_decimal i ++ (codes " " ++ (name ++ codes " = ")))) (text s.names v) (text s.names w) (rest ++ us) (rest' ++ us')
      (value_line s.names is.names shape v one) (value_line s.names is.names shape w other)
      (sym (five_texts (codes "node ") (signed_decimal i) (codes " ") name (codes " = ") (text s.names v) rest us)
      ∙ h ∙ five_texts (codes "node ") (signed_decimal i) (codes " ") name (codes " = ") (text s.names w) rest' us') in
      let more = variables_told i xs vs ws us us' of_text.1 fit.1 also.1 (values_behind v vs values) (values_behind w ws others) first.1 in
      (rw (one_value s.names is.names shape v w one other first.0, more.0) refl, more.1)

  -- the messages to a node have one shape, which is one of the text
  one_parameter : (o : Option Parts) (p q : Parts) (r t : PlainRule) (d e : CheckedDeclared) → o ≡ Some p → o ≡ Some q → rule_named receive_name p.automaton.rules ≡ Some r → rule_named receive_name q.automaton.rules ≡ Some t →
      slice_get r.entry.parameters 0 ≡ Some (named d) → slice_get t.entry.parameters 0 ≡ Some (named e) → e ≡ d
  one_parameter o p q r t d e h g k l m n =
      let same : p ≡ q = same_found o p q h g in
      let rule : r ≡ t = same_found (rule_named receive_name p.automaton.rules) r t k (rw same l) in
      same_name (slice_get r.entry.parameters 0) e d (rw rule n) m
    where
      same_found : {A : Type 0} (x : Option A) (y z : A) → x ≡ Some y → x ≡ Some z → y ≡ z
      same_found x y z a b = cc

      same_name : (x : Option CheckedParameter) (y z : CheckedDeclared) → x ≡ Some (named y) → x ≡ Some (named z) → y ≡ z
      same_name x y z a b = cc

  same_shape : (j : ℤ) (m n : Data) (a : IsMessageTo s j m) (b : IsMessageTo s j n) → has_shape a.parameter.shape n ≡ true
  same_shape j m n a b =
      subst (λ (d : CheckedDeclared). has_shape d.shape n ≡ true) (one_parameter (program_numbered j s.programs) a.receiver b.receiver a.input b.input a.parameter b.parameter a.to b.to a.found b.found a.first b.first) b.fits

  first_has : (P : CheckedParameter → Type 0) (ps : List CheckedParameter) (p : CheckedParameter) → AllByRecursion P ps → slice_get ps 0 ≡ Some p → P p
  first_has P [] p all h = absurd (cc)
  first_has P (q ∷ ps) p all h = let same : q ≡ p = cc in subst P same all.0

  message_text : (j : ℤ) (m : Data) (a : IsMessageTo s j m) → IsTextShape (length s.names) a.parameter.shape
  message_text j m a =
      let receiver = found_has (IsTextProgram (length s.names)) (λ p. int_eq p.node j) s.programs a.receiver is.programs a.to in
      let input = found_has (IsTextRule (length s.names)) (λ r. same_word r.entry.name receive_name) a.receiver.automaton.rules a.input receiver.rules a.found in
      first_has (IsTextParameter (length s.names)) a.input.entry.parameters (named a.parameter) input.parameters a.first

  all_shaped : (j : ℤ) (m : Data) (a : IsMessageTo s j m) (ns : List Data) → AllByRecursion (IsMessageTo s j) ns → all_have a.parameter.shape (items_of ns) ≡ true
  all_shaped j m a [] h = refl
  all_shaped j m a (n ∷ ns) h = rw (same_shape j m n a h.0, all_shaped j m a ns h.1) refl

  -- a shape that the messages of two lists have
  record HaveShape (ms ns : List Data) : Type 0 where
    shape : PlainShape
    of_text : IsTextShape (length s.names) shape
    first : all_have shape (items_of ms) ≡ true
    second : all_have shape (items_of ns) ≡ true

  have_shape : (j : ℤ) (ms ns : List Data) → AllByRecursion (IsMessageTo s j) ms → AllByRecursion (IsMessageTo s j) ns → HaveShape ms ns
  have_shape j [] [] h g = record { shape = truths; of_text = tt; first = refl; second = refl }
  have_shape j (m ∷ ms) ns h g = record { shape = h.0.parameter.shape; of_text = message_text j m h.0; first = all_shaped j m h.0 (m ∷ ms) h; second = all_shaped j m h.0 ns g }
  have_shape j [] (n ∷ ns) h g = record { shape = g.0.parameter.shape; of_text = message_text j n g.0; first = refl; second = all_shaped j n g.0 (n ∷ ns) g }

  -- the items of a channel are messages
  record HoldsMessages (j : ℤ) (items : List Item) : Type 0 where
    messages : List Data
    same : items ≡ map Message messages
    to : AllByRecursion (IsMessageTo s j) messages
    values : AreRuntimeValues messages

  holds_messages : (j : ℤ) (items : List Item) → AllByRecursion (IsItemTo s j) items → AllByRecursion IsRuntimeItem items → HoldsMessages j items
  holds_messages j [] h g = record { messages = []; same = refl; to = tt; values = record { bounded = tt; canonical = tt } }
  holds_messages j (Message m ∷ items) h g =
      let more = holds_messages j items h.1 g.1 in
      record {
        messages = m ∷ more.messages;
        same = ap (λ (xs : List Item). Message m ∷ xs) more.same;
        to = (h.0, more.to);
        values = record { bounded = (g.0.0, more.values.bounded); canonical = (g.0.1, more.values.canonical) };
      }
  holds_messages j (Stimulus a ∷ items) h g = absurd h.0

  -- their texts are those of a sequence
  items_texts : (ms : List Data) → map (item_text s.names) (map Message ms) ≡ texts s.names (items_of ms)
  items_texts [] = refl
  items_texts (m ∷ ms) = ap (λ (ts : List (List ℕ)). text s.names m ∷ ts) (items_texts ms)

  are_canonical : (ms : List Data) → AllCanonical ms → AreCanonical (items_of ms)
  are_canonical [] h = tt
  are_canonical (m ∷ ms) h = (h.0, are_canonical ms h.1)

  sequence_told : (t : PlainShape) (ms : List Data) → IsTextShape (length s.names) t → all_have t (items_of ms) ≡ true → AreRuntimeValues ms → IsTold s.names (sequences t) (sequence (items_of ms))
  sequence_told t ms of_text have values = record { of_text = of_text; shaped = have; bounded = are_bounded ms values.bounded; canonical = are_canonical ms values.canonical }

  same_items : (ms ns : List Data) → sequence (items_of ms) ≡ sequence (items_of ns) → ms ≡ ns
  same_items ms ns h =
      let same : items_of ms ≡ items_of ns = cc in
      sym (list_of_items ms) ∙ ap list_of same ∙ list_of_items ns

  messages_told : (i j : ℤ) (ms ns : List Data) (us vs : List ℕ) → AllByRecursion (IsMessageTo s j) ms → AllByRecursion (IsMessageTo s j) ns → AreRuntimeValues ms → AreRuntimeValues ns →
      queue_line s (component.Channel i j) (map Message ms) ++ us ≡ queue_line s (component.Channel i j) (map Message ns) ++ vs → (ms ≡ ns) × (us ≡ vs)
  messages_told i j ms ns us vs to also values others h =
      let have = have_shape j ms ns to also in
      let one = sequence_told have.shape ms have.of_text have.first values in
      let other = sequence_told have.shape ns have.of_text have.second others in
      let front = codes "channel " ++ (signed_decimal i ++ (codes " -> " ++ (signed_decimal j ++ codes " "))) in
      let rest = same_rest front (text s.names (sequence (items_of ms))) (text s.names (sequence (items_of ns))) us vs
      (value_line s.names is.names (sequences have.shape) (sequence (items_of ms)) one) (value_line s.names is.names (sequences have.shape) (sequence (items_of ns)) other)
      (sym (line_of ms us) ∙ h ∙ line_of ns vs) in
      (same_items ms ns (one_value s.names is.names (sequences have.shape) (sequence (items_of ms)) (sequence (items_of ns)) one other rest.0), rest.1)
    where
      line_of : (ks : List Data) (more : List ℕ) → queue_line s (component.Channel i j) (map Message ks) ++ more
          ≡ ((codes "channel " ++ (signed_decimal i ++ (codes " -> " ++ (signed_decimal j ++ codes " ")))) ++ (text s.names (sequence (items_of ks)) ++ codes "\n")) ++ more
      line_of ks more =
          ap (λ (ts : List (List ℕ)). (codes "channel " ++ (signed_decimal i ++ (codes " -> " ++ (signed_decimal j ++ (codes " {" ++ (with_commas ts ++ codes "}\n")))))) ++ more) (items_texts ks)
          ∙ braces (codes "channel ") (signed_decimal i) (codes " -> ") (signed_decimal j) (with_commas (texts s.names (items_of ks))) more

  channel_told : (i j : ℤ) (xs ys : List Item) (us vs : List ℕ) → AllByRecursion (IsItemTo s j) xs → AllByRecursion (IsItemTo s j) ys → AllByRecursion IsRuntimeItem xs → AllByRecursion IsRuntimeItem ys →
      queue_line s (component.Channel i j) xs ++ us ≡ queue_line s (component.Channel i j) ys ++ vs → (xs ≡ ys) × (us ≡ vs)
  channel_told i j xs ys us vs to also values others h =
      let one = holds_messages j xs to values in
      let other = holds_messages j ys also others in
      let both = messages_told i j one.messages other.messages us vs one.to other.to one.values other.values
      (ap (λ (zs : List Item). queue_line s (component.Channel i j) zs ++ us) (sym one.same) ∙ h ∙ ap (λ (zs : List Item). queue_line s (component.Channel i j) zs ++ vs) other.same) in
      (one.same ∙ ap (λ (ms : List Data). map Message ms) both.0 ∙ sym other.same, both.1)

  -- two last parts of one list that are as long
  same_ends : {A : Type 0} (fs gs xs ys : List A) → fs ++ xs ≡ gs ++ ys → length xs ≡ length ys → xs ≡ ys
  same_ends [] [] xs ys h e = h
  same_ends [] (g ∷ gs) xs ys h e =
      let longer : length xs ≡ length ((g ∷ gs) ++ ys) = ap length h in
      absurd (omega (arith, longer, e, length-append (g ∷ gs) ys))
  same_ends (f ∷ fs) [] xs ys h e =
      let longer : length ((f ∷ fs) ++ xs) ≡ length ys = ap length h in
      absurd (omega (arith, longer, e, length-append (f ∷ fs) xs))
  same_ends (f ∷ fs) (g ∷ gs) xs ys h e =
      let behind : fs ++ xs ≡ gs ++ ys = cc in
      same_ends fs gs xs ys behind e

  -- what is left of a script that is declared has its line; one that is not declared holds nothing
  nothing_left : {A : Type 0} (fs xs : List A) → [] ≡ fs ++ xs → xs ≡ []
  nothing_left [] xs h = sym h
  nothing_left (f ∷ fs) xs h = absurd (cc)

  script_told : (o : Option ScriptParts) (k : ℤ) (all fs gs xs ys : List Item) (us vs : List ℕ) → all ≡ map Stimulus (stimuli_in o) → all ≡ fs ++ xs → all ≡ gs ++ ys → length xs < 2 ^ 64 → length ys < 2 ^ 64 →
      script_text o k (length xs) ++ us ≡ script_text o k (length ys) ++ vs → (xs ≡ ys) × (us ≡ vs)
  script_told None k all fs gs xs ys us vs whole h g few low e =
      (nothing_left fs xs (sym whole ∙ h) ∙ sym (nothing_left gs ys (sym whole ∙ g)), e)
  script_told (Some c) k all fs gs xs ys us vs whole h g few low e =
      let line = λ (n : ℕ) (more : List ℕ). count_texts (codes "script ") (signed_decimal k) (codes " ") (decimal n) more in
      let rest = same_rest (codes "script " ++ (signed_decimal k ++ codes " ")) (decimal (length xs)) (decimal (length ys)) us vs (decimal_line (length xs) few) (decimal_line (length ys) low)
      (sym (line (length xs) us) ∙ e ∙ line (length ys) vs) in
      (same_ends fs gs xs ys (sym h ∙ g) (decimal_injective (length xs) (length ys) few low rest.0), rest.1)

  -- at the start a script holds what is declared
  abbrev IsScripted : Conf → Type 0
  IsScripted (Node c) = Unit {0}
  IsScripted (Queue q) = (k : ℤ) → q.component ≡ component.Script k → q.items ≡ map Stimulus (stimuli_in (script_of k s.scripts))

  nodes_scripted : (ps : List Parts) → AllByRecursion IsScripted (map node_start ps)
  nodes_scripted [] = tt
  nodes_scripted (p ∷ ps) = (tt, nodes_scripted ps)

  channels_scripted : (cs : List Channel) → AllByRecursion IsScripted (map channel_start cs)
  channels_scripted [] = tt
  channels_scripted (c ∷ cs) = (λ k e. absurd (cc), channels_scripted cs)

  one_script : (i k : ℤ) → component.Script i ≡ component.Script k → i ≡ k
  one_script i k e = cc

  scripts_scripted : (ps : List Parts) → AllByRecursion IsScripted (map (script_start s.scripts) ps)
  scripts_scripted [] = tt
  scripts_scripted (p ∷ ps) = (λ k e. ap (λ (i : ℤ). map Stimulus (stimuli_in (script_of i s.scripts))) (one_script p.node k e), scripts_scripted ps)

  start_scripted : AllByRecursion IsScripted (start s)
  start_scripted =
      all_appended IsScripted (map node_start s.programs ++ map channel_start s.channels) (map (script_start s.scripts) s.programs)
      (all_appended IsScripted (map node_start s.programs) (map channel_start s.channels) (nodes_scripted s.programs) (channels_scripted s.channels))
      (scripts_scripted s.programs)

  -- a node
  node_told : (b c d : NodeState) (us vs : List ℕ) → c.program ≡ b.program → d.program ≡ b.program → IsShapedNode s c → IsShapedNode s d → AreRuntimeValues c.variables → AreRuntimeValues d.variables →
      component_lines s (Node c) ++ us ≡ component_lines s (Node d) ++ vs → (Node c ≡ Node d) × (us ≡ vs)
  node_told b c d us vs kept also shaped fits values others h =
      let same : d.program ≡ c.program = also ∙ sym kept in
      let of_text = contained_has (IsTextProgram (length s.names)) s.programs c.program is.programs shaped.program in
      let told = variables_told c.program.node c.program.automaton.variables c.variables d.variables us vs of_text.variables shaped.variables
      (subst (λ (p : Parts). AllZip FitsVariable p.automaton.variables d.variables) same fits.variables) values others
      (subst (λ (p : Parts). component_lines s (Node c) ++ us ≡ variable_lines s.names p.node d.variables p.automaton.variables ++ vs) same h) in
      (λ i. Node (record { program = sym same i; variables = told.0 i }), told.1)

  -- the items of a queue
  items_told : (k : Component) (q : QueueState) (xs ys : List Item) (us vs : List ℕ) → ((i : ℤ) → k ≡ component.Script i → q.items ≡ map Stimulus (stimuli_in (script_of i s.scripts))) →
      HoldsItems k q.items xs → HoldsItems k q.items ys → IsShapedQueue s k xs → IsShapedQueue s k ys → IsRuntimeQueue xs → IsRuntimeQueue ys → queue_line s k xs ++ us ≡ queue_line s k ys ++ vs → (xs ≡ ys) × (us ≡ vs)
  items_told (component.Node i) q xs ys us vs scripted rest also shaped fits values others h = absurd shaped
  items_told (component.Channel i j) q xs ys us vs scripted rest also shaped fits values others h =
      channel_told i j xs ys us vs shaped.messages fits.messages values.messages others.messages h
  items_told (component.Script i) q xs ys us vs scripted rest also shaped fits values others h =
      script_told (script_of i s.scripts) i q.items rest.0 also.0 xs ys us vs (scripted i refl) rest.1 also.1 values.few others.few h

  -- a queue
  queue_told : (p q r : QueueState) (us vs : List ℕ) → IsScripted (Queue p) → IsKept (Queue p) (Queue q) → IsKept (Queue p) (Queue r) → HoldsItems q.component p.items q.items → HoldsItems r.component p.items r.items →
      IsShapedConf s (Queue q) → IsShapedConf s (Queue r) → IsRuntimeQueue q.items → IsRuntimeQueue r.items → component_lines s (Queue q) ++ us ≡ component_lines s (Queue r) ++ vs → (Queue q ≡ Queue r) × (us ≡ vs)
  queue_told p q r us vs scripted kept also rest further shaped fits values others h =
      let same : r.component ≡ q.component = also.0 ∙ sym kept.0 in
      let kinds : q.kind ≡ r.kind = kept.1 ∙ sym also.1 in
      let told = items_told q.component p q.items r.items us vs (λ i e. scripted i (sym kept.0 ∙ e)) rest
      (subst (λ (k : Component). HoldsItems k p.items r.items) same further) shaped
      (subst (λ (k : Component). IsShapedQueue s k r.items) same fits) values others
      (subst (λ (k : Component). queue_line s q.component q.items ++ us ≡ queue_line s k r.items ++ vs) same h) in
      (λ i. Queue (record { component = sym same i; kind = kinds i; items = told.0 i }), told.1)

  -- one component, by what it was at the start
  conf_told : (b c d : Conf) (us vs : List ℕ) → IsScripted b → IsKept b c → IsKept b d → HoldsRest (component_of c) b c → HoldsRest (component_of d) b d → IsShapedConf s c → IsShapedConf s d → IsRuntimeConf c → IsRuntimeConf d →
      component_lines s c ++ us ≡ component_lines s d ++ vs → (c ≡ d) × (us ≡ vs)
  conf_told (Node b) (Node c) (Node d) us vs scripted kept also rest further shaped fits values others h = node_told b c d us vs kept also shaped fits values others h
  conf_told (Node b) (Node c) (Queue r) us vs scripted kept also rest further shaped fits values others h = absurd also
  conf_told (Node b) (Queue q) d us vs scripted kept also rest further shaped fits values others h = absurd kept
  conf_told (Queue p) (Node c) d us vs scripted kept also rest further shaped fits values others h = absurd kept
  conf_told (Queue p) (Queue q) (Node d) us vs scripted kept also rest further shaped fits values others h = absurd also
  conf_told (Queue p) (Queue q) (Queue r) us vs scripted kept also rest further shaped fits values others h = queue_told p q r us vs scripted kept also rest further shaped fits values others h

  -- all of them, in front of other lines
  pub states_told : (cs ds : List Conf) (us vs : List ℕ) → component_names cs ≡ component_names ds → AllByRecursion (IsOfStart s) cs → AllByRecursion (IsOfStart s) ds → AreShaped s cs → AreShaped s ds → AreRuntimeConfs cs → AreRuntimeConfs ds →
      states_text s cs ++ us ≡ states_text s ds ++ vs → (cs ≡ ds) × (us ≡ vs)
  states_told [] [] us vs names began also shaped fits values others h = (refl, h)
  states_told [] (d ∷ ds) us vs names began also shaped fits values others h = absurd (cc)
  states_told (c ∷ cs) [] us vs names began also shaped fits values others h = absurd (cc)
  states_told (c ∷ cs) (d ∷ ds) us vs names began also shaped fits values others h =
      let name : component_of d ≡ component_of c = cc in
      let behind : component_names cs ≡ component_names ds = cc in
      let from : IsOfStart s c = began.0 in
      let onward : IsOfStart s d = also.0 in
      let one : onward.first ≡ from.first = one_found (start s) (component_of c) onward.first from.first (rw name at onward.found) from.found in
      let first = conf_told from.first c d (states_text s cs ++ us) (states_text s ds ++ vs)
      (found_has IsScripted (λ b. same_component (component_of c) (component_of b)) (start s) from.first start_scripted from.found)
      from.kept (subst (λ (b : Conf). IsKept b d) one onward.kept) from.rest (subst (λ (b : Conf). HoldsRest (component_of d) b d) one onward.rest)
      shaped.0 fits.0 values.0 others.0
      (sym (append_assoc (component_lines s c) (states_text s cs) us) ∙ h ∙ append_assoc (component_lines s d) (states_text s ds) vs) in
      let more = states_told cs ds us vs behind began.1 also.1 shaped.1 fits.1 values.1 others.1 first.1 in
      (rw (first.0, more.0) refl, more.1)
