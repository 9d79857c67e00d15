-- A value of a shape of a text can be printed, and so can the action of an entry that a node of its system may take.
use Rattle.std.proofs.Common.{◌≡◌, ℕ, ◌+◌, ◌≤◌, pos, Bool, true, List, [], ◌∷◌, Some, length, sym, subst, arith, true≢false, find, nat_le, nat_lt, ◌&&◌, ⊎_elim, ◌∙◌}
use Rattle.std.specs.List.{AllByRecursion}
use Rattle.std.specs.Cmp.Lexicographic.{bytes_decides}
use Rattle.std.specs.Ordering.{int_eq}
use Rattle.std.proofs.lemmas.Bool.{and_parts, cases_Bool}
use Rattle.std.proofs.lemmas.Bool.Decides.{nat_tests, Decides-int_eq}
use Rattle.ioa_values.specs.Data.{Data, number, truth, constant, tuple, sequence, finite_set, finite_map}
use Rattle.ioa_values.specs.Data.{Items, no_items, item, Entries, no_entries, entry, items_of}
use Rattle.ioa_operators.specs.Shapes.{PlainShape, PlainShapes, truths, integers, naturals, constants, tuples, sequences, sets, maps, no_shapes, shape, shapes_of, has_shape, have_shapes, all_have, entries_have, wide_shape, wide_shapes_if}
use Rattle.ioa_terms.specs.Bindings.{same_word}
use Rattle.ioa_actions.specs.ActionParts.{action_arguments, action_name, node_of}
use Rattle.ioa_actions.specs.declared.action.Action.{Action}
use Rattle.ioa_actions.specs.declared.action.Action.TheVariants.{Send, Receive, Local, Stimulus}
use Rattle.ioa_system.specs.Systems.{SystemParts}
use Rattle.ioa_transitions.specs.Entries.{PlainEntry}
use Rattle.ioa_tokens.specs.Lexeme.{greatest_number}
use Rattle.ioa_tokens.specs.Written.{IsName}
use Rattle.ioa_printed_lines.proofs.Printables.{IsPrintable, ArePrintable, ArePrintableEntries, IsPrintableAction, HasOwnName}
use Rattle.ioa_printed_lines.specs.TextSystems.{IsTextShape, AreTextShapes, IsTextRule, IsTextProgram, IsTextSystem, IsBounded, AreBounded, AreEntriesBounded, MayTake, IsNoMessage}

mutual
  -- a value of a shape
  pub value_printable : (many : ℕ) (s : PlainShape) (v : Data) → IsTextShape many s → has_shape (wide_shape s) v ≡ true → IsBounded v → IsPrintable many v
  value_printable many truths (truth b) is has within = tt
  value_printable many integers (number z) is has within = within
  value_printable many naturals (number z) is has within = within
  value_printable many (constants type from count) (constant k) is has within = let both = and_parts (nat_le from k) (nat_lt k (from + count)) has in grind (arith, nat_tests)
  value_printable many (tuples type names no_shapes) v is has within = absurd is
  value_printable many (tuples type names (shape s ss)) (tuple no_items) is has within = absurd (true≢false (sym has))
  value_printable many (tuples type names (shape s ss)) (tuple (item d ds)) is has within =
      let both = and_parts (has_shape (wide_shape s) d) (have_shapes (wide_shapes_if true ss) ds) has in
      (value_printable many s d is.0 both.0 within.0, parts_printable many ss ds is.1 both.1 within.1)
  value_printable many (sequences s) (sequence ds) is has within = items_printable many s ds is has within
  value_printable many (sets s) (finite_set ds) is has within = items_printable many s ds is has within
  value_printable many (maps k v) (finite_map es) is has within = entries_printable many k v es is.0 is.1 has within
  value_printable many _ _ is has within = absurd (true≢false (sym has))

  -- values of shapes, one by one
  parts_printable : (many : ℕ) (ss : PlainShapes) (ds : Items) → AreTextShapes many ss → have_shapes (wide_shapes_if true ss) ds ≡ true → AreBounded ds → ArePrintable many ds
  parts_printable many no_shapes no_items are have within = tt
  parts_printable many (shape s ss) (item d ds) are have within =
      let both = and_parts (has_shape (wide_shape s) d) (have_shapes (wide_shapes_if true ss) ds) have in
      (value_printable many s d are.0 both.0 within.0, parts_printable many ss ds are.1 both.1 within.1)
  parts_printable many _ _ are have within = absurd (true≢false (sym have))

  -- values of one shape
  items_printable : (many : ℕ) (s : PlainShape) (ds : Items) → IsTextShape many s → all_have (wide_shape s) ds ≡ true → AreBounded ds → ArePrintable many ds
  items_printable many s no_items is have within = tt
  items_printable many s (item d ds) is have within =
      let both = and_parts (has_shape (wide_shape s) d) (all_have (wide_shape s) ds) have in
      (value_printable many s d is both.0 within.0, items_printable many s ds is both.1 within.1)

  -- keys and values of two shapes
  entries_printable : (many : ℕ) (s t : PlainShape) (es : Entries) → IsTextShape many s → IsTextShape many t → entries_have (wide_shape s) (wide_shape t) es ≡ true → AreEntriesBounded es → ArePrintableEntries many es
  entries_printable many s t no_entries is also have within = tt
  entries_printable many s t (entry k v es) is also have within =
      let first = and_parts (has_shape (wide_shape s) k) (has_shape (wide_shape t) v && entries_have (wide_shape s) (wide_shape t) es) have in
      let second = and_parts (has_shape (wide_shape t) v) (entries_have (wide_shape s) (wide_shape t) es) first.1 in
      ((value_printable many s k is first.0 within.0.0, value_printable many t v also second.0 within.0.1), entries_printable many s t es is also second.1 within.1)

-- what is found passes the test, and has what all have
found_of : {A : Type 0} (P : A → Type 0) (p : A → Bool) (xs : List A) (x : A) → AllByRecursion P xs → find p xs ≡ Some x → P x × (p x ≡ true)
found_of P p [] x all is = cc
found_of P p (y ∷ ys) x all is =
    ⊎_elim
    (λ yes. let first : Some y ≡ Some x = rw yes at is in let same : y ≡ x = cc in subst (λ z. P z × (p z ≡ true)) same (all.0, yes))
    (λ no. found_of P p ys x all.1 (rw no at is))
    (cases_Bool (p y))

-- arguments of the shapes of a rule
arguments_printable : (many : ℕ) (ss : List PlainShape) (vs : List Data) → AllByRecursion (IsTextShape many) ss → have_shapes (wide_shapes_if true (shapes_of ss)) (items_of vs) ≡ true → AllByRecursion IsBounded vs → AllByRecursion (IsPrintable many) vs
arguments_printable many [] [] are have bounded = tt
arguments_printable many [] (v ∷ vs) are have bounded = absurd (true≢false (sym have))
arguments_printable many (s ∷ ss) [] are have bounded = absurd (true≢false (sym have))
arguments_printable many (s ∷ ss) (v ∷ vs) are have bounded =
    let both = and_parts (has_shape (wide_shape s) v) (have_shapes (wide_shapes_if true (shapes_of ss)) (items_of vs)) have in
    (value_printable many s v are.0 both.0 bounded.0, arguments_printable many ss vs are.1 both.1 bounded.1)

-- the name and the node of an action
own_name : (a : Action) (n : ℕ) → IsNoMessage a → IsName (action_name a) → node_of a ≡ pos n → n ≤ greatest_number → HasOwnName a
own_name (Send m i j) n message name node low = tt
own_name (Receive m i j) n message name node low = tt
own_name (Local a) n message name node low = record { name = name; no_send = message.0; no_receive = message.1; number = n; node = node; fits = low }
own_name (Stimulus a) n message name node low = record { name = name; no_send = message.0; no_receive = message.1; number = n; node = node; fits = low }

-- the action of an entry that a node of the system may take
pub action_printable : (s : SystemParts) (e : PlainEntry) → IsTextSystem s → MayTake s e → IsPrintableAction (length s.names) e.action
action_printable s e is may =
    let a = e.action in
    let many = length s.names in
    let taken = may.taken in
    let program = found_of (IsTextProgram many) (λ p. int_eq p.node (node_of a)) s.programs taken.program is.programs taken.placed in
    let rule = found_of (IsTextRule many) (λ r. same_word r.entry.name (action_name a)) taken.program.automaton.rules taken.rule program.0.rules taken.named in
    let node : taken.program.node ≡ node_of a = (Decides-int_eq taken.program.node (node_of a)).0 program.1 in
    let name : taken.rule.entry.name ≡ action_name a = (bytes_decides taken.rule.entry.name (action_name a)).0 rule.1 in
    record {
      own = own_name a program.0.number_of may.message (subst IsName name rule.0.name) (sym node ∙ program.0.node) program.0.low;
      arguments = arguments_printable many taken.rule.shapes (action_arguments a) rule.0.shapes taken.sorted may.bounded;
    }
