-- The entries of an automaton with their transitions, with slots and shapes (profile).
use Rattle.std.specs.Prelude.{ℕ, Bool, true, false, not, ◌&&◌, ◌||◌, ◌++◌, nat_eq, if◌then◌else◌}
use Rattle.std.specs.Prelude.{List, [], Option, Some, None, Result, Ok, Err, map, length, find, slice_get}
use Rattle.std.specs.List.{list_all}
use Rattle.std.specs.Option.{is_some}
use lib.Pointwise.{pointwise}
use Rattle.ioa_values.specs.Outcome.{and_then}
use Rattle.ioa_operators.specs.Shapes.{PlainShape, truths, integers, naturals, constants, tuples, sequences, sets, maps}
use Rattle.ioa_terms.specs.declared.tree.Kind.TheVariants.{Input, Output}
use Rattle.ioa_terms.specs.declared.name.Name.TheVariants.{Word}
use Rattle.ioa_terms.specs.Bindings.{same_name, same_word}
use Rattle.ioa_terms.specs.PlainTerm.{number, truth, name, one, two, call, display, field}
use Rattle.ioa_terms.specs.SameTerms.{same_kind, same_term}
use Rattle.ioa_terms.specs.Sorted.{NameShapes}
use Rattle.ioa_actions.specs.ActionParts.{send_name, receive_name}
use Rattle.ioa_source.specs.PlainText.{const, named}
use Rattle.ioa_source.specs.Sides.{SourceTerm, SourceParameter, SourceEntry, SourceTransition}
use Rattle.ioa_source.specs.Sides.{CheckedParameter, CheckedTransition}
use Rattle.ioa_system.specs.InView.{own_names}
use Rattle.ioa_system.specs.Parts.{PlainRule}
use Rattle.ioa_refusals.specs.declared.refusal.Refusal.{Refusal}
use Rattle.ioa_refusals.specs.declared.refusal.Refusal.TheVariants.{Unknown, Twice, NoTransition, InputPre}
use Rattle.ioa_refusals.specs.declared.refusal.Refusal.TheVariants.{BadArgument}
use Rattle.ioa_sorts.specs.Statements.{all_ok}
use Rattle.ioa_types.specs.TypeTables.{TypeTable, are_new}
use Rattle.ioa_automata.specs.NamesInView.{own_names_or}
use Rattle.ioa_automata.specs.Parts.{PlainSortedEntry, entry_at, parameters_at, transition_at}

-- whether an argument of a transition's head repeats a parameter: the same term at a constant, the same name elsewhere
abbrev pub repeats : SourceParameter → SourceTerm → Bool
repeats (const t) u = same_term (λ _ _. true) (λ _ _. true) (λ _ _. true) t u
repeats (named d) (name x at) = same_name x (Word d.name)
repeats (named d) (number n) = false
repeats (named d) (truth b) = false
repeats (named d) (one op a) = false
repeats (named d) (two op a b) = false
repeats (named d) (call w c ts) = false
repeats (named d) (display f x ts) = false
repeats (named d) (field a w x) = false

-- the transition of an entry: the first of its name and kind
abbrev pub transition_for : SourceEntry → List SourceTransition → Option SourceTransition
transition_for e ts = find (λ t. same_word t.name e.name && same_kind t.kind e.kind) ts

-- it repeats the entry, and has no guard if it is an input's
unfoldable pub transition_or : SourceEntry → Option SourceTransition → Result SourceTransition Refusal
transition_or e None = Err NoTransition
transition_or e (Some t) =
    if pointwise repeats e.parameters t.arguments
    then (if is_some t.pre && same_kind e.kind Input then Err InputPre else Ok t)
    else Err BadArgument

-- whether a shape is that of `Int` or `Nat`
abbrev pub is_number : PlainShape → Bool
is_number truths = false
is_number integers = true
is_number naturals = true
is_number (constants w from many) = false
is_number (tuples w ns ss) = false
is_number (sequences s) = false
is_number (sets s) = false
is_number (maps k v) = false

-- whether a parameter is there and is a constant
abbrev pub is_constant : Option CheckedParameter → Bool
is_constant None = false
is_constant (Some (const t)) = true
is_constant (Some (named d)) = false

-- whether there is a shape and it is that of numbers
abbrev pub is_number_if : Option PlainShape → Bool
is_number_if None = false
is_number_if (Some s) = is_number s

-- whether arguments are a message and the numbers of two nodes
abbrev pub has_message_shapes : List PlainShape → Bool
has_message_shapes ss =
    nat_eq (length ss) 3 && (is_number_if (slice_get ss 1) && is_number_if (slice_get ss 2))

-- whether an entry may have its name (profile): `send` is an output whose second argument is constant, and `receive` an
-- input whose third argument is constant and whose first is not; both have a message and the numbers of two nodes
abbrev pub is_send : PlainSortedEntry → Bool
is_send e =
    same_kind e.entry.kind Output && (has_message_shapes e.shapes && is_constant (slice_get e.entry.parameters 1))

abbrev pub is_receive : PlainSortedEntry → Bool
is_receive e =
    same_kind e.entry.kind Input
    && (has_message_shapes e.shapes
    && (is_constant (slice_get e.entry.parameters 2) && not (is_constant (slice_get e.entry.parameters 0))))

abbrev pub may_have_name : PlainSortedEntry → Bool
may_have_name e =
    (not (same_word e.entry.name send_name) || is_send e) && (not (same_word e.entry.name receive_name) || is_receive e)

unfoldable pub message_at : PlainSortedEntry → Result PlainSortedEntry Refusal
message_at e = if may_have_name e then Ok e else Err BadArgument

-- a sorted entry with its transition
abbrev pub sorted_rule : PlainSortedEntry → CheckedTransition → PlainRule
sorted_rule e t =
    record { entry = e.entry; shapes = e.shapes; transition = t; own = own_names e.entry.parameters }

-- what the entries of an automaton read: the text's constants and types, the names of the automaton's parameters, and
-- those of its state variables and parameters, of which so many are variables
pub record PlainSurroundings : Type 0 where
  pub constants : NameShapes
  pub types : TypeTable
  pub given : NameShapes
  pub outer : NameShapes
  pub variables : ℕ

-- the transition of a sorted entry, whose own parameters have these names
unfoldable pub rule_of : PlainSurroundings → NameShapes → SourceTransition → PlainSortedEntry → Result PlainRule Refusal
rule_of s own t e =
    and_then (transition_at s.types (s.outer ++ (own ++ s.constants)) s.variables t) (λ u. Ok (sorted_rule e u))

-- an entry with its transition
unfoldable pub rule_at : PlainSurroundings → List SourceTransition → SourceEntry → Result PlainRule Refusal
rule_at s ts e = and_then (transition_or e (transition_for e ts))
    (λ t. and_then (parameters_at s.types (s.given ++ s.constants) e.parameters)
    (λ ps. and_then (own_names_or s.outer s.constants ps.parameters)
    (λ own. and_then (entry_at (s.given ++ (own ++ s.constants)) e ps)
    (λ x. and_then (message_at x) (rule_of s own t)))))

abbrev pub rules_at : PlainSurroundings → List SourceTransition → List SourceEntry
    → Result (List PlainRule) Refusal
rules_at s ts es = all_ok (map (rule_at s ts) es)

-- names, if they differ from each other
abbrev pub names_or : List (List ℕ) → Result (List (List ℕ)) Refusal
names_or ws = if are_new [] ws then Ok ws else Err Twice

-- the entry of a transition: the first of its name and kind
abbrev pub entry_for : SourceTransition → List SourceEntry → Option SourceEntry
entry_for t es = find (λ e. same_word e.name t.name && same_kind e.kind t.kind) es

-- whether a transition has one
abbrev pub has_entry : List SourceEntry → SourceTransition → Bool
has_entry es t = is_some (entry_for t es)

-- each transition has an entry
abbrev pub have_entries : List SourceEntry → List SourceTransition → Result (Unit {0}) Refusal
have_entries es ts = if list_all (has_entry es) ts then Ok tt else Err Unknown
