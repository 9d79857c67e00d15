-- The names of what is made of entries and of lists of names.
use Rattle.std.proofs.Common.{◌≡◌, ◌++◌, ℕ, Bool, true, false, List, [], ◌∷◌, Err, refl, sym, ap, subst, ◌∙◌, map, if◌then◌else◌}
use Rattle.std.specs.List.{AllZip, IsDistinct}
use Rattle.ioa_values.specs.Outcome.{and_then}
use Rattle.ioa_terms.specs.Bindings.{same_word}
use Rattle.ioa_source.specs.Sides.{SourceEntry, SourceTransition}
use Rattle.ioa_system.specs.Parts.{PlainRule}
use Rattle.ioa_refusals.specs.declared.refusal.Refusal.TheVariants.{Twice, BadArgument}
use Rattle.ioa_types.specs.TypeTables.{are_new}
use Rattle.ioa_types.proofs.TypeDeclarations.{new_differ}
use Rattle.ioa_names.specs.Indexes.{AreIndexed}
use Rattle.ioa_automata.specs.NamesInView.{own_names_or}
use Rattle.ioa_automata.specs.Parts.{PlainSortedEntry, sorted_entry, parameters_at, where_at, entry_at, transition_at}
use Rattle.ioa_automata.specs.Rules.{transition_for, transition_or, may_have_name, message_at, sorted_rule, PlainSurroundings, rule_of, rule_at, rules_at, names_or}
use Rattle.ioa_automata.proofs.Loops.{results_are}
use Rattle.ioa_automata.proofs.Results.{result_is, first_of, all_ok_each}

-- names that differ are those given
pub names_are : (ws ns : List (List ℕ)) → names_or ws ≡ result_is ns → (ws ≡ ns) × IsDistinct same_word ws
names_are ws ns h = by_test (are_new [] ws) refl h
  where
    by_test : (b : Bool) → are_new [] ws ≡ b → (if b then result_is ws else Err Twice) ≡ result_is ns → (ws ≡ ns) × IsDistinct same_word ws
    by_test true e h = let same : ws ≡ ns = cc in (same, new_differ ws e)
    by_test false e h = absurd (cc)

-- an entry that may have its name is handed on
pub message_same : (x y : PlainSortedEntry) → message_at x ≡ result_is y → (x ≡ y) × (may_have_name x ≡ true)
unfolding message_at
message_same x y h = by_name (may_have_name x) refl h
  where
    by_name : (b : Bool) → may_have_name x ≡ b → (if b then result_is x else Err BadArgument) ≡ result_is y → (x ≡ y) × (may_have_name x ≡ true)
    by_name true m h = let same : x ≡ y = cc in (same, m)
    by_name false m h = absurd (cc)

-- a rule has its entry's name
rule_named : (s : PlainSurroundings) (ts : List SourceTransition) (e : SourceEntry) (r : PlainRule) → rule_at s ts e ≡ result_is r → e.name ≡ r.entry.name
unfolding rule_at rule_of entry_at
rule_named s ts e r h =
    let one = first_of (transition_or e (transition_for e ts)) (λ u. and_then (parameters_at s.types (s.given ++ s.constants) e.parameters) (λ qs. and_then (own_names_or s.outer s.constants qs.parameters) (λ own. and_then (entry_at (s.given ++ (own ++ s.constants)) e qs) (λ x. and_then (message_at x) (rule_of s own u))))) r h in
    let two = first_of (parameters_at s.types (s.given ++ s.constants) e.parameters) (λ qs. and_then (own_names_or s.outer s.constants qs.parameters) (λ own. and_then (entry_at (s.given ++ (own ++ s.constants)) e qs) (λ x. and_then (message_at x) (rule_of s own one.0)))) r one.2 in
    let three = first_of (own_names_or s.outer s.constants two.0.parameters) (λ own. and_then (entry_at (s.given ++ (own ++ s.constants)) e two.0) (λ x. and_then (message_at x) (rule_of s own one.0))) r two.2 in
    let four = first_of (entry_at (s.given ++ (three.0 ++ s.constants)) e two.0) (λ x. and_then (message_at x) (rule_of s three.0 one.0)) r three.2 in
    let five = first_of (message_at four.0) (rule_of s three.0 one.0) r four.2 in
    let six = first_of (transition_at s.types (s.outer ++ (three.0 ++ s.constants)) s.variables one.0) (λ u. result_is (sorted_rule five.0 u)) r five.2 in
    let made : sorted_rule five.0 six.0 ≡ r = cc in
    let seven = first_of (where_at (s.given ++ (three.0 ++ s.constants)) e.kind e.condition) (λ c. result_is (sorted_entry e two.0 c)) four.0 four.1 in
    let entry : sorted_entry e two.0 seven.0 ≡ four.0 = cc in
    ap (λ (x : PlainSortedEntry). x.entry.name) (entry ∙ (message_same four.0 five.0 five.1).0) ∙ ap (λ (q : PlainRule). q.entry.name) made

pub rules_named : (s : PlainSurroundings) (ts : List SourceTransition) (es : List SourceEntry) (rs : List PlainRule) → rules_at s ts es ≡ results_are rs → map (λ e. e.name) es ≡ map (λ r. r.entry.name) rs
rules_named s ts es rs h = each es rs (all_ok_each (rule_at s ts) es rs h)
  where
    each : (es : List SourceEntry) (rs : List PlainRule) → AllZip (λ e r. rule_at s ts e ≡ result_is r) es rs → map (λ (e : SourceEntry). e.name) es ≡ map (λ (r : PlainRule). r.entry.name) rs
    each [] [] h = refl
    each [] (r ∷ rs) h = absurd h
    each (e ∷ es) [] h = absurd h
    each (e ∷ es) (r ∷ rs) h = λ i. rule_named s ts e r h.0 i ∷ each es rs h.1 i

-- the names of entries are an index of the rules that are made of them
pub rules_indexed : (s : PlainSurroundings) (ts : List SourceTransition) (es : List SourceEntry) (names : List (List ℕ)) (rs : List PlainRule) → names_or (map (λ e. e.name) es) ≡ result_is names → rules_at s ts es ≡ results_are rs → AreIndexed names (map (λ r. r.entry.name) rs)
rules_indexed s ts es names rs n h =
    let are = names_are (map (λ e. e.name) es) names n in
    let same = rules_named s ts es rs h in
    record { same = sym are.0 ∙ same; differ = subst (IsDistinct same_word) same are.1 }
