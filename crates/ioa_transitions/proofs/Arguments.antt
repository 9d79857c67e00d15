-- Arguments beside parameters, one after another, and what the terms of a rule read.
use Rattle.std.proofs.Common.{◌≡◌, ◌≢◌, ℕ, zero, suc, ◌+◌, ◌≤◌, ◌<◌, Bool, true, false, List, [], ◌∷◌, ◌++◌, refl, sym, ap, ◌∙◌, length, drop, arith, min, map, take, get_or, Ok, Some, Result, append-nil, length-append}
use Rattle.std.specs.Prelude.{◌&&◌}
use Rattle.std.specs.List.{zip, slice_get, slice_range}
use Rattle.std.specs.Option.{option_map}
use Rattle.std.proofs.lemmas.Slice.{between_is}
use Rattle.std.proofs.lemmas.List.{length-map, map-append, take-append-le, take_all}
use Rattle.std.proofs.lemmas.Slice.Zip.{seconds-zip}
use Rattle.std.proofs.Math.Bool.{and-false}
use Rattle.ioa_values.specs.Data.{Data, is_within}
use Rattle.ioa_terms.specs.declared.name.Name.{Name}
use Rattle.ioa_terms.specs.declared.name.Name.TheVariants.{Word}
use Rattle.ioa_terms.specs.Bindings.{Bindings, same_word, environment, constants_from, lookup, names_of, slot_in}
use Rattle.ioa_terms.proofs.Slots.{environment_variable, lookup_slot, names_environment}
use Rattle.ioa_operators.specs.RangeCheck.{checked_result}
use Rattle.ioa_terms.specs.Inboxes.{lent_values}
use Rattle.ioa_terms.specs.declared.environment.View.{View}
use Rattle.ioa_terms.specs.Views.{IsNamed, all_names, all_values, environment_of}
use Rattle.ioa_terms.specs.Choices.{Source, Left, left}
use Rattle.ioa_terms.specs.declared.choices.EffectFault.{EffectFault}
use Rattle.ioa_actions.specs.declared.action.Action.{Action}
use Rattle.ioa_actions.specs.ActionParts.{action_name, action_arguments}
use Rattle.ioa_source.specs.PlainText.{const, named}
use Rattle.ioa_source.specs.Sides.{CheckedDeclared, CheckedEntry, CheckedParameter, CheckedVariable}
use Rattle.ioa_system.specs.InView.{declared_names, given_bindings, names_at, own_names, parameter_names, variable_names, scope_at}
use Rattle.ioa_system.specs.InView.{entry_constant, entry_condition, guard_or_effect}
use Rattle.ioa_system.specs.Parts.{AutomatonParts}
use Rattle.ioa_transitions.specs.NodeAnswers.{Taken, taken, effect_answer, arguments_agree, parameter_agrees, are_natural, entry_agrees, kind_agrees}
use Rattle.ioa_transitions.specs.NodeStep.{own_value, own_values}

second_true : (a b : Bool) → a && b ≡ true → b ≡ true
second_true true b h = h
second_true false b h = absurd (cc)

-- arguments that are not as many as the parameters fit none
pub arguments_agree_short : (b : Bindings) (ps : List CheckedParameter) (vs : List Data) → length ps ≢ length vs → arguments_agree b ps vs ≡ false
arguments_agree_short b [] [] h = absurd (h refl)
arguments_agree_short b [] (v ∷ vs) h = refl
arguments_agree_short b (p ∷ ps) [] h = refl
arguments_agree_short b (p ∷ ps) (v ∷ vs) h =
    let e : arguments_agree b ps vs ≡ false = arguments_agree_short b ps vs (λ q. h (omega arith)) in
    rw e (and-false (parameter_agrees b p v))

-- an action is none of an entry's if the arguments are not as many as the parameters, or if the kind is another
pub entry_agrees_short : (b : Bindings) (a : Action) (e : CheckedEntry) → length e.parameters ≢ length (action_arguments a) → entry_agrees b a e ≡ false
entry_agrees_short b a e h =
    rw (arguments_agree_short b e.parameters (action_arguments a) h, and-false (kind_agrees a e.kind)) (and-false (same_word e.name (action_name a)))

-- the name of one of the automaton's parameters has the value that the node gives it
pub given_there : (p : AutomatonParts) (given : List Data) (x : Name) (slot : ℕ) (d : Data) → length given ≡ length p.parameters → slot_in x (names_at entry_constant (declared_names p) []) ≡ Some slot → slot < length given →
    is_within (get_or given slot d) ≡ true → checked_result (lookup x (given_bindings p given)) ≡ Ok (get_or given slot d)
given_there p given x slot d many here below within =
    let names = parameter_names p.parameters in
    let named : length (map Word names) ≡ length given = length-map names Word ∙ length-map p.parameters (λ (d : CheckedDeclared). d.name) ∙ sym many in
    let all : names_of (given_bindings p given) ≡ names_at entry_constant (declared_names p) [] = names_environment (map Word names) given p.constants named in
    let found : option_map (λ (b : Name × Data). b.1) (slice_get (given_bindings p given) slot) ≡ Some (get_or given slot d) =
    environment_variable (map Word names) given p.constants slot d (omega arith) below in
    ap checked_result (lookup_slot (given_bindings p given) x slot (ap (slot_in x) all ∙ here) ∙ found) ∙ rw within refl

-- if the parameters or the arguments end, no value of their own is left
pub own_values_end : {A : Type 0} (f : A → CheckedParameter) (ps : List A) (vs : List Data) (i : ℕ) → i ≡ min (length ps) (length vs) → own_values (map f (drop i ps)) (drop i vs) ≡ []
own_values_end f [] vs zero h = refl
own_values_end f [] vs (suc i) h = refl
own_values_end f (p ∷ ps) [] zero h = refl
own_values_end f (p ∷ ps) [] (suc i) h = absurd (omega arith)
own_values_end f (p ∷ ps) (v ∷ vs) zero h = absurd (omega arith)
own_values_end f (p ∷ ps) (v ∷ vs) (suc i) h = own_values_end f ps vs i (omega arith)

-- from a position to that position nothing stands
pub none_between : (xs : List Data) (n : ℕ) → drop n (take n xs) ≡ []
none_between xs zero = refl
none_between [] (suc n) = refl
none_between (x ∷ xs) (suc n) = none_between xs n

-- a constant has no value of its own
behind_constant : {A : Type 0} (f : A → CheckedParameter) (ps : List A) (vs : List Data) (i : ℕ) (p : A) → i < length ps → i < length vs → ((v : Data) → own_value (f (get_or ps i p)) v ≡ []) →
    own_values (map f (drop (suc i) ps)) (drop (suc i) vs) ≡ own_values (map f (drop i ps)) (drop i vs)
behind_constant f [] vs i q a b h = absurd (omega arith)
behind_constant f (p ∷ ps) [] i q a b h = absurd (omega arith)
behind_constant f (p ∷ ps) (v ∷ vs) zero q a b h = ap (λ (xs : List Data). xs ++ own_values (map f ps) vs) (sym (h v))
behind_constant f (p ∷ ps) (v ∷ vs) (suc i) q a b h = behind_constant f ps vs i q (omega arith) (omega arith) h

pub own_stays : {A : Type 0} (f : A → CheckedParameter) (ps : List A) (vs : List Data) (i : ℕ) (p : A) → i < length ps → i < length vs → ((v : Data) → own_value (f (get_or ps i p)) v ≡ []) →
    own_values (map f (drop (i + 1) ps)) (drop (i + 1) vs) ≡ own_values (map f (drop i ps)) (drop i vs)
own_stays f ps vs i p a b h = let e : i + 1 ≡ suc i = omega arith in rw e (behind_constant f ps vs i p a b h)

-- one more argument that has a name of its own stands behind those that have
behind_own : {A : Type 0} (f : A → CheckedParameter) (ps : List A) (vs : List Data) (from i : ℕ) (p : A) → from ≤ i → i < length ps → i < length vs → ((v : Data) → own_value (f (get_or ps i p)) v ≡ v ∷ []) →
    drop from (take (suc i) vs) ++ own_values (map f (drop (suc i) ps)) (drop (suc i) vs) ≡ drop from (take i vs) ++ own_values (map f (drop i ps)) (drop i vs)
behind_own f [] vs from i q begun a b h = absurd (omega arith)
behind_own f (p ∷ ps) [] from i q begun a b h = absurd (omega arith)
behind_own f (p ∷ ps) (v ∷ vs) zero zero q begun a b h = ap (λ (xs : List Data). xs ++ own_values (map f ps) vs) (sym (h v))
behind_own f (p ∷ ps) (v ∷ vs) zero (suc i) q begun a b h = ap (λ (xs : List Data). v ∷ xs) (behind_own f ps vs zero i q (omega arith) (omega arith) (omega arith) h)
behind_own f (p ∷ ps) (v ∷ vs) (suc from) zero q begun a b h = absurd (omega arith)
behind_own f (p ∷ ps) (v ∷ vs) (suc from) (suc i) q begun a b h = behind_own f ps vs from i q (omega arith) (omega arith) (omega arith) h

pub own_grows : {A : Type 0} (f : A → CheckedParameter) (ps : List A) (vs : List Data) (from i : ℕ) (p : A) → from ≤ i → i < length ps → i < length vs → ((v : Data) → own_value (f (get_or ps i p)) v ≡ v ∷ []) →
    drop from (take (i + 1) vs) ++ own_values (map f (drop (i + 1) ps)) (drop (i + 1) vs) ≡ drop from (take i vs) ++ own_values (map f (drop i ps)) (drop i vs)
own_grows f ps vs from i p begun a b h = let e : i + 1 ≡ suc i = omega arith in rw e (behind_own f ps vs from i p begun a b h)

-- the arguments that have names of their own are a part of all, if there are constants alone before and behind it
pub own_part : {A : Type 0} (f : A → CheckedParameter) (ps : List A) (vs : List Data) (first end last : ℕ) →
    own_values (map f (drop first ps)) (drop first vs) ≡ own_values (map f ps) vs →
    drop first (take end vs) ++ own_values (map f (drop end ps)) (drop end vs) ≡ own_values (map f (drop first ps)) (drop first vs) →
    own_values (map f (drop last ps)) (drop last vs) ≡ own_values (map f (drop end ps)) (drop end vs) →
    last ≡ min (length ps) (length vs) → slice_range vs first end ≡ own_values (map f ps) vs
own_part f ps vs first end last before own behind all =
    between_is vs first end
    ∙ sym (append-nil (drop first (take end vs)))
    ∙ ap (λ (xs : List Data). drop first (take end vs) ++ xs) (sym (own_values_end f ps vs last all) ∙ behind)
    ∙ own
    ∙ before

-- if the parameters or the arguments end, no negative number is left
pub are_natural_end : {A : Type 0} (f : A → CheckedParameter) (ps : List A) (vs : List Data) (i : ℕ) → i ≡ min (length ps) (length vs) → are_natural (map f (drop i ps)) (drop i vs) ≡ true
are_natural_end f [] vs zero h = refl
are_natural_end f [] vs (suc i) h = refl
are_natural_end f (p ∷ ps) [] zero h = refl
are_natural_end f (p ∷ ps) [] (suc i) h = absurd (omega arith)
are_natural_end f (p ∷ ps) (v ∷ vs) zero h = absurd (omega arith)
are_natural_end f (p ∷ ps) (v ∷ vs) (suc i) h = are_natural_end f ps vs i (omega arith)

-- the first n values that an effect leaves
pub effect_answer_environment : (n : ℕ) (names : List Name) (vs : List Data) (cs : List (List ℕ)) → length names ≡ length vs → n ≤ length vs → (c : Source) → effect_answer n (Ok (left (environment names vs cs) c)) ≡ Ok (taken (take n vs) c)
effect_answer_environment n names vs cs many within c =
    let behind : List Data = map (λ (b : Name × Data). b.1) (constants_from 0 cs) in
    let split : map (λ (b : Name × Data). b.1) (environment names vs cs) ≡ vs ++ behind =
    map-append (λ (b : Name × Data). b.1) (zip names vs) (constants_from 0 cs)
    ∙ ap (λ (ds : List Data). ds ++ behind) (seconds-zip names vs (sym many)) in
    ap (λ (ds : List Data). Ok (taken (take n ds) c)) split ∙ ap (λ (ds : List Data). Ok (taken ds c)) (take-append-le n vs behind within)

-- arguments that fit have as many values of their own as the parameters have names
pub own_values_named : (b : Bindings) (ps : List CheckedParameter) (vs : List Data) → arguments_agree b ps vs ≡ true → length (own_values ps vs) ≡ length (own_names ps)
own_values_named b [] [] h = refl
own_values_named b [] (v ∷ vs) h = absurd (cc)
own_values_named b (p ∷ ps) [] h = absurd (cc)
own_values_named b (const t ∷ ps) (v ∷ vs) h = own_values_named b ps vs (second_true (parameter_agrees b (const t) v) (arguments_agree b ps vs) h)
own_values_named b (named d ∷ ps) (v ∷ vs) h =
    let more = own_values_named b ps vs (second_true (parameter_agrees b (named d) v) (arguments_agree b ps vs) h) in omega arith

-- the arguments of an action that is one of an entry's fit
agreeing_arguments : (b : Bindings) (a : Action) (e : CheckedEntry) → entry_agrees b a e ≡ true → arguments_agree b e.parameters (action_arguments a) ≡ true
agreeing_arguments b a e h =
    second_true (kind_agrees a e.kind) (arguments_agree b e.parameters (action_arguments a))
    (second_true (same_word e.name (action_name a)) (kind_agrees a e.kind && arguments_agree b e.parameters (action_arguments a)) h)

-- the own parameters of an entry whose action is taken have as many names as values
pub own_named : (b : Bindings) (a : Action) (e : CheckedEntry) → entry_agrees b a e ≡ true → length (own_names e.parameters) ≡ length (own_values e.parameters (action_arguments a))
own_named b a e h = sym (own_values_named b e.parameters (action_arguments a) (agreeing_arguments b a e h))

-- so many names are in view in the condition of an entry: one for each value of the automaton's and of its own
-- parameters
pub condition_named : (p : AutomatonParts) (own : List (List ℕ)) (given values : List Data) → length given ≡ length p.parameters → length own ≡ length values →
    length (scope_at entry_condition (declared_names p) own) ≡ length (given ++ values)
condition_named p own given values g h =
    let names = length-append (parameter_names p.parameters) own in
    let values_many = length-append given values in
    let parameters = length-map p.parameters (λ (d : CheckedDeclared). d.name) in
    omega arith

-- and so many in the guard and the effect: those of the state variables too
pub step_named : (p : AutomatonParts) (own : List (List ℕ)) (variables given values : List Data) → length variables ≡ length p.variables → length given ≡ length p.parameters → length own ≡ length values →
    length (scope_at guard_or_effect (declared_names p) own) ≡ length (variables ++ (given ++ values))
step_named p own variables given values v g h =
    let inner = condition_named p own given values g h in
    let names = length-append (variable_names p.variables) (parameter_names p.parameters ++ own) in
    let values_many = length-append variables (given ++ values) in
    let named = length-map p.variables (λ (x : CheckedVariable). x.declared.name) in
    omega arith

-- the names of the variables are the first of the names in view
pub step_own : (p : AutomatonParts) (own : List (List ℕ)) (variables : List Data) → length variables ≡ length p.variables → take (length variables) (map Word (scope_at guard_or_effect (declared_names p) own)) ≡ map Word (variable_names p.variables)
step_own p own variables many =
    let names = map Word (variable_names p.variables) in
    let given = map Word (parameter_names p.parameters ++ own) in
    let named = length-map p.variables (λ (x : CheckedVariable). x.declared.name) in
    let counted = length-map (variable_names p.variables) Word in
    let as_many : length variables ≡ length names = omega arith in
    ap (take (length variables)) (map-append Word (variable_names p.variables) (parameter_names p.parameters ++ own))
    ∙ ap (λ k. take k (names ++ given)) as_many
    ∙ take-append-le (length names) names given (omega arith)
    ∙ take_all (length names) names (omega arith)

-- what the condition of an entry sees: the values of the automaton's parameters, and then those of its own
pub condition_values : (given own : List Data) → given ++ ([] ++ (own ++ [])) ≡ given ++ own
condition_values given own = ap (λ (vs : List Data). given ++ vs) (append-nil own)

pub condition_valued : (p : AutomatonParts) (own : List (List ℕ)) (given values : List Data) → length given ≡ length p.parameters → length own ≡ length values →
    length (scope_at entry_condition (declared_names p) own) ≡ length (given ++ ([] ++ (values ++ [])))
condition_valued p own given values g h = condition_named p own given values g h ∙ ap length (sym (condition_values given values))

-- the values that an effect leaves
pub effect_answer_view : (v : View) (vs ws : List Data) (r : Result Left EffectFault) (c : Source) → IsNamed v vs → length ws ≡ length vs → r ≡ Ok (left (environment_of v ws) c) → effect_answer (length vs) r ≡ Ok (taken ws c)
effect_answer_view v vs ws r c valued kept e =
    let lent = lent_values v.lent in
    let before = length-append vs lent in
    let many = length-append ws lent in
    ap (effect_answer (length vs)) e
    ∙ effect_answer_environment (length vs) (all_names v) (all_values v ws) v.constants.now (omega arith) (omega arith) c
    ∙ ap (λ (ds : List Data). Ok (taken ds c)) (ap (λ k. take k (ws ++ lent)) (sym kept) ∙ take-append-le (length ws) ws lent (omega arith) ∙ take_all (length ws) ws (omega arith))
