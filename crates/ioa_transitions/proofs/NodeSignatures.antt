-- Which rule of a program has an action, by relation and by the test of the code.
use Rattle.std.proofs.Common.{◌≡◌, ◌≢◌, inl, inr, ℕ, zero, suc, ◌<◌, Bool, true, false, List, [], ◌∷◌, ◌++◌, Option, Some, None, Result, Ok, Err, refl, sym, ap, ◌∙◌, map, length, arith}
use Rattle.std.specs.Prelude.{◌&&◌, not, if◌then◌else◌, find, get_or, slice_get}
use Rattle.ioa_operators.specs.Shapes.{has_shape}
use Rattle.std.specs.List.{AllByRecursion, AllZip, Contains, IsDistinct, list_all, slice_index_or}
use Rattle.std.specs.Cmp.Lexicographic.{bytes_decides}
use Rattle.std.specs.Option.{ok_or}
use Rattle.std.proofs.lemmas.List.Folds.{list_all-append}
use Rattle.std.proofs.lemmas.Option.{slice_get-get_or}
use Rattle.ioa_values.specs.Data.{Data, is_within}
use Rattle.ioa_values.proofs.Equality.{same_is}
use Rattle.ioa_operators.specs.RangeCheck.{range_check}
use Rattle.ioa_operators.specs.declared.fault.TermFault.{TermFault}
use Rattle.ioa_operators.specs.declared.fault.TermFault.TheVariants as term
use Rattle.ioa_terms.specs.Choices.{Lack, lacked, effect_check}
use Rattle.ioa_terms.specs.declared.choices.EffectFault.TheVariants as effect
use Rattle.ioa_terms.specs.Bindings.{Bindings, same_word}
use Rattle.ioa_terms.specs.Meaning.{value, numbers_met, answer}
use Rattle.ioa_terms.specs.declared.tree.Kind.{Kind}
use Rattle.ioa_terms.specs.declared.tree.Kind.TheVariants.{Input, Output, Internal}
use Rattle.ioa_actions.specs.declared.action.Action.{Action}
use Rattle.ioa_actions.specs.declared.action.Action.TheVariants.{Send, Receive, Local, Stimulus}
use Rattle.ioa_actions.specs.ActionParts.{send_name, receive_name, action_name, action_arguments}
use Rattle.ioa_source.specs.PlainText.{const, named}
use Rattle.ioa_source.specs.Sides.{CheckedEntry, CheckedParameter}
use Rattle.ioa_system.specs.Declarations.{DeclaresOnce}
use Rattle.ioa_system.specs.InView.{given_bindings}
use Rattle.ioa_system.specs.Parts.{Parts, PlainRule, rule_names}
use Rattle.ioa_transitions.specs.NodeAnswers.{kind_agrees, constant_agrees, parameter_agrees, arguments_agree, entry_agrees, are_natural, rule_for}
use Rattle.ioa_transitions.specs.NodeStep.{IsOfKind, TakesArgument, IsActionOf, HasRule, IsOfSort, numbers_met_by_parameter, numbers_met_by_parameters}

-- every number among results lies within 64 bits
abbrev pub AreWithin : List Data → Type 0
AreWithin ds = list_all is_within ds ≡ true

-- results one after another are within 64 bits if both parts are
two_true : (a b : Bool) → a ≡ true → b ≡ true → a && b ≡ true
two_true a b h k = ap (λ x. x && b) h ∙ k

both_true : (a b : Bool) → a && b ≡ true → (a ≡ true) × (b ≡ true)
both_true true b h = (refl, h)
both_true false b h = absurd (cc)

pub all_within : (xs ys : List Data) → AreWithin xs → AreWithin ys → AreWithin (xs ++ ys)
all_within xs ys h k = list_all-append is_within xs ys ∙ two_true (list_all is_within xs) (list_all is_within ys) h k

pub within_both : (xs ys : List Data) → AreWithin (xs ++ ys) → AreWithin xs × AreWithin ys
within_both xs ys h = both_true (list_all is_within xs) (list_all is_within ys) (sym (list_all-append is_within xs ys) ∙ h)

-- what is judged is a value exactly if that is the value and every number met lies within 64 bits
range_check_by : {A : Type 0} (b : Bool) (o : Option A) (v : A) → (if b then ok_or o term.Undefined else Err term.Range) ≡ Ok v → (b ≡ true) × (o ≡ Some v)
range_check_by true (Some w) v h = (refl, cc)
range_check_by true None v h = absurd (cc)
range_check_by false o v h = absurd (cc)

pub range_check_parts : {A : Type 0} (ds : List Data) (o : Option A) (v : A) → range_check ds o ≡ Ok v → AreWithin ds × (o ≡ Some v)
range_check_parts ds o v h = range_check_by (list_all is_within ds) o v h

pub range_check_within : {A : Type 0} (ds : List Data) (o : Option A) (v : A) → AreWithin ds → o ≡ Some v → range_check ds o ≡ Ok v
range_check_within ds o v within is = ap (λ b. if b then ok_or o term.Undefined else Err term.Range) within ∙ ap (λ p. ok_or p term.Undefined) is

-- the same of an effect
effect_check_by : {A : Type 0} (b : Bool) (r : Result A Lack) (x : A) → (if b then lacked r else Err effect.Range) ≡ Ok x → (b ≡ true) × (r ≡ Ok x)
effect_check_by true (Ok y) x h = (refl, cc)
effect_check_by true (Err l) x h = absurd (cc)
effect_check_by false r x h = absurd (cc)

pub effect_check_parts : {A : Type 0} (ds : List Data) (r : Result A Lack) (x : A) → effect_check ds r ≡ Ok x → AreWithin ds × (r ≡ Ok x)
effect_check_parts ds r x h = effect_check_by (list_all is_within ds) r x h

pub effect_check_within : {A : Type 0} (ds : List Data) (r : Result A Lack) (x : A) → AreWithin ds → r ≡ Ok x → effect_check ds r ≡ Ok x
effect_check_within ds r x within is = ap (λ b. if b then lacked r else Err effect.Range) within ∙ ap (λ p. lacked p) is

-- words that the test finds to differ, differ
words_differ : (x y : List ℕ) → not (same_word x y) ≡ true → x ≢ y
words_differ x y h e = let wrong : true ≡ false = sym h ∙ ap not ((bytes_decides x y).1 e) in absurd (cc)

differing_words : (x y : List ℕ) → x ≢ y → not (same_word x y) ≡ true
differing_words x y apart = by_test (same_word x y) refl
  where
    by_test : (b : Bool) → same_word x y ≡ b → not b ≡ true
    by_test true e = absurd (apart ((bytes_decides x y).0 e))
    by_test false e = refl

-- the kinds that the test lets through are those of the action
is_of_kind : (a : Action) (k : Kind) → kind_agrees a k ≡ true → IsOfKind a k
is_of_kind (Send m i j) Input h = absurd (cc)
is_of_kind (Send m i j) Output h = refl
is_of_kind (Send m i j) Internal h = absurd (cc)
is_of_kind (Receive m i j) Input h = refl
is_of_kind (Receive m i j) Output h = absurd (cc)
is_of_kind (Receive m i j) Internal h = absurd (cc)
is_of_kind (Local a) Input h = absurd (cc)
is_of_kind (Local a) Output h = inr (refl, words_differ a.name send_name h)
is_of_kind (Local a) Internal h = inl refl
is_of_kind (Stimulus a) Input h = (refl, words_differ a.name receive_name h)
is_of_kind (Stimulus a) Output h = absurd (cc)
is_of_kind (Stimulus a) Internal h = absurd (cc)

of_kind : (a : Action) (k : Kind) → IsOfKind a k → kind_agrees a k ≡ true
of_kind (Send m i j) k h = rw h refl
of_kind (Receive m i j) k h = rw h refl
of_kind (Local a) k (inl h) = rw h refl
of_kind (Local a) k (inr h) = rw h.0 (differing_words a.name send_name h.1)
of_kind (Stimulus a) k h = rw h.0 (differing_words a.name receive_name h.1)

-- a parameter takes what the test lets through, and what it meets lies within 64 bits
takes : (b : Bindings) (p : CheckedParameter) (v : Data) → parameter_agrees b p v ≡ true → AreWithin (numbers_met_by_parameter b p) × TakesArgument b p v
takes b (const t) v h = by_value (answer t b) refl h
  where
    by_value : (r : Result Data TermFault) → answer t b ≡ r → constant_agrees r v ≡ true → AreWithin (numbers_met t b) × (value t b ≡ Some v)
    by_value (Ok u) q k =
        let same_value : u ≡ v = (same_is u v).0 k in
        range_check_parts (numbers_met t b) (value t b) v (q ∙ ap Ok same_value)
    by_value (Err f) q k = absurd (cc)
takes b (named d) v h = (refl, h)

taken_by : (b : Bindings) (p : CheckedParameter) (v : Data) → AreWithin (numbers_met_by_parameter b p) → TakesArgument b p v → parameter_agrees b p v ≡ true
taken_by b (const t) v within h = ap (λ r. constant_agrees r v) (range_check_within (numbers_met t b) (value t b) v within h) ∙ (same_is v v).1 refl
taken_by b (named d) v within h = h

-- and the same of all parameters
takes_each : (b : Bindings) (ps : List CheckedParameter) (vs : List Data) → arguments_agree b ps vs ≡ true → AreWithin (numbers_met_by_parameters b ps) × AllZip (TakesArgument b) ps vs
takes_each b [] [] h = (refl, tt)
takes_each b [] (v ∷ vs) h = absurd (cc)
takes_each b (p ∷ ps) [] h = absurd (cc)
takes_each b (p ∷ ps) (v ∷ vs) h =
    let both = both_true (parameter_agrees b p v) (arguments_agree b ps vs) h in
    let first = takes b p v both.0 in
    let others = takes_each b ps vs both.1 in
    (all_within (numbers_met_by_parameter b p) (numbers_met_by_parameters b ps) first.0 others.0, (first.1, others.1))

each_taken : (b : Bindings) (ps : List CheckedParameter) (vs : List Data) → AreWithin (numbers_met_by_parameters b ps) → AllZip (TakesArgument b) ps vs → arguments_agree b ps vs ≡ true
each_taken b [] [] within h = refl
each_taken b [] (v ∷ vs) within h = absurd h
each_taken b (p ∷ ps) [] within h = absurd h
each_taken b (p ∷ ps) (v ∷ vs) within h =
    let both = within_both (numbers_met_by_parameter b p) (numbers_met_by_parameters b ps) within in
    two_true (parameter_agrees b p v) (arguments_agree b ps vs) (taken_by b p v both.0 h.0) (each_taken b ps vs both.1 h.1)

-- an action that passes the test is one of the entry's
is_action_of : (b : Bindings) (a : Action) (e : CheckedEntry) → entry_agrees b a e ≡ true → AreWithin (numbers_met_by_parameters b e.parameters) × IsActionOf b a e
is_action_of b a e h =
    let name = both_true (same_word e.name (action_name a)) (kind_agrees a e.kind && arguments_agree b e.parameters (action_arguments a)) h in
    let kind = both_true (kind_agrees a e.kind) (arguments_agree b e.parameters (action_arguments a)) name.1 in
    let arguments = takes_each b e.parameters (action_arguments a) kind.1 in
    (arguments.0, record { name = (bytes_decides e.name (action_name a)).0 name.0; kind = is_of_kind a e.kind kind.0; arguments = arguments.1 })

action_of : (b : Bindings) (a : Action) (e : CheckedEntry) → AreWithin (numbers_met_by_parameters b e.parameters) → IsActionOf b a e → entry_agrees b a e ≡ true
action_of b a e within h =
    two_true (same_word e.name (action_name a)) (kind_agrees a e.kind && arguments_agree b e.parameters (action_arguments a)) ((bytes_decides e.name (action_name a)).1 h.name)
    (two_true (kind_agrees a e.kind) (arguments_agree b e.parameters (action_arguments a)) (of_kind a e.kind h.kind) (each_taken b e.parameters (action_arguments a) within h.arguments))

-- what is found is an element that passes
found_first : {A : Type 0} (f : A → Bool) (xs : List A) (x : A) → find f xs ≡ Some x → Contains xs x × (f x ≡ true)
found_first f [] x h = absurd (cc)
found_first f (y ∷ ys) x h = by_test (f y) refl h (found_first f ys x)
  where
    by_test : (t : Bool) → f y ≡ t → (if t then Some y else find f ys) ≡ Some x → (find f ys ≡ Some x → Contains ys x × (f x ≡ true)) → Contains (y ∷ ys) x × (f x ≡ true)
    by_test true e k further = let one : y ≡ x = cc in ((0, omega arith, one), ap f (sym one) ∙ e)
    by_test false e k further =
        let there = further k in
        ((suc there.0.0, omega (arith, there.0.1), there.0.2), there.1)

-- if nothing is found, no element passes
none_passes : {A : Type 0} (f : A → Bool) (xs : List A) (x : A) (k : ℕ) → k < length xs → slice_index_or xs k x ≡ x → f x ≡ true → find f xs ≡ None → ⊥
none_passes f [] x k less at passes h = absurd (omega arith)
none_passes f (y ∷ ys) x zero less at passes h = let own : f y ≡ true = ap f at ∙ passes in let wrong : Some y ≡ None = rw own at h in absurd (cc)
none_passes f (y ∷ ys) x (suc k) less at passes h = by_test (f y) h (λ e. none_passes f ys x k (omega arith) at passes e)
  where
    by_test : (t : Bool) → (if t then Some y else find f ys) ≡ None → (find f ys ≡ None → ⊥) → ⊥
    by_test true e further = absurd (cc)
    by_test false e further = further e

-- an element that passes is found if nothing else passes
found_alone : {A : Type 0} (f : A → Bool) (xs : List A) (x : A) → f x ≡ true → ((y : A) → Contains xs y → f y ≡ true → y ≡ x) → Contains xs x → find f xs ≡ Some x
found_alone {A} f xs x passes alone there = by_found (find f xs) refl
  where
    by_found : (o : Option A) → find f xs ≡ o → o ≡ Some x
    by_found (Some y) e = let p = found_first f xs y e in ap Some (alone y p.0 p.1)
    by_found None e = absurd (none_passes f xs x there.0 there.1 there.2 passes e)

-- the name of a rule's entry
abbrev name_of : PlainRule → List ℕ
name_of r = r.entry.name

-- a rule behind one whose name differs has another name
not_later : (x : PlainRule) (rs : List PlainRule) (r : PlainRule) (k : ℕ) → AllByRecursion (λ w. same_word (name_of x) w ≡ false) (map name_of rs) → k < length rs → slice_index_or rs k r ≡ r → name_of x ≡ name_of r → ⊥
not_later x [] r k differ less at name = absurd (omega arith)
not_later x (y ∷ rs) r zero differ less at name =
    let same_names : same_word (name_of x) (name_of y) ≡ true = (bytes_decides (name_of x) (name_of y)).1 (name ∙ ap name_of (sym at)) in
    let wrong : true ≡ false = sym same_names ∙ differ.0 in absurd (cc)
not_later x (y ∷ rs) r (suc k) differ less at name = not_later x rs r k differ.1 (omega arith) at name

-- of rules whose names differ, one has a name
one_named : (rs : List PlainRule) (r s : PlainRule) (i j : ℕ) → IsDistinct same_word (map name_of rs) → i < length rs → slice_index_or rs i r ≡ r → j < length rs → slice_index_or rs j s ≡ s → name_of r ≡ name_of s → r ≡ s
unfolding IsDistinct
one_named [] r s i j d less at fewer there name = absurd (omega arith)
one_named (x ∷ rs) r s zero zero d less at fewer there name = sym at ∙ there
one_named (x ∷ rs) r s zero (suc j) d less at fewer there name =
    absurd (not_later x rs s j d.0 (omega arith) there (ap name_of at ∙ name))
one_named (x ∷ rs) r s (suc i) zero d less at fewer there name =
    absurd (not_later x rs r i d.0 (omega arith) at (ap name_of there ∙ sym name))
one_named (x ∷ rs) r s (suc i) (suc j) d less at fewer there name = one_named rs r s i j d.1 (omega arith) at (omega arith) there name

-- a rule at a place behind one whose name differs has another name
not_at : (x : PlainRule) (rs : List PlainRule) (r : PlainRule) (k : ℕ) → AllByRecursion (λ w. same_word (name_of x) w ≡ false) (map name_of rs) → slice_get rs k ≡ Some r → name_of x ≡ name_of r → ⊥
not_at x [] r k differ at name = absurd (cc)
not_at x (y ∷ rs) r zero differ at name =
    let own : y ≡ r = cc in
    let same_names : same_word (name_of x) (name_of y) ≡ true = (bytes_decides (name_of x) (name_of y)).1 (name ∙ ap name_of (sym own)) in
    let wrong : true ≡ false = sym same_names ∙ differ.0 in absurd (cc)
not_at x (y ∷ rs) r (suc k) differ at name = not_at x rs r k differ.1 at name

-- the name of an entry that has an action
agreed_name : (b : Bindings) (a : Action) (e : CheckedEntry) → entry_agrees b a e ≡ true → e.name ≡ action_name a
agreed_name b a e h =
    (bytes_decides e.name (action_name a)).0 (both_true (same_word e.name (action_name a)) (kind_agrees a e.kind && arguments_agree b e.parameters (action_arguments a)) h).0

-- of rules whose names differ, the one at a place is the first that has an action, if it has it
found_at : (b : Bindings) (a : Action) (rs : List PlainRule) (k : ℕ) (r : PlainRule) → IsDistinct same_word (map name_of rs) → slice_get rs k ≡ Some r → entry_agrees b a r.entry ≡ true → find (λ s. entry_agrees b a s.entry) rs ≡ Some r
unfolding IsDistinct
found_at b a [] k r d at h = absurd (cc)
found_at b a (x ∷ rs) zero r d at h =
    let own : x ≡ r = cc in
    let passes : entry_agrees b a x.entry ≡ true = ap (λ (s : PlainRule). entry_agrees b a s.entry) own ∙ h in rw passes at
found_at b a (x ∷ rs) (suc k) r d at h = by_test (entry_agrees b a x.entry) refl (found_at b a rs k r d.1 at h)
  where
    by_test : (t : Bool) → entry_agrees b a x.entry ≡ t → find (λ s. entry_agrees b a s.entry) rs ≡ Some r → (if t then Some x else find (λ s. entry_agrees b a s.entry) rs) ≡ Some r
    by_test true e further = absurd (not_at x rs r k d.0 at (agreed_name b a x.entry e ∙ sym (agreed_name b a r.entry h)))
    by_test false e further = further

-- the rule of a number is the one that the code finds, if it has the action
pub found_numbered : (p : Parts) (a : Action) (k : ℕ) (d : PlainRule) → IsDistinct same_word (rule_names p.automaton.rules) → k < length p.automaton.rules → entry_agrees (given_bindings p.automaton p.arguments) a (get_or p.automaton.rules k d).entry ≡ true → Some (get_or p.automaton.rules k d) ≡ rule_for p a
found_numbered p a k d differ less h =
    sym (found_at (given_bindings p.automaton p.arguments) a p.automaton.rules k (get_or p.automaton.rules k d) differ (slice_get-get_or p.automaton.rules k d less) h)

-- one rule of a program has an action
pub one_rule : (p : Parts) (a : Action) (r s : PlainRule) → DeclaresOnce p → HasRule p a r → HasRule p a s → r ≡ s
one_rule p a r s once h k =
    one_named p.automaton.rules r s h.present.0 k.present.0 once.entries h.present.1 h.present.2 k.present.1 k.present.2 (h.action.name ∙ sym k.action.name)

-- the rule that the code finds has the action
pub rule_for_is : (p : Parts) (a : Action) (r : PlainRule) → rule_for p a ≡ Some r → AreWithin (numbers_met_by_parameters (given_bindings p.automaton p.arguments) r.entry.parameters) × HasRule p a r
rule_for_is p a r h =
    let there = found_first (λ s. entry_agrees (given_bindings p.automaton p.arguments) a s.entry) p.automaton.rules r h in
    let own = is_action_of (given_bindings p.automaton p.arguments) a r.entry there.1 in
    (own.0, record { present = there.0; action = own.1 })

-- the code finds the rule that has the action
pub rule_for_from : (p : Parts) (a : Action) (r : PlainRule) → DeclaresOnce p → AreWithin (numbers_met_by_parameters (given_bindings p.automaton p.arguments) r.entry.parameters) → HasRule p a r → rule_for p a ≡ Some r
rule_for_from p a r once within h =
    found_alone (λ s. entry_agrees (given_bindings p.automaton p.arguments) a s.entry) p.automaton.rules r (action_of (given_bindings p.automaton p.arguments) a r.entry within h.action)
    (λ s there agrees. one_rule p a s r once (record { present = there; action = (is_action_of (given_bindings p.automaton p.arguments) a s.entry agrees).1 }) h) h.present

-- the test of sorts
pub sorts_natural : (ps : List CheckedParameter) (vs : List Data) → AllZip IsOfSort ps vs → are_natural ps vs ≡ true
sorts_natural [] vs h = refl
sorts_natural (p ∷ ps) [] h = refl
sorts_natural (const t ∷ ps) (v ∷ vs) h = sorts_natural ps vs h.1
sorts_natural (named d ∷ ps) (v ∷ vs) h = rw h.0 (sorts_natural ps vs h.1)

pub natural_sorts : (b : Bindings) (ps : List CheckedParameter) (vs : List Data) → AllZip (TakesArgument b) ps vs → are_natural ps vs ≡ true → AllZip IsOfSort ps vs
natural_sorts b [] [] h k = tt
natural_sorts b [] (v ∷ vs) h k = absurd h
natural_sorts b (p ∷ ps) [] h k = absurd h
natural_sorts b (const t ∷ ps) (v ∷ vs) h k = (tt, natural_sorts b ps vs h.1 k)
natural_sorts b (named d ∷ ps) (v ∷ vs) h k = let both = both_true (has_shape d.shape v) (are_natural ps vs) k in (both.0, natural_sorts b ps vs h.1 both.1)
