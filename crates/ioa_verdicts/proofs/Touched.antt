-- What a step does not touch: an invariant that reads of no participant reads the same as before.
use Rattle.std.proofs.Common.{◌≡◌, ℕ, zero, suc, ◌+◌, Bool, true, false, ◌||◌, List, [], ◌∷◌, Option, Some, None, Ok, refl, ap, ◌∙◌, map, arith, if◌then◌else◌}
use Rattle.std.specs.Prelude.{nat_eq, slice_get}
use Rattle.std.specs.List.{list_any, position_from}
use Rattle.std.specs.Option.{option_and_then, option_map}
use Rattle.std.proofs.lemmas.Bool.{eq-eqb}
use Rattle.std.proofs.lemmas.Option.{slice_get-map}
use Rattle.ioa_values.specs.Data.{Data}
use Rattle.ioa_actions.specs.declared.component.Component.{Component}
use Rattle.ioa_actions.specs.declared.component.Component.TheVariants as component
use Rattle.ioa_actions.specs.ComponentOrder.{same_component}
use Rattle.ioa_actions.proofs.SameComponents.{same_component-itself}
use Rattle.ioa_terms.specs.declared.name.Name.{Name}
use Rattle.ioa_terms.specs.declared.name.Name.TheVariants as called
use Rattle.ioa_system.specs.Invariants.{InvariantParts, invariant_bindings}
use Rattle.ioa_transitions.specs.Entries.{PlainEntry}
use Rattle.ioa_compose.specs.declared.configuration.Conf.{Conf}
use Rattle.ioa_compose.specs.Composition.{component_of, component_names, find_conf, joint_answer}
use Rattle.ioa_compose.specs.JointStep.{IsJointStep, HasAnswer, TakesStep}
use Rattle.ioa_compose.specs.Participants.{participants_of}
use Rattle.ioa_compose.specs.Readings.{queue_messages, reading, readings, variable_value}
use Rattle.ioa_compose.proofs.Components.{name_found, takes_part-is}
use Rattle.ioa_compose.proofs.JointSteps.{find_conf-joint_other, joint_answer-is}
use Rattle.ioa_verdicts.specs.Readers.{is_among, is_reader, noted_at, noted_of, reads_of, readers_from}
use Rattle.ioa_verdicts.specs.Verdicts.{answer_by, answer_in}
use Rattle.ioa_verdicts.proofs.Found.{found_at, found_nowhere}

-- two tests fail if either is false
pub or_first : (a b : Bool) → (a || b) ≡ false → a ≡ false
or_first true b h = absurd (cc)
or_first false b h = refl

pub or_second : (a b : Bool) → (a || b) ≡ false → b ≡ false
or_second true b h = absurd (cc)
or_second false b h = h

or_true : (b : Bool) → (b || true) ≡ true
or_true true = refl
or_true false = refl

-- a test that is true of none, and another
none_first : {A : Type 0} (p q : A → Bool) (xs : List A) → list_any (λ x. p x || q x) xs ≡ false → list_any p xs ≡ false
none_first p q [] h = refl
none_first p q (x ∷ xs) h =
    let here : p x ≡ false = or_first (p x) (q x) (or_first (p x || q x) (list_any (λ y. p y || q y) xs) h) in
    rw here (none_first p q xs (or_second (p x || q x) (list_any (λ y. p y || q y) xs) h))

none_second : {A : Type 0} (p q : A → Bool) (xs : List A) → list_any (λ x. p x || q x) xs ≡ false → list_any q xs ≡ false
none_second p q [] h = refl
none_second p q (x ∷ xs) h =
    let here : q x ≡ false = or_second (p x) (q x) (or_first (p x || q x) (list_any (λ y. p y || q y) xs) h) in
    rw here (none_second p q xs (or_second (p x || q x) (list_any (λ y. p y || q y) xs) h))

-- the number of an invariant that reads of a component is among those of its readers
is_among-readers : (k : Component) (n i : ℕ) (vs : List InvariantParts) (v : InvariantParts) → slice_get vs i ≡ Some v → is_reader k v ≡ true → is_among (n + i) (readers_from k n vs) ≡ true
is_among-readers k n i [] v h r = absurd (cc)
is_among-readers k n zero (u ∷ vs) v h r =
    let this : u ≡ v = cc in
    let reads : is_reader k u ≡ true = rw this r in
    let same : n + 0 ≡ n = omega arith in
    let found : nat_eq n n ≡ true = eq-eqb n n refl in
    rw (reads, same, found) refl
is_among-readers k n (suc i) (u ∷ vs) v h r =
    let same : n + suc i ≡ n + 1 + i = omega arith in
    rw same (by_test (is_reader k u) (is_among-readers k (n + 1) i vs v h r))
  where
    by_test : (b : Bool) → is_among (n + 1 + i) (readers_from k (n + 1) vs) ≡ true → is_among (n + 1 + i) (if b then n ∷ readers_from k (n + 1) vs else readers_from k (n + 1) vs) ≡ true
    by_test true g = rw g (or_true (nat_eq (n + 1 + i) n))
    by_test false g = g

-- what is noted of a component that is there are its readers
noted_of-found : (c : Component) (vs : List InvariantParts) (cs : List Conf) (d : Conf) → find_conf c cs ≡ Some d →
    noted_of (map (λ k. readers_from k 0 vs) (component_names cs)) (component_names cs) c ≡ readers_from c 0 vs
noted_of-found c vs cs d h = by_slot (position_from (λ l. same_component c l) 0 (component_names cs)) refl
  where
    by_slot : (o : Option ℕ) → o ≡ position_from (λ l. same_component c l) 0 (component_names cs) → noted_at (map (λ k. readers_from k 0 vs) (component_names cs)) o ≡ readers_from c 0 vs
    by_slot None e = let nothing : find_conf c cs ≡ None = found_nowhere c cs e in absurd (cc)
    by_slot (Some m) e =
        let there : slice_get cs m ≡ Some d = found_at c cs m e ∙ h in
        let named : component_of d ≡ c = name_found c cs d h in
        rw (slice_get-map (λ k. readers_from k 0 vs) (component_names cs) m, slice_get-map component_of cs m, there, named) refl

-- an invariant whose number is noted of no component that is there reads of none
reads_of_none : (j : ℕ) (vs : List InvariantParts) (v : InvariantParts) (cs : List Conf) (parts : List Component) → slice_get vs j ≡ Some v →
    ((c : Component) → list_any (same_component c) parts ≡ true → (d : Conf) × (find_conf c cs ≡ Some d)) →
    list_any (λ c. is_among j (noted_of (map (λ k. readers_from k 0 vs) (component_names cs)) (component_names cs) c)) parts ≡ false → list_any (λ c. is_reader c v) parts ≡ false
reads_of_none j vs v cs [] at there h = refl
reads_of_none j vs v cs (c ∷ parts) at there h =
    let found = there c (rw same_component-itself refl) in
    let noted : noted_of (map (λ k. readers_from k 0 vs) (component_names cs)) (component_names cs) c ≡ readers_from c 0 vs = noted_of-found c vs cs found.0 found.1 in
    let absent : is_among j (readers_from c 0 vs) ≡ false = rw noted at (or_first (is_among j (noted_of (map (λ k. readers_from k 0 vs) (component_names cs)) (component_names cs) c)) _ h) in
    let here : is_reader c v ≡ false = by_test (is_reader c v) refl absent in
    rw here (reads_of_none j vs v cs parts at (λ l g. there l (rw g (or_true (same_component l c)))) (or_second (is_among j (noted_of (map (λ k. readers_from k 0 vs) (component_names cs)) (component_names cs) c)) _ h))
  where
    by_test : (b : Bool) → is_reader c v ≡ b → is_among j (readers_from c 0 vs) ≡ false → b ≡ false
    by_test true e absent = let number : 0 + j ≡ j = omega arith in let present : is_among j (readers_from c 0 vs) ≡ true = rw number at (is_among-readers c 0 j vs v at e) in absurd (cc)
    by_test false e absent = refl

-- a name that reads of no participant reads the same after a step
reading-untouched : (x : Name) (entry : PlainEntry) (cs next : List Conf) → joint_answer entry cs ≡ Ok next → list_any (λ c. reads_of c x) (participants_of entry.action) ≡ false → reading x next ≡ reading x cs
reading-untouched (called.Word w) entry cs next h apart = refl
reading-untouched (called.Variable x k) entry cs next h apart =
    ap (λ (o : Option Conf). option_and_then (variable_value x) o) (find_conf-joint_other (component.Node k) entry cs next h (takes_part-is (component.Node k) entry.action ∙ apart))
reading-untouched (called.Queue i j) entry cs next h apart =
    ap (λ (o : Option Conf). option_and_then queue_messages o) (find_conf-joint_other (component.Channel i j) entry cs next h (takes_part-is (component.Channel i j) entry.action ∙ apart))

-- and so do several
readings-untouched : (xs : List Name) (entry : PlainEntry) (cs next : List Conf) → joint_answer entry cs ≡ Ok next → list_any (λ c. list_any (reads_of c) xs) (participants_of entry.action) ≡ false →
    readings xs next ≡ readings xs cs
readings-untouched [] entry cs next h apart = refl
readings-untouched (x ∷ xs) entry cs next h apart =
    let first : reading x next ≡ reading x cs = reading-untouched x entry cs next h (none_first (λ c. reads_of c x) (λ c. list_any (reads_of c) xs) (participants_of entry.action) apart) in
    let more : readings xs next ≡ readings xs cs = readings-untouched xs entry cs next h (none_second (λ c. reads_of c x) (λ c. list_any (reads_of c) xs) (participants_of entry.action) apart) in
    rw (first, more) refl

-- an invariant whose number is noted of no participant has the same answer after a step
pub answer_in-untouched : (j : ℕ) (vs : List InvariantParts) (v : InvariantParts) (entry : PlainEntry) (cs next : List Conf) → slice_get vs j ≡ Some v → joint_answer entry cs ≡ Ok next →
    list_any (λ c. is_among j (noted_of (map (λ k. readers_from k 0 vs) (component_names next)) (component_names next) c)) (participants_of entry.action) ≡ false → answer_in v next ≡ answer_in v cs
unfolding answer_in
answer_in-untouched j vs v entry cs next at h apart =
    let steps : IsJointStep HasAnswer entry cs next = joint_answer-is entry cs next h in
    let present : (c : Component) → list_any (same_component c) (participants_of entry.action) ≡ true → (d : Conf) × (find_conf c next ≡ Some d) =
    λ c g. (let s : TakesStep HasAnswer entry c cs next = steps.participants c (takes_part-is c entry.action ∙ g) in (s.new, s.after)) in
    let same : readings v.readings next ≡ readings v.readings cs = readings-untouched v.readings entry cs next h (reads_of_none j vs v next (participants_of entry.action) at present apart) in
    ap (λ (o : Option (List Data)). answer_by v (option_map (invariant_bindings v) o)) same
