-- What is read at the places of names is what the names read, and a step moves no place.
use Rattle.std.proofs.Common.{◌≡◌, ℕ, Bool, true, false, List, [], ◌∷◌, Option, Some, None, Result, Ok, Err, refl, ap, sym, ◌∙◌, map, length}
use Rattle.std.specs.Prelude.{slice_get}
use Rattle.std.specs.Option.{option_and_then}
use Rattle.std.proofs.lemmas.Option.{slice_get-map}
use Rattle.ioa_values.specs.Data.{Data}
use Rattle.ioa_values.specs.Outcome.{and_then}
use Rattle.ioa_actions.specs.declared.component.Component.{Component}
use Rattle.ioa_actions.specs.declared.component.Component.TheVariants as component
use Rattle.ioa_actions.specs.declared.fault.StepFault.{StepFault}
use Rattle.ioa_terms.specs.Bindings.{slot_in}
use Rattle.ioa_terms.specs.declared.name.Name.{Name}
use Rattle.ioa_terms.specs.declared.name.Name.TheVariants as called
use Rattle.ioa_system.specs.InView.{variable_names}
use Rattle.ioa_system.specs.Invariants.{InvariantParts}
use Rattle.ioa_system.specs.Parts.{Parts}
use Rattle.ioa_transitions.specs.Entries.{PlainEntry}
use Rattle.ioa_transitions.specs.NodeAnswers.{redo_answer}
use Rattle.ioa_transitions.specs.NodeState.{NodeState}
use Rattle.ioa_transitions.proofs.NodeSteps.{program-redo_answer}
use Rattle.ioa_channels.specs.Queues.{QueueState, queue_answer}
use Rattle.ioa_compose.specs.declared.configuration.Conf.{Conf}
use Rattle.ioa_compose.specs.declared.configuration.Conf.TheVariants.{Node, Queue}
use Rattle.ioa_compose.specs.Composition.{component_names, conf_answer, find_conf, joint_answer}
use Rattle.ioa_compose.specs.JointStep.{HasAnswer, IsJointStep, TakesStep}
use Rattle.ioa_compose.specs.Participants.{takes_part}
use Rattle.ioa_compose.specs.Readings.{queue_messages, reading, readings, variable_value}
use Rattle.ioa_compose.proofs.JointSteps.{joint_answer-is}
use Rattle.ioa_verdicts.specs.Places.{ArePlaces, place_of, places_of, queue_place, reading_at, readings_at, slot_of, variable_in, variable_place, variable_position}
use Rattle.ioa_verdicts.specs.Readers.{GoesOn, listed}
use Rattle.ioa_verdicts.specs.declared.verdict.Verdict.{Verdict}
use Rattle.ioa_verdicts.specs.declared.places.Place.{Place}
use Rattle.ioa_verdicts.proofs.Found.{found_at, found_nowhere}
use Rattle.ioa_verdicts.proofs.Slots.{length_readings, lookup-slot}

-- the variable of a name, by its position
variable_value-position : (x : List ℕ) (c : Conf) → variable_value x c ≡ option_and_then (λ n. variable_in n c) (variable_position x (Some c))
variable_value-position x (Node c) = lookup-slot (called.Word x) (map called.Word (variable_names c.program.automaton.variables)) c.variables
variable_value-position x (Queue q) = refl

-- what a variable's name reads is at its place
variable_read : (x : List ℕ) (k : Component) (cs : List Conf) → option_and_then (variable_value x) (find_conf k cs) ≡ reading_at (variable_place (slot_of k cs) (variable_position x (find_conf k cs))) cs
variable_read x k cs = by_slot (slot_of k cs) refl
  where
    by_position : (m : ℕ) (c : Conf) (n : Option ℕ) → slice_get cs m ≡ Some c → option_and_then (λ i. variable_in i c) n ≡ reading_at (variable_place (Some m) n) cs
    by_position m c None there = refl
    by_position m c (Some n) there = rw there refl

    by_conf : (m : ℕ) (o : Option Conf) → slice_get cs m ≡ o → option_and_then (variable_value x) o ≡ reading_at (variable_place (Some m) (variable_position x o)) cs
    by_conf m None there = refl
    by_conf m (Some c) there = variable_value-position x c ∙ by_position m c (variable_position x (Some c)) there

    by_slot : (o : Option ℕ) → o ≡ slot_of k cs → option_and_then (variable_value x) (find_conf k cs) ≡ reading_at (variable_place o (variable_position x (find_conf k cs))) cs
    by_slot None e = let nothing : find_conf k cs ≡ None = found_nowhere k cs e in rw nothing refl
    by_slot (Some m) e = by_conf m (find_conf k cs) (found_at k cs m e)

-- what a queue's name reads is at its place
messages_read : (k : Component) (cs : List Conf) → option_and_then queue_messages (find_conf k cs) ≡ reading_at (queue_place (slot_of k cs)) cs
messages_read k cs = by_slot (slot_of k cs) refl
  where
    by_slot : (o : Option ℕ) → o ≡ slot_of k cs → option_and_then queue_messages (find_conf k cs) ≡ reading_at (queue_place o) cs
    by_slot None e = let nothing : find_conf k cs ≡ None = found_nowhere k cs e in rw nothing refl
    by_slot (Some m) e = ap (λ (o : Option Conf). option_and_then queue_messages o) (sym (found_at k cs m e))

-- what a name reads is at its place
reading-place : (x : Name) (cs : List Conf) → reading x cs ≡ reading_at (place_of x cs) cs
reading-place (called.Word w) cs = refl
reading-place (called.Variable x k) cs = variable_read x (component.Node k) cs
reading-place (called.Queue i j) cs = messages_read (component.Channel i j) cs

-- what names read is at their places
readings-places : (xs : List Name) (cs : List Conf) → readings_at (map (λ x. place_of x cs) xs) cs ≡ readings xs cs
readings-places [] cs = refl
readings-places (x ∷ xs) cs =
    let first : reading_at (place_of x cs) cs ≡ reading x cs = sym (reading-place x cs) in
    let more : readings_at (map (λ y. place_of y cs) xs) cs ≡ readings xs cs = readings-places xs cs in
    rw (first, more) refl

-- the same of an invariant
pub all_read : (v : InvariantParts) (cs : List Conf) (ps : List Place) → ps ≡ places_of v cs → readings_at ps cs ≡ readings v.readings cs
all_read v cs ps e = rw e (readings-places v.readings cs)

-- what is read is as many
pub many_read : (v : InvariantParts) (cs : List Conf) (ps : List Place) (ds : List Data) → ps ≡ places_of v cs → readings_at ps cs ≡ Some ds → length ds ≡ length v.readings
many_read v cs ps ds e h = length_readings v.readings cs ds (sym (all_read v cs ps e) ∙ h)

-- what reading at places says
pub ruleset read_rules = (all_read, many_read)

-- the places of the invariant of a number
pub places_there : (places : List (List Place)) (vs : List InvariantParts) (cs : List Conf) (i : ℕ) (v : InvariantParts) → ArePlaces places vs cs → slice_get vs i ≡ Some v → listed (slice_get places i) ≡ places_of v cs
places_there places vs cs i v are at = rw (are, slice_get-map (λ u. places_of u cs) vs i, at) refl

-- a component's step moves no variable
position-conf_answer : (x : List ℕ) (entry : PlainEntry) (c d : Conf) → conf_answer entry c ≡ Ok d → variable_position x (Some d) ≡ variable_position x (Some c)
unfolding conf_answer
position-conf_answer x entry (Node c) d h = by_answer (redo_answer c entry) refl h
  where
    by_answer : (r : Result NodeState StepFault) → redo_answer c entry ≡ r → and_then r (λ s. Ok (Node s)) ≡ Ok d → variable_position x (Some d) ≡ variable_position x (Some (Node c))
    by_answer (Ok s) e h =
        let same_state : Node s ≡ d = cc in
        rw (← same_state) (ap (λ (p : Parts). slot_in (called.Word x) (map called.Word (variable_names p.automaton.variables))) (program-redo_answer c entry s e))
    by_answer (Err f) e h = absurd (cc)
position-conf_answer x entry (Queue q) d h = by_answer (queue_answer q entry.action) h
  where
    by_answer : (r : Result QueueState StepFault) → and_then r (λ s. Ok (Queue s)) ≡ Ok d → variable_position x (Some d) ≡ None
    by_answer (Ok s) h = let same_state : Queue s ≡ d = cc in rw (← same_state) refl
    by_answer (Err f) h = absurd (cc)

-- nor does a joint step
position-joint_answer : (x : List ℕ) (k : Component) (entry : PlainEntry) (cs next : List Conf) → joint_answer entry cs ≡ Ok next → variable_position x (find_conf k next) ≡ variable_position x (find_conf k cs)
position-joint_answer x k entry cs next h = by_test (takes_part k entry.action) refl
  where
    steps : IsJointStep HasAnswer entry cs next
    steps = joint_answer-is entry cs next h

    by_test : (b : Bool) → takes_part k entry.action ≡ b → variable_position x (find_conf k next) ≡ variable_position x (find_conf k cs)
    by_test true e =
        let own : TakesStep HasAnswer entry k cs next = steps.participants k e in
        rw (own.before, own.after) (position-conf_answer x entry own.old own.new own.step_of)
    by_test false e = ap (λ (o : Option Conf). variable_position x o) (steps.others k e)

-- a name reads at the same place after a step
place_of-joint_answer : (x : Name) (entry : PlainEntry) (cs next : List Conf) → joint_answer entry cs ≡ Ok next → component_names next ≡ component_names cs → place_of x next ≡ place_of x cs
place_of-joint_answer (called.Word w) entry cs next h names = refl
place_of-joint_answer (called.Variable x k) entry cs next h names =
    rw (names, position-joint_answer x (component.Node k) entry cs next h) refl
place_of-joint_answer (called.Queue i j) entry cs next h names = rw names refl

-- and so do several
map-place_of : (xs : List Name) (entry : PlainEntry) (cs next : List Conf) → joint_answer entry cs ≡ Ok next → component_names next ≡ component_names cs → map (λ x. place_of x next) xs ≡ map (λ x. place_of x cs) xs
map-place_of [] entry cs next h names = refl
map-place_of (x ∷ xs) entry cs next h names = rw (place_of-joint_answer x entry cs next h names, map-place_of xs entry cs next h names) refl

all_places : (vs : List InvariantParts) (entry : PlainEntry) (cs next : List Conf) → joint_answer entry cs ≡ Ok next → component_names next ≡ component_names cs → map (λ v. places_of v next) vs ≡ map (λ v. places_of v cs) vs
all_places [] entry cs next h names = refl
all_places (v ∷ vs) entry cs next h names = rw (map-place_of v.readings entry cs next h names, all_places vs entry cs next h names) refl

-- places are so after a step
pub places_stay : (places : List (List Place)) (vs : List InvariantParts) (entry : PlainEntry) (cs next : List Conf) → joint_answer entry cs ≡ Ok next → ArePlaces places vs cs → ArePlaces places vs next
places_stay places vs entry cs next h are = are ∙ sym (all_places vs entry cs next h (joint_answer-is entry cs next h).same_names)

-- and so they are where the code goes on
pub places_on : (places : List (List Place)) (vs : List InvariantParts) (entry : PlainEntry) (cs next : List Conf) (found new there : List Verdict) (b : Bool) → ArePlaces places vs cs → b ≡ true →
    GoesOn b (joint_answer entry cs) next found new there → ArePlaces places vs next
places_on places vs entry cs next found new there false are on goes = absurd (cc)
places_on places vs entry cs next found new there true are on goes = places_stay places vs entry cs next goes.0 are
