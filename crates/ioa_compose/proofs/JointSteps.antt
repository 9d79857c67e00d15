-- Joint steps.
use Rattle.std.proofs.Common.{◌≡◌, Bool, true, false, ◌||◌, List, [], ◌∷◌, Option, Some, None, Result, Ok, Err, refl, sym, ◌∙◌, if◌then◌else◌}
use Rattle.std.specs.List.{list_any}
use Rattle.std.specs.Option.{is_none}
use Rattle.ioa_values.specs.Outcome.{and_then}
use Rattle.ioa_actions.specs.declared.component.Component.{Component}
use Rattle.ioa_transitions.specs.Entries.{PlainEntry}
use Rattle.ioa_compose.specs.declared.configuration.Conf.{Conf}
use Rattle.ioa_actions.specs.declared.fault.StepFault.{StepFault}
use Rattle.ioa_actions.specs.declared.fault.StepFault.TheVariants.{NoChannel}
use Rattle.ioa_compose.specs.Participants.{participants_of, takes_part}
use Rattle.ioa_actions.specs.ComponentOrder.{same_component}
use Rattle.ioa_compose.specs.Composition.{component_of, component_names, conf_answer, find_conf, put_conf, put_confs, find_confs, own_steps, changes_of, joint_answer}
use Rattle.ioa_compose.specs.JointStep.{HasStep, TakesStep, IsJointStep, AllHaveSteps, HasAnswer}
use Rattle.ioa_compose.proofs.Components.{takes_part-is, component_names-put_confs, component_of-conf_answer, name_found, find_conf-put_conf_same, find_conf-put_conf_other, find_conf-put_confs_other}
use Rattle.ioa_actions.proofs.SameComponents.{Decides-same_component, same_component-itself}

-- what own steps are made of: the first component's, and the others'
record StepParts (entry : PlainEntry) (k : Component) (ks : List Component) (cs ds : List Conf) : Type 0 where
  old : Conf
  new : Conf
  more : List Conf
  found : find_conf k cs ≡ Some old
  step : conf_answer entry old ≡ Ok new
  others : own_steps entry (find_confs ks cs) ≡ Ok more
  all : ds ≡ new ∷ more

-- own steps that are all taken are the first component's and the others'
own_steps-parts : (entry : PlainEntry) (k : Component) (ks : List Component) (cs ds : List Conf) → own_steps entry (find_confs (k ∷ ks) cs) ≡ Ok ds → StepParts entry k ks cs ds
own_steps-parts entry k ks cs ds h = of_read (find_conf k cs) refl h
  where
    of_steps : (c : Conf) → find_conf k cs ≡ Some c → (d : Conf) → conf_answer entry c ≡ Ok d → (r : Result (List Conf) StepFault) → own_steps entry (find_confs ks cs) ≡ r → and_then r (λ more. Ok (d ∷ more)) ≡ Ok ds → StepParts entry k ks cs ds
    of_steps c found d step (Ok more) e h = record { old = c; new = d; more = more; found = found; step = step; others = e; all = cc }
    of_steps c found d step (Err f) e h = absurd (cc)

    of_step : (c : Conf) → find_conf k cs ≡ Some c → (r : Result Conf StepFault) → conf_answer entry c ≡ r → and_then r (λ d. and_then (own_steps entry (find_confs ks cs)) (λ more. Ok (d ∷ more))) ≡ Ok ds → StepParts entry k ks cs ds
    of_step c found (Ok d) e h = of_steps c found d e (own_steps entry (find_confs ks cs)) refl h
    of_step c found (Err f) e h = absurd (cc)

    of_read : (o : Option Conf) → find_conf k cs ≡ o → own_steps entry (o ∷ find_confs ks cs) ≡ Ok ds → StepParts entry k ks cs ds
    of_read (Some c) e h = of_step c e (conf_answer entry c) refl h
    of_read None e h = absurd (cc)

-- the names of the new configurations are those of the participants
pub component_names-own_steps : (entry : PlainEntry) (ks : List Component) (cs ds : List Conf) → own_steps entry (find_confs ks cs) ≡ Ok ds → component_names ds ≡ ks
component_names-own_steps entry [] cs ds h = let none : [] ≡ ds = cc in rw (← none) refl
component_names-own_steps entry (k ∷ ks) cs ds h =
    let p : StepParts entry k ks cs ds = own_steps-parts entry k ks cs ds h in
    let name : component_of p.new ≡ k = component_of-conf_answer entry p.old p.new p.step ∙ name_found k cs p.old p.found in
    let others : component_names p.more ≡ ks = component_names-own_steps entry ks cs p.more p.others in
    rw (p.all, name, others) refl

-- what a joint step is made of
pub record JointParts (entry : PlainEntry) (cs next : List Conf) : Type 0 where
  pub changed : List Conf
  pub steps : own_steps entry (find_confs (participants_of entry.action) cs) ≡ Ok changed
  pub put_in : next ≡ put_confs changed cs

-- a joint step puts in the participants' own steps
pub joint_answer-parts : (entry : PlainEntry) (cs next : List Conf) → joint_answer entry cs ≡ Ok next → JointParts entry cs next
joint_answer-parts entry cs next h = of_absent (list_any is_none (find_confs (participants_of entry.action) cs)) h
  where
    of_steps : (r : Result (List Conf) StepFault) → own_steps entry (find_confs (participants_of entry.action) cs) ≡ r → and_then r (λ ds. Ok (put_confs ds cs)) ≡ Ok next → JointParts entry cs next
    of_steps (Ok ds) e h = record { changed = ds; steps = e; put_in = cc }
    of_steps (Err f) e h = absurd (cc)

    of_absent : (b : Bool) → and_then (if b then Err NoChannel else own_steps entry (find_confs (participants_of entry.action) cs)) (λ ds. Ok (put_confs ds cs)) ≡ Ok next → JointParts entry cs next
    of_absent true h = absurd (cc)
    of_absent false h = of_steps (own_steps entry (find_confs (participants_of entry.action) cs)) refl h

-- a component that takes no part stays
pub find_conf-joint_other : (k : Component) (entry : PlainEntry) (cs next : List Conf) → joint_answer entry cs ≡ Ok next → takes_part k entry.action ≡ false → find_conf k next ≡ find_conf k cs
find_conf-joint_other k entry cs next h apart =
    let p : JointParts entry cs next = joint_answer-parts entry cs next h in
    let elsewhere : list_any (same_component k) (component_names p.changed) ≡ false = rw (component_names-own_steps entry (participants_of entry.action) cs p.changed p.steps) (sym (takes_part-is k entry.action) ∙ apart) in
    rw p.put_in (find_conf-put_confs_other k p.changed cs elsewhere)

-- what a participant comes to: its own step
pub record StepsTo (entry : PlainEntry) (c : Conf) (k : Component) (next : List Conf) : Type 0 where
  pub new : Conf
  pub step : conf_answer entry c ≡ Ok new
  pub found : find_conf k next ≡ Some new

-- once own steps are put in, the component has the configuration that its own step led to
own_step : (k : Component) (entry : PlainEntry) (ks : List Component) (cs ds : List Conf) (c : Conf) → own_steps entry (find_confs ks cs) ≡ Ok ds → find_conf k cs ≡ Some c → list_any (same_component k) ks ≡ true →
    (held : List Conf) (b : Conf) → find_conf k held ≡ Some b → StepsTo entry c k (put_confs ds held)
own_step k entry [] cs ds c h found part held b there = absurd (cc)
own_step k entry (l ∷ ks) cs ds c h found part held b there =
    let p : StepParts entry l ks cs ds = own_steps-parts entry l ks cs ds h in
    let name : component_of p.new ≡ l = component_of-conf_answer entry p.old p.new p.step ∙ name_found l cs p.old p.found in
    let further : (now : List Conf) (e : Conf) → find_conf k now ≡ Some e → list_any (same_component k) ks ≡ true → StepsTo entry c k (put_confs p.more now) =
    λ now e at_now part. own_step k entry ks cs p.more c p.others found part now e at_now in
    rw p.all (by_test p.old p.new p.more p.found p.step p.others name further (same_component k l) refl part)
  where
    last : (new : Conf) (more now : List Conf) → conf_answer entry c ≡ Ok new → find_conf k now ≡ Some new → component_names more ≡ ks → (list_any (same_component k) ks ≡ true → StepsTo entry c k (put_confs more now)) →
        (t : Bool) → list_any (same_component k) ks ≡ t → StepsTo entry c k (put_confs more now)
    last new more now step at_now same_names further true e = further e
    last new more now step at_now same_names further false e = record { new = new; step = step; found = find_conf-put_confs_other k more now (rw same_names e) ∙ at_now }

    by_test : (old new : Conf) (more : List Conf) → find_conf l cs ≡ Some old → conf_answer entry old ≡ Ok new → own_steps entry (find_confs ks cs) ≡ Ok more → component_of new ≡ l →
        ((now : List Conf) (e : Conf) → find_conf k now ≡ Some e → list_any (same_component k) ks ≡ true → StepsTo entry c k (put_confs more now)) →
        (t : Bool) → same_component k l ≡ t → (t || list_any (same_component k) ks) ≡ true → StepsTo entry c k (put_confs more (put_conf new held))
    by_test old new more found_l step others name further true e part =
        let one : k ≡ l = (Decides-same_component k l).0 e in
        let found_k : find_conf k cs ≡ Some old = rw one found_l in
        let same_old : c ≡ old = cc in
        let at_now : find_conf k (put_conf new held) ≡ Some new = find_conf-put_conf_same k new held b (name ∙ sym one) there in
        last new more (put_conf new held) (rw same_old step) at_now (component_names-own_steps entry ks cs more others) (λ t. further (put_conf new held) new at_now t) (list_any (same_component k) ks) refl
    by_test old new more found_l step others name further false e part =
        let apart : same_component k (component_of new) ≡ false = rw name e in
        further (put_conf new held) b (find_conf-put_conf_other k new held apart ∙ there) part

-- a component that takes part takes its own step
pub find_conf-joint_own : (k : Component) (entry : PlainEntry) (cs next : List Conf) (c : Conf) → joint_answer entry cs ≡ Ok next → takes_part k entry.action ≡ true → find_conf k cs ≡ Some c → StepsTo entry c k next
find_conf-joint_own k entry cs next c h part found =
    let p : JointParts entry cs next = joint_answer-parts entry cs next h in
    rw p.put_in (own_step k entry (participants_of entry.action) cs p.changed c p.steps found (sym (takes_part-is k entry.action) ∙ part) cs c found)

-- a joint step keeps the names
pub component_names-joint_answer : (entry : PlainEntry) (cs next : List Conf) → joint_answer entry cs ≡ Ok next → component_names next ≡ component_names cs
component_names-joint_answer entry cs next h =
    let p : JointParts entry cs next = joint_answer-parts entry cs next h in rw p.put_in (component_names-put_confs p.changed cs)

-- a component of which the own step is taken has a configuration
record IsFound (k : Component) (cs : List Conf) : Type 0 where
  conf : Conf
  found : find_conf k cs ≡ Some conf

-- each component of which the own step is taken has a configuration
is_found : (k : Component) (entry : PlainEntry) (ks : List Component) (cs ds : List Conf) → own_steps entry (find_confs ks cs) ≡ Ok ds → list_any (same_component k) ks ≡ true → IsFound k cs
is_found k entry [] cs ds h part = absurd (cc)
is_found k entry (l ∷ ks) cs ds h part =
    let p : StepParts entry l ks cs ds = own_steps-parts entry l ks cs ds h in
    by_test p.old p.found (λ t. is_found k entry ks cs p.more p.others t) (same_component k l) refl part
  where
    by_test : (old : Conf) → find_conf l cs ≡ Some old → (list_any (same_component k) ks ≡ true → IsFound k cs) → (t : Bool) → same_component k l ≡ t → (t || list_any (same_component k) ks) ≡ true → IsFound k cs
    by_test old found further true e part = record { conf = old; found = rw ((Decides-same_component k l).0 e) found }
    by_test old found further false e part = further part

-- the result is a joint step
pub joint_answer-is : (entry : PlainEntry) (cs next : List Conf) → joint_answer entry cs ≡ Ok next → IsJointStep HasAnswer entry cs next
joint_answer-is entry cs next h = record {
  participants = λ k part. taken k part;
  others = λ k apart. find_conf-joint_other k entry cs next h apart;
  same_names = component_names-joint_answer entry cs next h;
}
  where
    taken : (k : Component) → takes_part k entry.action ≡ true → TakesStep HasAnswer entry k cs next
    taken k part =
        let p : JointParts entry cs next = joint_answer-parts entry cs next h in
        let there : IsFound k cs = is_found k entry (participants_of entry.action) cs p.changed p.steps (sym (takes_part-is k entry.action) ∙ part) in
        let own : StepsTo entry there.conf k next = find_conf-joint_own k entry cs next there.conf h part there.found in
        record { old = there.conf; new = own.new; before = there.found; step_of = own.step; after = own.found }

-- own steps that are there
record HasSteps (entry : PlainEntry) (ks : List Component) (cs : List Conf) : Type 0 where
  changed : List Conf
  present : list_any is_none (find_confs ks cs) ≡ false
  steps : own_steps entry (find_confs ks cs) ≡ Ok changed

-- if each component has a step, all own steps are there
has_steps : (entry : PlainEntry) (ks : List Component) (cs : List Conf) → ((k : Component) → list_any (same_component k) ks ≡ true → HasStep HasAnswer entry k cs) → HasSteps entry ks cs
has_steps entry [] cs each = record { changed = []; present = refl; steps = refl }
has_steps entry (k ∷ ks) cs each =
    let p : HasStep HasAnswer entry k cs = each k (rw (same_component-itself k) refl) in
    let others : HasSteps entry ks cs = has_steps entry ks cs (λ l part. each l (second_true (same_component l k) (list_any (same_component l) ks) part)) in
    record { changed = p.new ∷ others.changed; present = rw (p.before, others.present) refl; steps = rw (p.before, p.step_of, others.steps) refl }
  where
    second_true : (s t : Bool) → t ≡ true → (s || t) ≡ true
    second_true true t h = refl
    second_true false t h = h

-- if each participant has a step there is a joint step
pub joint_answer-exists : (entry : PlainEntry) (cs : List Conf) → AllHaveSteps HasAnswer entry cs → (next : List Conf) × (joint_answer entry cs ≡ Ok next)
joint_answer-exists entry cs each =
    let p : HasSteps entry (participants_of entry.action) cs = has_steps entry (participants_of entry.action) cs (λ k part. each k (takes_part-is k entry.action ∙ part)) in
    let taken : changes_of entry (find_confs (participants_of entry.action) cs) ≡ Ok p.changed = rw (p.present, p.steps) refl in
    (put_confs p.changed cs, rw taken refl)
