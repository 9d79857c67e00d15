-- What a replay goes by, and what stays behind that.
use Rattle.std.proofs.Common.{◌≡◌, ℕ, zero, suc, Bool, true, false, ◌||◌, List, [], ◌∷◌, Some, Result, Ok, Err, refl, sym, ap, ◌∙◌, take, drop}
use Rattle.std.specs.Prelude.{cond, is_some}
use Rattle.std.specs.List.{list_any}
use Rattle.std.proofs.lemmas.Bool.{or_parts}
use Rattle.ioa_actions.specs.ComponentOrder.{same_component}
use Rattle.ioa_actions.specs.declared.component.Component.{Component}
use Rattle.ioa_actions.specs.declared.fault.StepFault.{StepFault}
use Rattle.ioa_transitions.specs.Entries.{PlainEntry}
use Rattle.ioa_compose.specs.Composition.{component_names, component_of, find_conf, joint_answer}
use Rattle.ioa_compose.specs.Executions.{after_step, replay}
use Rattle.ioa_compose.specs.Participants.{takes_part}
use Rattle.ioa_compose.specs.declared.configuration.Conf.{Conf}
use Rattle.ioa_compose.proofs.JointSteps.{component_names-joint_answer, find_conf-joint_other}

-- a replay of a list goes by the end of its first n entries
pub record GoesBy (n : ℕ) (log : List PlainEntry) (start confs : List Conf) : Type 0 where
  pub mid : List Conf
  pub before : replay (take n log) start ≡ Some mid
  pub behind : replay (drop n log) mid ≡ Some confs

pub goes_by : (n : ℕ) (log : List PlainEntry) (start confs : List Conf) → replay log start ≡ Some confs → GoesBy n log start confs
goes_by zero log start confs h = record { mid = start; before = refl; behind = h }
goes_by (suc n) [] start confs h = record { mid = start; before = refl; behind = h }
goes_by (suc n) (e ∷ more) start confs h = at_step (joint_answer e start) refl h (λ next g. goes_by n more next confs g)
  where
    at_step : (r : Result (List Conf) StepFault) → joint_answer e start ≡ r → after_step (replay more) r ≡ Some confs →
        ((next : List Conf) → replay more next ≡ Some confs → GoesBy n more next confs) → GoesBy (suc n) (e ∷ more) start confs
    at_step (Ok next) same h further =
        let later : GoesBy n more next confs = further next h in
        record { mid = later.mid; before = rw same later.before; behind = later.behind }
    at_step (Err f) same h further = absurd (cc)

-- a component that takes part in none of the entries stays
pub untouched_conf : (k : Component) (entries : List PlainEntry) (cs next : List Conf) → replay entries cs ≡ Some next →
    list_any (λ e. takes_part k e.action) entries ≡ false → find_conf k next ≡ find_conf k cs
untouched_conf k [] cs next h apart = let same : cs ≡ next = cc in rw same refl
untouched_conf k (e ∷ more) cs next h apart =
    let parts = or_parts (takes_part k e.action) (list_any (λ e. takes_part k e.action) more) apart in
    at_step (joint_answer e cs) refl h parts.0 (λ mid g. untouched_conf k more mid next g parts.1)
  where
    at_step : (r : Result (List Conf) StepFault) → joint_answer e cs ≡ r → after_step (replay more) r ≡ Some next → takes_part k e.action ≡ false →
        ((mid : List Conf) → replay more mid ≡ Some next → find_conf k next ≡ find_conf k mid) → find_conf k next ≡ find_conf k cs
    at_step (Ok mid) same h other further = further mid h ∙ find_conf-joint_other k e cs mid same other
    at_step (Err f) same h other further = absurd (cc)

-- the names stay
pub names_after : (entries : List PlainEntry) (cs next : List Conf) → replay entries cs ≡ Some next → component_names next ≡ component_names cs
names_after [] cs next h = let same : cs ≡ next = cc in rw same refl
names_after (e ∷ more) cs next h = at_step (joint_answer e cs) refl h (λ mid g. names_after more mid next g)
  where
    at_step : (r : Result (List Conf) StepFault) → joint_answer e cs ≡ r → after_step (replay more) r ≡ Some next →
        ((mid : List Conf) → replay more mid ≡ Some next → component_names next ≡ component_names mid) → component_names next ≡ component_names cs
    at_step (Ok mid) same h further = further mid h ∙ component_names-joint_answer e cs mid same
    at_step (Err f) same h further = absurd (cc)

-- whether there is a component is told by the names
found_named : (k : Component) (cs : List Conf) → is_some (find_conf k cs) ≡ list_any (same_component k) (component_names cs)
found_named k [] = refl
found_named k (c ∷ cs) = by_test (same_component k (component_of c)) (found_named k cs)
  where
    by_test : (t : Bool) → is_some (find_conf k cs) ≡ list_any (same_component k) (component_names cs) →
        is_some (cond t (Some c) (find_conf k cs)) ≡ (t || list_any (same_component k) (component_names cs))
    by_test true further = refl
    by_test false further = further

pub found_alike : (k : Component) (entries : List PlainEntry) (cs next : List Conf) → replay entries cs ≡ Some next →
    is_some (find_conf k next) ≡ is_some (find_conf k cs)
found_alike k entries cs next h =
    found_named k next ∙ ap (λ (ks : List Component). list_any (same_component k) ks) (names_after entries cs next h) ∙ sym (found_named k cs)
