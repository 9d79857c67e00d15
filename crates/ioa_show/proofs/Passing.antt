-- States that are put one after another, as long as entries are steps.
use Rattle.std.proofs.Common.{◌≡◌, ◌∙◌, ℕ, ◌+◌, ◌++◌, Bool, true, false, List, [], ◌∷◌, Result, Ok, Err, sym, ap, append-nil}
use Rattle.std.specs.Prelude.{codes, IsErr}
use Rattle.ioa_actions.specs.ActionText.{entry_text}
use Rattle.ioa_actions.specs.declared.fault.StepFault.{StepFault}
use Rattle.ioa_transitions.specs.Entries.{PlainEntry}
use Rattle.ioa_compose.specs.Composition.{joint_answer}
use Rattle.ioa_compose.specs.declared.configuration.Conf.{Conf}
use Rattle.ioa_paper.specs.Papers.{PlainPaper, and_text}
use Rattle.ioa_paper.proofs.Papers.{joined}
use Rattle.ioa_show.specs.States.{Steps, if_step, later_states, state_text}

-- behind a step the states that are left are those behind it
pub steps_on : (names : List (List ℕ)) (marks : ℕ → List ℕ) (k : ℕ) (e : PlainEntry) (whole rest : List PlainEntry) (cs next : List Conf)
    (old new whole_paper : PlainPaper) (b : Bool) → and_text old (later_states names marks k whole cs) ≡ whole_paper
    → whole ≡ e ∷ rest → b ≡ true
    → Steps b (joint_answer e cs) next old new (codes ",\n" ++ state_text names (k + 1) (marks (k + 1)) (entry_text names e.action e.chosen) next)
    → and_text new (later_states names marks (k + 1) rest next) ≡ whole_paper
steps_on names marks k e whole rest cs next old new p false due is on step = absurd (cc)
steps_on names marks k e whole rest cs next old new p true due is on step =
    let here : and_text old (if_step (λ n. (codes ",\n" ++ state_text names (k + 1) (marks (k + 1)) (entry_text names e.action e.chosen) n) ++ later_states names marks (k + 1) rest n) (joint_answer e cs)) ≡ p = rw is at due in
    let there : and_text old ((codes ",\n" ++ state_text names (k + 1) (marks (k + 1)) (entry_text names e.action e.chosen) next) ++ later_states names marks (k + 1) rest next) ≡ p = rw step.0 at here in
    ap (λ (q : PlainPaper). and_text q (later_states names marks (k + 1) rest next)) step.1
    ∙ joined old (codes ",\n" ++ state_text names (k + 1) (marks (k + 1)) (entry_text names e.action e.chosen) next) (later_states names marks (k + 1) rest next)
    ∙ there

-- at the end nothing is left
pub steps_end : (names : List (List ℕ)) (marks : ℕ → List ℕ) (k : ℕ) (whole : List PlainEntry) (cs : List Conf) (old whole_paper : PlainPaper)
    → and_text old (later_states names marks k whole cs) ≡ whole_paper → whole ≡ [] → old ≡ whole_paper
steps_end names marks k whole cs old p due is =
    let here : and_text old [] ≡ p = rw is at due in
    ap (λ (t : List ℕ). record old { text = t }) (sym (append-nil old.text)) ∙ here

-- at an entry that is no step nothing is left either
pub steps_off : (names : List (List ℕ)) (marks : ℕ → List ℕ) (k : ℕ) (e : PlainEntry) (whole rest : List PlainEntry) (cs next : List Conf)
    (old new whole_paper : PlainPaper) (there : List ℕ) (b : Bool) → and_text old (later_states names marks k whole cs) ≡ whole_paper
    → whole ≡ e ∷ rest → b ≡ false → Steps b (joint_answer e cs) next old new there → new ≡ whole_paper
steps_off names marks k e whole rest cs next old new p there true due is off step = absurd (cc)
steps_off names marks k e whole rest cs next old new p there false due is off step =
    let here : and_text old (if_step (λ n. (codes ",\n" ++ state_text names (k + 1) (marks (k + 1)) (entry_text names e.action e.chosen) n) ++ later_states names marks (k + 1) rest n) (joint_answer e cs)) ≡ p = rw is at due in
    step.1 ∙ (ap (λ (t : List ℕ). record old { text = t }) (sym (append-nil old.text)) ∙ by_answer (joint_answer e cs) step.0 here)
  where
    by_answer : (r : Result (List Conf) StepFault) → IsErr r
        → and_text old (if_step (λ n. (codes ",\n" ++ state_text names (k + 1) (marks (k + 1)) (entry_text names e.action e.chosen) n) ++ later_states names marks (k + 1) rest n) r) ≡ p
        → and_text old [] ≡ p
    by_answer (Ok n) stops due = absurd (cc)
    by_answer (Err f) stops due = due
