-- What a proposal comes to by what each of its participants picks.
use Rattle.std.proofs.Common.{◌≡◌, ◌∙◌, ℕ, List, [], ◌∷◌, Some, Result, Ok, Err, refl, ap, subst, sym}
use Rattle.ioa_values.specs.Data.{Data}
use Rattle.ioa_values.specs.Outcome.{and_then}
use Rattle.ioa_actions.specs.declared.action.Action.{Action}
use Rattle.ioa_actions.specs.declared.fault.StepFault.{StepFault}
use Rattle.ioa_transitions.specs.Entries.{PlainEntry, entry}
use Rattle.ioa_compose.specs.declared.configuration.Conf.{Conf}
use Rattle.ioa_compose.specs.Participants.{participants_of}
use Rattle.ioa_compose.specs.Composition.{component_of, conf_pick, own_steps, picks_of}
use Rattle.ioa_compose.proofs.Picks.{one_pick, two_picks, picks_of-entry}
use Rattle.ioa_commits.specs.Proposals.{PlainProposal, plain_proposal}
use Rattle.ioa_commits.specs.Versions.{PlainVersionedConf}

-- of one
pub one_proposed : (a : Action) (c : Conf) (l : ℕ) (rs : List PlainVersionedConf) →
    and_then (picks_of a (Some c ∷ [])) (λ t. Ok (plain_proposal t.0 l rs)) ≡ and_then (conf_pick a c) (λ t. Ok (plain_proposal t.0 l rs))
one_proposed a c l rs = ap (λ (x : Result (PlainEntry × List Conf) StepFault). and_then {B = PlainProposal} x (λ t. Ok (plain_proposal t.0 l rs))) (one_pick a c) ∙ by_pick (conf_pick a c)
  where
    by_pick : (x : Result (PlainEntry × Conf) StepFault) →
        and_then {B = PlainProposal} (and_then {B = PlainEntry × List Conf} x (λ t. Ok (t.0, t.1 ∷ []))) (λ t. Ok (plain_proposal t.0 l rs)) ≡ and_then x (λ t. Ok (plain_proposal t.0 l rs))
    by_pick (Ok t) = refl
    by_pick (Err f) = refl

-- its step by the entry
pub one_steps : (a : Action) (e : PlainEntry) (vs : List Data) (c b d : Conf) → e ≡ entry a vs → b ≡ c → conf_pick a c ≡ Ok (entry a vs, d) → own_steps e (Some b ∷ []) ≡ Ok (d ∷ [])
one_steps a e vs c b d of_entry read pick =
    let picked : picks_of a (Some c ∷ []) ≡ Ok (entry a vs, d ∷ []) =
    one_pick a c ∙ ap (λ (x : Result (PlainEntry × Conf) StepFault). and_then {B = PlainEntry × List Conf} x (λ t. Ok (t.0, t.1 ∷ []))) pick in
    subst (λ (f : PlainEntry). own_steps f (Some b ∷ []) ≡ Ok (d ∷ [])) (sym of_entry)
    (subst (λ (x : Conf). own_steps (entry a vs) (Some x ∷ []) ≡ Ok (d ∷ [])) (sym read) (picks_of-entry a (Some c ∷ []) (entry a vs) (d ∷ []) picked).1)

-- of two, the queue's first
pub two_proposed : (a : Action) (c d : Conf) (l : ℕ) (rs : List PlainVersionedConf) → participants_of a ≡ component_of c ∷ component_of d ∷ [] →
    and_then (picks_of a (Some c ∷ Some d ∷ [])) (λ t. Ok (plain_proposal t.0 l rs)) ≡ and_then (conf_pick a c) (λ s. and_then (conf_pick a d) (λ t. Ok (plain_proposal t.0 l rs)))
two_proposed a c d l rs parts =
    ap (λ (x : Result (PlainEntry × List Conf) StepFault). and_then {B = PlainProposal} x (λ t. Ok (plain_proposal t.0 l rs))) (two_picks a c d parts) ∙ by_queue (conf_pick a c)
  where
    by_node : (s : PlainEntry × Conf) (x : Result (PlainEntry × Conf) StepFault) →
        and_then {B = PlainProposal} (and_then {B = PlainEntry × List Conf} x (λ t. Ok (t.0, s.1 ∷ t.1 ∷ []))) (λ t. Ok (plain_proposal t.0 l rs)) ≡ and_then x (λ t. Ok (plain_proposal t.0 l rs))
    by_node s (Ok t) = refl
    by_node s (Err f) = refl

    by_queue : (x : Result (PlainEntry × Conf) StepFault) →
        and_then {B = PlainProposal} (and_then {B = PlainEntry × List Conf} x (λ s. and_then (conf_pick a d) (λ t. Ok (t.0, s.1 ∷ t.1 ∷ [])))) (λ t. Ok (plain_proposal t.0 l rs))
        ≡ and_then x (λ s. and_then (conf_pick a d) (λ t. Ok (plain_proposal t.0 l rs)))
    by_queue (Ok s) = by_node s (conf_pick a d)
    by_queue (Err f) = refl

-- their steps by the node's entry
pub two_steps : (a : Action) (e : PlainEntry) (us vs : List Data) (c d b p x y : Conf) → participants_of a ≡ component_of c ∷ component_of d ∷ [] →
    e ≡ entry a vs → b ≡ c → p ≡ d → conf_pick a c ≡ Ok (entry a us, x) → conf_pick a d ≡ Ok (entry a vs, y) → own_steps e (Some b ∷ Some p ∷ []) ≡ Ok (x ∷ y ∷ [])
two_steps a e us vs c d b p x y parts of_entry queue node queue_pick node_pick =
    let picked : picks_of a (Some c ∷ Some d ∷ []) ≡ Ok (entry a vs, x ∷ y ∷ []) =
    two_picks a c d parts
    ∙ ap (λ (z : Result (PlainEntry × Conf) StepFault). and_then {B = PlainEntry × List Conf} z (λ s. and_then (conf_pick a d) (λ t. Ok (t.0, s.1 ∷ t.1 ∷ [])))) queue_pick
    ∙ ap (λ (z : Result (PlainEntry × Conf) StepFault). and_then {B = PlainEntry × List Conf} z (λ t. Ok (t.0, x ∷ t.1 ∷ []))) node_pick in
    subst (λ (f : PlainEntry). own_steps f (Some b ∷ Some p ∷ []) ≡ Ok (x ∷ y ∷ [])) (sym of_entry)
    (subst (λ (z : Conf). own_steps (entry a vs) (Some z ∷ Some p ∷ []) ≡ Ok (x ∷ y ∷ [])) (sym queue)
    (subst (λ (z : Conf). own_steps (entry a vs) (Some c ∷ Some z ∷ []) ≡ Ok (x ∷ y ∷ [])) (sym node) (picks_of-entry a (Some c ∷ Some d ∷ []) (entry a vs) (x ∷ y ∷ []) picked).1))
