-- The faults of nodes by their numbers and names.
use Rattle.std.proofs.Common.{◌≡◌, ℕ, List, [], ◌∷◌, ◌++◌, Option, Some, None, cond, codes, refl, sym, ap, subst, ◌∙◌, append-nil}
use Rattle.std.specs.Prelude.{◌↔◌}
use Rattle.std.specs.Str.{bytes_eq}
use Rattle.ioa_actions.specs.StepFaults.{step_fault_text}
use Rattle.ioa_actions.specs.declared.fault.StepFault.{StepFault}
use Rattle.ioa_actions.specs.declared.fault.StepFault.TheVariants as step
use Rattle.ioa_commits.specs.Refusals.{refusal_text}
use Rattle.ioa_commits.specs.declared.outcome.CommitRefusal.{CommitRefusal}
use Rattle.ioa_commits.specs.declared.outcome.CommitRefusal.TheVariants as refusal
use Rattle.ioa_passes.specs.Texts.{view_fault_text}
use Rattle.ioa_passes.specs.declared.outcome.ViewFault.{ViewFault}
use Rattle.ioa_passes.specs.declared.outcome.ViewFault.TheVariants as view
use Rattle.ioa_record.specs.declared.ending.NodeFault.{NodeFault}
use Rattle.ioa_record.specs.declared.ending.NodeFault.TheVariants.{Undefined, Range, Memory, NotMine, NoChannel, NoChoice}
use Rattle.ioa_record.specs.declared.ending.NodeFault.TheVariants.{Differs, Full, Unknown, Older, NoThread}
use Rattle.ioa_turns.specs.Faults.{fault_of_refusal, fault_of_step}
use Rattle.ioa_solo.specs.Fires.{fault_of_view}
use Rattle.ioa_ending_laws.specs.FaultNumbers.{BeginsWith, IsStale, numbered_fault}

same_fault : (f g : NodeFault) → Some f ≡ Some g → f ≡ g
same_fault f g h = cc

none_some : {A : Type 0} (x : A) → Some x ≡ None → ⊥
none_some x h = cc

-- refusals
refused_by : (text : List ℕ) (f g : NodeFault) → Some f ≡ Some g → BeginsWith text (numbered_fault f) → BeginsWith text (numbered_fault g)
refused_by text f g h = subst (λ (x : NodeFault). BeginsWith text (numbered_fault x)) (same_fault f g h)

pub refusal_numbered : (why : CommitRefusal) (f : NodeFault) → fault_of_refusal why ≡ Some f → BeginsWith (refusal_text why) (numbered_fault f)
refusal_numbered (refusal.Unknown k) f h = refused_by (refusal_text (refusal.Unknown k)) Unknown f h (_, refl)
refusal_numbered (refusal.Stale k read held) f h = absurd (none_some f (sym h))
refusal_numbered (refusal.Differs k) f h = refused_by (refusal_text (refusal.Differs k)) Differs f h (_, refl)
refusal_numbered refusal.Full f h = refused_by (refusal_text refusal.Full) Full f h ([], refl)

pub stale_alone : (why : CommitRefusal) → (fault_of_refusal why ≡ None) ↔ IsStale why
stale_alone (refusal.Unknown k) = (λ h. none_some Unknown h, λ h. absurd h)
stale_alone (refusal.Stale k read held) = (λ h. tt, λ h. refl)
stale_alone (refusal.Differs k) = (λ h. none_some Differs h, λ h. absurd h)
stale_alone refusal.Full = (λ h. none_some Full h, λ h. absurd h)

-- faults of steps
failed_by : (text : List ℕ) (f g : NodeFault) → Some f ≡ Some g → text ≡ numbered_fault f → text ≡ numbered_fault g
failed_by text f g h = subst (λ (x : NodeFault). text ≡ numbered_fault x) (same_fault f g h)

pub step_numbered : (fault : StepFault) (f : NodeFault) → fault_of_step fault ≡ Some f → step_fault_text fault ≡ numbered_fault f
step_numbered step.NotEnabled f h = absurd (none_some f (sym h))
step_numbered step.Undefined f h = failed_by (step_fault_text step.Undefined) Undefined f h refl
step_numbered step.Range f h = failed_by (step_fault_text step.Range) Range f h refl
step_numbered step.Memory f h = failed_by (step_fault_text step.Memory) Memory f h refl
step_numbered step.NotMine f h = failed_by (step_fault_text step.NotMine) NotMine f h refl
step_numbered step.NoChannel f h = failed_by (step_fault_text step.NoChannel) NoChannel f h refl
step_numbered step.NoChoice f h = failed_by (step_fault_text step.NoChoice) NoChoice f h refl

other_than : (fault : StepFault) (f : NodeFault) → fault_of_step fault ≡ Some f → fault ≡ step.NotEnabled → ⊥
other_than fault f h same = none_some f (sym h ∙ ap fault_of_step same)

pub not_enabled_alone : (fault : StepFault) → (fault_of_step fault ≡ None) ↔ (fault ≡ step.NotEnabled)
not_enabled_alone step.NotEnabled = (λ h. refl, λ h. refl)
not_enabled_alone step.Undefined = (λ h. absurd (none_some Undefined h), λ h. absurd (other_than step.Undefined Undefined refl h))
not_enabled_alone step.Range = (λ h. absurd (none_some Range h), λ h. absurd (other_than step.Range Range refl h))
not_enabled_alone step.Memory = (λ h. absurd (none_some Memory h), λ h. absurd (other_than step.Memory Memory refl h))
not_enabled_alone step.NotMine = (λ h. absurd (none_some NotMine h), λ h. absurd (other_than step.NotMine NotMine refl h))
not_enabled_alone step.NoChannel = (λ h. absurd (none_some NoChannel h), λ h. absurd (other_than step.NoChannel NoChannel refl h))
not_enabled_alone step.NoChoice = (λ h. absurd (none_some NoChoice h), λ h. absurd (other_than step.NoChoice NoChoice refl h))

-- faults of looks
pub view_numbered : (fault : ViewFault) → BeginsWith (view_fault_text fault) (numbered_fault (fault_of_view fault))
view_numbered view.Memory = ([], refl)
view_numbered view.Unknown = ([], refl)
view_numbered (view.Older o) = (_, refl)

-- each fault is found by its number and its name
faults : List NodeFault
faults = Undefined ∷ Range ∷ Memory ∷ NotMine ∷ NoChannel ∷ NoChoice ∷ Differs ∷ Full ∷ Unknown ∷ Older ∷ NoThread ∷ []

fault_read : List ℕ → List NodeFault → Option NodeFault
fault_read text [] = None
fault_read text (f ∷ fs) = cond (bytes_eq text (numbered_fault f)) (Some f) (fault_read text fs)

fault_found : (f : NodeFault) → fault_read (numbered_fault f) faults ≡ Some f
unfolding faults fault_read
fault_found Undefined = refl
fault_found Range = refl
fault_found Memory = refl
fault_found NotMine = refl
fault_found NoChannel = refl
fault_found NoChoice = refl
fault_found Differs = refl
fault_found Full = refl
fault_found Unknown = refl
fault_found Older = refl
fault_found NoThread = refl

pub faults_differ : (f g : NodeFault) → numbered_fault f ≡ numbered_fault g → f ≡ g
faults_differ f g h = same_fault f g (sym (fault_found f) ∙ ap (λ text. fault_read text faults) h ∙ fault_found g)
