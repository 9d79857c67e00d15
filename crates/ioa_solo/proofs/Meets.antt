-- What comes of the first look at a node.
use Rattle.std.proofs.Common.{◌≡◌, ◌⊎◌, inl, inr, ℕ, true, false, List, Option, Some, None, Result, Ok, Err, refl, sym, ap, subst, ◌∙◌}
use Rattle.std.specs.Prelude.{IfSome, OnOk, is_some}
use Rattle.std.specs.Option.{option_map}
use Rattle.ioa_actions.specs.declared.component.Component.{Component}
use Rattle.ioa_actions.specs.declared.component.Component.TheVariants as component
use Rattle.ioa_actions.proofs.SameComponents.{same_component-itself}
use Rattle.ioa_book.specs.Looks.{PlainSnapshot, snapshot_after}
use Rattle.ioa_book.specs.Proposals.{find_read}
use Rattle.ioa_book.proofs.FoundReads.{found_conf}
use Rattle.ioa_book.proofs.FreshLooks.{conf_seen}
use Rattle.ioa_commits.specs.Books.{PlainBook, held_of, states_held}
use Rattle.ioa_commits.specs.Versions.{PlainVersionedConf, read_confs, with_version}
use Rattle.ioa_compose.specs.Composition.{find_conf}
use Rattle.ioa_compose.specs.IsStart.{StartsInitial}
use Rattle.ioa_compose.specs.declared.configuration.Conf.{Conf}
use Rattle.ioa_record.specs.declared.ending.Ending.TheVariants.{Fault}
use Rattle.ioa_record.specs.declared.ending.NodeFault.{NodeFault}
use Rattle.ioa_record.specs.declared.ending.NodeFault.TheVariants as fault
use Rattle.ioa_passes.specs.declared.outcome.ViewFault.{ViewFault}
use Rattle.ioa_passes.specs.declared.outcome.ViewFault.TheVariants as view
use Rattle.ioa_system.specs.Parts.{Parts}
use Rattle.ioa_system.specs.SameParts.{same_program, same_program_is}
use Rattle.ioa_turns.specs.NodeTurns.{PlainProgress, progress_at, with_ending}
use Rattle.ioa_solo.specs.Fires.{ended_by, fault_of_view}
use Rattle.ioa_solo.specs.Meets.{fault_of_conf, met_in}
use Rattle.ioa_solo.specs.Solo.{IsEndedBy}

-- by what was read of the node
pub fault_read : (p : Parts) (k : Component) (rs : List PlainVersionedConf) (o : Option PlainVersionedConf) → o ≡ find_read k rs →
    fault_of_conf p (option_map (λ r. r.conf) o) ≡ fault_of_conf p (find_conf k (read_confs rs))
fault_read p k rs o h =
    ap (λ (x : Option PlainVersionedConf). fault_of_conf p (option_map (λ r. r.conf) x)) h
    ∙ ap (λ (x : Option Conf). fault_of_conf p x) (sym (found_conf k rs))

-- on a look at the book as it is
pub met_seen : (b : PlainBook) (p q : PlainProgress) (look : Option PlainSnapshot) → look ≡ Some (snapshot_after p.program.node b.start b.log) →
    IfSome look (λ s. q ≡ met_in (read_confs s.reads) p) → q ≡ met_in (states_held b) p
met_seen b p q look h met =
    subst (λ (o : Option PlainSnapshot). IfSome o (λ s. q ≡ met_in (read_confs s.reads) p)) h met
    ∙ ap (λ (o : Option Conf). ended_by (fault_of_conf p.program o) p p)
    (conf_seen b p.program.node (component.Node p.program.node) (same_component-itself (component.Node p.program.node)))

-- a node that is not there
not_there : (b : PlainBook) (p : PlainProgress) → is_some (held_of b (component.Node p.program.node)) ≡ false → met_in (states_held b) p ≡ with_ending (Fault fault.Unknown) p
not_there b p h = by_conf (find_conf (component.Node p.program.node) (states_held b)) h
  where
    by_conf : (o : Option Conf) → is_some (option_map (with_version b.log) o) ≡ false → ended_by (fault_of_conf p.program o) p p ≡ with_ending (Fault fault.Unknown) p
    by_conf None e = refl
    by_conf (Some c) e = absurd (cc)

-- so without a look
met_unseen : (b : PlainBook) (p q : PlainProgress) (v : ViewFault) (f : NodeFault) → f ≡ fault_of_view v →
    (v ≡ view.Memory) ⊎ ((v ≡ view.Unknown) × (is_some (held_of b (component.Node p.program.node)) ≡ false)) → IsEndedBy f p q → q ≡ met_in (states_held b) p
met_unseen b p q view.Memory f is why h = absurd (h.0 is)
met_unseen b p q view.Unknown f is (inl e) h = absurd (cc)
met_unseen b p q view.Unknown f is (inr e) h = h.1 ∙ ap (λ (x : NodeFault). with_ending (Fault x) p) is ∙ sym (not_there b p e.1)
met_unseen b p q (view.Older o) f is (inl e) h = absurd (cc)
met_unseen b p q (view.Older o) f is (inr e) h = let bad : view.Older o ≡ view.Unknown = e.0 in absurd (cc)

-- the same by what a call has done
pub met_without : {X E : Type 0} (result : Result X E) (b : PlainBook) (p q : PlainProgress) (v : ViewFault) (f : NodeFault) → f ≡ fault_of_view v →
    (v ≡ view.Memory) ⊎ ((v ≡ view.Unknown) × (is_some (held_of b (component.Node p.program.node)) ≡ false)) → OnOk result (IsEndedBy f p q) →
    OnOk result (q ≡ met_in (states_held b) p)
met_without (Ok x) b p q v f is why h = met_unseen b p q v f is why h
met_without (Err e) b p q v f is why h = tt

-- a node that is at its start is as it was
pub met_at_start : (states : List Conf) (p : Parts) (attempts : ℕ) → StartsInitial states p → met_in states (progress_at attempts p) ≡ progress_at attempts p
met_at_start states p attempts there =
    let same : same_program p p ≡ true = (same_program_is p p).1 refl in
    rw (there, same) refl
