use Rattle.std.proofs.Common.{◌∙◌, ap, length, sym}
use Rattle.std.proofs.lemmas.List.{length-map}
use Rattle.ioa_terms.specs.SameTerms.{same_kind}
use Rattle.ioa_source.specs.Sides.{SourceTransition}
use Rattle.ioa_source.specs.TextView.{transition_of}
use Rattle.ioa_automata.specs.SortedView.{transitions_of}
use Rattle.ioa_sorts.proofs.Lookups.{by_index, item_of, never_beyond, none_by_index}
use Rattle.ioa_automata.proofs.rules.transition_for.Goals as goal

pub returns-in_err-slot : goal.returns-in_err-slot
returns-in_err-slot c =
    rw c.from_residual.ensures (none_by_index (λ (t : SourceTransition). t.name) (λ (t : SourceTransition). same_kind t.kind c.args.entry.now.kind) c.args.entry.now.name c.args.transitions.now.names.now (transitions_of c.args.transitions.now) c.requires c.in_err-slot.ensures)

-- each slot is that of a transition
pub returns-in_err-transition : goal.returns-in_err-transition
returns-in_err-transition c =
    absurd (never_beyond (λ (t : SourceTransition). t.name) (λ (t : SourceTransition). same_kind t.kind c.args.entry.now.kind) c.args.entry.now.name c.args.transitions.now.names.now (transitions_of c.args.transitions.now) c.requires c.in_ok-slot.slot (length c.deref.result.now) c.in_ok-slot.ensures (ap length c.deref.ensures.value ∙ sym (length-map c.args.transitions.now.items.now.items transition_of)) c.in_err-transition.ensures.lookup.0)

pub returns-then-eq : goal.returns-then-eq
returns-then-eq c =
    let lookup = rw c.deref.ensures.value at c.in_ok-transition.ensures.lookup in
    rw c.if-eq.true at (by_index (λ (t : SourceTransition). t.name) (λ (t : SourceTransition). same_kind t.kind c.args.entry.now.kind) c.args.entry.now.name c.args.transitions.now.names.now (transitions_of c.args.transitions.now) c.requires c.in_ok-slot.slot (transition_of c.in_ok-transition.transition.now) c.in_ok-slot.ensures (item_of transition_of c.args.transitions.now.items.now.items c.in_ok-slot.slot _ c.in_ok-transition.transition.now lookup.0 lookup.1) c.eq.result c.eq.ensures)

pub returns-else-eq : goal.returns-else-eq
returns-else-eq c =
    let lookup = rw c.deref.ensures.value at c.in_ok-transition.ensures.lookup in
    rw c.if-eq.false at (by_index (λ (t : SourceTransition). t.name) (λ (t : SourceTransition). same_kind t.kind c.args.entry.now.kind) c.args.entry.now.name c.args.transitions.now.names.now (transitions_of c.args.transitions.now) c.requires c.in_ok-slot.slot (transition_of c.in_ok-transition.transition.now) c.in_ok-slot.ensures (item_of transition_of c.args.transitions.now.items.now.items c.in_ok-slot.slot _ c.in_ok-transition.transition.now lookup.0 lookup.1) c.eq.result c.eq.ensures)
