use Rattle.std.proofs.Common.{map, ◌∙◌, ap, length, sym}
use Rattle.std.proofs.lemmas.List.{length-map}
use Rattle.ioa_terms.specs.SameTerms.{same_kind}
use Rattle.ioa_source.specs.Sides.{SourceEntry}
use Rattle.ioa_source.specs.TextView.{entry_of}
use Rattle.ioa_sorts.proofs.Lookups.{by_index, item_of, never_beyond, none_by_index}
use Rattle.ioa_automata.proofs.automata.entry_for.Goals as goal

pub returns-in_err-slot : goal.returns-in_err-slot
returns-in_err-slot c =
    rw c.from_residual.ensures (none_by_index (λ (e : SourceEntry). e.name) (λ (e : SourceEntry). same_kind e.kind c.args.transition.now.kind) c.args.transition.now.name c.args.names.now (map entry_of c.args.entries.now.items) c.requires c.in_err-slot.ensures)

-- each slot is that of an entry
pub returns-in_err-entry : goal.returns-in_err-entry
returns-in_err-entry c =
    absurd (never_beyond (λ (e : SourceEntry). e.name) (λ (e : SourceEntry). same_kind e.kind c.args.transition.now.kind) c.args.transition.now.name c.args.names.now (map entry_of c.args.entries.now.items) c.requires c.in_ok-slot.slot (length c.deref.result.now) c.in_ok-slot.ensures (ap length c.deref.ensures.value ∙ sym (length-map c.args.entries.now.items entry_of)) c.in_err-entry.ensures.lookup.0)

pub returns-then-eq : goal.returns-then-eq
returns-then-eq c =
    let lookup = rw c.deref.ensures.value at c.in_ok-entry.ensures.lookup in
    rw c.if-eq.true at (by_index (λ (e : SourceEntry). e.name) (λ (e : SourceEntry). same_kind e.kind c.args.transition.now.kind) c.args.transition.now.name c.args.names.now (map entry_of c.args.entries.now.items) c.requires c.in_ok-slot.slot (entry_of c.in_ok-entry.entry.now) c.in_ok-slot.ensures (item_of entry_of c.args.entries.now.items c.in_ok-slot.slot _ c.in_ok-entry.entry.now lookup.0 lookup.1) c.eq.result c.eq.ensures)

pub returns-else-eq : goal.returns-else-eq
returns-else-eq c =
    let lookup = rw c.deref.ensures.value at c.in_ok-entry.ensures.lookup in
    rw c.if-eq.false at (by_index (λ (e : SourceEntry). e.name) (λ (e : SourceEntry). same_kind e.kind c.args.transition.now.kind) c.args.transition.now.name c.args.names.now (map entry_of c.args.entries.now.items) c.requires c.in_ok-slot.slot (entry_of c.in_ok-entry.entry.now) c.in_ok-slot.ensures (item_of entry_of c.args.entries.now.items c.in_ok-slot.slot _ c.in_ok-entry.entry.now lookup.0 lookup.1) c.eq.result c.eq.ensures)
