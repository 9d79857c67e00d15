use Rattle.std.proofs.Common.{sym, ◌∙◌}
use Rattle.ioa_passes.proofs.Passes.{found_raised, found_within, lost_raised, same_components}
use Rattle.ioa_passes.proofs.pass.Pass.raise.Goals as goal

pub raise_at-requires : goal.raise_at-requires
raise_at-requires c =
    found_within c.args.component c.self.inside.seen.items c.self.inside.index c.self.invariant c.slot_of.result c.slot_of.ensures c.in-Some.slot c.in-Some.is

pub invariant_of-self : goal.invariant_of-self
invariant_of-self c = rw c.raise_at.ensures (c.self.invariant ∙ sym (same_components c.args.version c.in-Some.slot c.self.inside.seen.items))

pub returns-in-Some : goal.returns-in-Some
returns-in-Some c =
    let inside = c.self.inside in
    rw (← c.self.view_is, c.raise_at.ensures)
    (found_raised c.args.component inside.seen.items inside.index c.self.invariant c.slot_of.result c.slot_of.ensures c.in-Some.slot c.args.version inside.length c.in-Some.is)

pub returns-in-None : goal.returns-in-None
returns-in-None c =
    let inside = c.self.inside in
    rw (← c.self.view_is)
    (lost_raised c.args.component inside.seen.items inside.index c.self.invariant c.slot_of.result c.slot_of.ensures c.args.version inside.length c.in-None.is)
