use Rattle.ioa_passes.proofs.Passes.{found_seen, found_within, lost_seen}
use Rattle.ioa_passes.proofs.pass.Pass.seen_near.Goals as goal

pub version_at-requires : goal.version_at-requires
version_at-requires c =
    rw c.deref.ensures.value
    (found_within c.args.component c.self.inside.seen.items c.self.inside.index c.self.invariant c.slot_of.result c.slot_of.ensures c.in-Some.slot c.in-Some.is)

pub returns-in-Some : goal.returns-in-Some
returns-in-Some c =
    rw (← c.self.view_is, c.version_at.ensures, c.deref.ensures.value)
    (found_seen c.args.component c.self.inside.seen.items c.self.inside.index c.self.invariant c.slot_of.result c.slot_of.ensures c.in-Some.slot c.in-Some.is)

pub returns-in-None : goal.returns-in-None
returns-in-None c =
    rw (← c.self.view_is) (lost_seen c.args.component c.self.inside.seen.items c.self.inside.index c.self.invariant c.slot_of.result c.slot_of.ensures c.in-None.is)
