use Rattle.std.proofs.Common.{◌≡◌, Some, None, rules}
use Rattle.ioa_index.specs.Indexes.{entry_of}
use Rattle.ioa_index.proofs.Indexes.{found_own, not_found_own}
use Rattle.ioa_index.proofs.index.Index.own_anywhere.Goals as goal

pub returns-in-Some : goal.returns-in-Some
returns-in-Some c =
    let found : Some c.in-Some.entry.now ≡ entry_of c.args.node c.self.inside.by_node.items = search rules in
    rw (c.deref-in-Some.ensures.value, ← c.self.view_is)
    (found_own c.args.node c.self.inside.components.items c.self.inside.by_node.items c.in-Some.entry.now c.self.invariant.by_node.own found)

pub returns-in-None : goal.returns-in-None
returns-in-None c =
    let none : None ≡ entry_of c.args.node c.self.inside.by_node.items = search rules in
    rw (← c.self.view_is)
    (not_found_own c.args.node c.self.inside.components.items c.self.inside.by_node.items c.self.invariant.by_node none)
