use Rattle.std.proofs.Common.{◌≡◌, ◌∷◌, [], ◌++◌, sym, ◌∙◌, rules}
use Rattle.ioa_workers.proofs.Dealing.{dealt_next, dealt_none}
use Rattle.ioa_workers.proofs.slot.nodes_of.Goals as goal
use Rattle.ioa_workers.proofs.slot.nodes_of.Goals.{in-Some+in_ok-push, in_default}

pub loop-place-preserved : goal.loop-place-preserved
loop-place-preserved c =
    elim c.match-node_at.branch [
      | in-Some+in_ok-push w ↦
          let pushed : w.push.new.self.items ≡ c.loop-place.nodes.items ++ w.in-Some.node ∷ [] = search rules in
          rw (w.nodes-is, pushed) (dealt_next _ _ _ _ _ c.loop-place.invariant w.in-Some.node (sym c.node_at.ensures ∙ w.in-Some.is))
      | in_default w ↦ rw w.nodes-is (dealt_none _ _ _ _ _ c.loop-place.invariant (sym c.node_at.ensures ∙ w.in_default.is))
    ]
