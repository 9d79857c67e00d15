use Rattle.std.proofs.Common.{◌≡◌, [], ◌∷◌, ◌++◌, rules}
use Rattle.ioa_show.proofs.Passed.{passed}
use Rattle.ioa_show.proofs.arrows.entries_of.Goals as goal

pub loop-entry-preserved : goal.loop-entry-preserved
loop-entry-preserved c =
    let split : c.loop-entry.entry-iterator ≡ c.in-Some.entry.now ∷ c.next.new.self = c.in-Some.ensures.steps in
    let pushed : c.push.new.self.items ≡ c.loop-entry.entries.items ++ (c.in-Some.entry ∷ []) = search rules in
    rw pushed (passed (λ e. e.now) c.loop-entry.entries.items c.in-Some.entry c.next.new.self c.args.schedule.now
    (rw (← split) c.loop-entry.invariant))
