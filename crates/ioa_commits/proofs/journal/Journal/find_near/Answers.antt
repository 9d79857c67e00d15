use Rattle.std.proofs.Common.{◌≡◌, ◌∙◌, None, rules}
use Rattle.std.specs.Option.{option_copied}
use Rattle.ioa_commits.proofs.Commits.{none_held, some_held}
use Rattle.ioa_commits.proofs.journal.Journal.find_near.Goals as goal

pub returns-in_err-slot : goal.returns-in_err-slot
returns-in_err-slot g c =
    let nothing : option_copied c.from_residual.result ≡ None = search rules in
    nothing ∙ rw (← c.self.view_is) (none_held _ _ _ _ _ c.self.invariant.0 c.args.component (search rules))

pub returns : goal.returns
returns g c =
    let got = rw c.deref.ensures.value at c.at_slot.ensures in
    got ∙ rw (← c.self.view_is) (some_held _ _ _ _ _ c.self.invariant.0 c.args.component c.in_ok-slot.slot (search rules))
