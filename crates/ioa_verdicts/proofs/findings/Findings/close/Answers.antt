use Rattle.std.proofs.Common.{◌≡◌, ◌+◌, ◌<◌, Some, arith, length, rules, set}
use Rattle.std.specs.Prelude.{slice_get}
use Rattle.std.proofs.lemmas.Option.{slice_get_within}
use Rattle.ioa_verdicts.specs.Open.{open_count}
use Rattle.ioa_verdicts.specs.declared.verdict.Verdict.TheVariants.{Holds}
use Rattle.ioa_verdicts.proofs.Open.{open_closed, open_there}
use Rattle.ioa_verdicts.proofs.findings.Findings.close.Goals as goal

pub overflow_sub-self : goal.overflow_sub-self
overflow_sub-self c =
    let fs = c.self.inside.verdicts.items in
    let same : fs ≡ c.args.self.now = c.self.view_is in
    let there : slice_get fs c.args.number ≡ Some Holds = rw same c.requires.holds in
    let some : 0 < open_count fs = open_there fs c.args.number there in
    let kept : c.self.inside.holding ≡ open_count fs = c.self.invariant in
    omega arith

pub index_mut-requires : goal.index_mut-requires
index_mut-requires c =
    let fs = c.self.inside.verdicts.items in
    let same : fs ≡ c.args.self.now = c.self.view_is in
    let there : slice_get fs c.args.number ≡ Some Holds = rw same c.requires.holds in
    let inside : c.args.number < length fs = slice_get_within fs c.args.number Holds there in
    search rules

pub invariant_of-self : goal.invariant_of-self
invariant_of-self c =
    let fs = c.self.inside.verdicts.items in
    let same : fs ≡ c.args.self.now = c.self.view_is in
    let there : slice_get fs c.args.number ≡ Some Holds = rw same c.requires.holds in
    let less : open_count (set fs c.args.number c.args.verdict) + 1 ≡ open_count fs = open_closed fs c.args.number c.args.verdict there c.requires.closed in
    let kept : c.self.inside.holding ≡ open_count fs = c.self.invariant in
    omega arith
