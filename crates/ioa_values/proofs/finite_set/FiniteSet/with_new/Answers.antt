use Rattle.std.proofs.Common.{◌≡◌, ◌∙◌, ◌+◌, ◌^◌, ◌<◌, true, length, ap, arith}
use Rattle.std.specs.Prelude.{List}
use Rattle.ioa_values.specs.Collections.{keys_of, with_member}
use Rattle.ioa_values.specs.Data.{Data, truth}
use Rattle.ioa_values.specs.EntryTrees.{entries_in}
use Rattle.ioa_values.proofs.Ascending.{keys_with}
use Rattle.ioa_values.proofs.EntryTrees.{many_keys}
use Rattle.ioa_values.proofs.FiniteSets.{set_with}
use Rattle.ioa_values.proofs.finite_set.FiniteSet.with_new.Goals as goal

pub invariant_of-result : goal.invariant_of-result
invariant_of-result c =
    let as_many : length (keys_of (entries_in c.self.inside.root)) ≡ length c.args.self.now = ap (λ (ds : List Data). length ds) c.self.view_is in
    let room : length (entries_in c.self.inside.root) + 1 < 2 ^ 63 = omega (arith, as_many, many_keys (entries_in c.self.inside.root)) in
    rw (c.in_ok-with_entry.ensures.entries, c.in_ok-entry.ensures.entry, c.truth.ensures, c.join-kind.ensures)
    (set_with c.args.member.now (entries_in c.self.inside.root) c.self.inside.kind c.of.result c.self.invariant
    (rw c.truth.ensures at c.in_ok-entry.ensures.canonical) c.of.ensures room)

pub returns : goal.returns
returns c =
    rw (c.in_ok-with_entry.ensures.entries, c.in_ok-entry.ensures.entry, c.truth.ensures)
    (keys_with c.args.member.now (truth true) (entries_in c.self.inside.root) ∙ ap (with_member c.args.member.now) c.self.view_is)
