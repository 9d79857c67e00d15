use Rattle.std.proofs.Common.{◌≡◌, ◌≤◌, ◌+◌, ap, length, rules, sym, ◌∙◌}
use Rattle.ioa_held.proofs.QuickAttempts.{one_more, taken_offer}
use Rattle.ioa_held.proofs.held.Held.attempt_quickly.Goals as goal

pub overflow_add-share : goal.overflow_add-share
overflow_add-share g c =
    let more = one_more c.self.inside.book c.commit_quickly.new.self c.in_ok-committed.committed.index c.in_ok-committed.committed.entry c.args.offer.now c.in_ok-committed.ensures.offered c.in_ok-committed.ensures.committed in
    let longer = more.longer in
    let bound = c.audit.ensures.bound in
    search rules

pub invariant_of-self-2 : goal.invariant_of-self-2
invariant_of-self-2 g c =
    let more = one_more c.self.inside.book c.commit_quickly.new.self c.in_ok-committed.committed.index c.in_ok-committed.committed.entry c.args.offer.now c.in_ok-committed.ensures.offered c.in_ok-committed.ensures.committed in (
      c.add.ensures.total ∙ ap (λ n. n + 1) (c.audit.ensures.total ∙ c.self.invariant.0) ∙ sym more.longer,
      c.self.invariant.1,
      c.self.invariant.2,
      more.begins ∙ c.self.invariant.3,
    )

pub returns-clause-taken : goal.returns-clause-taken
returns-clause-taken g c =
    let more = one_more c.self.inside.book c.commit_quickly.new.self c.in_ok-committed.committed.index c.in_ok-committed.committed.entry c.args.offer.now c.in_ok-committed.ensures.offered c.in_ok-committed.ensures.committed in
    let is : c.len-length.result ≡ c.in_ok-committed.committed.index + 1 = search rules in
    let current : c.args.pass.now.length ≤ length c.self.inside.book.log = search rules in
    rw (← c.self.view_is, c.taken.ensures.receipt.0, c.taken.ensures.receipt.1)
    (taken_offer c.self.inside.book c.commit_quickly.new.self c.in_ok-committed.committed.index c.in_ok-committed.committed.entry c.args.offer.now c.args.pass.now c.taken.new.pass _ c.len-length.result c.in_ok-committed.ensures.committed c.in_ok-committed.ensures.reads current is c.taken.ensures.pass)
