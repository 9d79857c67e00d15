-- What a receipt tells: it stands behind all that the pass had seen.
use Rattle.std.proofs.Common.{◌≡◌, ◌+◌, ℕ, max, ap, arith}
use Rattle.ioa_transitions.specs.Entries.{PlainEntry}
use Rattle.ioa_commits.specs.Books.{PlainBook}
use Rattle.ioa_commits.specs.Proposals.{PlainProposal}
use Rattle.ioa_passes.specs.Passes.{PlainPass}
use Rattle.ioa_held.specs.AttemptLaws.{IsReceiptOf}
use Rattle.ioa_held.specs.Attempts.{IsTaken}

-- what a receipt says
pub receipt_of : (old new : PlainBook) (x : PlainProposal) (p q : PlainPass) (i : ℕ) (e : PlainEntry) → IsTaken old x p i e new q → IsReceiptOf p x i e q
receipt_of old new x p q i e h =
    let long : q.length ≡ max p.length (i + 1) = ap (λ (y : PlainPass). y.length) h.pass in
    record { behind = omega (arith, h.current, h.commit.at); entry = h.commit.entry; seen = omega (arith, long) }
