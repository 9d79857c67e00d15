use Rattle.std.proofs.Common.{◌≡◌, ◌≤◌, ◌-◌, length, drop}
use Rattle.ioa_tokens.specs.Tokens.{tokens, tokens_from}
use Rattle.ioa_tokens.proofs.Cuts.{after_found}
use Rattle.ioa_tokens.proofs.cut.tokens.Given as goal

-- the tokens found, and those of what is left, are those of the text
abbrev pub invariant-loop-offset : goal.invariant-loop-offset
invariant-loop-offset l = (l.offset ≤ length l.bytes) × (after_found l.found.items (tokens_from 0 l.offset (drop l.offset l.bytes)) ≡ tokens l.bytes)

abbrev pub decreases-loop-offset : goal.decreases-loop-offset
decreases-loop-offset l = length l.bytes - l.offset
