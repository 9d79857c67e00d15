use Rattle.std.proofs.Common.{◌≡◌, ◌≤◌, ◌-◌, length, drop}
use Rattle.ioa_tokens.specs.LineTokens.{line_tokens, line_tokens_from}
use Rattle.ioa_tokens.proofs.Cuts.{after_found}
use Rattle.ioa_tokens.proofs.line.cut_line_into.Given as goal

-- the tokens found, and those of what is left, are those of the line
abbrev pub invariant-loop-offset : goal.invariant-loop-offset
invariant-loop-offset l = (l.offset ≤ length l.bytes) × (after_found l.tokens.items (line_tokens_from l.behind_minus 0 l.offset (drop l.offset l.bytes)) ≡ line_tokens l.bytes)

abbrev pub decreases-loop-offset : goal.decreases-loop-offset
decreases-loop-offset l = length l.bytes - l.offset
