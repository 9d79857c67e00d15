use Rattle.ioa_tokens.proofs.Spaces.{spaces_more}
use Rattle.ioa_tokens.proofs.written.push_spaces.Goals as goal

-- one more space
pub loop-space-preserved : goal.loop-space-preserved
loop-space-preserved c = spaces_more _ _ _ c.loop-space._space c.loop-space.invariant c.in_ok-push_str.ensures.bytes
