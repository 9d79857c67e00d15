use Rattle.std.proofs.Common.{◌∙◌, sym}
use Rattle.std.specs.Str.{bytes_eq}
use Rattle.ioa_tokens.proofs.Tables.{lookup_here, lookup_later}
use Rattle.ioa_tokens.proofs.table.meaning.Goals as goal

-- the first row with this spelling
pub returns-then-is_same : goal.returns-then-is_same
returns-then-is_same g c = sym (c.loop-spelling.invariant ∙ lookup_here _ _ _ c.loop-spelling-test.true c.loop-spelling-item.is (bytes_eq c.args.word.now) cc)

-- a row with another spelling is gone by
pub loop-spelling-preserved : goal.loop-spelling-preserved
loop-spelling-preserved g c = c.loop-spelling.invariant ∙ lookup_later _ _ _ c.loop-spelling-test.true c.loop-spelling-item.is (bytes_eq c.args.word.now) cc
