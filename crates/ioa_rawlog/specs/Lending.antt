-- What becomes of a row of nodes once a loan of its last item ends (form).
use Rattle.core.specs.Prelude.{ℕ, ◌-◌, length, slice_set}
use mathlib.Core.Path.{◌∙◌}
use lib.ListN.{length-set}
use base.Fml.{Fml}
use denote.RattleType.{RattleType}
use denote.Ref.{MutBor}
use denote.Follow.{follows}
use Rattle.core.specs.declared.alloc.Allocator.{Ghosts}
use Rattle.ioa_rawlog.specs.declared.nodes.Nodes.{Nodes}
use Rattle.ioa_rawlog.specs.contracts.nodes.Nodes.{the_row}

-- the same nodes with w as the item of this index
abbrev pub with_item : {X A : Type 0} → Nodes X A → ℕ → X → Nodes X A
with_item n i w = record {
  first = n.first;
  last = n.last;
  items = slice_set n.items i w;
  frames = n.frames;
  matched = length-set n.items i w ∙ n.matched;
  chained = n.chained;
}

-- once the loan r ends, the last item is the last value that was written through it
abbrev pub last_follows : (R A : RattleType) (g : Ghosts A.Denot) → MutBor (Nodes R.Denot A.Denot) → MutBor R.Denot → Fml
last_follows R A g n r = follows (the_row R A g) R n.ghost_name r.ghost_name (with_item n.now (length n.now.items - 1))
