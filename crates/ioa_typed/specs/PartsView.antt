-- What the code of terms with shapes means (view).
use Rattle.ioa_terms.specs.View.{term_of}
use Rattle.ioa_typed.specs.declared.terms.Typed.{Typed}
use Rattle.ioa_typed.specs.declared.pairs.Pair.{Pair}
use Rattle.ioa_typed.specs.declared.updates.Update.{Update}
use Rattle.ioa_typed.specs.Parts.{PlainTyped, typed, PlainPair, pair, PlainUpdate, update}

-- a term and its shape
abbrev pub typed_of : Typed → PlainTyped
typed_of t = typed (term_of t.tree) t.shape

-- two parts
abbrev pub pair_of : Pair → PlainPair
pair_of p = pair (term_of p.left.value) (term_of p.right.value) p.whole

-- the parts of `update`
abbrev pub update_of : Update → PlainUpdate
update_of u = update (term_of u.map) (term_of u.key) (term_of u.value) u.whole
