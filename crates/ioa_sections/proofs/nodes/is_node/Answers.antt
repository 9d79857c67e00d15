use Rattle.std.proofs.Common.{Bool, rules, tests}
use Rattle.std.proofs.lemmas.Iterator.{YieldsList-from_slice}
use Rattle.std.proofs.lemmas.Iterator.Search.{any_from_yields_List}
use Rattle.std.specs.Ordering.{int_eq}
use Rattle.ioa_source.specs.Sides.{SourceNode}
use Rattle.ioa_sections.specs.Sections.{node_at}
use Rattle.ioa_sections.proofs.Searches.{any_mapped}
use Rattle.ioa_sections.proofs.nodes.is_node.Goals as goal

pub returns : goal.returns
returns c =
    let test : SourceNode → Bool = λ n. int_eq n.number c.args.number in
    rw (any_mapped test node_at c.args.nodes.now)
    (any_from_yields_List (λ x. test (node_at x)) _ _ _ c.any.ensures.ran (YieldsList-from_slice c.args.nodes.now cc) (λ x b q k. search (rules, tests)))
