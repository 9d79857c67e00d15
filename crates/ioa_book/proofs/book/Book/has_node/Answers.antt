use Rattle.std.proofs.Common.{◌≡◌, ◌∙◌, rules}
use Rattle.ioa_actions.specs.declared.component.Component.TheVariants.{Node}
use Rattle.ioa_compose.specs.Composition.{component_names}
use Rattle.ioa_commits.specs.Books.{states_held}
use Rattle.ioa_index.specs.Indexes.{has_node}
use Rattle.ioa_book.proofs.FoundNodes.{held_found}
use Rattle.ioa_book.proofs.book.Book.has_node.Goals as goal

pub returns : goal.returns
returns g c =
    let names = component_names (states_held c.args.self.now) in
    let there : c.has_node.result ≡ has_node c.args.node names = search rules in
    there ∙ held_found c.args.self.now (Node c.args.node)
