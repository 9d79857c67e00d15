use Rattle.std.proofs.Common.{◌≡◌, ◌∙◌, Ok, ap, set, true, rules}
use Rattle.ioa_operators.specs.Shapes.{has_shape}
use Rattle.ioa_values.specs.Data.{number}
use Rattle.ioa_terms.specs.Bindings.{Bindings, put}
use Rattle.ioa_terms.specs.Views.{all_names, environment_of}
use Rattle.ioa_terms.specs.Inboxes.{lent_values}
use Rattle.ioa_terms.specs.declared.name.Name.TheVariants.{Word}
use Rattle.ioa_terms.proofs.Slots.{put_among_first}
use Rattle.ioa_terms.proofs.performance.put_number.Goals as goal

-- the shape has the number, which is put at the variable's slot
pub returns-then-is_admitted-clause-after : goal.returns-then-is_admitted-clause-after
returns-then-is_admitted-clause-after c =
    let admitted : has_shape c.args._shape.now (number c.args.n) ≡ true = search rules in
    let written : put (Word c.args.name.now) (number c.args.n) (environment_of c.args.view.now c.args.values.now.items)
    ≡ environment_of c.args.view.now (set c.args.values.now.items c.args.at (number c.args.n)) =
    put_among_first (all_names c.args.view.now) c.args.values.now.items (lent_values c.args.view.now.lent) c.args.view.now.constants.now (Word c.args.name.now) c.args.at (number c.args.n) c.requires.slot in
    let there : environment_of c.args.view.now (set c.args.values.now.items c.args.at (number c.args.n)) ≡ environment_of c.args.view.now c.set_number.new.values.items =
    ap (environment_of c.args.view.now) (search rules) in
    rw admitted (ap (λ (e : Bindings). Ok e) (written ∙ there))
