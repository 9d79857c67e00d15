use Rattle.std.proofs.Common.{◌≡◌, ◌∙◌, ap, arith, length, map, refl, rules}
use Rattle.std.specs.Arc.{arc_value}
use Rattle.std.proofs.lemmas.Option.{slice_get_read}
use Rattle.ioa_compose.specs.Composition.{component_of}
use Rattle.ioa_commits.specs.Versions.{read_component}
use Rattle.ioa_commits.proofs.Puts.{put_components, put_none, put_slot}
use Rattle.ioa_commits.proofs.holding.put_conf.Goals as goal

pub index_mut-requires : goal.index_mut-requires
index_mut-requires g c =
    let named : c.component.result ≡ component_of (arc_value c.args.conf.now) = search rules in
    let p = put_slot (arc_value c.args.conf.now) c.component.result c.args.held.now.items c.args.index.now c.in-Some.slot named c.requires c.in-Some.ensures in
    omega (arith, p.within, c.args.held.now.ok.0)

pub returns-in-Some-clause-put : goal.returns-in-Some-clause-put
returns-in-Some-clause-put g c =
    let named : c.component.result ≡ component_of (arc_value c.args.conf.now) = search rules in
    let p = put_slot (arc_value c.args.conf.now) c.component.result c.args.held.now.items c.args.index.now c.in-Some.slot named c.requires c.in-Some.ensures in
    rw c.exchange.ensures
    (p.at c.index_mut.result.now (slice_get_read c.args.held.now.items (length c.args.held.now.items) c.in-Some.slot c.index_mut.result.now refl p.within c.index_mut.ensures.value))

pub returns-in-Some-clause-components : goal.returns-in-Some-clause-components
returns-in-Some-clause-components g c =
    ap (λ hs. map read_component hs) (returns-in-Some-clause-put g c) ∙ put_components (arc_value c.args.conf.now) c.args.held.now.items

pub returns-in_default-clause-put : goal.returns-in_default-clause-put
returns-in_default-clause-put g c =
    let named : c.component.result ≡ component_of (arc_value c.args.conf.now) = search rules in
    put_none (arc_value c.args.conf.now) c.component.result c.args.held.now.items c.args.index.now named c.requires c.in_default.ensures
