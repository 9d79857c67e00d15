use Rattle.std.proofs.Common.{◌≡◌, ◌∙◌, [], Some, None, sym, ap, arith, rules}
use Rattle.std.specs.List.{position_from}
use Rattle.ioa_show.specs.Matching.{first_of, rest_of}
use Rattle.ioa_show.specs.Traffics.{is_on, waiting_on}
use Rattle.ioa_show.proofs.Channels.{nothing_changes, nothing_waits, place-within, put_at, waits_here}
use Rattle.ioa_show.proofs.partners.take_first.Goals as goal

pub index_mut-requires : goal.index_mut-requires
index_mut-requires c =
    let there : Some c.in-Some.place ≡ position_from (λ t. is_on c.args.from c.args.to t) 0 c.args.channels.now.items = search rules in
    omega (arith, place-within c.args.channels.now.items c.args.from c.args.to c.in-Some.place there, c.args.channels.now.ok.0)

pub returns-in-Some-clause-way : goal.returns-in-Some-clause-way
returns-in-Some-clause-way c =
    let there : Some c.in-Some.place ≡ position_from (λ t. is_on c.args.from c.args.to t) 0 c.args.channels.now.items = search rules in
    let here = waits_here c.args.channels.now.items c.args.from c.args.to c.in-Some.place c.index_mut.result.now there c.index_mut.ensures.value in
    put_at c.args.channels.now.items c.args.from c.args.to c.in-Some.place c.take_equal.new.channel
    (rest_of c.args.message.now (waiting_on c.args.channels.now.items c.args.from c.args.to)) there (c.take_equal.ensures.from ∙ here.0)
    (c.take_equal.ensures.to ∙ here.1) (c.take_equal.ensures.rest ∙ ap (rest_of c.args.message.now) (sym here.2))

pub returns-in-Some-clause-first : goal.returns-in-Some-clause-first
returns-in-Some-clause-first c =
    let there : Some c.in-Some.place ≡ position_from (λ t. is_on c.args.from c.args.to t) 0 c.args.channels.now.items = search rules in
    let here = waits_here c.args.channels.now.items c.args.from c.args.to c.in-Some.place c.index_mut.result.now there c.index_mut.ensures.value in
    c.take_equal.ensures.first ∙ ap (first_of c.args.message.now) (sym here.2)

pub returns-in-None-clause-way : goal.returns-in-None-clause-way
returns-in-None-clause-way c =
    let nowhere : None ≡ position_from (λ t. is_on c.args.from c.args.to t) 0 c.args.channels.now.items = search rules in
    nothing_changes c.args.channels.now.items c.args.from c.args.to c.args.message.now nowhere

pub returns-in-None-clause-first : goal.returns-in-None-clause-first
returns-in-None-clause-first c =
    let nowhere : None ≡ position_from (λ t. is_on c.args.from c.args.to t) 0 c.args.channels.now.items = search rules in
    let none : waiting_on c.args.channels.now.items c.args.from c.args.to ≡ [] = nothing_waits c.args.channels.now.items c.args.from c.args.to nowhere in
    ap (first_of c.args.message.now) (sym none)
