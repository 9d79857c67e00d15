use Rattle.std.proofs.Common.{◌≡◌, ◌∷◌, [], Some, None, arith, rules}
use Rattle.std.specs.List.{position_from}
use Rattle.ioa_show.specs.Traffics.{is_on, waits}
use Rattle.ioa_show.proofs.Channels.{nothing_waits, place-within, put_at_ok, put_behind}
use Rattle.ioa_show.proofs.partners.put_under_way.Goals as goal

pub index_mut-requires : goal.index_mut-requires
index_mut-requires c =
    let there : Some c.in-Some.place ≡ position_from (λ t. is_on c.args.from c.args.to t) 0 c.args.channels.now.items = search rules in
    omega (arith, place-within c.args.channels.now.items c.args.from c.args.to c.in-Some.place there, c.args.channels.now.ok.0)

pub returns-in-Some : goal.returns-in-Some
returns-in-Some c =
    let there : Some c.in-Some.place ≡ position_from (λ t. is_on c.args.from c.args.to t) 0 c.args.channels.now.items = search rules in
    put_at_ok c.args.channels.now.items c.args.from c.args.to c.in-Some.place c.index_mut.result.now c.put_last.new.channel
    ((c.args.position, c.args.message.now) ∷ []) c.put_last.result there c.index_mut.ensures.value c.put_last.ensures.from c.put_last.ensures.to
    c.put_last.ensures.waiting

pub returns-in_ok-push-in-None : goal.returns-in_ok-push-in-None
returns-in_ok-push-in-None c =
    let nowhere : None ≡ position_from (λ t. is_on c.args.from c.args.to t) 0 c.args.channels.now.items = search rules in
    let from : c.in_ok-channel-in-None.channel.from ≡ c.args.from = search rules in
    let to : c.in_ok-channel-in-None.channel.to ≡ c.args.to = search rules in
    let one : waits c.in_ok-channel-in-None.channel ≡ (c.args.position, c.args.message.now) ∷ [] = search rules in
    rw (c.in_ok-push-in-None.ensures.items, nothing_waits c.args.channels.now.items c.args.from c.args.to nowhere)
    (put_behind c.args.channels.now.items c.args.from c.args.to c.in_ok-channel-in-None.channel ((c.args.position, c.args.message.now) ∷ []) nowhere
    from to one)
