use Rattle.std.proofs.Common.{◌≡◌, ◌∙◌, ◌<◌, false, true, Some, None, get_or, deque_len, map, sym, ap, arith, rules}
use Rattle.std.specs.Prelude.{remove}
use Rattle.std.specs.List.{position_from}
use Rattle.ioa_show.specs.Traffics.{has_message, sent_of}
use Rattle.ioa_show.specs.declared.partners.Waiting.{Waiting}
use Rattle.ioa_show.proofs.Waiting.{first-within, first_there, none_there, others_there}
use Rattle.ioa_show.proofs.partners.take_equal.Goals as goal

pub returns-in-Some-remove-clause-first : goal.returns-in-Some-remove-clause-first
returns-in-Some-remove-clause-first c =
    let there : Some c.in-Some.place ≡ position_from (λ w. has_message c.args.message.now w) 0 c.args.channel.now.waiting.items = search rules in
    let sent : c.in-Some-remove.sent ≡ get_or c.args.channel.now.waiting.items c.in-Some.place c.in-Some-remove.sent = c.in-Some-remove.ensures.value in
    ap (λ (w : Waiting). Some w.position) sent
    ∙ sym (first_there c.args.message.now c.args.channel.now.waiting.items c.in-Some.place c.in-Some-remove.sent there)

pub returns-in-Some-remove-clause-rest : goal.returns-in-Some-remove-clause-rest
returns-in-Some-remove-clause-rest c =
    let there : Some c.in-Some.place ≡ position_from (λ w. has_message c.args.message.now w) 0 c.args.channel.now.waiting.items = search rules in
    let left : c.remove.new.self.items ≡ remove c.args.channel.now.waiting.items c.in-Some.place = c.in-Some-remove.ensures.items in
    ap (map sent_of) left ∙ sym (others_there c.args.message.now c.args.channel.now.waiting.items c.in-Some.place there)

pub returns-in-None-remove-clause-first : goal.returns-in-None-remove-clause-first
returns-in-None-remove-clause-first c =
    let there : Some c.in-Some.place ≡ position_from (λ w. has_message c.args.message.now w) 0 c.args.channel.now.waiting.items = search rules in
    let within = first-within c.args.message.now c.args.channel.now.waiting.items c.in-Some.place there in
    let inside : c.in-Some.place < deque_len c.args.channel.now.waiting = omega (arith, within, c.args.channel.now.waiting.ok.0) in
    let found : false ≡ true = c.in-None-remove.ensures.variant.1 inside in
    absurd (cc)

pub returns-in-None-remove-clause-rest : goal.returns-in-None-remove-clause-rest
returns-in-None-remove-clause-rest c =
    let there : Some c.in-Some.place ≡ position_from (λ w. has_message c.args.message.now w) 0 c.args.channel.now.waiting.items = search rules in
    let within = first-within c.args.message.now c.args.channel.now.waiting.items c.in-Some.place there in
    let inside : c.in-Some.place < deque_len c.args.channel.now.waiting = omega (arith, within, c.args.channel.now.waiting.ok.0) in
    let found : false ≡ true = c.in-None-remove.ensures.variant.1 inside in
    absurd (cc)

pub returns-in-None-clause-first : goal.returns-in-None-clause-first
returns-in-None-clause-first c =
    let nowhere : None ≡ position_from (λ w. has_message c.args.message.now w) 0 c.args.channel.now.waiting.items = search rules in
    sym (none_there c.args.message.now c.args.channel.now.waiting.items 0 nowhere).0

pub returns-in-None-clause-rest : goal.returns-in-None-clause-rest
returns-in-None-clause-rest c =
    let nowhere : None ≡ position_from (λ w. has_message c.args.message.now w) 0 c.args.channel.now.waiting.items = search rules in
    sym (none_there c.args.message.now c.args.channel.now.waiting.items 0 nowhere).1
