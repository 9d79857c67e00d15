use Rattle.std.proofs.Common.{◌++◌, ◌-◌, [], ◌∷◌, Some, length, arith, sym, ap, ◌∙◌}
use Rattle.std.specs.Option.{option_map}
use Rattle.std.proofs.lemmas.List.{length-append}
use Rattle.ioa_terms.specs.Views.{all_names}
use Rattle.ioa_terms.specs.Inboxes.{inbox_values, inboxes_of, inboxes_value}
use Rattle.ioa_terms.proofs.Slots.{environment_constant, environment_first, environment_middle, environment_last, environment_beyond}
use Rattle.ioa_terms.proofs.environment.View.get.Goals as goal

pub returns-then-slot-values : goal.returns-then-slot-values
returns-then-slot-values c =
    let env = c.args.self.now in
    let ws = all_names env in
    let vs = c.args.values.now in
    let is = inbox_values (option_map (λ is. inboxes_of is.now) env.lent.inboxes) in
    let fs = env.lent.first.now in
    let gs = env.lent.second.now in
    let cs = env.constants.now in
    let further = length-append fs gs in
    let lent = length-append is (fs ++ gs) in
    let many = length-append vs (is ++ (fs ++ gs)) in
    let valued = c.requires in
    ap (λ v. Some v) c.index-values-slot.is ∙ sym (environment_first ws vs (is ++ (fs ++ gs)) cs c.args.slot c.index-values-slot.result (omega arith) (omega arith))

pub returns-in-Some : goal.returns-in-Some
returns-in-Some c =
    let env = c.args.self.now in
    let ws = all_names env in
    let vs = c.args.values.now in
    let is = inbox_values (option_map (λ is. inboxes_of is.now) env.lent.inboxes) in
    let fs = env.lent.first.now in
    let gs = env.lent.second.now in
    let cs = env.constants.now in
    let further = length-append fs gs in
    let lent = length-append is (fs ++ gs) in
    let many = length-append vs (is ++ (fs ++ gs)) in
    let valued = c.requires in
    let some = ap (λ o. length (inbox_values (option_map (λ is. inboxes_of is.now) o))) c.in-Some.is in
    let slots = c.inbox_slots-inbox_slots.ensures in
    rw c.in-Some.is (sym (environment_middle ws vs (inboxes_value (inboxes_of c.in-Some.inboxes.now) ∷ []) (fs ++ gs) cs c.args.slot 0 (inboxes_value (inboxes_of c.in-Some.inboxes.now)) (omega arith) (omega arith) (omega arith)))

pub returns-in-None : goal.returns-in-None
returns-in-None c =
    let env = c.args.self.now in
    let ws = all_names env in
    let vs = c.args.values.now in
    let is = inbox_values (option_map (λ is. inboxes_of is.now) env.lent.inboxes) in
    let fs = env.lent.first.now in
    let gs = env.lent.second.now in
    let cs = env.constants.now in
    let further = length-append fs gs in
    let lent = length-append is (fs ++ gs) in
    let many = length-append vs (is ++ (fs ++ gs)) in
    let valued = c.requires in
    let none = ap (λ o. length (inbox_values (option_map (λ is. inboxes_of is.now) o))) c.in-None.is in
    let slots = c.inbox_slots-inbox_slots.ensures in
    absurd (omega arith)

pub returns-then-lent-self : goal.returns-then-lent-self
returns-then-lent-self c =
    let env = c.args.self.now in
    let ws = all_names env in
    let vs = c.args.values.now in
    let is = inbox_values (option_map (λ is. inboxes_of is.now) env.lent.inboxes) in
    let fs = env.lent.first.now in
    let gs = env.lent.second.now in
    let cs = env.constants.now in
    let further = length-append fs gs in
    let lent = length-append is (fs ++ gs) in
    let many = length-append vs (is ++ (fs ++ gs)) in
    let valued = c.requires in
    let slots = c.inbox_slots-inbox_slots.ensures in
    (sym (environment_last ws vs is fs gs cs c.args.slot (c.args.slot - length vs - c.inbox_slots-inbox_slots.result) c.index-self-lent.result (omega arith) (omega arith) (omega arith)))

pub returns-then-further-self : goal.returns-then-further-self
returns-then-further-self c =
    let env = c.args.self.now in
    let ws = all_names env in
    let vs = c.args.values.now in
    let is = inbox_values (option_map (λ is. inboxes_of is.now) env.lent.inboxes) in
    let fs = env.lent.first.now in
    let gs = env.lent.second.now in
    let cs = env.constants.now in
    let further = length-append fs gs in
    let lent = length-append is (fs ++ gs) in
    let many = length-append vs (is ++ (fs ++ gs)) in
    let valued = c.requires in
    let slots = c.inbox_slots-inbox_slots.ensures in
    (sym (environment_beyond ws vs is fs gs cs c.args.slot (c.args.slot - length vs - c.inbox_slots-inbox_slots.result - length fs) c.index-self-further.result (omega arith) (omega arith) (omega arith)))

pub returns : goal.returns
returns c =
    let env = c.args.self.now in
    let ws = all_names env in
    let vs = c.args.values.now in
    let is = inbox_values (option_map (λ is. inboxes_of is.now) env.lent.inboxes) in
    let fs = env.lent.first.now in
    let gs = env.lent.second.now in
    let cs = env.constants.now in
    let further = length-append fs gs in
    let lent = length-append is (fs ++ gs) in
    let many = length-append vs (is ++ (fs ++ gs)) in
    let valued = c.requires in
    let slots = c.inbox_slots-inbox_slots.ensures in
    c.constant_at.ensures ∙ (sym (environment_constant ws (vs ++ (is ++ (fs ++ gs))) cs c.args.slot (c.args.slot - length vs - c.inbox_slots-inbox_slots.result - length fs - length gs) (omega arith)))
