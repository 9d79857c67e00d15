use Rattle.std.proofs.Common.{◌≡◌, ℕ, Option, Some, rules, sym, ap, subst, ◌∙◌}
use Rattle.std.specs.Option.{option_map}
use Rattle.ioa_actions.specs.ActionParts.{action_arguments}
use Rattle.ioa_turns.specs.LastFired.{IsFiredBy, last_of}
use Rattle.ioa_turns.specs.declared.progress.LastFired.{LastFired}
use Rattle.ioa_turns.proofs.LastFired.{all_same_are, fired_again}
use Rattle.ioa_turns.proofs.progress.Progress.last_fired.Goals as goal

pub returns-then-has_arguments : goal.returns-then-has_arguments
returns-then-has_arguments c =
    let p = c.args.self.now.program.now in
    let a = c.in-Some.last.entry.action in
    let same : c.in-Some.last.rule ≡ c.args.firing.now.rule = search rules in
    let kept = subst (λ (o : Option LastFired). IsFiredBy p (option_map last_of o)) c.in-Some.is c.args.self.now.fired in
    let given : action_arguments c.action.result.now ≡ c.args.arguments.now = all_same_are _ _ (sym c.has_arguments.ensures ∙ c.if-has_arguments.true) in
    fired_again p c.args.firing.now.rule a c.args.firing.now.action c.args.arguments.now
    (subst (λ (n : ℕ). IsFiredBy p (Some (n, a))) same kept) c.requires (ap action_arguments (sym c.action.ensures) ∙ given)
