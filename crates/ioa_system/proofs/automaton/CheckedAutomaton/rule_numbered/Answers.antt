use Rattle.std.proofs.Common.{◌≡◌, ℕ, List, subst, ◌∙◌}
use Rattle.std.specs.Option.{option_copied}
use Rattle.ioa_system.specs.Numbered.{IsNumberOf}
use Rattle.ioa_system.specs.Parts.{AutomatonParts, rule_named}
use Rattle.ioa_system.proofs.Numbers.{number_named}
use Rattle.ioa_system.proofs.automaton.CheckedAutomaton.rule_numbered.Goals as goal

pub returns-clause-named : goal.returns-clause-named
returns-clause-named c =
    subst (λ (a : AutomatonParts). (w : List ℕ) → IsNumberOf a.rules w c.args.number → option_copied c.get.result ≡ rule_named w a.rules) c.self.view_is
    (λ w h. c.get.ensures.rule ∙ number_named w c.self.inside.rules c.args.number c.get.ensures.differ h)
