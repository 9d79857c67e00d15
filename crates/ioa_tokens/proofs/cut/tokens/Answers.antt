use Rattle.std.proofs.Common.{◌≡◌, List, ◌-◌, length, take, drop, arith, ap, ◌∙◌, is_ok}
use Rattle.std.proofs.lemmas.List.{take_all, length-drop}
use Rattle.std.proofs.ResultArms.{chosen}
use Rattle.ioa_tokens.specs.declared.token.LocatedToken.{LocatedToken}
use Rattle.ioa_tokens.specs.Lexeme.{lexeme_at}
use Rattle.ioa_tokens.specs.Tokens.{tokens}
use Rattle.ioa_tokens.proofs.Cuts.{lexeme_within, after_gap, after_token}
use Rattle.ioa_tokens.proofs.cut.tokens.Goals as goal
use Rattle.ioa_tokens.proofs.cut.tokens.Goals.{in-Gap, in-Token+in_ok-push-in-Token}

-- nothing is found yet, and all is left
pub loop-offset-init : goal.loop-offset-init
unfolding tokens
loop-offset-init c = grind arith

-- a piece is gone by, and its token is found if it is one
pub loop-offset-preserved : goal.loop-offset-preserved
loop-offset-preserved c =
    let bytes = c.as_bytes-bytes.result.now in
    let offset = c.loop-offset.offset in
    let found = c.loop-offset.found.items in
    let whole : take (length bytes - offset) (drop offset bytes) ≡ drop offset bytes = take_all (length bytes - offset) (drop offset bytes) (omega (arith, length-drop offset bytes)) in
    let is : c.lexeme_at-lexeme.result ≡ lexeme_at (drop offset bytes) = c.lexeme_at-lexeme.ensures ∙ ap lexeme_at whole in
    let within = lexeme_within found offset bytes (tokens bytes) c.loop-offset-test.true c.loop-offset.invariant.1 c.lexeme_at-lexeme.result is in (
      within.1,
      elim c.match-lexeme.branch [
        | in-Gap w ↦ rw w.found-is (after_gap found offset bytes (tokens bytes) c.loop-offset-test.true c.loop-offset.invariant.1 c.lexeme_at-lexeme.result is w.in-Gap.is)
        | in-Token+in_ok-push-in-Token w ↦
            let pushed = chosen {X = List LocatedToken} _ _ _ _ w.push.ensures.items (ap is_ok w.in_ok-push-in-Token.was) in
            rw (w.found-is, pushed) (after_token found offset bytes (tokens bytes) c.loop-offset-test.true c.loop-offset.invariant.1 c.lexeme_at-lexeme.result is w.in-Token.token w.in-Token.is)
      ],
    )
