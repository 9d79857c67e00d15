use Rattle.std.proofs.Common.{◌≡◌, List, ◌-◌, length, take, drop, arith, ap, ◌∙◌, is_ok}
use Rattle.std.proofs.lemmas.List.{take_all, length-drop}
use Rattle.std.proofs.ResultArms.{chosen}
use Rattle.ioa_tokens.specs.declared.token.LocatedToken.{LocatedToken}
use Rattle.ioa_tokens.specs.LineTokens.{line_lexeme_at, line_tokens}
use Rattle.ioa_tokens.proofs.LineCuts.{piece_within, after_line_gap, after_line_token}
use Rattle.ioa_tokens.proofs.line.cut_line_into.Goals as goal
use Rattle.ioa_tokens.proofs.line.cut_line_into.Goals.{in-Gap, in-Token+in_ok-push-in-Token}

-- nothing is found yet, and all is left
pub loop-offset-init : goal.loop-offset-init
unfolding line_tokens
loop-offset-init c = rw c.clear.ensures.items (grind arith)

-- a piece is gone by, and its token is found if it is one
pub loop-offset-preserved : goal.loop-offset-preserved
loop-offset-preserved c =
    let bytes = c.as_bytes-bytes.result.now in
    let offset = c.loop-offset.offset in
    let minus = c.loop-offset.behind_minus in
    let found = c.loop-offset.tokens.items in
    let whole : take (length bytes - offset) (drop offset bytes) ≡ drop offset bytes = take_all (length bytes - offset) (drop offset bytes) (omega (arith, length-drop offset bytes)) in
    let is : c.line_lexeme_at-lexeme.result ≡ line_lexeme_at minus (drop offset bytes) = c.line_lexeme_at-lexeme.ensures ∙ ap (line_lexeme_at minus) whole in
    let within = piece_within found minus offset bytes (line_tokens bytes) c.loop-offset-test.true c.loop-offset.invariant.1 c.line_lexeme_at-lexeme.result is in (
      within.1,
      elim c.match-lexeme.branch [
        | in-Gap w ↦ rw (w.tokens-is, w.behind_minus-is) (after_line_gap found minus offset bytes (line_tokens bytes) c.loop-offset-test.true c.loop-offset.invariant.1 c.line_lexeme_at-lexeme.result is w.in-Gap.is)
        | in-Token+in_ok-push-in-Token w ↦
            let pushed = chosen {X = List LocatedToken} _ _ _ _ w.push.ensures.items (ap is_ok w.in_ok-push-in-Token.was) in
            rw (w.tokens-is, w.behind_minus-is, pushed, w.is_minus-behind_minus.ensures) (after_line_token found minus offset bytes (line_tokens bytes) c.loop-offset-test.true c.loop-offset.invariant.1 c.line_lexeme_at-lexeme.result is w.in-Token.token w.in-Token.is)
      ],
    )
