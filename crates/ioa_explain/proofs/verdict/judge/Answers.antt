use Rattle.std.proofs.Common.{◌≡◌, ◌∙◌, Some, sym}
use Rattle.ioa_explain.specs.Verdicts.{unread_verdict}
use Rattle.ioa_explain.proofs.Verdicts.{unread_on, unread_tokens, unread_whether, verdict_on, whether_by}
use Rattle.ioa_explain.proofs.verdict.judge.Goals as goal

-- the source that the text spells is its only one
pub returns-in_ok-judged-in-Ok : goal.returns-in_ok-judged-in-Ok
returns-in_ok-judged-in-Ok c = record {
  said = verdict_on _ _ _ c.in_ok-judged-in-Ok.ensures.said c.in-Ok.ensures.found c.in-Ok.ensures.long;
  whether = whether_by _ _ _ c.in_ok-judged-in-Ok.ensures.said c.in-Ok.ensures.only;
  cut = c.in_ok-judged-in-Ok.ensures.cut;
}

-- the text is refused as the reader refuses it
pub returns-in-Some : goal.returns-in-Some
returns-in-Some c =
    let told : unread_verdict c.in-Err.fault ≡ Some c.in-Some.verdict = sym c.unread.ensures ∙ c.in-Some.is in
    record {
      said = unread_on _ _ _ told c.in-Err.ensures.refused c.in-Err.ensures.exact;
      whether = unread_whether _ _ _ told c.in-Err.ensures.only;
      cut = unread_tokens _ _ _ _ told;
    }
