use Rattle.ioa_explain.proofs.Explained.{finding_said}
use Rattle.ioa_explain.proofs.explaining.explanation_of.Goals as goal

-- what is told is told of the verdict
pub returns : goal.returns
returns c =
    let judged = c.in_ok-judged in
    record {
      found = finding_said _ _ _ c.finding_of-finding.ensures judged.ensures.said judged.ensures.whether;
      told = record {
        verdict = judged.judged.verdict;
        said = judged.ensures.said;
        whether = judged.ensures.whether;
        told = c.in_ok-page.ensures;
      };
    }
