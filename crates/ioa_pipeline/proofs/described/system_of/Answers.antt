use Rattle.std.proofs.Common.{◌≡◌, ◌≤◌, ◌∙◌, ap, length}
use Rattle.ioa_source.specs.Sides.{SourceText}
use Rattle.ioa_source.specs.TextView.{text_of}
use Rattle.ioa_text_reader.specs.Texts.{TextSpells, length_limit}
use Rattle.ioa_pipeline.proofs.Judged.{accepted_exact, refused_outcome, unread_outcome}
use Rattle.ioa_pipeline.proofs.described.system_of.Goals as goal

pub returns-in_err-source-clause-exact : goal.returns-in_err-source-clause-exact
returns-in_err-source-clause-exact c =
    unread_outcome c.args.text.now c.in_err-source.field-0.0 c.from_residual.result c.from_residual.ensures
    c.in_err-source.ensures.exact c.in_err-source.ensures.long c.in_err-source.ensures.only

pub returns-in_err-system-clause-exact : goal.returns-in_err-system-clause-exact
returns-in_err-system-clause-exact c =
    let only : (p : SourceText) → length c.args.text.now ≤ length_limit → TextSpells p c.args.text.now
    → text_of c.text.result.now ≡ p =
    λ p short spelled. ap text_of c.text.ensures.same ∙ c.in_ok-source.ensures.only p short spelled in
    refused_outcome c.args.text.now (text_of c.text.result.now) c.in_err-system.field-0.0
    c.from_residual-in_err-system.result c.from_residual-in_err-system.ensures c.in_ok-source.ensures.exact only
    c.in_err-system.ensures.exact

pub returns-in-Ok-clause-exact : goal.returns-in-Ok-clause-exact
returns-in-Ok-clause-exact c =
    let only : (p : SourceText) → length c.args.text.now ≤ length_limit → TextSpells p c.args.text.now
    → text_of c.text.result.now ≡ p =
    λ p short spelled. ap text_of c.text.ensures.same ∙ c.in_ok-source.ensures.only p short spelled in
    accepted_exact c.args.text.now (text_of c.text.result.now) c.in_ok-system.system c.in-Ok.system
    c.in_ok-source.ensures.exact only c.in_ok-system.ensures.exact
