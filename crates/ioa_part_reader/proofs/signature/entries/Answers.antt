use Rattle.std.proofs.Common.{sym, ◌∙◌}
use Rattle.std.proofs.lemmas.List.{map_push}
use Rattle.std.proofs.lemmas.Result.{err_from_is_err_and}
use Rattle.ioa_tokens.specs.declared.mark.Mark.TheVariants as mark
use Rattle.ioa_cursor.specs.Reading.{at_word, resumes_with}
use Rattle.ioa_cursor.proofs.Exits.{none_of_part}
use Rattle.ioa_cursor.proofs.Lists.{collected_more, collected_done, collected_none, collected_all}
use Rattle.ioa_part_reader.specs.Reading.{entry}
use Rattle.ioa_part_reader.proofs.signature.entries.Goals as goal

pub returns-then-not-resumes_with_word : goal.returns-then-not-resumes_with_word
returns-then-not-resumes_with_word c =
    sym c.loop-turn.invariant ∙ collected_done (resumes_with mark.Comma at_word) (entry c.args.kind) _ _ _ _ _ c.loop-turn-test.true (sym c.if-not-resumes_with_word.ensures)

pub returns-in_err-entry-2 : goal.returns-in_err-entry-2
returns-in_err-entry-2 c =
    let p = err_from_is_err_and c.from_residual-in_err-entry-2.result c.from_residual-in_err-entry-2.ensures.1 in
    rw (p.1, p.2)
    (none_of_part
    (λ n. sym c.loop-turn.invariant ∙ collected_none (resumes_with mark.Comma at_word) (entry c.args.kind) _ _ _ _ _ c.loop-turn-test.true (sym c.if-not-resumes_with_word.ensures) n)
    c.in_err-entry-2.ensures)

pub loop-turn-preserved : goal.loop-turn-preserved
loop-turn-preserved c =
    rw (c.in_ok-push-2.ensures.items, map_push)
    (sym (collected_more (resumes_with mark.Comma at_word) (entry c.args.kind) _ _ _ _ _ _ _ c.loop-turn-test.true (sym c.if-not-resumes_with_word.ensures) c.in_ok-entry-2.ensures)
    ∙ c.loop-turn.invariant)

pub returns : goal.returns
returns c = sym c.loop-turn.invariant ∙ collected_all (resumes_with mark.Comma at_word) (entry c.args.kind) _ _ _ _ c.loop-turn-test.false
