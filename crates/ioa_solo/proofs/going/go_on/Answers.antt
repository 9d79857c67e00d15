use Rattle.std.proofs.Common.{◌+◌, List, inl, inr, map, sym, ap, subst, ◌∙◌}
use Rattle.ioa_record.specs.declared.ending.Ending.{Ending}
use Rattle.ioa_turns.specs.NodeTurns.{PlainProgress}
use Rattle.ioa_solo.specs.Solo.{IsCutShort, course_of, ending_of}
use Rattle.ioa_solo.specs.Visits.{progress_in}
use Rattle.ioa_solo.proofs.Gains.{gained_to_none}
use Rattle.ioa_solo.proofs.Rounds.{told_then}
use Rattle.std.specs.List.{AllZip}
use Rattle.ioa_solo.specs.SomeVisits.{IsEnded}
use Rattle.ioa_solo.proofs.SomeVisits.{left_ended, over_ended}
use Rattle.ioa_solo.proofs.going.go_on.Goals as goal

pub returns-in-Ok-clause-gained : goal.returns-in-Ok-clause-gained
returns-in-Ok-clause-gained g c = gained_to_none _ _ _ _ _ _ c.go_rounds.ensures.gained

pub returns-clause-gained : goal.returns-clause-gained
returns-clause-gained g c = gained_to_none _ _ _ _ _ _ c.go_rounds.ensures.gained

pub returns-in-Ok-clause-solo : goal.returns-in-Ok-clause-solo
returns-in-Ok-clause-solo g c = λ t. inr (c.in-Ok.ensures.rounds t)

pub returns-clause-solo : goal.returns-clause-solo
returns-clause-solo g c = λ t.
    let b = g.B.Board.tells c.args.board.now in
    let told = sym (ap (λ (ps : List PlainProgress). map ending_of ps) c.end_all.ensures.ended ∙ told_then (map progress_in c.go_rounds.new.nodes)) in
    inl
    (subst (λ (es : List Ending). IsCutShort b.limit (c.args.attempts + 1) (course_of b) (map progress_in c.args.nodes.now) (course_of (g.B.Board.tells c.go_rounds.new.board)) es) told
    (c.in-Err.ensures.cut t))

pub returns-in-Ok-clause-ended : goal.returns-in-Ok-clause-ended
returns-in-Ok-clause-ended g c = λ few. over_ended g.B.Board.opened _ _ (c.in-Ok.ensures.over few)

pub returns-clause-ended : goal.returns-clause-ended
returns-clause-ended g c = λ few.
    subst (λ (ps : List PlainProgress). AllZip (IsEnded g.B.Board.opened) (map progress_in c.args.nodes.now) ps) (sym c.end_all.ensures.ended)
    (left_ended g.B.Board.opened (map progress_in c.args.nodes.now) (map progress_in c.go_rounds.new.nodes) c.in-Err.ensures.left)
