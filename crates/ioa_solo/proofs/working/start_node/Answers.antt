use Rattle.std.proofs.Common.{◌≡◌, ◌++◌, ◌∷◌, [], ◌∙◌, Some, map, sym, ap, rules}
use Rattle.std.proofs.lemmas.List.{map-append}
use Rattle.ioa_commits.specs.Books.{states_held}
use Rattle.ioa_sharing.specs.Named.{shared_of_value}
use Rattle.ioa_turns.specs.NodeTurns.{progress_at}
use Rattle.ioa_solo.specs.Meets.{met_in}
use Rattle.ioa_solo.specs.Visits.{PlainVisited, number_in, progress_in, visited_of}
use Rattle.ioa_solo.specs.Works.{met_first, program_of}
use Rattle.ioa_solo.proofs.Gains.{left_push}
use Rattle.ioa_solo.proofs.OwnPrograms.{found_number}
use Rattle.ioa_solo.proofs.SomeVisits.{begun_by, begun_more}
use Rattle.ioa_solo.proofs.working.start_node.Goals as goal

pub returns-in_ok-push-in-Some-clause-few : goal.returns-in_ok-push-in-Some-clause-few
returns-in_ok-push-in-Some-clause-few g c = λ those.
    let programs = (shared_of_value c.args.system.now).programs in
    let found : program_of c.args.node programs ≡ Some c.in-Some.program.now = search rules in
    let own : number_in c.in_ok-first-in-Some.first ≡ c.args.node = c.in_ok-first-in-Some.ensures.program ∙ found_number c.args.node programs c.in-Some.program.now found in
    let put : c.push.new.self.items ≡ c.args.visited.now.items ++ c.in_ok-first-in-Some.first ∷ [] = c.in_ok-push-in-Some.ensures.items in
    rw put (left_push number_in (λ n. n.progress.attempts) c.args.visited.now.items c.in_ok-first-in-Some.first c.args.node c.args.attempts own c.in_ok-first-in-Some.ensures.all those)

pub returns-in_ok-push-in-Some-clause-met : goal.returns-in_ok-push-in-Some-clause-met
returns-in_ok-push-in-Some-clause-met g c = λ t.
    let programs = (shared_of_value c.args.system.now).programs in
    let states = states_held (g.B.Board.tells c.args.board.now) in
    let p = c.in-Some.program.now in
    let first = c.in_ok-first-in-Some.first in
    let found : program_of c.args.node programs ≡ Some p = search rules in
    let put : c.push.new.self.items ≡ c.args.visited.now.items ++ first ∷ [] = c.in_ok-push-in-Some.ensures.items in
    let same : visited_of first ≡ record { number = p.node; progress = met_in states (progress_at c.args.attempts p) } =
    λ j. record { number = c.in_ok-first-in-Some.ensures.number j; progress = c.in_ok-first-in-Some.ensures.met t j } in
    ap (λ vs. map visited_of vs) put
    ∙ map-append visited_of c.args.visited.now.items (first ∷ [])
    ∙ ap (λ (v : PlainVisited). map visited_of c.args.visited.now.items ++ v ∷ []) same
    ∙ ap (λ o. map visited_of c.args.visited.now.items ++ met_first c.args.attempts states o) (sym found)

pub returns-in_ok-push-in-Some-clause-begun : goal.returns-in_ok-push-in-Some-clause-begun
returns-in_ok-push-in-Some-clause-begun g c = λ begun.
    let programs = (shared_of_value c.args.system.now).programs in
    let first = c.in_ok-first-in-Some.first in
    let put : c.push.new.self.items ≡ c.args.visited.now.items ++ first ∷ [] = c.in_ok-push-in-Some.ensures.items in
    rw put
    (begun_more g.B.Board.opened c.args.attempts programs c.args.visited.now.items first begun
    (begun_by g.B.Board.opened c.args.attempts programs c.in-Some.program.now first.number (progress_in first) c.in_ok-first-in-Some.ensures.number c.in-Some.ensures.own c.in_ok-first-in-Some.ensures.begun))
