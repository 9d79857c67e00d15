use Rattle.std.proofs.Common.{◌≡◌, ◌∷◌, [], ◌∙◌, sym, ap, refl, rules, map, length}
use Rattle.ioa_compose.specs.Start.{start}
use Rattle.ioa_record.proofs.Runs.{is_run_of}
use Rattle.ioa_sharing.specs.Named.{shared_of_value}
use Rattle.ioa_solo.specs.Solo.{ending_of, course_of}
use Rattle.ioa_solo.specs.Told.{IsUpTo}
use Rattle.ioa_solo.proofs.Finishing.{can_finish, counts_all, first_upto}
use Rattle.ioa_solo.proofs.Runs.{as_many_endings}
use Rattle.ioa_solo.proofs.Termination.{all_written, solo_from}
use Rattle.ioa_solo.specs.Visits.{progress_in}
use Rattle.ioa_solo.proofs.running.run_on.Goals as goal

pub finish-requires : goal.finish-requires
finish-requires g c =
    let up : IsUpTo c.in_ok-solo.solo c.in_ok-hand.hand.pass = rw (c.in_ok-solo.ensures.book, c.in_ok-hand.ensures.pass, c.get.ensures) (first_upto (start (shared_of_value c.args.system.now)) c.steps-steps.result) in
    can_finish (shared_of_value c.args.system.now) _ _ _ _ _ _ c.in_ok-solo.ensures.book c.in_ok-hand.ensures.receipts (c.go_on.ensures.goes (record { told = refl; not_ahead = up })) _ _ c.requires.one

pub returns-clause-left : goal.returns-clause-left
returns-clause-left g c =
    let now : c.deref.result.now ≡ c.go_on.new.nodes = c.deref.ensures.value ∙ all_written c.in_ok-nodes.nodes.len c.go_on.new.nodes c.in_ok-nodes.nodes.items (search rules) (search rules) in
    record {
      replayed = rw (← c.steps-steps.ensures.value) c.in_ok-record.ensures.replayed;
      ended = as_many_endings progress_in (shared_of_value c.args.system.now) c.args.options.now.attempts _ c.deref.result.now c.go_on.new.nodes c.in_ok-nodes.nodes.items c.in_ok-endings.ensures now (search rules) (search rules);
    }

pub returns-clause-alone : goal.returns-clause-alone
returns-clause-alone g c =
    let up : IsUpTo c.in_ok-solo.solo c.in_ok-hand.hand.pass = rw (c.in_ok-solo.ensures.book, c.in_ok-hand.ensures.pass, c.get.ensures) (first_upto (start (shared_of_value c.args.system.now)) c.steps-steps.result) in
    let left = c.in_ok-record.ensures.left in
    left.commits
    ∙ ap (λ n. n ∷ []) (counts_all (shared_of_value c.args.system.now) _ _ _ _ c.go_on.new.hand.receipts _ c.in_ok-solo.ensures.book c.in_ok-hand.ensures.receipts (c.go_on.ensures.goes (record { told = refl; not_ahead = up })) _ _ _ _ (c.in_ok-hand.ensures.share ∙ c.in_ok-solo.ensures.share) c.go_on.ensures.gained ∙ sym (ap length left.schedule))

pub returns-clause-run : goal.returns-clause-run
returns-clause-run g c = λ w. is_run_of (shared_of_value c.args.system.now) _ _ _ w (returns-clause-left g c)

pub returns-clause-solo : goal.returns-clause-solo
returns-clause-solo g c =
    let up : IsUpTo c.in_ok-solo.solo c.in_ok-hand.hand.pass = rw (c.in_ok-solo.ensures.book, c.in_ok-hand.ensures.pass, c.get.ensures) (first_upto (start (shared_of_value c.args.system.now)) c.steps-steps.result) in
    let left = c.in_ok-record.ensures.left in
    solo_from (shared_of_value c.args.system.now) c.args.options.now _ _ _ (course_of c.go_on.new.board) (map progress_in c.go_on.new.nodes) _ _
    (rw (c.in_ok-solo.ensures.book, c.steps-steps.ensures.value, c.attempts-attempts.ensures.value) at (c.go_on.ensures.solo (record { told = refl; not_ahead = up })))
    refl refl (search rules) left.schedule left.states
    (c.in_ok-endings.ensures ∙ ap (λ ps. map ending_of (map progress_in ps)) (c.deref.ensures.value ∙ all_written c.in_ok-nodes.nodes.len c.go_on.new.nodes c.in_ok-nodes.nodes.items (search rules) (search rules)))
