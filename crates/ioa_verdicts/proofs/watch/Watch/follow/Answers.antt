use Rattle.std.proofs.Common.{◌≡◌, ◌∷◌, ap, arith, length, map, sym, ◌∙◌}
use Rattle.ioa_verdicts.proofs.Placed.{places_on}
use Rattle.ioa_verdicts.proofs.Watched.{watched_closed, watched_end, watched_first, watched_off, watched_on}
use Rattle.ioa_verdicts.proofs.watch.Watch.follow.Goals as goal

pub loop-entry-init : goal.loop-entry-init
loop-entry-init c =
    let whole : c.into_iter-entry-iterator.result ≡ c.args.schedule.now = c.into_iter-entry-iterator.ensures.into_iter_gives ∙ c.walk-entry-items.ensures.rest in
    record {
      counted = rw whole (omega arith);
      placed = c.requires.placed;
      watched = rw whole (watched_first c.args.self.now.placed.invariants.now (map (λ is. is.items) c.args.self.now.noted.now) c.args.schedule.now c.args.course.now c.args.findings.now c.requires.noted c.requires.first);
    }

pub loop-entry-preserved : goal.loop-entry-preserved
loop-entry-preserved c =
    let split : c.loop-entry.entry-iterator ≡ c.in-Some.entry.now ∷ c.next.new.self = c.in-Some.ensures.steps in
    record {
      counted = omega (arith, ap length split, c.loop-entry.invariant.counted);
      placed = places_on (map (λ ps. ps.items) c.args.self.now.placed.places.now) c.args.self.now.placed.invariants.now c.in-Some.entry.now c.loop-entry.course c.goes_on.new.course
          c.loop-entry.findings c.goes_on.new.findings _ c.in_ok-goes_on.field-0 c.loop-entry.invariant.placed c.if-not-branch.false c.in_ok-goes_on.ensures;
      watched = watched_on c.args.self.now.placed.invariants.now (map (λ is. is.items) c.args.self.now.noted.now) c.args.schedule.now c.args.course.now c.loop-entry.passed c.in-Some.entry.now c.loop-entry.entry-iterator c.next.new.self
          c.loop-entry.course c.goes_on.new.course c.loop-entry.findings c.goes_on.new.findings c.in_ok-goes_on.field-0 c.loop-entry.invariant.watched split c.if-not-branch.false c.in_ok-goes_on.ensures;
    }

pub returns : goal.returns
returns c =
    watched_end c.args.self.now.placed.invariants.now (map (λ is. is.items) c.args.self.now.noted.now) c.args.schedule.now c.args.course.now c.loop-entry.passed c.loop-entry.entry-iterator c.loop-entry.course c.loop-entry.findings
    c.loop-entry.invariant.watched c.in-None.ensures.steps.0

pub returns-then-not-branch : goal.returns-then-not-branch
returns-then-not-branch c =
    let split : c.loop-entry.entry-iterator ≡ c.in-Some.entry.now ∷ c.next.new.self = c.in-Some.ensures.steps in
    watched_off c.args.self.now.placed.invariants.now (map (λ is. is.items) c.args.self.now.noted.now) c.args.schedule.now c.args.course.now c.loop-entry.passed c.in-Some.entry.now c.loop-entry.entry-iterator c.next.new.self
    c.loop-entry.course c.goes_on.new.course c.loop-entry.findings c.goes_on.new.findings _ c.in_ok-goes_on.field-0 c.loop-entry.invariant.watched split c.if-not-branch.true c.in_ok-goes_on.ensures

pub returns-then-not-any_open : goal.returns-then-not-any_open
returns-then-not-any_open c =
    watched_closed c.args.self.now.placed.invariants.now (map (λ is. is.items) c.args.self.now.noted.now) c.args.schedule.now c.args.course.now c.loop-entry.passed c.loop-entry.entry-iterator c.loop-entry.course c.loop-entry.findings
    c.loop-entry.invariant.watched (sym c.any_open.ensures ∙ c.if-not-any_open.true)
