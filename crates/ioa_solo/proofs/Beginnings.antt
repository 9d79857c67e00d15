-- Runs only add to their schedules, and endings stay, so a run that is cut short is a beginning of the whole.
use Rattle.std.proofs.Common.{◌≡◌, ◌⊎◌, inl, inr, ◌∙◌, ◌+◌, ◌-◌, ◌++◌, ℕ, zero, suc, Bool, true, false, List, [], ◌∷◌, Option, Some, None, Result, Ok, Err, refl, sym, ap, subst, append_assoc, arith, drop, take}
use Rattle.std.specs.Prelude.{is_some, nat_eq, slice_get}
use Rattle.std.specs.Option.{option_map, unwrap_or}
use Rattle.std.proofs.lemmas.List.{append-nil, take-append-drop}
use Rattle.std.proofs.lemmas.Option.{none-some, same_Some, slice_get-map, slice_get_past}
use Rattle.ioa_record.specs.declared.ending.Ending.{Ending}
use Rattle.ioa_record.specs.declared.ending.Ending.TheVariants.{Fault}
use Rattle.ioa_record.specs.declared.ending.NodeFault.{NodeFault}
use Rattle.ioa_record.specs.declared.ending.NodeFault.TheVariants.{Memory}
use Rattle.ioa_schedules.specs.Turns.{TurnEnd, done, fires, idle}
use Rattle.ioa_transitions.specs.Entries.{PlainEntry}
use Rattle.ioa_turns.specs.Fired.{action_fired}
use Rattle.ioa_turns.specs.NodeTurns.{PlainProgress, turn_at}
use Rattle.ioa_solo.specs.Attempts.{PlainFireOutcome, fire_answer, missed, taken}
use Rattle.ioa_solo.specs.Solo.{Begins, IsBeginningOf, IsCutShort, IsRoundCut, PlainCourse, after_end, after_fire, after_turn, ending_then, first_visits, round, rounds, visit, visit_unless_ended}
use Rattle.ioa_solo.proofs.Rounds.{one_more, round_append, rounds_further}

-- each schedule begins itself, and what begins a beginning begins the whole
begins_itself : (t : PlainCourse) → Begins t.schedule t
begins_itself t = record { rest = []; whole = sym (append-nil t.schedule) }

begins_further : (xs : List PlainEntry) (s t : PlainCourse) → Begins xs s → Begins s.schedule t → Begins xs t
begins_further xs s t h k = record {
  rest = h.rest ++ k.rest;
  whole = k.whole ∙ ap (λ (l : List PlainEntry). l ++ k.rest) h.whole ∙ append_assoc xs h.rest k.rest;
}

-- what a run adds
fire_adds : (r : Result PlainFireOutcome NodeFault) (s : PlainCourse) (p : PlainProgress) → Begins s.schedule (after_fire r s p).0
fire_adds (Ok missed) s p = begins_itself s
fire_adds (Ok (taken e next)) s p = record { rest = e ∷ []; whole = refl }
fire_adds (Err f) s p = begins_itself s

end_adds : (limit : ℕ) (s : PlainCourse) (p : PlainProgress) (e : TurnEnd) → Begins s.schedule (after_end limit s p e).0
end_adds limit s p done = begins_itself s
end_adds limit s p idle = begins_itself s
end_adds limit s p (fires k w vs) = fire_adds (fire_answer limit s.schedule s.states p.program.node (action_fired p.program w vs)) s p

turn_adds : (limit : ℕ) (s : PlainCourse) (p : PlainProgress) (r : Result (TurnEnd × PlainProgress) NodeFault) → Begins s.schedule (after_turn limit s p r).0
turn_adds limit s p (Ok t) = end_adds limit s t.1 t.0
turn_adds limit s p (Err f) = begins_itself s

visit_adds : (limit : ℕ) (s : PlainCourse) (p : PlainProgress) → Begins s.schedule (visit_unless_ended limit s p).0
visit_adds limit s p = by_ending (is_some p.ending) refl
  where
    by_attempts : (b : Bool) → nat_eq p.attempts 0 ≡ b → Begins s.schedule (visit limit s p).0
    by_attempts true e = rw e (begins_itself s)
    by_attempts false e =
        let used = record p { attempts = p.attempts - 1 } in
        rw e (turn_adds limit s used (turn_at s.states used))

    by_ending : (b : Bool) → is_some p.ending ≡ b → Begins s.schedule (visit_unless_ended limit s p).0
    by_ending true e = rw e (begins_itself s)
    by_ending false e = rw e (by_attempts (nat_eq p.attempts 0) refl)

round_adds : (limit : ℕ) (s : PlainCourse) (ps : List PlainProgress) → Begins s.schedule (round limit s ps).0
round_adds limit s [] = begins_itself s
round_adds limit s (p ∷ more) =
    let first = (visit_unless_ended limit s p).0 in
    begins_further s.schedule first (round limit first more).0 (visit_adds limit s p) (round_adds limit first more)

rounds_add : (limit n : ℕ) (s : PlainCourse) (ps : List PlainProgress) → Begins s.schedule (rounds limit n s ps).0
unfolding rounds
rounds_add limit zero s ps = begins_itself s
rounds_add limit (suc n) s ps =
    let first = round limit s ps in
    begins_further s.schedule first.0 (rounds limit n first.0 first.1).0 (round_adds limit s ps) (rounds_add limit n first.0 first.1)

-- a node that has an ending still has it
KeepsEnding : PlainProgress → PlainProgress → Type 0
KeepsEnding p q = (e : Ending) → p.ending ≡ Some e → q.ending ≡ Some e

-- the same of each of several
KeepEndings : List PlainProgress → List PlainProgress → Type 0
KeepEndings [] [] = Unit {0}
KeepEndings [] (q ∷ qs) = ⊥
KeepEndings (p ∷ ps) [] = ⊥
KeepEndings (p ∷ ps) (q ∷ qs) = KeepsEnding p q × KeepEndings ps qs

keeps_its : (p : PlainProgress) → KeepsEnding p p
unfolding KeepsEnding
keeps_its p = λ e h. h

keep_theirs : (ps : List PlainProgress) → KeepEndings ps ps
unfolding KeepEndings
keep_theirs [] = tt
keep_theirs (p ∷ ps) = (keeps_its p, keep_theirs ps)

keep_further : (ps qs rs : List PlainProgress) → KeepEndings ps qs → KeepEndings qs rs → KeepEndings ps rs
unfolding KeepsEnding KeepEndings
keep_further [] [] [] h k = tt
keep_further [] [] (r ∷ rs) h k = absurd k
keep_further [] (q ∷ qs) rs h k = absurd h
keep_further (p ∷ ps) [] rs h k = absurd h
keep_further (p ∷ ps) (q ∷ qs) [] h k = absurd k
keep_further (p ∷ ps) (q ∷ qs) (r ∷ rs) h k = (λ e x. k.0 e (h.0 e x), keep_further ps qs rs h.1 k.1)

keep_both : (ps qs rs ts : List PlainProgress) → KeepEndings ps qs → KeepEndings rs ts → KeepEndings (ps ++ rs) (qs ++ ts)
unfolding KeepEndings
keep_both [] [] rs ts h k = k
keep_both [] (q ∷ qs) rs ts h k = absurd h
keep_both (p ∷ ps) [] rs ts h k = absurd h
keep_both (p ∷ ps) (q ∷ qs) rs ts h k = (h.0, keep_both ps qs rs ts h.1 k)

visit_keeps : (limit : ℕ) (s : PlainCourse) (p : PlainProgress) → KeepsEnding p (visit_unless_ended limit s p).1
unfolding KeepsEnding
visit_keeps limit s p = λ e h. rw h refl

round_keeps : (limit : ℕ) (s : PlainCourse) (ps : List PlainProgress) → KeepEndings ps (round limit s ps).1
unfolding KeepEndings
round_keeps limit s [] = tt
round_keeps limit s (p ∷ more) = (visit_keeps limit s p, round_keeps limit (visit_unless_ended limit s p).0 more)

rounds_keep : (limit n : ℕ) (s : PlainCourse) (ps : List PlainProgress) → KeepEndings ps (rounds limit n s ps).1
unfolding rounds
rounds_keep limit zero s ps = keep_theirs ps
rounds_keep limit (suc n) s ps =
    let first = round limit s ps in
    keep_further ps first.1 (rounds limit n first.0 first.1).1 (round_keeps limit s ps) (rounds_keep limit n first.0 first.1)

-- at each place
kept_there : (ps qs : List PlainProgress) (i : ℕ) (p q : PlainProgress) → KeepEndings ps qs → slice_get ps i ≡ Some p → slice_get qs i ≡ Some q → KeepsEnding p q
unfolding KeepEndings
kept_there [] qs i p q h a b = absurd (none-some p (sym (slice_get_past {X = PlainProgress} [] i (omega arith)) ∙ a))
kept_there (x ∷ ps) [] i p q h a b = absurd h
kept_there (x ∷ ps) (y ∷ qs) zero p q h a b =
    let here : x ≡ p = same_Some x p a in
    let then_here : y ≡ q = same_Some y q b in
    subst (λ (z : PlainProgress). KeepsEnding z q) here (subst (λ (z : PlainProgress). KeepsEnding x z) then_here h.0)
kept_there (x ∷ ps) (y ∷ qs) (suc i) p q h a b = kept_there ps qs i p q h.1 a b

-- a run that is cut short is a beginning of the whole
module _ (limit n : ℕ) (s : PlainCourse) (ps : List PlainProgress) (left : PlainCourse) (endings : List Ending) (h : IsCutShort limit n s ps left endings) where
  -- the run before the round, and at the visit
  abbrev before : PlainCourse × List PlainProgress
  before = rounds limit h.whole s ps

  abbrev cut_at : PlainCourse × List PlainProgress
  cut_at = first_visits limit h.cut.visits before.0 before.1

  abbrev others : List PlainProgress
  others = drop h.cut.visits before.1

  -- the rest of the round
  abbrev rest : PlainCourse × List PlainProgress
  rest = round limit cut_at.0 others

  round_behind : round limit before.0 before.1 ≡ (rest.0, (round limit before.0 (take h.cut.visits before.1)).1 ++ rest.1)
  round_behind =
      ap (λ (l : List PlainProgress). round limit before.0 l) (sym (take-append-drop h.cut.visits before.1))
      ∙ round_append limit before.0 (take h.cut.visits before.1) others

  -- and the other rounds
  abbrev more : ℕ
  more = n - (h.whole + 1)

  whole_run : rounds limit n s ps ≡ rounds limit more (round limit before.0 before.1).0 (round limit before.0 before.1).1
  whole_run =
      let all_rounds : n ≡ (h.whole + 1) + more = omega (arith, h.within) in
      ap (λ (k : ℕ). rounds limit k s ps) all_rounds
      ∙ rounds_further limit (h.whole + 1) more s ps
      ∙ ap (λ (t : PlainCourse × List PlainProgress). rounds limit more t.0 t.1) (one_more limit h.whole s ps)

  -- to the end of the round
  begins_round : Begins left.schedule (round limit before.0 before.1).0
  begins_round =
      subst (λ (t : PlainCourse × List PlainProgress). Begins left.schedule t.0) (sym round_behind)
      (subst (λ (c : PlainCourse). Begins c.schedule rest.0) (sym h.cut.cut.course) (round_adds limit cut_at.0 others))

  begins_whole : Begins left.schedule (rounds limit n s ps).0
  begins_whole =
      let after = round limit before.0 before.1 in
      subst (λ (t : PlainCourse × List PlainProgress). Begins left.schedule t.0) (sym whole_run)
      (begins_further left.schedule after.0 (rounds limit more after.0 after.1).0 begins_round (rounds_add limit more after.0 after.1))

  keep_round : KeepEndings cut_at.1 (round limit before.0 before.1).1
  keep_round =
      let done = (round limit before.0 (take h.cut.visits before.1)).1 in
      subst (λ (t : PlainCourse × List PlainProgress). KeepEndings cut_at.1 t.1) (sym round_behind)
      (keep_both done done others rest.1 (keep_theirs done) (round_keeps limit cut_at.0 others))

  keep_whole : KeepEndings cut_at.1 (rounds limit n s ps).1
  keep_whole =
      let after = round limit before.0 before.1 in
      subst (λ (t : PlainCourse × List PlainProgress). KeepEndings cut_at.1 t.1) (sym whole_run)
      (keep_further cut_at.1 after.1 (rounds limit more after.0 after.1).1 keep_round (rounds_keep limit more after.0 after.1))

  -- the ending at a place
  told_at : (i : ℕ) → slice_get endings i ≡ option_map ending_then (slice_get cut_at.1 i)
  told_at i = ap (λ (es : List Ending). slice_get es i) h.cut.cut.each ∙ slice_get-map ending_then cut_at.1 i

  short : slice_get endings h.cut.visits ≡ Some (Fault Memory)
  short =
      told_at h.cut.visits
      ∙ ap (λ (o : Option PlainProgress). option_map ending_then o) h.cut.cut.visited
      ∙ ap (λ (o : Option Ending). Some (unwrap_or o (Fault Memory))) h.cut.cut.under_way

  each : (i : ℕ) (e : Ending) (p : PlainProgress) → slice_get endings i ≡ Some e → slice_get (rounds limit n s ps).1 i ≡ Some p → (e ≡ Fault Memory) ⊎ (p.ending ≡ Some e)
  unfolding KeepsEnding
  each i e p told there = by_node (slice_get cut_at.1 i) refl
    where
      by_ending : (q : PlainProgress) (o : Option Ending) → slice_get cut_at.1 i ≡ Some q → q.ending ≡ o → e ≡ unwrap_or o (Fault Memory) → (e ≡ Fault Memory) ⊎ (p.ending ≡ Some e)
      by_ending q None at is same = inl same
      by_ending q (Some x) at is same = inr (kept_there cut_at.1 (rounds limit n s ps).1 i q p keep_whole at there x is ∙ ap (λ (y : Ending). Some y) (sym same))

      by_node : (o : Option PlainProgress) → slice_get cut_at.1 i ≡ o → (e ≡ Fault Memory) ⊎ (p.ending ≡ Some e)
      by_node None at =
          let none : None ≡ Some e = sym (told_at i ∙ ap (λ (o : Option PlainProgress). option_map ending_then o) at) ∙ told in
          absurd (none-some e none)
      by_node (Some q) at =
          let same : Some (ending_then q) ≡ Some e = sym (told_at i ∙ ap (λ (o : Option PlainProgress). option_map ending_then o) at) ∙ told in
          by_ending q q.ending at refl (sym (same_Some (ending_then q) e same))

  pub cut_begins : IsBeginningOf (rounds limit n s ps) left endings
  cut_begins = record { begins = begins_whole; at = h.cut.visits; short = short; each = each }

-- rounds of no nodes leave all as it was
pub rounds_of_none : (limit n : ℕ) (s : PlainCourse) → rounds limit n s [] ≡ (s, [])
unfolding rounds
rounds_of_none limit zero s = refl
rounds_of_none limit (suc n) s = rounds_of_none limit n s

-- so none of them is cut short
no_visit : (limit m : ℕ) (s : PlainCourse) (p : PlainProgress) → slice_get (first_visits limit m s []).1 m ≡ Some p → ⊥
no_visit limit zero s p h = absurd (cc)
no_visit limit (suc m) s p h = absurd (cc)

pub none_cut : (limit n : ℕ) (s : PlainCourse) (left : PlainCourse) (endings : List Ending) → IsCutShort limit n s [] left endings → ⊥
none_cut limit n s left endings h =
    let cut : IsRoundCut limit s [] left endings = subst (λ (t : PlainCourse × List PlainProgress). IsRoundCut limit t.0 t.1 left endings) (rounds_of_none limit h.whole s) h.cut in
    no_visit limit cut.visits s cut.cut.node cut.cut.visited
