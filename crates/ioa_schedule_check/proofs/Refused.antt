-- The entry for which lines are refused.
use Rattle.std.proofs.Common.{◌≡◌, ℕ, zero, suc, ◌+◌, List, [], ◌∷◌, ◌++◌, Option, Some, None, Result, Ok, Err, ◌⊎◌, inl, inr}
use Rattle.std.proofs.Common.{refl, ap, sym, subst, ◌∙◌, arith, length}
use Rattle.std.specs.Prelude.{IfOk, drop, slice_get, take}
use Rattle.ioa_actions.specs.declared.fault.StepFault.{StepFault}
use Rattle.ioa_actions.specs.declared.fault.StepFault.TheVariants as step
use Rattle.ioa_transitions.specs.Entries.{PlainEntry}
use Rattle.ioa_system.specs.Systems.{SystemParts}
use Rattle.ioa_compose.specs.declared.configuration.Conf.{Conf}
use Rattle.ioa_compose.specs.Composition.{joint_answer}
use Rattle.ioa_compose.specs.Executions.{after_step, replay}
use Rattle.ioa_compose.specs.Start.{start}
use Rattle.ioa_lines.specs.Lines as lines
use Rattle.ioa_lines.specs.Lines.{Entries, Lines, LinesLeft, TellsEntries, entries_left, lines_answer, lines_of, next_answer, with_entry}
use Rattle.ioa_lines.specs.declared.fault.LineFault.{LineFault}
use Rattle.ioa_lines.specs.declared.fault.LineFault.TheVariants as line
use Rattle.ioa_lines.proofs.LinesLaw.{entries_sound}
use Rattle.ioa_schedule_check.specs.declared.fault.ScheduleFault.{ScheduleFault}
use Rattle.ioa_schedule_check.specs.declared.fault.ScheduleFault.TheVariants.{Undefined, Range, Memory, NotStep, BadLine}
use Rattle.ioa_schedule_check.specs.declared.given.GivenSchedule.{GivenSchedule}
use Rattle.std.specs.declared.alloc.AllocError.{AllocError}
use Rattle.ioa_schedule_check.specs.Schedules.{after_step_at, fault_at, fault_of_line, fault_or_line, schedule_answer}
use Rattle.ioa_schedule_check.specs.Schedules.{steps_answer, steps_of_lines}
use Rattle.ioa_schedule_check.specs.Taken.{IsRefusedIf, RefusesNext, StopsBehind, answer_by, taken_of}
use Rattle.ioa_schedule_check.specs.Taken.{refused_among, refused_by, refused_for, refused_left, refused_of, refused_of_lines}
use Rattle.ioa_schedule_check.proofs.Meant.{Stops, steps_stop}
use Rattle.ioa_schedule_check.proofs.Steps.{counted}
use Rattle.ioa_schedule_check.proofs.Taken.{taken_before}

-- an entry that is a step leaves the refused one to those behind it
behind_step : (k : ℕ) (x : PlainEntry) (cs next : List Conf) (r : Entries) → joint_answer x cs ≡ Ok next
    → refused_of_lines k cs (with_entry x r) ≡ refused_of_lines (k + 1) next r
behind_step k x cs next (Ok entries) h = rw h refl
behind_step k x cs next (Err f) h = refl

pub refuses_later : (s : SystemParts) (old left : LinesLeft) (x : PlainEntry) (cs next : List Conf)
    (refused : Option PlainEntry) → entries_left s old ≡ with_entry x (entries_left s left)
    → next_answer s old ≡ Ok (Some x, left) → joint_answer x cs ≡ Ok next
    → RefusesNext s old cs (Ok (Some x)) left next refused
unfolding refused_left
refuses_later s old left x cs next refused read is step =
    ap (λ (r : Entries). refused_of_lines old.count cs r) read
    ∙ behind_step old.count x cs next (entries_left s left) step
    ∙ sym (ap (λ k. refused_of_lines k next (entries_left s left)) (counted s old left x is))

-- behind the last line there is none
pub refuses_none : (s : SystemParts) (old left : LinesLeft) (cs next : List Conf) (refused : Option PlainEntry)
    → entries_left s old ≡ Ok [] → RefusesNext s old cs (Ok None) left next refused
unfolding refused_left
refuses_none s old left cs next refused read = ap (λ (r : Entries). refused_of_lines old.count cs r) read

-- lines of which one spells no entry are refused for none
pub refuses_bad : (s : SystemParts) (old left : LinesLeft) (cs next : List Conf) (e : LineFault) (f : ScheduleFault)
    → TellsEntries s old (Err e) left → f ≡ fault_of_line e → RefusesNext s old cs (Err f) left next None
unfolding refused_left
refuses_bad s old left cs next line.Memory f read is = inl is
refuses_bad s old left cs next (line.BadLine k) f read is =
    inr (ap (λ (r : Entries). refused_of_lines old.count cs r) read)

-- an entry that is no step is the refused one, if each line behind it spells an entry
at_fault : (k : ℕ) (x : PlainEntry) (cs : List Conf) (w : StepFault) (t : ScheduleFault) (r : Entries)
    → joint_answer x cs ≡ Err w → t ≡ fault_or_line (fault_at k w) r
    → (t ≡ Memory) ⊎ (refused_of_lines k cs (with_entry x r) ≡ refused_for t x)
at_fault k x cs w t (Ok entries) fault told = inr (rw (fault, told) refl)
at_fault k x cs w t (Err (line.BadLine n)) fault told = inr (rw told refl)
at_fault k x cs w t (Err line.Memory) fault told = inl told

pub refuses_here : (s : SystemParts) (old left : LinesLeft) (x : PlainEntry) (cs next : List Conf) (w : StepFault)
    (t : ScheduleFault) (mid : LinesLeft) (refused : Option PlainEntry)
    → entries_left s old ≡ with_entry x (entries_left s left)
    → (w ≡ step.Memory) ⊎ (joint_answer x cs ≡ Err w) → (w ≡ step.Memory → t ≡ Memory)
    → (t ≡ Memory) ⊎ (t ≡ fault_or_line (fault_at old.count w) (entries_left s left)) → refused ≡ refused_for t x
    → RefusesNext s old cs (Err t) mid next refused
unfolding refused_left
refuses_here s old left x cs next w t mid refused read (inl memory) wants told is = inl (wants memory)
refuses_here s old left x cs next w t mid refused read (inr step) wants (inl memory) is = inl memory
refuses_here s old left x cs next w t mid refused read (inr step) wants (inr told) is =
    by_lines (at_fault old.count x cs w t (entries_left s left) step told)
  where
    by_lines : (t ≡ Memory) ⊎ (refused_of_lines old.count cs (with_entry x (entries_left s left)) ≡ refused_for t x)
        → (t ≡ Memory) ⊎ (refused_of_lines old.count cs (entries_left s old) ≡ refused)
    by_lines (inl memory) = inl memory
    by_lines (inr same) = inr (ap (λ (r : Entries). refused_of_lines old.count cs r) read ∙ same ∙ sym is)

-- entries that are all steps are refused for none
none_refused : (k : ℕ) (entries : List PlainEntry) (cs : List Conf) → steps_answer k entries cs ≡ Ok tt
    → refused_among k entries cs ≡ None
none_refused k [] cs h = refl
none_refused k (e ∷ more) cs h = by_step (joint_answer e cs) h (λ next g. none_refused (k + 1) more next g)
  where
    by_step : (r : Result (List Conf) StepFault) → after_step_at k (steps_answer (k + 1) more) r ≡ Ok tt
        → ((next : List Conf) → steps_answer (k + 1) more next ≡ Ok tt → refused_among (k + 1) more next ≡ None)
        → refused_by k e (refused_among (k + 1) more) r ≡ None
    by_step (Ok next) g further = further next g
    by_step (Err f) g further = absurd (cc)

-- the refused one is the one at which they stop
stopped_refused : (k : ℕ) (entries : List PlainEntry) (cs states : List Conf) (m : ℕ) (e : PlainEntry) (w : StepFault)
    → replay (take m entries) cs ≡ Some states → slice_get entries m ≡ Some e → joint_answer e states ≡ Err w
    → refused_among k entries cs ≡ refused_for (fault_at (k + m) w) e
stopped_refused k [] cs states m e w before next fault = absurd (cc)
stopped_refused k (x ∷ more) cs states zero e w before next fault =
    let here : x ≡ e = cc in
    let there : cs ≡ states = cc in
    let place : k + 0 ≡ k = omega arith in
    rw (place, here, there, fault) refl
stopped_refused k (x ∷ more) cs states (suc m) e w before next fault =
    let place : k + 1 + m ≡ k + suc m = omega arith in
    by_step (joint_answer x cs) before
    (λ mid g. stopped_refused (k + 1) more mid states m e w g next fault
    ∙ ap (λ n. refused_for (fault_at n w) e) place)
  where
    by_step : (r : Result (List Conf) StepFault) → after_step (replay (take m more)) r ≡ Some states
        → ((mid : List Conf) → replay (take m more) mid ≡ Some states
        → refused_among (k + 1) more mid ≡ refused_for (fault_at (k + suc m) w) e)
        → refused_by k x (refused_among (k + 1) more) r ≡ refused_for (fault_at (k + suc m) w) e
    by_step (Ok mid) g further = further mid g
    by_step (Err f) g further = absurd (cc)

-- entries are those before a place, the one there, and those behind it
cut_at : (entries : List PlainEntry) (m : ℕ) (e : PlainEntry) → slice_get entries m ≡ Some e
    → entries ≡ take m entries ++ e ∷ drop (suc m) entries
cut_at [] m e h = absurd (cc)
cut_at (x ∷ more) zero e h =
    let here : x ≡ e = cc in
    rw here refl
cut_at (x ∷ more) (suc m) e h = ap (λ (xs : List PlainEntry). x ∷ xs) (cut_at more m e h)

many_before : (entries : List PlainEntry) (m : ℕ) (e : PlainEntry) → slice_get entries m ≡ Some e
    → length (take m entries) ≡ m
many_before [] m e h = absurd (cc)
many_before (x ∷ more) zero e h = refl
many_before (x ∷ more) (suc m) e h = ap suc (many_before more m e h)

-- what lines are refused for, by their fault
by_fault : (s : SystemParts) (text : List ℕ) (taken : List PlainEntry) (refused : Option PlainEntry) (entry : PlainEntry)
    (f : ScheduleFault) → refused ≡ refused_for f entry
    → (refused ≡ Some entry → StopsBehind s text taken refused f) → IsRefusedIf (Some f) s text taken refused
by_fault s text taken refused entry (Undefined k) is stops = stops is
by_fault s text taken refused entry (Range k) is stops = stops is
by_fault s text taken refused entry Memory is stops = is
by_fault s text taken refused entry (NotStep k) is stops = stops is
by_fault s text taken refused entry (BadLine k) is stops = is

by_line : (s : SystemParts) (text : List ℕ) (taken : List PlainEntry) (refused : Option PlainEntry) (e : LineFault)
    (f : ScheduleFault) → f ≡ fault_of_line e → refused ≡ None → IsRefusedIf (Some f) s text taken refused
by_line s text taken refused (line.BadLine k) f is none =
    subst (λ (x : ScheduleFault). IsRefusedIf (Some x) s text taken refused) (sym is) none
by_line s text taken refused line.Memory f is none =
    subst (λ (x : ScheduleFault). IsRefusedIf (Some x) s text taken refused) (sym is) none

-- entries of lines that stop with a fault
by_stop : (s : SystemParts) (text : List ℕ) (entries : List PlainEntry) (taken : List PlainEntry)
    (refused : Option PlainEntry) (f : ScheduleFault) → Lines s text entries → taken ≡ taken_of s text
    → refused ≡ refused_among 0 entries (start s) → Stops 0 entries (start s) f
    → IsRefusedIf (Some f) s text taken refused
by_stop s text entries taken refused f spelled is found stops =
    let before : taken ≡ take stops.many entries =
    is ∙ taken_before s text stops.many stops.why
    (record {
      entries = entries;
      spelled = spelled;
      states = stops.states;
      before = stops.before;
      entry = stops.entry;
      next = stops.next;
      fault = stops.fault;
    }) in
    let there : refused_among 0 entries (start s) ≡ refused_for (fault_at (0 + stops.many) stops.why) stops.entry =
    stopped_refused 0 entries (start s) stops.states stops.many stops.entry stops.why stops.before stops.next
    stops.fault in
    let told : refused ≡ refused_for f stops.entry =
    found ∙ there ∙ sym (ap (λ (x : ScheduleFault). refused_for x stops.entry) stops.told) in
    let many : length taken ≡ stops.many = ap length before ∙ many_before entries stops.many stops.entry stops.next in
    let place : stops.many ≡ 0 + stops.many = omega arith in
    by_fault s text taken refused stops.entry f told
    (λ some. record {
      entry = stops.entry;
      is = some;
      rest = drop (suc stops.many) entries;
      spelled = rw before (rw (← cut_at entries stops.many stops.entry stops.next) spelled);
      states = stops.states;
      before = rw before stops.before;
      why = stops.why;
      fault = stops.fault;
      told = ap (λ n. fault_at n stops.why) (many ∙ place) ∙ sym stops.told;
    })

-- what is given says for which entry the lines are refused
refused_if : (s : SystemParts) (text : List ℕ) (refusal : Option ScheduleFault) (taken : List PlainEntry)
    (refused : Option PlainEntry) → taken ≡ taken_of s text → answer_by refusal ≡ schedule_answer s text
    → refused ≡ refused_of s text → IsRefusedIf refusal s text taken refused
unfolding lines.entries_left schedule_answer refused_left refused_of
refused_if s text refusal taken refused is told found = by_lines (lines_answer s text) refl refusal told found
  where
    by_lines : (r : Result (List PlainEntry) LineFault) → lines_answer s text ≡ r → (o : Option ScheduleFault)
        → answer_by o ≡ steps_of_lines 0 (start s) r → refused ≡ refused_of_lines 0 (start s) r
        → IsRefusedIf o s text taken refused
    by_lines (Ok entries) e None g h = h ∙ none_refused 0 entries (start s) (sym g)
    by_lines (Ok entries) e (Some f) g h =
        by_stop s text entries taken refused f (entries_sound s (lines_of text) 0 entries e) is h
        (steps_stop 0 entries (start s) f (sym g))
    by_lines (Err e) same None g h = h
    by_lines (Err e) same (Some f) g h =
        let fault : f ≡ fault_of_line e = cc in
        by_line s text taken refused e f fault h

pub given_refused : (s : SystemParts) (text : List ℕ) (r : Result GivenSchedule AllocError)
    → IfOk r (λ g. g.taken ≡ taken_of s text) → IfOk r (λ g. answer_by g.refusal ≡ schedule_answer s text)
    → IfOk r (λ g. g.refused ≡ refused_of s text) → IfOk r (λ g. IsRefusedIf g.refusal s text g.taken g.refused)
given_refused s text (Ok g) taken told found = refused_if s text g.refusal g.taken g.refused taken told found
given_refused s text (Err e) taken told found = tt
