-- How lines are read and steps are taken, one after another.
use Rattle.std.proofs.Common.{◌≡◌, ℕ, ◌+◌, List, [], ◌∷◌, Option, Some, None, Result, Ok, Err, refl, ap, sym, ◌∙◌, ◌⊎◌, inl, inr}
use Rattle.ioa_values.specs.Outcome.{and_then}
use Rattle.ioa_actions.specs.declared.fault.StepFault.{StepFault}
use Rattle.ioa_actions.specs.declared.fault.StepFault.TheVariants as step
use Rattle.ioa_transitions.specs.Entries.{PlainEntry}
use Rattle.ioa_system.specs.Systems.{SystemParts}
use Rattle.ioa_compose.specs.declared.configuration.Conf.{Conf}
use Rattle.ioa_compose.specs.Composition.{joint_answer}
use Rattle.ioa_tokens.specs.LineTokens.{line_tokens}
use Rattle.ioa_lines.specs.Lines.{Entries, LinesLeft, cut_entry, entries_left, lines_left, next_answer, next_by, next_from, with_entry}
use Rattle.ioa_lines.specs.declared.fault.LineFault.{LineFault}
use Rattle.ioa_schedule_check.specs.declared.fault.ScheduleFault.{ScheduleFault}
use Rattle.ioa_schedule_check.specs.declared.fault.ScheduleFault.TheVariants.{Memory}
use Rattle.ioa_lines.specs.Lines.{Next, TellsEntries}
use Rattle.ioa_lines.specs.declared.fault.LineFault.TheVariants as line
use Rattle.ioa_schedule_check.specs.Schedules.{all_read, fault_at, fault_of_line, fault_or_line, steps_of_lines}
use Rattle.ioa_schedule_check.specs.Taken.{TakesNext, steps_left, taken_at, taken_by, taken_from, taken_left}

-- behind an entry one line more is counted
counted_from : (s : SystemParts) (k : ℕ) (lines : List (List ℕ)) (x : PlainEntry) (left : LinesLeft)
    → next_from s k lines ≡ Ok (Some x, left) → left.count ≡ k + 1
counted_from s k [] x left h =
    let pair : (None, lines_left k []) ≡ (Some x, left) = cc in
    let none : None ≡ Some x = ap (λ (p : Option PlainEntry × LinesLeft). p.0) pair in
    absurd (cc)
counted_from s k (line ∷ lines) x left h =
    by_cut (cut_entry s k (line_tokens line)) h (λ g. counted_from s k lines x left g)
  where
    by_cut : (r : Result (Option PlainEntry) LineFault)
        → and_then r (λ o. next_by k lines o (next_from s k lines)) ≡ Ok (Some x, left)
        → (next_from s k lines ≡ Ok (Some x, left) → left.count ≡ k + 1) → left.count ≡ k + 1
    by_cut (Ok None) g further = further g
    by_cut (Ok (Some b)) g further =
        let pair : (Some b, lines_left (k + 1) lines) ≡ (Some x, left) = cc in
        let same : lines_left (k + 1) lines ≡ left = ap (λ (p : Option PlainEntry × LinesLeft). p.1) pair in
        rw (← same) refl
    by_cut (Err f) g further = absurd (cc)

pub counted : (s : SystemParts) (old left : LinesLeft) (x : PlainEntry) → next_answer s old ≡ Ok (Some x, left)
    → left.count ≡ old.count + 1
unfolding next_answer
counted s old left x h = counted_from s old.count old.lines x left h

-- an entry that is a step leaves the steps by the others
after_ok : (k : ℕ) (x : PlainEntry) (cs next : List Conf) (r : Entries) → joint_answer x cs ≡ Ok next
    → steps_of_lines k cs (with_entry x r) ≡ steps_of_lines (k + 1) next r
after_ok k x cs next (Ok entries) h = rw h refl
after_ok k x cs next (Err f) h = refl

pub step_taken : (s : SystemParts) (old left : LinesLeft) (x : PlainEntry) (cs next : List Conf)
    → entries_left s old ≡ with_entry x (entries_left s left) → left.count ≡ old.count + 1
    → joint_answer x cs ≡ Ok next
    → steps_of_lines left.count next (entries_left s left) ≡ steps_of_lines old.count cs (entries_left s old)
step_taken s old left x cs next read count h =
    ap (λ k. steps_of_lines k next (entries_left s left)) count
    ∙ sym (after_ok old.count x cs next (entries_left s left) h)
    ∙ sym (ap (λ (r : Entries). steps_of_lines old.count cs r) read)

-- one that is none leaves its fault, if all lines spell entries
after_err : (k : ℕ) (x : PlainEntry) (cs : List Conf) (f : StepFault) (r : Entries) → joint_answer x cs ≡ Err f
    → steps_of_lines k cs (with_entry x r) ≡ Err (fault_or_line (fault_at k f) r)
after_err k x cs f (Ok entries) h = rw h refl
after_err k x cs f (Err e) h = refl

-- what the next entry of lines takes
abbrev after_next : SystemParts → List Conf → Next → List PlainEntry
after_next s cs (Ok (None, left)) = []
after_next s cs (Ok (Some x, left)) = taken_by x (taken_from s left.lines left.count) (joint_answer x cs)
after_next s cs (Err f) = []

taken_is : (s : SystemParts) (k : ℕ) (lines : List (List ℕ)) (cs : List Conf)
    → taken_from s lines k cs ≡ after_next s cs (next_from s k lines)
taken_is s k [] cs = refl
taken_is s k (line ∷ lines) cs = by_cut (cut_entry s k (line_tokens line)) (taken_is s k lines cs)
  where
    by_cut : (r : Result (Option PlainEntry) LineFault)
        → taken_from s lines k cs ≡ after_next s cs (next_from s k lines)
        → taken_at r k (taken_from s lines) cs
        ≡ after_next s cs (and_then r (λ o. next_by k lines o (next_from s k lines)))
    by_cut (Ok None) more = more
    by_cut (Ok (Some b)) more = refl
    by_cut (Err f) more = refl

taken_next : (s : SystemParts) (old : LinesLeft) (cs : List Conf) (r : Next) → next_answer s old ≡ r
    → taken_left s old cs ≡ after_next s cs r
unfolding next_answer taken_left
taken_next s old cs r is = taken_is s old.count old.lines cs ∙ ap (after_next s cs) is

-- an entry that is a step is the next one that is taken
pub takes_step : (s : SystemParts) (old left : LinesLeft) (x : PlainEntry) (cs next : List Conf)
    → entries_left s old ≡ with_entry x (entries_left s left) → next_answer s old ≡ Ok (Some x, left)
    → joint_answer x cs ≡ Ok next → TakesNext s old cs (Ok (Some x)) left next
unfolding steps_left taken_left
takes_step s old left x cs next read is step = (
  sym (step_taken s old left x cs next read (counted s old left x is) step),
  taken_next s old cs (Ok (Some x, left)) is
      ∙ ap (taken_by x (taken_from s left.lines left.count)) step,
)

-- behind the last line there is none
pub takes_none : (s : SystemParts) (old left : LinesLeft) (cs next : List Conf) → entries_left s old ≡ Ok []
    → next_answer s old ≡ Ok (None, left) → TakesNext s old cs (Ok None) left next
unfolding steps_left
takes_none s old left cs next read is = (
  ap (λ (r : Entries). steps_of_lines old.count cs r) read,
  taken_next s old cs (Ok (None, left)) is,
)

-- a line that spells no entry takes none
pub takes_bad : (s : SystemParts) (old left : LinesLeft) (cs next : List Conf) (e : LineFault) (f : ScheduleFault)
    → (e ≡ line.Memory) ⊎ (next_answer s old ≡ Err e) → TellsEntries s old (Err e) left → f ≡ fault_of_line e
    → TakesNext s old cs (Err f) left next
unfolding steps_left
takes_bad s old left cs next line.Memory f why read is = inl is
takes_bad s old left cs next (line.BadLine k) f (inl memory) read is = absurd (cc)
takes_bad s old left cs next (line.BadLine k) f (inr stops) read is = inr (
  ap (λ (r : Entries). steps_of_lines old.count cs r) read ∙ ap Err (sym is),
  taken_next s old cs (Err (line.BadLine k)) stops,
)

-- nor does an entry that is no step
pub takes_fault : (s : SystemParts) (old left : LinesLeft) (x : PlainEntry) (cs next : List Conf) (w : StepFault)
    (t : ScheduleFault) (mid : LinesLeft) → entries_left s old ≡ with_entry x (entries_left s left)
    → next_answer s old ≡ Ok (Some x, left) → (w ≡ step.Memory) ⊎ (joint_answer x cs ≡ Err w)
    → (w ≡ step.Memory → t ≡ Memory) → (t ≡ Memory) ⊎ (t ≡ fault_or_line (fault_at old.count w) (entries_left s left))
    → TakesNext s old cs (Err t) mid next
unfolding steps_left
takes_fault s old left x cs next w t mid read is (inl memory) wants told = inl (wants memory)
takes_fault s old left x cs next w t mid read is (inr step) wants (inl memory) = inl memory
takes_fault s old left x cs next w t mid read is (inr step) wants (inr told) = inr (
  ap (λ (r : Entries). steps_of_lines old.count cs r) read ∙ after_err old.count x cs w (entries_left s left) step
      ∙ ap Err (sym told),
  taken_next s old cs (Ok (Some x, left)) is
      ∙ ap (taken_by x (taken_from s left.lines left.count)) step,
)

-- all lines are read if those behind the next one are
all_behind : (x : PlainEntry) (r : Entries) → all_read r ≡ all_read (with_entry x r)
all_behind x (Ok entries) = refl
all_behind x (Err f) = refl

pub read_more : (s : SystemParts) (old left : LinesLeft) (x : PlainEntry)
    → entries_left s old ≡ with_entry x (entries_left s left)
    → all_read (entries_left s left) ≡ all_read (entries_left s old)
read_more s old left x read = rw read (all_behind x (entries_left s left))
