-- What was read and explained, and why nothing was.
use Rattle.std.proofs.Common.{◌≡◌, ◌∙◌, ap, ℕ, Bool, List, take, ◌++◌, Option, Some, None, Result, Ok, Err, inl, inr, refl, subst, sym}
use Rattle.std.specs.Prelude.{IfOk}
use Rattle.std.specs.Io.KnownBytes.{Appends, Keeps}
use Rattle.std.proofs.KnownBytes.{Keeps-trans}
use Rattle.ioa_explain.specs.Explanations.{Explains, IsFindingOn}
use Rattle.ioa_explain.specs.declared.explaining.Finding.{Finding}
use Rattle.ioa_explain.specs.declared.fault.ExplainFault.{ExplainFault}
use Rattle.ioa_explain.specs.declared.fault.ExplainFault.TheVariants as explain
use Rattle.ioa_explain_schedule.specs.declared.explaining.LineFinding.{LineFinding}
use Rattle.ioa_explain_schedule.specs.declared.fault.ExplainLinesFault.TheVariants as lines_fault
use Rattle.ioa_pipeline.specs.Explaining.{ExplainsSchedule}
use Rattle.ioa_command.specs.declared.choice.InputName.{InputName}
use Rattle.ioa_command.specs.declared.choice.ExplainChoice.{ExplainChoice}
use Rattle.ioa_command.specs.declared.faults.TextFault.{TextFault}
use Rattle.ioa_command.specs.declared.faults.TextFault.TheVariants.{Input, Unread, Run, Explain, Trace, Replay, Check, Print}
use Rattle.ioa_command.specs.Command.{ExplainsBeside, ExplainsGivenIn, IsExplained, IsExplainedAlone}
use Rattle.ioa_command.specs.Command.{IsExplainedBy, IsFaultOfSchedule, IsKept, Output, finding_of, output}
use Rattle.ioa_command.specs.Inputs.{IsFaultOfInput, IsFaultOfLong, IsTextOf, IsTextWithin, KeepsStandard}
use Rattle.ioa_command.specs.Inputs.{behind, given_by, schedule_limit, shown_name}
use Rattle.ioa_command.proofs.Readings.{fault_behind, is_reading, is_reading_long, text_behind}

-- ---- a text alone

-- nothing was explained if the input of the text gives none
pub explains_unread : (c : ExplainChoice) (given : Option (List ℕ)) (out : Output) (f : TextFault)
    → IsFaultOfInput c.input given f → IsKept out → IsExplained c given out (Err f)
explains_unread c given out (Input f) h kept = (inl h, kept)
explains_unread c given out (Unread name) h kept = (inl h, kept)
explains_unread c given out (Run f) h kept = absurd (is_reading c.input given (Run f) h)
explains_unread c given out (Explain f) h kept = absurd (is_reading c.input given (Explain f) h)
explains_unread c given out (Trace f) h kept = absurd (is_reading c.input given (Trace f) h)
explains_unread c given out (Replay f) h kept = absurd (is_reading c.input given (Replay f) h)
explains_unread c given out (Check f) h kept = absurd (is_reading c.input given (Check f) h)
explains_unread c given out (Print f) h kept = absurd (is_reading c.input given (Print f) h)

pub alone_done : (input : InputName) (text : List ℕ) (out : Output) (f : Finding)
    → Explains (shown_name input) text out.old out.new out.failed (Ok f) → IsFindingOn f text
    → IsExplainedAlone input text out (Ok f)
alone_done input text out f told found = (told, found)

pub alone_fault : (input : InputName) (text : List ℕ) (out : Output) (f : ExplainFault)
    → Explains (shown_name input) text out.old out.new out.failed (Err f)
    → IsExplainedAlone input text out (Err (Explain f))
alone_fault input text out f told = (told, tt)

pub ruleset alone_rules = (alone_done, alone_fault)

-- no schedule is named
pub explains_alone : (c : ExplainChoice) (given : Option (List ℕ)) (text : List ℕ) (out : Output)
    (r : Result Finding TextFault) → c.schedule ≡ None → IsTextOf (given_by c.input given) text
    → IsExplainedAlone c.input text out r → IsExplained c given out r
explains_alone c given text out (Ok x) is t h =
    subst (λ o. ExplainsGivenIn c.input o given out (Ok x)) (sym is) (text, t, h)
explains_alone c given text out (Err (Input f)) is t h = absurd h
explains_alone c given text out (Err (Unread name)) is t h = absurd h
explains_alone c given text out (Err (Run f)) is t h = absurd h
explains_alone c given text out (Err (Explain f)) is t h =
    subst (λ o. ExplainsGivenIn c.input o given out (Err f)) (sym is) (text, t, h)
explains_alone c given text out (Err (Trace f)) is t h = absurd h
explains_alone c given text out (Err (Replay f)) is t h = absurd h
explains_alone c given text out (Err (Check f)) is t h = absurd h
explains_alone c given text out (Err (Print f)) is t h = absurd h

-- ---- a schedule beside it

pub beside_unread : (input s : InputName) (text : List ℕ) (given : Option (List ℕ)) (out : Output) (f : TextFault)
    → IsFaultOfLong s given f → IsKept out → IsExplainedBy input s text given out (Err f)
beside_unread input s text given out (Input f) h kept = (h, kept)
beside_unread input s text given out (Unread name) h kept = (h, kept)
beside_unread input s text given out (Run f) h kept = absurd (is_reading_long s given (Run f) h)
beside_unread input s text given out (Explain f) h kept = absurd (is_reading_long s given (Explain f) h)
beside_unread input s text given out (Trace f) h kept = absurd (is_reading_long s given (Trace f) h)
beside_unread input s text given out (Replay f) h kept = absurd (is_reading_long s given (Replay f) h)
beside_unread input s text given out (Check f) h kept = absurd (is_reading_long s given (Check f) h)
beside_unread input s text given out (Print f) h kept = absurd (is_reading_long s given (Print f) h)

pub beside_done : (input s : InputName) (text lines : List ℕ) (given : Option (List ℕ)) (out : Output) (f : Finding)
    → IsTextWithin (schedule_limit s) (given_by s given) lines → ExplainsBeside input s text lines out (Ok f)
    → IsExplainedBy input s text given out (Ok f)
beside_done input s text lines given out f t h = (lines, t, h)

pub beside_fault : (input s : InputName) (text lines : List ℕ) (given : Option (List ℕ)) (out : Output)
    (f : ExplainFault) → IsTextWithin (schedule_limit s) (given_by s given) lines
    → ExplainsBeside input s text lines out (Err f) → IsExplainedBy input s text given out (Err (Explain f))
beside_fault input s text lines given out f t h = (lines, t, h)

pub ruleset beside_rules = (beside_unread, beside_done, beside_fault)

-- a schedule is named
pub explains_apart : (c : ExplainChoice) (s : InputName) (given mid : Option (List ℕ)) (text : List ℕ) (out : Output)
    (r : Result Finding TextFault) → c.schedule ≡ Some s → KeepsStandard c.input given mid
    → IsTextOf (given_by c.input given) text → IsExplainedBy c.input s text mid out r → IsExplained c given out r
explains_apart c s given mid text out (Ok x) is kept t h =
    subst (λ o. ExplainsGivenIn c.input o given out (Ok x)) (sym is)
    (text, t, (h.0, text_behind (schedule_limit s) c.input s given mid h.0 kept h.1, h.2))
explains_apart c s given mid text out (Err (Input f)) is kept t h = (
  inr (subst (λ o. IsFaultOfSchedule o (behind c.input given) (Input f)) (sym is)
      (fault_behind c.input s given mid (Input f) kept h.0)),
  h.1,
)
explains_apart c s given mid text out (Err (Unread name)) is kept t h = (
  inr (subst (λ o. IsFaultOfSchedule o (behind c.input given) (Unread name)) (sym is)
      (fault_behind c.input s given mid (Unread name) kept h.0)),
  h.1,
)
explains_apart c s given mid text out (Err (Run f)) is kept t h = absurd h
explains_apart c s given mid text out (Err (Explain f)) is kept t h =
    subst (λ o. ExplainsGivenIn c.input o given out (Err f)) (sym is)
    (text, t, (h.0, text_behind (schedule_limit s) c.input s given mid h.0 kept h.1, h.2))
explains_apart c s given mid text out (Err (Trace f)) is kept t h = absurd h
explains_apart c s given mid text out (Err (Replay f)) is kept t h = absurd h
explains_apart c s given mid text out (Err (Check f)) is kept t h = absurd h
explains_apart c s given mid text out (Err (Print f)) is kept t h = absurd h

pub ruleset explained_rules = (explains_unread, explains_alone, explains_apart)

-- ---- what the pipeline tells

-- a schedule was explained
pub lines_done : (input s : InputName) (text lines : List ℕ) (out : Output) (f : LineFinding) (told : Finding)
    → told ≡ finding_of f
    → ExplainsSchedule text (shown_name s) lines out.old out.new out.failed (Ok (Some f))
    → ExplainsBeside input s text lines out (Ok told)
lines_done input s text lines out f told is h =
    inl (record { outcome = Ok (Some f); told = ap Ok is; schedule = h })

pub lines_memory : (input s : InputName) (text lines : List ℕ) (out : Output)
    → ExplainsSchedule text (shown_name s) lines out.old out.new out.failed (Err lines_fault.Memory)
    → ExplainsBeside input s text lines out (Err explain.Memory)
lines_memory input s text lines out h =
    inl (record { outcome = Err lines_fault.Memory; told = refl; schedule = h })

pub lines_write : (input s : InputName) (text lines : List ℕ) (out : Output)
    → ExplainsSchedule text (shown_name s) lines out.old out.new out.failed (Err lines_fault.Write)
    → ExplainsBeside input s text lines out (Err explain.Write)
lines_write input s text lines out h =
    inl (record { outcome = Err lines_fault.Write; told = refl; schedule = h })

-- what goes out behind nothing goes out behind what was there before that
kept_appends : (a b c : Option (List ℕ)) (text : List ℕ) → Keeps a b → Appends b c text → Appends a c text
kept_appends None b c text kept h = tt
kept_appends (Some x) None c text kept h = absurd kept
kept_appends (Some x) (Some y) None text kept h = absurd h
kept_appends (Some x) (Some y) (Some z) text kept h = h ∙ ap (λ (l : List ℕ). l ++ text) kept

explains_kept : (name text : List ℕ) (a b c : Option (List ℕ)) (failed : Bool) (r : Result Finding ExplainFault)
    → Keeps a b → Explains name text b c failed r → Explains name text a c failed r
explains_kept name text a b c failed (Ok f) kept h = (h.0, h.1, h.2, kept_appends a b c h.1 kept h.3)
explains_kept name text a b c failed (Err explain.Write) kept h =
    (h.0, h.1, h.2, (h.3.0, h.3.1, kept_appends a b c (take h.3.0 h.1) kept h.3.2))
explains_kept name text a b c failed (Err explain.Memory) kept h = (h.0, Keeps-trans a b c kept h.1)

-- the text has no system, and was explained in place of the schedule
pub text_explained : (input s : InputName) (text lines : List ℕ) (old mid new : Option (List ℕ)) (before failed : Bool)
    (r : Result Finding ExplainFault)
    → ExplainsSchedule text (shown_name s) lines old mid before (Ok None)
    → Explains (shown_name input) text mid new failed r → IfOk r (λ f. IsFindingOn f text)
    → ExplainsBeside input s text lines (output old new failed) r
text_explained input s text lines old mid new before failed r told h found =
    inr (record {
      refused = told.2;
      told = (explains_kept (shown_name input) text old mid new failed r told.1 h, found);
    })

pub ruleset told_rules = (lines_done, lines_memory, lines_write, text_explained)
