-- What was read and replayed, and why nothing was.
use Rattle.std.proofs.Common.{List, ℕ, Option, Result, Ok, Err, inl, inr}
use Rattle.ioa_streams.specs.ScheduleParts.{schedule_part}
use Rattle.ioa_monitor.specs.declared.findings.Findings.{Findings}
use Rattle.ioa_pipeline.specs.declared.tracing.Format.{Format}
use Rattle.ioa_pipeline.specs.declared.replaying.ReplayFault.{ReplayFault}
use Rattle.ioa_command.specs.declared.choice.InputName.{InputName}
use Rattle.ioa_command.specs.declared.choice.ReplayChoice.{ReplayChoice}
use Rattle.ioa_command.specs.declared.faults.TextFault.{TextFault}
use Rattle.ioa_command.specs.declared.faults.TextFault.TheVariants.{Input, Unread, Run, Explain, Trace, Replay, Check, Print}
use Rattle.ioa_command.specs.Command.{IsKept, IsReplayed, IsReplayedBy, Output, ReplaysIn}
use Rattle.ioa_command.specs.Inputs.{IsFaultOfInput, IsFaultOfLong, IsTextOf, IsTextWithin, KeepsStandard}
use Rattle.ioa_command.specs.Inputs.{given_by, schedule_limit}
use Rattle.ioa_command.proofs.Readings.{fault_behind, is_reading, is_reading_long, text_behind}

-- nothing was replayed if the input of the schedule gives no text
pub replay_unread : (format : Format) (text : List ℕ) (s : InputName) (given : Option (List ℕ))
    (out : Output) (f : TextFault) → IsFaultOfLong s given f → IsKept out
    → IsReplayedBy format text s given out (Err f)
replay_unread format text s given out (Input f) h kept = (h, kept)
replay_unread format text s given out (Unread name) h kept = (h, kept)
replay_unread format text s given out (Run f) h kept = absurd (is_reading_long s given (Run f) h)
replay_unread format text s given out (Explain f) h kept = absurd (is_reading_long s given (Explain f) h)
replay_unread format text s given out (Trace f) h kept = absurd (is_reading_long s given (Trace f) h)
replay_unread format text s given out (Replay f) h kept = absurd (is_reading_long s given (Replay f) h)
replay_unread format text s given out (Check f) h kept = absurd (is_reading_long s given (Check f) h)
replay_unread format text s given out (Print f) h kept = absurd (is_reading_long s given (Print f) h)

-- the lines of an input that was read were replayed
pub replay_done : (format : Format) (text lines : List ℕ) (s : InputName) (given : Option (List ℕ))
    (out : Output) (found : Findings) → IsTextWithin (schedule_limit s) (given_by s given) lines
    → ReplaysIn format text (schedule_part lines) out (Ok found)
    → IsReplayedBy format text s given out (Ok found)
replay_done format text lines s given out found t h = (lines, t, h)

-- and so if the replay has a fault
pub replay_fault : (format : Format) (text lines : List ℕ) (s : InputName) (given : Option (List ℕ))
    (out : Output) (f : ReplayFault) → IsTextWithin (schedule_limit s) (given_by s given) lines
    → ReplaysIn format text (schedule_part lines) out (Err f)
    → IsReplayedBy format text s given out (Err (Replay f))
replay_fault format text lines s given out f t h = (lines, t, h)

-- nothing was replayed if the input of the text gives none
pub replayed_unread : (r : ReplayChoice) (given : Option (List ℕ)) (out : Output) (f : TextFault)
    → IsFaultOfInput r.input given f → IsKept out → IsReplayed r given out (Err f)
replayed_unread r given out (Input f) h kept = (inl h, kept)
replayed_unread r given out (Unread name) h kept = (inl h, kept)
replayed_unread r given out (Run f) h kept = absurd (is_reading r.input given (Run f) h)
replayed_unread r given out (Explain f) h kept = absurd (is_reading r.input given (Explain f) h)
replayed_unread r given out (Trace f) h kept = absurd (is_reading r.input given (Trace f) h)
replayed_unread r given out (Replay f) h kept = absurd (is_reading r.input given (Replay f) h)
replayed_unread r given out (Check f) h kept = absurd (is_reading r.input given (Check f) h)
replayed_unread r given out (Print f) h kept = absurd (is_reading r.input given (Print f) h)

-- a schedule that is read behind a text
pub replayed_apart : (r : ReplayChoice) (given mid : Option (List ℕ)) (text : List ℕ) (out : Output)
    (outcome : Result Findings TextFault) → KeepsStandard r.input given mid → IsTextOf (given_by r.input given) text
    → IsReplayedBy r.format text r.schedule mid out outcome → IsReplayed r given out outcome
replayed_apart r given mid text out (Ok found) kept t h =
    (text, t, (h.0, text_behind (schedule_limit r.schedule) r.input r.schedule given mid h.0 kept h.1, h.2))
replayed_apart r given mid text out (Err (Input f)) kept t h =
    (inr (fault_behind r.input r.schedule given mid (Input f) kept h.0), h.1)
replayed_apart r given mid text out (Err (Unread name)) kept t h =
    (inr (fault_behind r.input r.schedule given mid (Unread name) kept h.0), h.1)
replayed_apart r given mid text out (Err (Run f)) kept t h = absurd h
replayed_apart r given mid text out (Err (Explain f)) kept t h = absurd h
replayed_apart r given mid text out (Err (Trace f)) kept t h = absurd h
replayed_apart r given mid text out (Err (Replay f)) kept t h =
    (text, t, (h.0, text_behind (schedule_limit r.schedule) r.input r.schedule given mid h.0 kept h.1, h.2))
replayed_apart r given mid text out (Err (Check f)) kept t h = absurd h
replayed_apart r given mid text out (Err (Print f)) kept t h = absurd h

pub ruleset apart_rules = (replay_unread, replay_done, replay_fault)

pub ruleset replayed_rules = (replayed_unread, replayed_apart)
