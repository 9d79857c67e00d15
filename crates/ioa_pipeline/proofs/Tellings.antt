-- A run that is told as text: where its text stands, and what it comes to.
use Rattle.std.proofs.Common.{◌≡◌, ◌∙◌, ℕ, Bool, true, false, if◌then◌else◌, List, [], ◌∷◌, ◌++◌, Option, Some, None}
use Rattle.std.proofs.Common.{Result, Ok, Err, refl, sym, subst}
use Rattle.std.specs.Prelude.{OnOk, find}
use Rattle.std.specs.Io.KnownBytes.{Appends}
use Rattle.ioa_streams.specs.declared.output.OutFailed.{OutFailed}
use Rattle.ioa_system.specs.Systems.{SystemParts}
use Rattle.ioa_record.specs.declared.ending.Ending.{Ending}
use Rattle.ioa_record.specs.declared.record.Record.{Record}
use Rattle.ioa_actions.specs.ActionParts.{node_of}
use Rattle.ioa_transitions.specs.Entries.{PlainEntry}
use Rattle.ioa_paper.specs.Papers.{Ended, PlainPaper, and_text}
use Rattle.ioa_show.specs.Shown.{Continues}
use Rattle.ioa_tell.specs.Events.{PlainEvent, taken, missed, faulted, unfit, stuck, idle, stopped, ended}
use Rattle.ioa_tell.specs.Told.{AreHeard, TellsRun, endings_told}
use Rattle.ioa_tell.specs.declared.fault.TellFault.{TellFault}
use Rattle.ioa_tell.specs.declared.fault.TellFault.TheVariants as tell
use Rattle.ioa_tell_text.specs.Kept.{is_of, same_passing, why_of}
use Rattle.ioa_tell_text.specs.Lines.{waiting_text}
use Rattle.ioa_tell_text.specs.Teller.{PlainTeller, and_other, and_waiting, teller_after, teller_ended}
use Rattle.ioa_tell_text.specs.declared.waiting.Passing.{Passing}
use Rattle.ioa_tell_text.specs.declared.waiting.Passing.TheVariants.{Idle, Missed}
use Rattle.ioa_tell_text.specs.declared.waiting.Waiting.{Waiting}
use Rattle.ioa_verdicts.specs.declared.verdict.Verdict.{Verdict}
use Rattle.ioa_pipeline.specs.declared.tracing.Format.TheVariants as format
use Rattle.ioa_pipeline.specs.Tracing.{ShowsLeft, begun_teller, told_outcome}

-- what waits goes on the same paper
waiting_kept : (names : List (List ℕ)) (w : Option Waiting) (paper : PlainPaper) → Continues paper (and_waiting names w paper)
waiting_kept names None paper = (refl, refl)
waiting_kept names (Some w) paper = (refl, refl)

unless_kept : (b : Bool) (paper : PlainPaper) (text : List ℕ) → Continues paper (if b then paper else and_text paper text)
unless_kept true paper text = (refl, refl)
unless_kept false paper text = (refl, refl)

other_kept : (names : List (List ℕ)) (p : Passing) (w : Option Waiting) (paper : PlainPaper)
    → Continues paper (and_other names p w paper)
other_kept names p None paper = (refl, refl)
other_kept names p (Some w) paper = unless_kept (same_passing w.passing p) paper (waiting_text names w)

-- and so does each event
event_kept : (e : PlainEvent) (t : PlainTeller) → Continues t.paper (teller_after e t).paper
event_kept (taken k e before after queue) t = waiting_kept t.names (find (is_of (node_of e.action)) t.waiting) t.paper
event_kept (missed k a r) t =
    other_kept t.names (Missed a (why_of t.names r)) (find (is_of (node_of a)) t.waiting) t.paper
event_kept (faulted k a place f) t = waiting_kept t.names (find (is_of (node_of a)) t.waiting) t.paper
event_kept (unfit k a w v) t = waiting_kept t.names (find (is_of (node_of a)) t.waiting) t.paper
event_kept (stuck k n place f) t = waiting_kept t.names (find (is_of n) t.waiting) t.paper
event_kept (idle k n) t = other_kept t.names Idle (find (is_of n) t.waiting) t.paper
event_kept (stopped k n) t = waiting_kept t.names (find (is_of n) t.waiting) t.paper
event_kept (ended n e) t = (refl, refl)

pub events_kept : (es : List PlainEvent) (a b : PlainTeller) → AreHeard (λ e x y. y ≡ teller_after e x) es a b
    → Continues a.paper b.paper
events_kept [] a b h = subst (λ (t : PlainTeller). Continues a.paper t.paper) h (refl, refl)
events_kept (e ∷ es) a b h =
    let first : Continues a.paper h.0.paper =
    subst (λ (t : PlainTeller). Continues a.paper t.paper) (sym h.1) (event_kept e a) in
    let rest : Continues h.0.paper b.paper = events_kept es h.0 b h.2 in
    (rest.0 ∙ first.0, rest.1 ∙ first.1)

pub telling_kept : (s : SystemParts) (attempts : ℕ) (schedule : List PlainEntry) (endings : List Ending)
    (a b : PlainTeller) (r : Result (Unit {0}) TellFault)
    → OnOk r (TellsRun (λ e x y. y ≡ teller_after e x) s attempts schedule endings a b)
    → OnOk r (Continues a.paper b.paper)
telling_kept s attempts schedule endings a b (Ok x) h = events_kept (h.events ++ endings_told 0 endings) a b h.heard
telling_kept s attempts schedule endings a b (Err f) h = tt

-- a telling that began on a fresh paper, and whose text went out
pub telling_shown : (s : SystemParts) (attempts : ℕ) (left : Record) (endings : List Ending) (vs : List Verdict)
    (old new : Option (List ℕ)) (failed : Bool) (output : ℕ) (told whole : PlainTeller)
    (r : Result (Unit {0}) TellFault) (sent : Result (Unit {0}) OutFailed)
    → OnOk r (TellsRun (λ e x y. y ≡ teller_after e x) s attempts left.schedule endings
    (begun_teller s vs old output) told)
    → OnOk r (whole ≡ teller_ended told) → OnOk r (Ended old new failed whole.paper.text sent)
    → ShowsLeft s attempts left endings vs format.Text old new failed (told_outcome r sent)
telling_shown s attempts left endings vs old new failed output told whole (Ok x) (Ok y) h is g = record {
  output = output;
  told = told;
  tells = h;
  well = g.0;
  whole = subst (λ (t : PlainTeller). Appends old new t.paper.text) is g.1;
}
telling_shown s attempts left endings vs old new failed output told whole (Ok x) (Err f) h is g = tt
telling_shown s attempts left endings vs old new failed output told whole (Err tell.Memory) sent h is g = tt
telling_shown s attempts left endings vs old new failed output told whole (Err tell.Differs) sent h is g = tt
