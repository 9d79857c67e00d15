-- The space-time diagram of a run as SVG (form).
use Rattle.std.specs.Prelude.{ℕ, Bool, List, ◌++◌, codes, length, Option}
use Rattle.ioa_system.specs.Systems.{SystemParts}
use Rattle.ioa_transitions.specs.Entries.{PlainEntry}
use Rattle.ioa_record.specs.declared.ending.Ending.{Ending}
use Rattle.ioa_verdicts.specs.declared.verdict.Verdict.{Verdict}
use Rattle.ioa_show.specs.Arrows.{arrows}
use Rattle.ioa_show.specs.Frames.{frame_of}
use Rattle.ioa_show.specs.Matching.{partners_of}
use Rattle.ioa_show.specs.Marks.{backing, below, box_words, dots, lanes, ticks}
use Rattle.ioa_show.specs.Memory.{ran_out}
use Rattle.ioa_show.specs.declared.frame.Frame.{Frame}
use Rattle.ioa_show.specs.declared.space_time.TheConstants.{LOOKS, OPENING}

-- what stands in front of the first line: the measures, the looks, and the ground
abbrev pub head_words : Frame → List ℕ
head_words f = OPENING.now ++ (box_words f ++ (codes ">\n" ++ (LOOKS.now ++ backing f)))

-- the same by these measures
abbrev pub drawing : Frame → SystemParts → List (Option ℕ) → List Verdict → List PlainEntry → List ℕ
drawing f s ps ws entries =
    head_words f ++ (lanes f s.programs ++ (ticks f f.count ++ (below f s.invariants ws
    ++ (arrows f s.names entries ps 0 entries ++ (dots f s.names 0 entries ++ codes "</svg>\n")))))

-- the diagram of a run, if these are the partners of its actions and these the verdicts on it: the line of each node,
-- numbers above the actions, what is said of each invariant, that memory ran out, if it is short, each message from its
-- send to its receive, and a dot for each action, in the order of the schedule
unfoldable pub diagram_text : SystemParts → List (Option ℕ) → List Verdict → Bool → List PlainEntry → List ℕ
diagram_text s ps ws short entries = drawing (frame_of s (length entries) (length ws) short) s ps ws entries

-- the same with the partners of its actions, these verdicts, and whether memory ran out, if the run left these endings
abbrev pub diagram_of : SystemParts → List PlainEntry → List Ending → List Verdict → List ℕ
diagram_of s entries endings ws = diagram_text s (partners_of entries) ws (ran_out endings) entries
