use Rattle.std.proofs.Common.{◌≡◌, ◌∙◌, List, ap, map}
use Rattle.std.specs.Prelude.{codes}
use Rattle.ioa_transitions.specs.Entries.{PlainEntry}
use Rattle.ioa_paper.specs.Papers.{and_text}
use Rattle.ioa_show.specs.Arrows.{arrows}
use Rattle.ioa_show.specs.Diagrams.{head_words}
use Rattle.ioa_show.specs.Marks.{below, dots, lanes, ticks}
use Rattle.ioa_show.proofs.Puts.{seven}
use Rattle.ioa_show.proofs.space_time.put_drawing.Goals as goal

pub returns : goal.returns
returns g c =
    let lined : c.put_lanes.new.paper ≡ and_text c.put_head.new.paper (lanes c.args.frame c.args.system.now.programs) = rw (← c.programs.ensures) c.put_lanes.ensures in
    let broken : c.put_below.new.paper ≡ and_text c.put_ticks.new.paper (below c.args.frame c.args.system.now.invariants c.args.verdicts.now) = rw (← c.invariants.ensures) c.put_below.ensures in
    let told : c.put_messages.new.paper ≡ and_text c.put_below.new.paper (arrows c.args.frame c.args.system.now.names (map (λ e. e.now) c.args.entries.now) c.args.partners.now 0 c.args.schedule.now) = rw (← c.names.ensures) c.put_messages.ensures in
    let sent : c.put_messages.new.paper ≡ and_text c.put_below.new.paper (arrows c.args.frame c.args.system.now.names c.args.schedule.now c.args.partners.now 0 c.args.schedule.now) =
    told ∙ ap (λ (es : List PlainEntry). and_text c.put_below.new.paper (arrows c.args.frame c.args.system.now.names es c.args.partners.now 0 c.args.schedule.now)) c.requires in
    let dotted : c.put_dots.new.paper ≡ and_text c.put_messages.new.paper (dots c.args.frame c.args.system.now.names 0 c.args.schedule.now) = rw (← c.names-2.ensures) c.put_dots.ensures in
    seven c.args.paper.now c.put_head.new.paper c.put_lanes.new.paper c.put_ticks.new.paper c.put_below.new.paper
    c.put_messages.new.paper c.put_dots.new.paper c.put.new.self (head_words c.args.frame)
    (lanes c.args.frame c.args.system.now.programs) (ticks c.args.frame c.args.frame.count)
    (below c.args.frame c.args.system.now.invariants c.args.verdicts.now)
    (arrows c.args.frame c.args.system.now.names c.args.schedule.now c.args.partners.now 0 c.args.schedule.now)
    (dots c.args.frame c.args.system.now.names 0 c.args.schedule.now) (codes "</svg>\n")
    c.put_head.ensures lined c.put_ticks.ensures broken sent dotted c.put.ensures
