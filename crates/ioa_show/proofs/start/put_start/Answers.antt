use Rattle.std.proofs.Common.{◌≡◌, ◌∙◌, ap, false}
use Rattle.std.specs.Prelude.{codes}
use Rattle.std.specs.List.{flat_map}
use Rattle.ioa_values.specs.Text.{with_commas}
use Rattle.ioa_paper.specs.Papers.{and_text}
use Rattle.ioa_show.specs.Behind.{told_behind}
use Rattle.ioa_show.specs.Start.{conf_queues, conf_variables, start_line}
use Rattle.ioa_show.proofs.Listing.{told_commas}
use Rattle.ioa_show.proofs.Puts.{five}
use Rattle.ioa_show.proofs.start.put_start.Goals as goal

pub returns : goal.returns
unfolding start_line
returns g c =
    let waits : c.put_queues.new.paper ≡ and_text c.put.new.self (with_commas (flat_map (conf_queues c.args.course.now) c.args.course.now)) =
    c.put_queues.ensures ∙ ap (and_text c.put.new.self)
    (ap (told_behind (conf_queues c.args.course.now) false) c.confs.ensures ∙ told_commas (conf_queues c.args.course.now) c.args.course.now) in
    let holds : c.put_variables.new.paper ≡ and_text c.put-2.new.self (with_commas (flat_map (conf_variables c.args.names.now) c.args.course.now)) =
    c.put_variables.ensures ∙ ap (and_text c.put-2.new.self)
    (ap (told_behind (conf_variables c.args.names.now) false) c.confs-2.ensures ∙ told_commas (conf_variables c.args.names.now) c.args.course.now) in
    five c.args.paper.now c.put.new.self c.put_queues.new.paper c.put-2.new.self c.put_variables.new.paper c.put-3.new.self
    (codes "{\"kind\":\"start\",\"queues\":[") (with_commas (flat_map (conf_queues c.args.course.now) c.args.course.now))
    (codes "],\"variables\":[") (with_commas (flat_map (conf_variables c.args.names.now) c.args.course.now)) (codes "]}\n")
    c.put.ensures waits c.put-2.ensures holds c.put-3.ensures
