use Rattle.std.proofs.Common.{ℕ, List, map}
use Rattle.std.specs.Borrow.{Bor}
use Rattle.ioa_command.specs.Command.{output}
use Rattle.ioa_command.proofs.Endings.{done_of, found_of, refused_of}
use Rattle.ioa_command.proofs.command_line.command.Goals as goal

pub returns-clause-done : goal.returns-clause-done
returns-clause-done g c =
    let told = c.execute_words in
    done_of (map (λ (w : Bor (List ℕ)). w.now) c.args.words.now) (g.I.Read.remaining c.args.reader.now)
    (output (g.O.Out.bytes c.args.out.now) (g.O.Out.bytes told.new.out) (g.O.Out.failed told.new.out))
    (output (g.E.Out.bytes c.args.err.now) (g.E.Out.bytes told.new.err) (g.E.Out.failed told.new.err)) told.result
    told.ensures

pub returns-clause-found : goal.returns-clause-found
returns-clause-found g c =
    let told = c.execute_words in
    found_of (map (λ (w : Bor (List ℕ)). w.now) c.args.words.now) (g.I.Read.remaining c.args.reader.now)
    (output (g.O.Out.bytes c.args.out.now) (g.O.Out.bytes told.new.out) (g.O.Out.failed told.new.out))
    (output (g.E.Out.bytes c.args.err.now) (g.E.Out.bytes told.new.err) (g.E.Out.failed told.new.err)) told.result
    told.ensures

pub returns-clause-refused : goal.returns-clause-refused
returns-clause-refused g c = λ refuses.
    let told = c.execute_words in
    refused_of (map (λ (w : Bor (List ℕ)). w.now) c.args.words.now) (g.I.Read.remaining c.args.reader.now)
    (output (g.O.Out.bytes c.args.out.now) (g.O.Out.bytes told.new.out) (g.O.Out.failed told.new.out))
    (output (g.E.Out.bytes c.args.err.now) (g.E.Out.bytes told.new.err) (g.E.Out.failed told.new.err)) told.result
    told.ensures refuses
