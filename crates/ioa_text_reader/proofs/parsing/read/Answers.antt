use Rattle.std.proofs.Common.{◌≡◌, sym, ap, ◌∙◌, arith}
use Rattle.std.proofs.lemmas.Grind.{merely}
use Rattle.ioa_source.specs.TextView.{text_of}
use Rattle.ioa_text_reader.specs.Texts.{bare}
use Rattle.ioa_text_reader.proofs.SoundTexts.{whole_sound}
use Rattle.ioa_text_reader.proofs.parsing.read.Goals as goal

pub new-requires : goal.new-requires
new-requires c =
    let same : bare c.in-Ok.located.items ≡ c.new-rest.result = ap bare (sym c.as_slice.ensures.value) ∙ sym c.new-rest.ensures in
    let spelled = whole_sound (bare c.in-Ok.located.items) c.whole.new.tokens (text_of c.in-Ok-whole.text) (rw same c.in-Ok-whole.ensures) in
    merely (c.args.text.now, omega arith, (c.in-Ok.located.items, c.in-Ok.ensures, spelled))

pub returns-in-Ok-whole : goal.returns-in-Ok-whole
returns-in-Ok-whole c =
    let same : bare c.in-Ok.located.items ≡ c.new-rest.result = ap bare (sym c.as_slice.ensures.value) ∙ sym c.new-rest.ensures in
    (omega arith, (c.in-Ok.located.items, c.whole.new.tokens, c.in-Ok.ensures, rw (c.new.ensures, same) c.in-Ok-whole.ensures))
