use Rattle.std.proofs.Common.{rules, sym, ◌∙◌}
use Rattle.ioa_tell_text.specs.Kept.{is_of}
use Rattle.ioa_tell_text.proofs.Firsts.{all_stay, found_at, none_found, others_at}
use Rattle.ioa_tell_text.proofs.Places.{place_is}
use Rattle.ioa_tell_text.proofs.keeping.taken_out.Goals as goal

pub returns-in-Some-clause-found : goal.returns-in-Some-clause-found
returns-in-Some-clause-found c =
    let told = place_is _ c.args.node _ c.args.waiting.now.items _ c.place_of.ensures (search rules) c.deref.ensures.value in
    let at = sym told ∙ c.in-Some.is in
    found_at (is_of c.args.node) c.args.waiting.now.items c.in-Some.place c.remove.result at c.remove.ensures.value

pub returns-in-Some-clause-rest : goal.returns-in-Some-clause-rest
returns-in-Some-clause-rest c =
    let told = place_is _ c.args.node _ c.args.waiting.now.items _ c.place_of.ensures (search rules) c.deref.ensures.value in
    let at = sym told ∙ c.in-Some.is in
    c.remove.ensures.items ∙ others_at (is_of c.args.node) c.args.waiting.now.items c.in-Some.place at

pub returns-in-None-clause-found : goal.returns-in-None-clause-found
returns-in-None-clause-found c =
    let at = place_is _ c.args.node _ c.args.waiting.now.items _ c.place_of.ensures (search rules) c.deref.ensures.value in
    none_found (is_of c.args.node) c.args.waiting.now.items (sym at ∙ c.in-None.is)

pub returns-in-None-clause-rest : goal.returns-in-None-clause-rest
returns-in-None-clause-rest c =
    let at = place_is _ c.args.node _ c.args.waiting.now.items _ c.place_of.ensures (search rules) c.deref.ensures.value in
    all_stay (is_of c.args.node) c.args.waiting.now.items (sym at ∙ c.in-None.is)
