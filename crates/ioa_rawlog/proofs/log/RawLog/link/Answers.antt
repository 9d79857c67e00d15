use Rattle.std.proofs.Common.{◌≤◌, ◌++◌, [], ◌∷◌, sym, ap, subst, ◌∙◌, length, arith}
use Rattle.std.specs.Prelude.{nat_eq}
use Rattle.std.proofs.lemmas.Bool.{eqb-true}
use lib.ListN.{length-append}
use Rattle.ioa_rawlog.specs.Blocks.{joined, IsLaid}
use Rattle.ioa_rawlog.proofs.Laying.{laid_none, laid_longer, joined_longer}
use Rattle.ioa_rawlog.proofs.log.RawLog.link.Goals as goal

pub link-requires : goal.link-requires
link-requires g c =
    let laid = c.self.invariant in
    let bs = c.self.inside.nodes.items in (
      λ first. laid_none bs laid.0 (sym laid.1 ∙ eqb-true c.self.inside.len 0 first),
      λ none. ap (λ n. nat_eq n 0) (laid.1 ∙ ap (λ l. length (joined l)) none),
    )

pub invariant_of-self : goal.invariant_of-self
invariant_of-self g c =
    let laid = c.self.invariant in
    let bs = c.self.inside.nodes.items in
    let b = c.fill.new.block in
    let x = c.args.item in
    let one = c.fill.ensures.items ∙ ap (λ ys. ys ++ x ∷ []) c.into_parts-block.ensures.empty in
    let roomy : 64 ≤ b.cap = omega (arith, c.into_parts-block.ensures.roomy, c.fill.ensures.room) in (
      subst IsLaid (sym c.link.ensures) (laid_longer bs b x laid.0 (omega (arith, ap length c.self.view_is, c.requires.full)) one roomy),
      omega (arith, laid.1, ap (λ l. length (joined l)) c.link.ensures, ap length (joined_longer bs b x one), length-append (joined bs) (x ∷ [])),
    )

pub returns : goal.returns
returns g c =
    let x = c.args.item in
    let one = c.fill.ensures.items ∙ ap (λ ys. ys ++ x ∷ []) c.into_parts-block.ensures.empty in
    ap joined c.link.ensures ∙ joined_longer c.self.inside.nodes.items c.fill.new.block x one ∙ ap (λ ys. ys ++ x ∷ []) c.self.view_is
