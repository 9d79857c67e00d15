use Rattle.std.proofs.Common.{rules, ◌≡◌, List, ◌∷◌, length, sym, subst}
use Rattle.ioa_receipts.specs.Covers.{CoversOnce, all_receipts, numbered}
use Rattle.ioa_receipts.specs.Receipts.{PlainReceipts}
use Rattle.ioa_receipts.proofs.Numbered.{one_covers}
use Rattle.ioa_receipts.proofs.covering.are_all_in_order.Goals as goal

pub returns-then-is_empty : goal.returns-then-is_empty
returns-then-is_empty c =
    let whole : c.args.workers.now ≡ c.in-Some.receipts.now ∷ c.in-Some.others.now = search rules in
    let none : length c.in-Some.others.now ≡ 0 = search rules in
    λ h.
    let same : c.in-Some.receipts.now.all ≡ numbered 0 c.args.log.now = c.are_in_order.ensures h in
    subst (λ (ws : List PlainReceipts). CoversOnce c.args.log.now (all_receipts ws)) (sym whole)
    (one_covers c.args.log.now c.in-Some.receipts.now c.in-Some.others.now none same)
