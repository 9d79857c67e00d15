use Rattle.std.proofs.Common.{refl, rules}
use Rattle.ioa_receipts.proofs.Joining.{put_there, put_taken, put_past}
use Rattle.ioa_receipts.proofs.table.Table.put.Goals as goal

pub returns-in-Some-None : goal.returns-in-Some-None
returns-in-Some-None c =
    put_there c.args.receipt.now c.args.self.now c.self.inside.places.items c.in-Some-None.field-0.now _
    c.self.view_is (search rules) (search rules) c.in-Some-None.field-0-is refl

pub returns-in-Some-Some : goal.returns-in-Some-Some
returns-in-Some-Some c =
    put_taken c.args.receipt.now c.args.self.now c.self.inside.places.items c.in-Some-Some.field-0.now c.in-Some-Some.field-0-0
    c.self.view_is (search rules) (search rules) c.in-Some-Some.field-0-is

pub returns-in-None : goal.returns-in-None
returns-in-None c =
    put_past c.args.receipt.now c.args.self.now c.self.inside.places.items c.self.view_is (search rules)
