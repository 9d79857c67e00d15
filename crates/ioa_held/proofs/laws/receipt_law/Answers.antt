use Rattle.ioa_held.proofs.ReceiptLaws.{receipt_of}
use Rattle.ioa_held.proofs.laws.receipt_law.Goals as goal

pub returns : goal.returns
returns c = receipt_of
