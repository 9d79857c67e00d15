use denote.Param.Send.{IsSend}
use Rattle.ioa_sharing.specs.contracts.tokens.Ledger.{the_row}
use Rattle.ioa_sharing.proofs.Walk.{ledger_keyless}

-- the ledger owns no token of one thread
pub send : IsSend the_row
send = record {
  owned = λ l vs. ((λ vss. (tt, ((λ uss. (tt, tt)), tt))), ledger_keyless l.name l.log);
  leaving = λ k f vs. tt;
}
