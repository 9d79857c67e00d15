use denote.RattleType.{RattleType}
use denote.Param.Send.{IsSend}
use Rattle.ioa_sharing.specs.contracts.tokens.Entry.{the_row}
use Rattle.ioa_sharing.proofs.Walk.{entry_keyless}

-- an entry owns no token of one thread, and no value
pub send : (T : RattleType) → IsSend (the_row T)
send T = record {
  owned = λ e vs. ((λ vss. (tt, ((λ uss. (tt, tt)), tt))), entry_keyless T.coded.code e.name e.number e.value);
  leaving = λ k f vs. tt;
}
