use Rattle.ioa_values.proofs.Members.{same_members, member_with, member_without, member_set_of, member_union}
use Rattle.ioa_values.proofs.laws.sets_law.Goals as goal

pub returns-clause-told : goal.returns-clause-told
returns-clause-told c = same_members

pub returns-clause-with_member : goal.returns-clause-with_member
returns-clause-with_member c = member_with

pub returns-clause-without_member : goal.returns-clause-without_member
returns-clause-without_member c = member_without

pub returns-clause-set_of : goal.returns-clause-set_of
returns-clause-set_of c = member_set_of

pub returns-clause-union : goal.returns-clause-union
returns-clause-union c = member_union
