use Rattle.std.proofs.Common.{sym}
use Rattle.ioa_values.proofs.Ascending.{key_is_member}
use Rattle.ioa_values.proofs.Members.{same_values, value_with, value_without}
use Rattle.ioa_values.proofs.laws.maps_law.Goals as goal

pub returns-clause-told : goal.returns-clause-told
returns-clause-told c = same_values

pub returns-clause-keys : goal.returns-clause-keys
returns-clause-keys c = λ k es a. sym (key_is_member k es a)

pub returns-clause-with_entry : goal.returns-clause-with_entry
returns-clause-with_entry c = value_with

pub returns-clause-without_key : goal.returns-clause-without_key
returns-clause-without_key c = value_without
