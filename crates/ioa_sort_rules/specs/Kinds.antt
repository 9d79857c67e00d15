-- The kinds of operators and functions (profile): those of one kind have one rule of sorts.
use Rattle.ioa_operators.specs.declared.operator.UnaryOperator.{UnaryOperator}
use Rattle.ioa_operators.specs.declared.operator.UnaryOperator.TheVariants.{Not, Negative}
use Rattle.ioa_operators.specs.declared.operator.BinaryOperator.{BinaryOperator}
use Rattle.ioa_operators.specs.declared.operator.BinaryOperator.TheVariants as binary
use Rattle.ioa_operators.specs.declared.operator.Function.{Function}
use Rattle.ioa_operators.specs.declared.operator.Function.TheVariants as function
use Rattle.ioa_sort_rules.specs.declared.kinds.Single.{Single}
use Rattle.ioa_sort_rules.specs.declared.kinds.Single.TheVariants as single
use Rattle.ioa_sort_rules.specs.declared.kinds.Alike.TheVariants.{Truths, Numbers, Order, Equality}
use Rattle.ioa_sort_rules.specs.declared.kinds.Alike.TheVariants.{Concatenation, Union}
use Rattle.ioa_sort_rules.specs.declared.kinds.Pairing.{Pairing}
use Rattle.ioa_sort_rules.specs.declared.kinds.Pairing.TheVariants.{Both, Membership, Prepend, Append, Members}
use Rattle.ioa_sort_rules.specs.declared.kinds.Pairing.TheVariants.{At, Removal, Definition}
use Rattle.ioa_sort_rules.specs.declared.kinds.Arity.{Arity}
use Rattle.ioa_sort_rules.specs.declared.kinds.Arity.TheVariants.{One, Two, Update}

abbrev pub single_of : UnaryOperator → Single
single_of Not = single.Truth
single_of Negative = single.Number

abbrev pub pairing_of : BinaryOperator → Pairing
pairing_of binary.Equivalent = Both Truths
pairing_of binary.Implies = Both Truths
pairing_of binary.Or = Both Truths
pairing_of binary.And = Both Truths
pairing_of binary.Equal = Both Equality
pairing_of binary.NotEqual = Both Equality
pairing_of binary.Less = Both Order
pairing_of binary.AtMost = Both Order
pairing_of binary.Greater = Both Order
pairing_of binary.AtLeast = Both Order
pairing_of binary.Member = Membership
pairing_of binary.Prepend = Prepend
pairing_of binary.Append = Append
pairing_of binary.Concatenate = Both Concatenation
pairing_of binary.Plus = Both Numbers
pairing_of binary.Minus = Both Numbers
pairing_of binary.Times = Both Numbers
pairing_of binary.At = At

abbrev pub arity_of : Function → Arity
arity_of function.Head = One single.Item
arity_of function.Tail = One single.Rest
arity_of function.Length = One single.Length
arity_of function.Size = One single.Size
arity_of function.Quotient = Two (Both Numbers)
arity_of function.Remainder = Two (Both Numbers)
arity_of function.Insert = Two Members
arity_of function.Delete = Two Members
arity_of function.Union = Two (Both Union)
arity_of function.Update = Update
arity_of function.Remove = Two Removal
arity_of function.Defined = Two Definition
