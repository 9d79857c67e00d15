-- The grammar of lines (profile; sends and receives Lynch 14.1): an action, and the values that its effect chose.
-- `SpellsAction names a xs ys` says that the tokens `xs` are a spelling of `a` and after it `ys`; `names` are those of
-- the text's constants, in order.
use Rattle.std.specs.Prelude.{◌≡◌, ℕ, ℤ, Bool, true, false, ◌||◌, List, [], ◌∷◌}
use Rattle.std.specs.List.{list_all}
use Rattle.ioa_tokens.specs.declared.token.Token.{Token}
use Rattle.ioa_tokens.specs.declared.token.Token.TheVariants as token
use Rattle.ioa_tokens.specs.declared.mark.Mark.TheVariants as mark
use Rattle.ioa_values.specs.Data.{Data, items_of, number, truth, constant, tuple, sequence, finite_set, finite_map}
use Rattle.ioa_actions.specs.ActionParts.{receive_name, send_name}
use Rattle.ioa_actions.specs.declared.action.Action.{Action}
use Rattle.ioa_actions.specs.declared.action.Action.TheVariants.{Send, Receive, Local, Stimulus}
use Rattle.ioa_actions.specs.declared.action.NodeAction.{NodeAction}
use Rattle.ioa_terms.specs.Bindings.{same_word}
use Rattle.ioa_transitions.specs.Entries.{PlainEntry}
use Rattle.ioa_value_reader.specs.Grammar.{SpellsItems}

-- the arguments of an action
pub data SpellsArguments (names : List (List ℕ)) : List Data → List Token → List Token → Type 0 where
  -- nothing
  none : {ys : List Token} → SpellsArguments names [] ys ys
  -- ( Value {, Value} )
  listed : {vs : List Data} {xs ys : List Token} →
      SpellsItems names (items_of vs) xs (token.Mark mark.CloseRound ∷ ys) →
      SpellsArguments names vs (token.Mark mark.OpenRound ∷ xs) ys

-- whether a name is that of sends or that of receives
abbrev pub is_message_name : List ℕ → Bool
is_message_name w = same_word w send_name || same_word w receive_name

pub data SpellsAction (names : List (List ℕ)) : Action → List Token → List Token → Type 0 where
  -- send ( m , i , j )
  sent : {m : Data} {i j : ℤ} {xs ys : List Token} → SpellsArguments names (m ∷ number i ∷ number j ∷ []) xs ys →
      SpellsAction names (Send m i j) (token.Word send_name ∷ xs) ys
  -- receive ( m , i , j )
  received : {m : Data} {i j : ℤ} {xs ys : List Token} → SpellsArguments names (m ∷ number i ∷ number j ∷ []) xs ys →
      SpellsAction names (Receive m i j) (token.Word receive_name ∷ xs) ys
  -- a ( v , w ) @ k, or a @ k: an output or internal action of node k, or an input
  local : (a : NodeAction) {xs ys : List Token} → is_message_name a.name ≡ false →
      SpellsArguments names a.arguments xs (token.Mark mark.AtSign ∷ token.Number a.node ∷ ys) →
      SpellsAction names (Local a) (token.Word a.name ∷ xs) ys
  stimulus : (a : NodeAction) {xs ys : List Token} → is_message_name a.name ≡ false →
      SpellsArguments names a.arguments xs (token.Mark mark.AtSign ∷ token.Number a.node ∷ ys) →
      SpellsAction names (Stimulus a) (token.Word a.name ∷ xs) ys

-- whether a value is one that an effect can choose: a number, a truth value or a constant
abbrev pub is_simple : Data → Bool
is_simple (number z) = true
is_simple (truth b) = true
is_simple (constant k) = true
is_simple (tuple ds) = false
is_simple (sequence ds) = false
is_simple (finite_set ds) = false
is_simple (finite_map es) = false

-- the values that an effect chose, with nothing behind them
pub data SpellsChosen (names : List (List ℕ)) : List Data → List Token → Type 0 where
  -- nothing
  nothing_chosen : SpellsChosen names [] []
  -- choose Value {, Value}
  chosen : {vs : List Data} {xs : List Token} → list_all is_simple vs ≡ true → SpellsItems names (items_of vs) xs [] →
      SpellsChosen names vs (token.Mark mark.Choose ∷ xs)

-- an entry, its action and what its effect chose, with nothing behind it, and a number in front or none
pub data SpellsAlone (names : List (List ℕ)) (e : PlainEntry) : List Token → Type 0 where
  plain : {xs ys : List Token} →
      SpellsAction names e.action xs ys → SpellsChosen names e.chosen ys → SpellsAlone names e xs
  numbered : {n : ℤ} {xs ys : List Token} →
      SpellsAction names e.action xs ys → SpellsChosen names e.chosen ys →
      SpellsAlone names e (token.Number n ∷ xs)
