-- The tokens that an action is printed as are those of a line, and a spelling of it.
use Rattle.std.proofs.Common.{◌≡◌, ◌≢◌, ℕ, ◌≤◌, ℤ, pos, true, false, List, [], ◌∷◌, length, refl, arith, ⊎_elim}
use Rattle.std.specs.List.{AllByRecursion}
use Rattle.std.specs.Cmp.Lexicographic.{bytes_decides}
use Rattle.std.proofs.lemmas.Bool.{cases_Bool}
use Rattle.std.proofs.lemmas.Bool.Decides.{nat_tests}
use Rattle.ioa_values.specs.Canonical.{AllCanonical}
use Rattle.ioa_values.specs.Data.{Data, fits, number, items_of}
use Rattle.ioa_values.proofs.Canonicals.{items_all}
use Rattle.ioa_tokens.specs.declared.mark.Mark.TheVariants as mark
use Rattle.ioa_tokens.specs.declared.token.Token.TheVariants as token
use Rattle.ioa_tokens.specs.declared.written.Gap.{Gap}
use Rattle.ioa_tokens.specs.declared.written.Gap.TheVariants as gap
use Rattle.ioa_tokens.specs.Lexeme.{greatest_number}
use Rattle.ioa_tokens.specs.Tables.{mark_text, signs, reserved, left_out_words}
use Rattle.ioa_tokens.specs.Written.{IsName}
use Rattle.ioa_tokens.proofs.Apart.{loose_touches, apart_from_closed}
use Rattle.ioa_terms.specs.Bindings.{same_word}
use Rattle.ioa_actions.specs.ActionParts.{action_arguments, send_name, receive_name}
use Rattle.ioa_actions.specs.declared.action.NodeAction.{NodeAction}
use Rattle.ioa_actions.specs.declared.action.Action.{Action}
use Rattle.ioa_actions.specs.declared.action.Action.TheVariants.{Send, Receive, Local, Stimulus}
use Rattle.ioa_lines.specs.Grammar.{SpellsArguments, SpellsAction, none, listed, sent, received, local, stimulus, is_message_name}
use Rattle.ioa_printed_lines.specs.TextSystems.{AreConstantNames}
use Rattle.ioa_printed_lines.proofs.Printables.{IsPrintable, ArePrintable, IsPrintableAtNode, IsPrintableAction}
use Rattle.ioa_printed_lines.proofs.WrittenLines.{IsInLine, AreLineTokens}
use Rattle.ioa_printed_lines.proofs.ValuePieces.{Pieces, number_pieces, items_pieces}
use Rattle.ioa_printed_lines.proofs.GoodPieces.{IsLoose, items_good, number_good}
use Rattle.ioa_printed_lines.proofs.ValueSpellings.{piece_tokens, items_spelled}
use Rattle.ioa_printed_lines.proofs.ActionPieces.{bracket_pieces, arguments_pieces, at_node_pieces, action_pieces}

-- values of a list that can be printed
all_printable : (many : ℕ) (vs : List Data) → AllByRecursion (IsPrintable many) vs → ArePrintable many (items_of vs)
all_printable many [] all = tt
all_printable many (v ∷ vs) all = (all.0, all_printable many vs all.1)

-- round brackets and `@` may come behind any token
round_loose : (rest : Pieces) → IsLoose ((gap.Joined, token.Mark mark.OpenRound) ∷ rest)
unfolding mark_text signs reserved
round_loose rest t = loose_touches t mark.OpenRound refl

closed_loose : (rest : Pieces) → IsLoose ((gap.Joined, token.Mark mark.CloseRound) ∷ rest)
unfolding mark_text signs reserved
closed_loose rest t = loose_touches t mark.CloseRound refl

at_loose : (rest : Pieces) → IsLoose ((gap.Joined, token.Mark mark.AtSign) ∷ rest)
unfolding mark_text signs reserved
at_loose rest t = loose_touches t mark.AtSign refl

arguments_loose : (names : List (List ℕ)) (vs : List Data) (rest : Pieces) → IsLoose rest → IsLoose (arguments_pieces names vs rest)
arguments_loose names [] rest loose = loose
arguments_loose names (v ∷ vs) rest loose = round_loose (items_pieces names (items_of (v ∷ vs)) ((gap.Joined, token.Mark mark.CloseRound) ∷ rest))

-- the names of messages
send_is_name : IsName send_name
unfolding reserved left_out_words
send_is_name = (refl, refl, refl)

receive_is_name : IsName receive_name
unfolding reserved left_out_words
receive_is_name = (refl, refl, refl)

-- a name that is not one of these
no_message_name : (w : List ℕ) → w ≢ send_name → w ≢ receive_name → is_message_name w ≡ false
no_message_name w no_send no_receive =
    let first : same_word w send_name ≡ false = ⊎_elim (λ yes. absurd (no_send ((bytes_decides w send_name).0 yes))) (λ no. no) (cases_Bool (same_word w send_name)) in
    let second : same_word w receive_name ≡ false = ⊎_elim (λ yes. absurd (no_receive ((bytes_decides w receive_name).0 yes))) (λ no. no) (cases_Bool (same_word w receive_name)) in
    rw (first, second) refl

-- the number of a node
node_fits : (a : NodeAction) → IsPrintableAtNode a → fits a.node ≡ true
node_fits a is = let low : is.number ≤ greatest_number = is.fits in rw is.node (grind (arith, nat_tests))

-- its token
node_tokens : (k : ℤ) (n : ℕ) (rest : Pieces) → k ≡ pos n → piece_tokens (number_pieces gap.Joined k rest) ≡ token.Number k ∷ piece_tokens rest
node_tokens k n rest same = rw same refl

module _ (names : List (List ℕ)) (are : AreConstantNames names) where
  -- arguments between brackets
  bracket_good : (vs : List Data) (rest : Pieces) → AllByRecursion (IsPrintable (length names)) vs → IsLoose rest → AreLineTokens false rest → AreLineTokens false (bracket_pieces names vs rest)
  bracket_good vs rest all loose good =
      let end : Pieces = (gap.Joined, token.Mark mark.CloseRound) ∷ rest in
      (tt, tt, apart_from_closed mark.OpenRound (items_pieces names (items_of vs) end) refl, items_good names are.words (items_of vs) end (all_printable (length names) vs all) (closed_loose rest) (tt, tt, loose (token.Mark mark.CloseRound), good))

  arguments_good : (vs : List Data) (rest : Pieces) → AllByRecursion (IsPrintable (length names)) vs → IsLoose rest → AreLineTokens false rest → AreLineTokens false (arguments_pieces names vs rest)
  arguments_good [] rest all loose good = good
  arguments_good (v ∷ vs) rest all loose good = bracket_good (v ∷ vs) rest all loose good

  -- an action of one node
  at_node_good : (g : Gap) (a : NodeAction) (rest : Pieces) → IsInLine g → IsPrintableAtNode a → AllByRecursion (IsPrintable (length names)) a.arguments → IsLoose rest → AreLineTokens false rest → AreLineTokens false (at_node_pieces names g a rest)
  at_node_good g a rest in_line is all loose good =
      let node = number_pieces gap.Joined a.node rest in
      let end : Pieces = (gap.Joined, token.Mark mark.AtSign) ∷ node in
      let number_is : AreLineTokens false node = number_good gap.Joined a.node rest tt (node_fits a is) loose good in
      let end_is : AreLineTokens false end = (tt, tt, apart_from_closed mark.AtSign node refl, number_is) in
      (in_line, is.name, arguments_loose names a.arguments end (at_loose node) (token.Word a.name), arguments_good a.arguments end all (at_loose node) end_is)

  -- an action
  pub action_good : (g : Gap) (a : Action) (rest : Pieces) → IsInLine g → IsPrintableAction (length names) a → IsLoose rest → AreLineTokens false rest → AreLineTokens false (action_pieces names g a rest)
  action_good g (Send m i j) rest in_line is loose good =
      (in_line, send_is_name, arguments_loose names (m ∷ number i ∷ number j ∷ []) rest loose (token.Word send_name), bracket_good (m ∷ number i ∷ number j ∷ []) rest is.arguments loose good)
  action_good g (Receive m i j) rest in_line is loose good =
      (in_line, receive_is_name, arguments_loose names (m ∷ number i ∷ number j ∷ []) rest loose (token.Word receive_name), bracket_good (m ∷ number i ∷ number j ∷ []) rest is.arguments loose good)
  action_good g (Local a) rest in_line is loose good = at_node_good g a rest in_line is.own is.arguments loose good
  action_good g (Stimulus a) rest in_line is loose good = at_node_good g a rest in_line is.own is.arguments loose good

  -- arguments, or nothing if there are none
  arguments_spelled : (vs : List Data) (rest : Pieces) → AllByRecursion (IsPrintable (length names)) vs → AllCanonical vs → SpellsArguments names vs (piece_tokens (arguments_pieces names vs rest)) (piece_tokens rest)
  arguments_spelled [] rest all canonical = none
  arguments_spelled (v ∷ vs) rest all canonical =
      listed (items_spelled names are.differ gap.Joined (items_of (v ∷ vs)) ((gap.Joined, token.Mark mark.CloseRound) ∷ rest) tt (all_printable (length names) (v ∷ vs) all) (items_all (v ∷ vs) canonical))

  -- those of an action of one node, and its node
  at_node_spelled : (a : NodeAction) (rest : Pieces) → IsPrintableAtNode a → AllByRecursion (IsPrintable (length names)) a.arguments → AllCanonical a.arguments → SpellsArguments names a.arguments (piece_tokens (arguments_pieces names a.arguments ((gap.Joined, token.Mark mark.AtSign) ∷ number_pieces gap.Joined a.node rest))) (token.Mark mark.AtSign ∷ token.Number a.node ∷ piece_tokens rest)
  at_node_spelled a rest is all canonical =
      let node = number_pieces gap.Joined a.node rest in
      rw (← node_tokens a.node is.number rest is.node) (arguments_spelled a.arguments ((gap.Joined, token.Mark mark.AtSign) ∷ node) all canonical)

  -- an action
  pub action_spelled : (g : Gap) (a : Action) (rest : Pieces) → IsPrintableAction (length names) a → AllCanonical (action_arguments a) → SpellsAction names a (piece_tokens (action_pieces names g a rest)) (piece_tokens rest)
  action_spelled g (Send m i j) rest is canonical = sent (arguments_spelled (m ∷ number i ∷ number j ∷ []) rest is.arguments canonical)
  action_spelled g (Receive m i j) rest is canonical = received (arguments_spelled (m ∷ number i ∷ number j ∷ []) rest is.arguments canonical)
  action_spelled g (Local a) rest is canonical = local a (no_message_name a.name is.own.no_send is.own.no_receive) (at_node_spelled a rest is.own is.arguments canonical)
  action_spelled g (Stimulus a) rest is canonical = stimulus a (no_message_name a.name is.own.no_send is.own.no_receive) (at_node_spelled a rest is.own is.arguments canonical)
