-- What hands hold, as the code has it, and how it is tied to the book (form).
use Rattle.std.specs.Prelude.{◌≡◌, ◌≤◌, ℕ, Bool, true, false, ⊤, Box, List, length, take}
use Rattle.std.specs.Prelude.{Option, Some, None, Result, Ok, Err}
use Rattle.std.specs.List.{All, list_any, sum}
use Rattle.std.specs.Option.{is_none}
use Rattle.ioa_actions.specs.declared.action.Action.{Action}
use Rattle.ioa_actions.specs.declared.fault.StepFault.{StepFault}
use Rattle.ioa_compose.specs.Composition.{find_confs}
use Rattle.ioa_compose.specs.Executions.{replay}
use Rattle.ioa_compose.specs.Participants.{participants_of}
use Rattle.ioa_commits.specs.Books.{PlainBook, plain_book, states_held}
use Rattle.ioa_commits.specs.Proposals.{PlainProposal}
use Rattle.ioa_book.specs.Looks.{PlainSnapshot, snapshot_after}
use Rattle.ioa_book.specs.Proposals.{proposal_answer, reads_held}
use Rattle.ioa_book.specs.declared.outcome.LookFault.{LookFault}
use Rattle.ioa_book.specs.declared.outcome.LookFault.TheVariants.{Unknown}
use Rattle.ioa_core.specs.Cores.{PlainHand, empty, looked, proposed}
use Rattle.ioa_core.specs.Replies.{is_memory_fault}
use Rattle.ioa_core.specs.declared.hand.Hand.{Hand}
use Rattle.ioa_core.specs.declared.hand.Hand.TheVariants as hand
use Rattle.ioa_core.specs.declared.hand.Drawn.{Drawn}
use Rattle.ioa_core.specs.declared.hand.Drawn.TheVariants as drawn

-- a book as it was when n entries were recorded
abbrev pub book_at : PlainBook → ℕ → PlainBook
book_at b n = plain_book b.start (take n b.log) b.limit

-- a look shows what the book was when its log was as long as the look says
pub record IsPastLook (b : PlainBook) (s : PlainSnapshot) : Type 0 where
  pub past : s.length ≤ length b.log
  pub look : s ≡ snapshot_after s.node b.start (take s.length b.log)

-- a proposal has read what the book held of its participants then, and all of them were there
pub record IsPastProposal (b : PlainBook) (p : PlainProposal) : Type 0 where
  pub past : p.length ≤ length b.log
  pub reads : p.reads ≡ reads_held (book_at b p.length) (participants_of p.entry.action)
  pub there : list_any is_none (find_confs (participants_of p.entry.action) (states_held (book_at b p.length))) ≡ false

module _ {O : Type 0} where
  -- what a hand holds, to a contract
  abbrev pub hand_view : Hand O → PlainHand
  hand_view hand.Empty = empty
  hand_view (hand.Looked s) = looked s.value.node s.value.length
  hand_view (hand.Proposed p) = proposed p.entry p.length

  -- whether that is a proposal
  abbrev pub is_proposed : Hand O → Bool
  is_proposed hand.Empty = false
  is_proposed (hand.Looked s) = false
  is_proposed (hand.Proposed p) = true

  -- what a hand holds is of the book's past
  abbrev pub IsTrueHand : PlainBook → Hand O → Type 0
  IsTrueHand b hand.Empty = ⊤
  IsTrueHand b (hand.Looked s) = IsPastLook b s.value
  IsTrueHand b (hand.Proposed p) = IsPastProposal b p

  -- what comes of a proposal on a look
  abbrev pub drawn_on : Result PlainProposal StepFault → Drawn O
  drawn_on (Ok p) = drawn.Proposal p
  drawn_on (Err f) = drawn.Refused f

  -- the same, by what a hand holds
  abbrev pub drawn_by : Action → Hand O → Drawn O
  drawn_by a hand.Empty = drawn.Nothing
  drawn_by a (hand.Looked s) = drawn_on (proposal_answer a s.value)
  drawn_by a (hand.Proposed p) = drawn.Nothing

  -- whether a proposal is refused for want of memory
  abbrev pub is_refused_for_memory : Drawn O → Bool
  is_refused_for_memory (drawn.Proposal p) = false
  is_refused_for_memory (drawn.Refused f) = is_memory_fault f
  is_refused_for_memory drawn.Nothing = false

  -- the law of a core: the log replays from the start (Lynch 8.1) within the limit, what each hand holds is of the
  -- book's past, and the counts, one for each hand, sum to the length of the log
  pub record IsTied (b : PlainBook) (hands : List (Hand O)) (counts : List ℕ) : Type 0 where
    pub leads : replay b.log b.start ≡ Some (states_held b)
    pub within : length b.log ≤ b.limit
    pub limited : b.limit ≤ 1000000
    pub true_hands : All (IsTrueHand b) hands
    pub as_many : length counts ≡ length hands
    pub counted : sum counts ≡ length b.log

module _ {Z : Type 0} where
  -- a look that was found, or that there is none
  abbrev pub look_result : Option (Box PlainSnapshot Z) → Result PlainSnapshot LookFault
  look_result None = Err Unknown
  look_result (Some s) = Ok s.value
