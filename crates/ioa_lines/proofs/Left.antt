-- The lines that are left behind the next entry.
use Rattle.std.proofs.Common.{◌≡◌, inl, inr, ℕ, ◌+◌, ◌<◌, List, [], ◌∷◌, ◌++◌, Option, Some, None, length, refl, sym, ◌∙◌, ap, arith}
use Rattle.std.specs.Prelude.{IfOk, IfSome, Result, Ok, Err}
use Rattle.std.proofs.lemmas.List.{append_assoc, append-nil}
use Rattle.ioa_values.specs.Outcome.{Answers, and_then}
use Rattle.ioa_tokens.specs.LineTokens.{line_tokens}
use Rattle.ioa_transitions.specs.Entries.{PlainEntry}
use Rattle.ioa_system.specs.Systems.{SystemParts}
use Rattle.ioa_lines.specs.Lines.{Entries, LinesLeft, Next, TellsEntries, cut_entry, entries_by, entries_from, entries_left, lines_left, next_answer, next_by, next_from, with_entry}
use Rattle.ioa_lines.specs.declared.fault.LineFault.{LineFault}
use Rattle.ioa_lines.specs.declared.fault.LineFault.TheVariants.{BadLine, Memory}

-- the next entry, and those of the lines that are left behind it
abbrev pub entries_behind : SystemParts → Option PlainEntry × LinesLeft → Entries
entries_behind s (None, left) = Ok []
entries_behind s (Some x, left) = with_entry x (entries_left s left)

-- one line
behind_line : (s : SystemParts) (k : ℕ) (lines : List (List ℕ)) (r : Result (Option PlainEntry) LineFault) → entries_from s lines k ≡ and_then (next_from s k lines) (entries_behind s) →
    and_then r (λ o. entries_by k o (entries_from s lines)) ≡ and_then (and_then r (λ o. next_by k lines o (next_from s k lines))) (entries_behind s)
unfolding entries_left
behind_line s k lines (Ok None) h = h
behind_line s k lines (Ok (Some x)) h = refl
behind_line s k lines (Err e) h = refl

-- the entries of lines are the next one and those behind it
entries_next : (s : SystemParts) (lines : List (List ℕ)) (k : ℕ) → entries_from s lines k ≡ and_then (next_from s k lines) (entries_behind s)
entries_next s [] k = refl
entries_next s (line ∷ lines) k = behind_line s k lines (cut_entry s k (line_tokens line)) (entries_next s lines k)

-- the entries of the lines that are left are the next one and those behind it
pub entries_left_next : (s : SystemParts) (left : LinesLeft) → entries_left s left ≡ and_then (next_answer s left) (entries_behind s)
unfolding entries_left next_answer
entries_left_next s left = entries_next s left.lines left.count

-- what a call tells that reads on
pub next_tells : (s : SystemParts) (old new : LinesLeft) (r : Result (Option PlainEntry) LineFault) → Answers Memory (λ o. (o, new)) r (next_answer s old) → TellsEntries s old r new
next_tells s old new (Ok (Some x)) h = entries_left_next s old ∙ ap (λ n. and_then n (entries_behind s)) h
next_tells s old new (Ok None) h = entries_left_next s old ∙ ap (λ n. and_then n (entries_behind s)) h
next_tells s old new (Err (BadLine k)) (inl e) = absurd (cc)
next_tells s old new (Err (BadLine k)) (inr h) = entries_left_next s old ∙ ap (λ n. and_then n (entries_behind s)) h
next_tells s old new (Err Memory) h = tt

-- what is left, if something is
left_or : LinesLeft → Next → LinesLeft
left_or left (Ok p) = p.1
left_or left (Err e) = left

-- the next entry, if one comes
entry_of : Next → Option PlainEntry
entry_of (Ok p) = p.0
entry_of (Err e) = None

-- one line less
fewer_line : (s : SystemParts) (k : ℕ) (lines : List (List ℕ)) (x : PlainEntry) (new : LinesLeft) (r : Result (Option PlainEntry) LineFault) → (next_from s k lines ≡ Ok (Some x, new) → length new.lines < length lines) →
    and_then r (λ o. next_by k lines o (next_from s k lines)) ≡ Ok (Some x, new) → length new.lines < length lines + 1
unfolding left_or
fewer_line s k lines x new (Ok None) more h = omega (arith, more h)
fewer_line s k lines x new (Ok (Some b)) more h = let same : length lines ≡ length new.lines = ap (λ r. length (left_or new r).lines) h in omega arith
fewer_line s k lines x new (Err e) more h = absurd (cc)

abbrev ended : ℕ → Next
ended k = Ok (None, lines_left k [])

abbrev comes : PlainEntry → LinesLeft → Next
comes x new = Ok (Some x, new)

no_line : (k : ℕ) (x : PlainEntry) (new : LinesLeft) → ended k ≡ comes x new → ⊥
unfolding entry_of
no_line k x new h = let same : None ≡ Some x = ap entry_of h in absurd (cc)

fewer_left : (s : SystemParts) (k : ℕ) (lines : List (List ℕ)) (x : PlainEntry) (new : LinesLeft) → next_from s k lines ≡ Ok (Some x, new) → length new.lines < length lines
fewer_left s k [] x new h = absurd (no_line k x new h)
fewer_left s k (line ∷ lines) x new h = let fewer = fewer_line s k lines x new (cut_entry s k (line_tokens line)) (fewer_left s k lines x new) h in omega (arith, fewer)

-- a call that returns an entry leaves fewer lines
pub next_fewer : (s : SystemParts) (old new : LinesLeft) (r : Result (Option PlainEntry) LineFault) → Answers Memory (λ o. (o, new)) r (next_answer s old) → IfOk r (λ o. IfSome o (λ _. length new.lines < length old.lines))
unfolding next_answer
next_fewer s old new (Ok (Some x)) h = fewer_left s old.count old.lines x new h
next_fewer s old new (Ok None) h = tt
next_fewer s old new (Err e) h = tt

-- the entries of lines behind others
abbrev pub behind : List PlainEntry → Entries → Entries
behind done r = and_then r (λ more. Ok (done ++ more))

-- none are done
pub behind_none : (r : Entries) → r ≡ behind [] r
behind_none (Ok more) = refl
behind_none (Err e) = refl

-- one more is done
pub behind_more : (done : List PlainEntry) (x : PlainEntry) (r : Entries) → behind done (with_entry x r) ≡ behind (done ++ x ∷ []) r
behind_more done x (Ok more) = ap Ok (sym (append_assoc done (x ∷ []) more))
behind_more done x (Err e) = refl

-- all are done
pub behind_all : (done : List PlainEntry) → behind done (Ok []) ≡ Ok done
behind_all done = ap Ok (append-nil done)

pub ruleset behind_rules = (behind_none, behind_more, behind_all)
