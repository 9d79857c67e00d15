-- The entries of lines, since those of each line are read as they are spelled.
use Rattle.std.proofs.Common.{◌≡◌, ℕ, ◌+◌, List, [], ◌∷◌, ◌++◌, Option, Some, None, length, refl, ap, arith}
use Rattle.std.specs.Prelude.{Result, Ok, Err}
use Rattle.ioa_tokens.specs.declared.fault.CutFault.{CutFault}
use Rattle.ioa_tokens.specs.declared.token.LocatedToken.{LocatedToken}
use Rattle.ioa_tokens.specs.LineTokens.{line_tokens}
use Rattle.ioa_values.specs.Outcome.{and_then}
use Rattle.ioa_cursor.specs.Reading.{bind, word}
use Rattle.ioa_transitions.specs.Entries.{PlainEntry}
use Rattle.ioa_system.specs.Systems.{SystemParts}
use Rattle.ioa_lines.specs.Lines.{Entries, IsBadLine, LineSpells, LinesSpell, blank, cut_entry, entries_by, entries_from, entry_line, entry_or_bad, no_line, tokens_of, with_entry}
use Rattle.ioa_lines.specs.Reading.{line_action, line_entry}
use Rattle.ioa_lines.specs.declared.fault.LineFault.{LineFault}
use Rattle.ioa_lines.specs.declared.fault.LineFault.TheVariants.{BadLine}
use Rattle.ioa_lines.proofs.CompleteLine.{line_complete}
use Rattle.ioa_lines.proofs.SoundLine.{line_sound}

-- what comes of the first line, by its tokens
module _ (s : SystemParts) (line : List ℕ) (k : ℕ) (later : ℕ → Entries) where
  abbrev first_comes : Result (Option PlainEntry) LineFault → Entries
  first_comes r = and_then r (λ o. entries_by k o later)

  -- whether it is blank, spells an entry or is bad
  pub data Comes : Entries → Type 0 where
    is_blank : line_tokens line ≡ Ok [] → Comes (later k)
    is_entry : (x : PlainEntry) → LineSpells s line x → Comes (with_entry x (later (k + 1)))
    is_bad : (line_tokens line ≡ Ok [] → ⊥) → ((x : PlainEntry) → LineSpells s line x → ⊥) → Comes (Err (BadLine k))

  not_read : (t : LocatedToken) (ts : List LocatedToken) → line_tokens line ≡ Ok (t ∷ ts) → line_entry s (tokens_of (t ∷ ts)) ≡ None → (x : PlainEntry) → LineSpells s line x → ⊥
  not_read t ts c e x d =
      let cut = d.cut in
      let same : d.tokens ≡ t ∷ ts = cc in
      let read = rw same at (line_complete s (tokens_of d.tokens) x d.spells) in
      absurd (cc)

  found : (t : LocatedToken) (ts : List LocatedToken) → line_tokens line ≡ Ok (t ∷ ts) → (o : Option PlainEntry) → line_entry s (tokens_of (t ∷ ts)) ≡ o → Comes (first_comes (and_then (entry_or_bad k o) (λ x. Ok (Some x))))
  found t ts c (Some x) e = is_entry x (record { tokens = t ∷ ts; cut = c; spells = line_sound s (tokens_of (t ∷ ts)) x e })
  found t ts c None e = is_bad (λ b. absurd (cc)) (λ x d. not_read t ts c e x d)

  cut_as : (r : Result (List LocatedToken) CutFault) → line_tokens line ≡ r → Comes (first_comes (cut_entry s k r))
  cut_as (Ok []) c = is_blank c
  cut_as (Ok (t ∷ ts)) c = found t ts c (line_entry s (tokens_of (t ∷ ts))) refl
  cut_as (Err e) c = is_bad (λ b. absurd (cc)) (λ x d. let cut = d.cut in absurd (cc))

  pub comes : Comes (first_comes (cut_entry s k (line_tokens line)))
  comes = cut_as (line_tokens line) refl

-- the entries behind one
record Rest (x : PlainEntry) (r : Entries) (all : List PlainEntry) : Type 0 where
  more : List PlainEntry
  is : r ≡ Ok more
  same : all ≡ x ∷ more

rest_of : (x : PlainEntry) (r : Entries) (all : List PlainEntry) → with_entry x r ≡ Ok all → Rest x r all
rest_of x (Ok more) all e = record { more = more; is = refl; same = cc }
rest_of x (Err e) all h = absurd (cc)

bad_rest : (x : PlainEntry) (r : Entries) (k : ℕ) → with_entry x r ≡ Err (BadLine k) → r ≡ Err (BadLine k)
bad_rest x (Ok more) k e = absurd (cc)
bad_rest x (Err e) k h = h

sound_by : (s : SystemParts) (line : List ℕ) (lines : List (List ℕ)) (k : ℕ) {r : Entries} → Comes s line k (entries_from s lines) r →
    ((n : ℕ) (all : List PlainEntry) → entries_from s lines n ≡ Ok all → LinesSpell s lines all) → (all : List PlainEntry) → r ≡ Ok all → LinesSpell s (line ∷ lines) all
sound_by s line lines k (is_blank b) later all e = blank b (later k all e)
sound_by s line lines k (is_entry x d) later all e =
    let p = rest_of x (entries_from s lines (k + 1)) all e in
    rw p.same (entry_line d (later (k + 1) p.more p.is))
sound_by s line lines k (is_bad t b) later all e = absurd (cc)

-- the entries that are read of lines are spelled
pub entries_sound : (s : SystemParts) (lines : List (List ℕ)) (k : ℕ) (all : List PlainEntry) → entries_from s lines k ≡ Ok all → LinesSpell s lines all
entries_sound s [] k all e = let same : all ≡ [] = cc in rw same no_line
entries_sound s (line ∷ lines) k all e = sound_by s line lines k (comes s line k (entries_from s lines)) (entries_sound s lines) all e

tokens_cut : (s : SystemParts) (k : ℕ) (ts : List LocatedToken) (x : PlainEntry) → line_entry s (tokens_of ts) ≡ Some x → cut_entry s k (Ok ts) ≡ Ok (Some x)
unfolding line_entry line_action word bind
tokens_cut s k [] x e = absurd (cc)
tokens_cut s k (t ∷ ts) x e = rw e refl

-- a line that spells an entry is cut and read
spelled_cut : (s : SystemParts) (k : ℕ) (line : List ℕ) (x : PlainEntry) → LineSpells s line x → cut_entry s k (line_tokens line) ≡ Ok (Some x)
spelled_cut s k line x d = rw d.cut (tokens_cut s k d.tokens x (line_complete s (tokens_of d.tokens) x d.spells))

-- entries are read as lines spell them
pub entries_complete : {s : SystemParts} {lines : List (List ℕ)} {all : List PlainEntry} → LinesSpell s lines all → (k : ℕ) → entries_from s lines k ≡ Ok all
entries_complete no_line k = refl
entries_complete (blank b rest) k = rw b (entries_complete rest k)
entries_complete {s = s} (entry_line {line = line} {e = x} d rest) k = rw (spelled_cut s k line x d) (rw (entries_complete rest (k + 1)) refl)

-- a bad line, if n lines with tokens come in front of these
record IsBadFrom (s : SystemParts) (n k : ℕ) (lines : List (List ℕ)) : Type 0 where
  front : List (List ℕ)
  line : List ℕ
  behind : List (List ℕ)
  split : lines ≡ front ++ line ∷ behind
  entries : List PlainEntry
  spelled : LinesSpell s front entries
  count : n + length entries ≡ k
  tokens : line_tokens line ≡ Ok [] → ⊥
  bad : (x : PlainEntry) → LineSpells s line x → ⊥

bad_by : (s : SystemParts) (line : List ℕ) (lines : List (List ℕ)) (n k : ℕ) {r : Entries} → Comes s line n (entries_from s lines) r →
    ((m : ℕ) → entries_from s lines m ≡ Err (BadLine k) → IsBadFrom s m k lines) → r ≡ Err (BadLine k) → IsBadFrom s n k (line ∷ lines)
bad_by s line lines n k (is_blank b) later e =
    let r = later n e in
    record { front = line ∷ r.front; line = r.line; behind = r.behind; split = ap (λ ls. line ∷ ls) r.split; entries = r.entries; spelled = blank b r.spelled; count = r.count; tokens = r.tokens; bad = r.bad }
bad_by s line lines n k (is_entry x d) later e =
    let r = later (n + 1) (bad_rest x (entries_from s lines (n + 1)) k e) in
    let count = r.count in
    record {
      front = line ∷ r.front;
      line = r.line;
      behind = r.behind;
      split = ap (λ ls. line ∷ ls) r.split;
      entries = x ∷ r.entries;
      spelled = entry_line d r.spelled;
      count = omega arith;
      tokens = r.tokens;
      bad = r.bad;
    }
bad_by s line lines n k (is_bad t b) later e =
    let same : n ≡ k = cc in
    record { front = []; line = line; behind = lines; split = refl; entries = []; spelled = no_line; count = omega arith; tokens = t; bad = b }

bad_from : (s : SystemParts) (lines : List (List ℕ)) (n k : ℕ) → entries_from s lines n ≡ Err (BadLine k) → IsBadFrom s n k lines
bad_from s [] n k e = absurd (cc)
bad_from s (line ∷ lines) n k e = bad_by s line lines n k (comes s line n (entries_from s lines)) (λ m. bad_from s lines m k) e

-- the line that is refused is the first bad one
pub bad_sound : (s : SystemParts) (lines : List (List ℕ)) (k : ℕ) → entries_from s lines 0 ≡ Err (BadLine k) → IsBadLine s k lines
bad_sound s lines k e =
    let r = bad_from s lines 0 k e in
    let count = r.count in
    record { front = r.front; line = r.line; behind = r.behind; split = r.split; entries = r.entries; spelled = r.spelled; count = omega arith; tokens = r.tokens; bad = r.bad }

bad_first : {s : SystemParts} {line : List ℕ} {n : ℕ} {later : ℕ → Entries} {r : Entries} → Comes s line n later r → (line_tokens line ≡ Ok [] → ⊥) → ((x : PlainEntry) → LineSpells s line x → ⊥) → r ≡ Err (BadLine n)
bad_first (is_blank b) t bad = absurd (t b)
bad_first (is_entry x d) t bad = absurd (bad x d)
bad_first (is_bad u b) t bad = refl

bad_behind : {s : SystemParts} {front : List (List ℕ)} {entries : List PlainEntry} → LinesSpell s front entries → (line : List ℕ) (behind : List (List ℕ)) (n k : ℕ) → n + length entries ≡ k →
    (line_tokens line ≡ Ok [] → ⊥) → ((x : PlainEntry) → LineSpells s line x → ⊥) → entries_from s (front ++ line ∷ behind) n ≡ Err (BadLine k)
bad_behind {s = s} no_line line behind n k count t bad =
    let same : n ≡ k = omega arith in
    rw (← same) (bad_first (comes s line n (entries_from s behind)) t bad)
bad_behind (blank b rest) line behind n k count t bad = rw b (bad_behind rest line behind n k count t bad)
bad_behind {s = s} (entry_line {line = first} {e = x} d rest) line behind n k count t bad =
    rw (spelled_cut s n first x d) (rw (bad_behind rest line behind (n + 1) k (omega arith) t bad) refl)

-- the first bad line is refused
pub bad_complete : (s : SystemParts) (lines : List (List ℕ)) (k : ℕ) → IsBadLine s k lines → entries_from s lines 0 ≡ Err (BadLine k)
bad_complete s lines k h =
    let count = h.count in
    rw h.split (bad_behind h.spelled h.line h.behind 0 k (omega arith) h.tokens h.bad)
