-- How the reader goes through the tokens (form): a definition for each step and each form of list. Its value is what
-- was read and the tokens after it, or `None`.
use Rattle.std.specs.Prelude.{ℕ, zero, suc, ℤ, Bool, true, false, List, [], ◌∷◌, ◌++◌, length, Option, Some, None}
use Rattle.std.specs.Prelude.{if◌then◌else◌}
use Rattle.std.specs.Option.{option_and_then}
use Rattle.ioa_tokens.specs.declared.token.Token.{Token}
use Rattle.ioa_tokens.specs.declared.token.Token.TheVariants as token
use Rattle.ioa_tokens.specs.declared.mark.Mark.{Mark}
use Rattle.ioa_tokens.specs.Tables.{same_mark}

-- reads an item: the item and the tokens after it, if the tokens begin with one
abbrev pub Reader : Type 0 → Type 0
Reader A = List Token → Option (A × List Token)

-- whether a list goes on, and the tokens from which on
abbrev pub Next : Type 0
Next = List Token → Bool × List Token

-- one reading after another
unfoldable pub bind : {A B : Type 0} → Option A → (A → Option B) → Option B
bind o f = option_and_then f o

infixl 10 ◌>>=◌
abbrev pub ◌>>=◌ : {A B : Type 0} → Option A → (A → Option B) → Option B
o >>= f = bind o f

-- the first of two if a test holds, otherwise the second
unfoldable pub choose : {A : Type 0} → Bool → A → A → A
choose b x y = if b then x else y

-- goes past a mark if it comes next: whether it does, and the tokens that are left
unfoldable pub skip : Mark → Next
skip m (token.Mark k ∷ xs) = if same_mark k m then (true, xs) else (false, token.Mark k ∷ xs)
skip m (token.Word w ∷ xs) = (false, token.Word w ∷ xs)
skip m (token.Number n ∷ xs) = (false, token.Number n ∷ xs)
skip m (token.LeftOut w ∷ xs) = (false, token.LeftOut w ∷ xs)
skip m [] = (false, [])

-- a mark that has to come next
unfoldable pub expect : Mark → Reader (Unit {0})
expect m xs = if (skip m xs).0 then Some (tt, (skip m xs).1) else None

-- a word that has to come next
unfoldable pub word : Reader (List ℕ)
word (token.Word w ∷ xs) = Some (w, xs)
word (token.Mark m ∷ xs) = None
word (token.Number n ∷ xs) = None
word (token.LeftOut w ∷ xs) = None
word [] = None

-- a number that has to come next
unfoldable pub number : Reader ℤ
number (token.Number n ∷ xs) = Some (n, xs)
number (token.Word w ∷ xs) = None
number (token.Mark m ∷ xs) = None
number (token.LeftOut w ∷ xs) = None
number [] = None

-- the mark that comes next, if one does
unfoldable pub peek_mark : List Token → Option Mark
peek_mark (token.Mark m ∷ xs) = Some m
peek_mark (token.Word w ∷ xs) = None
peek_mark (token.Number n ∷ xs) = None
peek_mark (token.LeftOut w ∷ xs) = None
peek_mark [] = None

-- whether a mark comes next
unfoldable pub at : Mark → List Token → Bool
at m (token.Mark k ∷ xs) = same_mark k m
at m (token.Word w ∷ xs) = false
at m (token.Number n ∷ xs) = false
at m (token.LeftOut w ∷ xs) = false
at m [] = false

-- whether a word comes next
unfoldable pub at_word : List Token → Bool
at_word (token.Word w ∷ xs) = true
at_word (token.Mark m ∷ xs) = false
at_word (token.Number n ∷ xs) = false
at_word (token.LeftOut w ∷ xs) = false
at_word [] = false

-- whether a number comes next
unfoldable pub at_number : List Token → Bool
at_number (token.Number n ∷ xs) = true
at_number (token.Word w ∷ xs) = false
at_number (token.Mark m ∷ xs) = false
at_number (token.LeftOut w ∷ xs) = false
at_number [] = false

-- a list goes on if an item begins
abbrev pub begins_with : (List Token → Bool) → Next
begins_with begins xs = (begins xs, xs)

-- a list goes on if a mark comes and an item begins behind it; the mark is gone past
unfoldable pub resumes_with : Mark → (List Token → Bool) → Next
resumes_with m begins xs = (if (skip m xs).0 then begins (skip m xs).1 else false, (skip m xs).1)

-- the items of a list that come after those that are done, in a number of turns: each turn goes past a token, so as
-- many turns as tokens are enough
unfoldable pub collect : {A : Type 0} → Next → Reader A → ℕ → List A → Reader (List A)
collect next read zero done xs = Some (done, xs)
collect next read (suc turns) done xs =
    choose (next xs).0
    (read (next xs).1 >>= λ r. collect next read turns (done ++ r.0 ∷ []) r.1)
    (Some (done, (next xs).1))

-- {X}: any number of items
abbrev pub several : {A : Type 0} → Next → Reader A → Reader (List A)
several next read xs = collect next read (length xs) [] xs

-- one item or more, after those that are done
abbrev pub several_more : {A : Type 0} → Next → Reader A → List A → Reader (List A)
several_more next read done xs = read xs >>= λ r. collect next read (length r.1) (done ++ r.0 ∷ []) r.1

-- [m X]: a list behind its mark, or nothing, which is the empty list
abbrev pub section : {A : Type 0} → Mark → Reader (List A) → Reader (List A)
section m read xs = choose (skip m xs).0 (read (skip m xs).1) (Some ([], (skip m xs).1))

-- [m X]: an item behind its mark, or nothing
abbrev pub optional : {A : Type 0} → Mark → Reader A → Reader (Option A)
optional m read xs =
    choose (skip m xs).0 (read (skip m xs).1 >>= λ r. Some (Some r.0, r.1)) (Some (None, (skip m xs).1))

-- the same if each turn reads a list: the items of all in order
unfoldable pub collect_lists : {A : Type 0} → Next → Reader (List A) → ℕ → List A → Reader (List A)
collect_lists next read zero done xs = Some (done, xs)
collect_lists next read (suc turns) done xs =
    choose (next xs).0
    (read (next xs).1 >>= λ r. collect_lists next read turns (done ++ r.0) r.1)
    (Some (done, (next xs).1))

-- {X}: any number of lists, joined
abbrev pub several_lists : {A : Type 0} → Next → Reader (List A) → Reader (List A)
several_lists next read xs = collect_lists next read (length xs) [] xs

-- one list or more, joined
abbrev pub several_more_lists : {A : Type 0} → Next → Reader (List A) → Reader (List A)
several_more_lists next read xs = read xs >>= λ r. collect_lists next read (length r.1) r.0 r.1

-- the end of the text: no token is left
unfoldable pub end : Reader (Unit {0})
end [] = Some (tt, [])
end (x ∷ xs) = None

-- the tokens after the first
unfoldable pub advance : List Token → List Token
advance (x ∷ xs) = xs
advance [] = []
