-- The lines of a schedule in what is given as one (profile): a whole report, or the lines alone.
use Rattle.std.specs.Prelude.{ℕ, ◌+◌, ◌==◌, Bool, false, ◌&&◌, not, if◌then◌else◌, nat_eq, nat_le, List, [], ◌∷◌, take, codes}
use Rattle.std.specs.Prelude.{Option, Some, None}
use Rattle.std.specs.List.{after_first, starts_with}

-- a text begins with a digit
abbrev pub begins_with_digit : List ℕ → Bool
begins_with_digit [] = false
begins_with_digit (c ∷ more) = nat_le 48 c && nat_le c 57

-- where the first line feed stands behind which no digit stands, of a text that begins at a place
abbrev pub end_from : ℕ → List ℕ → Option ℕ
end_from place [] = None
end_from place (c ∷ more) =
    if c == 10 && not (begins_with_digit more) then Some place else end_from (place + 1) more

abbrev pub end_in : List ℕ → Option ℕ
end_in lines = end_from 0 lines

-- the lines before it; all of them if there is none
abbrev pub up_to : Option ℕ → List ℕ → List ℕ
up_to None lines = lines
up_to (Some place) lines = take place lines

abbrev pub before_end : List ℕ → List ℕ
before_end lines = up_to (end_in lines) lines

-- the first lines of a text, as far as each begins with a digit
abbrev pub numbered : List ℕ → List ℕ
numbered lines = if begins_with_digit lines then before_end lines else []

-- those behind its first line
abbrev pub behind_first_line : List ℕ → List ℕ
behind_first_line text = numbered (after_first (λ c. c == 10) text)

-- a text is a report: it begins with `schedule `
abbrev pub is_report : List ℕ → Bool
is_report text = starts_with nat_eq text (codes "schedule ")

-- of a report the lines behind its first one that begin with a digit; else all lines
abbrev pub schedule_part : List ℕ → List ℕ
schedule_part text = if is_report text then behind_first_line text else text
