-- The ends of lines.
use Rattle.std.proofs.lemmas.List.Sums.{count_by-le-length, count_by_more_no, count_by_more_yes, prefix_len-le-length, suffix_len-le-length}

-- what the code's lines and counts need
pub ruleset line_lemmas = (count_by-le-length, prefix_len-le-length, suffix_len-le-length)

-- what the code's count of declarations needs
pub ruleset count_lemmas = (count_by_more_no, count_by_more_yes)
