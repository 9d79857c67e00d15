-- What the text of a word means (view).
use Rattle.std.specs.Prelude.{ℕ, List, string_bytes}
use Rattle.ioa_values.specs.declared.word.WordText.{WordText}
use Rattle.ioa_values.specs.declared.word.WordText.TheVariants.{Short, Long}

abbrev pub text_bytes : WordText → List ℕ
text_bytes (Short text) = text.bytes
text_bytes (Long text) = string_bytes text
