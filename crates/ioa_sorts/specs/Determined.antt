-- Whether the sort of each display in a term is determined (profile). A display has no sort of its own. It takes one
-- from the tuple, sequence or set display that it is a part of, or from the other parts of its operator or function.
use Rattle.std.specs.Prelude.{◌≡◌, Bool, true, false, not, ◌&&◌, ◌||◌, List, [], ◌∷◌, Option, Some, None}
use Rattle.ioa_operators.specs.Operators.{function_named}
use Rattle.ioa_operators.specs.declared.operator.Function.{Function}
use Rattle.ioa_terms.specs.PlainTerm.{PlainTerm, PlainTerms, number, truth, name, one, two, call, display, field}
use Rattle.ioa_terms.specs.PlainTerm.{no_terms, term}
use Rattle.ioa_source.specs.Sides.{SourceTerm, SourceTerms}
use Rattle.ioa_sort_rules.specs.declared.kinds.Pairing.{Pairing}
use Rattle.ioa_sort_rules.specs.declared.kinds.Pairing.TheVariants.{Both, Membership, Prepend, Append, Members}
use Rattle.ioa_sort_rules.specs.declared.kinds.Pairing.TheVariants.{At, Removal, Definition}
use Rattle.ioa_sort_rules.specs.declared.kinds.Arity.{Arity}
use Rattle.ioa_sort_rules.specs.declared.kinds.Arity.TheVariants.{One, Two, Update}
use Rattle.ioa_sort_rules.specs.Kinds.{pairing_of, arity_of}

abbrev pub is_display : {N C D : Type 0} → PlainTerm N C D → Bool
is_display (display form d ts) = true
is_display (number n) = false
is_display (truth b) = false
is_display (name x at) = false
is_display (one op a) = false
is_display (two op a b) = false
is_display (call w c ts) = false
is_display (field a w d) = false

-- which of terms are displays
abbrev pub displays : {N C D : Type 0} → PlainTerms N C D → List Bool
displays no_terms = []
displays (term t more) = is_display t ∷ displays more

-- whether a form of two tells the sorts of its parts, by which of them are displays. Mostly either part tells the
-- other's sort. An item does not tell whether it is one of a sequence or of a set, and a key does not tell its map's
-- sort.
abbrev pub tells : Pairing → Bool → Bool → Bool
tells (Both k) left right = not (left && right)
tells Prepend left right = not (left && right)
tells Append left right = not (left && right)
tells Members left right = not (left && right)
tells Membership left right = not right
tells At left right = not left
tells Removal left right = not left
tells Definition left right = not left

-- the same of `update`: its map tells the sorts of the key and the value, and those two tell its map's
abbrev pub tells_update : Bool → Bool → Bool → Bool
tells_update map key value = not (map && (key || value))

-- the same of a function; one that has another number of parts, or no meaning, is refused for that
abbrev pub tells_parts : Arity → List Bool → Bool
tells_parts (One k) (a ∷ []) = not a
tells_parts (Two k) (a ∷ b ∷ []) = tells k a b
tells_parts Update (a ∷ b ∷ d ∷ []) = tells_update a b d
tells_parts k parts = true

abbrev pub tells_call : Option Function → List Bool → Bool
tells_call None parts = true
tells_call (Some f) parts = tells_parts (arity_of f) parts

abbrev mutual
  -- each display that is a part of a term has its sort from another part
  pub IsDetermined : SourceTerm → Type 0
  IsDetermined (number n) = Unit {0}
  IsDetermined (truth b) = Unit {0}
  IsDetermined (name x at) = Unit {0}
  IsDetermined (one op a) = IsDetermined a × (is_display a ≡ false)
  IsDetermined (two op a b) =
      IsDetermined a × IsDetermined b × (tells (pairing_of op) (is_display a) (is_display b) ≡ true)
  IsDetermined (call w c ts) = AreDetermined ts × (tells_call (function_named w) (displays ts) ≡ true)
  IsDetermined (display form d ts) = AreDetermined ts
  IsDetermined (field a w d) = IsDetermined a × (is_display a ≡ false)

  -- the same of each of terms
  pub AreDetermined : SourceTerms → Type 0
  AreDetermined no_terms = Unit {0}
  AreDetermined (term t more) = IsDetermined t × AreDetermined more
