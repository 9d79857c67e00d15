-- A term of a text that is no display has a shape of the text, if the names in view have such shapes.
use Rattle.std.proofs.Common.{◌≡◌, ◌&&◌, not, ℕ, zero, suc, Bool, true, false, List, [], ◌∷◌, Option, Some, None, refl, sym, subst, slice_get}
use Rattle.std.specs.Option.{option_and_then, option_map}
use Rattle.ioa_operators.specs.Operators.{function_named}
use Rattle.ioa_operators.specs.Shapes.{PlainShape, PlainShapes, truths, integers, naturals, constants, tuples, sequences, sets, maps, no_shapes, shape, field_position}
use Rattle.ioa_operators.specs.declared.operator.BinaryOperator.{BinaryOperator}
use Rattle.ioa_operators.specs.declared.operator.Function.{Function}
use Rattle.ioa_operators.specs.declared.operator.UnaryOperator.{UnaryOperator}
use Rattle.ioa_operators.specs.declared.shape.Shape.{Shape}
use Rattle.ioa_terms.specs.declared.name.Name.{Name}
use Rattle.ioa_terms.specs.declared.name.Name.TheVariants.{Word}
use Rattle.ioa_terms.specs.Inboxes.{inboxes_word}
use Rattle.ioa_terms.specs.PlainTerm as plain
use Rattle.ioa_terms.specs.PlainTerm.{PlainTerm, PlainTerms, name, one, two, call, display, field, no_terms, term}
use Rattle.ioa_terms.specs.Sorted as rule
use Rattle.ioa_terms.specs.Sorted.{BinaryIs, CallBy, FunctionIs, HasShape, HaveShapes, NameShapes, UnaryIs, field_shape, listed_shapes, shape_in_terms, shape_named}
use Rattle.ioa_source.specs.Erasure.{erase_term, erase_terms}
use Rattle.ioa_source.specs.Sides.{CheckedTerm, SourceTerm}
use Rattle.ioa_sort_rules.specs.Kinds.{arity_of, pairing_of}
use Rattle.ioa_sorts.specs.Determined.{AreDetermined, IsDetermined, displays, is_display, tells, tells_call, tells_parts}
use Rattle.ioa_automata.specs.SortedAutomata.{IsOwnTermOf}
use Rattle.ioa_printed_lines.specs.TextSystems.{AreTextShapes, IsTextShape}
use Rattle.ioa_text_laws.proofs.TextShapes.{AreTextNames, named_text}

-- nothing is no shape, and one shape is one
nothing : {A : Type 0} {x : A} → None ≡ Some x → ⊥
nothing e = absurd (cc)

found : {A : Type 0} {x y : A} → Some x ≡ Some y → x ≡ y
found e = cc

never : true ≡ false → ⊥
never e = absurd (cc)

-- one of two parts is no display
either : (A : Type 0) (left right : Bool) → not (left && right) ≡ true → (left ≡ false → A) → (right ≡ false → A) → A
either A false right h l r = l refl
either A true false h l r = r refl
either A true true h l r = absurd (never (sym h))

-- a part is none
alone : (b : Bool) → not b ≡ true → b ≡ false
alone false h = refl
alone true h = absurd (never (sym h))

module _ (many : ℕ) where
  -- a shape with integers for naturals
  in_terms : (s : PlainShape) → IsTextShape many s → IsTextShape many (shape_in_terms s)
  in_terms truths h = tt
  in_terms integers h = tt
  in_terms naturals h = tt
  in_terms (constants w from count) h = h
  in_terms (tuples w names fields) h = h
  in_terms (sequences s) h = in_terms s h
  in_terms (sets s) h = in_terms s h
  in_terms (maps k v) h = (in_terms k h.0, in_terms v h.1)

  told : (o : Option PlainShape) (s : PlainShape) → ((x : PlainShape) → o ≡ Some x → IsTextShape many x) → option_map shape_in_terms o ≡ Some s → IsTextShape many s
  told None s law h = absurd (nothing h)
  told (Some x) s law h = subst (IsTextShape many) (found h) (in_terms x (law x refl))

  name_text : (names : NameShapes) → AreTextNames many names → (x : Name) (s : PlainShape) → option_map shape_in_terms (shape_named x names) ≡ Some s → IsTextShape many s
  name_text names all x s h = told (shape_named x names) s (λ y e. named_text many names x y all e) h

  -- fields
  listed_text : (fields : PlainShapes) (k : ℕ) (s : PlainShape) → AreTextShapes many fields → slice_get (listed_shapes fields) k ≡ Some s → IsTextShape many s
  listed_text no_shapes k s h e = absurd (nothing e)
  listed_text (shape x xs) zero s h e = subst (IsTextShape many) (found e) h.0
  listed_text (shape x xs) (suc k) s h e = listed_text xs k s h.1 e

  found_text : (fields : PlainShapes) (o : Option ℕ) (s : PlainShape) → AreTextShapes many fields → option_and_then (slice_get (listed_shapes fields)) o ≡ Some s → IsTextShape many s
  found_text fields None s h e = absurd (nothing e)
  found_text fields (Some k) s h e = listed_text fields k s h e

  declared_text : (w : List ℕ) (d s : PlainShape) → IsTextShape many d → field_shape w d ≡ Some s → IsTextShape many s
  declared_text w truths s h e = absurd (nothing e)
  declared_text w integers s h e = absurd (nothing e)
  declared_text w naturals s h e = absurd (nothing e)
  declared_text w (constants v from count) s h e = absurd (nothing e)
  declared_text w (tuples v names no_shapes) s h e = absurd h
  declared_text w (tuples v names (shape x xs)) s h e = found_text (shape x xs) (field_position w names) s h e
  declared_text w (sequences x) s h e = absurd (nothing e)
  declared_text w (sets x) s h e = absurd (nothing e)
  declared_text w (maps k v) s h e = absurd (nothing e)

  field_text : (w : List ℕ) (d s : PlainShape) → IsTextShape many d → option_map shape_in_terms (field_shape w d) ≡ Some s → IsTextShape many s
  field_text w d s h e = told (field_shape w d) s (λ x k. declared_text w d x h k) e

  -- operators
  unary_text : {op : UnaryOperator} {x s : PlainShape} → UnaryIs op x s → IsTextShape many s
  unary_text rule.negation = tt
  unary_text rule.negative = tt

  binary_text : {op : BinaryOperator} {x y s : PlainShape} (left right : Bool) → BinaryIs op x y s → tells (pairing_of op) left right ≡ true → (left ≡ false → IsTextShape many x) → (right ≡ false → IsTextShape many y) → IsTextShape many s
  binary_text left right rule.equivalent t l r = tt
  binary_text left right rule.implies t l r = tt
  binary_text left right rule.either t l r = tt
  binary_text left right rule.both t l r = tt
  binary_text left right rule.equal t l r = tt
  binary_text left right rule.differ t l r = tt
  binary_text left right rule.below t l r = tt
  binary_text left right rule.at_most t l r = tt
  binary_text left right rule.above t l r = tt
  binary_text left right rule.at_least t l r = tt
  binary_text left right rule.item_of t l r = tt
  binary_text left right rule.member_of t l r = tt
  binary_text left right (rule.prepended {x = x}) t l r = either (IsTextShape many x) left right t l r
  binary_text left right (rule.appended {x = x}) t l r = either (IsTextShape many x) left right t l r
  binary_text left right (rule.joined {x = x}) t l r = either (IsTextShape many x) left right t l r
  binary_text left right rule.sum t l r = tt
  binary_text left right rule.difference t l r = tt
  binary_text left right rule.product t l r = tt
  binary_text left right rule.at_key t l r = (l (alone left t)).1

  -- parts: each that is no display has a shape of the text
  abbrev AreTextIf : List Bool → List PlainShape → Type 0
  AreTextIf [] [] = Unit {0}
  AreTextIf [] (x ∷ xs) = ⊥
  AreTextIf (b ∷ bs) [] = ⊥
  AreTextIf (b ∷ bs) (x ∷ xs) = (b ≡ false → IsTextShape many x) × AreTextIf bs xs

  -- functions
  function_text : {f : Function} {xs : List PlainShape} {s : PlainShape} (bs : List Bool) → FunctionIs f xs s → tells_parts (arity_of f) bs ≡ true → AreTextIf bs xs → IsTextShape many s
  function_text [] rule.head t p = absurd p
  function_text (a ∷ []) rule.head t p = p.0 (alone a t)
  function_text (a ∷ b ∷ bs) rule.head t p = absurd p.1
  function_text [] rule.tail t p = absurd p
  function_text (a ∷ []) rule.tail t p = p.0 (alone a t)
  function_text (a ∷ b ∷ bs) rule.tail t p = absurd p.1
  function_text bs rule.items t p = tt
  function_text bs rule.members t p = tt
  function_text bs rule.keys t p = tt
  function_text bs rule.quotient t p = tt
  function_text bs rule.remainder t p = tt
  function_text [] rule.inserted t p = absurd p
  function_text (a ∷ []) rule.inserted t p = absurd p.1
  function_text (a ∷ b ∷ []) (rule.inserted {x = x}) t p = either (IsTextShape many x) a b t p.0 p.1.0
  function_text (a ∷ b ∷ d ∷ bs) rule.inserted t p = absurd p.1.1
  function_text [] rule.deleted t p = absurd p
  function_text (a ∷ []) rule.deleted t p = absurd p.1
  function_text (a ∷ b ∷ []) (rule.deleted {x = x}) t p = either (IsTextShape many x) a b t p.0 p.1.0
  function_text (a ∷ b ∷ d ∷ bs) rule.deleted t p = absurd p.1.1
  function_text [] rule.united t p = absurd p
  function_text (a ∷ []) rule.united t p = absurd p.1
  function_text (a ∷ b ∷ []) (rule.united {x = x}) t p = either (IsTextShape many x) a b t p.0 p.1.0
  function_text (a ∷ b ∷ d ∷ bs) rule.united t p = absurd p.1.1
  function_text [] rule.updated t p = absurd p
  function_text (a ∷ []) rule.updated t p = absurd p.1
  function_text (a ∷ b ∷ []) rule.updated t p = absurd p.1.1
  function_text (false ∷ b ∷ d ∷ []) rule.updated t p = p.0 refl
  function_text (true ∷ false ∷ false ∷ []) rule.updated t p = (p.1.0 refl, p.1.1.0 refl)
  function_text (true ∷ true ∷ d ∷ []) rule.updated t p = absurd (never (sym t))
  function_text (true ∷ false ∷ true ∷ []) rule.updated t p = absurd (never (sym t))
  function_text (a ∷ b ∷ d ∷ e ∷ bs) rule.updated t p = absurd p.1.1.1
  function_text [] rule.removed t p = absurd p
  function_text (a ∷ []) rule.removed t p = absurd p.1
  function_text (a ∷ b ∷ []) rule.removed t p = p.0 (alone a t)
  function_text (a ∷ b ∷ d ∷ bs) rule.removed t p = absurd p.1.1
  function_text bs rule.defined t p = tt

  call_text : (o : Option Function) (names : NameShapes) → AreTextNames many names → (w : List ℕ) (xs : List PlainShape) (s : PlainShape) (bs : List Bool) → CallBy o names w xs s → tells_call o bs ≡ true → AreTextIf bs xs → IsTextShape many s
  call_text (Some f) names all w xs s bs h t p = function_text bs h t p
  call_text None names all w xs s bs h t p = (name_text names all (Word inboxes_word) (maps h.0 s) h.3).1

  mutual
    term_text : {N C : Type 0} (names : NameShapes) → AreTextNames many names → (c : PlainTerm N C Shape) (s : PlainShape) → HasShape names c s → IsDetermined (erase_term c) → is_display (erase_term c) ≡ false → IsTextShape many s
    term_text names all (plain.number n) s h d own = subst (IsTextShape many) (sym h) tt
    term_text names all (plain.truth b) s h d own = subst (IsTextShape many) (sym h) tt
    term_text names all (name x at) s h d own = name_text names all x s h
    term_text names all (one op a) s h d own = unary_text h.2
    term_text names all (two op a b) s h d own =
        binary_text (is_display (erase_term a)) (is_display (erase_term b)) h.4 d.2 (λ e. term_text names all a h.0 h.2 d.0 e) (λ e. term_text names all b h.1 h.3 d.1 e)
    term_text names all (call w c ts) s h d own = call_text (function_named w) names all w h.0 s (displays (erase_terms ts)) h.2 d.1 (parts_text names all ts h.0 h.1 d.0)
    term_text names all (display form shaped ts) s h d own = absurd (never own)
    term_text names all (field a w shaped) s h d own = field_text w shaped s (term_text names all a shaped h.0 d.0 d.1) h.1

    parts_text : {N C : Type 0} (names : NameShapes) → AreTextNames many names → (ts : PlainTerms N C Shape) (xs : List PlainShape) → HaveShapes names ts xs → AreDetermined (erase_terms ts) → AreTextIf (displays (erase_terms ts)) xs
    parts_text names all no_terms [] h d = tt
    parts_text names all no_terms (x ∷ xs) h d = absurd h
    parts_text names all (term t more) [] h d = absurd h
    parts_text names all (term t more) (x ∷ xs) h d = ((λ e. term_text names all t x h.0 d.0 e), parts_text names all more xs h.1 d.1)

  -- a term with a shape of its own
  pub own_text : (names : NameShapes) → AreTextNames many names → (t : SourceTerm) (c : CheckedTerm) (s : PlainShape) → IsOwnTermOf names t c s → IsTextShape many s
  own_text names all t c s h =
      term_text names all c s h.term.has_shape
      (subst (λ (u : SourceTerm). IsDetermined u) (sym h.term.same) h.term.determined)
      (subst (λ (u : SourceTerm). is_display u ≡ false) (sym h.term.same) h.own)
