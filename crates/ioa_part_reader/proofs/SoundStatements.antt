-- What is read of statements is spelled, and none of them is too high.
use Rattle.std.proofs.Common.{◌≡◌, ◌≤◌, ℕ, zero, suc, Bool, true, false, List, ◌∷◌, Option, Some, None, nat_le, if◌then◌else◌, refl, ap, ◌∙◌, arith}
use Rattle.std.proofs.Math.Nat.{max-le}
use Rattle.std.proofs.lemmas.Option.{some_pair_parts}
use Rattle.std.proofs.lemmas.Bool.{leb-true}
use Rattle.ioa_tokens.specs.declared.token.Token.{Token}
use Rattle.ioa_tokens.specs.declared.token.Token.TheVariants as token
use Rattle.ioa_tokens.specs.declared.mark.Mark.TheVariants as mark
use Rattle.ioa_terms.specs.PlainTerm as plain
use Rattle.ioa_terms.specs.PlainTerm.{statements_of, arms_of}
use Rattle.ioa_terms.specs.PlainSort.{PlainSort}
use Rattle.ioa_source.specs.Sides.{SourceTerm as Term, SourceTarget as Target, SourceStatement as Statement, SourceStatements as Statements, SourceFiring as Firing}
use Rattle.ioa_cursor.specs.Lists.{SeparatedBy, single, followed, SeparatedOrEndedBy, last, closed, continued}
use Rattle.ioa_cursor.proofs.Steps.{read_next, choose_cases, bind_cases, skip_taken, skip_left, expected_taken, word_taken}
use Rattle.ioa_cursor.proofs.SoundLists.{separated_sound, ended_sound}
use Rattle.ioa_source.specs.Heights.{height_limit, target_height, statement_height}
use Rattle.ioa_term_reader.specs.Grammar.{SpellsTerm, bracket_limit}
use Rattle.ioa_part_reader.specs.declared.statement.Context.{Context}
use Rattle.ioa_part_reader.specs.declared.statement.Context.TheVariants.{Effect, Block}
use Rattle.ioa_part_reader.specs.Grammar as grammar
use Rattle.ioa_part_reader.specs.Grammar.{SpellsSort, SpellsTarget, SpellsStatement, SpellsStatements, SpellsArms, SpellsRest, SpellsFiring, SpellsLow}
use Rattle.ioa_part_reader.specs.Reading as reading
use Rattle.ioa_term_reader.proofs.Sound.{term_sound}
use Rattle.ioa_part_reader.proofs.SoundSorts.{sort_sound}
use Rattle.ioa_part_reader.proofs.SoundDeclared.{call_sound}
use Rattle.ioa_part_reader.proofs.SoundParts.{kind_sound}

-- a place, and how high the term in it is
record LowTarget (p : Target) (xs ys : List Token) : Type 0 where
  spelled : SpellsTarget p xs ys
  low : target_height p ≤ height_limit

key_target_sound : (w : List ℕ) (xs ys : List Token) (p : Target) → reading.key_target w xs ≡ read_next p ys → LowTarget p (token.Word w ∷ token.Mark mark.OpenSquare ∷ xs) ys
unfolding reading.key_target
key_target_sound w xs ys x e =
    let P : Type 0 = LowTarget x (token.Word w ∷ token.Mark mark.OpenSquare ∷ xs) ys in
    bind_cases P e (λ t t_is e1. bind_cases P e1 (λ c c_is done.
    let p = some_pair_parts _ _ _ _ done in
    let d = rw (expected_taken mark.CloseSquare t.1 c c_is) at (term_sound grammar.inner_limit xs t.1 t.0 t_is) in
    rw (← p.0, ← p.1) (record { spelled = grammar.at_a_key d; low = d.low })))

nothing_low : 0 ≤ height_limit
nothing_low = omega arith

target_sound : (xs ys : List Token) (p : Target) → reading.target xs ≡ read_next p ys → LowTarget p xs ys
unfolding reading.target
target_sound xs ys x e =
    let P : Type 0 = LowTarget x xs ys in
    bind_cases P e (λ w w_is e1.
    choose_cases P e1
    (λ keyed more. rw (word_taken xs w w_is, skip_taken mark.OpenSquare w.1 keyed) (key_target_sound w.0 _ ys x more))
    (λ no_key more.
    choose_cases P more
    (λ dotted last.
    bind_cases P last (λ f f_is done.
    let p = some_pair_parts _ _ _ _ done in
    rw (word_taken xs w w_is, ← skip_left mark.OpenSquare w.1 no_key, skip_taken mark.Dot _ dotted, word_taken _ f f_is, ← p.0, ← p.1)
    (record { spelled = grammar.at_a_field; low = nothing_low })))
    (λ no_dot done.
    let p = some_pair_parts _ _ _ _ done in
    rw (word_taken xs w w_is, ← p.0, ← p.1, skip_left mark.Dot _ no_dot, skip_left mark.OpenSquare w.1 no_key)
    (record { spelled = grammar.whole; low = nothing_low }))))

-- a statement that is not too high
record LowStatement (c : Context) (s : Statement) (xs ys : List Token) : Type 0 where
  spelled : SpellsStatement c s xs ys
  low : statement_height s ≤ height_limit

assigned_term_sound : (c : Context) (q : Target) (xs us ys : List Token) (s : Statement) → LowTarget q xs (token.Mark mark.Assign ∷ us) → reading.assigned_term q us ≡ read_next s ys → LowStatement c s xs ys
unfolding reading.assigned_term
assigned_term_sound c q xs us ys s target e =
    let P : Type 0 = LowStatement c s xs ys in
    bind_cases P e (λ t t_is done.
    let p = some_pair_parts _ _ _ _ done in
    let value = term_sound bracket_limit us t.1 t.0 t_is in
    rw (← p.0, ← p.1) (record { spelled = grammar.assignment target.spelled value; low = max-le target.low value.low }))

assignment_sound : (c : Context) (xs ys : List Token) (s : Statement) → reading.assignment xs ≡ read_next s ys → LowStatement c s xs ys
unfolding reading.assignment
assignment_sound c xs ys s e =
    let P : Type 0 = LowStatement c s xs ys in
    bind_cases P e (λ q q_is e1. bind_cases P e1 (λ a a_is more.
    let target = rw (expected_taken mark.Assign q.1 a a_is) at (target_sound xs q.1 q.0 q_is) in
    assigned_term_sound c q.0 xs a.1 ys s target more))

limited_if : (b : Bool) (s r : Statement) → (b ≡ true → statement_height s ≤ height_limit) → (if b then Some s else None) ≡ Some r →
    (s ≡ r) × (statement_height s ≤ height_limit)
limited_if true s r low e = (cc, low refl)
limited_if false s r low e = absurd cc

limited_taken : (s r : Statement) → reading.limited_statement s ≡ Some r → (s ≡ r) × (statement_height s ≤ height_limit)
unfolding reading.limited_statement
limited_taken s r e = limited_if (nat_le (statement_height s) height_limit) s r (leb-true (statement_height s) height_limit) e

-- the name of a choice and its sort
record SpellsName (n : List ℕ × PlainSort) (xs ys : List Token) : Type 0 where
  inner : List Token
  taken : xs ≡ token.Word n.0 ∷ token.Mark mark.Colon ∷ inner
  sort : SpellsSort bracket_limit n.1 inner ys

chosen_name_sound : (xs ys : List Token) (n : List ℕ × PlainSort) → reading.chosen_name xs ≡ read_next n ys → SpellsName n xs ys
unfolding reading.chosen_name
chosen_name_sound xs ys n e =
    let P : Type 0 = SpellsName n xs ys in
    bind_cases P e (λ w w_is e1. bind_cases P e1 (λ c c_is e2. bind_cases P e2 (λ s s_is done.
    let p = some_pair_parts _ _ _ _ done in
    let first = word_taken xs w w_is in
    let second = expected_taken mark.Colon w.1 c c_is in
    rw (← p.0, ← p.1) (record { inner = c.1; taken = first ∙ ap (λ zs. token.Word w.0 ∷ zs) second; sort = sort_sound bracket_limit c.1 s.1 s.0 s_is }))))

-- the condition of a choice, and the term that yields its value
record SpellsCondition (t : Term × Term) (xs ys : List Token) : Type 0 where
  inner : List Token
  between : List Token
  taken : xs ≡ token.Mark mark.Where ∷ inner
  condition : SpellsTerm bracket_limit t.0 inner (token.Mark mark.Yield ∷ between)
  yields : SpellsTerm bracket_limit t.1 between ys

chosen_terms_sound : (xs ys : List Token) (t : Term × Term) → reading.chosen_terms xs ≡ read_next t ys → SpellsCondition t xs ys
unfolding reading.chosen_terms
chosen_terms_sound xs ys t e =
    let P : Type 0 = SpellsCondition t xs ys in
    bind_cases P e (λ h h_is e1. bind_cases P e1 (λ q q_is e2. bind_cases P e2 (λ m m_is e3. bind_cases P e3 (λ u u_is done.
    let p = some_pair_parts _ _ _ _ done in
    let condition = rw (expected_taken mark.Yield q.1 m m_is) at (term_sound bracket_limit h.1 q.1 q.0 q_is) in
    let yields = term_sound bracket_limit m.1 u.1 u.0 u_is in
    rw (← p.0, ← p.1) (record { inner = h.1; between = m.1; taken = expected_taken mark.Where xs h h_is; condition = condition; yields = yields })))))

-- a choice of such parts
choosing_spelled : {q : Target} {w : List ℕ} {s : PlainSort} {t u : Term} {xs us ys zs ws rs vs : List Token} →
    SpellsTarget q xs (token.Mark mark.Assign ∷ token.Mark mark.Choose ∷ us) → us ≡ token.Word w ∷ token.Mark mark.Colon ∷ ys → SpellsSort bracket_limit s ys zs →
    zs ≡ token.Mark mark.Where ∷ ws → SpellsTerm bracket_limit t ws (token.Mark mark.Yield ∷ rs) → SpellsTerm bracket_limit u rs vs →
    SpellsStatement Effect (plain.choosing (plain.choice_with q w s tt t u)) xs vs
choosing_spelled target named sort asked condition yields = grammar.choosing (rw named at target) (rw asked at sort) condition yields

choosing_sound : (q : Target) (xs us ys : List Token) (s : Statement) → SpellsTarget q xs (token.Mark mark.Assign ∷ token.Mark mark.Choose ∷ us) → reading.choosing q us ≡ read_next s ys → LowStatement Effect s xs ys
unfolding reading.choosing
choosing_sound q xs us ys s target e =
    let P : Type 0 = LowStatement Effect s xs ys in
    bind_cases P e (λ n n_is e1. bind_cases P e1 (λ t t_is e2. bind_cases P e2 (λ l l_is done.
    let p = some_pair_parts _ _ _ _ done in
    let limited = limited_taken _ l l_is in
    let name = chosen_name_sound us n.1 n.0 n_is in
    let terms = chosen_terms_sound n.1 t.1 t.0 t_is in
    let spelled = choosing_spelled target name.taken name.sort terms.taken terms.condition terms.yields in
    rw (← p.0, ← limited.0, ← p.1) (record { spelled = spelled; low = limited.1 }))))

effect_statement_sound : (xs ys : List Token) (s : Statement) → reading.effect_statement xs ≡ read_next s ys → LowStatement Effect s xs ys
unfolding reading.effect_statement
effect_statement_sound xs ys s e =
    let P : Type 0 = LowStatement Effect s xs ys in
    bind_cases P e (λ q q_is e1. bind_cases P e1 (λ a a_is more.
    let target = rw (expected_taken mark.Assign q.1 a a_is) at (target_sound xs q.1 q.0 q_is) in
    choose_cases P more
    (λ chosen last. choosing_sound q.0 xs _ ys s (rw (skip_taken mark.Choose a.1 chosen) at target.spelled) last)
    (λ no_choice last. assigned_term_sound Effect q.0 xs _ ys s (rw (← skip_left mark.Choose a.1 no_choice) at target) last)))

firing_sound : (xs ys : List Token) (x : Firing) → reading.firing xs ≡ read_next x ys → SpellsFiring x xs ys
unfolding reading.firing
firing_sound xs ys x e =
    let P : Type 0 = SpellsFiring x xs ys in
    choose_cases P e
    (λ _ more.
    bind_cases P more (λ k k_is e2. bind_cases P e2 (λ c c_is done.
    let p = some_pair_parts _ _ _ _ done in
    rw (← p.0, ← p.1) (grammar.kind_firing (kind_sound xs k.1 k.0 k_is) (call_sound k.1 c.1 c.0 c_is)))))
    (λ _ more.
    bind_cases P more (λ c c_is done.
    let p = some_pair_parts _ _ _ _ done in
    rw (← p.0, ← p.1) (grammar.firing (call_sound xs c.1 c.0 c_is))))

fire_sound : (xs ys : List Token) (s : Statement) → reading.fire_statement xs ≡ read_next s ys → LowStatement Block s (token.Mark mark.Fire ∷ xs) ys
unfolding reading.fire_statement
fire_sound xs ys s e =
    let P : Type 0 = LowStatement Block s (token.Mark mark.Fire ∷ xs) ys in
    bind_cases P e (λ f f_is e1. bind_cases P e1 (λ l l_is done.
    let p = some_pair_parts _ _ _ _ done in
    let limited = limited_taken _ l l_is in
    rw (← p.0, ← limited.0, ← p.1) (record { spelled = grammar.fire_statement (firing_sound xs f.1 f.0 f_is); low = limited.1 })))

-- one arm: its test and its statements
record SpellsArm (c : Context) (a : Term × Statements) (xs ys : List Token) : Type 0 where
  inner : List Token
  test : SpellsTerm bracket_limit a.0 xs (token.Mark mark.Then ∷ inner)
  body : SpellsStatements c a.1 inner ys

arms_from : {c : Context} {arms : List (Term × Statements)} {xs ys : List Token} → SeparatedBy mark.ElseIf (SpellsArm c) arms xs ys → SpellsArms c (arms_of arms) xs ys
arms_from (single a) = grammar.one_arm a.test a.body
arms_from (followed a more) = grammar.more_arms a.test a.body (arms_from more)

low_from : {c : Context} {statements : List Statement} {xs ys : List Token} → SeparatedOrEndedBy mark.Semicolon (LowStatement c) statements xs ys → SpellsLow c statements xs ys
low_from (last s) = record { spelled = grammar.last_statement s.spelled; low = max-le s.low nothing_low }
low_from (closed s) = record { spelled = grammar.closed_statement s.spelled; low = max-le s.low nothing_low }
low_from (continued s more) =
    let rest = low_from more in
    record { spelled = grammar.more_statements s.spelled rest.spelled; low = max-le s.low rest.low }

module _ (c : Context) (next : List Token → Option (List Statement × List Token))
    (sound : (xs ys : List Token) (ss : List Statement) → next xs ≡ read_next ss ys → SpellsLow c ss xs ys) where
  one_arm_sound : (xs ys : List Token) (a : Term × Statements) → reading.one_arm next xs ≡ read_next a ys → SpellsArm c a xs ys
  unfolding reading.one_arm
  one_arm_sound xs ys a e =
      let P : Type 0 = SpellsArm c a xs ys in
      bind_cases P e (λ t t_is e1. bind_cases P e1 (λ m m_is e2. bind_cases P e2 (λ ss ss_is done.
      let p = some_pair_parts _ _ _ _ done in
      let test = rw (expected_taken mark.Then t.1 m m_is) at (term_sound bracket_limit xs t.1 t.0 t_is) in
      let body = sound m.1 ss.1 ss.0 ss_is in
      rw (← p.0, ← p.1) (record { inner = m.1; test = test; body = body.spelled }))))

  all_arms_sound : (xs ys : List Token) (arms : List (Term × Statements)) → reading.all_arms next xs ≡ read_next arms ys → SpellsArms c (arms_of arms) xs ys
  unfolding reading.all_arms
  all_arms_sound xs ys arms e = arms_from (separated_sound (SpellsArm c) (reading.one_arm next) one_arm_sound mark.ElseIf xs ys arms e)

  rest_sound : (xs ys : List Token) (ss : List Statement) → reading.rest_of next xs ≡ read_next ss ys → SpellsRest c (statements_of ss) xs ys
  unfolding reading.rest_of
  rest_sound xs ys ss e =
      let P : Type 0 = SpellsRest c (statements_of ss) xs ys in
      choose_cases P e
      (λ is_else more.
      bind_cases P more (λ r r_is e1. bind_cases P e1 (λ m m_is done.
      let p = some_pair_parts _ _ _ _ done in
      let body = rw (expected_taken mark.Fi r.1 m m_is) at (sound _ r.1 r.0 r_is) in
      rw (skip_taken mark.Else xs is_else, ← p.0, ← p.1) (grammar.otherwise body.spelled))))
      (λ no_else more.
      bind_cases P more (λ m m_is done.
      let p = some_pair_parts _ _ _ _ done in
      rw (← skip_left mark.Else xs no_else, expected_taken mark.Fi _ m m_is, ← p.0, ← p.1) grammar.no_else))

  choice_sound : (xs ys : List Token) (s : Statement) → reading.choice next xs ≡ read_next s ys → LowStatement c s (token.Mark mark.If ∷ xs) ys
  unfolding reading.choice
  choice_sound xs ys s e =
      let P : Type 0 = LowStatement c s (token.Mark mark.If ∷ xs) ys in
      bind_cases P e (λ a a_is e1. bind_cases P e1 (λ r r_is e2. bind_cases P e2 (λ l l_is done.
      let p = some_pair_parts _ _ _ _ done in
      let limited = limited_taken _ l l_is in
      rw (← p.0, ← limited.0, ← p.1)
      (record { spelled = grammar.choice (all_arms_sound xs a.1 a.0 a_is) (rest_sound a.1 r.1 r.0 r_is); low = limited.1 }))))

-- the statements that only a schedule block has
module _ (next : List Token → Option (List Statement × List Token))
    (sound : (xs ys : List Token) (ss : List Statement) → next xs ≡ read_next ss ys → SpellsLow Block ss xs ys) where
  repetition_sound : (xs ys : List Token) (s : Statement) → reading.repetition next xs ≡ read_next s ys → LowStatement Block s (token.Mark mark.While ∷ xs) ys
  unfolding reading.repetition
  repetition_sound xs ys s e =
      let P : Type 0 = LowStatement Block s (token.Mark mark.While ∷ xs) ys in
      bind_cases P e (λ t t_is e1. bind_cases P e1 (λ d d_is e2. bind_cases P e2 (λ ss ss_is e3. bind_cases P e3 (λ o o_is e4. bind_cases P e4 (λ l l_is done.
      let p = some_pair_parts _ _ _ _ done in
      let limited = limited_taken _ l l_is in
      let test = rw (expected_taken mark.Do t.1 d d_is) at (term_sound bracket_limit xs t.1 t.0 t_is) in
      let body = rw (expected_taken mark.Od ss.1 o o_is) at (sound d.1 ss.1 ss.0 ss_is) in
      rw (← p.0, ← limited.0, ← p.1) (record { spelled = grammar.repetition test body.spelled; low = limited.1 }))))))

  block_statement_sound : (xs ys : List Token) (s : Statement) → reading.block_statement next xs ≡ read_next s ys → LowStatement Block s xs ys
  unfolding reading.block_statement
  block_statement_sound xs ys s e =
      let P : Type 0 = LowStatement Block s xs ys in
      choose_cases P e
      (λ is_while more. rw (skip_taken mark.While xs is_while) (repetition_sound _ ys s more))
      (λ no_while others.
      choose_cases P others
      (λ is_fire more. rw (← skip_left mark.While xs no_while, skip_taken mark.Fire _ is_fire) (fire_sound _ ys s more))
      (λ no_fire more. rw (← skip_left mark.While xs no_while, ← skip_left mark.Fire _ no_fire) (assignment_sound Block _ ys s more)))

other_statement_sound : (c : Context) (next : List Token → Option (List Statement × List Token)) →
    ((xs ys : List Token) (ss : List Statement) → next xs ≡ read_next ss ys → SpellsLow c ss xs ys) →
    (xs ys : List Token) (s : Statement) → reading.other_statement next c xs ≡ read_next s ys → LowStatement c s xs ys
unfolding reading.other_statement
other_statement_sound Effect next sound xs ys s e = effect_statement_sound xs ys s e
other_statement_sound Block next sound xs ys s e = block_statement_sound next sound xs ys s e

one_statement_sound : (c : Context) (next : List Token → Option (List Statement × List Token)) →
    ((xs ys : List Token) (ss : List Statement) → next xs ≡ read_next ss ys → SpellsLow c ss xs ys) →
    (xs ys : List Token) (s : Statement) → reading.one_statement next c xs ≡ read_next s ys → LowStatement c s xs ys
unfolding reading.one_statement
one_statement_sound c next sound xs ys s e =
    let P : Type 0 = LowStatement c s xs ys in
    choose_cases P e
    (λ is_if more. rw (skip_taken mark.If xs is_if) (choice_sound c next sound _ ys s more))
    (λ no_if more. rw (← skip_left mark.If xs no_if) (other_statement_sound c next sound _ ys s more))

statements_in_sound : (c : Context) (depth : ℕ) (xs ys : List Token) (ss : List Statement) → reading.statements_in c depth xs ≡ read_next ss ys → SpellsLow c ss xs ys
unfolding reading.statements_in
statements_in_sound c zero xs ys ss e = absurd cc
statements_in_sound c (suc depth) xs ys ss e =
    low_from (ended_sound (LowStatement c) (reading.one_statement (reading.statements_in c depth) c) (one_statement_sound c (reading.statements_in c depth) (statements_in_sound c depth))
    mark.Semicolon (reading.begins_statement c) xs ys ss e)

pub statements_sound : (c : Context) (xs ys : List Token) (ss : List Statement) → reading.statements c xs ≡ read_next ss ys → SpellsLow c ss xs ys
unfolding reading.statements
statements_sound c xs ys ss e = statements_in_sound c height_limit xs ys ss e
