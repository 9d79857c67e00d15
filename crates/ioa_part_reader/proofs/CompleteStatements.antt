-- Statements are read as they are spelled, where they are not too high.
use Rattle.std.proofs.Common.{◌≡◌, ℕ, zero, suc, ◌<◌, ◌≤◌, true, false, List, [], ◌∷◌, length, Option, None, Some, refl, ap, ◌∙◌, arith}
use Rattle.std.proofs.lemmas.Bool.{le-leb}
use Rattle.ioa_tokens.specs.declared.token.Token.{Token}
use Rattle.ioa_tokens.specs.declared.token.Token.TheVariants as token
use Rattle.ioa_tokens.specs.declared.mark.Mark.{Mark}
use Rattle.ioa_tokens.specs.declared.mark.Mark.TheVariants as mark
use Rattle.ioa_terms.specs.PlainTerm as plain
use Rattle.ioa_terms.specs.PlainSort.{PlainSort}
use Rattle.ioa_terms.specs.PlainTerm.{no_statements, statement, statements_of, no_arms, arm, arms_of}
use Rattle.ioa_source.specs.Sides.{SourceTerm as Term, SourceTarget as Target, SourceStatement as Statement, SourceStatements as Statements, SourceArms as Arms, SourceFiring as Firing, SourceCall as Call}
use Rattle.ioa_cursor.specs.Lists.{SeparatedBy, single, followed, SeparatedOrEndedBy, last, closed, continued, Section}
use Rattle.ioa_terms.specs.declared.tree.Kind.{Kind}
use Rattle.ioa_cursor.specs.Reading.{bind, choose, skip, expect, word, at, at_word, peek_mark}
use Rattle.ioa_cursor.proofs.Steps.{read_next, stays}
use Rattle.ioa_cursor.proofs.Follow.{skip_same, skip_other}
use Rattle.ioa_cursor.proofs.CompleteLists.{separated_complete, ended_complete, section_complete}
use Rattle.ioa_source.specs.Heights.{height_limit, statement_height, statements_height, arms_height}
use Rattle.ioa_term_reader.specs.Grammar.{bracket_limit, SpellsTerm}
use Rattle.ioa_term_reader.specs.Reading.{term}
use Rattle.ioa_term_reader.proofs.Begins.{term_begins, skip_at_term}
use Rattle.ioa_term_reader.proofs.Shorter.{term_shorter}
use Rattle.ioa_term_reader.proofs.CompleteTerms.{height_positive}
use Rattle.ioa_part_reader.specs.declared.statement.Context.{Context}
use Rattle.ioa_part_reader.specs.declared.statement.Context.TheVariants.{Effect, Block}
use Rattle.ioa_part_reader.specs.Grammar as grammar
use Rattle.ioa_part_reader.specs.Grammar.{inner_limit, SpellsSort, SpellsTarget, SpellsStatement, SpellsArms, SpellsRest, SpellsStatements, SpellsCall, SpellsFiring, SpellsLow}
use Rattle.ioa_part_reader.specs.Reading as reading
use Rattle.ioa_part_reader.proofs.Closing.{Below, level, at_below, skip_below, begins_statement_below, at_word_no_mark}
use Rattle.ioa_part_reader.specs.Reading.{kind_first, at_kind}
use Rattle.ioa_part_reader.proofs.Shorter.{statement_shorter, statements_shorter}
use Rattle.ioa_part_reader.proofs.CompleteSorts.{sort_complete}
use Rattle.ioa_part_reader.proofs.CompleteSignatures.{whole_term, inner_term, call_complete, kind_complete, kind_begins}

-- statements and arms as lists

abbrev statement_list : Statements → List Statement
statement_list no_statements = []
statement_list (statement s more) = s ∷ statement_list more

abbrev arm_list : Arms → List (Term × Statements)
arm_list no_arms = []
arm_list (arm t body more) = (t, body) ∷ arm_list more

listed_same : (ss : Statements) → statements_of (statement_list ss) ≡ ss
listed_same no_statements = refl
listed_same (statement s more) = ap (λ others. statement s others) (listed_same more)

listed_arms_same : (arms : Arms) → arms_of (arm_list arms) ≡ arms
listed_arms_same no_arms = refl
listed_arms_same (arm t body more) = ap (λ others. arm t body others) (listed_arms_same more)

listed_of : (ss : List Statement) → statement_list (statements_of ss) ≡ ss
listed_of [] = refl
listed_of (s ∷ more) = ap (λ others. s ∷ others) (listed_of more)

-- places

key_read : (w : List ℕ) (t : Term) (xs ys : List Token) → term inner_limit xs ≡ read_next t (token.Mark mark.CloseSquare ∷ ys) →
    reading.target (token.Word w ∷ token.Mark mark.OpenSquare ∷ xs) ≡ read_next (plain.at_key w tt tt t) ys
unfolding reading.target reading.key_target word skip expect bind choose
key_read w t xs ys e = rw e refl

field_read : (w f : List ℕ) (xs : List Token) → reading.target (token.Word w ∷ token.Mark mark.Dot ∷ token.Word f ∷ xs) ≡ read_next (plain.at_field w tt tt f) xs
unfolding reading.target word skip bind choose
field_read w f xs = refl

variable_read : (w : List ℕ) (xs : List Token) → skip mark.OpenSquare xs ≡ stays false xs → skip mark.Dot xs ≡ stays false xs →
    reading.target (token.Word w ∷ xs) ≡ read_next (plain.variable w tt tt) xs
unfolding reading.target word bind choose
variable_read w xs e f = rw e (rw f refl)

target_complete : (p : Target) (xs ys : List Token) → SpellsTarget p xs ys → level ys < 14 → reading.target xs ≡ read_next p ys
target_complete _ _ ys (grammar.whole {w = w}) h = variable_read w ys (skip_below mark.OpenSquare ys h) (skip_below mark.Dot ys h)
target_complete _ _ ys (grammar.at_a_key {w = w} {t = t} {xs = xs} d) h = key_read w t xs ys (inner_term t xs _ d (omega arith))
target_complete _ _ ys (grammar.at_a_field {w = w} {f = f}) h = field_read w f ys

target_first : (p : Target) (xs ys : List Token) → SpellsTarget p xs ys → at_word xs ≡ true
unfolding at_word
target_first _ _ _ grammar.whole = refl
target_first _ _ _ (grammar.at_a_key d) = refl
target_first _ _ _ grammar.at_a_field = refl

-- one statement

assignment_read : (p : Target) (t : Term) (xs ys zs : List Token) → reading.target xs ≡ read_next p (token.Mark mark.Assign ∷ ys) → term bracket_limit ys ≡ read_next t zs →
    reading.assignment xs ≡ read_next (plain.assign p t) zs
unfolding reading.assignment reading.assigned_term expect skip bind
assignment_read p t xs ys zs e f = rw e (rw f refl)

assignment_complete : (p : Target) (t : Term) (xs ys zs : List Token) → SpellsTarget p xs (token.Mark mark.Assign ∷ ys) → SpellsTerm bracket_limit t ys zs → level zs < 14 →
    reading.assignment xs ≡ read_next (plain.assign p t) zs
assignment_complete p t xs ys zs pd td h = assignment_read p t xs ys zs (target_complete p xs _ pd (omega arith)) (whole_term t ys zs td h)

limited_low : (s : Statement) → statement_height s ≤ height_limit → reading.limited_statement s ≡ Some s
unfolding reading.limited_statement
limited_low s h = rw (le-leb (statement_height s) height_limit h) refl

-- how a statement of an effect goes on after its target and `:=`
effect_read : (p : Target) (xs ys : List Token) → reading.target xs ≡ read_next p (token.Mark mark.Assign ∷ ys) →
    reading.effect_statement xs ≡ choose (skip mark.Choose ys).0 (reading.choosing p (skip mark.Choose ys).1) (reading.assigned_term p (skip mark.Choose ys).1)
unfolding reading.effect_statement expect bind
effect_read p xs ys e = rw e (rw (skip_same mark.Assign ys) refl)

assigned_read : (p : Target) (t : Term) (ys zs : List Token) → skip mark.Choose ys ≡ stays false ys → term bracket_limit ys ≡ read_next t zs →
    choose (skip mark.Choose ys).0 (reading.choosing p (skip mark.Choose ys).1) (reading.assigned_term p (skip mark.Choose ys).1) ≡ read_next (plain.assign p t) zs
unfolding reading.assigned_term bind choose
assigned_read p t ys zs e f = rw e (rw f refl)

effect_assignment_complete : (p : Target) (t : Term) (xs ys zs : List Token) → SpellsTarget p xs (token.Mark mark.Assign ∷ ys) → SpellsTerm bracket_limit t ys zs → level zs < 14 →
    reading.effect_statement xs ≡ read_next (plain.assign p t) zs
effect_assignment_complete p t xs ys zs pd td h =
    effect_read p xs ys (target_complete p xs _ pd (omega arith)) ∙ assigned_read p t ys zs (skip_at_term mark.Choose refl ys (term_begins td)) (whole_term t ys zs td h)

-- choices

name_read : (w : List ℕ) (s : PlainSort) (xs ys : List Token) → reading.sort bracket_limit xs ≡ read_next s ys → reading.chosen_name (token.Word w ∷ token.Mark mark.Colon ∷ xs) ≡ read_next (w, s) ys
unfolding reading.chosen_name word expect skip bind
name_read w s xs ys e = rw e refl

terms_read : (t u : Term) (xs ys zs : List Token) → term bracket_limit xs ≡ read_next t (token.Mark mark.Yield ∷ ys) → term bracket_limit ys ≡ read_next u zs →
    reading.chosen_terms (token.Mark mark.Where ∷ xs) ≡ read_next (t, u) zs
unfolding reading.chosen_terms expect skip bind
terms_read t u xs ys zs e f = rw e (rw f refl)

-- the statement of a choice
abbrev choice_of : Target → List ℕ → PlainSort → Term → Term → Statement
choice_of p w s t u = plain.choosing (plain.choice_with p w s tt t u)

choosing_read : (p : Target) (w : List ℕ) (s : PlainSort) (t u : Term) (xs ys zs : List Token) → reading.chosen_name xs ≡ read_next (w, s) ys → reading.chosen_terms ys ≡ read_next (t, u) zs →
    reading.limited_statement (choice_of p w s t u) ≡ Some (choice_of p w s t u) → reading.choosing p xs ≡ read_next (choice_of p w s t u) zs
unfolding reading.choosing bind
choosing_read p w s t u xs ys zs e f g = rw e (rw f (rw g refl))

chosen_read : (p : Target) (s : Statement) (ys zs : List Token) → reading.choosing p ys ≡ read_next s zs →
    choose (skip mark.Choose (token.Mark mark.Choose ∷ ys)).0 (reading.choosing p (skip mark.Choose (token.Mark mark.Choose ∷ ys)).1) (reading.assigned_term p (skip mark.Choose (token.Mark mark.Choose ∷ ys)).1)
    ≡ read_next s zs
unfolding skip choose
chosen_read p s ys zs e = e

choosing_complete : (p : Target) (w : List ℕ) (s : PlainSort) (t u : Term) (xs ys zs us vs : List Token) →
    SpellsTarget p xs (token.Mark mark.Assign ∷ token.Mark mark.Choose ∷ token.Word w ∷ token.Mark mark.Colon ∷ ys) → SpellsSort bracket_limit s ys (token.Mark mark.Where ∷ zs) →
    SpellsTerm bracket_limit t zs (token.Mark mark.Yield ∷ us) → SpellsTerm bracket_limit u us vs → level vs < 14 → statement_height (choice_of p w s t u) ≤ height_limit →
    reading.effect_statement xs ≡ read_next (choice_of p w s t u) vs
choosing_complete p w s t u xs ys zs us vs pd sd td ud h low =
    let named = name_read w s ys (token.Mark mark.Where ∷ zs) (sort_complete bracket_limit s ys _ sd) in
    let terms = terms_read t u zs us vs (whole_term t zs _ td (omega arith)) (whole_term u us vs ud h) in
    effect_read p xs _ (target_complete p xs _ pd (omega arith))
    ∙ chosen_read p (choice_of p w s t u) _ vs (choosing_read p w s t u _ _ vs named terms (limited_low (choice_of p w s t u) low))

limited_choice : (arms : Arms) (rest : Statements) → statement_height (plain.branch arms rest) ≤ height_limit →
    reading.limited_statement (plain.branch (arms_of (arm_list arms)) (statements_of (statement_list rest))) ≡ Some (plain.branch arms rest)
limited_choice arms rest h = rw (listed_arms_same arms, listed_same rest) (limited_low (plain.branch arms rest) h)

limited_loop : (t : Term) (body : Statements) → statement_height (plain.loop t body) ≤ height_limit →
    reading.limited_statement (plain.loop t (statements_of (statement_list body))) ≡ Some (plain.loop t body)
limited_loop t body h = rw (listed_same body) (limited_low (plain.loop t body) h)

word_begins : (c : Context) (xs : List Token) → at_word xs ≡ true → reading.begins_statement c xs ≡ true
unfolding reading.begins_statement
word_begins Effect xs e = rw e refl
word_begins Block xs e = rw e refl

if_begins : (c : Context) (xs : List Token) → reading.begins_statement c (token.Mark mark.If ∷ xs) ≡ true
unfolding reading.begins_statement at_word at
if_begins Effect xs = refl
if_begins Block xs = refl

while_begins : (xs : List Token) → reading.begins_statement Block (token.Mark mark.While ∷ xs) ≡ true
unfolding reading.begins_statement reading.begins_in_block at_word at
while_begins xs = refl

fire_begins : (xs : List Token) → reading.begins_statement Block (token.Mark mark.Fire ∷ xs) ≡ true
unfolding reading.begins_statement reading.begins_in_block at_word at
fire_begins xs = refl

-- firings

firing_read : (c : Call) (xs ys : List Token) → at_kind xs ≡ false → reading.call xs ≡ read_next c ys → reading.firing xs ≡ read_next (plain.firing None c.name tt c.arguments) ys
unfolding reading.firing bind choose
firing_read c xs ys e f = rw e (rw f refl)

kind_firing_read : (k : Kind) (c : Call) (xs ys zs : List Token) → at_kind xs ≡ true → reading.kind xs ≡ read_next k ys → reading.call ys ≡ read_next c zs →
    reading.firing xs ≡ read_next (plain.firing (Some k) c.name tt c.arguments) zs
unfolding reading.firing bind choose
kind_firing_read k c xs ys zs e f g = rw e (rw f (rw g refl))

call_no_kind : (c : Call) (xs ys : List Token) → SpellsCall c xs ys → at_kind xs ≡ false
unfolding at_kind kind_first peek_mark bind
call_no_kind _ _ _ (grammar.called d) = refl

firing_complete : (x : Firing) (xs ys : List Token) → SpellsFiring x xs ys → level ys < 14 → reading.firing xs ≡ read_next x ys
firing_complete _ xs ys (grammar.firing {call = c} d) h = firing_read c xs ys (call_no_kind c xs ys d) (call_complete c xs ys d h)
firing_complete _ xs zs (grammar.kind_firing {k = k} {call = c} {ys = ys} kd d) h =
    kind_firing_read k c xs ys zs (kind_begins k xs ys kd) (kind_complete k xs ys kd) (call_complete c ys zs d h)

-- how a statement, an arm and the rest are read by what reads the statements in them
module _ (next : List Token → Option (List Statement × List Token)) where
  record StatementRead (c : Context) (s : Statement) (xs ys : List Token) : Type 0 where
    reads : level ys < 14 → reading.one_statement next c xs ≡ read_next s ys
    begins : reading.begins_statement c xs ≡ true
    shorter : length ys < length xs

  record ArmRead (a : Term × Statements) (xs ys : List Token) : Type 0 where
    reads : level ys < 11 → reading.one_arm next xs ≡ read_next a ys
    shorter : length ys < length xs

  in_effect : (s : Statement) (xs zs : List Token) → skip mark.If xs ≡ stays false xs → reading.effect_statement xs ≡ read_next s zs → reading.one_statement next Effect xs ≡ read_next s zs
  unfolding reading.one_statement reading.other_statement choose
  in_effect s xs zs e f = rw e f

  in_block : (s : Statement) (xs zs : List Token) → skip mark.If xs ≡ stays false xs → skip mark.While xs ≡ stays false xs → skip mark.Fire xs ≡ stays false xs →
      reading.assignment xs ≡ read_next s zs → reading.one_statement next Block xs ≡ read_next s zs
  unfolding reading.one_statement reading.other_statement reading.block_statement choose
  in_block s xs zs e w i f = rw e (rw w (rw i f))

  assigned : (c : Context) (p : Target) (t : Term) (xs ys zs : List Token) → ((m : Mark) → skip m xs ≡ stays false xs) → SpellsTarget p xs (token.Mark mark.Assign ∷ ys) →
      SpellsTerm bracket_limit t ys zs → level zs < 14 → reading.one_statement next c xs ≡ read_next (plain.assign p t) zs
  assigned Effect p t xs ys zs no_mark pd td h = in_effect (plain.assign p t) xs zs (no_mark mark.If) (effect_assignment_complete p t xs ys zs pd td h)
  assigned Block p t xs ys zs no_mark pd td h = in_block (plain.assign p t) xs zs (no_mark mark.If) (no_mark mark.While) (no_mark mark.Fire) (assignment_complete p t xs ys zs pd td h)

  loop_read : (t : Term) (rs : List Statement) (s : Statement) (xs ys zs : List Token) → term bracket_limit xs ≡ read_next t (token.Mark mark.Do ∷ ys) →
      next ys ≡ read_next rs (token.Mark mark.Od ∷ zs) → reading.limited_statement (plain.loop t (statements_of rs)) ≡ Some s →
      reading.one_statement next Block (token.Mark mark.While ∷ xs) ≡ read_next s zs
  unfolding reading.one_statement reading.other_statement reading.block_statement reading.repetition expect skip bind choose
  loop_read t rs s xs ys zs e f g = rw e (rw f (rw g refl))

  fire_read : (x : Firing) (xs ys : List Token) → reading.firing xs ≡ read_next x ys → reading.limited_statement (plain.fire x) ≡ Some (plain.fire x) →
      reading.one_statement next Block (token.Mark mark.Fire ∷ xs) ≡ read_next (plain.fire x) ys
  unfolding reading.one_statement reading.other_statement reading.block_statement reading.fire_statement skip bind choose
  fire_read x xs ys e f = rw e (rw f refl)

  branch_read : (c : Context) (arms : List (Term × Statements)) (rs : List Statement) (s : Statement) (xs ys zs : List Token) → reading.all_arms next xs ≡ read_next arms ys → reading.rest_of next ys ≡ read_next rs zs →
      reading.limited_statement (plain.branch (arms_of arms) (statements_of rs)) ≡ Some s → reading.one_statement next c (token.Mark mark.If ∷ xs) ≡ read_next s zs
  unfolding reading.one_statement reading.choice skip bind choose
  branch_read c arms rs s xs ys zs e f g = rw e (rw f (rw g refl))

  arm_read : (t : Term) (body : Statements) (xs ys zs : List Token) → term bracket_limit xs ≡ read_next t (token.Mark mark.Then ∷ ys) → next ys ≡ read_next (statement_list body) zs →
      reading.one_arm next xs ≡ read_next (t, body) zs
  unfolding reading.one_arm expect skip bind
  arm_read t body xs ys zs e f = rw e (rw f (rw (listed_same body) refl))

  no_rest : (xs : List Token) → reading.rest_of next (token.Mark mark.Fi ∷ xs) ≡ read_next [] xs
  unfolding reading.rest_of expect skip bind choose
  no_rest xs = refl

  some_rest : (rs : List Statement) (xs ys : List Token) → next xs ≡ read_next rs (token.Mark mark.Fi ∷ ys) → reading.rest_of next (token.Mark mark.Else ∷ xs) ≡ read_next rs ys
  unfolding reading.rest_of expect skip bind choose
  some_rest rs xs ys e = rw e refl

  all_arms_read : (arms : List (Term × Statements)) (xs ys : List Token) → SeparatedBy mark.ElseIf ArmRead arms xs ys → level ys < 11 → at mark.ElseIf ys ≡ false →
      reading.all_arms next xs ≡ read_next arms ys
  unfolding reading.all_arms
  all_arms_read arms xs ys d h k =
      separated_complete (Below 11) ArmRead (reading.one_arm next) (λ a us vs r low. r.reads low) (λ a us vs r. r.shorter) mark.ElseIf (λ zs. omega arith) arms xs ys d h k

-- statements, one less deep

all_read : (c : Context) (depth : ℕ) (ss : List Statement) (xs ys : List Token) → SeparatedOrEndedBy mark.Semicolon (StatementRead (reading.statements_in c depth) c) ss xs ys → level ys < 11 →
    reading.statements_in c (suc depth) xs ≡ read_next ss ys
unfolding reading.statements_in
all_read c depth ss xs ys d h =
    ended_complete (Below 14) (StatementRead (reading.statements_in c depth) c) (reading.one_statement (reading.statements_in c depth) c) (λ s us vs r low. r.reads low) (λ s us vs r. r.shorter)
    mark.Semicolon (reading.begins_statement c) (λ s us vs r. r.begins) (λ zs. omega arith) ss xs ys d (omega arith) (at_below mark.Semicolon ys h) (begins_statement_below c ys h)

arms_positive : (c : Context) (arms : Arms) (xs ys : List Token) → SpellsArms c arms xs ys → 1 ≤ arms_height arms
arms_positive _ _ _ _ (grammar.one_arm {t = t} td bd) = let p = height_positive t in omega arith
arms_positive _ _ _ _ (grammar.more_arms {t = t} td bd od) = let p = height_positive t in omega arith

rest_level : (c : Context) (rest : Statements) (xs ys : List Token) → SpellsRest c rest xs ys → level xs < 11
rest_level _ _ _ _ grammar.no_else = omega arith
rest_level _ _ _ _ (grammar.otherwise d) = omega arith

rest_no_arm : (c : Context) (rest : Statements) (xs ys : List Token) → SpellsRest c rest xs ys → at mark.ElseIf xs ≡ false
unfolding at
rest_no_arm _ _ _ _ grammar.no_else = refl
rest_no_arm _ _ _ _ (grammar.otherwise d) = refl

mutual
  statement_complete : {c : Context} {s : Statement} {xs ys : List Token} → SpellsStatement c s xs ys → (depth : ℕ) → statement_height s ≤ suc depth → suc depth ≤ height_limit →
      StatementRead (reading.statements_in c depth) c s xs ys
  statement_complete (grammar.assignment {c = c} {p = p} {t = t} {xs = xs} {ys = us} {zs = ys} pd td) depth low deep =
      let first : at_word xs ≡ true = target_first p xs _ pd in
      let no_mark : (m : Mark) → skip m xs ≡ stays false xs = λ m. skip_other m xs (at_word_no_mark m xs first) in
      record {
        reads = λ h. assigned (reading.statements_in c depth) c p t xs us ys no_mark pd td h;
        begins = word_begins c xs first;
        shorter = statement_shorter (grammar.assignment {c = c} pd td);
      }
  statement_complete (grammar.repetition {t = t} {body = body} {xs = xs} {ys = us} {zs = ys} td bd) zero low deep = let p = height_positive t in absurd (omega arith)
  statement_complete (grammar.repetition {t = t} {body = body} {xs = xs} {ys = us} {zs = ys} td bd) (suc depth) low deep = record {
    reads = λ h. loop_read (reading.statements_in Block (suc depth)) t (statement_list body) (plain.loop t body) xs us ys (whole_term t xs _ td (omega arith))
        (all_read Block depth (statement_list body) us _ (statements_listed bd depth (omega arith) (omega arith)) (omega arith)) (limited_loop t body (omega arith));
    begins = while_begins xs;
    shorter = statement_shorter (grammar.repetition td bd);
  }
  statement_complete (grammar.fire_statement {f = f} {xs = xs} {ys = ys} d) depth low deep = record {
    reads = λ h. fire_read (reading.statements_in Block depth) f xs ys (firing_complete f xs ys d h) (limited_low (plain.fire f) (omega arith));
    begins = fire_begins xs;
    shorter = statement_shorter (grammar.fire_statement d);
  }
  statement_complete (grammar.choosing {p = p} {w = w} {s = s} {t = t} {u = u} {xs = xs} {ys = ys} {zs = zs} {us = us} {vs = vs} pd sd td ud) depth low deep =
      let first : at_word xs ≡ true = target_first p xs _ pd in
      record {
        reads = λ h. in_effect (reading.statements_in Effect depth) (choice_of p w s t u) xs vs (skip_other mark.If xs (at_word_no_mark mark.If xs first))
            (choosing_complete p w s t u xs ys zs us vs pd sd td ud h (omega arith));
        begins = word_begins Effect xs first;
        shorter = statement_shorter (grammar.choosing pd sd td ud);
      }
  statement_complete (grammar.choice {c = c} {arms = arms} {xs = xs} {ys = us} ad rd) zero low deep = let p = arms_positive c arms xs us ad in absurd (omega arith)
  statement_complete (grammar.choice {c = c} {arms = arms} {rest = rest} {xs = xs} {ys = us} {zs = ys} ad rd) (suc depth) low deep =
      let next : List Token → Option (List Statement × List Token) = reading.statements_in c (suc depth) in
      record {
        reads = λ h. branch_read next c (arm_list arms) (statement_list rest) (plain.branch arms rest) xs us ys
            (all_arms_read next (arm_list arms) xs us (arms_complete ad depth (omega arith) (omega arith)) (rest_level c rest us ys rd) (rest_no_arm c rest us ys rd))
            (rest_complete rd depth (omega arith) (omega arith)) (limited_choice arms rest (omega arith));
        begins = if_begins c xs;
        shorter = statement_shorter (grammar.choice ad rd);
      }

  arms_complete : {c : Context} {arms : Arms} {xs ys : List Token} → SpellsArms c arms xs ys → (depth : ℕ) → arms_height arms ≤ suc depth → suc depth ≤ height_limit →
      SeparatedBy mark.ElseIf (ArmRead (reading.statements_in c (suc depth))) (arm_list arms) xs ys
  arms_complete (grammar.one_arm {c = c} {t = t} {body = body} {xs = xs} {ys = us} {zs = ys} td bd) depth low deep =
      let a = term_shorter _ _ _ _ td in
      let b = statements_shorter bd in
      single (record {
        reads = λ h. arm_read (reading.statements_in c (suc depth)) t body xs us ys (whole_term t xs _ td (omega arith)) (all_read c depth (statement_list body) us ys (statements_listed bd depth (omega arith) deep) h);
        shorter = omega arith;
      })
  arms_complete (grammar.more_arms {c = c} {t = t} {body = body} {xs = xs} {ys = us} {zs = zs} td bd od) depth low deep =
      let a = term_shorter _ _ _ _ td in
      let b = statements_shorter bd in
      followed (record {
        reads = λ h. arm_read (reading.statements_in c (suc depth)) t body xs us _ (whole_term t xs _ td (omega arith)) (all_read c depth (statement_list body) us _ (statements_listed bd depth (omega arith) deep) h);
        shorter = omega arith;
      }) (arms_complete od depth (omega arith) deep)

  rest_complete : {c : Context} {rest : Statements} {xs ys : List Token} → SpellsRest c rest xs ys → (depth : ℕ) → statements_height rest ≤ suc depth → suc depth ≤ height_limit →
      reading.rest_of (reading.statements_in c (suc depth)) xs ≡ read_next (statement_list rest) ys
  rest_complete (grammar.no_else {c = c} {xs = ys}) depth low deep = no_rest (reading.statements_in c (suc depth)) ys
  rest_complete (grammar.otherwise {c = c} {rest = rest} {xs = xs} {ys = ys} d) depth low deep =
      some_rest (reading.statements_in c (suc depth)) (statement_list rest) xs ys (all_read c depth (statement_list rest) xs _ (statements_listed d depth low deep) (omega arith))

  statements_listed : {c : Context} {ss : Statements} {xs ys : List Token} → SpellsStatements c ss xs ys → (depth : ℕ) → statements_height ss ≤ suc depth → suc depth ≤ height_limit →
      SeparatedOrEndedBy mark.Semicolon (StatementRead (reading.statements_in c depth) c) (statement_list ss) xs ys
  statements_listed (grammar.last_statement d) depth low deep = last (statement_complete d depth (omega arith) deep)
  statements_listed (grammar.closed_statement d) depth low deep = closed (statement_complete d depth (omega arith) deep)
  statements_listed (grammar.more_statements d rest) depth low deep = continued (statement_complete d depth (omega arith) deep) (statements_listed rest depth (omega arith) deep)

-- the statements of an effect or of a schedule block

deepest : (c : Context) (xs : List Token) → reading.statements c xs ≡ reading.statements_in c height_limit xs
unfolding reading.statements
deepest c xs = refl

pub statements_complete : (c : Context) (ss : List Statement) (xs ys : List Token) → SpellsLow c ss xs ys → level ys < 11 → reading.statements c xs ≡ read_next ss ys
statements_complete c ss xs ys d h =
    deepest c xs ∙ (all_read c 63 (statement_list (statements_of ss)) xs ys (statements_listed d.spelled 63 d.low (omega arith)) h ∙ ap (λ all. read_next all ys) (listed_of ss))

pub effect_complete : (ss : List Statement) (xs ys : List Token) → Section mark.Eff (SpellsLow Effect) ss xs ys → level ys < 9 → reading.effect xs ≡ read_next ss ys
unfolding reading.effect
effect_complete ss xs ys d h = section_complete (Below 11) (SpellsLow Effect) (reading.statements Effect) (statements_complete Effect) mark.Eff ss xs ys d (omega arith) (at_below mark.Eff ys h)

-- statements do not begin with `od`

statement_not_over : {c : Context} {s : Statement} {xs ys : List Token} → SpellsStatement c s xs ys → at mark.Od xs ≡ false
unfolding at
statement_not_over (grammar.assignment {p = p} {xs = xs} pd td) = at_word_no_mark mark.Od xs (target_first p xs _ pd)
statement_not_over (grammar.choice ad rd) = refl
statement_not_over (grammar.repetition td bd) = refl
statement_not_over (grammar.fire_statement d) = refl
statement_not_over (grammar.choosing {p = p} {xs = xs} pd sd td ud) = at_word_no_mark mark.Od xs (target_first p xs _ pd)

pub statements_not_over : {c : Context} {ss : Statements} {xs ys : List Token} → SpellsStatements c ss xs ys → at mark.Od xs ≡ false
statements_not_over (grammar.last_statement d) = statement_not_over d
statements_not_over (grammar.closed_statement d) = statement_not_over d
statements_not_over (grammar.more_statements d rest) = statement_not_over d
