-- Statements and blocks as they are printed.
use Rattle.std.proofs.Common.{◌≡◌, ℕ, List, [], ◌∷◌, ◌++◌, refl, append_assoc, append-nil}
use Rattle.ioa_tokens.specs.declared.token.Token.{Token}
use Rattle.ioa_tokens.specs.declared.token.Token.TheVariants as token
use Rattle.ioa_tokens.specs.declared.mark.Mark.TheVariants as mark
use Rattle.ioa_terms.specs.PlainSort.{PlainSort}
use Rattle.ioa_terms.specs.PlainTerm.{choosing, choice_with}
use Rattle.ioa_source.specs.Sides.{SourceTerm as Term, SourceTarget as Target, SourceStatement as Statement, SourceStatements as Statements, SourceArms as Arms, SourceFiring as Firing}
use Rattle.ioa_term_reader.specs.Grammar.{bracket_limit, SpellsTerm}
use Rattle.ioa_term_reader.specs.Spelling.{spelling}
use Rattle.ioa_term_reader.proofs.PrintedGood.{tokens_joined}
use Rattle.ioa_part_reader.specs.declared.statement.Context.{Context}
use Rattle.ioa_part_reader.specs.declared.statement.Context.TheVariants.{Effect}
use Rattle.ioa_part_reader.specs.Grammar as grammar
use Rattle.ioa_part_reader.specs.Grammar.{SpellsSort, SpellsTarget, SpellsFiring, SpellsStatement, SpellsArms, SpellsRest, SpellsStatements, SpellsLow, SpellsBlock}
use Rattle.ioa_front.specs.Spelling.{sort_spelling, target_spelling, firing_spelling, else_spelling, between_do_and_od, statement_spelling, statements_spelling, more_statements_spelling, arms_spelling, more_arms_spelling, list_spelling, block_spelling}
use Rattle.ioa_front.proofs.PrintedLists.{Prints}
use Rattle.ioa_front.proofs.PrintedDeclared.{inner_term, outer_term, sort_prints, call_prints, kind_again, kind_good}

target_prints : {p : Target} {xs ys : List Token} → SpellsTarget p xs ys → Prints SpellsTarget target_spelling p xs ys
target_prints grammar.whole = record { again = λ zs. grammar.whole; good = λ h. ((h.0, tt), h.1) }
target_prints (grammar.at_a_key {t = t} d) =
    let p = inner_term t _ _ d in
    let end = token.Mark mark.CloseSquare ∷ [] in
    record {
      again = λ zs. rw (append_assoc (spelling t) end zs) (grammar.at_a_key (p.again (token.Mark mark.CloseSquare ∷ zs)));
      good = λ h. let g = p.good h.1.1 in ((h.0, (tt, tokens_joined (spelling t) end g.0 (tt, tt))), g.1.1);
    }
target_prints grammar.at_a_field = record { again = λ zs. grammar.at_a_field; good = λ h. ((h.0, (tt, (h.1.1.0, tt))), h.1.1.1) }

-- an action as a `fire` names it

firing_prints : {f : Firing} {xs ys : List Token} → SpellsFiring f xs ys → Prints SpellsFiring firing_spelling f xs ys
firing_prints (grammar.firing {call = c} d) =
    let p = call_prints d in
    record { again = λ zs. grammar.firing {call = c} (p.again zs); good = p.good }
firing_prints (grammar.kind_firing {k = k} {call = c} kinded d) =
    let p = call_prints d in
    record {
      again = λ zs. grammar.kind_firing {call = c} (kind_again k _) (p.again zs);
      good = λ h. let g = p.good (kind_good kinded h) in ((tt, g.0), g.1);
    }

-- behind a statement, an arm and the arms, what is spelled comes after its mark

statements_go_on : {c : Context} {ss : Statements} {xs ys : List Token} → SpellsStatements c ss xs ys → more_statements_spelling ss ≡ token.Mark mark.Semicolon ∷ statements_spelling ss
statements_go_on (grammar.last_statement d) = refl
statements_go_on (grammar.closed_statement d) = refl
statements_go_on (grammar.more_statements d rest) = refl

arms_go_on : {c : Context} {arms : Arms} {xs ys : List Token} → SpellsArms c arms xs ys → more_arms_spelling arms ≡ token.Mark mark.ElseIf ∷ arms_spelling arms
arms_go_on (grammar.one_arm d body) = refl
arms_go_on (grammar.more_arms d body rest) = refl

else_goes_on : {c : Context} {ss : Statements} {xs ys : List Token} → SpellsStatements c ss xs ys → (zs : List Token) → else_spelling ss zs ≡ token.Mark mark.Else ∷ zs
else_goes_on (grammar.last_statement d) zs = refl
else_goes_on (grammar.closed_statement d) zs = refl
else_goes_on (grammar.more_statements d rest) zs = refl

-- [else Statements] fi
abbrev rest_spelling : Statements → List Token
rest_spelling ss = else_spelling ss (statements_spelling ss) ++ token.Mark mark.Fi ∷ []

-- a choice

choosing_prints : {p : Target} {w : List ℕ} {s : PlainSort} {t u : Term} {xs ys zs us vs : List Token} →
    SpellsTarget p xs (token.Mark mark.Assign ∷ token.Mark mark.Choose ∷ token.Word w ∷ token.Mark mark.Colon ∷ ys) → SpellsSort bracket_limit s ys (token.Mark mark.Where ∷ zs) →
    SpellsTerm bracket_limit t zs (token.Mark mark.Yield ∷ us) → SpellsTerm bracket_limit u us vs →
    Prints (SpellsStatement Effect) statement_spelling (choosing (choice_with p w s tt t u)) xs vs
choosing_prints {p = p} {w = w} {s = s} {t = t} {u = u} d e f k =
    let a = target_prints d in
    let b = sort_prints e in
    let i = outer_term t _ _ f in
    let j = outer_term u _ _ k in
    let yields = token.Mark mark.Yield ∷ spelling u in
    let condition = token.Mark mark.Where ∷ (spelling t ++ yields) in
    let right = token.Mark mark.Assign ∷ token.Mark mark.Choose ∷ token.Word w ∷ token.Mark mark.Colon ∷ (sort_spelling s ++ condition) in
    record {
      again = λ zs.
          let behind = token.Mark mark.Yield ∷ (spelling u ++ zs) in
          let asked = token.Mark mark.Where ∷ (spelling t ++ behind) in
          rw (append_assoc (target_spelling p) right zs, append_assoc (sort_spelling s) condition zs, append_assoc (spelling t) yields zs)
          (grammar.choosing (a.again (token.Mark mark.Assign ∷ token.Mark mark.Choose ∷ token.Word w ∷ token.Mark mark.Colon ∷ (sort_spelling s ++ asked))) (b.again asked) (i.again behind) (j.again zs));
      good = λ h.
          let g = a.good h in
          let l = b.good g.1.1.1.1.1 in
          let m = i.good l.1.1 in
          let n = j.good m.1.1 in
          let all_yields = tokens_joined (spelling t) yields m.0 (tt, n.0) in
          let all_chosen = tokens_joined (sort_spelling s) condition l.0 (tt, all_yields) in
          (tokens_joined (target_spelling p) right g.0 (tt, (tt, (g.1.1.1.0, (tt, all_chosen)))), n.1);
    }

mutual
  statement_prints : {c : Context} {s : Statement} {xs ys : List Token} → SpellsStatement c s xs ys → Prints (SpellsStatement c) statement_spelling s xs ys
  statement_prints (grammar.assignment {p = p} {t = t} d e) =
      let a = target_prints d in
      let b = outer_term t _ _ e in
      let right = token.Mark mark.Assign ∷ spelling t in
      record {
        again = λ zs. rw (append_assoc (target_spelling p) right zs) (grammar.assignment (a.again (token.Mark mark.Assign ∷ (spelling t ++ zs))) (b.again zs));
        good = λ h. let g = a.good h in let i = b.good g.1.1 in (tokens_joined (target_spelling p) right g.0 (tt, i.0), i.1);
      }
  statement_prints (grammar.choice {arms = arms} {rest = rest} d e) =
      let a = arms_print d in
      let b = rest_prints e in
      record {
        again = λ zs. rw (append_assoc (arms_spelling arms) (rest_spelling rest) zs) (grammar.choice (a.again (rest_spelling rest ++ zs)) (b.again zs));
        good = λ h. let g = a.good h.1 in let i = b.good g.1 in ((tt, tokens_joined (arms_spelling arms) (rest_spelling rest) g.0 i.0), i.1);
      }
  statement_prints (grammar.repetition {t = t} {body = body} d e) =
      let a = outer_term t _ _ d in
      let b = statements_print e in
      let inside = statements_spelling body in
      let end = token.Mark mark.Od ∷ [] in
      record {
        again = λ zs.
            rw (append_assoc (spelling t) (between_do_and_od inside) zs, append_assoc inside end zs)
            (grammar.repetition (a.again (token.Mark mark.Do ∷ (inside ++ token.Mark mark.Od ∷ zs))) (b.again (token.Mark mark.Od ∷ zs)));
        good = λ h.
            let g = a.good h.1 in
            let i = b.good g.1.1 in
            ((tt, tokens_joined (spelling t) (between_do_and_od inside) g.0 (tt, tokens_joined inside end i.0 (tt, tt))), i.1.1);
      }
  statement_prints (grammar.fire_statement d) =
      let p = firing_prints d in
      record { again = λ zs. grammar.fire_statement (p.again zs); good = λ h. let g = p.good h.1 in ((tt, g.0), g.1) }
  statement_prints (grammar.choosing d e f k) = choosing_prints d e f k

  arms_print : {c : Context} {arms : Arms} {xs ys : List Token} → SpellsArms c arms xs ys → Prints (SpellsArms c) arms_spelling arms xs ys
  arms_print (grammar.one_arm {t = t} {body = body} d e) =
      let a = outer_term t _ _ d in
      let b = statements_print e in
      let right = token.Mark mark.Then ∷ statements_spelling body in
      record {
        again = λ zs.
            rw (append-nil (statements_spelling body), append_assoc (spelling t) right zs)
            (grammar.one_arm (a.again (token.Mark mark.Then ∷ (statements_spelling body ++ zs))) (b.again zs));
        good = λ h.
            let g = a.good h in
            let i = b.good g.1.1 in
            (rw (append-nil (statements_spelling body)) (tokens_joined (spelling t) right g.0 (tt, i.0)), i.1);
      }
  arms_print (grammar.more_arms {t = t} {body = body} {others = others} d e rest) =
      let a = outer_term t _ _ d in
      let b = statements_print e in
      let c = arms_print rest in
      let on = arms_go_on rest in
      let more = token.Mark mark.ElseIf ∷ arms_spelling others in
      let right = token.Mark mark.Then ∷ (statements_spelling body ++ more) in
      record {
        again = λ zs.
            let behind = token.Mark mark.ElseIf ∷ (arms_spelling others ++ zs) in
            rw (on, append_assoc (spelling t) right zs, append_assoc (statements_spelling body) more zs)
            (grammar.more_arms (a.again (token.Mark mark.Then ∷ (statements_spelling body ++ behind))) (b.again behind) (c.again zs));
        good = λ h.
            let g = a.good h in
            let i = b.good g.1.1 in
            let k = c.good i.1.1 in
            (rw on (tokens_joined (spelling t) right g.0 (tt, tokens_joined (statements_spelling body) more i.0 (tt, k.0))), k.1);
      }

  rest_prints : {c : Context} {ss : Statements} {xs ys : List Token} → SpellsRest c ss xs ys → Prints (SpellsRest c) rest_spelling ss xs ys
  rest_prints grammar.no_else = record { again = λ zs. grammar.no_else; good = λ h. ((tt, tt), h.1) }
  rest_prints (grammar.otherwise {rest = ss} d) =
      let p = statements_print d in
      let on = else_goes_on d (statements_spelling ss) in
      let end = token.Mark mark.Fi ∷ [] in
      record {
        again = λ zs. rw (on, append_assoc (statements_spelling ss) end zs) (grammar.otherwise (p.again (token.Mark mark.Fi ∷ zs)));
        good = λ h. let g = p.good h.1 in (rw on (tt, tokens_joined (statements_spelling ss) end g.0 (tt, tt)), g.1.1);
      }

  statements_print : {c : Context} {ss : Statements} {xs ys : List Token} → SpellsStatements c ss xs ys → Prints (SpellsStatements c) statements_spelling ss xs ys
  statements_print (grammar.last_statement {s = s} d) =
      let p = statement_prints d in
      record {
        again = λ zs. rw (append-nil (statement_spelling s)) (grammar.last_statement (p.again zs));
        good = λ h. let g = p.good h in (tokens_joined (statement_spelling s) [] g.0 tt, g.1);
      }
  statements_print (grammar.closed_statement {s = s} d) =
      let p = statement_prints d in
      record {
        again = λ zs. rw (append-nil (statement_spelling s)) (grammar.last_statement (p.again zs));
        good = λ h. let g = p.good h in (tokens_joined (statement_spelling s) [] g.0 tt, g.1.1);
      }
  statements_print (grammar.more_statements {s = s} {others = others} d rest) =
      let p = statement_prints d in
      let q = statements_print rest in
      let on = statements_go_on rest in
      let right = token.Mark mark.Semicolon ∷ statements_spelling others in
      record {
        again = λ zs.
            rw (on, append_assoc (statement_spelling s) right zs)
            (grammar.more_statements (p.again (token.Mark mark.Semicolon ∷ (statements_spelling others ++ zs))) (q.again zs));
        good = λ h.
            let g = p.good h in
            let i = q.good g.1.1 in
            (rw on (tokens_joined (statement_spelling s) right g.0 (tt, i.0)), i.1);
      }

pub low_prints : (c : Context) (ss : List Statement) (xs ys : List Token) → SpellsLow c ss xs ys → Prints (SpellsLow c) list_spelling ss xs ys
low_prints c ss xs ys d =
    let p = statements_print d.spelled in
    record { again = λ zs. record { spelled = p.again zs; low = d.low }; good = p.good }

pub block_prints : {ss : List Statement} {xs ys : List Token} → SpellsBlock ss xs ys → Prints SpellsBlock block_spelling ss xs ys
block_prints grammar.idle = record { again = λ zs. grammar.idle; good = λ h. ((tt, (tt, tt)), h.1.1) }
block_prints (grammar.busy {statements = ss} d) =
    let p = low_prints _ ss _ _ d in
    let inside = list_spelling ss in
    let end = token.Mark mark.Od ∷ [] in
    record {
      again = λ zs. rw (append_assoc inside end zs) (grammar.busy (p.again (token.Mark mark.Od ∷ zs)));
      good = λ h. let g = p.good h.1 in ((tt, tokens_joined inside end g.0 (tt, tt)), g.1.1);
    }
