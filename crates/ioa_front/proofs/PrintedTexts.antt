-- What some tokens spell is spelled by the tokens that it is printed with, and these are tokens that a text can have
-- where those are.
use Rattle.std.proofs.Common.{List, [], ◌∷◌, ◌++◌, append_assoc, append-nil}
use Rattle.ioa_tokens.specs.declared.token.Token.{Token}
use Rattle.ioa_tokens.specs.declared.token.Token.TheVariants as token
use Rattle.ioa_tokens.specs.declared.mark.Mark.TheVariants as mark
use Rattle.ioa_tokens.specs.Written.{AreTokens}
use Rattle.ioa_source.specs.Sides.{SourceTerm as Term, SourceDeclared as Declared, SourceVariable as Variable, SourceStatement as Statement, SourceTransition as Transition, SourceSchedule as Schedule, SourceForm as Form, SourceDeclaration as Declaration, SourceCall as Call, SourcePlacement as Placement, SourceInvariant as Invariant, SourceText}
use Rattle.ioa_cursor.specs.Lists.{Several, SeparatedBy, SeveralLists, Section}
use Rattle.ioa_term_reader.specs.Grammar.{bracket_limit, SpellsTerm}
use Rattle.ioa_term_reader.specs.Spelling.{spelling}
use Rattle.ioa_term_reader.proofs.PrintedGood.{tokens_joined}
use Rattle.ioa_part_reader.specs.declared.statement.Context.TheVariants.{Effect}
use Rattle.ioa_part_reader.specs.Grammar as grammar
use Rattle.ioa_part_reader.specs.Grammar.{SpellsWord, SpellsVariable, SpellsCall, SpellsGuard, SpellsLow, SpellsTransition, SpellsGroup, SpellsBlock, schedule_with, SpellsSchedule, SpellsHead, SpellsForm, SpellsDeclaration, SpellsPlacement, SpellsInvariant, Spells}
use Rattle.ioa_front.specs.Spelling.{separated_spelling, joined_spelling, bracketed_spelling, section_spelling, optional_spelling, word_spelling, sort_spelling, declared_spelling, call_spelling, one_call_spelling, calls_spelling, entry_spelling, variable_spelling, states_spelling, transition_spelling, list_spelling, block_spelling, schedule_spelling, form_spelling, declaration_spelling, placement_spelling, invariant_spelling, text_spelling}
use Rattle.ioa_front.proofs.PrintedLists.{Prints, several_prints, separated_prints, optional_prints, section_prints, brackets_good}
use Rattle.ioa_front.proofs.PrintedDeclared.{outer_term, sort_prints, word_prints, declared_prints, call_prints, kind_again, kind_good, entries_print}
use Rattle.ioa_front.proofs.PrintedStatements.{low_prints, block_prints}

variable_prints : (v : Variable) (xs ys : List Token) → SpellsVariable v xs ys → Prints SpellsVariable variable_spelling v xs ys
variable_prints v xs ys (grammar.of_sort {s = s} {initial = initial} d o) =
    let p = sort_prints d in
    let q = optional_prints (SpellsTerm bracket_limit) spelling outer_term mark.Assign o in
    let right = optional_spelling mark.Assign spelling initial in
    record {
      again = λ zs. rw (append_assoc (sort_spelling s) right zs) (grammar.of_sort (p.again (right ++ zs)) (q.again zs));
      good = λ h. let g = p.good h.1.1 in let i = q.good g.1 in ((h.0, (tt, tokens_joined (sort_spelling s) right g.0 i.0)), i.1);
    }

variables_print : (vs : List Variable) (xs ys : List Token) → SeparatedBy mark.Comma SpellsVariable vs xs ys → Prints (SeparatedBy mark.Comma SpellsVariable) (separated_spelling mark.Comma variable_spelling) vs xs ys
variables_print vs xs ys d = separated_prints SpellsVariable variable_spelling variable_prints mark.Comma d

states_print : {vs : List Variable} {xs ys : List Token} → Section mark.States (SeparatedBy mark.Comma SpellsVariable) vs xs ys → Prints (Section mark.States (SeparatedBy mark.Comma SpellsVariable)) states_spelling vs xs ys
states_print d = section_prints (SeparatedBy mark.Comma SpellsVariable) (separated_spelling mark.Comma variable_spelling) variables_print mark.States d

-- the semicolon behind a guard is not printed
guard_prints : (t : Term) (xs ys : List Token) → SpellsGuard t xs ys → Prints SpellsGuard spelling t xs ys
guard_prints t xs ys (grammar.guard d) = let p = outer_term t _ _ d in record { again = λ zs. grammar.guard (p.again zs); good = p.good }
guard_prints t xs ys (grammar.closed_guard d) =
    let p = outer_term t _ _ d in
    record { again = λ zs. grammar.guard (p.again zs); good = λ h. let g = p.good h in (g.0, g.1.1) }

transition_prints : (t : Transition) (xs ys : List Token) → SpellsTransition t xs ys → Prints SpellsTransition transition_spelling t xs ys
transition_prints t xs ys (grammar.transition {k = k} {head = head} {pre = pre} {effect = effect} kinded d o e) =
    let p = call_prints d in
    let q = optional_prints SpellsGuard spelling guard_prints mark.Pre o in
    let r = section_prints (SpellsLow Effect) list_spelling (low_prints Effect) mark.Eff e in
    let called = call_spelling head.name head.arguments in
    let guarded = optional_spelling mark.Pre spelling pre in
    let effected = section_spelling mark.Eff list_spelling effect in
    record {
      again = λ zs.
          rw (append_assoc called (guarded ++ effected) zs, append_assoc guarded effected zs)
          (grammar.transition {head = head} (kind_again k _) (p.again (guarded ++ (effected ++ zs))) (q.again (effected ++ zs)) (r.again zs));
      good = λ h.
          let g = p.good (kind_good kinded h) in
          let i = q.good g.1 in
          let j = r.good i.1 in
          ((tt, tokens_joined called (guarded ++ effected) g.0 (tokens_joined guarded effected i.0 j.0)), j.1);
    }

transitions_print : (ts : List Transition) (xs ys : List Token) → Several SpellsTransition ts xs ys → Prints (Several SpellsTransition) (joined_spelling transition_spelling) ts xs ys
transitions_print ts xs ys d = several_prints SpellsTransition transition_spelling transition_prints d

-- the empty schedule block is not printed
written_schedule : (vs : List Variable) (ss : List Statement) {xs ys zs : List Token} → Prints (Section mark.States (SeparatedBy mark.Comma SpellsVariable)) states_spelling vs xs ys → Prints SpellsBlock block_spelling ss ys zs →
    Prints SpellsSchedule schedule_spelling (schedule_with vs ss) (token.Mark mark.Schedule ∷ xs) zs
written_schedule [] [] p q = record { again = λ us. grammar.no_schedule; good = λ h. let g = p.good h.1 in let i = q.good g.1 in (tt, i.1) }
written_schedule [] (s ∷ more) p q =
    record {
      again = λ us. grammar.schedule (p.again (block_spelling (s ∷ more) ++ us)) (q.again us);
      good = λ h. let g = p.good h.1 in let i = q.good g.1 in ((tt, i.0), i.1);
    }
written_schedule (v ∷ others) ss p q =
    let left = states_spelling (v ∷ others) in
    let right = block_spelling ss in
    record {
      again = λ us. rw (append_assoc left right us) (grammar.schedule (p.again (right ++ us)) (q.again us));
      good = λ h. let g = p.good h.1 in let i = q.good g.1 in ((tt, tokens_joined left right g.0 i.0), i.1);
    }

schedule_prints : {s : Schedule} {xs ys : List Token} → SpellsSchedule s xs ys → Prints SpellsSchedule schedule_spelling s xs ys
schedule_prints grammar.no_schedule = record { again = λ zs. grammar.no_schedule; good = λ h. (tt, h) }
schedule_prints (grammar.schedule {variables = vs} {statements = ss} d e) = written_schedule vs ss (states_print d) (block_prints e)

-- the parameters of an automaton, and none where there is no parameter
head_again : (ds : List Declared) (zs : List Token) → ((us : List Token) → SpellsHead ds (token.Mark mark.OpenRound ∷ (separated_spelling mark.Comma declared_spelling ds ++ token.Mark mark.CloseRound ∷ us)) us) → SpellsHead ds (bracketed_spelling declared_spelling ds ++ zs) zs
head_again [] zs again = grammar.no_parameters
head_again (d ∷ more) zs again = rw (append_assoc (separated_spelling mark.Comma declared_spelling (d ∷ more)) (token.Mark mark.CloseRound ∷ []) zs) (again zs)

head_prints : {ds : List Declared} {xs ys : List Token} → SpellsHead ds xs ys → Prints SpellsHead (bracketed_spelling declared_spelling) ds xs ys
head_prints grammar.no_parameters = record { again = λ zs. grammar.no_parameters; good = λ h. (tt, h) }
head_prints (grammar.parameters {ds = ds} d) =
    let p = declared_prints d in
    record {
      again = λ zs. head_again ds zs (λ us. grammar.parameters (p.again (token.Mark mark.CloseRound ∷ us)));
      good = λ h. let g = p.good h.1 in (brackets_good declared_spelling ds g.0, g.1.1);
    }

form_prints : {f : Form} {xs ys : List Token} → SpellsForm f xs ys → Prints SpellsForm form_spelling f xs ys
form_prints (grammar.constants d) =
    let p = separated_prints SpellsWord word_spelling word_prints mark.Comma d in
    record { again = λ zs. grammar.constants (p.again zs); good = λ h. let g = p.good h.1.1 in ((tt, (tt, g.0)), g.1) }
form_prints (grammar.fields d) =
    let p = declared_prints d in
    record { again = λ zs. grammar.fields (p.again zs); good = λ h. let g = p.good h.1.1 in ((tt, (tt, g.0)), g.1) }

declaration_prints : (d : Declaration) (xs ys : List Token) → SpellsDeclaration d xs ys → Prints SpellsDeclaration declaration_spelling d xs ys
declaration_prints _ xs ys (grammar.type_form d) =
    let p = form_prints d in
    record { again = λ zs. grammar.type_form (p.again zs); good = λ h. let g = p.good h.1.1.1 in ((tt, (h.1.0, (tt, g.0))), g.1) }
declaration_prints _ xs ys (grammar.automaton_parts {head = head} {entries = entries} {variables = variables} {transitions = transitions} {block = block} d e f g b) =
    let p = head_prints d in
    let q = section_prints (SeveralLists SpellsGroup) (joined_spelling entry_spelling) entries_print mark.Signature e in
    let r = states_print f in
    let s = section_prints (Several SpellsTransition) (joined_spelling transition_spelling) transitions_print mark.Transitions g in
    let t = schedule_prints b in
    let ps = bracketed_spelling declared_spelling head in
    let qs = section_spelling mark.Signature (joined_spelling entry_spelling) entries in
    let rs = states_spelling variables in
    let ss = section_spelling mark.Transitions (joined_spelling transition_spelling) transitions in
    let ts = schedule_spelling block in
    record {
      again = λ zs.
          rw (append_assoc ps (qs ++ (rs ++ (ss ++ ts))) zs, append_assoc qs (rs ++ (ss ++ ts)) zs, append_assoc rs (ss ++ ts) zs, append_assoc ss ts zs)
          (grammar.automaton_parts (p.again (qs ++ (rs ++ (ss ++ (ts ++ zs))))) (q.again (rs ++ (ss ++ (ts ++ zs)))) (r.again (ss ++ (ts ++ zs))) (s.again (ts ++ zs)) (t.again zs));
      good = λ h.
          let gp = p.good h.1.1 in
          let gq = q.good gp.1 in
          let gr = r.good gq.1 in
          let gs = s.good gr.1 in
          let gt = t.good gs.1 in
          let parts = tokens_joined qs (rs ++ (ss ++ ts)) gq.0 (tokens_joined rs (ss ++ ts) gr.0 (tokens_joined ss ts gs.0 gt.0)) in
          ((tt, (h.1.0, tokens_joined ps (qs ++ (rs ++ (ss ++ ts))) gp.0 parts)), gt.1);
    }

calls_print : {cs : List Call} {xs ys : List Token} → SeparatedBy mark.Comma SpellsCall cs xs ys → Prints (SeparatedBy mark.Comma SpellsCall) calls_spelling cs xs ys
calls_print d = separated_prints SpellsCall one_call_spelling (λ c xs ys e. call_prints e) mark.Comma d

placement_prints : (p : Placement) (xs ys : List Token) → SpellsPlacement p xs ys → Prints SpellsPlacement placement_spelling p xs ys
placement_prints _ xs ys (grammar.node {call = c} d) =
    let p = call_prints d in
    record { again = λ zs. grammar.node {call = c} (p.again zs); good = λ h. let g = p.good h.1.1.1 in ((tt, (h.1.0, (tt, g.0))), g.1) }
placement_prints _ xs ys grammar.channel =
    record { again = λ zs. grammar.channel; good = λ h. ((tt, (h.1.0, (tt, (h.1.1.1.0, tt)))), h.1.1.1.1) }
placement_prints _ xs ys grammar.unordered =
    record { again = λ zs. grammar.unordered; good = λ h. ((tt, (h.1.0, (tt, (h.1.1.1.0, (tt, tt))))), h.1.1.1.1.1) }
placement_prints _ xs ys (grammar.script d) =
    let p = calls_print d in
    record { again = λ zs. grammar.script (p.again zs); good = λ h. let g = p.good h.1.1.1 in ((tt, (h.1.0, (tt, g.0))), g.1) }

declarations_print : {ds : List Declaration} {xs ys : List Token} → Several SpellsDeclaration ds xs ys → Prints (Several SpellsDeclaration) (joined_spelling declaration_spelling) ds xs ys
declarations_print d = several_prints SpellsDeclaration declaration_spelling declaration_prints d

system_prints : {ps : List Placement} {xs ys : List Token} → Several SpellsPlacement ps xs ys → Prints (Several SpellsPlacement) (joined_spelling placement_spelling) ps xs ys
system_prints d = several_prints SpellsPlacement placement_spelling placement_prints d

invariant_prints : (v : Invariant) (xs ys : List Token) → SpellsInvariant v xs ys → Prints SpellsInvariant invariant_spelling v xs ys
invariant_prints _ xs ys (grammar.invariant d) =
    let p = outer_term _ _ _ d in
    record { again = λ zs. grammar.invariant (p.again zs); good = λ h. let g = p.good h.1.1.1 in ((tt, (h.1.0, (tt, g.0))), g.1) }

invariants_print : {vs : List Invariant} {xs ys : List Token} → Several SpellsInvariant vs xs ys → Prints (Several SpellsInvariant) (joined_spelling invariant_spelling) vs xs ys
invariants_print d = several_prints SpellsInvariant invariant_spelling invariant_prints d

-- what is spelled is spelled as it is printed
pub text_spelled : (p : SourceText) (xs : List Token) → Spells p xs → Spells p (text_spelling p)
text_spelled _ xs (grammar.text {declarations = declarations} {system = system} {invariants = invariants} d e f) =
    let p = declarations_print d in
    let q = system_prints e in
    let r = invariants_print f in
    let placed = joined_spelling placement_spelling system in
    let behind = joined_spelling invariant_spelling invariants in
    let last = rw (append-nil behind) at (r.again []) in
    grammar.text (p.again (token.Mark mark.System ∷ (placed ++ behind))) (q.again behind) last

-- and it is printed with tokens that a text can have
pub text_good : (p : SourceText) (xs : List Token) → Spells p xs → AreTokens xs → AreTokens (text_spelling p)
text_good _ xs (grammar.text {declarations = declarations} {system = system} {invariants = invariants} d e f) h =
    let p = declarations_print d in
    let q = system_prints e in
    let r = invariants_print f in
    let placed = joined_spelling placement_spelling system in
    let behind = joined_spelling invariant_spelling invariants in
    let g = p.good h in
    let i = q.good g.1.1 in
    let j = r.good i.1 in
    tokens_joined (joined_spelling declaration_spelling declarations) (token.Mark mark.System ∷ (placed ++ behind)) g.0 (tt, tokens_joined placed behind i.0 j.0)
