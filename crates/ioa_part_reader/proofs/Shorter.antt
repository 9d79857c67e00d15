-- A part of a text takes tokens: what comes after it is shorter.
use Rattle.std.proofs.Common.{ℕ, ◌<◌, ◌≤◌, List, length, arith}
use Rattle.ioa_tokens.specs.declared.token.Token.{Token}
use Rattle.ioa_tokens.specs.declared.mark.Mark.TheVariants as mark
use Rattle.ioa_terms.specs.declared.tree.Kind.{Kind}
use Rattle.ioa_terms.specs.PlainSort.{PlainSort}
use Rattle.ioa_source.specs.Sides.{SourceTerm as Term, SourceTarget as Target, SourceStatement as Statement, SourceStatements as Statements, SourceArms as Arms, SourceFiring as Firing, SourceDeclared as Declared, SourceParameter as Parameter, SourceEntry as Entry, SourceVariable as Variable, SourceTransition as Transition, SourceSchedule as Schedule, SourceForm as Form, SourceDeclaration as Declaration, SourceCall as Call, SourcePlacement as Placement, SourceInvariant as Invariant}
use Rattle.ioa_cursor.specs.Lists.{Several, SeparatedBy, ListsSeparatedBy, SeveralLists}
use Rattle.ioa_cursor.proofs.Shorter.{several_shorter, separated_shorter, ended_shorter, gathered_shorter, gathered_several_shorter, section_shorter, optional_shorter}
use Rattle.ioa_term_reader.specs.Grammar.{SpellsTerm, bracket_limit}
use Rattle.ioa_term_reader.proofs.Shorter.{term_shorter}
use Rattle.ioa_part_reader.specs.declared.statement.Context.{Context}
use Rattle.ioa_part_reader.specs.declared.statement.Context.TheVariants.{Effect}
use Rattle.ioa_part_reader.specs.Grammar as grammar
use Rattle.ioa_part_reader.specs.Grammar.{inner_limit, SpellsSort, SpellsWord, SpellsDeclared, SpellsParameters, InBrackets, SpellsCall, SpellsKind, SpellsEntry, SpellsGroup, SpellsVariable, SpellsTarget, SpellsStatement, SpellsArms, SpellsRest, SpellsStatements, SpellsLow, SpellsGuard, SpellsTransition, SpellsFiring, SpellsBlock, SpellsSchedule, SpellsHead, SpellsForm, SpellsDeclaration, SpellsPlacement, SpellsInvariant}

pub sort_shorter : (room : ℕ) (s : PlainSort) (xs ys : List Token) → SpellsSort room s xs ys → length ys < length xs
sort_shorter _ _ _ _ grammar.bool = omega arith
sort_shorter _ _ _ _ grammar.int = omega arith
sort_shorter _ _ _ _ grammar.nat = omega arith
sort_shorter _ _ _ _ grammar.named_by = omega arith
sort_shorter _ _ _ _ (grammar.seq d) = let a = sort_shorter _ _ _ _ d in omega arith
sort_shorter _ _ _ _ (grammar.set d) = let a = sort_shorter _ _ _ _ d in omega arith
sort_shorter _ _ _ _ (grammar.map_of k v) = let a = sort_shorter _ _ _ _ k in let b = sort_shorter _ _ _ _ v in omega arith

pub word_shorter : (w : List ℕ) (xs ys : List Token) → SpellsWord w xs ys → length ys < length xs
word_shorter _ _ _ grammar.word = omega arith

pub declared_shorter : (room : ℕ) (ds : List Declared) (xs ys : List Token) → SpellsDeclared room ds xs ys → length ys < length xs
declared_shorter room _ _ _ (grammar.declared ws s) =
    let a = separated_shorter SpellsWord word_shorter ws in
    let b = sort_shorter _ _ _ _ s in
    omega arith

pub parameters_shorter : (room : ℕ) (ps : List Parameter) (xs ys : List Token) → SpellsParameters room ps xs ys → length ys < length xs
parameters_shorter room _ _ _ (grammar.constant d) = let a = term_shorter _ _ _ _ d in omega arith
parameters_shorter room _ _ _ (grammar.names d) = declared_shorter _ _ _ _ d

bracketed_shorter : {A : Type 0} (X : List A → List Token → List Token → Type 0) → ((items : List A) (xs ys : List Token) → X items xs ys → length ys < length xs) →
    {items : List A} {xs ys : List Token} → InBrackets X items xs ys → length ys ≤ length xs
bracketed_shorter X shorter grammar.bare = omega arith
bracketed_shorter X shorter grammar.hollow = omega arith
bracketed_shorter X shorter (grammar.filled d) = let a = shorter _ _ _ d in omega arith

terms_shorter : (ts : List Term) (xs ys : List Token) → SeparatedBy mark.Comma (SpellsTerm inner_limit) ts xs ys → length ys < length xs
terms_shorter _ _ _ d = separated_shorter (SpellsTerm inner_limit) (term_shorter inner_limit) d

pub call_shorter : (c : Call) (xs ys : List Token) → SpellsCall c xs ys → length ys < length xs
call_shorter _ _ _ (grammar.called d) = let a = bracketed_shorter (SeparatedBy mark.Comma (SpellsTerm inner_limit)) terms_shorter d in omega arith

pub kind_shorter : (k : Kind) (xs ys : List Token) → SpellsKind k xs ys → length ys < length xs
kind_shorter _ _ _ grammar.input = omega arith
kind_shorter _ _ _ grammar.output = omega arith
kind_shorter _ _ _ grammar.internal = omega arith

all_parameters_shorter : (ps : List Parameter) (xs ys : List Token) → ListsSeparatedBy mark.Comma (SpellsParameters inner_limit) ps xs ys → length ys < length xs
all_parameters_shorter _ _ _ d = gathered_shorter (SpellsParameters inner_limit) (parameters_shorter inner_limit) d

term_takes : (t : Term) (xs ys : List Token) → SpellsTerm bracket_limit t xs ys → length ys ≤ length xs
term_takes _ _ _ d = let a = term_shorter _ _ _ _ d in omega arith

pub entry_shorter : (k : Kind) (e : Entry) (xs ys : List Token) → SpellsEntry k e xs ys → length ys < length xs
entry_shorter k _ _ _ (grammar.entry ps c) =
    let a = bracketed_shorter (ListsSeparatedBy mark.Comma (SpellsParameters inner_limit)) all_parameters_shorter ps in
    let b = optional_shorter (SpellsTerm bracket_limit) term_takes c in
    omega arith

pub group_shorter : (es : List Entry) (xs ys : List Token) → SpellsGroup es xs ys → length ys < length xs
group_shorter _ _ _ (grammar.group {k = k} d es) =
    let a = kind_shorter _ _ _ d in
    let b = ended_shorter (SpellsEntry k) (entry_shorter k) es in
    omega arith

pub variable_shorter : (v : Variable) (xs ys : List Token) → SpellsVariable v xs ys → length ys < length xs
variable_shorter _ _ _ (grammar.of_sort s i) =
    let a = sort_shorter _ _ _ _ s in
    let b = optional_shorter (SpellsTerm bracket_limit) term_takes i in
    omega arith

target_shorter : (p : Target) (xs ys : List Token) → SpellsTarget p xs ys → length ys < length xs
target_shorter _ _ _ grammar.whole = omega arith
target_shorter _ _ _ (grammar.at_a_key d) = let a = term_shorter _ _ _ _ d in omega arith
target_shorter _ _ _ grammar.at_a_field = omega arith

pub firing_shorter : {f : Firing} {xs ys : List Token} → SpellsFiring f xs ys → length ys < length xs
firing_shorter (grammar.firing d) = call_shorter _ _ _ d
firing_shorter (grammar.kind_firing k d) = let a = kind_shorter _ _ _ k in let b = call_shorter _ _ _ d in omega arith

mutual
  pub statement_shorter : {c : Context} {s : Statement} {xs ys : List Token} → SpellsStatement c s xs ys → length ys < length xs
  statement_shorter (grammar.assignment p t) = let a = target_shorter _ _ _ p in let b = term_shorter _ _ _ _ t in omega arith
  statement_shorter (grammar.choice arms rest) = let a = arms_shorter arms in let b = rest_shorter rest in omega arith
  statement_shorter (grammar.repetition t body) = let a = term_shorter _ _ _ _ t in let b = statements_shorter body in omega arith
  statement_shorter (grammar.fire_statement d) = let a = firing_shorter d in omega arith
  statement_shorter (grammar.choosing p s t u) =
      let a = target_shorter _ _ _ p in
      let b = sort_shorter _ _ _ _ s in
      let c = term_shorter _ _ _ _ t in
      let d = term_shorter _ _ _ _ u in
      omega arith

  arms_shorter : {c : Context} {arms : Arms} {xs ys : List Token} → SpellsArms c arms xs ys → length ys < length xs
  arms_shorter (grammar.one_arm t body) = let a = term_shorter _ _ _ _ t in let b = statements_shorter body in omega arith
  arms_shorter (grammar.more_arms t body others) =
      let a = term_shorter _ _ _ _ t in
      let b = statements_shorter body in
      let c = arms_shorter others in
      omega arith

  rest_shorter : {c : Context} {rest : Statements} {xs ys : List Token} → SpellsRest c rest xs ys → length ys < length xs
  rest_shorter grammar.no_else = omega arith
  rest_shorter (grammar.otherwise d) = let a = statements_shorter d in omega arith

  pub statements_shorter : {c : Context} {ss : Statements} {xs ys : List Token} → SpellsStatements c ss xs ys → length ys < length xs
  statements_shorter (grammar.last_statement d) = statement_shorter d
  statements_shorter (grammar.closed_statement d) = let a = statement_shorter d in omega arith
  statements_shorter (grammar.more_statements d rest) = let a = statement_shorter d in let b = statements_shorter rest in omega arith

low_shorter : (c : Context) (ss : List Statement) (xs ys : List Token) → SpellsLow c ss xs ys → length ys ≤ length xs
low_shorter _ _ _ _ d = let a = statements_shorter d.spelled in omega arith

guard_shorter : (t : Term) (xs ys : List Token) → SpellsGuard t xs ys → length ys ≤ length xs
guard_shorter _ _ _ (grammar.guard d) = let a = term_shorter _ _ _ _ d in omega arith
guard_shorter _ _ _ (grammar.closed_guard d) = let a = term_shorter _ _ _ _ d in omega arith

pub transition_shorter : (t : Transition) (xs ys : List Token) → SpellsTransition t xs ys → length ys < length xs
transition_shorter _ _ _ (grammar.transition k h g e) =
    let a = kind_shorter _ _ _ k in
    let b = call_shorter _ _ _ h in
    let c = optional_shorter SpellsGuard guard_shorter g in
    let d = section_shorter (SpellsLow Effect) (low_shorter Effect) e in
    omega arith

head_shorter : (ds : List Declared) (xs ys : List Token) → SpellsHead ds xs ys → length ys ≤ length xs
head_shorter _ _ _ grammar.no_parameters = omega arith
head_shorter _ _ _ (grammar.parameters d) = let a = gathered_shorter (SpellsDeclared inner_limit) (declared_shorter inner_limit) d in omega arith

form_shorter : (f : Form) (xs ys : List Token) → SpellsForm f xs ys → length ys < length xs
form_shorter _ _ _ (grammar.constants d) = let a = separated_shorter SpellsWord word_shorter d in omega arith
form_shorter _ _ _ (grammar.fields d) = let a = gathered_shorter (SpellsDeclared bracket_limit) (declared_shorter bracket_limit) d in omega arith

groups_shorter : (es : List Entry) (xs ys : List Token) → SeveralLists SpellsGroup es xs ys → length ys ≤ length xs
groups_shorter _ _ _ d = gathered_several_shorter SpellsGroup group_shorter d

variables_shorter : (vs : List Variable) (xs ys : List Token) → SeparatedBy mark.Comma SpellsVariable vs xs ys → length ys ≤ length xs
variables_shorter _ _ _ d = let a = separated_shorter SpellsVariable variable_shorter d in omega arith

block_shorter : (ss : List Statement) (xs ys : List Token) → SpellsBlock ss xs ys → length ys ≤ length xs
block_shorter _ _ _ grammar.idle = omega arith
block_shorter _ _ _ (grammar.busy d) = let a = low_shorter _ _ _ _ d in omega arith

schedule_shorter : (s : Schedule) (xs ys : List Token) → SpellsSchedule s xs ys → length ys ≤ length xs
schedule_shorter _ _ _ grammar.no_schedule = omega arith
schedule_shorter _ _ _ (grammar.schedule v b) =
    let a = section_shorter (SeparatedBy mark.Comma SpellsVariable) variables_shorter v in
    let c = block_shorter _ _ _ b in
    omega arith

transitions_shorter : (ts : List Transition) (xs ys : List Token) → Several SpellsTransition ts xs ys → length ys ≤ length xs
transitions_shorter _ _ _ d = several_shorter SpellsTransition transition_shorter d

pub declaration_shorter : (x : Declaration) (xs ys : List Token) → SpellsDeclaration x xs ys → length ys < length xs
declaration_shorter _ _ _ (grammar.type_form d) = let a = form_shorter _ _ _ d in omega arith
declaration_shorter _ _ _ (grammar.automaton_parts h s v t b) =
    let i = head_shorter _ _ _ h in
    let k = section_shorter (SeveralLists SpellsGroup) groups_shorter s in
    let l = section_shorter (SeparatedBy mark.Comma SpellsVariable) variables_shorter v in
    let m = section_shorter (Several SpellsTransition) transitions_shorter t in
    let n = schedule_shorter _ _ _ b in
    omega arith

pub placement_shorter : (p : Placement) (xs ys : List Token) → SpellsPlacement p xs ys → length ys < length xs
placement_shorter _ _ _ (grammar.node d) = let a = call_shorter _ _ _ d in omega arith
placement_shorter _ _ _ grammar.channel = omega arith
placement_shorter _ _ _ grammar.unordered = omega arith
placement_shorter _ _ _ (grammar.script d) = let a = separated_shorter SpellsCall call_shorter d in omega arith

pub invariant_shorter : (x : Invariant) (xs ys : List Token) → SpellsInvariant x xs ys → length ys < length xs
invariant_shorter _ _ _ (grammar.invariant d) = let a = term_shorter _ _ _ _ d in omega arith
