-- What is read of the signature and the states of an automaton is spelled.
use Rattle.std.proofs.Common.{◌≡◌, List, ◌∷◌, Option, Some}
use Rattle.std.proofs.lemmas.Option.{some_pair_parts}
use Rattle.ioa_tokens.specs.declared.token.Token.{Token}
use Rattle.ioa_tokens.specs.declared.token.Token.TheVariants as token
use Rattle.ioa_tokens.specs.declared.mark.Mark.{Mark}
use Rattle.ioa_tokens.specs.declared.mark.Mark.TheVariants as mark
use Rattle.ioa_terms.specs.declared.tree.Kind.{Kind}
use Rattle.ioa_terms.specs.declared.tree.Kind.TheVariants as kinds
use Rattle.ioa_source.specs.Sides.{SourceTerm as Term, SourceEntry as Entry, SourceVariable as Variable}
use Rattle.ioa_cursor.specs.Lists.{SeparatedBy, Section, Optional, SeveralLists}
use Rattle.ioa_cursor.specs.Reading.{advance, at_word}
use Rattle.ioa_cursor.proofs.Steps.{read_next, bind_cases, expected_taken, word_taken, peek_mark_taken}
use Rattle.ioa_cursor.proofs.SoundLists.{separated_sound, ended_sound, section_sound, optional_sound, gathered_several_sound}
use Rattle.ioa_term_reader.specs.Grammar.{SpellsTerm, bracket_limit}
use Rattle.ioa_term_reader.specs.Reading.{term}
use Rattle.ioa_part_reader.specs.Grammar as grammar
use Rattle.ioa_part_reader.specs.Grammar.{SpellsKind, SpellsEntry, SpellsGroup, SpellsVariable}
use Rattle.ioa_part_reader.specs.Reading as reading
use Rattle.ioa_term_reader.proofs.Sound.{term_sound}
use Rattle.ioa_part_reader.proofs.SoundSorts.{sort_sound}
use Rattle.ioa_part_reader.proofs.SoundDeclared.{entry_parameters_sound}

kind_of_mark : (m : Mark) (k : Kind) (xs : List Token) → reading.kind_of m ≡ Some k → SpellsKind k (token.Mark m ∷ xs) xs
kind_of_mark mark.Input k xs e = let same : kinds.Input ≡ k = cc in rw (← same) grammar.input
kind_of_mark mark.Output k xs e = let same : kinds.Output ≡ k = cc in rw (← same) grammar.output
kind_of_mark mark.Internal k xs e = let same : kinds.Internal ≡ k = cc in rw (← same) grammar.internal
kind_of_mark _ k xs e = absurd cc

pub kind_sound : (xs ys : List Token) (k : Kind) → reading.kind xs ≡ read_next k ys → SpellsKind k xs ys
unfolding reading.kind reading.kind_first
kind_sound xs ys k e =
    let P : Type 0 = SpellsKind k xs ys in
    bind_cases P e (λ j j_is done. bind_cases P j_is (λ m m_is kind_is.
    let p = some_pair_parts _ _ _ _ done in
    rw (peek_mark_taken xs m m_is, ← p.0, ← p.1) (kind_of_mark m j (advance xs) kind_is)))

condition_sound : (xs ys : List Token) (c : Option Term) → reading.condition xs ≡ read_next c ys → Optional mark.Where (SpellsTerm bracket_limit) c xs ys
unfolding reading.condition
condition_sound xs ys c e = optional_sound mark.Where (SpellsTerm bracket_limit) (term bracket_limit) (term_sound bracket_limit) xs ys c e

entry_sound : (k : Kind) (xs ys : List Token) (x : Entry) → reading.entry k xs ≡ read_next x ys → SpellsEntry k x xs ys
unfolding reading.entry
entry_sound k xs ys x e =
    let P : Type 0 = SpellsEntry k x xs ys in
    bind_cases P e (λ w w_is e1. bind_cases P e1 (λ ps ps_is e2. bind_cases P e2 (λ c c_is done.
    let p = some_pair_parts _ _ _ _ done in
    rw (word_taken xs w w_is, ← p.0, ← p.1) (grammar.entry (entry_parameters_sound w.1 ps.1 ps.0 ps_is) (condition_sound ps.1 c.1 c.0 c_is)))))

group_sound : (xs ys : List Token) (all : List Entry) → reading.group xs ≡ read_next all ys → SpellsGroup all xs ys
unfolding reading.group reading.entries
group_sound xs ys all e =
    bind_cases (SpellsGroup all xs ys) e (λ k k_is more.
    grammar.group (kind_sound xs k.1 k.0 k_is) (ended_sound (SpellsEntry k.0) (reading.entry k.0) (entry_sound k.0) mark.Comma at_word k.1 ys all more))

groups_sound : (xs ys : List Token) (all : List Entry) → reading.groups xs ≡ read_next all ys → SeveralLists SpellsGroup all xs ys
unfolding reading.groups
groups_sound xs ys all e = gathered_several_sound SpellsGroup reading.group group_sound reading.at_kind xs ys all e

pub signature_sound : (xs ys : List Token) (all : List Entry) → reading.signature_part xs ≡ read_next all ys →
    Section mark.Signature (SeveralLists SpellsGroup) all xs ys
unfolding reading.signature_part
signature_sound xs ys all e = section_sound mark.Signature (SeveralLists SpellsGroup) reading.groups groups_sound xs ys all e

initial_sound : (xs ys : List Token) (i : Option Term) → reading.initial xs ≡ read_next i ys → Optional mark.Assign (SpellsTerm bracket_limit) i xs ys
unfolding reading.initial
initial_sound xs ys i e = optional_sound mark.Assign (SpellsTerm bracket_limit) (term bracket_limit) (term_sound bracket_limit) xs ys i e

variable_sound : (xs ys : List Token) (x : Variable) → reading.variable xs ≡ read_next x ys → SpellsVariable x xs ys
unfolding reading.variable
variable_sound xs ys x e =
    let P : Type 0 = SpellsVariable x xs ys in
    bind_cases P e (λ w w_is e1. bind_cases P e1 (λ c c_is e2. bind_cases P e2 (λ s s_is e3. bind_cases P e3 (λ i i_is done.
    let p = some_pair_parts _ _ _ _ done in
    rw (word_taken xs w w_is, expected_taken mark.Colon w.1 c c_is, ← p.0, ← p.1)
    (grammar.of_sort (sort_sound bracket_limit c.1 s.1 s.0 s_is) (initial_sound s.1 i.1 i.0 i_is))))))

variables_sound : (xs ys : List Token) (all : List Variable) → reading.variables xs ≡ read_next all ys → SeparatedBy mark.Comma SpellsVariable all xs ys
unfolding reading.variables
variables_sound xs ys all e = separated_sound SpellsVariable reading.variable variable_sound mark.Comma xs ys all e

pub states_sound : (xs ys : List Token) (all : List Variable) → reading.states_part xs ≡ read_next all ys →
    Section mark.States (SeparatedBy mark.Comma SpellsVariable) all xs ys
unfolding reading.states_part
states_sound xs ys all e = section_sound mark.States (SeparatedBy mark.Comma SpellsVariable) reading.variables variables_sound xs ys all e
