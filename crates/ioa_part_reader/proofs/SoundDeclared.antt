-- What is read of declared names, of parameters and of calls is spelled.
use Rattle.std.proofs.Common.{◌≡◌, ℕ, List, Option}
use Rattle.std.proofs.lemmas.Option.{some_pair_parts}
use Rattle.ioa_tokens.specs.declared.token.Token.{Token}
use Rattle.ioa_tokens.specs.declared.mark.Mark.TheVariants as mark
use Rattle.ioa_source.specs.Sides.{SourceTerm as Term, SourceDeclared as Declared, SourceParameter as Parameter, SourceCall as Call}
use Rattle.ioa_cursor.specs.Lists.{SeparatedBy, ListsSeparatedBy}
use Rattle.ioa_cursor.specs.Reading.{word}
use Rattle.ioa_cursor.proofs.Steps.{read_next, choose_cases, bind_cases, skip_taken, skip_left, expected_taken, word_taken}
use Rattle.ioa_cursor.proofs.SoundLists.{separated_sound, gathered_sound}
use Rattle.ioa_term_reader.specs.Grammar.{SpellsTerm}
use Rattle.ioa_term_reader.specs.Reading.{term}
use Rattle.ioa_part_reader.specs.Grammar as grammar
use Rattle.ioa_part_reader.specs.Grammar.{SpellsWord, SpellsDeclared, SpellsParameters, InBrackets, SpellsCall, inner_limit}
use Rattle.ioa_part_reader.specs.Reading as reading
use Rattle.ioa_term_reader.proofs.Sound.{term_sound}
use Rattle.ioa_part_reader.proofs.SoundSorts.{sort_sound}

word_sound : (xs ys : List Token) (w : List ℕ) → word xs ≡ read_next w ys → SpellsWord w xs ys
word_sound xs ys w e = rw (word_taken xs (w, ys) e) grammar.word

pub words_sound : (xs ys : List Token) (ws : List (List ℕ)) → reading.words xs ≡ read_next ws ys → SeparatedBy mark.Comma SpellsWord ws xs ys
unfolding reading.words
words_sound xs ys ws e = separated_sound SpellsWord word word_sound mark.Comma xs ys ws e

declared_group_sound : (room : ℕ) (xs ys : List Token) (ds : List Declared) → reading.declared_group room xs ≡ read_next ds ys → SpellsDeclared room ds xs ys
unfolding reading.declared_group
declared_group_sound room xs ys ds e =
    let P : Type 0 = SpellsDeclared room ds xs ys in
    bind_cases P e (λ ws ws_is e1. bind_cases P e1 (λ c c_is e2. bind_cases P e2 (λ s s_is done.
    let p = some_pair_parts _ _ _ _ done in
    let names = rw (expected_taken mark.Colon ws.1 c c_is) at (words_sound xs ws.1 ws.0 ws_is) in
    rw (← p.0, ← p.1) (grammar.declared names (sort_sound room c.1 s.1 s.0 s_is)))))

pub declared_names_sound : (room : ℕ) (xs ys : List Token) (ds : List Declared) → reading.declared_names room xs ≡ read_next ds ys →
    ListsSeparatedBy mark.Comma (SpellsDeclared room) ds xs ys
unfolding reading.declared_names
declared_names_sound room xs ys ds e = gathered_sound (SpellsDeclared room) (reading.declared_group room) (declared_group_sound room) mark.Comma xs ys ds e

parameter_group_sound : (room : ℕ) (xs ys : List Token) (ps : List Parameter) → reading.parameter_group room xs ≡ read_next ps ys → SpellsParameters room ps xs ys
unfolding reading.parameter_group
parameter_group_sound room xs ys ps e =
    let P : Type 0 = SpellsParameters room ps xs ys in
    choose_cases P e
    (λ is_const more.
    bind_cases P more (λ t t_is done.
    let p = some_pair_parts _ _ _ _ done in
    rw (skip_taken mark.Const xs is_const, ← p.0, ← p.1) (grammar.constant (term_sound room _ t.1 t.0 t_is))))
    (λ no_const more.
    bind_cases P more (λ ds ds_is done.
    let p = some_pair_parts _ _ _ _ done in
    let names = rw (skip_left mark.Const xs no_const) at (declared_group_sound room _ ds.1 ds.0 ds_is) in
    rw (← p.0, ← p.1) (grammar.names names)))

parameters_sound : (room : ℕ) (xs ys : List Token) (ps : List Parameter) → reading.parameters room xs ≡ read_next ps ys →
    ListsSeparatedBy mark.Comma (SpellsParameters room) ps xs ys
unfolding reading.parameters
parameters_sound room xs ys ps e = gathered_sound (SpellsParameters room) (reading.parameter_group room) (parameter_group_sound room) mark.Comma xs ys ps e

in_brackets_sound : {A : Type 0} (X : List A → List Token → List Token → Type 0) (read : List Token → Option (List A × List Token)) →
    ((xs ys : List Token) (all : List A) → read xs ≡ read_next all ys → X all xs ys) →
    (xs ys : List Token) (all : List A) → reading.in_brackets read xs ≡ read_next all ys → InBrackets X all xs ys
in_brackets_sound X read sound xs ys all e =
    let P : Type 0 = InBrackets X all xs ys in
    choose_cases P e
    (λ opened inner.
    choose_cases P inner
    (λ closed is.
    let p = some_pair_parts _ _ _ _ is in
    rw (skip_taken mark.OpenRound xs opened, skip_taken mark.CloseRound _ closed, ← p.0, ← p.1) grammar.hollow)
    (λ not_closed more.
    bind_cases P more (λ r r_is close. bind_cases P close (λ c c_is done.
    let p = some_pair_parts _ _ _ _ done in
    let within = rw (skip_left mark.CloseRound _ not_closed, expected_taken mark.CloseRound r.1 c c_is) at (sound _ r.1 r.0 r_is) in
    rw (skip_taken mark.OpenRound xs opened, ← p.0, ← p.1) (grammar.filled within)))))
    (λ not_opened is.
    let p = some_pair_parts _ _ _ _ is in
    rw (← p.0, ← p.1, skip_left mark.OpenRound xs not_opened) grammar.bare)

pub entry_parameters_sound : (xs ys : List Token) (ps : List Parameter) → reading.entry_parameters xs ≡ read_next ps ys →
    InBrackets (ListsSeparatedBy mark.Comma (SpellsParameters inner_limit)) ps xs ys
unfolding reading.entry_parameters
entry_parameters_sound xs ys ps e =
    in_brackets_sound (ListsSeparatedBy mark.Comma (SpellsParameters inner_limit)) (reading.parameters inner_limit) (parameters_sound inner_limit) xs ys ps e

terms_sound : (xs ys : List Token) (ts : List Term) → reading.terms xs ≡ read_next ts ys → SeparatedBy mark.Comma (SpellsTerm inner_limit) ts xs ys
unfolding reading.terms
terms_sound xs ys ts e = separated_sound (SpellsTerm inner_limit) (term inner_limit) (term_sound inner_limit) mark.Comma xs ys ts e

arguments_sound : (xs ys : List Token) (ts : List Term) → reading.arguments xs ≡ read_next ts ys → InBrackets (SeparatedBy mark.Comma (SpellsTerm inner_limit)) ts xs ys
unfolding reading.arguments
arguments_sound xs ys ts e = in_brackets_sound (SeparatedBy mark.Comma (SpellsTerm inner_limit)) reading.terms terms_sound xs ys ts e

pub call_sound : (xs ys : List Token) (c : Call) → reading.call xs ≡ read_next c ys → SpellsCall c xs ys
unfolding reading.call
call_sound xs ys c e =
    let P : Type 0 = SpellsCall c xs ys in
    bind_cases P e (λ w w_is more. bind_cases P more (λ ts ts_is done.
    let p = some_pair_parts _ _ _ _ done in
    rw (word_taken xs w w_is, ← p.0, ← p.1) (grammar.called (arguments_sound w.1 ts.1 ts.0 ts_is))))

pub calls_sound : (xs ys : List Token) (cs : List Call) → reading.calls xs ≡ read_next cs ys → SeparatedBy mark.Comma SpellsCall cs xs ys
unfolding reading.calls
calls_sound xs ys cs e = separated_sound SpellsCall reading.call call_sound mark.Comma xs ys cs e
