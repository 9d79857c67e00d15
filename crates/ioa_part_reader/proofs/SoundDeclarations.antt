-- What is read as declarations, placements and invariants is spelled.
use Rattle.std.proofs.Common.{◌≡◌, ℤ, List, ◌∷◌, Option, true, false, Bool, refl, sym, subst}
use Rattle.std.proofs.lemmas.Option.{some_pair_parts}
use Rattle.ioa_actions.specs.declared.component.ChannelKind.TheVariants.{Unordered}
use Rattle.ioa_tokens.specs.declared.token.Token.{Token}
use Rattle.ioa_tokens.specs.declared.token.Token.TheVariants as token
use Rattle.ioa_tokens.specs.declared.mark.Mark.TheVariants as mark
use Rattle.ioa_source.specs.PlainText.{type_named, automaton, node, channel, script}
use Rattle.ioa_source.specs.Sides.{SourceTerm as Term, SourceStatement as Statement, SourceDeclared as Declared, SourceTransition as Transition, SourceSchedule as Schedule, SourceForm as Form, SourceType as TypeOf, SourceAutomaton as Automaton, SourceDeclaration as Declaration, SourceNode as Node, SourceScript as Script, SourcePlacement as Placement, SourceInvariant as Invariant}
use Rattle.ioa_source.specs.declared.declaration.Channel.{Channel}
use Rattle.ioa_cursor.specs.Lists.{Several, Section, Optional}
use Rattle.ioa_cursor.specs.Reading.{skip, at}
use Rattle.ioa_cursor.proofs.Steps.{read_next, choose_cases, bind_cases, skip_taken, skip_left, expected_taken, word_taken, number_taken}
use Rattle.ioa_cursor.proofs.SoundLists.{several_sound, section_sound, optional_sound}
use Rattle.ioa_term_reader.specs.Grammar.{SpellsTerm, bracket_limit}
use Rattle.ioa_part_reader.specs.declared.statement.Context.TheVariants.{Effect, Block}
use Rattle.ioa_part_reader.specs.Grammar as grammar
use Rattle.ioa_part_reader.specs.Grammar.{SpellsGuard, SpellsLow, SpellsTransition, SpellsBlock, SpellsSchedule, SpellsHead, SpellsForm, SpellsDeclaration, SpellsPlacement, SpellsInvariant, inner_limit}
use Rattle.ioa_part_reader.specs.Reading as reading
use Rattle.ioa_term_reader.proofs.Sound.{term_sound}
use Rattle.ioa_part_reader.proofs.SoundDeclared.{words_sound, declared_names_sound, call_sound, calls_sound}
use Rattle.ioa_part_reader.proofs.SoundParts.{kind_sound, signature_sound, states_sound}
use Rattle.ioa_part_reader.proofs.SoundStatements.{statements_sound}

-- transitions

effect_sound : (xs ys : List Token) (all : List Statement) → reading.effect xs ≡ read_next all ys → Section mark.Eff (SpellsLow Effect) all xs ys
unfolding reading.effect
effect_sound xs ys all e = section_sound mark.Eff (SpellsLow Effect) (reading.statements Effect) (statements_sound Effect) xs ys all e

guard_at : {t : Term} {xs : List Token} (ys : List Token) (b : Bool) → (skip mark.Semicolon ys).0 ≡ b → SpellsTerm bracket_limit t xs ys →
    SpellsGuard t xs (skip mark.Semicolon ys).1
guard_at ys true e d = grammar.closed_guard (rw (skip_taken mark.Semicolon ys e) at d)
guard_at ys false e d = rw (skip_left mark.Semicolon ys e) (grammar.guard d)

guard_sound : (xs ys : List Token) (t : Term) → reading.guard xs ≡ read_next t ys → SpellsGuard t xs ys
unfolding reading.guard
guard_sound xs ys x e =
    bind_cases (SpellsGuard x xs ys) e (λ t t_is done.
    let p = some_pair_parts _ _ _ _ done in
    rw (← p.0, ← p.1) (guard_at t.1 (skip mark.Semicolon t.1).0 refl (term_sound bracket_limit xs t.1 t.0 t_is)))

guard_part_sound : (xs ys : List Token) (x : Option Term) → reading.guard_part xs ≡ read_next x ys → Optional mark.Pre SpellsGuard x xs ys
unfolding reading.guard_part
guard_part_sound xs ys x e = optional_sound mark.Pre SpellsGuard reading.guard guard_sound xs ys x e

transition_sound : (xs ys : List Token) (x : Transition) → reading.transition xs ≡ read_next x ys → SpellsTransition x xs ys
unfolding reading.transition
transition_sound xs ys x e =
    let P : Type 0 = SpellsTransition x xs ys in
    bind_cases P e (λ k k_is e1. bind_cases P e1 (λ h h_is e2. bind_cases P e2 (λ g g_is e3. bind_cases P e3 (λ f f_is done.
    let p = some_pair_parts _ _ _ _ done in
    rw (← p.0, ← p.1)
    (grammar.transition (kind_sound xs k.1 k.0 k_is) (call_sound k.1 h.1 h.0 h_is) (guard_part_sound h.1 g.1 g.0 g_is) (effect_sound g.1 f.1 f.0 f_is))))))

transitions_sound : (xs ys : List Token) (all : List Transition) → reading.transitions xs ≡ read_next all ys → Several SpellsTransition all xs ys
unfolding reading.transitions
transitions_sound xs ys all e = several_sound SpellsTransition reading.transition transition_sound reading.at_kind xs ys all e

transitions_part_sound : (xs ys : List Token) (all : List Transition) → reading.transitions_part xs ≡ read_next all ys →
    Section mark.Transitions (Several SpellsTransition) all xs ys
unfolding reading.transitions_part
transitions_part_sound xs ys all e = section_sound mark.Transitions (Several SpellsTransition) reading.transitions transitions_sound xs ys all e

-- schedules

block_sound : (xs ys : List Token) (all : List Statement) → reading.block xs ≡ read_next all ys → SpellsBlock all xs ys
unfolding reading.block
block_sound xs ys all e =
    let P : Type 0 = SpellsBlock all xs ys in
    bind_cases P e (λ d d_is e1.
    choose_cases P e1
    (λ closed is.
    let p = some_pair_parts _ _ _ _ is in
    rw (expected_taken mark.Do xs d d_is, skip_taken mark.Od d.1 closed, ← p.0, ← p.1) grammar.idle)
    (λ not_closed more.
    bind_cases P more (λ r r_is close. bind_cases P close (λ c c_is done.
    let p = some_pair_parts _ _ _ _ done in
    let within = rw (skip_left mark.Od d.1 not_closed, expected_taken mark.Od r.1 c c_is) at (statements_sound Block _ r.1 r.0 r_is) in
    rw (expected_taken mark.Do xs d d_is, ← p.0, ← p.1) (grammar.busy within)))))

schedule_sound : (xs ys : List Token) (x : Schedule) → reading.schedule xs ≡ read_next x ys → SpellsSchedule x (token.Mark mark.Schedule ∷ xs) ys
unfolding reading.schedule
schedule_sound xs ys x e =
    let P : Type 0 = SpellsSchedule x (token.Mark mark.Schedule ∷ xs) ys in
    bind_cases P e (λ v v_is e1. bind_cases P e1 (λ b b_is done.
    let p = some_pair_parts _ _ _ _ done in
    rw (← p.0, ← p.1) (grammar.schedule (states_sound xs v.1 v.0 v_is) (block_sound v.1 b.1 b.0 b_is))))

schedule_part_sound : (xs ys : List Token) (x : Schedule) → reading.schedule_part xs ≡ read_next x ys → SpellsSchedule x xs ys
unfolding reading.schedule_part
schedule_part_sound xs ys x e =
    let P : Type 0 = SpellsSchedule x xs ys in
    choose_cases P e
    (λ is_schedule more. rw (skip_taken mark.Schedule xs is_schedule) (schedule_sound _ ys x more))
    (λ no_schedule is.
    let p = some_pair_parts _ _ _ _ is in
    rw (← p.0, ← p.1, skip_left mark.Schedule xs no_schedule) grammar.no_schedule)

-- declarations

head_sound : (xs ys : List Token) (ds : List Declared) → reading.head xs ≡ read_next ds ys → SpellsHead ds xs ys
unfolding reading.head
head_sound xs ys ds e =
    let P : Type 0 = SpellsHead ds xs ys in
    choose_cases P e
    (λ opened more.
    bind_cases P more (λ r r_is close. bind_cases P close (λ c c_is done.
    let p = some_pair_parts _ _ _ _ done in
    let within = rw (expected_taken mark.CloseRound r.1 c c_is) at (declared_names_sound inner_limit _ r.1 r.0 r_is) in
    rw (skip_taken mark.OpenRound xs opened, ← p.0, ← p.1) (grammar.parameters within))))
    (λ not_opened is.
    let p = some_pair_parts _ _ _ _ is in
    rw (← p.0, ← p.1, skip_left mark.OpenRound xs not_opened) grammar.no_parameters)

automaton_sound : (xs ys : List Token) (x : Automaton) → reading.automaton xs ≡ read_next x ys → SpellsDeclaration (automaton x) (token.Mark mark.Automaton ∷ xs) ys
unfolding reading.automaton
automaton_sound xs ys x e =
    let P : Type 0 = SpellsDeclaration (automaton x) (token.Mark mark.Automaton ∷ xs) ys in
    bind_cases P e (λ w w_is e1. bind_cases P e1 (λ h h_is e2. bind_cases P e2 (λ g g_is e3. bind_cases P e3 (λ v v_is e4. bind_cases P e4 (λ t t_is e5. bind_cases P e5 (λ b b_is done.
    let p = some_pair_parts _ _ _ _ done in
    rw (word_taken xs w w_is, ← p.0, ← p.1)
    (grammar.automaton_parts (head_sound w.1 h.1 h.0 h_is) (signature_sound h.1 g.1 g.0 g_is) (states_sound g.1 v.1 v.0 v_is)
    (transitions_part_sound v.1 t.1 t.0 t_is) (schedule_part_sound t.1 b.1 b.0 b_is))))))))

form_sound : (xs ys : List Token) (f : Form) → reading.form xs ≡ read_next f ys → SpellsForm f xs ys
unfolding reading.form
form_sound xs ys f e =
    let P : Type 0 = SpellsForm f xs ys in
    choose_cases P e
    (λ is_enumeration more.
    bind_cases P more (λ o o_is e1. bind_cases P e1 (λ ws ws_is done.
    let p = some_pair_parts _ _ _ _ done in
    rw (skip_taken mark.Enumeration xs is_enumeration, expected_taken mark.Of _ o o_is, ← p.0, ← p.1) (grammar.constants (words_sound o.1 ws.1 ws.0 ws_is)))))
    (λ no_enumeration more.
    bind_cases P more (λ t t_is e1. bind_cases P e1 (λ o o_is e2. bind_cases P e2 (λ ds ds_is done.
    let p = some_pair_parts _ _ _ _ done in
    rw (← skip_left mark.Enumeration xs no_enumeration, expected_taken mark.Tuple _ t t_is, expected_taken mark.Of t.1 o o_is, ← p.0, ← p.1)
    (grammar.fields (declared_names_sound bracket_limit o.1 ds.1 ds.0 ds_is))))))

type_declaration_sound : (xs ys : List Token) (x : TypeOf) → reading.type_declaration xs ≡ read_next x ys →
    SpellsDeclaration (type_named x) (token.Mark mark.Type ∷ xs) ys
unfolding reading.type_declaration
type_declaration_sound xs ys x e =
    let P : Type 0 = SpellsDeclaration (type_named x) (token.Mark mark.Type ∷ xs) ys in
    bind_cases P e (λ w w_is e1. bind_cases P e1 (λ q q_is e2. bind_cases P e2 (λ f f_is done.
    let p = some_pair_parts _ _ _ _ done in
    rw (word_taken xs w w_is, expected_taken mark.Equal w.1 q q_is, ← p.0, ← p.1) (grammar.type_form (form_sound q.1 f.1 f.0 f_is)))))

declaration_sound : (xs ys : List Token) (x : Declaration) → reading.declaration xs ≡ read_next x ys → SpellsDeclaration x xs ys
unfolding reading.declaration
declaration_sound xs ys x e =
    let P : Type 0 = SpellsDeclaration x xs ys in
    choose_cases P e
    (λ is_type more.
    bind_cases P more (λ t t_is done.
    let p = some_pair_parts _ _ _ _ done in
    rw (skip_taken mark.Type xs is_type, ← p.0, ← p.1) (type_declaration_sound _ t.1 t.0 t_is)))
    (λ no_type more.
    bind_cases P more (λ m m_is e1. bind_cases P e1 (λ a a_is done.
    let p = some_pair_parts _ _ _ _ done in
    rw (← skip_left mark.Type xs no_type, expected_taken mark.Automaton _ m m_is, ← p.0, ← p.1) (automaton_sound m.1 a.1 a.0 a_is))))

-- what is read as declarations is spelled
pub declared_sound : (xs ys : List Token) (all : List Declaration) → reading.all_declarations xs ≡ read_next all ys → Several SpellsDeclaration all xs ys
unfolding reading.all_declarations
declared_sound xs ys all e = several_sound SpellsDeclaration reading.declaration declaration_sound reading.at_declaration xs ys all e

-- systems

node_sound : (xs ys : List Token) (x : Node) → reading.node xs ≡ read_next x ys → SpellsPlacement (node x) (token.Mark mark.Node ∷ xs) ys
unfolding reading.node
node_sound xs ys x e =
    let P : Type 0 = SpellsPlacement (node x) (token.Mark mark.Node ∷ xs) ys in
    bind_cases P e (λ n n_is e1. bind_cases P e1 (λ c c_is e2. bind_cases P e2 (λ a a_is done.
    let p = some_pair_parts _ _ _ _ done in
    rw (number_taken xs n n_is, expected_taken mark.Colon n.1 c c_is, ← p.0, ← p.1) (grammar.node (call_sound c.1 a.1 a.0 a_is)))))

-- a channel of these ends, whose kind is told by what comes next
channel_of_kind : (i j : ℤ) (xs : List Token) (b : Bool) → (skip mark.Unordered xs).0 ≡ b →
    SpellsPlacement (channel (record { from = i; to = j; kind = reading.channel_kind b })) (token.Mark mark.Channel ∷ token.Number i ∷ token.Mark mark.Arrow ∷ token.Number j ∷ xs) (skip mark.Unordered xs).1
channel_of_kind i j xs true e =
    let Spelled : List Token → Type 0 = λ zs. SpellsPlacement (channel (record { from = i; to = j; kind = Unordered })) (token.Mark mark.Channel ∷ token.Number i ∷ token.Mark mark.Arrow ∷ token.Number j ∷ zs) (skip mark.Unordered xs).1 in
    let there : Spelled (token.Mark mark.Unordered ∷ (skip mark.Unordered xs).1) = grammar.unordered in
    subst Spelled (sym (skip_taken mark.Unordered xs e)) there
channel_of_kind i j xs false e = rw (skip_left mark.Unordered xs e) grammar.channel

channel_sound : (xs ys : List Token) (x : Channel) → reading.channel xs ≡ read_next x ys → SpellsPlacement (channel x) (token.Mark mark.Channel ∷ xs) ys
unfolding reading.channel
channel_sound xs ys x e =
    let P : Type 0 = SpellsPlacement (channel x) (token.Mark mark.Channel ∷ xs) ys in
    bind_cases P e (λ i i_is e1. bind_cases P e1 (λ a a_is e2. bind_cases P e2 (λ j j_is done.
    let p = some_pair_parts _ _ _ _ done in
    rw (number_taken xs i i_is, expected_taken mark.Arrow i.1 a a_is, number_taken a.1 j j_is, ← p.0, ← p.1)
    (channel_of_kind i.0 j.0 j.1 (skip mark.Unordered j.1).0 refl))))

script_sound : (xs ys : List Token) (x : Script) → reading.script xs ≡ read_next x ys → SpellsPlacement (script x) (token.Mark mark.Script ∷ xs) ys
unfolding reading.script
script_sound xs ys x e =
    let P : Type 0 = SpellsPlacement (script x) (token.Mark mark.Script ∷ xs) ys in
    bind_cases P e (λ n n_is e1. bind_cases P e1 (λ c c_is e2. bind_cases P e2 (λ cs cs_is done.
    let p = some_pair_parts _ _ _ _ done in
    rw (number_taken xs n n_is, expected_taken mark.Colon n.1 c c_is, ← p.0, ← p.1) (grammar.script (calls_sound c.1 cs.1 cs.0 cs_is)))))

placement_sound : (xs ys : List Token) (x : Placement) → reading.placement xs ≡ read_next x ys → SpellsPlacement x xs ys
unfolding reading.placement
placement_sound xs ys x e =
    let P : Type 0 = SpellsPlacement x xs ys in
    choose_cases P e
    (λ is_node more.
    bind_cases P more (λ n n_is done.
    let p = some_pair_parts _ _ _ _ done in
    rw (skip_taken mark.Node xs is_node, ← p.0, ← p.1) (node_sound _ n.1 n.0 n_is)))
    (λ no_node others.
    choose_cases P others
    (λ is_channel more.
    bind_cases P more (λ c c_is done.
    let p = some_pair_parts _ _ _ _ done in
    rw (← skip_left mark.Node xs no_node, skip_taken mark.Channel _ is_channel, ← p.0, ← p.1) (channel_sound _ c.1 c.0 c_is)))
    (λ no_channel more.
    bind_cases P more (λ m m_is e1. bind_cases P e1 (λ s s_is done.
    let p = some_pair_parts _ _ _ _ done in
    rw (← skip_left mark.Node xs no_node, ← skip_left mark.Channel _ no_channel, expected_taken mark.Script _ m m_is, ← p.0, ← p.1) (script_sound m.1 s.1 s.0 s_is)))))

-- what is read as placements is spelled
pub placed_sound : (xs ys : List Token) (all : List Placement) → reading.all_placements xs ≡ read_next all ys → Several SpellsPlacement all xs ys
unfolding reading.all_placements
placed_sound xs ys all e = several_sound SpellsPlacement reading.placement placement_sound reading.at_placement xs ys all e

-- invariants

invariant_sound : (xs ys : List Token) (x : Invariant) → reading.invariant xs ≡ read_next x ys → SpellsInvariant x xs ys
unfolding reading.invariant
invariant_sound xs ys x e =
    let P : Type 0 = SpellsInvariant x xs ys in
    bind_cases P e (λ m m_is e1. bind_cases P e1 (λ w w_is e2. bind_cases P e2 (λ c c_is e3. bind_cases P e3 (λ t t_is done.
    let p = some_pair_parts _ _ _ _ done in
    rw (expected_taken mark.Invariant xs m m_is, word_taken m.1 w w_is, expected_taken mark.Colon w.1 c c_is, ← p.0, ← p.1)
    (grammar.invariant (term_sound bracket_limit c.1 t.1 t.0 t_is))))))

-- what is read as invariants is spelled
pub invariants_sound : (xs ys : List Token) (all : List Invariant) → reading.all_invariants xs ≡ read_next all ys → Several SpellsInvariant all xs ys
unfolding reading.all_invariants
invariants_sound xs ys all e = several_sound SpellsInvariant reading.invariant invariant_sound (at mark.Invariant) xs ys all e
