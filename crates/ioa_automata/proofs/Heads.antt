-- Heads that repeat their entries, and how messages are declared.
use Rattle.std.proofs.Common.{◌≡◌, ◌↔◌, inl, inr, ◌&&◌, ◌||◌, not, Bool, true, false, List, [], ◌∷◌, Option, Some, None, refl, sym, ap, length, slice_get, nat_eq, arith}
use Rattle.std.specs.Bool.{Decides}
use Rattle.std.specs.List.{AllZip}
use Rattle.std.specs.Option.{is_some}
use lib.Pointwise.{pointwise}
use Rattle.std.proofs.lemmas.Bool.Decides.{Decides-and, Decides-eqb, Decides-like}
use Rattle.std.proofs.lemmas.Slice.Eq.{bytes_eq-Decides}
use Rattle.ioa_operators.specs.Shapes.{PlainShape, truths, integers, naturals, constants, tuples, sequences, sets, maps}
use Rattle.ioa_terms.specs.declared.name.Name.{Name}
use Rattle.ioa_terms.specs.declared.name.Name.TheVariants.{Word}
use Rattle.ioa_terms.specs.declared.tree.Kind.{Kind}
use Rattle.ioa_terms.specs.declared.tree.Kind.TheVariants.{Input, Output, Internal}
use Rattle.ioa_terms.specs.Bindings.{same_word}
use Rattle.ioa_terms.specs.PlainTerm.{number, truth, name, one, two, call, display, field}
use Rattle.ioa_terms.specs.SameNames.{same_name_is}
use Rattle.ioa_terms.specs.SameTerms.{same_kind}
use Rattle.ioa_terms.proofs.SameTerms.{kind_is, same_term_is}
use Rattle.ioa_actions.specs.ActionParts.{send_name, receive_name}
use Rattle.ioa_source.specs.PlainText.{const, named}
use Rattle.ioa_source.specs.Sides.{SourceParameter, SourceTerm, CheckedParameter, CheckedTerm}
use Rattle.ioa_automata.specs.Parts.{PlainSortedEntry}
use Rattle.ioa_automata.specs.Rules.{repeats, is_number, is_constant, has_message_shapes, is_send, is_receive, may_have_name}
use Rattle.ioa_automata.specs.SortedAutomata.{Repeats, IsNumber, AreMessageShapes, IsConstantAt, IsSend, IsReceive, IsWellNamed}

nothing_is : (x y : Unit {0}) → Decides true (x ≡ y)
nothing_is x y = (λ h. refl, λ h. refl)

-- the name that a term is; of others any
abbrev name_in : SourceTerm → Name
name_in (name x at) = x
name_in (number n) = Word []
name_in (truth b) = Word []
name_in (one op a) = Word []
name_in (two op a b) = Word []
name_in (call w c ts) = Word []
name_in (display f x ts) = Word []
name_in (field a w x) = Word []

repeats_is : (p : SourceParameter) (u : SourceTerm) → Decides (repeats p u) (Repeats p u)
repeats_is (const t) u = let d = same_term_is nothing_is nothing_is nothing_is t u in (λ h. sym (d.0 h), λ e. d.1 (sym e))
repeats_is (named d) (name x tt) =
    let same = same_name_is x (Word d.name) in
    (λ h i. name (same.0 h i) tt, λ e. same.1 (ap name_in e))
repeats_is (named d) (number n) = (λ h. absurd (cc), λ e. absurd (cc))
repeats_is (named d) (truth b) = (λ h. absurd (cc), λ e. absurd (cc))
repeats_is (named d) (one op a) = (λ h. absurd (cc), λ e. absurd (cc))
repeats_is (named d) (two op a b) = (λ h. absurd (cc), λ e. absurd (cc))
repeats_is (named d) (call w c ts) = (λ h. absurd (cc), λ e. absurd (cc))
repeats_is (named d) (display f x ts) = (λ h. absurd (cc), λ e. absurd (cc))
repeats_is (named d) (field a w x) = (λ h. absurd (cc), λ e. absurd (cc))

pub repeats_iff : (p : SourceParameter) (u : SourceTerm) → repeats p u ≡ true ↔ Repeats p u
repeats_iff p u = repeats_is p u

-- a head that repeats its entry
pub head_is : (ps : List SourceParameter) (us : List SourceTerm) → Decides (pointwise repeats ps us) (AllZip Repeats ps us)
head_is [] [] = (λ h. tt, λ e. refl)
head_is [] (u ∷ us) = (λ h. absurd (cc), λ e. absurd e)
head_is (p ∷ ps) [] = (λ h. absurd (cc), λ e. absurd e)
head_is (p ∷ ps) (u ∷ us) = Decides-and _ _ (repeats_is p u) (head_is ps us)

-- what an input lacks
pub input_lacks : {A : Type 0} (o : Option A) (k : Kind) → is_some o && same_kind k Input ≡ false → k ≡ Input → o ≡ None
input_lacks None k h e = refl
input_lacks (Some x) Input h e = absurd (cc)
input_lacks (Some x) Output h e = absurd (cc)
input_lacks (Some x) Internal h e = absurd (cc)

pub lacks_input : {A : Type 0} (o : Option A) (k : Kind) → (k ≡ Input → o ≡ None) → is_some o && same_kind k Input ≡ false
lacks_input None k f = refl
lacks_input (Some x) Input f = let e = f refl in absurd (cc)
lacks_input (Some x) Output f = refl
lacks_input (Some x) Internal f = refl

-- shapes of numbers
number_back : (s : PlainShape) → IsNumber s → is_number s ≡ true
number_back s (inl e) = rw e refl
number_back s (inr e) = rw e refl

number_is : (s : PlainShape) → is_number s ≡ true → IsNumber s
number_is truths h = absurd (cc)
number_is integers h = inl refl
number_is naturals h = inr refl
number_is (constants w from many) h = absurd (cc)
number_is (tuples w ns ss) h = absurd (cc)
number_is (sequences s) h = absurd (cc)
number_is (sets s) h = absurd (cc)
number_is (maps k v) h = absurd (cc)

both_true : (a b : Bool) → a && b ≡ true → (a ≡ true) × (b ≡ true)
both_true true b h = (refl, h)
both_true false b h = absurd (cc)

shapes_is : (ss : List PlainShape) → has_message_shapes ss ≡ true → AreMessageShapes ss
shapes_is [] h = absurd (cc)
shapes_is (m ∷ []) h = absurd (cc)
shapes_is (m ∷ i ∷ []) h = absurd (cc)
shapes_is (m ∷ i ∷ j ∷ []) h =
    let both = both_true (is_number i) (is_number j) h in
    record { message = m; from = i; to = j; same = refl; numbers = (number_is i both.0, number_is j both.1) }
shapes_is (m ∷ i ∷ j ∷ k ∷ ss) h =
    let three = both_true (nat_eq (length (m ∷ i ∷ j ∷ k ∷ ss)) 3) (is_number i && is_number j) h in
    let many : length (m ∷ i ∷ j ∷ k ∷ ss) ≡ 3 = (Decides-eqb (length (m ∷ i ∷ j ∷ k ∷ ss)) 3).0 three.0 in
    absurd (omega (arith, many))

shapes_back : (ss : List PlainShape) → AreMessageShapes ss → has_message_shapes ss ≡ true
shapes_back ss a = rw (a.same, number_back a.from a.numbers.0, number_back a.to a.numbers.1) refl

message_shapes_is : (ss : List PlainShape) → Decides (has_message_shapes ss) (AreMessageShapes ss)
message_shapes_is ss = (shapes_is ss, shapes_back ss)

-- constants
constant_is : (o : Option CheckedParameter) → Decides (is_constant o) ((t : CheckedTerm) × (o ≡ Some (const t)))
constant_is None = (λ h. absurd (cc), λ e. let f = e.1 in absurd (cc))
constant_is (Some (const t)) = (λ h. (t, refl), λ e. refl)
constant_is (Some (named d)) = (λ h. absurd (cc), λ e. let f = e.1 in let g : named d ≡ const e.0 = cc in absurd (cc))

-- tests that are put together
not_is : (b : Bool) (B : Type 0) → Decides b B → Decides (not b) (B → ⊥)
not_is true B d = (λ h. absurd (cc), λ f. absurd (f (d.0 refl)))
not_is false B d = (λ h x. let e = d.1 x in absurd (cc), λ f. refl)

implies_is : (a b : Bool) (A B : Type 0) → Decides a A → Decides b B → Decides (not a || b) (A → B)
implies_is true b A B d e = (λ h x. e.0 h, λ f. e.1 (f (d.0 refl)))
implies_is false b A B d e = (λ h x. let g = d.1 x in absurd (cc), λ f. refl)

send_is : (e : PlainSortedEntry) → Decides (is_send e) (IsSend e)
send_is e =
    Decides-like _ (λ p. record { kind = p.0; shapes = p.1.0; sender = p.1.1 }) (λ r. (r.kind, (r.shapes, r.sender)))
    (Decides-and _ _ (kind_is e.entry.kind Output)
    (Decides-and _ _ (message_shapes_is e.shapes) (constant_is (slice_get e.entry.parameters 1))))

receive_is : (e : PlainSortedEntry) → Decides (is_receive e) (IsReceive e)
receive_is e =
    Decides-like _ (λ p. record { kind = p.0; shapes = p.1.0; receiver = p.1.1.0; message = p.1.1.1 })
    (λ r. (r.kind, (r.shapes, (r.receiver, r.message))))
    (Decides-and _ _ (kind_is e.entry.kind Input)
    (Decides-and _ _ (message_shapes_is e.shapes)
    (Decides-and _ _ (constant_is (slice_get e.entry.parameters 2))
    (not_is (is_constant (slice_get e.entry.parameters 0)) (IsConstantAt e.entry.parameters 0) (constant_is (slice_get e.entry.parameters 0))))))

pub named_iff : (e : PlainSortedEntry) → may_have_name e ≡ true ↔ IsWellNamed e
named_iff e =
    Decides-like _ (λ p. record { send = p.0; receive = p.1 }) (λ r. (r.send, r.receive))
    (Decides-and _ _
    (implies_is (same_word e.entry.name send_name) (is_send e) (e.entry.name ≡ send_name) (IsSend e) (bytes_eq-Decides e.entry.name send_name) (send_is e))
    (implies_is (same_word e.entry.name receive_name) (is_receive e) (e.entry.name ≡ receive_name) (IsReceive e) (bytes_eq-Decides e.entry.name receive_name) (receive_is e)))
