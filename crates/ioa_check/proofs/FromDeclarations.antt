-- A text's system is that of its section and its invariants over what its declarations describe.
use Rattle.std.proofs.Common.{◌≡◌, ◌⊎◌, inl, inr, ◌∙◌, Result, Ok, Err, refl, sym, ap, length, [], List}
use Rattle.ioa_values.specs.Outcome.{and_then}
use Rattle.ioa_source.specs.Sides.{SourceText}
use Rattle.ioa_system.specs.Parts.{AutomatonParts}
use Rattle.ioa_system.specs.Systems.{SystemParts}
use Rattle.ioa_types.specs.TextTypes.{PlainTextTypes, no_types}
use Rattle.ioa_sections.specs.declared.fault.CheckFault.{CheckFault}
use Rattle.ioa_sections.specs.declared.fault.CheckFault.TheVariants.{Memory}
use Rattle.ioa_sections.specs.DeclaredParts.{DeclaredParts, declared_parts, declared_at}
use Rattle.ioa_sections.specs.Declarations.{automata_at, types_at}
use Rattle.ioa_sections.proofs.Results.{checked_is}
use Rattle.ioa_check.specs.Checking.{parts_at, system_of}

-- one result after two others
after_two : {A B C E : Type 0} (r : Result A E) (f : A → Result B E) (g : B → Result C E) → and_then (and_then r f) g ≡ and_then r (λ x. and_then (f x) g)
after_two (Ok x) f g = refl
after_two (Err e) f g = refl

-- the section and the invariants of a text over what its declarations describe
abbrev pub over_declared : SourceText → DeclaredParts → Result SystemParts CheckFault
over_declared x d = parts_at d.types.constants d.automata (length x.declarations) x

pub by_declarations : (x : SourceText) → and_then (declared_at x.declarations) (over_declared x) ≡ system_of x
unfolding system_of declared_at
by_declarations x =
    let made = λ (t : PlainTextTypes) (cs : List AutomatonParts). checked_is (declared_parts t cs) in
    let automata = λ (t : PlainTextTypes). automata_at t 0 [] x.declarations in
    after_two (types_at 0 no_types x.declarations) (λ t. and_then (automata t) (made t)) (over_declared x)
    ∙ (λ i. and_then (types_at 0 no_types x.declarations) (λ t. after_two (automata t) (made t) (over_declared x) i))

-- a refusal of the declarations is one of the text
pub undeclared : (x : SourceText) (e : CheckFault) → (e ≡ Memory) ⊎ (declared_at x.declarations ≡ Err e) → (e ≡ Memory) ⊎ (system_of x ≡ Err e)
undeclared x e (inl h) = inl h
undeclared x e (inr h) = inr (sym (by_declarations x) ∙ ap (λ (r : Result DeclaredParts CheckFault). and_then r (over_declared x)) h)
