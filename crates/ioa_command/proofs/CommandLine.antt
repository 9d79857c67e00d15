-- What the matches of the command line say of what they choose.
use Rattle.std.proofs.Common.{◌≡◌, ◌∙◌, ◌<◌, ◌^◌, ℕ, true, List, [], Option, Some, None, Result, Ok, Err}
use Rattle.std.proofs.Common.{refl, subst, sym}
use Rattle.std.specs.Str.Parse.{ParsesUnsigned}
use Rattle.clap.specs.Walk.{Text, rows_of}
use Rattle.clap.specs.Matches.{ReadsOne, one_text}
use Rattle.clap.specs.Simple.{App, HasMatchesOf, subcommand_rows_of}
use Rattle.clap.specs.Faults.{fault_of, is_simple_and_free}
use Rattle.clap.specs.Kinds.{HasKind}
use Rattle.clap.specs.declared.error.Error.{Error}
use Rattle.clap.specs.declared.parser.matches.ArgMatches.{ArgMatches}
use Rattle.clap.specs.declared.parser.matches.Found.{Found}
use Rattle.clap.proofs.WalkLemmas.{one_text-rows}
use Rattle.ioa_command.specs.Choices.{Finds, Settles}
use Rattle.ioa_command.specs.CommandLine.{AreTaken, Chooses, ChoosesNothing, IsChosenBy, IsNumberOf, program_app}
use Rattle.ioa_command.specs.declared.choice.ChoiceFault.{ChoiceFault}
use Rattle.ioa_command.specs.declared.choice.ChoiceFault.TheVariants.{Nothing}
use Rattle.ioa_command.specs.declared.choice.Subcommand.{Subcommand}
use Rattle.ioa_command.specs.declared.choice.WordsFault.{WordsFault}

-- ---- numbers

-- what a typed getter reads is the number of the option
number_is : {E : Type 0} → (gives : List ℕ → Result ℕ E → Type 0) (f : Found) (id : Text) (n : ℕ)
    → (one_text f id ≡ None → Some n ≡ None) → ((t : List ℕ) → one_text f id ≡ Some t → ReadsOne gives t (Some n))
    → ((t : List ℕ) (x : Result ℕ E) → gives t x → ParsesUnsigned 64 10 t x) → IsNumberOf (rows_of f) id n
number_is gives f id n none value parsed = go (one_text f id) refl
  where
    go : (o : Option (List ℕ)) → one_text f id ≡ o → IsNumberOf (rows_of f) id n
    go None e =
        let bad : Some n ≡ None = none e in
        cc
    go (Some t) e =
        let read = parsed t (Ok n) (value t e) in
        (t, sym (one_text-rows f id) ∙ e, (read.0.0, read.1, subst (λ k. k < 2 ^ 64) (sym read.1) read.0.1))

-- and if it reads none, the option has none
none_is : {E : Type 0} → (gives : List ℕ → Result ℕ E → Type 0) (f : Found) (id : Text)
    → ((t : List ℕ) → one_text f id ≡ Some t → ReadsOne {T = ℕ} gives t None)
    → ((t : List ℕ) (x : Result ℕ E) → gives t x → ParsesUnsigned 64 10 t x) → (n : ℕ) → IsNumberOf (rows_of f) id n → ⊥
none_is gives f id value parsed n (t, has, (numeral, is, fits)) =
    let read = value t (one_text-rows f id ∙ has) in
    parsed t (Err read.0) read.1 (numeral, subst (λ k. k < 2 ^ 64) is fits)

-- so it finds the number of the option
pub number_found : {E : Type 0} → (gives : List ℕ → Result ℕ E → Type 0) (f : Found) (id : Text) (r : Option ℕ)
    → (one_text f id ≡ None → r ≡ None) → ((t : List ℕ) → one_text f id ≡ Some t → ReadsOne gives t r)
    → ((t : List ℕ) (x : Result ℕ E) → gives t x → ParsesUnsigned 64 10 t x) → Finds (IsNumberOf (rows_of f) id) r
number_found gives f id (Some n) none value parsed = number_is gives f id n none value parsed
number_found gives f id None none value parsed = none_is gives f id value parsed

-- ---- words

-- what clap refuses of a command, it refuses of the program's command line, if that is what it was told
pub kinds_are : (a : App) (words : List Text) (e : Error) → a ≡ program_app
    → (is_simple_and_free a ≡ true → HasKind (fault_of a words) e) → HasKind (fault_of program_app words) e
kinds_are a words e is kinds =
    let told = subst (λ (b : App). is_simple_and_free b ≡ true → HasKind (fault_of b words) e) is kinds in
    told refl

-- and so with what it takes
pub takes_are : (a : App) (words : List Text) → a ≡ program_app → (is_simple_and_free a ≡ true → fault_of a words ≡ [])
    → AreTaken words
takes_are a words is kinds =
    let told = subst (λ (b : App). is_simple_and_free b ≡ true → fault_of b words ≡ []) is kinds in
    told refl

-- the words choose what the matches do
pub chosen_is : (a : App) (words : List Text) (m : ArgMatches) (choice : Subcommand) → a ≡ program_app
    → HasMatchesOf a words m → IsChosenBy (subcommand_rows_of m) choice → Chooses words choice
chosen_is a words m choice is has chosen =
    let matches = subst (λ (b : App). HasMatchesOf b words m) is has in
    subst (λ o. IsChosenBy o choice) (matches refl).1 chosen

-- the words choose nothing if the matches do
pub nothing_is : (a : App) (words : List Text) (m : ArgMatches) (f : ChoiceFault) (why : WordsFault) → a ≡ program_app
    → HasMatchesOf a words m → Settles (IsChosenBy (subcommand_rows_of m)) (Err f) → f ≡ Nothing why
    → ChoosesNothing words
nothing_is a words m f why is has settled fault =
    let matches = subst (λ (b : App). HasMatchesOf b words m) is has in
    let none = subst (λ g. Settles (IsChosenBy (subcommand_rows_of m)) (Err g)) fault settled in
    λ choice chosen. none choice (subst (λ o. IsChosenBy o choice) (sym (matches refl).1) chosen)
