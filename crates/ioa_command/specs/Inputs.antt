-- Texts that are read from a file or from standard input (profile).
use Rattle.std.specs.Prelude.{◌≡◌, ◌≤◌, ⊤, ℕ, List, length, Option, None, IfSome, codes, string_bytes}
use Rattle.std.specs.Str.{IsUtf8}
use Rattle.ioa_streams.specs.declared.input.TheConstants.{INPUT_LIMIT, SCHEDULE_LIMIT}
use Rattle.ioa_streams.specs.declared.input.InputFault.TheVariants.{Memory, Read}
use Rattle.ioa_streams.specs.Input.{IsFaultOf, NamesLimit}
use Rattle.ioa_command.specs.declared.choice.InputName.{InputName}
use Rattle.ioa_command.specs.declared.choice.InputName.TheVariants.{Standard, File}
use Rattle.ioa_command.specs.declared.faults.TextFault.{TextFault}
use Rattle.ioa_command.specs.declared.faults.TextFault.TheVariants as fault

-- the name of an input as it is shown
abbrev pub shown_name : InputName → List ℕ
shown_name Standard = codes "-"
shown_name (File name) = string_bytes name

-- what is known of the bytes of an input, if so much is known of standard input: nothing is known of a file
abbrev pub given_by : InputName → Option (List ℕ) → Option (List ℕ)
given_by Standard given = given
given_by (File name) given = None

-- what is known of standard input behind an input: nothing if that was standard input
abbrev pub behind : InputName → Option (List ℕ) → Option (List ℕ)
behind Standard given = None
behind (File name) given = given

-- what is known of an input that is read behind another
abbrev pub given_behind : (first input : InputName) → Option (List ℕ) → Option (List ℕ)
given_behind first input given = given_by input (behind first given)

-- of a file nothing of standard input is read
abbrev pub KeepsStandard : InputName → (old new : Option (List ℕ)) → Type 0
KeepsStandard Standard old new = ⊤
KeepsStandard (File name) old new = new ≡ old

-- a text that is UTF-8 and no longer than a limit; if the bytes of the input are known, it is them
abbrev pub IsTextWithin : ℕ → Option (List ℕ) → List ℕ → Type 0
IsTextWithin limit given text = (length text ≤ limit) × IsUtf8 text × IfSome given (λ bytes. text ≡ bytes)

-- a text no longer than the limit of inputs
abbrev pub IsTextOf : Option (List ℕ) → List ℕ → Type 0
IsTextOf given text = IsTextWithin INPUT_LIMIT given text

-- the limit of a schedule: it may be longer if it is read from a file
abbrev pub schedule_limit : InputName → ℕ
schedule_limit Standard = INPUT_LIMIT
schedule_limit (File name) = SCHEDULE_LIMIT

-- why a file of this name gives no text of at most so many bytes
abbrev pub IsFaultOfFile : ℕ → List ℕ → TextFault → Type 0
IsFaultOfFile limit name (fault.Input f) = (f ≡ Read → ⊥) × NamesLimit limit f
IsFaultOfFile limit name (fault.Unread of) = string_bytes of ≡ name
IsFaultOfFile limit name (fault.Run f) = ⊥
IsFaultOfFile limit name (fault.Explain f) = ⊥
IsFaultOfFile limit name (fault.Trace f) = ⊥
IsFaultOfFile limit name (fault.Replay f) = ⊥
IsFaultOfFile limit name (fault.Check f) = ⊥
IsFaultOfFile limit name (fault.Print f) = ⊥

-- a file of this name can't be read, or there is no memory to tell its name
abbrev pub IsUnread : List ℕ → TextFault → Type 0
IsUnread name (fault.Input f) = f ≡ Memory
IsUnread name (fault.Unread of) = string_bytes of ≡ name
IsUnread name (fault.Run f) = ⊥
IsUnread name (fault.Explain f) = ⊥
IsUnread name (fault.Trace f) = ⊥
IsUnread name (fault.Replay f) = ⊥
IsUnread name (fault.Check f) = ⊥
IsUnread name (fault.Print f) = ⊥

-- why standard input gives no text, of which so much is known
abbrev pub IsFaultOfStandard : Option (List ℕ) → TextFault → Type 0
IsFaultOfStandard given (fault.Input f) = IfSome given (IsFaultOf INPUT_LIMIT f) × NamesLimit INPUT_LIMIT f
IsFaultOfStandard given (fault.Unread of) = ⊥
IsFaultOfStandard given (fault.Run f) = ⊥
IsFaultOfStandard given (fault.Explain f) = ⊥
IsFaultOfStandard given (fault.Trace f) = ⊥
IsFaultOfStandard given (fault.Replay f) = ⊥
IsFaultOfStandard given (fault.Check f) = ⊥
IsFaultOfStandard given (fault.Print f) = ⊥

-- why an input gives no text, of at most so many bytes if it is a file: a file that can't be read is told by its name
abbrev pub IsFaultWithin : ℕ → InputName → Option (List ℕ) → TextFault → Type 0
IsFaultWithin limit Standard given f = IsFaultOfStandard given f
IsFaultWithin limit (File name) given f = IsFaultOfFile limit (string_bytes name) f

-- why an input gives no text within the limit of inputs
abbrev pub IsFaultOfInput : InputName → Option (List ℕ) → TextFault → Type 0
IsFaultOfInput input given f = IsFaultWithin INPUT_LIMIT input given f

-- why an input gives no schedule
abbrev pub IsFaultOfLong : InputName → Option (List ℕ) → TextFault → Type 0
IsFaultOfLong input given f = IsFaultWithin SCHEDULE_LIMIT input given f
