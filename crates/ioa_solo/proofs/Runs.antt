-- What a run leaves, in the book's words.
use Rattle.std.proofs.Common.{◌≡◌, ℕ, List, sym, ap, ◌∙◌, map, length}
use Rattle.std.proofs.lemmas.List.{length-map}
use Rattle.ioa_system.specs.Systems.{SystemParts}
use Rattle.ioa_record.specs.declared.ending.Ending.{Ending}
use Rattle.ioa_turns.specs.NodeTurns.{PlainProgress, progress_at}
use Rattle.ioa_solo.specs.Solo.{ending_of}

-- there is an ending for each node of the system
pub as_many_endings : {A : Type 0} (f : A → PlainProgress) (s : SystemParts) (attempts : ℕ) (endings : List Ending) (now new old : List A) → endings ≡ map ending_of (map f now) → now ≡ new → length new ≡ length old → map f old ≡ map (progress_at attempts) s.programs → length endings ≡ length s.programs
as_many_endings {A} f s attempts endings now new old ended same long begun =
    ap (λ (es : List Ending). length es) ended
    ∙ length-map (map f now) ending_of
    ∙ length-map now f
    ∙ ap (λ (ps : List A). length ps) same
    ∙ long
    ∙ sym (length-map old f)
    ∙ ap (λ (ps : List PlainProgress). length ps) begun
    ∙ length-map s.programs (progress_at attempts)
