-- Beginnings of texts that are made part by part.
use Rattle.std.proofs.Common.{◌≡◌, ◌∙◌, ℕ, ◌≤◌, ◌++◌, Bool, List, [], length, take, Option, Result, Ok, Err, arith, sym, ap, subst, length-append}
use Rattle.std.proofs.KnownBytes.{Appends-nil}
use Rattle.std.proofs.Math.Seq.{take-append_seam}
use Rattle.std.proofs.lemmas.List.{take-append-le}
use Rattle.std.specs.Io.KnownBytes.{Appends}
use Rattle.std.specs.Prelude.{OnErr, OnOk}
use Rattle.ioa_streams.specs.Output.{AppendsBeginning}
use Rattle.ioa_streams.specs.declared.output.OutFailed.{OutFailed}
use Rattle.ioa_paper.specs.Papers.{Ended, PlainPaper, and_text}
use Rattle.ioa_paper.proofs.Papers.{joined}
use Rattle.ioa_show.specs.Shown.{Continues, HasBeginning, PutsText, outcome_of}

-- what holds anyway
pub if_failed : {X E P : Type 0} (r : Result X E) → P → OnErr r P
if_failed (Ok x) h = tt
if_failed (Err e) h = h

-- a beginning of a text is one of the text with more
pub begins_before : (text more : List ℕ) (old new : PlainPaper) → HasBeginning text old new → HasBeginning (text ++ more) old new
begins_before text more old new h = (
  h.0 ++ more,
  sym (joined new h.0 more) ∙ ap (λ (p : PlainPaper). and_text p more) h.1 ∙ joined old text more,
)

-- behind a text stands a beginning of the next one
pub begins_behind : (head text : List ℕ) (old mid new : PlainPaper) → mid ≡ and_text old head → HasBeginning text mid new
    → HasBeginning (head ++ text) old new
begins_behind head text old mid new first h =
    (h.0, h.1 ∙ ap (λ (p : PlainPaper). and_text p text) first ∙ joined old head text)

-- a paper that stays as it was, on which a text would be put that ends the whole one
pub begins_here : (text rest : List ℕ) (old mid new : PlainPaper) → and_text mid rest ≡ and_text old text → new ≡ mid
    → HasBeginning text old new
begins_here text rest old mid new due same = (rest, ap (λ (p : PlainPaper). and_text p rest) same ∙ due)

-- nothing is a beginning of any text
pub nothing_begins : (text : List ℕ) (old : Option (List ℕ)) → AppendsBeginning old old text
nothing_begins text old = (0, omega arith, Appends-nil old)

-- what goes out of a beginning is a beginning
out_of : (text rest whole : List ℕ) (old now : Option (List ℕ)) (failed : Bool) (sent : Result (Unit {0}) OutFailed)
    → text ++ rest ≡ whole → Ended old now failed text sent → AppendsBeginning old now whole
out_of text rest whole old now failed (Ok x) is h =
    subst (λ (t : List ℕ). AppendsBeginning old now t) is
    (length text, omega (arith, length-append text rest), rw (take-append_seam text rest) h.1)
out_of text rest whole old now failed (Err e) is h =
    subst (λ (t : List ℕ). AppendsBeginning old now t) is
    (h.1.0, omega (arith, length-append text rest, h.1.1), rw (take-append-le h.1.0 text rest h.1.1) h.1.2)

-- a paper that was empty has a beginning of a text, of which went out what could
sent_beginning : (text : List ℕ) (a b : PlainPaper) (old now : Option (List ℕ)) (failed : Bool)
    (sent : Result (Unit {0}) OutFailed) → a.start ≡ old → a.text ≡ [] → HasBeginning text a b → Continues a b
    → Ended b.start now failed b.text sent → AppendsBeginning old now text
sent_beginning text a b old now failed sent begins empty h on ended =
    subst (λ (o : Option (List ℕ)). AppendsBeginning o now text) (on.0 ∙ begins)
    (out_of b.text h.0 text b.start now failed sent
    (ap (λ (p : PlainPaper). p.text) h.1 ∙ ap (λ (t : List ℕ). t ++ text) empty) ended)

-- a text that was made goes out whole, or a beginning of it does
made_put : (E : Type 0) (text : List ℕ) (old now : Option (List ℕ)) (failed : Bool) (x : Unit {0})
    (sent : Result (Unit {0}) OutFailed) → Ended old now failed text sent
    → PutsText text old now failed (outcome_of {E = E} (Ok x) sent)
made_put E text old now failed x (Ok y) ended = ended
made_put E text old now failed x (Err f) ended = ended

-- a text whose parts were put on a paper that was empty, as far as they were made, and what went out of it
pub parts_put : {E : Type 0} (text : List ℕ) (a b : PlainPaper) (old now : Option (List ℕ)) (failed : Bool)
    (made : Result (Unit {0}) E) (sent : Result (Unit {0}) OutFailed) → a.start ≡ old → a.text ≡ []
    → OnOk made (b ≡ and_text a text) → OnErr made (HasBeginning text a b) → Continues a b
    → Ended b.start now failed b.text sent → PutsText text old now failed (outcome_of made sent)
parts_put {E} text a b old now failed (Err e) sent begins empty whole h on ended =
    sent_beginning text a b old now failed sent begins empty h on ended
parts_put {E} text a b old now failed (Ok x) sent begins empty whole h on ended =
    let all : b.text ≡ text = ap (λ (p : PlainPaper). p.text) whole ∙ ap (λ (t : List ℕ). t ++ text) empty in
    let begun : Ended old now failed b.text sent = subst (λ (o : Option (List ℕ)). Ended o now failed b.text sent) (on.0 ∙ begins) ended in
    made_put E text old now failed x sent (subst (λ (t : List ℕ). Ended old now failed t sent) all begun)
