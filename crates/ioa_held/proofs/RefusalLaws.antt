-- What a refusal tells: numbers that are less than a pass has seen, or versions that differ.
use Rattle.std.proofs.Common.{◌≡◌, ◌≤◌, ◌||◌, ℕ, ℤ, Bool, true, false, List, [], ◌∷◌, Option, Some, None, Result, Ok, Err}
use Rattle.std.proofs.Common.{if◌then◌else◌, refl, sym, ◌∙◌, arith}
use Rattle.std.specs.Prelude.{nat_eq, nat_lt}
use Rattle.std.specs.List.{list_any}
use Rattle.std.specs.Option.{option_or}
use Rattle.std.proofs.lemmas.Bool.{eqb-false, ltb-true}
use Rattle.ioa_actions.specs.ComponentOrder.{same_component}
use Rattle.ioa_actions.specs.declared.component.Component.{Component}
use Rattle.ioa_compose.specs.SameConfs.{same_conf}
use Rattle.ioa_commits.specs.Books.{PlainBook, held_of}
use Rattle.ioa_commits.specs.Commits.{first_refusal, full, refusal_by, refusal_of}
use Rattle.ioa_commits.specs.Proposals.{PlainProposal}
use Rattle.ioa_commits.specs.Versions.{PlainVersionedConf, read_component}
use Rattle.ioa_commits.specs.declared.outcome.CommitRefusal.{CommitRefusal}
use Rattle.ioa_commits.specs.declared.outcome.CommitRefusal.TheVariants.{Stale, Differs, Full}
use Rattle.ioa_commits.specs.declared.standing.Test.{Test}
use Rattle.ioa_commits.specs.declared.standing.Test.TheVariants.{Known, Current, Same}
use Rattle.ioa_book.specs.Looks.{PlainSnapshot, look_answer}
use Rattle.ioa_book.specs.declared.outcome.LookFault.{LookFault}
use Rattle.ioa_book.specs.declared.outcome.LookFault.TheVariants as look
use Rattle.ioa_passes.specs.Looks.{admitted, unless_older, view_answer}
use Rattle.ioa_passes.specs.Passes.{PlainPass, aged_by, first_older, older, older_length, older_read, raise_seen, risen, seen_of}
use Rattle.ioa_passes.specs.declared.outcome.Aged.TheVariants as aged
use Rattle.ioa_passes.specs.declared.outcome.Older.{Older}
use Rattle.ioa_passes.specs.declared.outcome.ViewFault.TheVariants as view
use Rattle.ioa_passes.specs.declared.pass.Seen.{Seen}
use Rattle.ioa_held.specs.AttemptLaws.{IsOlderThan, IsStaleBy}
use Rattle.ioa_held.specs.Attempts.{IsMissed}
use Rattle.ioa_held.specs.declared.outcome.Miss.TheVariants as miss

-- the first of two that is there
one_of : {A : Type 0} (P : A → Type 0) (x y : Option A) (a : A) → option_or x y ≡ Some a → (x ≡ Some a → P a) → (y ≡ Some a → P a) → P a
one_of P None y a h first second = second h
one_of P (Some b) y a h first second = first h

-- what was read of a component that is older
read_older : (p : PlainPass) (r : PlainVersionedConf) (o : Older) → older_read p.seen r ≡ Some o → IsOlderThan p o
read_older p r o h = by_test (nat_lt r.version (seen_of (read_component r) p.seen)) refl h
  where
    made : Older
    made = aged_by (aged.Component (read_component r)) (seen_of (read_component r) p.seen) r.version

    by_test : (t : Bool) → nat_lt r.version (seen_of (read_component r) p.seen) ≡ t → (if t then Some made else None) ≡ Some o → IsOlderThan p o
    by_test true e g =
        let same : made ≡ o = cc in
        rw (← same) (record { seen_was = refl; less = ltb-true r.version (seen_of (read_component r) p.seen) e })
    by_test false e g = absurd (cc)

reads_older : (p : PlainPass) (rs : List PlainVersionedConf) (o : Older) → first_older p.seen rs ≡ Some o → IsOlderThan p o
reads_older p [] o h = absurd (cc)
reads_older p (r ∷ rs) o h = one_of (IsOlderThan p) (older_read p.seen r) (first_older p.seen rs) o h (read_older p r o) (reads_older p rs o)

log_older : (p : PlainPass) (n : ℕ) (o : Older) → older_length p.length n ≡ Some o → IsOlderThan p o
log_older p n o h = by_test (nat_lt n p.length) refl h
  where
    made : Older
    made = aged_by aged.Length p.length n

    by_test : (t : Bool) → nat_lt n p.length ≡ t → (if t then Some made else None) ≡ Some o → IsOlderThan p o
    by_test true e g =
        let same : made ≡ o = cc in
        rw (← same) (record { seen_was = refl; less = ltb-true n p.length e })
    by_test false e g = absurd (cc)

pub older_look : (b : PlainBook) (p : PlainPass) (n : ℤ) (o : Older) → view_answer b p n ≡ Err (view.Older o) → IsOlderThan p o
older_look b p n o h = by_answer (look_answer b n) h
  where
    by_older : (s : PlainSnapshot) (f : Option Older) → older p s ≡ f → unless_older f s ≡ Err (view.Older o) → IsOlderThan p o
    by_older s None e g = absurd (cc)
    by_older s (Some f) e g =
        let same : f ≡ o = cc in
        one_of (IsOlderThan p) (first_older p.seen s.reads) (older_length p.length s.length) o (rw same at e) (reads_older p s.reads o) (log_older p s.length o)

    by_answer : (r : Result PlainSnapshot LookFault) → admitted p r ≡ Err (view.Older o) → IsOlderThan p o
    by_answer (Ok s) g = by_older s (older p s) refl g
    by_answer (Err look.Memory) g = absurd (cc)
    by_answer (Err look.Unknown) g = absurd (cc)

pub behind : (old new : PlainBook) (x back : PlainProposal) (p q : PlainPass) (o : Older) → IsMissed old x p (miss.Older o) back new q → IsOlderThan p o
behind old new x back p q o h = log_older p _ o h.older

-- a test that tells a proposal stale has met two versions
abbrev IsMoved : CommitRefusal → Type 0
IsMoved why = (k : Component) (v w : ℕ) → why ≡ Stale k v w → v ≡ w → ⊥

moved_by : (t : Test) (r : PlainVersionedConf) (found : Option PlainVersionedConf) (why : CommitRefusal) → refusal_by t r found ≡ Some why → IsMoved why
moved_by Known r None why h = λ k v w e s. absurd (cc)
moved_by Known r (Some x) why h = absurd (cc)
moved_by Current r None why h = absurd (cc)
moved_by Current r (Some x) why h = by_test (nat_eq r.version x.version) refl h
  where
    by_test : (t : Bool) → nat_eq r.version x.version ≡ t →
        (if t then None else Some (Stale (read_component r) r.version x.version)) ≡ Some why → IsMoved why
    by_test true e g = absurd (cc)
    by_test false e g = λ k v w is same. let read : r.version ≡ v = cc in let held : x.version ≡ w = cc in
        eqb-false r.version x.version e (read ∙ same ∙ sym held)
moved_by Same r None why h = absurd (cc)
moved_by Same r (Some x) why h = by_test (same_conf r.conf x.conf) h
  where
    by_test : (t : Bool) → (if t then None else Some (Differs (read_component r))) ≡ Some why → IsMoved why
    by_test true g = absurd (cc)
    by_test false g = λ k v w e s. absurd (cc)

moved_first : (t : Test) (b : PlainBook) (rs : List PlainVersionedConf) (why : CommitRefusal) → first_refusal t b rs ≡ Some why → IsMoved why
moved_first t b [] why h = absurd (cc)
moved_first t b (r ∷ rs) why h =
    one_of IsMoved (refusal_by t r (held_of b (read_component r))) (first_refusal t b rs) why h (moved_by t r (held_of b (read_component r)) why)
    (moved_first t b rs why)

moved_full : (b : PlainBook) (why : CommitRefusal) → full b ≡ Some why → IsMoved why
moved_full b why h = by_test (nat_lt _ b.limit) h
  where
    by_test : (t : Bool) → (if t then None else Some Full) ≡ Some why → IsMoved why
    by_test true g = absurd (cc)
    by_test false g = λ k v w e s. absurd (cc)

moved : (b : PlainBook) (rs : List PlainVersionedConf) (why : CommitRefusal) → refusal_of b rs ≡ Some why → IsMoved why
moved b rs why h =
    one_of IsMoved (first_refusal Known b rs) (option_or (first_refusal Current b rs) (option_or (first_refusal Same b rs) (full b))) why h
    (moved_first Known b rs why)
    (λ g. one_of IsMoved (first_refusal Current b rs) (option_or (first_refusal Same b rs) (full b)) why g (moved_first Current b rs why)
    (λ f. one_of IsMoved (first_refusal Same b rs) (full b) why f (moved_first Same b rs why) (moved_full b why)))

-- a component that is in a pass is seen at the version at which it was met
met : (k : Component) (v : ℕ) (seen : List Seen) → list_any (λ s. same_component k s.component) seen ≡ true → v ≤ seen_of k (raise_seen k v seen)
met k v [] h = absurd (cc)
met k v (s ∷ more) h = by_name (same_component k s.component) refl h (met k v more)
  where
    by_name : (t : Bool) → same_component k s.component ≡ t → (t || list_any (λ x. same_component k x.component) more) ≡ true →
        (list_any (λ x. same_component k x.component) more ≡ true → v ≤ seen_of k (raise_seen k v more)) →
        v ≤ seen_of k (if t then risen v s ∷ more else s ∷ raise_seen k v more)
    by_name true e g others = rw e (omega arith)
    by_name false e g others = rw e (others g)

pub stale : (old new : PlainBook) (x back : PlainProposal) (p q : PlainPass) (k : Component) (read held : ℕ) →
    IsMissed old x p (miss.Refused (Stale k read held)) back new q → IsStaleBy p x k read held back q
stale old new x back p q k read held h = record {
  moved = moved old x.reads (Stale k read held) h.commit.reason k read held refl;
  handed_back = h.commit.handed_back;
  seen = λ there. rw h.pass (met k held p.seen there);
}
