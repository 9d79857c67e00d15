-- A pass never falls, and what it lets through is fresh.
use Rattle.std.proofs.Common.{◌≡◌, ◌≤◌, ℕ, ℤ, max, Bool, true, false, List, [], ◌∷◌, Option, Some, None, Result, Ok, Err}
use Rattle.std.proofs.Common.{if◌then◌else◌, refl, sym, ◌∙◌, ap, map, arith}
use Rattle.std.specs.Prelude.{nat_lt}
use Rattle.std.specs.List.{AllByRecursion, list_any}
use Rattle.std.proofs.lemmas.Bool.{ltb-false}
use Rattle.ioa_actions.specs.ComponentOrder.{same_component}
use Rattle.ioa_actions.specs.declared.component.Component.{Component}
use Rattle.ioa_commits.specs.Books.{PlainBook}
use Rattle.ioa_commits.specs.Slots.{next_version}
use Rattle.ioa_commits.specs.Versions.{PlainVersionedConf, read_component}
use Rattle.ioa_commits.specs.declared.outcome.CommitRefusal.{CommitRefusal}
use Rattle.ioa_commits.specs.declared.outcome.CommitRefusal.TheVariants as refusal
use Rattle.ioa_commits.proofs.Commits.{none_first}
use Rattle.ioa_book.specs.Looks.{PlainSnapshot, look_answer}
use Rattle.ioa_book.specs.declared.outcome.LookFault.{LookFault}
use Rattle.ioa_book.specs.declared.outcome.LookFault.TheVariants as look
use Rattle.ioa_passes.specs.Looks.{admitted, unless_older, view_answer}
use Rattle.ioa_passes.specs.PassLaws.{HasSeen, IsFresh, IsRisen, IsSeenSince}
use Rattle.ioa_passes.specs.Passes.{PlainPass, components_seen, first_older, older, older_length, older_read, plain_pass, raise_all, raise_all_next}
use Rattle.ioa_passes.specs.Passes.{raise_next, raise_read, raise_seen, risen, risen_by_commit, risen_by_look, risen_by_refusal, seen_of}
use Rattle.ioa_passes.specs.declared.outcome.Older.{Older}
use Rattle.ioa_passes.specs.declared.pass.Seen.{Seen}

-- no version falls, and the components are the same
record AreRisen (old new : List Seen) : Type 0 where
  versions : (k : Component) → seen_of k old ≤ seen_of k new
  components : map (λ s. s.component) new ≡ map (λ s. s.component) old

same_risen : (seen : List Seen) → AreRisen seen seen
same_risen seen = record { versions = λ k. omega arith; components = refl }

twice_risen : (a b c : List Seen) → AreRisen a b → AreRisen b c → AreRisen a c
twice_risen a b c h g = record {
  versions = λ k. let first : seen_of k a ≤ seen_of k b = h.versions k in let second : seen_of k b ≤ seen_of k c = g.versions k in omega (arith, first, second);
  components = g.components ∙ h.components;
}

raised_seen : (j : Component) (v : ℕ) (seen : List Seen) → AreRisen seen (raise_seen j v seen)
raised_seen j v [] = same_risen []
raised_seen j v (s ∷ more) = by_name (same_component j s.component) (raised_seen j v more)
  where
    at_first : (k : Component) (t : Bool) → (if t then s.version else seen_of k more) ≤ (if t then max s.version v else seen_of k more)
    at_first k true = omega arith
    at_first k false = omega arith

    at_others : (k : Component) (t : Bool) → seen_of k more ≤ seen_of k (raise_seen j v more) →
        (if t then s.version else seen_of k more) ≤ (if t then s.version else seen_of k (raise_seen j v more))
    at_others k true others = omega arith
    at_others k false others = others

    by_name : (t : Bool) → AreRisen more (raise_seen j v more) → AreRisen (s ∷ more) (if t then risen v s ∷ more else s ∷ raise_seen j v more)
    by_name true others = record { versions = λ k. at_first k (same_component k s.component); components = refl }
    by_name false others = record {
      versions = λ k. at_others k (same_component k s.component) (others.versions k);
      components = λ i. s.component ∷ others.components i;
    }

raised_all : (rs : List PlainVersionedConf) (seen : List Seen) → AreRisen seen (raise_all rs seen)
raised_all [] seen = same_risen seen
raised_all (r ∷ rs) seen =
    twice_risen seen (raise_read r seen) (raise_all rs (raise_read r seen)) (raised_seen (read_component r) r.version seen)
    (raised_all rs (raise_read r seen))

raised_all_next : (rs : List PlainVersionedConf) (seen : List Seen) → AreRisen seen (raise_all_next rs seen)
raised_all_next [] seen = same_risen seen
raised_all_next (r ∷ rs) seen =
    twice_risen seen (raise_next r seen) (raise_all_next rs (raise_next r seen))
    (raised_seen (read_component r) (next_version r.version) seen) (raised_all_next rs (raise_next r seen))

-- a pass of what has risen
risen_pass : (p : PlainPass) (seen : List Seen) (n : ℕ) → AreRisen p.seen seen → p.length ≤ n → IsRisen p (plain_pass seen n)
risen_pass p seen n h l = record { length = l; versions = h.versions; components = h.components }

pub by_look : (p : PlainPass) (s : PlainSnapshot) → IsRisen p (risen_by_look s p)
by_look p s = risen_pass p (raise_all s.reads p.seen) (max p.length s.length) (raised_all s.reads p.seen) (omega arith)

pub by_commit : (p : PlainPass) (rs : List PlainVersionedConf) (n : ℕ) → IsRisen p (risen_by_commit rs n p)
by_commit p rs n = risen_pass p (raise_all_next rs p.seen) (max p.length n) (raised_all_next rs p.seen) (omega arith)

pub by_refusal : (p : PlainPass) (why : CommitRefusal) → IsRisen p (risen_by_refusal why p)
by_refusal p (refusal.Unknown k) = risen_pass p p.seen p.length (same_risen p.seen) (omega arith)
by_refusal p (refusal.Stale k read held) = risen_pass p (raise_seen k held p.seen) p.length (raised_seen k held p.seen) (omega arith)
by_refusal p (refusal.Differs k) = risen_pass p p.seen p.length (same_risen p.seen) (omega arith)
by_refusal p refusal.Full = risen_pass p p.seen p.length (same_risen p.seen) (omega arith)

-- what is raised is seen
raised_here : (k : Component) (v : ℕ) (seen : List Seen) → IsSeenSince k v (raise_seen k v seen)
raised_here k v [] = λ h. absurd (cc)
raised_here k v (s ∷ more) = by_name (same_component k s.component) refl (raised_here k v more)
  where
    by_name : (t : Bool) → same_component k s.component ≡ t → IsSeenSince k v (raise_seen k v more) →
        IsSeenSince k v (if t then risen v s ∷ more else s ∷ raise_seen k v more)
    by_name true e others = rw e (λ _. omega arith)
    by_name false e others = rw e others

-- and stays so
still_seen : (k : Component) (v : ℕ) (old new : List Seen) → AreRisen old new → IsSeenSince k v old → IsSeenSince k v new
still_seen k v old new h g among =
    let before : v ≤ seen_of k old = g (ap (list_any (same_component k)) (sym h.components) ∙ among) in
    let after : seen_of k old ≤ seen_of k new = h.versions k in
    omega (arith, before, after)

seen_by_look : (rs : List PlainVersionedConf) (seen : List Seen) →
    AllByRecursion (λ r. IsSeenSince (read_component r) r.version (raise_all rs seen)) rs
seen_by_look [] seen = tt
seen_by_look (r ∷ rs) seen =
    (still_seen (read_component r) r.version (raise_read r seen) (raise_all rs (raise_read r seen)) (raised_all rs (raise_read r seen)) (raised_here (read_component r) r.version seen), seen_by_look rs (raise_read r seen))

seen_by_commit : (rs : List PlainVersionedConf) (seen : List Seen) →
    AllByRecursion (λ r. IsSeenSince (read_component r) (next_version r.version) (raise_all_next rs seen)) rs
seen_by_commit [] seen = tt
seen_by_commit (r ∷ rs) seen =
    (still_seen (read_component r) (next_version r.version) (raise_next r seen) (raise_all_next rs (raise_next r seen)) (raised_all_next rs (raise_next r seen)) (raised_here (read_component r) (next_version r.version) seen), seen_by_commit rs (raise_next r seen))

pub shown : (p : PlainPass) (s : PlainSnapshot) → HasSeen (risen_by_look s p) s.reads (λ v. v) s.length
shown p s = record { log = omega arith; reads = seen_by_look s.reads p.seen }

pub committed : (p : PlainPass) (rs : List PlainVersionedConf) (n : ℕ) → HasSeen (risen_by_commit rs n p) rs next_version n
committed p rs n = record { log = omega arith; reads = seen_by_commit rs p.seen }

pub met : (p : PlainPass) (k : Component) (read held : ℕ) → IsSeenSince k held (risen_by_refusal (refusal.Stale k read held) p).seen
met p k read held = raised_here k held p.seen

-- what is not older is fresh
not_older : (n m : ℕ) (o : Older) (t : Bool) → nat_lt n m ≡ t → (if t then Some o else None) ≡ None → m ≤ n
not_older n m o true e h = absurd (cc)
not_older n m o false e h = ltb-false n m e

fresh_reads : (seen : List Seen) (rs : List PlainVersionedConf) → first_older seen rs ≡ None →
    AllByRecursion (λ r. seen_of (read_component r) seen ≤ r.version) rs
fresh_reads seen [] h = tt
fresh_reads seen (r ∷ rs) h =
    let parts = none_first (older_read seen r) (first_older seen rs) h in
    (not_older r.version (seen_of (read_component r) seen) _ (nat_lt r.version (seen_of (read_component r) seen)) refl parts.0, fresh_reads seen rs parts.1)

fresh_look : (p : PlainPass) (s : PlainSnapshot) → older p s ≡ None → IsFresh p s
fresh_look p s h =
    let parts = none_first (first_older p.seen s.reads) (older_length p.length s.length) h in
    record { log = not_older s.length p.length _ (nat_lt s.length p.length) refl parts.1; reads = fresh_reads p.seen s.reads parts.0 }

pub fresh : (b : PlainBook) (p : PlainPass) (n : ℤ) (s : PlainSnapshot) → view_answer b p n ≡ Ok s → IsFresh p s
fresh b p n s h = by_answer (look_answer b n) h
  where
    by_older : (x : PlainSnapshot) (o : Option Older) → older p x ≡ o → unless_older o x ≡ Ok s → IsFresh p s
    by_older x None e g = let same : x ≡ s = cc in fresh_look p s (rw (← same) e)
    by_older x (Some o) e g = absurd (cc)

    by_answer : (r : Result PlainSnapshot LookFault) → admitted p r ≡ Ok s → IsFresh p s
    by_answer (Ok x) g = by_older x (older p x) refl g
    by_answer (Err look.Memory) g = absurd (cc)
    by_answer (Err look.Unknown) g = absurd (cc)
