-- Receipts fill a table with the entries of a log exactly if they cover it.
use Rattle.std.proofs.Common.{◌≡◌, ◌≢◌, ◌↔◌, ◌<◌, ℕ, suc, List, [], ◌∷◌, Option, Some, None, length, set, get_or, replicate, map}
use Rattle.std.proofs.Common.{refl, sym, ap, subst, ◌∙◌, inl, inr, arith}
use Rattle.std.specs.List.{AllByRecursion, slice_get}
use Rattle.std.specs.Option.{option_and_then, option_map}
use Rattle.std.proofs.lemmas.Bool.{cases_eq, eq-eqb, ne_eqb}
use Rattle.std.proofs.lemmas.List.{length-set, length-replicate}
use Rattle.std.proofs.lemmas.Option.{slice_get_within, slice_get-get_or, slice_get-map}
use Rattle.ioa_transitions.specs.Entries.{PlainEntry}
use Rattle.ioa_receipts.specs.declared.receipts.Receipt.{Receipt}
use Rattle.ioa_receipts.specs.Covers.{CoversOnce, IsReceiptOf, count_at}
use Rattle.ioa_receipts.specs.Tables.{PlainTable, put_by, put_all}
use Rattle.ioa_receipts.proofs.Places.{same_place, no_place, slice_get-set_same, slice_get-set_other, slice_get-replicate}

-- a receipt counts at its own index
pub count_at_same : (r : Receipt) (rs : List Receipt) (k : ℕ) → r.index ≡ k → count_at k (r ∷ rs) ≡ suc (count_at k rs)
count_at_same r rs k same = rw (eq-eqb r.index k same) refl

-- and at no other
pub count_at_other : (r : Receipt) (rs : List Receipt) (k : ℕ) → r.index ≢ k → count_at k (r ∷ rs) ≡ count_at k rs
count_at_other r rs k differ = rw (ne_eqb r.index k differ) refl

-- a place goes with an entry of the log while so many receipts for it are left: it has nothing in it and there is one,
-- or it has the entry in it and there is none
abbrev GoesWith : Option PlainEntry → PlainEntry → ℕ → Type 0
GoesWith None e n = n ≡ 1
GoesWith (Some d) e n = (d ≡ e) × (n ≡ 0)

-- receipts fill up a table of a log
record FillUp (log : List PlainEntry) (rs : List Receipt) (t : PlainTable) : Type 0 where
  entries : AllByRecursion (IsReceiptOf log) rs
  once : (k : ℕ) (e : PlainEntry) (p : Option PlainEntry) → slice_get log k ≡ Some e → slice_get t k ≡ Some p →
      GoesWith p e (count_at k rs)

-- a table that goes with a log, when no receipt is left, has it in it
full : (t : PlainTable) (log : List PlainEntry) → length t ≡ length log →
    ((k : ℕ) (e : PlainEntry) (p : Option PlainEntry) → slice_get log k ≡ Some e → slice_get t k ≡ Some p → GoesWith p e 0) →
    t ≡ map Some log
full [] [] as_long goes = refl
full [] (e ∷ log) as_long goes = absurd (omega arith)
full (p ∷ t) [] as_long goes = absurd (omega arith)
full (None ∷ t) (e ∷ log) as_long goes = absurd (omega (arith, goes 0 e None refl refl))
full (Some d ∷ t) (e ∷ log) as_long goes =
    let first : d ≡ e = (goes 0 e (Some d) refl refl).0 in
    let others : t ≡ map Some log = full t log (omega arith) (λ k. goes (suc k)) in
    cc

-- a place of a table that has a log in it
full_place : (t : PlainTable) (log : List PlainEntry) (k : ℕ) (e : PlainEntry) (p : Option PlainEntry) →
    t ≡ map Some log → slice_get log k ≡ Some e → slice_get t k ≡ Some p → p ≡ Some e
full_place t log k e p same in_log in_table =
    let there : slice_get (map Some log) k ≡ option_map Some (slice_get log k) = slice_get-map Some log k in
    let known : option_map Some (slice_get log k) ≡ Some (Some e) = rw in_log refl in
    cc

-- receipts that put a log into a table fill it up
filled_up : (log : List PlainEntry) (rs : List Receipt) (t : PlainTable) → length t ≡ length log →
    put_all rs t ≡ Some (map Some log) → FillUp log rs t
filled_up log [] t as_long h =
    record {
      entries = tt;
      once = λ k e p in_log in_table.
          subst (λ (q : Option PlainEntry). GoesWith q e 0) (sym (full_place t log k e p (cc) in_log in_table)) (refl, refl);
    }
filled_up log (r ∷ rs) t as_long h =
    by_place (slice_get t r.index) refl h (filled_up log rs (set t r.index (Some r.entry)))
  where
    by_place : (o : Option (Option PlainEntry)) → slice_get t r.index ≡ o →
        option_and_then (put_all rs) (put_by r t o) ≡ Some (map Some log) →
        (length (set t r.index (Some r.entry)) ≡ length log →
        put_all rs (set t r.index (Some r.entry)) ≡ Some (map Some log) →
        FillUp log rs (set t r.index (Some r.entry))) →
        FillUp log (r ∷ rs) t
    by_place None at h further = absurd (cc)
    by_place (Some (Some d)) at h further = absurd (cc)
    by_place (Some None) at h further =
        let rest : FillUp log rs (set t r.index (Some r.entry)) = further (length-set t r.index _ ∙ as_long) h in
        let within : r.index < length t = slice_get_within t r.index None at in
        let e : PlainEntry = get_or log r.index r.entry in
        let in_log : slice_get log r.index ≡ Some e = slice_get-get_or log r.index r.entry (omega arith) in
        let own : (r.entry ≡ e) × (count_at r.index rs ≡ 0) =
        rest.once r.index e (Some r.entry) in_log (slice_get-set_same t r.index (Some r.entry) within)
        in
        record {
          entries = (cc, rest.entries);
          once = λ k d p there in_table.
              elim (cases_eq r.index k) [
                | inl same ↦
                    let free : p ≡ None = same_place t r.index k None p same at in_table in
                    let none : count_at k rs ≡ 0 = subst (λ i. count_at i rs ≡ 0) same own.1 in
                    subst (λ (q : Option PlainEntry). GoesWith q d (count_at k (r ∷ rs))) (sym free)
                    (count_at_same r rs k same ∙ ap suc none)
                | inr differ ↦
                    subst (λ n. GoesWith p d n) (sym (count_at_other r rs k differ))
                    (rest.once k d p there (slice_get-set_other t r.index k (Some r.entry) differ ∙ in_table))
              ];
        }

-- receipts that fill up a table put the log into it
fills : (log : List PlainEntry) (rs : List Receipt) (t : PlainTable) → length t ≡ length log → FillUp log rs t →
    put_all rs t ≡ Some (map Some log)
fills log [] t as_long h = ap Some (full t log as_long h.once)
fills log (r ∷ rs) t as_long h =
    by_place (slice_get t r.index) refl (fills log rs (set t r.index (Some r.entry)))
  where
    counted : count_at r.index (r ∷ rs) ≡ suc (count_at r.index rs)
    counted = count_at_same r rs r.index refl

    by_place : (o : Option (Option PlainEntry)) → slice_get t r.index ≡ o →
        (length (set t r.index (Some r.entry)) ≡ length log → FillUp log rs (set t r.index (Some r.entry)) →
        put_all rs (set t r.index (Some r.entry)) ≡ Some (map Some log)) →
        option_and_then (put_all rs) (put_by r t o) ≡ Some (map Some log)
    by_place None at further =
        let within : r.index < length log = slice_get_within log r.index r.entry h.entries.0 in
        absurd (no_place t r.index (omega arith) at)
    by_place (Some (Some d)) at further =
        let own : (d ≡ r.entry) × (count_at r.index (r ∷ rs) ≡ 0) = h.once r.index r.entry (Some d) h.entries.0 at in
        absurd (omega (arith, counted, own.1))
    by_place (Some None) at further =
        let one : count_at r.index (r ∷ rs) ≡ 1 = h.once r.index r.entry None h.entries.0 at in
        let none : count_at r.index rs ≡ 0 = omega (arith, counted, one) in
        let within : r.index < length t = slice_get_within t r.index None at in
        let after : slice_get (set t r.index (Some r.entry)) r.index ≡ Some (Some r.entry) =
        slice_get-set_same t r.index (Some r.entry) within
        in
        further (length-set t r.index _ ∙ as_long)
        (record {
          entries = h.entries.1;
          once = λ k e p in_log in_table.
              elim (cases_eq r.index k) [
                | inl same ↦
                    let own : p ≡ Some r.entry =
                    same_place (set t r.index (Some r.entry)) r.index k (Some r.entry) p same after in_table
                    in
                    let its : e ≡ r.entry = same_place log r.index k r.entry e same h.entries.0 in_log in
                    subst (λ (q : Option PlainEntry). GoesWith q e (count_at k rs)) (sym own)
                    (sym its, subst (λ i. count_at i rs ≡ 0) same none)
                | inr differ ↦
                    subst (λ n. GoesWith p e n) (count_at_other r rs k differ)
                    (h.once k e p in_log (sym (slice_get-set_other t r.index k (Some r.entry) differ) ∙ in_table))
              ];
        })

-- receipts that cover a log fill up a table with nothing in it
covering : (log : List PlainEntry) (rs : List Receipt) → CoversOnce log rs → FillUp log rs (replicate (length log) None)
covering log rs h =
    record {
      entries = h.entries;
      once = λ k e p in_log in_table.
          let within : k < length log = slice_get_within log k e in_log in
          let free : p ≡ None =
          same_place (replicate (length log) None) k k None p refl (slice_get-replicate (length log) k None within) in_table
          in
          subst (λ (q : Option PlainEntry). GoesWith q e (count_at k rs)) (sym free) (h.once k within);
    }

-- receipts that fill up a table with nothing in it cover the log
covers_filled : (log : List PlainEntry) (rs : List Receipt) → FillUp log rs (replicate (length log) None) → CoversOnce log rs
covers_filled log rs h = record { entries = h.entries; once = λ k within. by_entry k within (slice_get log k) refl }
  where
    by_entry : (k : ℕ) → k < length log → (o : Option PlainEntry) → slice_get log k ≡ o → count_at k rs ≡ 1
    by_entry k within None at = absurd (no_place log k within at)
    by_entry k within (Some e) at = h.once k e None at (slice_get-replicate (length log) k None within)

-- receipts put a log into a table with nothing in it exactly if they cover it
pub covered : (log : List PlainEntry) (rs : List Receipt) →
    (put_all rs (replicate (length log) None) ≡ Some (map Some log)) ↔ CoversOnce log rs
covered log rs =
    let as_long = length-replicate (length log) None in (
      λ h. covers_filled log rs (filled_up log rs (replicate (length log) None) as_long h),
      λ h. fills log rs (replicate (length log) None) as_long (covering log rs h),
    )
