-- Receipts go into a table one after another.
use Rattle.std.proofs.Common.{◌≡◌, ◌<◌, ◌≤◌, ◌+◌, ℕ, List, [], ◌∷◌, ◌++◌, Option, Some, None, Bor, length, set, get_or, drop, map}
use Rattle.std.proofs.Common.{refl, sym, subst, ap, ◌∙◌, arith}
use Rattle.std.specs.List.{slice_get}
use Rattle.std.specs.Option.{option_and_then, option_copied, option_map}
use Rattle.std.proofs.lemmas.List.{length-map, map-set, at_drop_more}
use Rattle.std.proofs.lemmas.Option.{slice_get-map, slice_get-get_or, slice_get_past}
use Rattle.ioa_transitions.specs.Entries.{PlainEntry}
use Rattle.ioa_receipts.specs.declared.receipts.Receipt.{Receipt}
use Rattle.ioa_receipts.specs.Receipts.{PlainReceipts}
use Rattle.ioa_receipts.specs.Covers.{all_receipts}
use Rattle.ioa_receipts.specs.Tables.{PlainTable, put, put_by, put_all}

-- receipts, and then those behind them
put_all_joined : (rs more : List Receipt) (t : PlainTable) →
    put_all (rs ++ more) t ≡ option_and_then (put_all more) (put_all rs t)
put_all_joined [] more t = refl
put_all_joined (r ∷ rs) more t = by_first (put r t) (put_all_joined rs more)
  where
    by_first : (o : Option PlainTable) →
        ((u : PlainTable) → put_all (rs ++ more) u ≡ option_and_then (put_all more) (put_all rs u)) →
        option_and_then (put_all (rs ++ more)) o ≡ option_and_then (put_all more) (option_and_then (put_all rs) o)
    by_first None further = refl
    by_first (Some u) further = further u

-- those of a worker, and then those of the workers behind
pub put_all_worker : (ws : List PlainReceipts) (i : ℕ) (w : PlainReceipts) (rs : List Receipt) (t : PlainTable) →
    i < length ws → w ≡ get_or ws i w → rs ≡ w.all →
    put_all (all_receipts (drop i ws)) t ≡ option_and_then (put_all (all_receipts (drop (i + 1) ws))) (put_all rs t)
put_all_worker ws i w rs t within read its =
    let rest : List Receipt = all_receipts (drop (i + 1) ws) in
    let first : List Receipt = (get_or ws i w).all in
    let whole : all_receipts (drop i ws) ≡ first ++ rest = at_drop_more all_receipts ws i w within in
    let same : rs ≡ first = its ∙ ap (λ (v : PlainReceipts). v.all) read in
    ap (λ l. put_all l t) whole
    ∙ (put_all_joined first rest t ∙ ap (λ l. option_and_then (put_all rest) (put_all l t)) (sym same))

module _ (r : Receipt) (t : PlainTable) (places : List (Option (Bor PlainEntry))) where
  -- what is at the index of a receipt
  there : (p : Option (Bor PlainEntry)) → map option_copied places ≡ t → r.index < length places →
      p ≡ get_or places r.index p → slice_get t r.index ≡ Some (option_copied p)
  there p view within read =
      let at : slice_get places r.index ≡ Some (get_or places r.index p) = slice_get-get_or places r.index p within in
      subst (λ u. slice_get u r.index ≡ Some (option_copied p)) view
      (slice_get-map option_copied places r.index ∙ ap (option_map option_copied) (at ∙ ap Some (sym read)))

  -- a receipt is put at its index, if nothing is there
  pub put_there : (p : Option (Bor PlainEntry)) (b : Bor PlainEntry) → map option_copied places ≡ t →
      r.index < length places → p ≡ get_or places r.index p → p ≡ None → b.now ≡ r.entry →
      put r t ≡ Some (map option_copied (set places r.index (Some b)))
  put_there p b view within read free is =
      let at : slice_get t r.index ≡ Some None = there p view within read ∙ ap (λ q. Some (option_copied q)) free in
      let after : map option_copied (set places r.index (Some b)) ≡ set t r.index (Some r.entry) =
      map-set option_copied places r.index (Some b) ∙ cc (view, is)
      in
      ap (put_by r t) at ∙ ap Some (sym after)

  -- it is refused, if something is there
  pub put_taken : (p : Option (Bor PlainEntry)) (b : Bor PlainEntry) → map option_copied places ≡ t →
      r.index < length places → p ≡ get_or places r.index p → p ≡ Some b → put r t ≡ None
  put_taken p b view within read taken =
      ap (put_by r t) (there p view within read ∙ ap (λ q. Some (option_copied q)) taken)

  -- or if there is no such place
  pub put_past : map option_copied places ≡ t → length places ≤ r.index → put r t ≡ None
  put_past view past =
      let as_long : length t ≡ length places =
      subst (λ u. length u ≡ length places) view (length-map places option_copied)
      in
      ap (put_by r t) (slice_get_past t r.index (omega arith))
