use Rattle.std.proofs.Common.{◌≡◌, ◌∙◌, ◌++◌, Equal, min, length, refl, sym, arith, rules}
use Rattle.ioa_values.specs.Data.{items_of, entries_of}
use Rattle.ioa_values.specs.DataOrder.{items_cmp, entries_cmp}
use Rattle.ioa_values.specs.ItemLists.{items_in}
use Rattle.ioa_values.proofs.Endings.{ended}
use Rattle.ioa_values.proofs.Falls.{item_falls, entry_falls}
use Rattle.std.specs.Option.{IfSome}
use Rattle.ioa_values.proofs.Steps.{items_alike, items_apart, told_behind, told_first, entries_alike, keys_apart, values_apart}
use Rattle.ioa_values.proofs.+comparing.Goals as goal

pub value::compare_values-returns : goal.value::compare_values-returns
value::compare_values-returns t c =
    let at_end : c.loop-position.position ≡ min (length c.args.values.now.items) (length c.args.others.now.items) = omega arith in
    let shorter = ended (λ xs ys. items_cmp (items_of xs) (items_of ys)) refl (λ y ys. refl) (λ x xs. refl) c.args.values.now.items c.args.others.now.items c.loop-position.position at_end in
    cc (c.args.values.now.ok.0, c.args.others.now.ok.0)

pub sequence::Sequence::compare-compare-requires : goal.sequence::Sequence::compare-compare-requires
sequence::Sequence::compare-compare-requires t c =
    let fall = item_falls c.args.self.now c.loop-position.position c.at.result.now c.at.ensures in
    grind (arith, fall)

pub sequence::Sequence::compare-loop-position-preserved : goal.sequence::Sequence::compare-loop-position-preserved
sequence::Sequence::compare-loop-position-preserved t c =
    let alike = items_alike c.args.self.now c.args.other.now c.loop-position.position c.at.result.now c.at-in-loop-position.result.now c.at.ensures c.at-in-loop-position.ensures in
    sym (alike (sym c.compare.ensures ∙ c.in-Equal.is)) ∙ c.loop-position.invariant

pub sequence::Sequence::compare-returns-in_default-compare : goal.sequence::Sequence::compare-returns-in_default-compare
sequence::Sequence::compare-returns-in_default-compare t c =
    let apart = items_apart c.args.self.now c.args.other.now c.loop-position.position c.at.result.now c.at-in-loop-position.result.now c.at.ensures c.at-in-loop-position.ensures in
    c.compare.ensures ∙ sym (apart (λ e. c.in_default-compare.not-Equal (c.compare.ensures ∙ e))) ∙ c.loop-position.invariant

pub sequence::Sequence::compare-returns : goal.sequence::Sequence::compare-returns
sequence::Sequence::compare-returns t c =
    let at_end : c.loop-position.position ≡ min (length c.args.self.now) (length c.args.other.now) = omega arith in
    let shorter = ended (λ xs ys. items_cmp (items_of xs) (items_of ys)) refl (λ y ys. refl) (λ x xs. refl) c.args.self.now c.args.other.now c.loop-position.position at_end in
    cc

-- the chains in front decide, or those at the back do
pub sequence::Sequence::compare_alike-returns-in-Equal : goal.sequence::Sequence::compare_alike-returns-in-Equal
sequence::Sequence::compare_alike-returns-in-Equal t c =
    let mine : c.args.self.now ≡ c.in-Some-Some.front.value ++ items_in c.self.inside.back = search rules in
    let theirs : c.args.other.now ≡ c.in-Some-Some.chain.value ++ items_in c.other.inside.back = search rules in
    let long : length c.in-Some-Some.front.value ≡ length c.in-Some-Some.chain.value = search rules in
    let tied : items_cmp (items_of c.in-Some-Some.front.value) (items_of c.in-Some-Some.chain.value) ≡ Equal = search rules in
    let told : IfSome c.compare_chains-in-Equal.result (λ o. o ≡ items_cmp (items_of (items_in c.self.inside.back)) (items_of (items_in c.other.inside.back))) = search rules in
    rw (mine, theirs) (told_behind c.compare_chains-in-Equal.result c.in-Some-Some.front.value c.in-Some-Some.chain.value (items_in c.self.inside.back) (items_in c.other.inside.back) long tied told)

pub sequence::Sequence::compare_alike-returns-in_default-2 : goal.sequence::Sequence::compare_alike-returns-in_default-2
sequence::Sequence::compare_alike-returns-in_default-2 t c =
    let mine : c.args.self.now ≡ c.in-Some-Some.front.value ++ items_in c.self.inside.back = search rules in
    let theirs : c.args.other.now ≡ c.in-Some-Some.chain.value ++ items_in c.other.inside.back = search rules in
    let long : length c.in-Some-Some.front.value ≡ length c.in-Some-Some.chain.value = search rules in
    let told : c.in_ok-decided-in-Some-Some.decided ≡ items_cmp (items_of c.in-Some-Some.front.value) (items_of c.in-Some-Some.chain.value) = search rules in
    rw (mine, theirs) (told_first c.in_ok-decided-in-Some-Some.decided c.in-Some-Some.front.value c.in-Some-Some.chain.value (items_in c.self.inside.back) (items_in c.other.inside.back) long c.in_default-2.not-Equal told)

-- the left halves decide, or the right ones do
pub tree::Tree::compare_alike-returns-in-Equal : goal.tree::Tree::compare_alike-returns-in-Equal
tree::Tree::compare_alike-returns-in-Equal t c =
    let mine : c.args.self.now ≡ c.in-Pair-Pair.left.value ++ c.in-Pair-Pair.right.value = search rules in
    let theirs : c.args.other.now ≡ c.in-Pair-Pair.first.value ++ c.in-Pair-Pair.second.value = search rules in
    let long : length c.in-Pair-Pair.left.value ≡ length c.in-Pair-Pair.first.value = search rules in
    let tied : items_cmp (items_of c.in-Pair-Pair.left.value) (items_of c.in-Pair-Pair.first.value) ≡ Equal = search rules in
    let told : IfSome c.compare_alike-in-Equal.result (λ o. o ≡ items_cmp (items_of (c.in-Pair-Pair.right.value)) (items_of (c.in-Pair-Pair.second.value))) = search rules in
    rw (mine, theirs) (told_behind c.compare_alike-in-Equal.result c.in-Pair-Pair.left.value c.in-Pair-Pair.first.value (c.in-Pair-Pair.right.value) (c.in-Pair-Pair.second.value) long tied told)

pub tree::Tree::compare_alike-returns-in_default-2 : goal.tree::Tree::compare_alike-returns-in_default-2
tree::Tree::compare_alike-returns-in_default-2 t c =
    let mine : c.args.self.now ≡ c.in-Pair-Pair.left.value ++ c.in-Pair-Pair.right.value = search rules in
    let theirs : c.args.other.now ≡ c.in-Pair-Pair.first.value ++ c.in-Pair-Pair.second.value = search rules in
    let long : length c.in-Pair-Pair.left.value ≡ length c.in-Pair-Pair.first.value = search rules in
    let told : c.in_ok-decided-in-Pair-Pair.decided ≡ items_cmp (items_of c.in-Pair-Pair.left.value) (items_of c.in-Pair-Pair.first.value) = search rules in
    rw (mine, theirs) (told_first c.in_ok-decided-in-Pair-Pair.decided c.in-Pair-Pair.left.value c.in-Pair-Pair.first.value (c.in-Pair-Pair.right.value) (c.in-Pair-Pair.second.value) long c.in_default-2.not-Equal told)

pub finite_set::FiniteSet::compare-compare-requires : goal.finite_set::FiniteSet::compare-compare-requires
finite_set::FiniteSet::compare-compare-requires t c =
    let fall = item_falls c.args.self.now c.loop-position.position c.at.result.now c.at.ensures in
    grind (arith, fall)

pub finite_set::FiniteSet::compare-loop-position-preserved : goal.finite_set::FiniteSet::compare-loop-position-preserved
finite_set::FiniteSet::compare-loop-position-preserved t c =
    let alike = items_alike c.args.self.now c.args.other.now c.loop-position.position c.at.result.now c.at-in-loop-position.result.now c.at.ensures c.at-in-loop-position.ensures in
    sym (alike (sym c.compare.ensures ∙ c.in-Equal.is)) ∙ c.loop-position.invariant

pub finite_set::FiniteSet::compare-returns-in_default : goal.finite_set::FiniteSet::compare-returns-in_default
finite_set::FiniteSet::compare-returns-in_default t c =
    let apart = items_apart c.args.self.now c.args.other.now c.loop-position.position c.at.result.now c.at-in-loop-position.result.now c.at.ensures c.at-in-loop-position.ensures in
    c.compare.ensures ∙ sym (apart (λ e. c.in_default.not-Equal (c.compare.ensures ∙ e))) ∙ c.loop-position.invariant

pub finite_set::FiniteSet::compare-returns : goal.finite_set::FiniteSet::compare-returns
finite_set::FiniteSet::compare-returns t c =
    let at_end : c.loop-position.position ≡ min (length c.args.self.now) (length c.args.other.now) = omega arith in
    let shorter = ended (λ xs ys. items_cmp (items_of xs) (items_of ys)) refl (λ y ys. refl) (λ x xs. refl) c.args.self.now c.args.other.now c.loop-position.position at_end in
    cc

pub finite_map::FiniteMap::compare-compare-requires : goal.finite_map::FiniteMap::compare-compare-requires
finite_map::FiniteMap::compare-compare-requires t c =
    let fall = entry_falls c.args.self.now c.loop-position.position (c.at.result.0.now, c.at.result.1.now) c.at.ensures in
    grind (arith, fall)

pub finite_map::FiniteMap::compare-compare-requires-in-loop-position : goal.finite_map::FiniteMap::compare-compare-requires-in-loop-position
finite_map::FiniteMap::compare-compare-requires-in-loop-position t c =
    let fall = entry_falls c.args.self.now c.loop-position.position (c.at.result.0.now, c.at.result.1.now) c.at.ensures in
    grind (arith, fall)

pub finite_map::FiniteMap::compare-returns-in_default : goal.finite_map::FiniteMap::compare-returns-in_default
finite_map::FiniteMap::compare-returns-in_default t c =
    let apart = keys_apart c.args.self.now c.args.other.now c.loop-position.position (c.at.result.0.now, c.at.result.1.now) (c.at-in-loop-position.result.0.now, c.at-in-loop-position.result.1.now) c.at.ensures c.at-in-loop-position.ensures in
    c.compare.ensures ∙ sym (apart (λ e. c.in_default.not-Equal (c.compare.ensures ∙ e))) ∙ c.loop-position.invariant

pub finite_map::FiniteMap::compare-returns-in_default-compare : goal.finite_map::FiniteMap::compare-returns-in_default-compare
finite_map::FiniteMap::compare-returns-in_default-compare t c =
    let apart = values_apart c.args.self.now c.args.other.now c.loop-position.position (c.at.result.0.now, c.at.result.1.now) (c.at-in-loop-position.result.0.now, c.at-in-loop-position.result.1.now) c.at.ensures c.at-in-loop-position.ensures (sym c.compare.ensures ∙ c.in-Equal.is) in
    c.compare-in-loop-position.ensures ∙ sym (apart (λ e. c.in_default-compare.not-Equal (c.compare-in-loop-position.ensures ∙ e))) ∙ c.loop-position.invariant

pub finite_map::FiniteMap::compare-loop-position-preserved : goal.finite_map::FiniteMap::compare-loop-position-preserved
finite_map::FiniteMap::compare-loop-position-preserved t c =
    let alike = entries_alike c.args.self.now c.args.other.now c.loop-position.position (c.at.result.0.now, c.at.result.1.now) (c.at-in-loop-position.result.0.now, c.at-in-loop-position.result.1.now) c.at.ensures c.at-in-loop-position.ensures in
    sym (alike (sym c.compare.ensures ∙ c.in-Equal.is) (sym c.compare-in-loop-position.ensures ∙ c.in-Equal-compare.is)) ∙ c.loop-position.invariant

pub finite_map::FiniteMap::compare-returns : goal.finite_map::FiniteMap::compare-returns
finite_map::FiniteMap::compare-returns t c =
    let at_end : c.loop-position.position ≡ min (length c.args.self.now) (length c.args.other.now) = omega arith in
    let shorter = ended (λ xs ys. entries_cmp (entries_of xs) (entries_of ys)) refl (λ y ys. refl) (λ x xs. refl) c.args.self.now c.args.other.now c.loop-position.position at_end in
    cc
