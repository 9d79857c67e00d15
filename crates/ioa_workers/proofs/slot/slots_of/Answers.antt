use Rattle.std.proofs.Common.{◌≡◌, ◌∷◌, [], ◌++◌, length, arith, rules}
use Rattle.std.proofs.lemmas.List.{length-append}
use Rattle.ioa_workers.proofs.Unbegun.{unbegun_next}
use Rattle.ioa_workers.proofs.slot.slots_of.Goals as goal

pub loop-share-preserved : goal.loop-share-preserved
loop-share-preserved g c =
    let slots = c.loop-share.slots.items in
    let slot = c.in_ok-slot.slot in
    let worker : c.len-worker.result ≡ length slots = search rules in
    let workers : c.len-workers.result ≡ length c.args.shares.items = search rules in
    let fresh = rw (worker, workers) at c.in_ok-slot.ensures in
    let put : c.push.new.self.items ≡ slots ++ slot ∷ [] = c.in_ok-push.ensures.items in
    let gone = length-append c.loop-share.yielded (c.in-Some.share ∷ []) in
    let more = length-append slots (slot ∷ []) in
    rw put (omega (arith, more, gone, c.loop-share.invariant.0), unbegun_next _ _ _ c.loop-share.invariant.1 _ fresh)
