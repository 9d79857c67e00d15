use Rattle.std.proofs.Common.{◌≡◌, ◌≤◌, false, length, take, vec_capacity, vec_len}
use Rattle.std.specs.List.{list_any}
use Rattle.ioa_core.specs.Cores.{core_after, replies}
use Rattle.ioa_core.specs.Replies.{is_memory}
use Rattle.ioa_core.proofs.machine.interleave.Given as goal

-- the events so far are answered, the core stands after them, there is room for the other replies, and none of those
-- that were given is for want of memory
abbrev pub invariant-loop-event : goal.invariant-loop-event
invariant-loop-event g l = record {
  told : l.replies.items ≡ replies l.initial.core (take l.event-index l.events);
  stands : l.core ≡ core_after l.initial.core (take l.event-index l.events);
  many : vec_len l.replies ≡ l.event-index;
  room : length l.events ≤ vec_capacity l.replies;
  calm : list_any is_memory l.replies.items ≡ false;
}
