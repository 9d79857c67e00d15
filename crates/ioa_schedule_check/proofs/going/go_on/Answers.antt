use Rattle.ioa_schedule_check.proofs.Refused.{refuses_bad, refuses_here, refuses_later, refuses_none}
use Rattle.ioa_schedule_check.proofs.Steps.{takes_bad, takes_fault, takes_none, takes_step}
use Rattle.ioa_schedule_check.proofs.going.go_on.Goals as goal

pub returns-in-Ok-None-clause-next : goal.returns-in-Ok-None-clause-next
returns-in-Ok-None-clause-next c =
    let read = rw c.in-Ok-None.field-0-is at c.in-Ok-None.ensures.entries in
    let next = rw c.in-Ok-None.field-0-is at c.in-Ok-None.ensures.answer in
    takes_none c.args.system.now c.args.lines.now c.next.new.self c.args.course.now c.args.course.now read next

pub returns-in-Err-clause-next : goal.returns-in-Err-clause-next
returns-in-Err-clause-next c =
    takes_bad c.args.system.now c.args.lines.now c.next.new.self c.args.course.now c.args.course.now c.in-Err.fault
    c.from.result c.in-Err.ensures.answer c.in-Err.ensures.entries c.from.ensures

pub returns-in-Ok-clause-next : goal.returns-in-Ok-clause-next
returns-in-Ok-clause-next c =
    let read = rw c.in-Ok-Some.field-0-is at c.in-Ok-Some.ensures.entries in
    let next = rw c.in-Ok-Some.field-0-is at c.in-Ok-Some.ensures.answer in
    takes_step c.args.system.now c.args.lines.now c.next.new.self c.in-Ok-Some.entry c.args.course.now
    c.advance.new.self read next c.in-Ok.ensures.answer

pub returns-in-Err-advance-clause-next : goal.returns-in-Err-advance-clause-next
returns-in-Err-advance-clause-next c =
    let read = rw c.in-Ok-Some.field-0-is at c.in-Ok-Some.ensures.entries in
    let next = rw c.in-Ok-Some.field-0-is at c.in-Ok-Some.ensures.answer in
    let told = rw c.count-place.ensures at c.refusal-fault.ensures.told in
    takes_fault c.args.system.now c.args.lines.now c.next.new.self c.in-Ok-Some.entry c.args.course.now
    c.advance.new.self c.in-Err-advance.fault c.refusal-fault.result c.next.new.self read next c.in-Err-advance.ensures.answer
    c.refusal-fault.ensures.memory told

pub returns-in-Ok-None-clause-refused : goal.returns-in-Ok-None-clause-refused
returns-in-Ok-None-clause-refused c =
    let read = rw c.in-Ok-None.field-0-is at c.in-Ok-None.ensures.entries in
    refuses_none c.args.system.now c.args.lines.now c.next.new.self c.args.course.now c.args.course.now
    c.args.refused.now.entry read

pub returns-in-Err-clause-refused : goal.returns-in-Err-clause-refused
returns-in-Err-clause-refused c =
    refuses_bad c.args.system.now c.args.lines.now c.next.new.self c.args.course.now c.args.course.now c.in-Err.fault
    c.from.result c.in-Err.ensures.entries c.from.ensures

pub returns-in-Ok-clause-refused : goal.returns-in-Ok-clause-refused
returns-in-Ok-clause-refused c =
    let read = rw c.in-Ok-Some.field-0-is at c.in-Ok-Some.ensures.entries in
    let next = rw c.in-Ok-Some.field-0-is at c.in-Ok-Some.ensures.answer in
    refuses_later c.args.system.now c.args.lines.now c.next.new.self c.in-Ok-Some.entry c.args.course.now
    c.advance.new.self c.args.refused.now.entry read next c.in-Ok.ensures.answer

pub returns-in-Err-advance-clause-refused : goal.returns-in-Err-advance-clause-refused
returns-in-Err-advance-clause-refused c =
    let read = rw c.in-Ok-Some.field-0-is at c.in-Ok-Some.ensures.entries in
    let told = rw c.count-place.ensures at c.refusal-fault.ensures.told in
    refuses_here c.args.system.now c.args.lines.now c.next.new.self c.in-Ok-Some.entry c.args.course.now
    c.advance.new.self c.in-Err-advance.fault c.refusal-fault.result c.next.new.self c.culprit_of.result.entry read
    c.in-Err-advance.ensures.answer c.refusal-fault.ensures.memory told c.culprit_of.ensures
