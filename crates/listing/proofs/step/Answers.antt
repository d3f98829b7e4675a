-- `step` meets its contract, one return a line: the laws put the reader's answer and the lines together. Assumes nothing.
use mathlib.Core.Path.{ap}
use native.Mathlib.Omega.{arith}
use Rattle.words.specs.declared.outcome.Outcome.{Outcome}
use Rattle.listing.proofs.WalkLaws.{ends_here, unfinished, refusal, parts_held, goes_on, packet_listed}
use Rattle.listing.proofs.step.Goals as goal

pub returns-then-input-offset : goal.returns-then-input-offset
returns-then-input-offset c = let a = c.args in
    ends_here a.input.now a.offset a.at a.out.now c.if-input-offset.true c.end_line.ensures

pub packet_lines-end-requires : goal.packet_lines-end-requires
packet_lines-end-requires c = let a = c.args in
    let some = c.if-input-offset.false in
    let found = c.in-Ok-Some in
    let read = rw found.field-0-is at found.ensures in
    let on = goes_on a.input.now a.offset a.at a.out.now some a.parts.now _ c.requires.4 found.read.packet found.read.consumed read in
    (omega (arith, on.1, on.2, c.requires), parts_held a.input.now a.offset a.at a.out.now some a.parts.now _ c.requires.4 found.read.packet found.read.consumed read)

pub overflow_add-result : goal.overflow_add-result
overflow_add-result c = let a = c.args in
    let some = c.if-input-offset.false in
    let found = c.in-Ok-Some in
    let read = rw found.field-0-is at found.ensures in
    omega (arith, (goes_on a.input.now a.offset a.at a.out.now some a.parts.now _ c.requires.4 found.read.packet found.read.consumed read).1)

pub returns-in-Ok-None : goal.returns-in-Ok-None
returns-in-Ok-None c = let a = c.args in
    let some = c.if-input-offset.false in
    let read = rw c.in-Ok-None.field-0-is at c.in-Ok-None.ensures in
    unfinished a.input.now a.offset a.at a.out.now some a.parts.now _ c.requires.4 read c.more_line.ensures

pub returns-in-Err : goal.returns-in-Err
returns-in-Err c = let a = c.args in
    let some = c.if-input-offset.false in
    let found = c.in-Err in
    let read = found.ensures in
    refusal a.input.now a.offset a.at a.out.now some a.parts.now _ c.requires.4 found.refusal.error read (ap (λ (o : Outcome). o.number) c.refused-outcome.ensures) c.refused_line.ensures

pub returns-in-Ok-Some : goal.returns-in-Ok-Some
returns-in-Ok-Some c = let a = c.args in
    let some = c.if-input-offset.false in
    let found = c.in-Ok-Some in
    let read = rw found.field-0-is at found.ensures in
    let lines = c.packet_lines-end.ensures in
    packet_listed a.input.now a.offset a.at a.out.now some a.parts.now _ c.requires.4 found.read.packet found.read.consumed read c.requires.2 lines.0 lines.1
