use Rattle.std.proofs.Common.{◌≡◌, ◌++◌, IsTrue, List, ◌∙◌, subst, ap, inr}
use Rattle.drive.specs.Journal.{written, AddsPrefix}
use Rattle.durability.specs.Formats.{Block}
use Rattle.formatting.specs.NewVolume.{words_of}
use Rattle.formatting.proofs.FormatJournals.{cut_is, formatted_is, withstands_is}
use Rattle.formatting.proofs.formatting.complete.Goals as goal

pub returns-in-Ok-write_last_alone-clause-ok : goal.returns-in-Ok-write_last_alone-clause-ok
returns-in-Ok-write_last_alone-clause-ok g c =
    let parts = c.args.parts.now in
    let capacity = g.D.Drive.capacity c.args.drive.now in
    let before = g.D.Drive.journal c.args.drive.now in
    let between = g.D.Drive.journal c.begun.new.drive in
    let afterwards = g.D.Drive.journal c.write_last_alone.new.drive in
    let now = g.D.Drive.honest c.write_last_alone.new.drive in
    let next = rw c.in-Ok-Some.field-0-is at c.in-Ok-Some.ensures.next in
    let seen = rw c.in-Ok-Some.field-0-is at c.in-Ok-Some.ensures.seen in
    let room = c.requires.room in
    let written : afterwards ≡ between ++ written c.in-Ok-Some.count c.in-Ok.blocks.items = c.in-Ok-write_last_alone.ensures.ok ∙ ap (λ (bs : List Block). between ++ written c.in-Ok-Some.count bs) c.deref.ensures.value in
    formatted_is capacity (words_of parts) parts.low parts.high room before between afterwards (g.D.Drive.honest c.begun.new.drive) now c.in-Ok-Some.count c.in-Ok.blocks.items
    c.in-Ok-Some.ensures.reads.journal next.0 next.1 seen c.in-Ok.ensures (subst IsTrue c.in-Ok-write_last_alone.ensures.writes.honest) written

pub returns-clause-err : goal.returns-clause-err
returns-clause-err g c =
    let parts = c.args.parts.now in
    let capacity = g.D.Drive.capacity c.args.drive.now in
    let before = g.D.Drive.journal c.args.drive.now in
    let between = g.D.Drive.journal c.begun.new.drive in
    let afterwards = g.D.Drive.journal c.write_last_alone.new.drive in
    let now = g.D.Drive.honest c.write_last_alone.new.drive in
    let next = rw c.in-Ok-Some.field-0-is at c.in-Ok-Some.ensures.next in
    let seen = rw c.in-Ok-Some.field-0-is at c.in-Ok-Some.ensures.seen in
    let room = c.requires.room in
    let adds : AddsPrefix between c.in-Ok-Some.count c.in-Ok.blocks.items afterwards = subst (λ (bs : List Block). AddsPrefix between c.in-Ok-Some.count bs afterwards) c.deref.ensures.value c.in-Err-write_last_alone.ensures.err in
    inr (cut_is capacity (words_of parts) parts.low parts.high room before between afterwards (g.D.Drive.honest c.begun.new.drive) now c.in-Ok-Some.count c.in-Ok.blocks.items
    c.in-Ok-Some.ensures.reads.journal next.0 next.1 seen c.in-Ok.ensures (subst IsTrue c.in-Err-write_last_alone.ensures.writes.honest) adds)

pub returns-in-Ok-write_last_alone-clause-withstands : goal.returns-in-Ok-write_last_alone-clause-withstands
returns-in-Ok-write_last_alone-clause-withstands g c =
    let parts = c.args.parts.now in
    let capacity = g.D.Drive.capacity c.args.drive.now in
    let before = g.D.Drive.journal c.args.drive.now in
    let between = g.D.Drive.journal c.begun.new.drive in
    let now = g.D.Drive.honest c.write_last_alone.new.drive in
    let next = rw c.in-Ok-Some.field-0-is at c.in-Ok-Some.ensures.next in
    let seen = rw c.in-Ok-Some.field-0-is at c.in-Ok-Some.ensures.seen in
    let room = c.requires.room in
    withstands_is capacity (words_of parts) parts.low parts.high room before between (g.D.Drive.journal c.write_last_alone.new.drive) (g.D.Drive.honest c.begun.new.drive) now c.in-Ok-Some.count c.in-Ok.blocks.items
    c.in-Ok-Some.ensures.reads.journal next.0 next.1 seen c.in-Ok.ensures (subst IsTrue c.in-Ok-write_last_alone.ensures.writes.honest) (g.D.Drive.writes c.args.drive.now) c.in-Ok-Some.ensures.reads.journal c.in-Ok-Some.ensures.reads.writes
    (λ none. c.in-Ok-write_last_alone.ensures.none (c.deref.ensures.value ∙ none))
    (λ front last ends. c.in-Ok-write_last_alone.ensures.alone front last (c.deref.ensures.value ∙ ends))

pub returns-clause-withstands : goal.returns-clause-withstands
returns-clause-withstands g c =
    let parts = c.args.parts.now in
    let capacity = g.D.Drive.capacity c.args.drive.now in
    let before = g.D.Drive.journal c.args.drive.now in
    let between = g.D.Drive.journal c.begun.new.drive in
    let now = g.D.Drive.honest c.write_last_alone.new.drive in
    let next = rw c.in-Ok-Some.field-0-is at c.in-Ok-Some.ensures.next in
    let seen = rw c.in-Ok-Some.field-0-is at c.in-Ok-Some.ensures.seen in
    let room = c.requires.room in
    withstands_is capacity (words_of parts) parts.low parts.high room before between (g.D.Drive.journal c.write_last_alone.new.drive) (g.D.Drive.honest c.begun.new.drive) now c.in-Ok-Some.count c.in-Ok.blocks.items
    c.in-Ok-Some.ensures.reads.journal next.0 next.1 seen c.in-Ok.ensures (subst IsTrue c.in-Err-write_last_alone.ensures.writes.honest) (g.D.Drive.writes c.args.drive.now) c.in-Ok-Some.ensures.reads.journal c.in-Ok-Some.ensures.reads.writes
    (λ none. c.in-Err-write_last_alone.ensures.none (c.deref.ensures.value ∙ none))
    (λ front last ends. c.in-Err-write_last_alone.ensures.alone front last (c.deref.ensures.value ∙ ends))
