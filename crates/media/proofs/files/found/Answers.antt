use Rattle.std.proofs.Common.{ℕ, List, ◌∙◌, ap, Option}
use Rattle.drive.specs.Journal.{Event, next_of, written}
use Rattle.drive.specs.Note.{fitted}
use Rattle.settling.specs.GatheringFile.{capacity_of, journal_of}
use Rattle.media.specs.Seen.{held_blocks, lookup}
use Rattle.media.proofs.Finding.{found_as_held, found_is_held, fresh_held, held_is_found}
use Rattle.media.proofs.files.found.Goals as goal

pub returns-clause-opened : goal.returns-clause-opened
returns-clause-opened c =
    found_is_held (lookup c.args.seen.now.images c.args.path.now) (journal_of c.hold.new.self) c.args.seen.now.misses c.after_open.result.misses c.after_open.ensures.1

pub returns-clause-agreed : goal.returns-clause-agreed
returns-clause-agreed c =
    held_is_found (lookup c.args.seen.now.images c.args.path.now) (journal_of c.hold.new.self) c.args.seen.now.misses c.after_open.result.misses c.after_open.ensures.1

pub returns-clause-alike : goal.returns-clause-alike
returns-clause-alike c =
    let count : ℕ = next_of (journal_of c.args.drive) in
    λ J is. found_as_held J (journal_of c.hold.new.self) count
    (c.hold.ensures.journal ∙ ap (λ (bs : List (List ℕ)). written 0 (fitted count bs)) (c.blocks-2.ensures ∙ ap (λ (o : Option (List Event)). held_blocks o) is))

pub returns-clause-fresh : goal.returns-clause-fresh
returns-clause-fresh c =
    fresh_held (capacity_of c.args.drive) (next_of (journal_of c.args.drive)) _ c.hold.new.self c.hold.ensures.journal c.hold.ensures.capacity c.requires.fits
    c.hold.ensures.writes (c.hold.ensures.failures ∙ c.requires.unfailed) c.hold.ensures.misreads c.hold.ensures.gathering
