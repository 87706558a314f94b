use Rattle.std.proofs.Common.{◌≡◌, length, map, take}
use Rattle.lookup.specs.Asked.{said_names}
use Rattle.lookup.specs.Queries.{name_told}
use Rattle.lookup.proofs.queries.listing_of.Given as goal

-- the names so far are listed
abbrev pub invariant-loop-index : goal.invariant-loop-index
invariant-loop-index l = record {
  count : length l.listing ≡ l.index;
  names : said_names l.listing ≡ map name_told (take l.index l.content.dir.entries.entries);
}
