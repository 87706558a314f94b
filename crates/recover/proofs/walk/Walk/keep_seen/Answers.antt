use Rattle.std.proofs.Common.{sym, ◌∙◌}
use Rattle.recover.proofs.walk.Walk.keep_seen.Goals as goal

pub returns-in-Some : goal.returns-in-Some
returns-in-Some c medium entries known named are = c.keep.ensures medium entries (record {
  name = named.name;
  there = named.there;
  kind = sym named.kind ∙ c.in-Some.ensures.kind;
  address = sym named.address ∙ c.in-Some.ensures.address;
  unique = sym named.unique ∙ c.in-Some.ensures.unique;
  seen = c.in-Some.ensures.seen medium known;
}) are
