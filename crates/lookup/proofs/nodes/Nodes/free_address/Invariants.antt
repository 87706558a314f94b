use Rattle.std.proofs.Common.{length, drop, ◌≡◌, ◌+◌, ◌-◌, ◌≤◌}
use Rattle.limits.specs.declared.TheConstants.{ADDRESSES}
use Rattle.model.specs.Addresses.{free_address, used_first}
use Rattle.lookup.proofs.nodes.Nodes.free_address.Given as goal

-- the addresses from 2 up to here are used
abbrev pub invariant-runs : goal.invariant-runs
invariant-runs l = record {
  low : 2 ≤ l.address;
  high : l.address ≤ ADDRESSES;
  used : free_address l.self.numbers.now ≡ l.address + used_first (drop l.address l.self.numbers.now);
}

abbrev pub decreases-runs : goal.decreases-runs
decreases-runs l = length l.self.numbers.now - l.address

abbrev pub invariant-each : goal.invariant-each
invariant-each l = record {
  low : 2 ≤ l.address;
  high : l.address ≤ ADDRESSES;
  used : free_address l.self.numbers.now ≡ l.address + used_first (drop l.address l.self.numbers.now);
}

abbrev pub decreases-each : goal.decreases-each
decreases-each l = length l.self.numbers.now - l.address
