use Rattle.model.proofs.Addresses.{used_are_nodes, free_is_free, new_entries, gone_entries}
use Rattle.model.proofs.Entries.{entries_follow}
use Rattle.model.proofs.addresses_fill.Goals as goal

pub returns-clause-used : goal.returns-clause-used
returns-clause-used c graph tree table is makes holds = used_are_nodes graph tree table is makes holds

pub returns-clause-free : goal.returns-clause-free
returns-clause-free c graph table holds long = free_is_free graph table holds long

pub returns-clause-new : goal.returns-clause-new
returns-clause-new c table nodes start two set root many = new_entries table nodes start two set root many

pub returns-clause-gone : goal.returns-clause-gone
returns-clause-gone c table address used = gone_entries table address used

pub returns-clause-follow : goal.returns-clause-follow
returns-clause-follow c op moment identity tree before after table table' is e makes holds change used = entries_follow op moment identity tree before after table table' is e makes holds change used
