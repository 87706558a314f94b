use Rattle.std.proofs.Common.{[]}
use Rattle.base_tests.proofs.files.number_is_refused.Given as goal

abbrev pub ghost-over_number : goal.ghost-over_number
ghost-over_number a = []
