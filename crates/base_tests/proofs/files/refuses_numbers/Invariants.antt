use Rattle.std.proofs.Common.{[]}
use Rattle.base_tests.proofs.files.refuses_numbers.Given as goal

abbrev pub ghost-over_number : goal.ghost-over_number
ghost-over_number a = []
