-- The numbers that stand for codes, causes and kinds.
use Rattle.std.specs.Prelude.{ℕ}
use Rattle.request.specs.declared.message.Cause.{Cause}
use Rattle.request.specs.declared.message.Cause.TheVariants as cause
use Rattle.request.specs.declared.answer.Code.{Code}
use Rattle.request.specs.declared.answer.Code.TheVariants as code
use Rattle.request.specs.declared.answer.NodeKind.{NodeKind}
use Rattle.request.specs.declared.answer.NodeKind.TheVariants as kind
use Rattle.request.specs.declared.path.PathFault.{PathFault}
use Rattle.request.specs.declared.path.PathFault.TheVariants as path

abbrev pub code_number : Code → ℕ
code_number code.Done = 0
code_number code.NoParent = 1
code_number code.NotFound = 2
code_number code.Exists = 3
code_number code.IsDirectory = 4
code_number code.NotEmpty = 5
code_number code.IntoItself = 6
code_number code.Root = 7
code_number code.TooDeep = 8
code_number code.DirectoryFull = 9
code_number code.TooMany = 10

abbrev pub cause_number : Cause → ℕ
cause_number cause.TooLong = 51
cause_number cause.Kind = 52
cause_number cause.Short = 53
cause_number cause.Extra = 54
cause_number cause.Path = 55
cause_number cause.Moment = 56
cause_number cause.ClientZero = 57
cause_number cause.NumberZero = 58

abbrev pub kind_number : NodeKind → ℕ
kind_number kind.File = 0
kind_number kind.Directory = 1

abbrev pub path_fault_number : PathFault → ℕ
path_fault_number path.Path = 55
path_fault_number path.Memory = 65
