-- Why a text is no path, by its names' faults.
use Rattle.osta.specs.declared.fault.NameFault.{NameFault}
use Rattle.osta.specs.declared.fault.NameFault.TheVariants as name
use Rattle.request.specs.declared.path.PathFault.{PathFault}
use Rattle.request.specs.declared.path.PathFault.TheVariants as path

abbrev pub path_fault_of : NameFault → PathFault
path_fault_of name.Memory = path.Memory
path_fault_of name.Empty = path.Path
path_fault_of name.Dot = path.Path
path_fault_of name.Slash = path.Path
path_fault_of name.Nul = path.Path
path_fault_of name.Wide = path.Path
path_fault_of name.Long = path.Path
