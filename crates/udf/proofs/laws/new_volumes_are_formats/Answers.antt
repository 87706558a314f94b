use Rattle.udf.proofs.NewVolume.{new_volumes_are_formats}
use Rattle.udf.proofs.laws.new_volumes_are_formats.Goals as goal

pub returns : goal.returns
returns c = new_volumes_are_formats
