-- What an item to be written says.
use Rattle.dir.specs.declared.item.Item.{Item}
use Rattle.dir.specs.Identifier.{Identifier}

abbrev pub said : Item → Identifier
said item = record { name = item.name.now; characteristics = item.characteristics.0; icb = item.icb; unique = item.unique }
