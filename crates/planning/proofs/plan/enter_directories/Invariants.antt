use Rattle.std.proofs.Common.{◌≡◌, ◌+◌, ◌≤◌, ◌++◌, length}
use Rattle.std.specs.Prelude.{All}
use Rattle.std.specs.Vec.Iter.{into_iter_items, into_iter_len}
use Rattle.limits.specs.declared.TheConstants.{PARTITION_START}
use Rattle.durability.specs.Volume.{Medium}
use Rattle.durability.specs.Plan.{WritesNodes}
use Rattle.udf.specs.Udf.{udf}
use Rattle.vat.specs.Table.{FitsTable, view}
use Rattle.recover.specs.Below.{AreBelow, IsUsed}
use Rattle.table_update.specs.TableChange.{OnlyNodesChange}
use Rattle.planning.specs.Plan.{AreLaid, directories_list, directories_writings, directories_written}
use Rattle.planning.specs.Needs.{directories_need}
use Rattle.table_update.specs.NextTable.{all_placed}
use Rattle.planning.specs.Writings.{IsProper, new_directories}
use Rattle.planning.proofs.plan.enter_directories.Given as goal

-- the directories so far were placed
abbrev pub invariant-loop-directory : goal.invariant-loop-directory
invariant-loop-directory l = record {
  left : All (λ d. IsProper d.content.dir) (into_iter_items l.directory-iterator);
  used : All (λ d. IsUsed d.address l.fn.vat.entries.items) l.fn.directories.items → All (λ d. IsUsed d.address l.vat.entries.items) (into_iter_items l.directory-iterator);
  count : into_iter_len l.directory-iterator ≡ length (into_iter_items l.directory-iterator);
  writings : new_directories l.fn.directories.items ≡ directories_writings l.all.items ++ new_directories (into_iter_items l.directory-iterator);
  table : view l.vat ≡ all_placed (directories_written l.all.items) (view l.fn.vat);
  fits : FitsTable (view l.vat);
  below : AreBelow (l.fn.numbers.next + PARTITION_START) l.fn.vat.entries.items → AreBelow (l.numbers.next + PARTITION_START) l.vat.entries.items;
  stays : OnlyNodesChange l.fn.vat l.vat;
  written : (medium : Medium) → WritesNodes udf medium (directories_writings l.all.items) l.fn.numbers.next (directories_list l.all.items) (directories_written l.all.items);
  laid : AreLaid l.fn.numbers.next l.all.items;
  room : l.numbers.next + directories_need (into_iter_items l.directory-iterator) ≤ l.fn.numbers.next + directories_need l.fn.directories.items;
  next : l.numbers.next ≡ l.fn.numbers.next + length (directories_list l.all.items);
  end : l.numbers.end ≡ l.fn.numbers.end;
}
