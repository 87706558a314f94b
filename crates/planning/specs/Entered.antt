-- What is entered in the table of a commit, and what of the table stays.
use Rattle.std.specs.Prelude.{◌≡◌, ℕ, ◌+◌, ◌-◌, ◌<◌, ◌≤◌, false, List, length, Option, Some, IfSome, Result}
use Rattle.limits.specs.declared.TheConstants.{FIRST_UNIQUE, PARTITION_START}
use Rattle.durability.specs.Volume.{Medium}
use Rattle.durability.specs.Plan.{Written}
use Rattle.recover.specs.Faults.{devices}
use Rattle.recover.specs.declared.fault.StoreFault.{StoreFault}
use Rattle.request.specs.Numbers.{code_number}
use Rattle.request.specs.declared.message.Request.{Request}
use Rattle.recover.specs.Below.{AreBelow}
use Rattle.table_update.specs.Full.{is_full}
use Rattle.table_update.specs.NextTable.{all_placed, begun, next_table, without_gone}
use Rattle.table_update.specs.TableChange.{OnlyNodesChange}
use Rattle.recover.specs.declared.node.Node.{Node}
use Rattle.vat.specs.Table.{FitsTable, view}
use Rattle.vat.specs.declared.table.Vat.{Vat}
use Rattle.planning.specs.Plan.{AreLaid, directories_writings, plan_writings, plan_written}
use Rattle.planning.specs.Writings.{AreKeptOn, change_writings, new_directories}
use Rattle.planning.specs.declared.change.Change.{Change}
use Rattle.planning.specs.declared.change.NewDirectory.{NewDirectory}
use Rattle.planning.specs.declared.layout.PlacedDirectory.{PlacedDirectory}
use Rattle.planning.specs.declared.places.Numbers.{Numbers}
use Rattle.planning.specs.declared.plan.LastTable.{LastTable}
use Rattle.planning.specs.declared.plan.Plan.{Plan}

-- a refusal, if it is one, for which the drive is no reason: it has room, and did not fail
pub record IsApartFromDrive {T : Type 0} (result : Result T StoreFault) : Type 0 where
  pub full : is_full result ≡ false
  pub device : devices result ≡ 0

-- a table of the next commit, none of whose nodes is placed
pub record IsBegunAfter (last : LastTable) (vat : Vat) : Type 0 where
  pub fits : FitsTable (view vat)
  pub below : AreBelow last.vat_icb_address vat.entries.items
  pub previous : vat.previous ≡ Some (last.vat_icb_address - PARTITION_START)
  pub commits : vat.sessions.commits ≡ last.vat.now.sessions.commits + 1
  pub unique : vat.sessions.next_unique ≤ FIRST_UNIQUE + vat.sessions.commits

-- The table of the next commit, as it begins: with the request's reply and the node that is made.
pub record BeginsNext (last : LastTable) (request : Request) (change : Change) (vat : Vat) : Type 0 where
  pub table : view vat ≡ begun last.vat_icb_address request.client request.number (code_number change.code) change.made (view last.vat.now)
  pub begun_is : IsBegunAfter last vat

-- Nodes are entered in the table at the numbers that are given out for their blocks, which are no more than were reckoned.
pub record Enters (old new : Vat) (from to : Numbers) (blocks : List (List ℕ)) (entered : List Written) (reckoned : ℕ) : Type 0 where
  pub table : view new ≡ all_placed entered (view old)
  pub fits : FitsTable (view new)
  pub next : to.next ≡ from.next + length blocks
  pub most : to.next ≤ from.next + reckoned
  pub below : AreBelow (from.next + PARTITION_START) old.entries.items → AreBelow (to.next + PARTITION_START) new.entries.items
  pub stays : OnlyNodesChange old new

-- the directories as they are laid, one after the other from a number on
pub record ArePlacedFrom (from : ℕ) (directories : List NewDirectory) (placed : List PlacedDirectory) : Type 0 where
  pub writings : directories_writings placed ≡ new_directories directories
  pub laid : AreLaid from placed

-- the node that goes, if one does, is in the table no longer
pub record TakesAway (removed : Option Node) (old new : Vat) : Type 0 where
  pub table : view new ≡ without_gone removed (view old)
  pub fits : FitsTable (view new)
  pub below : (at : ℕ) → AreBelow at old.entries.items → AreBelow at new.entries.items
  pub stays : OnlyNodesChange old new

-- all that the table leads to is before a number
pub record LeadsBefore (next : ℕ) (vat : Vat) : Type 0 where
  pub below : AreBelow (next + PARTITION_START) vat.entries.items
  pub previous : IfSome vat.previous (λ previous. previous < next)

-- The plan is that of a change, in a table that begins so: its reply, what it writes, and that table with it.
pub record IsPlanOf (change : Change) (moment : ℕ) (vat : Vat) (plan : Plan) : Type 0 where
  pub code : plan.reply.code ≡ change.code
  pub commit : plan.reply.commit ≡ vat.sessions.commits
  pub moment_is : plan.moment ≡ moment
  pub writings : (medium : Medium) → plan_writings medium plan ≡ change_writings medium moment change
  pub kept : (medium : Medium) → IfSome change.file (AreKeptOn medium) → IfSome plan.file (λ f. AreKeptOn medium f.file)
  pub table : view plan.table.vat ≡ without_gone change.removed (all_placed (plan_written plan) (view vat))

-- The plan is that of a change which a request makes after the last table: its reply, what it writes, and the next table.
pub record IsPlanAfter (last : LastTable) (request : Request) (change : Change) (moment : ℕ) (plan : Plan) : Type 0 where
  pub code : plan.reply.code ≡ change.code
  pub commit : plan.reply.commit ≡ last.vat.now.sessions.commits + 1
  pub moment_is : plan.moment ≡ moment
  pub writings : (medium : Medium) → plan_writings medium plan ≡ change_writings medium moment change
  pub kept : (medium : Medium) → IfSome change.file (AreKeptOn medium) → IfSome plan.file (λ f. AreKeptOn medium f.file)
  pub table : view plan.table.vat ≡ next_table last.vat_icb_address request.client request.number (code_number change.code) change.made (plan_written plan) change.removed (view last.vat.now)

-- but for the writer, through which it is written, it is the same plan
pub record IsSamePlan (old new : Plan) : Type 0 where
  pub directories : new.directories.items ≡ old.directories.items
  pub table : new.table ≡ old.table
  pub reply : new.reply ≡ old.reply
  pub file : new.file ≡ old.file
  pub moment : new.moment ≡ old.moment
