-- The words of `udfburnd`, as clap reads them.
use Rattle.std.specs.Prelude.{◌≡◌, ℕ, ◌≤◌, ⊤, List, [], Option, Some, None, codes, true}
use Rattle.clap.specs.Words.{App, Rule, fault_of, first_of, matches_of, new_app, new_rule, with_rule}
use Rattle.clap.specs.declared.builder.action.ArgAction.TheVariants.{Set}
use Rattle.clap.specs.declared.error.kind.ErrorKind.{ErrorKind}
use Rattle.clap.specs.declared.error.kind.ErrorKind.TheVariants.{OutOfMemory}
use Rattle.command_line.specs.declared.daemon.DaemonWords.{DaemonWords}
use Rattle.command_line.specs.declared.daemon.WordsFault.{WordsFault}
use Rattle.command_line.specs.declared.daemon.WordsFault.TheVariants.{Usage, Memory}
use Rattle.command_line.specs.Number.{IsNumeralOf}

-- a word that has to be there, by its place
abbrev pub wanted : List ℕ → Rule
wanted id = record (new_rule id) { required = true; action = Some Set }

-- an option with a word after it
abbrev pub option_of : List ℕ → Rule
option_of id = record (new_rule id) { long = Some id; action = Some Set }

-- a command that has neither help nor a version
abbrev pub without_help : App → App
without_help a = record a { top = record a.top { disable_help_flag = true; disable_version_flag = true } }

-- `IMAGE SOCKET [--connections N]`
abbrev pub daemon_app : App
daemon_app = with_rule (with_rule (with_rule (without_help (new_app (codes "udfburnd"))) (wanted (codes "IMAGE"))) (wanted (codes "SOCKET"))) (option_of (codes "connections"))

-- a number of connections, if a word is there
abbrev pub IsCount : Option (List ℕ) → Option ℕ → Type 0
IsCount None None = ⊤
IsCount None (Some number) = ⊥
IsCount (Some word) None = ⊥
IsCount (Some word) (Some number) = IsNumeralOf word number × (number ≤ 1000000)

-- the words, of which the first is the program's name
pub record AsksDaemon (words : List (List ℕ)) (asked : DaemonWords) : Type 0 where
  pub taken : fault_of daemon_app words ≡ []
  pub image : first_of (codes "IMAGE") (matches_of daemon_app words) ≡ Some asked.image.now
  pub socket : first_of (codes "SOCKET") (matches_of daemon_app words) ≡ Some asked.socket.now
  pub connections : IsCount (first_of (codes "connections") (matches_of daemon_app words)) asked.connections

-- lack of memory is reported as such
abbrev pub fault_for : ErrorKind → WordsFault
fault_for OutOfMemory = Memory
fault_for _ = Usage
