use Rattle.std.proofs.Common.{rules, ◌≡◌, ◌∙◌, ℕ, List, Option, Some, codes, map, subst, sym}
use Rattle.clap.specs.Words.{first_value, found_of}
use Rattle.command_line.specs.Daemon.{AsksDaemon, IsCount}
use Rattle.command_line.specs.declared.daemon.DaemonWords.{DaemonWords}
use Rattle.command_line.specs.declared.daemon.WordsFault.TheVariants.{Usage}
use Rattle.command_line.proofs.Daemons.{if_err_all, not_absent, rows_are, taken_is, value_is}
use Rattle.command_line.proofs.daemon.read_daemon.Goals as goal
use Rattle.command_line.proofs.daemon.read_daemon.Goals.{in_default-via-in-Some+in_default, in_default-via-in_default}

pub returns-in_err-connections-in-Some-Some-clause-usage : goal.returns-in_err-connections-in-Some-Some-clause-usage
returns-in_err-connections-in-Some-Some-clause-usage c =
    let words = map (λ w. w.now) c.args.words.now in
    let found = found_of c.in_ok-matches.matches in
    let rows = rows_are _ words c.in_ok-matches.matches c.in_ok-daemon_command.ensures c.in_ok-matches.ensures.matches in
    if_err_all _ (λ fault. fault ≡ Usage → (asked : DaemonWords) → AsksDaemon words asked → ⊥) (λ fault is asked a.
    c.in_err-connections-in-Some-Some.ensures.usage asked.connections (subst (λ (word : Option (List ℕ)). IsCount word asked.connections) (sym (value_is words found (codes "connections") rows)) a.connections))

pub returns-in-Some-Some-clause-read : goal.returns-in-Some-Some-clause-read
returns-in-Some-Some-clause-read c =
    let words = map (λ w. w.now) c.args.words.now in
    let found = found_of c.in_ok-matches.matches in
    let rows = rows_are _ words c.in_ok-matches.matches c.in_ok-daemon_command.ensures c.in_ok-matches.ensures.matches in
    let image : first_value found (codes "IMAGE") ≡ Some c.in-Some-Some.image.now = search rules in
    let socket : first_value found (codes "SOCKET") ≡ Some c.in-Some-Some.socket.now = search rules in
    record {
      taken = taken_is _ words c.in_ok-daemon_command.ensures c.in_ok-matches.ensures.kinds;
      image = sym (value_is words found (codes "IMAGE") rows) ∙ image;
      socket = sym (value_is words found (codes "SOCKET") rows) ∙ socket;
      connections = subst (λ (word : Option (List ℕ)). IsCount word c.in_ok-connections-in-Some-Some.field-0) (value_is words found (codes "connections") rows) c.in_ok-connections-in-Some-Some.ensures.read;
    }

pub returns-clause-usage : goal.returns-clause-usage
returns-clause-usage c is asked a =
    let words = map (λ w. w.now) c.args.words.now in
    let found = found_of c.in_ok-matches.matches in
    let rows = rows_are _ words c.in_ok-matches.matches c.in_ok-daemon_command.ensures c.in_ok-matches.ensures.matches in
    let image : first_value found (codes "IMAGE") ≡ Some asked.image.now = value_is words found (codes "IMAGE") rows ∙ a.image in
    let socket : first_value found (codes "SOCKET") ≡ Some asked.socket.now = value_is words found (codes "SOCKET") rows ∙ a.socket in
    elim c.in_default.branch [
      | in_default-via-in-Some+in_default w ↦ not_absent _ _ w.in_default.ensures' socket
      | in_default-via-in_default w ↦ not_absent _ _ w.in_default.ensures image
    ]
