-- What a table's sessions keep.
use Rattle.std.proofs.Common.{◌≡◌, ℕ, ◌-◌, ◌<◌, List, [], ◌∷◌, length, get_or, sym, subst}
use Rattle.std.specs.Prelude.{All}
use Rattle.std.proofs.lemmas.List.Elements.{All-nil, All-cons, All-get_or}
use Rattle.vat.specs.declared.record.Record.{Record}
use Rattle.vat.specs.declared.record.Reply.{Reply}
use Rattle.vat.specs.declared.table.Version.{Version}
use Rattle.vat.specs.Reply.{AreReplies}
use Rattle.vat.specs.Record.{IsKept}
use Rattle.store.specs.Sessions.{is_code}

-- the replies that a table may keep have codes
pub codes_kept : (limit : ℕ) (replies : List Reply) → AreReplies limit replies → All is_code replies
codes_kept limit [] h = All-nil is_code
codes_kept limit (reply ∷ older) h = All-cons is_code reply older h.0 (codes_kept (reply.commit - 1) older h.3)

-- those of the record at an index
pub codes_of : (version : Version) (commits : ℕ) (records : List Record) (i : ℕ) (kept : Record) → i < length records → kept ≡ get_or records i kept → All (IsKept version commits) records → All is_code kept.replies
codes_of version commits records i kept there is all =
    let one : IsKept version commits kept = subst (IsKept version commits) (sym is) (All-get_or (IsKept version commits) records i kept there all) in
    codes_kept commits kept.replies one.replies
