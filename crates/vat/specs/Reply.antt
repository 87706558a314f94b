-- Replies, the newest first, and their bytes.
use Rattle.std.specs.Prelude.{ℕ, ◌-◌, ◌<◌, ◌≤◌, ◌==◌, if◌then◌else◌, ⊤, List, [], ◌∷◌, ◌++◌, length, replicate}
use Rattle.std.specs.Int.{w16, w32, to_le_bytes}
use Rattle.std.specs.List.{concat}
use Rattle.vat.specs.declared.record.Reply.{Reply}

-- in the place of a reply that is not kept: its bytes are zeros
abbrev pub nothing : Reply
nothing = record { code = 0; commit = 0 }

-- the replies in so many places
abbrev pub filled : ℕ → List Reply → List Reply
filled places replies = replies ++ replicate (places - length replies) nothing

abbrev pub reply_bytes : Reply → List ℕ
reply_bytes reply = concat (to_le_bytes w16 reply.code ∷ to_le_bytes w16 0 ∷ to_le_bytes w32 reply.commit ∷ [])

-- what a client may have been answered up to a commit: each code is one of the eleven, and each reply's commit comes before those of the newer ones
abbrev pub AreReplies : ℕ → List Reply → Type 0
AreReplies limit [] = ⊤
AreReplies limit (reply ∷ older) = (reply.code ≤ 10) × (0 < reply.commit) × (reply.commit ≤ limit) × AreReplies (reply.commit - 1) older

-- the replies before the first place with no commit
abbrev pub replies_in : List Reply → List Reply
replies_in [] = []
replies_in (reply ∷ others) = if reply.commit == 0 then [] else reply ∷ replies_in others
