-- A stream whose messages are answered in groups, one more piece at a time.
use Rattle.std.proofs.Common.{◌≡◌, inl, inr, ℕ, ◌≤◌, List, [], ◌∷◌, ◌++◌, length, take, false, Option, Some, None, refl, sym, ap, subst, ◌∙◌, append_assoc, append-nil}
use Rattle.std.specs.Io.KnownBytes.{Appends, Consumes, Keeps}
use Rattle.std.proofs.lemmas.Grind.{flat_map-append}
use Rattle.drive.specs.Gathering.{Gathering}
use Rattle.request.specs.declared.answer.Answer.{Answer}
use Rattle.request.specs.declared.message.Message.{Message}
use Rattle.request.specs.Frames.{IsIdle, MessagesAre, fed}
use Rattle.request.proofs.FrameLaws.{feeding}
use Rattle.engine.specs.declared.serving.ServeFault.{ServeFault}
use Rattle.engine.specs.declared.serving.ServeFault.TheVariants as faults
use Rattle.engine.specs.Served.{AllTold, LastUntold, frames_of}
use Rattle.engine.specs.Situation.{Situation}
use Rattle.engine.specs.Streams.{LeavesBy, PutsPrefix, TakesPiece, is_read}
use Rattle.engine.proofs.Messages.{appends_more, consumes_kept, consumes_more, frames_append, front_more, kept_self, last_more, messages_taken, nothing_more, nothing_read, some_after, whole_front}
use Rattle.grouping.specs.Served.{Group, AreGroups, answers_of, messages_of}
use Rattle.grouping.specs.Streams.{Grouping, GroupingSome, LastGroupUntold, LeftIn, LeftByIn, ServingGroups, ServesGroups, ServesGroupsUntil}
use Rattle.grouping.proofs.Streams.{are_append}
use Rattle.grouping.proofs.Cutting.{groups_are_lives}
use Rattle.grouping.proofs.Running.{groups_run}
use Rattle.grouping.proofs.Withstanding.{groups_withstand}

messages_join : (groups more : List Group) → messages_of (groups ++ more) ≡ messages_of groups ++ messages_of more
messages_join groups more = flat_map-append (λ (g : Group). g.messages) groups more

answers_join : (groups more : List Group) → answers_of (groups ++ more) ≡ answers_of groups ++ answers_of more
answers_join groups more = flat_map-append (λ (g : Group). g.answers) groups more

frames_join : (groups more : List Group) → frames_of (answers_of groups) ++ frames_of (answers_of more) ≡ frames_of (answers_of (groups ++ more))
frames_join groups more = sym (ap frames_of (answers_join groups more) ∙ frames_append (answers_of groups) (answers_of more))

-- ---- where it is left

last_join : (groups more : List Group) (count : ℕ) (o v w : Option (List ℕ)) → Appends o v (frames_of (answers_of groups)) → LastGroupUntold more count v w → LastGroupUntold (groups ++ more) count o w
last_join groups more count o v w told (others, last, is, h) =
    let part : List ℕ = take count (frames_of last.answers) in (
      groups ++ others,
      last,
      ap (λ (l : List Group). groups ++ l) is ∙ sym (append_assoc groups others (last ∷ [])),
      subst (λ (x : List ℕ). Appends o w x) (sym (append_assoc (frames_of (answers_of groups)) (frames_of (answers_of others)) part) ∙ ap (λ (x : List ℕ). x ++ part) (frames_join groups others))
          (appends_more o v w (frames_of (answers_of groups)) (frames_of (answers_of others) ++ part) told h),
    )

all_join : (groups more : List Group) (reader o v w : Option (List ℕ)) → Appends o v (frames_of (answers_of groups)) → AllTold (answers_of more) reader v w → AllTold (answers_of (groups ++ more)) reader o w
all_join groups more reader o v w told h =
    (h.0, subst (λ (x : List ℕ). Appends o w x) (frames_join groups more) (appends_more o v w (frames_of (answers_of groups)) (frames_of (answers_of more)) told h.1))

left_join : (fault : ServeFault) (bytes : List ℕ) (groups more : List Group) (reader o v w : Option (List ℕ)) → (bytes ≡ [] → ⊥) → Appends o v (frames_of (answers_of groups)) → LeftIn fault more reader v w → LeftByIn fault bytes (groups ++ more) reader o w
left_join faults.Read bytes groups more reader o v w some told h = absurd h
left_join faults.Write bytes groups more reader o v w some told (inl h) = (some, inl (all_join groups more reader o v w told h))
left_join faults.Write bytes groups more reader o v w some told (inr (count, h)) = (some, inr (count, last_join groups more count o v w told h))
left_join faults.Memory bytes groups more reader o v w some told h =
    inl (subst (λ (l : List Answer). LastUntold l 0 o w) (sym (answers_join groups more)) (last_more (answers_of groups) (answers_of more) 0 o v w told h))

-- messages that are there are left for no read
pub left_unread : (fault : ServeFault) (groups : List Group) (reader output written : Option (List ℕ)) → LeftIn fault groups reader output written → is_read fault ≡ false
left_unread faults.Read groups reader output written h = absurd h
left_unread faults.Write groups reader output written h = refl
left_unread faults.Memory groups reader output written h = refl

abbrev Serving : Option (List ℕ) → Situation → Gathering → Situation → Gathering → Option (List ℕ) → Option (List ℕ) → Option (List ℕ) → Option (List ℕ) → Type 0
Serving reader s sg t tg i l o v = ServingGroups reader s sg t tg i l o v

abbrev Until : ServeFault → Situation → Gathering → Situation → Gathering → Option (List ℕ) → Option (List ℕ) → Option (List ℕ) → Option (List ℕ) → Type 0
Until fault s sg t tg i l o v = ServesGroupsUntil fault s sg t tg i l o v

-- nothing was read yet
pub serving_none : (reader : Option (List ℕ)) (s : Situation) (sg : Gathering) (i o : Option (List ℕ)) → reader ≡ Some [] → Serving reader s sg s sg i i o o
serving_none reader s sg i o e = record { bytes = []; groups = []; consumed = nothing_read i; messages_are = e; are = (refl, refl); told = nothing_more o }

-- a piece more was read, and its messages were answered
pub serving_more : (reader between after : Option (List ℕ)) (s : Situation) (sg : Gathering) (t : Situation) (tg : Gathering) (u : Situation) (ug : Gathering) (i l n o v w : Option (List ℕ)) (piece : List ℕ)
    → Serving reader s sg t tg i l o v → TakesPiece l n piece → between ≡ fed reader piece → Grouping between after t tg u ug v w → Serving after s sg u ug i n o w
serving_more reader between after s sg t tg u ug i l n o v w piece h takes e more = record {
  bytes = h.bytes ++ piece;
  groups = h.groups ++ more.groups;
  consumed = consumes_more i l n h.bytes piece h.consumed takes.consumed;
  messages_are = subst (λ (ms : List Message). MessagesAre (h.bytes ++ piece) ms after) (sym (messages_join h.groups more.groups))
      (messages_taken (messages_of more.groups) (messages_of h.groups) (h.bytes ++ piece) between after
      (subst (λ (r : Option (List ℕ)). MessagesAre (h.bytes ++ piece) (messages_of h.groups) r) (sym e) (feeding (messages_of h.groups) h.bytes piece reader h.messages_are)) more.taken);
  are = are_append h.groups more.groups s sg t tg u ug h.are more.are;
  told = subst (λ (x : List ℕ). Appends o w x) (frames_join h.groups more.groups) (appends_more o v w (frames_of (answers_of h.groups)) (frames_of (answers_of more.groups)) h.told more.told);
}

-- the same where they were left
pub serving_some : (fault : ServeFault) (reader between after : Option (List ℕ)) (s : Situation) (sg : Gathering) (t : Situation) (tg : Gathering) (u : Situation) (ug : Gathering) (i l n o v w : Option (List ℕ)) (piece : List ℕ)
    → Serving reader s sg t tg i l o v → TakesPiece l n piece → (piece ≡ [] → ⊥) → between ≡ fed reader piece → GroupingSome fault between after t tg u ug v w → Until fault s sg u ug i n o w
serving_some fault reader between after s sg t tg u ug i l n o v w piece h takes some e more =
    let are : AreGroups (h.groups ++ more.groups) s sg u ug = are_append h.groups more.groups s sg t tg u ug h.are more.are in
    record {
      bytes = h.bytes ++ piece;
      groups = h.groups ++ more.groups;
      reader = after;
      consumed = consumes_more i l n h.bytes piece h.consumed takes.consumed;
      messages_are = subst (λ (ms : List Message). MessagesAre (h.bytes ++ piece) ms after) (sym (messages_join h.groups more.groups))
          (messages_taken (messages_of more.groups) (messages_of h.groups) (h.bytes ++ piece) between after
          (subst (λ (r : Option (List ℕ)). MessagesAre (h.bytes ++ piece) (messages_of h.groups) r) (sym e) (feeding (messages_of h.groups) h.bytes piece reader h.messages_are)) more.taken);
      are = are;
      run = groups_run (h.groups ++ more.groups) s sg u ug are;
      withstand = groups_withstand (h.groups ++ more.groups) s sg u ug are;
      lives = groups_are_lives (h.groups ++ more.groups) s sg u ug are;
      front = subst (λ (x : List ℕ). PutsPrefix o w x) (frames_join h.groups more.groups) (front_more o v w (frames_of (answers_of h.groups)) (frames_of (answers_of more.groups)) h.told more.front);
      left_by = left_join fault (h.bytes ++ piece) h.groups more.groups after o v w (some_after h.bytes piece some) h.told more.left;
    }

-- a piece more was read, and there was no memory for it
serving_read : (reader : Option (List ℕ)) (s : Situation) (sg : Gathering) (t : Situation) (tg : Gathering) (i l n o v : Option (List ℕ)) (piece : List ℕ)
    → Serving reader s sg t tg i l o v → IsIdle reader → TakesPiece l n piece → (piece ≡ [] → ⊥) → Until faults.Memory s sg t tg i n o v
serving_read reader s sg t tg i l n o v piece h idle takes some = record {
  bytes = h.bytes ++ piece;
  groups = h.groups;
  reader = fed reader piece;
  consumed = consumes_more i l n h.bytes piece h.consumed takes.consumed;
  messages_are = feeding (messages_of h.groups) h.bytes piece reader h.messages_are;
  are = h.are;
  run = groups_run h.groups s sg t tg h.are;
  withstand = groups_withstand h.groups s sg t tg h.are;
  lives = groups_are_lives h.groups s sg t tg h.are;
  front = whole_front o v (frames_of (answers_of h.groups)) h.told;
  left_by = inr (inl (reader, piece, idle, some, refl, h.told));
}

-- no more was read
kept : (fault : ServeFault) (reader : Option (List ℕ)) (s : Situation) (sg : Gathering) (t : Situation) (tg : Gathering) (i l n o v : Option (List ℕ)) (h : Serving reader s sg t tg i l o v) → Keeps l n → LeftByIn fault h.bytes h.groups reader o v → Until fault s sg t tg i n o v
kept fault reader s sg t tg i l n o v h k left = record {
  bytes = h.bytes;
  groups = h.groups;
  reader = reader;
  consumed = consumes_kept i l n h.bytes h.consumed k;
  messages_are = h.messages_are;
  are = h.are;
  run = groups_run h.groups s sg t tg h.are;
  withstand = groups_withstand h.groups s sg t tg h.are;
  lives = groups_are_lives h.groups s sg t tg h.are;
  front = whole_front o v (frames_of (answers_of h.groups)) h.told;
  left_by = left;
}

-- it is read no further
pub serving_left : (fault : ServeFault) (reader : Option (List ℕ)) (s : Situation) (sg : Gathering) (t : Situation) (tg : Gathering) (i l n o v : Option (List ℕ)) → Serving reader s sg t tg i l o v → IsIdle reader → LeavesBy fault l n → Until fault s sg t tg i n o v
serving_left faults.Read reader s sg t tg i l n o v h idle k = kept faults.Read reader s sg t tg i l n o v h k (idle, h.told)
serving_left faults.Write reader s sg t tg i l n o v h idle k = absurd k
serving_left faults.Memory reader s sg t tg i l n o v h idle (inl k) = serving_read reader s sg t tg i l n o v k.0 h idle k.2 k.1
serving_left faults.Memory reader s sg t tg i l n o v h idle (inr k) = kept faults.Memory reader s sg t tg i l n o v h k (inr (inr (idle, h.told)))

pub serving_stops : (reader : Option (List ℕ)) (s : Situation) (sg : Gathering) (t : Situation) (tg : Gathering) (i l o v : Option (List ℕ)) → Serving reader s sg t tg i l o v → IsIdle reader → Until faults.Memory s sg t tg i l o v
serving_stops reader s sg t tg i l o v h idle = kept faults.Memory reader s sg t tg i l l o v h (kept_self l) (inr (inr (idle, h.told)))

-- the stream is at its end
pub serving_ends : {most : ℕ} (reader : Option (List ℕ)) (s : Situation) (sg : Gathering) (t : Situation) (tg : Gathering) (i l n o v : Option (List ℕ)) (piece : List ℕ)
    → Serving reader s sg t tg i l o v → IsIdle reader → TakesPiece l n piece → piece ≡ [] → ServesGroups most s sg t tg i n o v
serving_ends reader s sg t tg i l n o v piece h idle takes none = record {
  reader = reader;
  serving = record {
    bytes = h.bytes;
    groups = h.groups;
    consumed = subst (λ (x : List ℕ). Consumes i n x) (append-nil h.bytes)
        (consumes_more i l n h.bytes [] h.consumed (subst (λ (x : List ℕ). Consumes l n x) none takes.consumed));
    messages_are = h.messages_are;
    are = h.are;
    told = h.told;
  };
  run = groups_run h.groups s sg t tg h.are;
  withstand = groups_withstand h.groups s sg t tg h.are;
  lives = groups_are_lives h.groups s sg t tg h.are;
  idle = idle;
  ends = inl (takes.end none);
}

-- a frame was too long in the piece that was read last
pub serving_over : {most : ℕ} (reader between after : Option (List ℕ)) (s : Situation) (sg : Gathering) (t : Situation) (tg : Gathering) (u : Situation) (ug : Gathering) (i l n o v w : Option (List ℕ)) (piece : List ℕ)
    → Serving reader s sg t tg i l o v → IsIdle reader → (waiting : List ℕ) × (reader ≡ Some waiting) → TakesPiece l n piece → length piece ≤ most → between ≡ fed reader piece → Grouping between after t tg u ug v w
    → IsIdle after → after ≡ None → ServesGroups most s sg u ug i n o w
unfolding serving_more
serving_over {most} reader between after s sg t tg u ug i l n o v w piece h idle goes takes short e more at_last none =
    let all : Serving after s sg u ug i n o w = serving_more reader between after s sg t tg u ug i l n o v w piece h takes e more in
    record {
      reader = after;
      serving = serving_more reader between after s sg t tg u ug i l n o v w piece h takes e more;
      run = groups_run all.groups s sg u ug all.are;
      withstand = groups_withstand all.groups s sg u ug all.are;
      lives = groups_are_lives all.groups s sg u ug all.are;
      idle = at_last;
      ends = inr (record {
        over = none;
        earlier = h.bytes;
        piece = piece;
        bytes_are = refl;
        short = short;
        messages = messages_of h.groups;
        waiting = goes.0;
        messages_are = subst (λ (r : Option (List ℕ)). MessagesAre h.bytes (messages_of h.groups) r) goes.1 h.messages_are;
        partial = subst IsIdle goes.1 idle;
      });
    }
