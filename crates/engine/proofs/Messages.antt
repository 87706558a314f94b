-- What was answered and written so far, and then a message more.
use Rattle.std.proofs.Common.{◌≡◌, ℕ, ◌+◌, ◌<◌, ◌≤◌, List, [], ◌∷◌, ◌++◌, length, take, Option, Some, None, refl, sym, ap, subst, ◌∙◌, append_assoc, arith, length-append, inl, inr, Bool, true, false, Result, Ok, Err, rules}
use Rattle.std.specs.Prelude.{IfErr, IsErrAnd, OnErr, is_none}
use Rattle.std.specs.Io.KnownBytes.{Appends, Consumes, Keeps}
use Rattle.std.proofs.lemmas.List.{append-nil, length-take-le}
use Rattle.std.proofs.lemmas.Grind.{flat_map-append}
use Rattle.std.proofs.Math.Seq.{take-append_seam, take-append-add, take-length}
use Rattle.request.specs.declared.answer.Answer.{Answer}
use Rattle.request.specs.declared.message.Message.{Message}
use Rattle.request.specs.Answers.{answer_frame}
use Rattle.request.specs.Frames.{TakesMessage, IsIdle, MessagesAre, fed}
use Rattle.request.specs.Streams.{ReadsPiece}
use Rattle.request.proofs.FrameLaws.{feeding, taking}
use Rattle.engine.specs.declared.serving.ServeFault.{ServeFault}
use Rattle.engine.specs.declared.serving.ServeFault.TheVariants as faults
use Rattle.engine.specs.Situation.{Situation}
use Rattle.engine.specs.Streams.{LeavesBy, PutsPrefix, PutsUntil, TakesPiece}
use Rattle.engine.specs.Delivered.{IsAnswered}
use Rattle.engine.specs.Served.{AllAnswered, AllTold, AllTaken, LastUntold, LeftAt, LeftBy, frames_of, Answering, AnswersSome, Serving, ServesSome, ServesUntil, ServesAll}
use Rattle.engine.proofs.Served.{answered_more, served_holds, served_withstand}

-- and then others
pub answered_append : (messages : List Message) (answers : List Answer) (more : List Message) (others : List Answer) (s t u : Situation)
    → AllAnswered messages s answers t → AllAnswered more t others u → AllAnswered (messages ++ more) s (answers ++ others) u
answered_append [] [] more others s t u h k = subst (λ (x : Situation). AllAnswered more x others u) h k
answered_append [] (b ∷ answers) more others s t u h k = absurd h
answered_append (n ∷ messages) [] more others s t u h k = absurd h
answered_append (n ∷ messages) (b ∷ answers) more others s t u h k = (h.0, h.1, answered_append messages answers more others h.0 t u h.2 k)

-- one message more was taken
pub taken_more : (messages : List Message) (reader between after : Option (List ℕ)) (m : Message)
    → AllTaken reader messages between → TakesMessage between m after → AllTaken reader (messages ++ m ∷ []) after
taken_more [] reader between after m h k = (after, subst (λ (x : Option (List ℕ)). TakesMessage x m after) h k, refl)
taken_more (n ∷ messages) reader between after m h k = (h.0, h.1, taken_more messages h.0 between after m h.2 k)

-- messages that are taken are the next ones of the stream
pub messages_taken : (more messages : List Message) (bytes : List ℕ) (reader after : Option (List ℕ))
    → MessagesAre bytes messages reader → AllTaken reader more after → MessagesAre bytes (messages ++ more) after
messages_taken [] messages bytes reader after h k =
    subst (λ (ms : List Message). MessagesAre bytes ms after) (sym (append-nil messages)) (subst (λ (x : Option (List ℕ)). MessagesAre bytes messages x) (sym k) h)
messages_taken (n ∷ more) messages bytes reader after h k =
    let one : MessagesAre bytes (messages ++ n ∷ []) k.0 = taking messages bytes reader k.0 n h k.1 in
    subst (λ (ms : List Message). MessagesAre bytes ms after) (append_assoc messages (n ∷ []) more) (messages_taken more (messages ++ n ∷ []) bytes k.0 after one k.2)

-- the frames of answers and of others
pub frames_append : (answers others : List Answer) → frames_of (answers ++ others) ≡ frames_of answers ++ frames_of others
frames_append answers others = flat_map-append answer_frame answers others

-- what a writer holds grew by some bytes, and then by others
pub appends_more : (a b c : Option (List ℕ)) (x y : List ℕ) → Appends a b x → Appends b c y → Appends a c (x ++ y)
appends_more None b c x y h k = tt
appends_more (Some xs) None c x y h k = absurd h
appends_more (Some xs) (Some ys) None x y h k = absurd k
appends_more (Some xs) (Some ys) (Some zs) x y h k = k ∙ ap (λ (l : List ℕ). l ++ y) h ∙ append_assoc xs x y

-- some bytes, and then a prefix of others
pub front_more : (a b c : Option (List ℕ)) (x y : List ℕ) → Appends a b x → PutsPrefix b c y → PutsPrefix a c (x ++ y)
front_more a b c x y h k =
    (length x + k.0, subst (λ (l : List ℕ). Appends a c l) (sym (take-append-add x y k.0)) (appends_more a b c x (take k.0 y) h k.1))

-- some bytes are a prefix of them and more
pub front_of : (a b : Option (List ℕ)) (x y : List ℕ) → Appends a b x → PutsPrefix a b (x ++ y)
front_of a b x y h = (length x, subst (λ (l : List ℕ). Appends a b l) (sym (take-append_seam x y)) h)

-- bytes were read, and then others
pub consumes_more : (a b c : Option (List ℕ)) (x y : List ℕ) → Consumes a b x → Consumes b c y → Consumes a c (x ++ y)
consumes_more None b c x y h k = tt
consumes_more (Some xs) None c x y h k = absurd h
consumes_more (Some xs) (Some ys) None x y h k = absurd k
consumes_more (Some xs) (Some ys) (Some zs) x y h k = h ∙ ap (λ (l : List ℕ). x ++ l) k ∙ sym (append_assoc x y zs)

-- how much a reader of frames has left to give
abbrev pub left_of : Option (List ℕ) → ℕ
left_of None = 0
left_of (Some bytes) = length bytes + 1

-- a message that is taken leaves less
pub taken_less : (reader after : Option (List ℕ)) (m : Message) → TakesMessage reader m after → left_of after < left_of reader
taken_less None after m h = absurd h
taken_less (Some bytes) None m h = omega arith
taken_less (Some bytes) (Some rest) m h =
    let long : length bytes ≡ 4 + (length h.0 + length rest) = ap length h.1.whole ∙ omega (arith, length-append h.0 rest) in
    omega (arith, long)

pub nothing_more : (a : Option (List ℕ)) → Appends a a []
nothing_more None = tt
nothing_more (Some xs) = sym (append-nil xs)

pub nothing_read : (a : Option (List ℕ)) → Consumes a a []
nothing_read None = tt
nothing_read (Some xs) = refl

-- a prefix of no bytes is written where none are
pub no_front : (a b : Option (List ℕ)) (x : List ℕ) → Keeps a b → PutsPrefix a b x
no_front None b x k = (0, tt)
no_front (Some xs) None x k = absurd k
no_front (Some xs) (Some ys) x k = (0, k ∙ sym (append-nil xs))

pub kept_none : (a b : Option (List ℕ)) → Keeps a b → Appends a b []
kept_none None b k = tt
kept_none (Some xs) None k = absurd k
kept_none (Some xs) (Some ys) k = k ∙ sym (append-nil xs)

pub keeps_told : (a b c : Option (List ℕ)) (x : List ℕ) → Appends a b x → Keeps b c → Appends a c x
keeps_told None b c x h k = tt
keeps_told (Some xs) None c x h k = absurd h
keeps_told (Some xs) (Some ys) None x h k = absurd k
keeps_told (Some xs) (Some ys) (Some zs) x h k = k ∙ h

-- a prefix was written where they were not written whole
pub until_front : (fault : ServeFault) (a b : Option (List ℕ)) (x : List ℕ) → PutsUntil fault a b x → PutsPrefix a b x
until_front faults.Read a b x h = absurd h
until_front faults.Write a b x h = h
until_front faults.Memory a b x h = no_front a b x h

-- ---- where it is left

-- the last answer's frame was not written whole
left_at : (fault : ServeFault) (others : List Answer) (last : Answer) (reader o v w : Option (List ℕ)) → Appends o v (frames_of others) → PutsUntil fault v w (answer_frame last) → LeftAt fault (others ++ last ∷ []) reader o w
left_at faults.Read others last reader o v w told h = absurd h
left_at faults.Write others last reader o v w told h = inr (h.0, (others, last, refl, appends_more o v w (frames_of others) (take h.0 (answer_frame last)) told h.1))
left_at faults.Memory others last reader o v w told h = (others, last, refl, appends_more o v w (frames_of others) [] told (kept_none v w h))

-- the same after other answers, each of which was written
pub last_more : (answers more : List Answer) (count : ℕ) (o v w : Option (List ℕ)) → Appends o v (frames_of answers) → LastUntold more count v w → LastUntold (answers ++ more) count o w
last_more answers more count o v w told (others, last, is, h) =
    let part : List ℕ = take count (answer_frame last) in (
      answers ++ others,
      last,
      ap (λ (l : List Answer). answers ++ l) is ∙ sym (append_assoc answers others (last ∷ [])),
      subst (λ (x : List ℕ). Appends o w x) (sym (append_assoc (frames_of answers) (frames_of others) part) ∙ ap (λ (x : List ℕ). x ++ part) (sym (frames_append answers others)))
          (appends_more o v w (frames_of answers) (frames_of others ++ part) told h),
    )

pub all_more : (answers more : List Answer) (reader o v w : Option (List ℕ)) → Appends o v (frames_of answers) → AllTold more reader v w → AllTold (answers ++ more) reader o w
all_more answers more reader o v w told h =
    (h.0, subst (λ (x : List ℕ). Appends o w x) (sym (frames_append answers more)) (appends_more o v w (frames_of answers) (frames_of more) told h.1))

left_more : (fault : ServeFault) (bytes : List ℕ) (answers more : List Answer) (reader o v w : Option (List ℕ)) → (bytes ≡ [] → ⊥) → Appends o v (frames_of answers) → LeftAt fault more reader v w → LeftBy fault bytes (answers ++ more) reader o w
left_more faults.Read bytes answers more reader o v w some told h = absurd h
left_more faults.Write bytes answers more reader o v w some told (inl h) = (some, inl (all_more answers more reader o v w told h))
left_more faults.Write bytes answers more reader o v w some told (inr (count, h)) = (some, inr (count, last_more answers more count o v w told h))
left_more faults.Memory bytes answers more reader o v w some told h = inl (last_more answers more 0 o v w told h)

-- so many bytes are some
pub took : (n : ℕ) (xs : List ℕ) → n ≤ length xs → (n ≡ 0 → ⊥) → take n xs ≡ [] → ⊥
took n xs fits some e = some (sym (length-take-le n xs fits) ∙ ap length e)

pub some_after : (xs ys : List ℕ) → (ys ≡ [] → ⊥) → xs ++ ys ≡ [] → ⊥
some_after [] ys some e = some e
some_after (x ∷ xs) ys some e = absurd (omega (arith, ap length e))

-- ---- messages that are there

-- no message was taken yet
pub answering_none : (reader : Option (List ℕ)) (s : Situation) (o : Option (List ℕ)) → Answering reader reader s s o o
answering_none reader s o = record { messages = []; answers = []; taken = refl; answered = refl; told = nothing_more o }

-- one message more was taken and answered
pub answering_more : (reader between after : Option (List ℕ)) (s t u : Situation) (o v w : Option (List ℕ)) (m : Message) (a : Answer)
    → Answering reader between s t o v → TakesMessage between m after → IsAnswered m t a u → Appends v w (answer_frame a) → Answering reader after s u o w
answering_more reader between after s t u o v w m a h takes answered told = record {
  messages = h.messages ++ m ∷ [];
  answers = h.answers ++ a ∷ [];
  taken = taken_more h.messages reader between after m h.taken takes;
  answered = answered_more h.messages h.answers s t u m a h.answered answered;
  told = subst (λ (x : List ℕ). Appends o w x) (sym (flat_map-append answer_frame h.answers (a ∷ []) ∙ ap (λ (x : List ℕ). frames_of h.answers ++ x) (append-nil (answer_frame a))))
      (appends_more o v w (frames_of h.answers) (answer_frame a) h.told told);
}

-- the same where the answer's frame was not written whole
pub answering_some : (fault : ServeFault) (reader between after : Option (List ℕ)) (s t u : Situation) (o v w : Option (List ℕ)) (m : Message) (a : Answer)
    → Answering reader between s t o v → TakesMessage between m after → IsAnswered m t a u → PutsUntil fault v w (answer_frame a) → AnswersSome fault reader after s u o w
answering_some fault reader between after s t u o v w m a h takes answered until = record {
  messages = h.messages ++ m ∷ [];
  answers = h.answers ++ a ∷ [];
  taken = taken_more h.messages reader between after m h.taken takes;
  answered = answered_more h.messages h.answers s t u m a h.answered answered;
  front = subst (λ (x : List ℕ). PutsPrefix o w x) (sym (flat_map-append answer_frame h.answers (a ∷ []) ∙ ap (λ (x : List ℕ). frames_of h.answers ++ x) (append-nil (answer_frame a))))
      (front_more o v w (frames_of h.answers) (answer_frame a) h.told (until_front fault v w (answer_frame a) until));
  left = left_at fault h.answers a after o v w h.told until;
}

-- what was written whole is a prefix, also where the writer then kept what it held, and failed
pub answering_kept : (reader after later : Option (List ℕ)) (s t : Situation) (o v w : Option (List ℕ)) → later ≡ after → IsIdle after → Answering reader after s t o v → Keeps v w → AnswersSome faults.Write reader later s t o w
answering_kept reader after later s t o v w e idle h k = record {
  messages = h.messages;
  answers = h.answers;
  taken = subst (λ (r : Option (List ℕ)). AllTaken reader h.messages r) (sym e) h.taken;
  answered = h.answered;
  front = subst (λ (x : List ℕ). PutsPrefix o w x) (append-nil (frames_of h.answers)) (front_more o v w (frames_of h.answers) [] h.told (no_front v w [] k));
  left = inl (subst IsIdle (sym e) idle, keeps_told o v w (frames_of h.answers) h.told k);
}

-- and all of it is written where it kept that
pub answering_flushed : (reader after : Option (List ℕ)) (s t : Situation) (o v w : Option (List ℕ)) → Answering reader after s t o v → Keeps v w → Answering reader after s t o w
answering_flushed reader after s t o v w h k =
    record { messages = h.messages; answers = h.answers; taken = h.taken; answered = h.answered; told = keeps_told o v w (frames_of h.answers) h.told k }

-- nothing was read yet
pub serving_none : (reader : Option (List ℕ)) (s : Situation) (i o : Option (List ℕ)) → reader ≡ Some [] → Serving reader s s i i o o
serving_none reader s i o e = record { bytes = []; messages = []; answers = []; consumed = nothing_read i; messages_are = e; answered = refl; told = nothing_more o }

-- a piece more was read, and the messages in it were answered
pub serving_more : (reader between after : Option (List ℕ)) (s t u : Situation) (i l n o v w : Option (List ℕ)) (piece : List ℕ)
    → Serving reader s t i l o v → TakesPiece l n piece → between ≡ fed reader piece → Answering between after t u v w → Serving after s u i n o w
serving_more reader between after s t u i l n o v w piece h takes e more = record {
  bytes = h.bytes ++ piece;
  messages = h.messages ++ more.messages;
  answers = h.answers ++ more.answers;
  consumed = consumes_more i l n h.bytes piece h.consumed takes.consumed;
  messages_are = messages_taken more.messages h.messages (h.bytes ++ piece) between after
      (subst (λ (r : Option (List ℕ)). MessagesAre (h.bytes ++ piece) h.messages r) (sym e) (feeding h.messages h.bytes piece reader h.messages_are)) more.taken;
  answered = answered_append h.messages h.answers more.messages more.answers s t u h.answered more.answered;
  told = subst (λ (x : List ℕ). Appends o w x) (sym (frames_append h.answers more.answers)) (appends_more o v w (frames_of h.answers) (frames_of more.answers) h.told more.told);
}

-- the same where they were left
pub serving_some : (fault : ServeFault) (reader between after : Option (List ℕ)) (s t u : Situation) (i l n o v w : Option (List ℕ)) (piece : List ℕ)
    → Serving reader s t i l o v → TakesPiece l n piece → (piece ≡ [] → ⊥) → between ≡ fed reader piece → AnswersSome fault between after t u v w → ServesUntil fault s u i n o w
serving_some fault reader between after s t u i l n o v w piece h takes some e more =
    let answered : AllAnswered (h.messages ++ more.messages) s (h.answers ++ more.answers) u = answered_append h.messages h.answers more.messages more.answers s t u h.answered more.answered in
    record {
      some = record {
        bytes = h.bytes ++ piece;
        messages = h.messages ++ more.messages;
        answers = h.answers ++ more.answers;
        reader = after;
        consumed = consumes_more i l n h.bytes piece h.consumed takes.consumed;
        messages_are = messages_taken more.messages h.messages (h.bytes ++ piece) between after
            (subst (λ (r : Option (List ℕ)). MessagesAre (h.bytes ++ piece) h.messages r) (sym e) (feeding h.messages h.bytes piece reader h.messages_are)) more.taken;
        answered = answered;
        holds = served_holds (h.messages ++ more.messages) s (h.answers ++ more.answers) u answered;
        withstands = served_withstand (h.messages ++ more.messages) s (h.answers ++ more.answers) u answered;
        front = subst (λ (x : List ℕ). PutsPrefix o w x) (sym (frames_append h.answers more.answers)) (front_more o v w (frames_of h.answers) (frames_of more.answers) h.told more.front);
      };
      left_by = left_more fault (h.bytes ++ piece) h.answers more.answers after o v w (some_after h.bytes piece some) h.told more.left;
    }

pub whole_front : (a b : Option (List ℕ)) (x : List ℕ) → Appends a b x → PutsPrefix a b x
whole_front a b x h = (length x, subst (λ (y : List ℕ). Appends a b y) (sym (take-length x)) h)

-- a piece more was read, and there was no memory for it
pub serving_read : (reader : Option (List ℕ)) (s t : Situation) (i l n o v : Option (List ℕ)) (piece : List ℕ)
    → Serving reader s t i l o v → IsIdle reader → TakesPiece l n piece → (piece ≡ [] → ⊥) → ServesUntil faults.Memory s t i n o v
serving_read reader s t i l n o v piece h idle takes some = record {
  some = record {
    bytes = h.bytes ++ piece;
    messages = h.messages;
    answers = h.answers;
    reader = fed reader piece;
    consumed = consumes_more i l n h.bytes piece h.consumed takes.consumed;
    messages_are = feeding h.messages h.bytes piece reader h.messages_are;
    answered = h.answered;
    holds = served_holds h.messages s h.answers t h.answered;
    withstands = served_withstand h.messages s h.answers t h.answered;
    front = whole_front o v (frames_of h.answers) h.told;
  };
  left_by = inr (inl (reader, piece, idle, some, refl, h.told));
}

pub consumes_kept : (a b c : Option (List ℕ)) (x : List ℕ) → Consumes a b x → Keeps b c → Consumes a c x
consumes_kept None b c x h k = tt
consumes_kept (Some xs) None c x h k = absurd h
consumes_kept (Some xs) (Some ys) None x h k = absurd k
consumes_kept (Some xs) (Some ys) (Some zs) x h k = h ∙ ap (λ (y : List ℕ). x ++ y) (sym k)

-- no more was read
kept_some : (reader : Option (List ℕ)) (s t : Situation) (i l n o v : Option (List ℕ)) → Serving reader s t i l o v → Keeps l n → ServesSome s t i n o v
kept_some reader s t i l n o v h k = record {
  bytes = h.bytes;
  messages = h.messages;
  answers = h.answers;
  reader = reader;
  consumed = consumes_kept i l n h.bytes h.consumed k;
  messages_are = h.messages_are;
  answered = h.answered;
  holds = served_holds h.messages s h.answers t h.answered;
  withstands = served_withstand h.messages s h.answers t h.answered;
  front = whole_front o v (frames_of h.answers) h.told;
}

-- for lack of memory
serving_short : (reader : Option (List ℕ)) (s t : Situation) (i l n o v : Option (List ℕ)) → Serving reader s t i l o v → IsIdle reader → Keeps l n → ServesUntil faults.Memory s t i n o v
unfolding kept_some
serving_short reader s t i l n o v h idle k = record { some = kept_some reader s t i l n o v h k; left_by = inr (inr (idle, h.told)) }

-- a read failed, and took nothing
pub serving_kept : (reader : Option (List ℕ)) (s t : Situation) (i l n o v : Option (List ℕ)) → Serving reader s t i l o v → IsIdle reader → Keeps l n → ServesUntil faults.Read s t i n o v
unfolding kept_some
serving_kept reader s t i l n o v h idle k = record { some = kept_some reader s t i l n o v h k; left_by = (idle, h.told) }

-- what was read of a stream is a piece of it
pub takes_piece : (count : ℕ) (l n reader later : Option (List ℕ)) → (h : ReadsPiece count l n reader later) → TakesPiece l n h.piece
takes_piece count l n reader later h = record { consumed = h.consumed; end = λ none. h.end (sym h.long ∙ ap length none) }

-- and is some where it is not of no bytes
pub piece_some : (count : ℕ) (l n reader later : Option (List ℕ)) → (h : ReadsPiece count l n reader later) → (count ≡ 0 → ⊥) → h.piece ≡ [] → ⊥
piece_some count l n reader later h some none = some (sym h.long ∙ ap length none)

-- it is read no further
pub serving_left : (fault : ServeFault) (reader : Option (List ℕ)) (s t : Situation) (i l n o v : Option (List ℕ)) → Serving reader s t i l o v → IsIdle reader → LeavesBy fault l n → ServesUntil fault s t i n o v
serving_left faults.Read reader s t i l n o v h idle k = serving_kept reader s t i l n o v h idle k
serving_left faults.Write reader s t i l n o v h idle k = absurd k
serving_left faults.Memory reader s t i l n o v h idle (inl k) = serving_read reader s t i l n o v k.0 h idle k.2 k.1
serving_left faults.Memory reader s t i l n o v h idle (inr k) = serving_short reader s t i l n o v h idle k

pub kept_self : (a : Option (List ℕ)) → Keeps a a
kept_self None = tt
kept_self (Some xs) = refl

-- no more is read
pub serving_stops : (reader : Option (List ℕ)) (s t : Situation) (i l o v : Option (List ℕ)) → Serving reader s t i l o v → IsIdle reader → ServesUntil faults.Memory s t i l o v
serving_stops reader s t i l o v h idle = serving_short reader s t i l l o v h idle (kept_self l)

-- the stream is at its end
pub serving_ends : (reader : Option (List ℕ)) (s t : Situation) (i l n o v : Option (List ℕ)) (piece : List ℕ)
    → Serving reader s t i l o v → IsIdle reader → TakesPiece l n piece → piece ≡ [] → ServesAll s t i n o v
serving_ends reader s t i l n o v piece h idle takes none = record {
  reader = reader;
  serving = record {
    bytes = h.bytes;
    messages = h.messages;
    answers = h.answers;
    consumed = subst (λ (x : List ℕ). Consumes i n x) (append-nil h.bytes)
        (consumes_more i l n h.bytes [] h.consumed (subst (λ (x : List ℕ). Consumes l n x) none takes.consumed));
    messages_are = h.messages_are;
    answered = h.answered;
    told = h.told;
  };
  holds = served_holds h.messages s h.answers t h.answered;
  withstands = served_withstand h.messages s h.answers t h.answered;
  idle = idle;
  ends = inl (takes.end none);
}

-- a frame was too long in the piece that was read last
pub serving_over : (reader between after : Option (List ℕ)) (s t u : Situation) (i l n o v w : Option (List ℕ)) (piece : List ℕ)
    → Serving reader s t i l o v → IsIdle reader → (waiting : List ℕ) × (reader ≡ Some waiting) → TakesPiece l n piece → length piece ≤ 65536 → between ≡ fed reader piece → Answering between after t u v w
    → IsIdle after → after ≡ None → ServesAll s u i n o w
unfolding serving_more
serving_over reader between after s t u i l n o v w piece h idle goes takes short e more at_last none =
    let all : Serving after s u i n o w = serving_more reader between after s t u i l n o v w piece h takes e more in
    record {
      reader = after;
      serving = serving_more reader between after s t u i l n o v w piece h takes e more;
      holds = served_holds all.messages s all.answers u all.answered;
      withstands = served_withstand all.messages s all.answers u all.answered;
      idle = at_last;
      ends = inr (record {
        over = none;
        earlier = h.bytes;
        piece = piece;
        bytes_are = refl;
        short = short;
        messages = h.messages;
        waiting = goes.0;
        messages_are = subst (λ (r : Option (List ℕ)). MessagesAre h.bytes h.messages r) goes.1 h.messages_are;
        partial = subst IsIdle goes.1 idle;
      });
    }

-- a reader that is not over holds some bytes
pub goes_on : (reader : Option (List ℕ)) → is_none reader ≡ false → (waiting : List ℕ) × (reader ≡ Some waiting)
goes_on None h = let bad : ◌≡◌ {A = Bool} true false = h in absurd (search rules)
goes_on (Some bytes) h = (bytes, refl)

-- what holds of an `Err` may be shown of any
pub on_err : {T E : Type 0} (r : Result T E) (X : Type 0) → X → OnErr r X
on_err (Ok v) X x = tt
on_err (Err e) X x = x

-- a fault that is handed on is the same, and what holds of it holds there
pub if_err : {T E : Type 0} (r : Result T E) (fault told : E) (X : E → Type 0) → IsErrAnd r (λ e. e ≡ fault) → fault ≡ told → X told → IfErr r X
if_err (Ok v) fault told X is same x = tt
if_err (Err e) fault told X is same x = subst X (sym (is ∙ same)) x

pub over : (reader : Option (List ℕ)) → is_none reader ≡ true → reader ≡ None
over None h = refl
over (Some bytes) h = let bad : ◌≡◌ {A = Bool} false true = h in absurd (search rules)

-- a buffer that was filled whole
pub filled : (n : ℕ) (xs ys : List ℕ) → n ≡ length xs → take n (xs ++ ys) ≡ xs
filled n xs ys e = ap (λ (m : ℕ). take m (xs ++ ys)) e ∙ take-append_seam xs ys
