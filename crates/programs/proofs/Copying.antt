-- What was copied so far, and then a piece more.
use Rattle.std.proofs.Common.{◌≡◌, ℕ, ◌+◌, ◌<◌, ◌≤◌, List, [], ◌++◌, length, take, Option, Some, None, Result, Ok, Err, sym, ap, ◌∙◌, subst, arith, inl, inr}
use Rattle.std.specs.Prelude.{IfErr, IfOk, IsErrAnd, OnOk}
use Rattle.std.specs.Io.KnownBytes.{Appends, Consumes, Keeps}
use Rattle.std.proofs.lemmas.List.{append-nil, length-take-le}
use Rattle.std.proofs.Math.Seq.{take-append-add, take-length}
use Rattle.engine.specs.Streams.{TakesPiece, PutsPrefix}
use Rattle.engine.specs.declared.serving.ServeFault.{ServeFault}
use Rattle.engine.specs.declared.serving.ServeFault.TheVariants as streams
use Rattle.engine.proofs.Messages.{appends_more, consumes_more, nothing_more, nothing_read}
use Rattle.engine.proofs.Pieces.{keeps_on}
use Rattle.programs.specs.Counted.{Counted}
use Rattle.programs.specs.Counting.{IsAnsweredBy, IsCountOf}
use Rattle.programs.specs.Copies.{CopiesAll, CopiesFrames, CopiesPart, CopiesRead, CopiesUntil, SendsFrames, SendsSome, SendsUntil}
use Rattle.programs.specs.declared.counting.FrameCount.{FrameCount}
use Rattle.programs.specs.declared.fault.Fault.{Fault}
use Rattle.programs.specs.declared.fault.Fault.TheVariants.{Usage, Path, Socket, Store, Stream}
use Rattle.programs.proofs.Opening.{keeps_self}

-- what was read was written, and the counter was given it
pub record Tallied (counter : FrameCount) (input left output written : Option (List ℕ)) : Type 0 where
  pub copied : CopiesRead input left output written
  pub counted : Counted counter copied.bytes

pub tallied_none : (c : FrameCount) (i o : Option (List ℕ)) → Counted c [] → Tallied c i i o o
tallied_none c i o h = record { copied = record { bytes = []; consumed = nothing_read i; copied = nothing_more o }; counted = h }

pub tallied_more : (c d : FrameCount) (i l n o v w x : Option (List ℕ)) (piece bytes : List ℕ) → Tallied c i l o v → TakesPiece l n piece → bytes ≡ piece → Appends v w bytes → Keeps w x
    → ((given : List ℕ) → Counted c given → Counted d (given ++ bytes)) → Tallied d i n o x
tallied_more c d i l n o v w x piece bytes h takes e more kept feeds = record {
  copied = record {
    bytes = h.copied.bytes ++ piece;
    consumed = consumes_more i l n h.copied.bytes piece h.copied.consumed takes.consumed;
    copied = keeps_on o w x (h.copied.bytes ++ piece) (appends_more o v w h.copied.bytes piece h.copied.copied (subst (λ (y : List ℕ). Appends v w y) e more)) kept;
  };
  counted = subst (λ (y : List ℕ). Counted d (h.copied.bytes ++ y)) e (feeds h.copied.bytes h.counted);
}

pub tallied_all : (count : ℕ) (c : FrameCount) (i l n o v : Option (List ℕ)) (piece : List ℕ) → Tallied c i l o v → TakesPiece l n piece → piece ≡ []
    → ((given : List ℕ) → Counted c given → IsCountOf given count) → CopiesFrames count i n o v
tallied_all count c i l n o v piece h takes none counts = record {
  all = record {
    bytes = h.copied.bytes;
    consumed = subst (λ (x : List ℕ). Consumes i n x) (append-nil h.copied.bytes)
        (consumes_more i l n h.copied.bytes [] h.copied.consumed (subst (λ (x : List ℕ). Consumes l n x) none takes.consumed));
    copied = h.copied.copied;
    end = takes.end none;
  };
  counted = counts h.copied.bytes h.counted;
}

-- ---- where it fails

pub whole_front : (a b : Option (List ℕ)) (bytes : List ℕ) → Appends a b bytes → PutsPrefix a b bytes
whole_front a b bytes h = (length bytes, subst (λ (x : List ℕ). Appends a b x) (sym (take-length bytes)) h)

consumes_kept : (a b c : Option (List ℕ)) (x : List ℕ) → Consumes a b x → Keeps b c → Consumes a c x
consumes_kept None b c x h k = tt
consumes_kept (Some xs) None c x h k = absurd h
consumes_kept (Some xs) (Some ys) None x h k = absurd k
consumes_kept (Some xs) (Some ys) (Some zs) x h k = h ∙ ap (λ (y : List ℕ). x ++ y) (sym k)

-- a read failed, and took nothing
pub copied_read : (i l n o v : Option (List ℕ)) → CopiesRead i l o v → Keeps l n → CopiesRead i n o v
copied_read i l n o v h kept = record { bytes = h.bytes; consumed = consumes_kept i l n h.bytes h.consumed kept; copied = h.copied }

-- a prefix of a piece was written
pub copied_put : (i l n o v w : Option (List ℕ)) (piece bytes : List ℕ) → CopiesRead i l o v → TakesPiece l n piece → (piece ≡ [] → ⊥) → length piece ≤ 65536 → bytes ≡ piece → PutsPrefix v w bytes → CopiesPart i n o w
copied_put i l n o v w piece bytes h takes some short e (count, put) = record {
  copied = h.bytes;
  piece = piece;
  count = count;
  some = some;
  short = short;
  consumed = consumes_more i l n h.bytes piece h.consumed takes.consumed;
  front = appends_more o v w h.bytes (take count piece) h.copied (subst (λ (x : List ℕ). Appends v w (take count x)) e put);
}

-- or all of it, and then the writer kept what it held, and failed
pub copied_kept : (i l n o v w x : Option (List ℕ)) (piece bytes : List ℕ) → CopiesRead i l o v → TakesPiece l n piece → (piece ≡ [] → ⊥) → length piece ≤ 65536 → bytes ≡ piece → Appends v w bytes → Keeps w x → CopiesPart i n o x
copied_kept i l n o v w x piece bytes h takes some short e put kept = copied_put i l n o v x piece bytes h takes some short e (whole_front v x bytes (keeps_on v w x bytes put kept))

-- so many bytes of a piece are no more than it has room for
pub piece_short : (n : ℕ) (xs : List ℕ) → n ≤ length xs → length xs ≡ 65536 → length (take n xs) ≤ 65536
piece_short n xs fits room = omega (arith, length-take-le n xs fits, fits, room)

-- a fault that is handed on is the same, and what holds of it holds there
pub until_put : {T : Type 0} (outcome : Result T Fault) (fault : ServeFault) (i l o w : Option (List ℕ)) → IsErrAnd outcome (λ f. f ≡ Stream fault) → fault ≡ streams.Write → CopiesPart i l o w → IfErr outcome (λ f. CopiesUntil f i l o w)
until_put (Ok x) fault i l o w is write h = tt
until_put (Err f) fault i l o w is write h = subst (λ (g : Fault). CopiesUntil g i l o w) (sym (is ∙ ap (λ (x : ServeFault). Stream x) write)) h

pub until_read : {T : Type 0} (outcome : Result T Fault) (fault : ServeFault) (i l o w : Option (List ℕ)) → IsErrAnd outcome (λ f. f ≡ Stream fault) → fault ≡ streams.Read → CopiesRead i l o w → IfErr outcome (λ f. CopiesUntil f i l o w)
until_read (Ok x) fault i l o w is read h = tt
until_read (Err f) fault i l o w is read h = subst (λ (g : Fault). CopiesUntil g i l o w) (sym (is ∙ ap (λ (x : ServeFault). Stream x) read)) h

-- ---- what was read, and a prefix of it was written

pub record CopiesFront (input left output written : Option (List ℕ)) : Type 0 where
  pub bytes : List ℕ
  pub consumed : Consumes input left bytes
  pub front : PutsPrefix output written bytes

read_part : (i l o w : Option (List ℕ)) → CopiesRead i l o w → CopiesFront i l o w
read_part i l o w h = record { bytes = h.bytes; consumed = h.consumed; front = whole_front o w h.bytes h.copied }

all_part : (i l o w : Option (List ℕ)) → CopiesAll i l o w → CopiesFront i l o w
all_part i l o w h = record { bytes = h.bytes; consumed = h.consumed; front = whole_front o w h.bytes h.copied }

none_part : (i l o w : Option (List ℕ)) → l ≡ i → w ≡ o → CopiesFront i l o w
none_part i l o w unread unwritten =
    subst (λ (x : Option (List ℕ)). CopiesFront i x o w) (sym unread) (subst (λ (x : Option (List ℕ)). CopiesFront i i o x) (sym unwritten) (record { bytes = []; consumed = nothing_read i; front = (0, nothing_more o) }))

until_part : (fault : Fault) (i l o w : Option (List ℕ)) → CopiesUntil fault i l o w → CopiesFront i l o w
until_part Usage i l o w h = absurd h
until_part Path i l o w h = absurd h
until_part Socket i l o w h = absurd h
until_part (Store fault) i l o w h = none_part i l o w h.1 h.2
until_part (Stream streams.Read) i l o w h = read_part i l o w h
until_part (Stream streams.Write) i l o w h = record {
  bytes = h.copied ++ h.piece;
  consumed = h.consumed;
  front = (length h.copied + h.count, subst (λ (x : List ℕ). Appends o w x) (sym (take-append-add h.copied h.piece h.count)) h.front);
}
until_part (Stream streams.Memory) i l o w h = absurd h

sent_part : (fault : Fault) (i l o w : Option (List ℕ)) → SendsUntil fault i l o w → CopiesFront i l o w
sent_part fault i l o w (inl h) = until_part fault i l o w h
sent_part fault i l o w (inr h) = all_part i l o w h.1

-- what was sent, whether that went well or not
pub sent_of : (r : Result ℕ Fault) (i l o w : Option (List ℕ)) → IfOk r (λ count. CopiesFrames count i l o w) → IfErr r (λ fault. SendsUntil fault i l o w) → CopiesFront i l o w
sent_of (Ok x) i l o w frames until = all_part i l o w frames.all
sent_of (Err fault) i l o w frames until = sent_part fault i l o w until

-- ---- frames that are sent, and answers that come back

cut : (i l o w a b s t : Option (List ℕ)) → CopiesFront i l a b → CopiesFront s t o w → SendsSome i l o w
cut i l o w a b s t sent came = record { sent = sent.bytes; consumed = sent.consumed; came = came.bytes; front = came.front }

kept_of : (o w : Option (List ℕ)) → w ≡ o → Keeps o w
kept_of o w e = subst (λ (x : Option (List ℕ)). Keeps o x) (sym e) (keeps_self o)

-- fewer answers came back than frames were sent
sends_fewer : (i l o w a b s t : Option (List ℕ)) → CopiesFront i l a b → CopiesAll s t o w → SendsSome i l o w
sends_fewer i l o w a b s t sent came = cut i l o w a b s t sent (all_part s t o w came)

-- the answers were not copied whole
answers_cut : (T : Type 0) (fault : Fault) (i l o w a b s t : Option (List ℕ)) → CopiesFront i l a b → CopiesUntil fault s t o w → SendsFrames {T = T} (Err fault) i l o w
answers_cut T Usage i l o w a b s t sent came = absurd came
answers_cut T Path i l o w a b s t sent came = absurd came
answers_cut T Socket i l o w a b s t sent came = absurd came
answers_cut T (Store fault) i l o w a b s t sent came = (came.0, inr (kept_of o w came.2), cut i l o w a b s t sent (none_part s t o w came.1 came.2))
answers_cut T (Stream streams.Read) i l o w a b s t sent came = cut i l o w a b s t sent (read_part s t o w came)
answers_cut T (Stream streams.Write) i l o w a b s t sent came = cut i l o w a b s t sent (until_part (Stream streams.Write) s t o w came)
answers_cut T (Stream streams.Memory) i l o w a b s t sent came = absurd came

-- the frames were not sent whole
frames_cut : (T : Type 0) (fault : Fault) (i l o w a b s t : Option (List ℕ)) → SendsUntil fault i l a b → CopiesAll s t o w → SendsFrames {T = T} (Err fault) i l o w
frames_cut T Usage i l o w a b s t (inl sent) came = absurd sent
frames_cut T Path i l o w a b s t (inl sent) came = absurd sent
frames_cut T Socket i l o w a b s t (inl sent) came = absurd sent
frames_cut T (Store fault) i l o w a b s t (inl sent) came = (sent.0, inl sent.1, sends_fewer i l o w a b s t (none_part i l a b sent.1 sent.2) came)
frames_cut T (Stream streams.Read) i l o w a b s t (inl sent) came = sends_fewer i l o w a b s t (read_part i l a b sent) came
frames_cut T (Stream streams.Write) i l o w a b s t (inl sent) came = sends_fewer i l o w a b s t (until_part (Stream streams.Write) i l a b sent) came
frames_cut T (Stream streams.Memory) i l o w a b s t (inl sent) came = absurd sent
frames_cut T fault i l o w a b s t (inr sent) came =
    subst (λ (f : Fault). SendsFrames {T = T} (Err f) i l o w) (sym sent.0) (sends_fewer i l o w a b s t (all_part i l a b sent.1) came)

pub sends_unanswered : {T : Type 0} (outcome : Result T Fault) (fault : Fault) (i l o w a b s t : Option (List ℕ)) → IsErrAnd outcome (λ f. f ≡ fault) → CopiesFront i l a b → CopiesUntil fault s t o w → SendsFrames outcome i l o w
sends_unanswered {T} (Ok x) fault i l o w a b s t is sent came = absurd is
sends_unanswered {T} (Err f) fault i l o w a b s t is sent came = subst (λ (g : Fault). SendsFrames {T = T} (Err g) i l o w) (sym is) (answers_cut T fault i l o w a b s t sent came)

pub sends_part : {T : Type 0} (outcome : Result T Fault) (fault : Fault) (i l o w a b s t : Option (List ℕ)) → IsErrAnd outcome (λ f. f ≡ fault) → SendsUntil fault i l a b → CopiesAll s t o w → SendsFrames outcome i l o w
sends_part {T} (Ok x) fault i l o w a b s t is sent came = absurd is
sends_part {T} (Err f) fault i l o w a b s t is sent came = subst (λ (g : Fault). SendsFrames {T = T} (Err g) i l o w) (sym is) (frames_cut T fault i l o w a b s t sent came)

is_answered : (frames answers : ℕ) (sent came : List ℕ) → IsCountOf sent frames → IsCountOf came answers → frames ≤ answers → IsAnsweredBy sent came
is_answered frames answers sent came f a enough = (f.0, a.0, f.1, a.1, omega (arith, f.2, a.2, enough))

-- all was copied both ways, and the answers were counted
pub sends_wanted : {T : Type 0} (outcome : Result T Fault) (frames answers : ℕ) (i l o w a b s t : Option (List ℕ)) → OnOk outcome (frames ≤ answers) → IfErr outcome (λ f. (f ≡ Stream streams.Read) × (answers < frames))
    → CopiesFrames frames i l a b → CopiesFrames answers s t o w → SendsFrames outcome i l o w
sends_wanted {T} (Ok x) frames answers i l o w a b s t enough fewer sent came = record {
  sent = sent.all.bytes;
  consumed = sent.all.consumed;
  end = sent.all.end;
  came = came.all.bytes;
  copied = came.all.copied;
  answered = is_answered frames answers sent.all.bytes came.all.bytes sent.counted came.counted enough;
}
sends_wanted {T} (Err f) frames answers i l o w a b s t enough fewer sent came =
    subst (λ (g : Fault). SendsFrames {T = T} (Err g) i l o w) (sym fewer.0) (sends_fewer i l o w a b s t (all_part i l a b sent.all) came.all)
