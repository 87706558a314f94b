-- A file that is printed piece by piece.
use Rattle.std.proofs.Common.{◌≡◌, ◌⊎◌, inl, inr, ℕ, zero, suc, ◌+◌, ◌<◌, ◌≤◌, min, Bool, true, false, nat_lt, List, [], ◌++◌, length, take, drop, Option, Some, None, Result, Ok, Err, refl, sym, ap, ◌∙◌, subst, arith, append-nil}
use Rattle.std.specs.Prelude.{⊤, IfErr, IsErrAnd, IsTrue}
use Rattle.std.specs.FinMap.{get}
use Rattle.std.specs.Io.KnownBytes.{Appends, Keeps}
use Rattle.std.proofs.Math.Seq.{take-add, take-length}
use Rattle.std.proofs.lemmas.Bool.{cases_lt, false≢true, lt-ltb, le-ltb}
use Rattle.std.proofs.lemmas.List.{length-take, take-append-drop, take-take, take_all}
use Rattle.limits.specs.declared.TheConstants.{FILE_BYTES}
use Rattle.model.specs.Session.{State}
use Rattle.model.specs.Tree.{Content, Node, Path, Tree}
use Rattle.model.specs.Tree.Content.{File, Directory}
use Rattle.durability.specs.Runs.{Answer, piece_read, told}
use Rattle.durability.specs.Runs as runs
use Rattle.durability.specs.Runs.Answer.{Data}
use Rattle.durability.specs.Runs.Query.{Read}
use Rattle.recover.specs.Faults.{IsShortage}
use Rattle.recover.specs.declared.fault.StoreFault.{StoreFault}
use Rattle.recover.specs.declared.fault.StoreFault.TheVariants.{Memory}
use Rattle.store.specs.Calls.{ReadRefuses}
use Rattle.engine.specs.Streams.{PutsPrefix}
use Rattle.engine.specs.declared.serving.ServeFault.{ServeFault}
use Rattle.engine.specs.declared.serving.ServeFault.TheVariants as streams
use Rattle.programs.specs.declared.fault.Fault.{Fault}
use Rattle.programs.specs.declared.fault.Fault.TheVariants as faults
use Rattle.programs.specs.Lines.{PutsBytes}
use Rattle.programs.specs.Questions.{BeginsFileAt, IsFileAt, Known, PutsFile, StopsPiece}
use Rattle.engine.proofs.Pieces.{keeps_on}
use Rattle.engine.proofs.Messages.{appends_more}
use Rattle.programs.proofs.Opening.{keeps_self, keeps_trans}

-- ---- the outcome of a piece

pub is_last : (n m : ℕ) → ((nat_lt n m ≡ true) × (n < m)) ⊎ ((nat_lt n m ≡ false) × (m ≤ n))
is_last n m = elim (cases_lt n m) [ inl low ↦ inl (lt-ltb n m low, low) | inr high ↦ inr (le-ltb n m high, high) ]

pub last_is : (b : Bool) (P Q : Type 0) → b ≡ true → ((b ≡ true) × P) ⊎ ((b ≡ false) × Q) → P
last_is b P Q so (inl (is, p)) = p
last_is b P Q so (inr (is, q)) = absurd (false≢true (sym is ∙ so))

pub stops_refused : {T : Type 0} (Is : List ℕ → Type 0) (Refuses : StoreFault → Type 0) (outcome : Result T Fault) (fault : StoreFault) (o : Option (List ℕ)) → IsErrAnd outcome (λ f. f ≡ faults.Store fault) → Refuses fault
    → IfErr outcome (λ f. StopsPiece Is Refuses f o o)
stops_refused Is Refuses (Ok x) fault o is refuses = absurd is
stops_refused Is Refuses (Err f) fault o is refuses = subst (λ (g : Fault). StopsPiece Is Refuses g o o) (sym is) (keeps_self o, refuses)

pub stops_put : {T : Type 0} (Is : List ℕ → Type 0) (Refuses : StoreFault → Type 0) (outcome : Result T Fault) (fault : ServeFault) (o w : Option (List ℕ)) (bytes : List ℕ) → IsErrAnd outcome (λ f. f ≡ faults.Stream fault) → fault ≡ streams.Write
    → PutsPrefix o w bytes → Is bytes → IfErr outcome (λ f. StopsPiece Is Refuses f o w)
stops_put Is Refuses (Ok x) fault o w bytes is write put said = absurd is
stops_put Is Refuses (Err f) fault o w bytes is write put said =
    subst (λ (g : Fault). StopsPiece Is Refuses g o w) (sym (is ∙ ap (λ (x : ServeFault). faults.Stream x) write)) (bytes, put, said)

-- ---- the file of a piece

abbrev bytes_or : List ℕ → Content → List ℕ
bytes_or other (File bytes) = bytes
bytes_or other (Directory names) = other

abbrev node_or : Node → Option Node → Node
node_or other None = other
node_or other (Some node) = node

abbrev data_or : List ℕ → Answer → List ℕ
data_or other answer = elim answer [
  | runs.Answer.Replied reply ↦ other
  | runs.Answer.IsStale latest ↦ other
  | runs.Answer.IsGap latest ↦ other
  | runs.Answer.AreClientsFull ↦ other
  | runs.Answer.Full ↦ other
  | runs.Answer.Fault ↦ other
  | runs.Answer.Memory ↦ other
  | runs.Answer.IsMalformed cause ↦ other
  | runs.Answer.Damaged ↦ other
  | runs.Answer.NotFound ↦ other
  | runs.Answer.IsDirectory ↦ other
  | runs.Answer.NotDirectory ↦ other
  | runs.Answer.TooLong ↦ other
  | runs.Answer.Data bytes ↦ bytes
  | runs.Answer.Names names ↦ other
  | runs.Answer.NodeIs directory moment size ↦ other
]

abbrev IsData : Answer → Type 0
IsData answer = elim answer [
  | runs.Answer.Replied reply ↦ ⊥
  | runs.Answer.IsStale latest ↦ ⊥
  | runs.Answer.IsGap latest ↦ ⊥
  | runs.Answer.AreClientsFull ↦ ⊥
  | runs.Answer.Full ↦ ⊥
  | runs.Answer.Fault ↦ ⊥
  | runs.Answer.Memory ↦ ⊥
  | runs.Answer.IsMalformed cause ↦ ⊥
  | runs.Answer.Damaged ↦ ⊥
  | runs.Answer.NotFound ↦ ⊥
  | runs.Answer.IsDirectory ↦ ⊥
  | runs.Answer.NotDirectory ↦ ⊥
  | runs.Answer.TooLong ↦ ⊥
  | runs.Answer.Data bytes ↦ ⊤
  | runs.Answer.Names names ↦ ⊥
  | runs.Answer.NodeIs directory moment size ↦ ⊥
]

-- a path has one file
one_file : (tree : Tree) (path : Path) (a b : List ℕ) → IsFileAt tree path a → IsFileAt tree path b → a ≡ b
one_file tree path a b (m, first, is) (n, second, has) =
    let same : m ≡ n = ap (λ (o : Option Node). node_or m o) (sym first ∙ second) in
    ap (λ (c : Content). bytes_or a c) (sym is ∙ ap (λ (x : Node). x.content) same ∙ has)

-- a piece is one of the file at the path
file_read : (tree : Tree) (path : Path) (offset count : ℕ) (piece : List ℕ) → told tree (Read path offset count) ≡ Data piece → (all : List ℕ) × IsFileAt tree path all × (piece ≡ take count (drop offset all))
file_read tree path offset count piece = by (get tree path) refl
  where
    within : (node : Node) (content : Content) → get tree path ≡ Some node → node.content ≡ content → piece_read offset count (Some node) ≡ Data piece → (all : List ℕ) × IsFileAt tree path all × (piece ≡ take count (drop offset all))
    within node (File all) there is read =
        let shown : piece_read offset count (Some node) ≡ Data (take count (drop offset all)) = ap (λ (c : Content). piece_read offset count (Some (record node { content = c }))) is in
        (all, (node, there, is), ap (λ (a : Answer). data_or piece a) (sym read ∙ shown))
    within node (Directory names) there is read =
        let shown : piece_read offset count (Some node) ≡ runs.Answer.IsDirectory = ap (λ (c : Content). piece_read offset count (Some (record node { content = c }))) is in
        absurd (subst IsData (sym read ∙ shown) tt)

    by : (found : Option Node) → get tree path ≡ found → piece_read offset count (get tree path) ≡ Data piece → (all : List ℕ) × IsFileAt tree path all × (piece ≡ take count (drop offset all))
    by None none read = absurd (subst IsData (sym read ∙ ap (λ (o : Option Node). piece_read offset count o) none) tt)
    by (Some node) there read = within node node.content there refl (sym (ap (λ (o : Option Node). piece_read offset count o) there) ∙ read)

-- and where there is a file, a piece is not refused for the path
never_refused : (tree : Tree) (path : Path) (offset count : ℕ) (all : List ℕ) (fault : StoreFault) → IsFileAt tree path all → ReadRefuses (told tree (Read path offset count)) fault → IsShortage fault
never_refused tree path offset count all fault (node, there, is) refuses = by refuses
  where
    shown : told tree (Read path offset count) ≡ Data (take count (drop offset all))
    shown = ap (λ (o : Option Node). piece_read offset count o) there ∙ ap (λ (c : Content). piece_read offset count (Some (record node { content = c }))) is

    by : ReadRefuses (told tree (Read path offset count)) fault → IsShortage fault
    by (inl short) = short
    by (inr (inl missing)) = absurd (subst IsData (sym shown ∙ missing.1) tt)
    by (inr (inr directory)) = absurd (subst IsData (sym shown ∙ directory.1) tt)

-- ---- what was printed up to an offset

-- these are the bytes of the file before the offset, which is at its beginning where no piece was read yet
abbrev pub AreBefore : Tree → Path → ℕ → List ℕ → Type 0
AreBefore tree path offset bytes = ((offset ≡ 0) × (bytes ≡ [])) ⊎ ((all : List ℕ) × IsFileAt tree path all × (bytes ≡ take offset all))

module _ (tree : Tree) (path : Path) (offset : ℕ) (bytes piece : List ℕ) where
  -- the file that both are of
  both : AreBefore tree path offset bytes → told tree (Read path offset FILE_BYTES) ≡ Data piece → (all : List ℕ) × IsFileAt tree path all × (bytes ≡ take offset all) × (piece ≡ take FILE_BYTES (drop offset all))
  both (inl (none, empty)) read = let (all, is, part) = file_read tree path offset FILE_BYTES piece read in
      (all, is, empty ∙ sym (ap (λ (n : ℕ). take n all) none), part)
  both (inr (all, is, before)) read = let (other, has, part) = file_read tree path offset FILE_BYTES piece read in
      let same = one_file tree path other all has is in
      (all, is, before, part ∙ ap (λ (xs : List ℕ). take FILE_BYTES (drop offset xs)) same)

  pub before_more : AreBefore tree path offset bytes → told tree (Read path offset FILE_BYTES) ≡ Data piece → AreBefore tree path (offset + FILE_BYTES) (bytes ++ piece)
  before_more before read = let (all, is, first, part) = both before read in
      inr (all, is, ap (λ (xs : List ℕ). xs ++ piece) first ∙ ap (λ (xs : List ℕ). take offset all ++ xs) part ∙ sym (take-add offset FILE_BYTES all))

  -- the last piece
  pub before_all : AreBefore tree path offset bytes → told tree (Read path offset FILE_BYTES) ≡ Data piece → length piece < FILE_BYTES → IsFileAt tree path (bytes ++ piece)
  before_all before read short = let (all, is, first, part) = both before read in
      let rest : piece ≡ drop offset all = part ∙ whole (drop offset all) (subst (λ (xs : List ℕ). length xs < FILE_BYTES) part short) in
      subst (λ (xs : List ℕ). IsFileAt tree path xs) (sym (ap (λ (xs : List ℕ). xs ++ piece) first ∙ ap (λ (xs : List ℕ). take offset all ++ xs) rest ∙ take-append-drop offset all)) is
    where
      whole : (xs : List ℕ) → length (take FILE_BYTES xs) < FILE_BYTES → take FILE_BYTES xs ≡ xs
      whole xs few = elim (cases_lt (length xs) FILE_BYTES) [
        | inl low ↦ take_all FILE_BYTES xs (omega (arith, low))
        | inr high ↦ absurd (omega (arith, few, length-take FILE_BYTES xs, high))
      ]

  -- a prefix of the piece
  pub before_part : (count : ℕ) → AreBefore tree path offset bytes → told tree (Read path offset FILE_BYTES) ≡ Data piece → BeginsFileAt tree path (bytes ++ take count piece)
  before_part count before read = let (all, is, first, part) = both before read in
      let taken : take count piece ≡ take (min count FILE_BYTES) (drop offset all) = ap (λ (xs : List ℕ). take count xs) part ∙ take_both count FILE_BYTES (drop offset all) in
      (all, is, offset + min count FILE_BYTES, ap (λ (xs : List ℕ). xs ++ take count piece) first ∙ ap (λ (xs : List ℕ). take offset all ++ xs) taken ∙ sym (take-add offset (min count FILE_BYTES) all))
    where
      take_both : (n m : ℕ) (xs : List ℕ) → take n (take m xs) ≡ take (min n m) xs
      take_both n m xs = elim (cases_lt n m) [
        | inl low ↦ take-take n m xs (omega (arith, low)) ∙ ap (λ (k : ℕ). take k xs) (let e : n ≡ min n m = omega (arith, low) in e)
        | inr high ↦ take_all n (take m xs) (omega (arith, high, length-take m xs)) ∙ ap (λ (k : ℕ). take k xs) (let e : m ≡ min n m = omega (arith, high) in e)
      ]

-- where something was read, the bytes before the offset begin the file
pub before_begins : (tree : Tree) (path : Path) (offset : ℕ) (bytes : List ℕ) → 0 < offset → AreBefore tree path offset bytes → BeginsFileAt tree path bytes
before_begins tree path offset bytes some (inl (none, empty)) = absurd (omega (arith, some, none))
before_begins tree path offset bytes some (inr (all, is, before)) = (all, is, offset, before)

-- and no later piece is refused for the path
pub before_short : (tree : Tree) (path : Path) (offset : ℕ) (bytes : List ℕ) (fault : StoreFault) → 0 < offset → AreBefore tree path offset bytes → ReadRefuses (told tree (Read path offset FILE_BYTES)) fault → IsShortage fault
before_short tree path offset bytes fault some (inl (none, empty)) refuses = absurd (omega (arith, some, none))
before_short tree path offset bytes fault some (inr (all, is, before)) refuses = never_refused tree path offset FILE_BYTES all fault is refuses

-- ---- by what a store knows

-- what was printed of a file
abbrev pub PutsKnown : {T : Type 0} → (ℕ → State → Type 0) → Bool → Path → Result T Fault → Option (List ℕ) → Option (List ℕ) → Type 0
PutsKnown Knows honest path outcome o w = PutsFile (λ bytes. Known Knows honest (λ S. IsFileAt S.tree path bytes)) (λ front. Known Knows honest (λ S. BeginsFileAt S.tree path front))
    (λ refusal. Known Knows honest (λ S. ReadRefuses (told S.tree (Read path 0 FILE_BYTES)) refusal)) (λ refusal. Known Knows honest (λ S. IsShortage refusal)) outcome o w

-- So much was printed. On each state that the store knew it is what comes before the offset.
pub record Printed (Knows : ℕ → State → Type 0) (honest : Bool) (path : Path) (offset : ℕ) (o w : Option (List ℕ)) : Type 0 where
  pub bytes : List ℕ
  pub appended : Appends o w bytes
  pub empty : offset ≡ 0 → Keeps o w
  pub before : Known Knows honest (λ S. AreBefore S.tree path offset bytes)

nothing_taken : (n : ℕ) → take {A = ℕ} n [] ≡ []
nothing_taken zero = refl
nothing_taken (suc n) = refl

appends_none : (a : Option (List ℕ)) → Appends a a []
appends_none None = tt
appends_none (Some xs) = sym (append-nil xs)

pub printed_none : (Knows : ℕ → State → Type 0) (honest : Bool) (path : Path) (o : Option (List ℕ)) → Printed Knows honest path 0 o o
printed_none Knows honest path o = record { bytes = []; appended = appends_none o; empty = λ none. keeps_self o; before = λ volume S sure knows. inl (refl, refl) }

module _ (Knows Knows' : ℕ → State → Type 0) (first later : Bool) (path : Path) (offset : ℕ) (o v w : Option (List ℕ)) (printed : Printed Knows first path offset o v) (still : IsTrue later → IsTrue first) (again : (volume : ℕ) (S : State) → IsTrue first → Knows volume S → Knows' volume S) where
  known : (S : State) (volume : ℕ) → IsTrue later → Knows volume S → AreBefore S.tree path offset printed.bytes
  known S volume sure knows = printed.before volume S (still sure) knows

  module _ (piece : List ℕ) (is : Known Knows' later (λ S. told S.tree (Read path offset FILE_BYTES) ≡ Data piece)) where
    read : (S : State) (volume : ℕ) → IsTrue later → Knows volume S → told S.tree (Read path offset FILE_BYTES) ≡ Data piece
    read S volume sure knows = is volume S sure (again volume S (still sure) knows)

    -- a piece that others follow
    pub printed_more : Appends v w piece → Printed Knows later path (offset + FILE_BYTES) o w
    printed_more put = record {
      bytes = printed.bytes ++ piece;
      appended = appends_more o v w printed.bytes piece printed.appended put;
      empty = λ none. absurd (omega (arith, none));
      before = λ volume S sure knows. before_more S.tree path offset printed.bytes piece (known S volume sure knows) (read S volume sure knows);
    }

    -- the last one, after which the output is flushed
    pub puts_last : {T : Type 0} (Refuses Ends : StoreFault → Type 0) (outcome : Result T Fault) (x : Option (List ℕ)) → length piece < FILE_BYTES → Appends v w piece → PutsBytes outcome w x []
        → PutsFile (λ bytes. Known Knows later (λ S. IsFileAt S.tree path bytes)) (λ front. Known Knows later (λ S. BeginsFileAt S.tree path front)) Refuses Ends outcome o x
    puts_last Refuses Ends outcome x short put flushed = by outcome flushed
      where
        all : List ℕ
        all = printed.bytes ++ piece

        up_to : Appends o w all
        up_to = appends_more o v w printed.bytes piece printed.appended put

        file : Known Knows later (λ S. IsFileAt S.tree path all)
        file volume S sure knows = before_all S.tree path offset printed.bytes piece (known S volume sure knows) (read S volume sure knows) short

        by : {T : Type 0} (result : Result T Fault) → PutsBytes result w x [] → PutsFile (λ bytes. Known Knows later (λ S. IsFileAt S.tree path bytes)) (λ front. Known Knows later (λ S. BeginsFileAt S.tree path front)) Refuses Ends result o x
        by (Ok y) puts = (all ++ [], appends_more o w x all [] up_to puts, λ volume S sure knows. subst (λ (xs : List ℕ). IsFileAt S.tree path xs) (sym (append-nil all)) (file volume S sure knows))
        by (Err faults.Usage) puts = puts
        by (Err faults.Path) puts = puts
        by (Err faults.Socket) puts = puts
        by (Err (faults.Store fault)) puts = absurd puts
        by (Err (faults.Stream streams.Read)) puts = puts
        by (Err (faults.Stream streams.Write)) (count, puts) =
            (all ++ take count [], appends_more o w x all (take count []) up_to puts, λ volume S sure knows. (all, file volume S sure knows, length all, ap (λ (xs : List ℕ). all ++ xs) (nothing_taken count) ∙ append-nil all ∙ sym (take-length all)))
        by (Err (faults.Stream streams.Memory)) puts = puts

  -- a piece that was not printed whole
  pub puts_stopped : {T : Type 0} (outcome : Result T Fault) (fault : Fault) → IsErrAnd outcome (λ f. f ≡ fault)
      → StopsPiece (λ piece. Known Knows' later (λ S. told S.tree (Read path offset FILE_BYTES) ≡ Data piece)) (λ refusal. Known Knows' later (λ S. ReadRefuses (told S.tree (Read path offset FILE_BYTES)) refusal)) fault v w
      → PutsFile (λ bytes. Known Knows later (λ S. IsFileAt S.tree path bytes)) (λ front. Known Knows later (λ S. BeginsFileAt S.tree path front))
      (λ refusal. Known Knows later (λ S. ReadRefuses (told S.tree (Read path 0 FILE_BYTES)) refusal)) (λ refusal. Known Knows later (λ S. IsShortage refusal)) outcome o w
  puts_stopped (Ok x) fault is stops = absurd is
  puts_stopped {T} (Err f) fault is stops = subst (λ (g : Fault). PutsKnown {T = T} Knows later path (Err g) o w) (sym is) (by fault stops)
    where
      at : (n : ℕ) → offset ≡ n → (refusal : StoreFault) → Keeps v w → Known Knows' later (λ S. ReadRefuses (told S.tree (Read path offset FILE_BYTES)) refusal) → PutsKnown {T = T} Knows later path (Err (faults.Store refusal)) o w
      at zero here refusal kept refuses =
          inl (keeps_trans o v w (printed.empty here) kept, λ volume S sure knows. subst (λ (n : ℕ). ReadRefuses (told S.tree (Read path n FILE_BYTES)) refusal) here (refuses volume S sure (again volume S (still sure) knows)))
      at (suc n) here refusal kept refuses =
          let some : 0 < offset = omega (arith, here) in
          inr (
            printed.bytes,
            keeps_on o v w printed.bytes printed.appended kept,
            (λ volume S sure knows. before_begins S.tree path offset printed.bytes some (known S volume sure knows)),
            (λ volume S sure knows. before_short S.tree path offset printed.bytes refusal some (known S volume sure knows) (refuses volume S sure (again volume S (still sure) knows))),
          )

      by : (g : Fault) → StopsPiece (λ piece. Known Knows' later (λ S. told S.tree (Read path offset FILE_BYTES) ≡ Data piece)) (λ refusal. Known Knows' later (λ S. ReadRefuses (told S.tree (Read path offset FILE_BYTES)) refusal)) g v w → PutsKnown {T = T} Knows later path (Err g) o w
      by faults.Usage h = h
      by faults.Path h = h
      by faults.Socket h = h
      by (faults.Store refusal) (kept, refuses) = at offset refl refusal kept refuses
      by (faults.Stream streams.Read) h = h
      by (faults.Stream streams.Write) (piece, (count, put), said) = (
        printed.bytes ++ take count piece,
        appends_more o v w printed.bytes (take count piece) printed.appended put,
        λ volume S sure knows. before_part S.tree path offset printed.bytes piece count (known S volume sure knows) (said volume S sure (again volume S (still sure) knows)),
      )
      by (faults.Stream streams.Memory) h = h

-- no piece was the last
pub puts_endless : (T : Type 0) (Knows : ℕ → State → Type 0) (honest : Bool) (path : Path) (offset : ℕ) (o w : Option (List ℕ)) → Printed Knows honest path offset o w → 0 < offset
    → PutsFile {T = T} (λ bytes. Known Knows honest (λ S. IsFileAt S.tree path bytes)) (λ front. Known Knows honest (λ S. BeginsFileAt S.tree path front))
    (λ refusal. Known Knows honest (λ S. ReadRefuses (told S.tree (Read path 0 FILE_BYTES)) refusal)) (λ refusal. Known Knows honest (λ S. IsShortage refusal)) (Err (faults.Store Memory)) o w
puts_endless T Knows honest path offset o w printed some =
    inr (printed.bytes, printed.appended, (λ volume S sure knows. before_begins S.tree path offset printed.bytes some (printed.before volume S sure knows)), λ volume S sure knows. inr refl)
