-- Connections of a listener that are served one after another.
use Rattle.std.proofs.Common.{◌≡◌, ◌⊎◌, inl, inr, ℕ, ◌+◌, ◌-◌, ◌^◌, min, List, [], ◌∷◌, ◌++◌, length, Option, Some, None, Result, Ok, Err, refl, sym, ap, ◌∙◌, subst, arith, append_assoc, append-nil, length-append, true, Bool}
use Rattle.std.specs.Prelude.{IfErr, IfNone, IfSome, IsSomeAnd, OnOk, false, nat_lt}
use Rattle.std.specs.List.{flat_map}
use Rattle.drive.specs.Gathering.{Gathering}
use Rattle.drive.specs.Journal.{Event, counted}
use Rattle.drive.specs.Reads.{CountsFailures, one_if}
use Rattle.std.proofs.Math.Seq.{take-length}
use Rattle.engine.specs.Served.{frames_of}
use Rattle.engine.specs.Situation.{Situation, situation}
use Rattle.engine.specs.declared.serving.ServeFault.{ServeFault}
use Rattle.engine.specs.declared.serving.ServeFault.TheVariants as streams
use Rattle.grouping.specs.Served.{AreGroups, Group, answers_of}
use Rattle.grouping.specs.Streams.{ServesGroups, ServesGroupsUntil}
use Rattle.grouping.proofs.Cutting.{groups_are_lives}
use Rattle.grouping.proofs.Running.{groups_run}
use Rattle.grouping.proofs.Streams.{are_append}
use Rattle.grouping.proofs.Withstanding.{groups_withstand}
use Rattle.store.specs.declared.store.Store as stored
use Rattle.programs.specs.declared.fault.Fault.{Fault}
use Rattle.programs.specs.declared.fault.Fault.TheVariants.{Usage, Path, Socket, Store, Stream}
use Rattle.programs.specs.Connections.{ServesMessages, LeavesStream}
use Rattle.programs.specs.Inputs.{most_at_once, CountsReads, is_read_refused}
use Rattle.programs.specs.Listening.{AllHeard, CountsAll, EndsBy, EndsOne, Heard, IsHeard, IsOneRun, IsServed, LetsGo, ServesList}
use Rattle.programs.specs.Outputs.{IsBlank, known}
use Rattle.programs.specs.Tasks.{IsPrefixOf}
use Rattle.programs.proofs.Copying.{whole_front}
use Rattle.programs.proofs.Going.{goes_none}

-- ---- the messages that connections bring

prefix_self : (w : Option (List ℕ)) → IsPrefixOf w w
prefix_self None = tt
prefix_self (Some bytes) = (length bytes, sym (take-length bytes))

module _ (before : Situation) (begun : Gathering) (afterwards : Situation) (finished : Gathering) (input written : Option (List ℕ)) where
  abbrev Heard_of : Type 0
  Heard_of = (groups : List Group) × AreGroups groups before begun afterwards finished × IsHeard input written groups

  all_heard : (left output gathered : Option (List ℕ)) → IsBlank output → IsPrefixOf gathered written → ServesGroups most_at_once before begun afterwards finished input left output gathered → Heard_of
  all_heard left output gathered blank is h = (
    h.serving.groups,
    h.serving.are,
    inr (record {
      left = left;
      output = output;
      gathered = gathered;
      blank = blank;
      bytes = h.serving.bytes;
      reader = h.reader;
      consumed = h.serving.consumed;
      messages_are = h.serving.messages_are;
      front = whole_front output gathered (frames_of (answers_of h.serving.groups)) h.serving.told;
      written_is = is;
    }),
  )

  some_heard : (fault : ServeFault) (left output gathered : Option (List ℕ)) → IsBlank output → IsPrefixOf gathered written → ServesGroupsUntil fault before begun afterwards finished input left output gathered → Heard_of
  some_heard fault left output gathered blank is h = (
    h.groups,
    h.are,
    inr (record {
      left = left;
      output = output;
      gathered = gathered;
      blank = blank;
      bytes = h.bytes;
      reader = h.reader;
      consumed = h.consumed;
      messages_are = h.messages_are;
      front = h.front;
      written_is = is;
    }),
  )

  front_heard : (fault : ServeFault) (left output gathered : Option (List ℕ)) → IsBlank output → IsPrefixOf gathered written
      → ServesGroupsUntil fault before begun afterwards finished input left output gathered ⊎ ((fault ≡ streams.Write) × ServesGroups most_at_once before begun afterwards finished input left output gathered) → Heard_of
  front_heard fault left output gathered blank is (inl h) = some_heard fault left output gathered blank is h
  front_heard fault left output gathered blank is (inr h) = all_heard left output gathered blank is h.1

  ended_heard : {T : Type 0} (outcome : Result T Fault) (left output : Option (List ℕ)) → IsBlank output → EndsBy outcome before begun afterwards finished input left output written → Heard_of
  ended_heard (Ok x) left output blank h = all_heard left output written blank (prefix_self written) h
  ended_heard (Err Usage) left output blank h = absurd h
  ended_heard (Err Path) left output blank h = absurd h
  ended_heard (Err Socket) left output blank h = ([], h.0, inl (refl, inr (subst IsBlank (sym h.1) blank)))
  ended_heard (Err (Store fault)) left output blank h = absurd h
  ended_heard (Err (Stream fault)) left output blank h = front_heard fault left output h.gathered blank h.front h.serves

  one_heard : {T : Type 0} (outcome : Result T Fault) (left output : Option (List ℕ)) → IsBlank output → EndsBy outcome before begun afterwards finished input left output written ⊎ ((written ≡ None) × LetsGo outcome before begun afterwards finished) → Heard_of
  one_heard outcome left output blank (inl h) = ended_heard outcome left output blank h
  one_heard outcome left output blank (inr h) = ([], h.1.1, inl (refl, inl h.0))

list_heard : (inputs outputs : List (Option (List ℕ))) (failed : ℕ) (before : Situation) (begun : Gathering) (afterwards : Situation) (finished : Gathering) → ServesList inputs outputs failed before begun afterwards finished
    → (groups : List Group) × AreGroups groups before begun afterwards finished × AllHeard inputs outputs groups
list_heard [] [] failed before begun afterwards finished h = ([], h.0, refl)
list_heard [] (w ∷ outputs) failed before begun afterwards finished h = absurd h
list_heard (i ∷ inputs) [] failed before begun afterwards finished h = absurd h
list_heard (i ∷ inputs) (w ∷ outputs) failed before begun afterwards finished (during, meanwhile, outcome, one, others, sum, rest) =
    let first = one_heard before begun during meanwhile i w outcome one.left one.output one.blank one.ends in
    let later = list_heard inputs outputs others during meanwhile afterwards finished rest in (
      first.0 ++ later.0,
      are_append first.0 later.0 before begun during meanwhile afterwards finished first.1 later.1,
      (first.0, later.0, refl, first.2, later.2),
    )

-- connections that were served one after another are one run
pub one_run : (inputs outputs : List (Option (List ℕ))) (failed : ℕ) (before : Situation) (begun : Gathering) (afterwards : Situation) (finished : Gathering) → ServesList inputs outputs failed before begun afterwards finished → IsOneRun inputs outputs before begun afterwards finished
one_run inputs outputs failed before begun afterwards finished h =
    let all = list_heard inputs outputs failed before begun afterwards finished h in
    record {
      groups = all.0;
      heard = all.2;
      are = all.1;
      run = groups_run all.0 before begun afterwards finished all.1;
      withstand = groups_withstand all.0 before begun afterwards finished all.1;
      lives = groups_are_lives all.0 before begun afterwards finished all.1;
    }

-- ---- so far

-- what was served so far, of so many connections, in so many tries
pub record Hearing (connections left tries : ℕ) (old new : Heard) (before : Situation) (begun : Gathering) (afterwards : Situation) (finished : Gathering) : Type 0 where
  pub inputs : List (Option (List ℕ))
  pub outputs : List (Option (List ℕ))
  pub given : new.given ≡ old.given ++ inputs
  pub ended : new.ended ≡ old.ended ++ flat_map known outputs
  pub refused : ℕ
  pub served : ServesList inputs outputs refused before begun afterwards finished
  pub reads : CountsAll refused old.failed new.failed
  pub run : IsOneRun inputs outputs before begun afterwards finished
  pub failed : ℕ
  pub missed : CountsFailures failed old.missed new.missed
  pub total : length inputs + failed ≡ tries
  pub rest : length inputs + left ≡ connections

pub hearing_none : (connections : ℕ) (heard : Heard) (before : Situation) (begun : Gathering) → Hearing connections connections 0 heard heard before begun before begun
hearing_none connections heard before begun = record {
  inputs = [];
  outputs = [];
  given = sym (append-nil heard.given);
  ended = sym (append-nil heard.ended);
  refused = 0;
  served = ((refl, refl), refl);
  reads = λ low. omega arith;
  run = one_run [] [] 0 before begun before begun ((refl, refl), refl);
  failed = 0;
  missed = λ low. omega arith;
  total = refl;
  rest = omega arith;
}

-- an engine that is new has no store
pub hearing_new : (connections : ℕ) (heard : Heard) (store : Option stored.Store) (J : List Event) (failures capacity : ℕ) (honest : Bool) (writes : List (List (List ℕ))) (begun : Gathering) → store ≡ None
    → Hearing connections connections 0 heard heard (situation None J failures capacity honest writes) begun (situation store J failures capacity honest writes) begun
hearing_new connections heard store J failures capacity honest writes begun e =
    subst (λ (s : Option stored.Store). Hearing connections connections 0 heard heard (situation s J failures capacity honest writes) begun (situation store J failures capacity honest writes) begun) e
    (hearing_none connections heard (situation store J failures capacity honest writes) begun)

one_more : (old now next failed : ℕ) → CountsFailures failed old now → next ≡ min (now + 1) (2 ^ 64 - 1) → CountsFailures (failed + 1) old next
one_more old now next failed h e low = omega (arith, e, low, h (omega (arith, e, low)))

reads_more : (old now next n : ℕ) (is : Bool) → CountsAll n old now → next ≡ counted is now → CountsAll (n + one_if is) old next
reads_more old now next n true h e low = omega (arith, e, low, h (omega (arith, e, low)))
reads_more old now next n false h e low = omega (arith, e, low, h (omega (arith, e, low)))

-- a try that gave no connection
pub hearing_missed : (connections left tries : ℕ) (old now next : Heard) (before : Situation) (begun : Gathering) (during : Situation) (meanwhile : Gathering) → Hearing connections left tries old now before begun during meanwhile → next.given ≡ now.given → next.ended ≡ now.ended → next.missed ≡ counted true now.missed
    → next.failed ≡ now.failed → Hearing connections left (tries + 1) old next before begun during meanwhile
hearing_missed connections left tries old now next before begun during meanwhile h given ended missed read = record {
  inputs = h.inputs;
  outputs = h.outputs;
  given = given ∙ h.given;
  ended = ended ∙ h.ended;
  refused = h.refused;
  served = h.served;
  reads = subst (λ (n : ℕ). CountsAll h.refused old.failed n) (sym read) h.reads;
  run = h.run;
  failed = h.failed + 1;
  missed = λ low. one_more old.missed now.missed next.missed h.failed h.missed missed low;
  total = omega (arith, h.total);
  rest = h.rest;
}

last_more : (failed k : ℕ) → failed ≡ 0 → failed + k ≡ k + 0
last_more failed k none = omega (arith, none)

later_more : (failed first later k : ℕ) → failed ≡ first + later → failed + k ≡ first + (later + k)
later_more failed first later k sum = omega (arith, sum)

serves_more : (inputs outputs : List (Option (List ℕ))) (failed : ℕ) (input written : Option (List ℕ)) (outcome : Result (Unit {0}) Fault) (before : Situation) (begun : Gathering) (during : Situation) (meanwhile : Gathering) (afterwards : Situation) (finished : Gathering)
    → ServesList inputs outputs failed before begun during meanwhile → IsServed outcome input written during meanwhile afterwards finished
    → ServesList (inputs ++ input ∷ []) (outputs ++ written ∷ []) (failed + one_if (is_read_refused outcome)) before begun afterwards finished
serves_more [] [] failed input written outcome before begun during meanwhile afterwards finished (same, none) one = (
  afterwards,
  finished,
  outcome,
  subst (λ (s : Situation). IsServed outcome input written s begun afterwards finished) same.0
      (subst (λ (g : Gathering). IsServed outcome input written during g afterwards finished) same.1 one),
  0,
  last_more failed (one_if (is_read_refused outcome)) none,
  ((refl, refl), refl),
)
serves_more [] (w ∷ outputs) failed input written outcome before begun during meanwhile afterwards finished h one = absurd h
serves_more (i ∷ inputs) [] failed input written outcome before begun during meanwhile afterwards finished h one = absurd h
serves_more (i ∷ inputs) (w ∷ outputs) failed input written outcome before begun during meanwhile afterwards finished (next, so_far, told, first, later, sum, rest) one = (
  next,
  so_far,
  told,
  first,
  later + one_if (is_read_refused outcome),
  later_more failed (one_if (is_read_refused told)) later (one_if (is_read_refused outcome)) sum,
  serves_more inputs outputs later input written outcome next so_far during meanwhile afterwards finished rest one,
)

known_more : (outputs : List (Option (List ℕ))) (written : Option (List ℕ)) → flat_map known outputs ++ known written ≡ flat_map known (outputs ++ written ∷ [])
known_more [] written = sym (append-nil (known written))
known_more (o ∷ outputs) written = append_assoc (known o) (flat_map known outputs) (known written) ∙ ap (λ (l : List (List ℕ)). known o ++ l) (known_more outputs written)

-- a connection that was given, served and ended
pub hearing_more : (outcome : Result (Unit {0}) Fault) (connections left less tries : ℕ) (old now between next : Heard) (before : Situation) (begun : Gathering) (during : Situation) (meanwhile : Gathering) (afterwards : Situation) (finished : Gathering) (input : Option (List ℕ)) → Hearing connections left tries old now before begun during meanwhile
    → between.given ≡ now.given ++ input ∷ [] → between.ended ≡ now.ended → between.missed ≡ now.missed → between.failed ≡ now.failed → EndsOne outcome input between next during meanwhile afterwards finished → less + 1 ≡ left
    → Hearing connections less (tries + 1) old next before begun afterwards finished
hearing_more outcome connections left less tries old now between next before begun during meanwhile afterwards finished input h given ended missed read one fewer = record {
  inputs = h.inputs ++ input ∷ [];
  outputs = h.outputs ++ one.written ∷ [];
  given = one.given ∙ given ∙ ap (λ (l : List (Option (List ℕ))). l ++ input ∷ []) h.given ∙ append_assoc old.given h.inputs (input ∷ []);
  ended = one.ended ∙ ap (λ (l : List (List ℕ)). l ++ known one.written) (ended ∙ h.ended) ∙ append_assoc old.ended (flat_map known h.outputs) (known one.written) ∙ ap (λ (l : List (List ℕ)). old.ended ++ l) (known_more h.outputs one.written);
  refused = h.refused + one_if (is_read_refused outcome);
  served = serves_more h.inputs h.outputs h.refused input one.written outcome before begun during meanwhile afterwards finished h.served one.is;
  reads = reads_more old.failed now.failed next.failed h.refused (is_read_refused outcome) h.reads (one.failed ∙ ap (λ (n : ℕ). counted (is_read_refused outcome) n) read);
  run = one_run (h.inputs ++ input ∷ []) (h.outputs ++ one.written ∷ []) (h.refused + one_if (is_read_refused outcome)) before begun afterwards finished
      (serves_more h.inputs h.outputs h.refused input one.written outcome before begun during meanwhile afterwards finished h.served one.is);
  failed = h.failed;
  missed = subst (λ (n : ℕ). CountsFailures h.failed old.missed n) (sym (one.missed ∙ missed)) h.missed;
  total = omega (arith, h.total, length-append h.inputs (input ∷ []));
  rest = omega (arith, h.rest, fewer, length-append h.inputs (input ∷ []));
}

-- ---- how one connection ended

ends_by : {T : Type 0} (outcome : Result T Fault) (before : Situation) (begun : Gathering) (afterwards : Situation) (finished : Gathering) (input left output written : Option (List ℕ)) → OnOk outcome (ServesGroups most_at_once before begun afterwards finished input left output written)
    → IfErr outcome (λ fault. LeavesStream fault before begun afterwards finished input left output written) → EndsBy outcome before begun afterwards finished input left output written
ends_by (Ok x) before begun afterwards finished input left output written all front = all
ends_by (Err Usage) before begun afterwards finished input left output written all front = front
ends_by (Err Path) before begun afterwards finished input left output written all front = front
ends_by (Err Socket) before begun afterwards finished input left output written all front = absurd front
ends_by (Err (Store fault)) before begun afterwards finished input left output written all front = front
ends_by (Err (Stream fault)) before begun afterwards finished input left output written all front = front

-- a read of it failed exactly if that is why it was left
failed_by : (is : Bool) (count old new : ℕ) → count ≡ counted is 0 → new ≡ counted (nat_lt 0 count) old → new ≡ counted is old
failed_by true count old new e h = h ∙ ap (λ (n : ℕ). counted (nat_lt 0 n) old) e
failed_by false count old new e h = h ∙ ap (λ (n : ℕ). counted (nat_lt 0 n) old) e

-- its streams were served, and its output is there
pub ends_some : {T O I : Type 0} (contents : O → Option (List ℕ)) (remaining : I → Option (List ℕ)) (outcome : Result T Fault) (o : Option O) (w : O) (input stream : I) (old new : Heard) (left output : Option (List ℕ)) (before : Situation) (begun : Gathering) (afterwards : Situation) (finished : Gathering) → o ≡ Some w → IsBlank output → ServesMessages before begun afterwards finished
    → OnOk outcome (IsSomeAnd o (λ x. ServesGroups most_at_once before begun afterwards finished (remaining stream) left output (contents x))) → IfErr outcome (λ fault. IfSome o (λ x. LeavesStream fault before begun afterwards finished (remaining stream) left output (contents x)))
    → new.ended ≡ old.ended ++ known (contents w) → new.given ≡ old.given → new.missed ≡ old.missed
    → stream ≡ input → (first count : ℕ) → first ≡ 0 → CountsReads outcome first count → new.failed ≡ counted (nat_lt 0 count) old.failed → EndsOne outcome (remaining input) old new before begun afterwards finished
ends_some {T = T} {O = O} {I = I} contents remaining outcome o w input stream old new left output before begun afterwards finished is blank goes all front ended given missed same first count none counts failed = record {
  written = contents w;
  given = given;
  missed = missed;
  ended = ended;
  failed = failed_by (is_read_refused outcome) count old.failed new.failed (counts ∙ ap (λ (n : ℕ). counted (is_read_refused outcome) n) none) failed;
  is = record {
    left = left;
    output = output;
    blank = blank;
    ends = inl (subst (λ (x : I). EndsBy outcome before begun afterwards finished (remaining x) left output (contents w)) same
        (ends_by outcome before begun afterwards finished (remaining stream) left output (contents w) (subst (λ (x : Option O). OnOk outcome (IsSomeAnd x (λ y. ServesGroups most_at_once before begun afterwards finished (remaining stream) left output (contents y)))) is all)
        (subst (λ (x : Option O). IfErr outcome (λ fault. IfSome x (λ y. LeavesStream fault before begun afterwards finished (remaining stream) left output (contents y)))) is front)));
    goes = goes;
  };
}

-- or was let go
pub ends_none : {T O : Type 0} (outcome : Result T Fault) (o : Option O) (heard : Heard) (input output : Option (List ℕ)) (before : Situation) (begun : Gathering) (afterwards : Situation) (finished : Gathering) → o ≡ None → IsBlank output → ServesMessages before begun afterwards finished → IfNone o (LetsGo outcome before begun afterwards finished)
    → EndsOne outcome input heard heard before begun afterwards finished
ends_none {T = T} {O = O} outcome o heard input output before begun afterwards finished is blank goes let_go =
    let gone : LetsGo outcome before begun afterwards finished = subst (λ (x : Option O). IfNone x (LetsGo outcome before begun afterwards finished)) is let_go in
    record {
      written = None;
      given = refl;
      missed = refl;
      ended = sym (append-nil heard.ended);
      failed = ap (λ (r : Result T Fault). counted (is_read_refused r) heard.failed) (sym gone.0);
      is = record { left = input; output = output; blank = blank; ends = inr (refl, gone); goes = goes };
    }

-- or the connection could not be limited, and nothing was done
pub ends_unlimited : {T : Type 0} (old new : Heard) (input output : Option (List ℕ)) (before : Situation) (begun : Gathering) → IsBlank output → new.ended ≡ old.ended ++ known output → new.given ≡ old.given → new.missed ≡ old.missed
    → (count : ℕ) → count ≡ 0 → new.failed ≡ counted (nat_lt 0 count) old.failed → EndsOne {T = T} (Err Socket) input old new before begun before begun
ends_unlimited old new input output before begun blank ended given missed count none failed =
    record { written = output; given = given; missed = missed; ended = ended; failed = failed_by false count old.failed new.failed none failed; is = record { left = input; output = output; blank = blank; ends = inl ((refl, refl), refl); goes = goes_none before begun } }
