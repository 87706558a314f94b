-- What becomes of a group at the drive.
use Rattle.std.proofs.Common.{◌≡◌, ℕ, ◌+◌, Bool, false, List, [], ◌++◌, length, take, Option, Some, None, refl, sym, ap, subst, ◌∙◌, arith, IsTrue, append-nil, ◌∷◌, drop, true}
use Rattle.drive.specs.Gathering.{CountsWaited, Gathering, KeepsGathering}
use Rattle.drive.specs.Journal.{Event, Once, next_of}
use Rattle.drive.specs.declared.Drive.{Ghosts}
use Rattle.drive.specs.Reads.{CountsFailures, ReadsAndWrites}
use Rattle.drive.proofs.Gathering.{keeps_same}
use Rattle.drive.proofs.Once.{next_once}
use Rattle.drive.proofs.Reading.{follows_none}
use Rattle.settling.specs.Calls.{EndsGathering, GivesFront, IsUntouched, KeepsRest, begun}
use Rattle.settling.specs.Phases.{blanked, two_phases}
use Rattle.settling.proofs.Giving.{gives_first}
use Rattle.store.specs.declared.store.Store.{Store}
use Rattle.engine.specs.declared.serving.ServeFault.TheVariants.{Memory}
use Rattle.engine.specs.Situation.{Situation, AddsBlocks, situation_on}
use Rattle.engine.specs.Served.{Answering, AnswersSome}
use Rattle.grouping.specs.Groups.{Gathered, CarriedOut, CarriedOutSome, IsAlone, IsSettled, IsTakenBack, MaySettle}
use Rattle.grouping.proofs.Back.{front_back}

-- what a drive shows is the same where each part of it is
pub same_shown : {D : Type 0} (drive : Ghosts D) (store : Option Store) (d e : D) → drive.journal e ≡ drive.journal d → drive.failures e ≡ drive.failures d → KeepsRest drive d e → situation_on drive store e ≡ situation_on drive store d
same_shown drive store d e j f rest =
    let c : drive.capacity e ≡ drive.capacity d = rest.capacity in
    let h : drive.honest e ≡ drive.honest d = rest.honest in
    let w : drive.writes e ≡ drive.writes d = rest.writes in
    cc (j, f, c, h, w)

-- a call that leaves the rest may settle
pub rest_follows : {D : Type 0} {drive : Ghosts D} (d e : D) → KeepsRest drive d e → CountsFailures 0 (drive.failures d) (drive.failures e) → MaySettle drive 0 d e
rest_follows d e rest failures = record {
  capacity = rest.capacity;
  failures = failures;
  misreads = omega (arith, rest.misreads);
  honest = subst IsTrue rest.honest;
  stays = λ same. subst IsTrue (sym rest.honest);
}

pub untouched_follows : {D : Type 0} {drive : Ghosts D} (d e : D) → IsUntouched drive d e → MaySettle drive 0 d e
untouched_follows d e h = rest_follows d e h.rest (λ few. omega (arith, h.failures))

-- a call that settles nothing is one that may settle
pub follows_settles : {D : Type 0} {drive : Ghosts D} {n : ℕ} {d e : D} → ReadsAndWrites drive n d e → MaySettle drive n d e
follows_settles p = record { capacity = p.capacity; failures = p.failures; misreads = p.misreads; honest = p.honest; stays = p.stays }

-- nothing was called
pub settles_none : {D : Type 0} (drive : Ghosts D) (d : D) → MaySettle drive 0 d d
settles_none drive d = follows_settles (follows_none drive d)

-- a call after one that did not fail
pub settles_then : {D : Type 0} {drive : Ghosts D} {n : ℕ} {d e f : D} → MaySettle drive 0 d e → MaySettle drive n e f → MaySettle drive n d f
settles_then p q = record {
  capacity = q.capacity ∙ p.capacity;
  failures = λ few. let second = q.failures few in omega (arith, p.failures);
  misreads = omega (arith, p.misreads, q.misreads);
  honest = λ h. p.honest (q.honest h);
  stays = λ same h. q.stays (omega (arith, p.misreads, q.misreads, same)) (p.stays (omega (arith, p.misreads, q.misreads, same)) h);
}

-- a call that shows the same, and settles nothing
pub untouched_keeps : {D : Type 0} {drive : Ghosts D} (d e : D) → IsUntouched drive d e → drive.gathering e ≡ drive.gathering d → ReadsAndWrites drive 0 d e
untouched_keeps d e h same = record {
  capacity = h.rest.capacity;
  failures = λ few. omega (arith, h.failures);
  misreads = omega (arith, h.rest.misreads);
  honest = subst IsTrue h.rest.honest;
  stays = λ kept. subst IsTrue (sym h.rest.honest);
  gathering = keeps_same same h.rest.writes;
}

-- the journal as it was, where no group came
pub nothing_back : (J L : List Event) (from : ℕ) → Once J → from ≡ next_of J → L ≡ take from J → L ≡ J
nothing_back J L from once is cut = front_back J J L from once is ([], sym (append-nil J)) cut

-- the blocks that came to a drive that gathers
pub adds_on : {D : Type 0} (drive : Ghosts D) (store store' : Option Store) (a b c : D) → IsUntouched drive a b → AddsBlocks (situation_on drive store b) (situation_on drive store' c) → (written : List Event) × (drive.journal c ≡ drive.journal a ++ written)
adds_on drive store store' a b c same adds = (adds.front.0, adds.front.1 ∙ ap (λ (J : List Event). J ++ adds.front.0) same.journal)

-- a group that is taken back
pub is_back : {D : Type 0} (drive : Ghosts D) (store store' : Option Store) (a b c e : D) (from : ℕ) → Once (drive.journal a) → from ≡ next_of (drive.journal a) → IsUntouched drive a b
    → AddsBlocks (situation_on drive store b) (situation_on drive store' c) → ReadsAndWrites drive 0 b c
    → drive.journal e ≡ take from (drive.journal c) → CountsFailures 0 (drive.failures c) (drive.failures e) → KeepsRest drive c e
    → IsTakenBack (situation_on drive store a) (situation_on drive None e)
is_back drive store store' a b c e from once is same adds lent cut counted rest = record {
  store = refl;
  journal = front_back (drive.journal a) (drive.journal c) (drive.journal e) from once is (adds_on drive store store' a b c same adds) cut;
  capacity = rest.capacity ∙ (adds.capacity ∙ same.rest.capacity);
  failures = λ few. let second = counted few in let first = lent.failures (omega (arith, second, few)) in omega (arith, first, second, same.failures);
  honest = λ h. subst IsTrue same.rest.honest (adds.honest (subst IsTrue rest.honest h));
}

-- where a drive does not gather, no write waits
waited_none : (g h : Gathering) (us vs : List (List (List ℕ))) → g.gathers ≡ false → KeepsGathering g h us vs → h.waited ≡ g.waited
waited_none g h us vs ended keeps = subst (λ (b : Bool). CountsWaited b g.waited h.waited (length us) (length vs)) ended keeps.waited

-- where it gathers, each does
waited_all : {D : Type 0} (drive : Ghosts D) (a b c e : D) → IsUntouched drive a b → drive.gathering b ≡ begun (drive.gathering a) → KeepsGathering (drive.gathering b) (drive.gathering c) (drive.writes b) (drive.writes c)
    → KeepsRest drive c e → (drive.gathering e).waited ≡ (drive.gathering c).waited
    → (drive.gathering e).waited + length (drive.writes a) ≡ (drive.gathering a).waited + length (drive.writes e)
waited_all drive a b c e untouched begins keeps rest waited =
    let all : CountsWaited true (drive.gathering b).waited (drive.gathering c).waited (length (drive.writes b)) (length (drive.writes c)) =
    subst (λ (g : Bool). CountsWaited g (drive.gathering b).waited (drive.gathering c).waited (length (drive.writes b)) (length (drive.writes c))) (ap (λ (g : Gathering). g.gathers) begins) keeps.waited in
    let first : length (drive.writes b) ≡ length (drive.writes a) = ap (λ (ws : List (List (List ℕ))). length ws) untouched.rest.writes in
    let last : length (drive.writes e) ≡ length (drive.writes c) = ap (λ (ws : List (List (List ℕ))). length ws) rest.writes in
    let same : (drive.gathering b).waited ≡ (drive.gathering a).waited = ap (λ (g : Gathering). g.waited) begins in
    omega (arith, all, first, last, same, waited)

-- a group that is settled
pub is_settled : {D : Type 0} (drive : Ghosts D) (store store' : Option Store) (a b c e : D) (from : ℕ) (marks : List ℕ) → Once (drive.journal a) → from ≡ next_of (drive.journal a)
    → IsUntouched drive a b → drive.gathering b ≡ begun (drive.gathering a) → KeepsGathering (drive.gathering b) (drive.gathering c) (drive.writes b) (drive.writes c)
    → drive.journal e ≡ drive.journal c → KeepsRest drive c e
    → EndsGathering (two_phases from marks (drive.journal c)) (drive.gathering c) (drive.gathering e) → (drive.gathering e).phases ≡ (drive.gathering c).phases ++ two_phases from marks (drive.journal c)
    → IsSettled marks (situation_on drive store a) (situation_on drive store' e) (drive.gathering a) (drive.gathering e)
is_settled drive store store' a b c e from marks once is untouched begins keeps same rest ends given = record {
  given = given ∙ ap (λ (P : List (List Event)). P ++ two_phases from marks (drive.journal c)) (keeps.phases ∙ ap (λ (g : Gathering). g.phases) begins)
      ∙ ap (λ (n : ℕ). (drive.gathering a).phases ++ two_phases n marks (drive.journal c)) (is ∙ next_once (drive.journal a) once)
      ∙ ap (λ (J : List Event). (drive.gathering a).phases ++ two_phases (length (drive.journal a)) marks J) (sym same);
  waited = waited_all drive a b c e untouched begins keeps rest ends.waited;
  gathers = ends.gathers;
}

-- a group that was taken back, and messages that were answered one by one from there
pub is_alone : {D : Type 0} (drive : Ghosts D) (store : Option Store) (a b c e f : D) (from : ℕ) (marks : List ℕ) (written : List Event) → Once (drive.journal a) → from ≡ next_of (drive.journal a)
    → IsUntouched drive a b → drive.gathering b ≡ begun (drive.gathering a) → KeepsGathering (drive.gathering b) (drive.gathering c) (drive.writes b) (drive.writes c)
    → drive.journal c ≡ drive.journal a ++ written → KeepsRest drive c e
    → GivesFront (two_phases from marks (drive.journal c)) (drive.gathering c).phases (drive.gathering e).phases → (drive.gathering e).gathers ≡ false → (drive.gathering e).waited ≡ (drive.gathering c).waited
    → KeepsGathering (drive.gathering e) (drive.gathering f) (drive.writes e) (drive.writes f)
    → IsAlone (situation_on drive store a) (situation_on drive None e) (drive.gathering a) (drive.gathering f)
is_alone drive store a b c e f from marks written once is untouched begins keeps goes rest given ended waited later = record {
  waited = let first = waited_all drive a b c e untouched begins keeps rest waited in let second = waited_none (drive.gathering e) (drive.gathering f) (drive.writes e) (drive.writes f) ended later in omega (arith, first, second);
  tried = written;
  marks = marks;
  given = subst (λ (P : List (List Event)). GivesFront (two_phases (length (drive.journal a)) marks (drive.journal a ++ written)) (drive.gathering a).phases P) (sym later.phases)
      (subst (λ (P : List (List Event)). GivesFront (two_phases (length (drive.journal a)) marks (drive.journal a ++ written)) P (drive.gathering e).phases) (keeps.phases ∙ ap (λ (g : Gathering). g.phases) begins)
      (subst (λ (n : ℕ). GivesFront (two_phases n marks (drive.journal a ++ written)) (drive.gathering c).phases (drive.gathering e).phases) (is ∙ next_once (drive.journal a) once)
      (subst (λ (J : List Event). GivesFront (two_phases from marks J) (drive.gathering c).phases (drive.gathering e).phases) goes given)));
  gathers = later.gathers ∙ ended;
}

-- messages that were answered one by one where they came
pub is_alone_here : {D : Type 0} (drive : Ghosts D) (store : Option Store) (a e f : D) (from : ℕ) → Once (drive.journal a) → from ≡ next_of (drive.journal a) → KeepsRest drive a e
    → EndsGathering (blanked [] (drop from (drive.journal a)) ∷ []) (drive.gathering a) (drive.gathering e) → KeepsGathering (drive.gathering e) (drive.gathering f) (drive.writes e) (drive.writes f)
    → IsAlone (situation_on drive store a) (situation_on drive store e) (drive.gathering a) (drive.gathering f)
is_alone_here drive store a e f from once is rest ends later = record {
  waited = let second = waited_none (drive.gathering e) (drive.gathering f) (drive.writes e) (drive.writes f) ends.gathers later in let same : length (drive.writes e) ≡ length (drive.writes a) = ap (λ (ws : List (List (List ℕ))). length ws) rest.writes in omega (arith, second, same, ends.waited);
  tried = [];
  marks = [];
  given = subst (λ (P : List (List Event)). GivesFront (two_phases (length (drive.journal a)) [] (drive.journal a ++ [])) (drive.gathering a).phases P) (sym later.phases)
      (subst (λ (n : ℕ). GivesFront (two_phases n [] (drive.journal a ++ [])) (drive.gathering a).phases (drive.gathering e).phases) (is ∙ next_once (drive.journal a) once)
      (subst (λ (J : List Event). GivesFront (two_phases from [] J) (drive.gathering a).phases (drive.gathering e).phases) (sym (append-nil (drive.journal a))) (gives_first _ _ _ _ ends.given)));
  gathers = later.gathers ∙ ends.gathers;
}

-- answers between situations that are the same
pub going_same : (reader after : Option (List ℕ)) (s s' t t' : Situation) (o w : Option (List ℕ)) (marks : List ℕ) → s ≡ s' → t ≡ t' → CarriedOut reader after s t o w marks → CarriedOut reader after s' t' o w marks
going_same reader after s s' t t' o w marks p q h = subst (λ (x : Situation). CarriedOut reader after x t' o w marks) p (subst (λ (x : Situation). CarriedOut reader after s x o w marks) q h)

pub gathered_same : (reader after : Option (List ℕ)) (s s' t t' : Situation) (o w : Option (List ℕ)) (marks : List ℕ) → s ≡ s' → t ≡ t' → Gathered reader after s t o w marks → Gathered reader after s' t' o w marks
gathered_same reader after s s' t t' o w marks p q h = subst (λ (x : Situation). Gathered reader after x t' o w marks) p (subst (λ (x : Situation). Gathered reader after s x o w marks) q h)

pub gathering_some_same : (reader after : Option (List ℕ)) (s s' t t' : Situation) (o w : Option (List ℕ)) (marks : List ℕ) → s ≡ s' → t ≡ t' → CarriedOutSome reader after s t o w marks → CarriedOutSome reader after s' t' o w marks
gathering_some_same reader after s s' t t' o w marks p q h = subst (λ (x : Situation). CarriedOutSome reader after x t' o w marks) p (subst (λ (x : Situation). CarriedOutSome reader after s x o w marks) q h)

-- answers from the frames that a group began with, after those that there were
pub again_told : (copy reader after : Option (List ℕ)) (s t : Situation) (held output : List ℕ) (n : ℕ) (w : Option (List ℕ)) → copy ≡ reader → take n held ≡ output → Answering copy after s t (Some (take n held)) w → Answering reader after s t (Some output) w
again_told copy reader after s t held output n w same front h = subst (λ (r : Option (List ℕ)). Answering r after s t (Some output) w) same (subst (λ (l : List ℕ). Answering copy after s t (Some l) w) front h)

pub again_untold : (copy reader after : Option (List ℕ)) (s t : Situation) (held output : List ℕ) (n : ℕ) (w : Option (List ℕ)) → copy ≡ reader → take n held ≡ output → AnswersSome Memory copy after s t (Some (take n held)) w → AnswersSome Memory reader after s t (Some output) w
again_untold copy reader after s t held output n w same front h = subst (λ (r : Option (List ℕ)). AnswersSome Memory r after s t (Some output) w) same (subst (λ (l : List ℕ). AnswersSome Memory copy after s t (Some l) w) front h)
