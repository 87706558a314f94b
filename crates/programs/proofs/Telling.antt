-- What a program said in the end, by its outcome.
use Rattle.std.proofs.Common.{◌≡◌, ℕ, ◌≤◌, List, [], ◌∷◌, ◌++◌, codes, None, Result, Ok, Err, refl, sym, ◌∙◌, subst, inl, inr, arith}
use Rattle.std.specs.Prelude.{IfErr, IsErrAnd, OnErr, OnOk}
use Rattle.limits.specs.declared.TheConstants.{GREATEST_CAPACITY}
use Rattle.drive.specs.Gathering.{Gathering, waits_never}
use Rattle.drive.specs.declared.Drive.{Ghosts}
use Rattle.command_line.specs.declared.daemon.DaemonWords.{DaemonWords}
use Rattle.command_line.specs.declared.daemon.WordsFault.{WordsFault}
use Rattle.command_line.specs.declared.daemon.WordsFault.TheVariants as faults
use Rattle.command_line.specs.Daemon.{AsksDaemon}
use Rattle.recover.specs.declared.fault.StoreFault.TheVariants as stores
use Rattle.programs.specs.declared.fault.Fault.{Fault}
use Rattle.programs.specs.declared.fault.Fault.TheVariants.{Usage, Path, Socket, Store, Stream}
use Rattle.engine.specs.Situation.{Situation, situation_on}
use Rattle.programs.specs.Connections.{LeavesConnection}
use Rattle.programs.specs.FaultLines.{Said, SaysLine, Reports, ReportsOutcome, fault_line}
use Rattle.programs.specs.Refusals.{IsDaemonReported, IsEarly, IsLeaving, OnAsked, RefusesDaemon, ReportsEach, ReportsFaults, ServesImage, ReportsEarly, ReportsRefusal}
use Rattle.programs.specs.Images.{AreUntouched, HasFailed, Images, IsOpened, IsPutBack, IsThere, IsUnchanged}
use Rattle.programs.specs.Status.{AreWordsTold, fault_status, status_of}
use Rattle.programs.proofs.Opening.{on_media, untouched}

pub refused : (fault : Fault) → 1 ≤ fault_status fault
refused Usage = omega arith
refused Path = omega arith
refused Socket = omega arith
refused (Store fault) = omega arith
refused (Stream fault) = omega arith

-- at status 0 nothing was said
pub told_none : (name : List ℕ) (status : ℕ) (e f : Said) → ReportsOutcome name status e f → status ≡ 0 → f ≡ e
told_none name status e f (Ok x, is, reports) done = reports
told_none name status e f (Err fault, is, reports) done = let least = refused fault in absurd (omega (arith, is, done, least))

-- what was said after that is all
pub told_then : (name : List ℕ) (first status : ℕ) (outcome : Result (Unit {0}) Fault) (e f h : Said) → ReportsOutcome name first e f → first ≡ 0 → status ≡ status_of outcome → Reports name outcome f h → ReportsOutcome name status e h
told_then name first status outcome e f h tells done is reports =
    (outcome, is, subst (λ (x : Said). Reports name outcome x h) (told_none name first e f tells done) reports)

-- a fault was said where nothing was said before
pub told_refused : (name : List ℕ) (status : ℕ) (fault : Fault) (e d f : Said) → d ≡ e → status ≡ fault_status fault → Reports {T = Unit {0}} name (Err fault) d f → ReportsOutcome name status e f
told_refused name status fault e d f quiet is reports = (Err fault, is, subst (λ (x : Said). Reports {T = Unit {0}} name (Err fault) x f) quiet reports)

-- and then its status is not 0
pub refused_not : {P : Type 0} (status : ℕ) (fault : Fault) → status ≡ fault_status fault → status ≡ 0 → P
refused_not status fault is done = let least = refused fault in absurd (omega (arith, is, done, least))

-- ---- a daemon that served nothing

-- its words were read, and what they name cannot be had
pub unserved : {T : Type 0} (words : List (List ℕ)) (asked : DaemonWords) (Did : Situation → Situation → Type 0) (outcome : Result T Fault) (old new : Images) → AsksDaemon words asked → ServesImage asked.image.now Did outcome old new
    → IfErr outcome (λ fault. RefusesDaemon words fault old new)
unserved words asked Did (Ok x) old new asks h = tt
unserved words asked Did (Err Usage) old new asks h = absurd h
unserved words asked Did (Err Path) old new asks h = h
unserved words asked Did (Err Socket) old new asks h = (asked, asks, h)
unserved words asked Did (Err (Store fault)) old new asks h = (h.0, inr (h.1, h.2, (asked, asks)))
unserved words asked Did (Err (Stream fault)) old new asks h = h

-- or it served, what they name
pub served_asked : {T : Type 0} (words : List (List ℕ)) (asked : DaemonWords) (Did : DaemonWords → Situation → Situation → Type 0) (outcome : Result T Fault) (old new : Images) → AsksDaemon words asked → ServesImage asked.image.now (Did asked) outcome old new
    → OnOk outcome (OnAsked words Did old new)
served_asked words asked Did (Ok x) old new asks h = (asked, asks, h)
served_asked words asked Did (Err fault) old new asks h = tt

-- or they are others, or memory is short for them
pub unasked : (words : List (List ℕ)) (told : WordsFault) (fault : Fault) (images : Images) → AreWordsTold told fault → (told ≡ faults.Usage → (asked : DaemonWords) → AsksDaemon words asked → ⊥) → RefusesDaemon words fault images images
unasked words faults.Usage fault images is none = subst (λ (f : Fault). RefusesDaemon words f images images) (sym is) (untouched images, none refl)
unasked words faults.Memory fault images is none = subst (λ (f : Fault). RefusesDaemon words f images images) (sym is) (untouched images, inl refl)

pub tells_refusal : (words : List (List ℕ)) (outcome : Result (Unit {0}) Fault) (status : ℕ) (old new : Images) (e d f : Said) → IfErr outcome (λ fault. RefusesDaemon words fault old new) → OnErr outcome (d ≡ e) → status ≡ status_of outcome → Reports (codes "udfburnd") outcome d f
    → 1 ≤ status → ReportsRefusal words status old new e f
tells_refusal words (Ok x) status old new e d f refuses quiet is reports least = absurd (omega (arith, is, least))
tells_refusal words (Err fault) status old new e d f refuses quiet is reports least =
    record { fault = fault; refuses = refuses; status_is = is; line = subst (λ (x : Said). SaysLine x f (fault_line (codes "udfburnd") fault)) quiet reports }

-- so the process says why it served nothing
pub told_refusal : (words : List (List ℕ)) (status : ℕ) (old new : Images) (e f : Said) → ReportsRefusal words status old new e f → IsDaemonReported status old new e f
told_refusal words status old new e f h = inr (words, h)

-- ---- on the image of a daemon

-- it did not gather yet, or the socket cannot be had
pub serves_unheard : {T D : Type 0} (drive : Ghosts D) (image : List ℕ) (Did : Gathering → Situation → Situation → Type 0) (outcome : Result T Fault) (d e : D) (before between afterwards : Images) → IsOpened drive IsThere GREATEST_CAPACITY image d before between
    → IsPutBack drive image e between afterwards → IfErr outcome (λ fault. fault ≡ Socket) → OnErr outcome (IsUnchanged (situation_on drive None d) (situation_on drive None e)) → OnOk outcome (Did (drive.gathering d) (situation_on drive None d) (situation_on drive None e))
    → ServesImage image (Did waits_never) outcome before afterwards
serves_unheard drive image Did (Ok x) d e before between afterwards opened back refused unchanged run =
    on_media drive IsThere GREATEST_CAPACITY image (Did waits_never) d e before between afterwards opened back (subst (λ (g : Gathering). Did g (situation_on drive None d) (situation_on drive None e)) opened.fresh.gathering run)
serves_unheard {T} drive image Did (Err fault) d e before between afterwards opened back refused unchanged run =
    subst (λ (f : Fault). ServesImage {T = T} image (Did waits_never) (Err f) before afterwards) (sym refused) (on_media drive IsThere GREATEST_CAPACITY image IsUnchanged d e before between afterwards opened back unchanged)

-- the image cannot
pub serves_unopened : {T : Type 0} (image : List ℕ) (Did : Situation → Situation → Type 0) (outcome : Result T Fault) (fault : Fault) (before afterwards : Images) → IsErrAnd outcome (λ f. f ≡ fault) → fault ≡ Store stores.Device → AreUntouched before afterwards → HasFailed before afterwards
    → ServesImage image Did outcome before afterwards
serves_unopened {T} image Did (Ok x) fault before afterwards is device same failed = absurd is
serves_unopened {T} image Did (Err f) fault before afterwards is device same failed = subst (λ (g : Fault). ServesImage {T = T} image Did (Err g) before afterwards) (sym (is ∙ device)) (same, refl, failed)

-- a fault was said before anything was begun
pub told_early : (name : List ℕ) (status : ℕ) (fault : Fault) (e d f : Said) → IsEarly fault → d ≡ e → status ≡ fault_status fault → Reports {T = Unit {0}} name (Err fault) d f → ReportsEarly name status e f
told_early name status fault e d f early quiet is reports =
    record { fault = fault; early = early; status_is = is; line = subst (λ (x : Said). SaysLine x f (fault_line name fault)) quiet reports }

-- what holds where it went well holds at status 0
pub done_with : (outcome : Result (Unit {0}) Fault) (status : ℕ) (P : Type 0) → OnOk outcome P → status ≡ status_of outcome → status ≡ 0 → P
done_with (Ok x) status P h is done = h
done_with (Err fault) status P h is done = refused_not status fault is done

pub at_most_two : {T : Type 0} (outcome : Result T Fault) → status_of outcome ≤ 2
at_most_two (Ok x) = omega arith
at_most_two (Err Usage) = omega arith
at_most_two (Err Path) = omega arith
at_most_two (Err Socket) = omega arith
at_most_two (Err (Store fault)) = omega arith
at_most_two (Err (Stream fault)) = omega arith

-- ---- what a daemon says of its connections

leaving : (fault : Fault) (before : Situation) (begun : Gathering) (afterwards : Situation) (ended : Gathering) → LeavesConnection fault before begun afterwards ended → IsLeaving fault
leaving Usage before begun afterwards ended h = h
leaving Path before begun afterwards ended h = h
leaving Socket before begun afterwards ended h = tt
leaving (Store fault) before begun afterwards ended h = h.0
leaving (Stream fault) before begun afterwards ended h = tt

pub says_none : (e : Said) → ReportsFaults e e
says_none e = record { faults = []; lines = refl }

-- that a connection could not be had
pub says_unconnected : (e f : Said) → Reports {T = Unit {0}} (codes "udfburnd") (Err Socket) e f → ReportsFaults e f
says_unconnected e f reports = record { faults = Socket ∷ []; lines = (e, refl, tt, reports) }

-- and then why one was left, where it was
pub says_left : {T : Type 0} (served : Result T Fault) (before : Situation) (begun : Gathering) (afterwards : Situation) (ended : Gathering) (e d f : Said) → IfErr served (λ fault. LeavesConnection fault before begun afterwards ended) → ReportsFaults e d → Reports (codes "udfburnd") served d f → ReportsFaults e f
says_left (Ok x) before begun afterwards ended e d f left says reports = subst (λ (y : Said). ReportsFaults e y) (sym reports) says
says_left (Err fault) before begun afterwards ended e d f left says reports = record { faults = fault ∷ says.faults; lines = (d, says.lines, leaving fault before begun afterwards ended left, reports) }

each_after : (faults earlier : List Fault) (e d f : Said) → ReportsEach earlier e d → ReportsEach faults d f → ReportsEach (faults ++ earlier) e f
each_after [] earlier e d f h k = subst (λ (y : Said). ReportsEach earlier e y) (sym k) h
each_after (fault ∷ faults) earlier e d f h k = (k.0, each_after faults earlier e d k.0 h k.1, k.2, k.3)

pub says_more : (e d f : Said) → ReportsFaults e d → ReportsFaults d f → ReportsFaults e f
says_more e d f h k = record { faults = k.faults ++ h.faults; lines = each_after k.faults h.faults e d f h.lines k.lines }

-- at status 0 nothing is said after them
pub said_done : (outcome : Result (Unit {0}) Fault) (status : ℕ) (e d f : Said) → OnOk outcome (ReportsFaults e d) → status ≡ status_of outcome → Reports (codes "udfburnd") outcome d f → status ≡ 0 → ReportsFaults e f
said_done (Ok x) status e d f says is reports done = subst (λ (y : Said). ReportsFaults e y) (sym reports) says
said_done (Err fault) status e d f says is reports done = refused_not status fault is done
