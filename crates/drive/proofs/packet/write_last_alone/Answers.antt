use Rattle.std.proofs.Common.{◌≡◌, ◌+◌, ◌-◌, ◌++◌, [], ◌∷◌, ℕ, List, length, subst, ap, refl, ◌∙◌, arith, append-nil, length-append}
use Rattle.std.proofs.lemmas.Bool.Decides.{nat_tests}
use Rattle.std.proofs.lemmas.List.{take-append-drop}
use Rattle.std.proofs.lemmas.Result.{err_from_is_err_and}
use Rattle.drive.specs.Journal.{written, next_of, AddsPrefix}
use Rattle.drive.proofs.Fronts.{front_longer, front_after, written_after, begins_after}
use Rattle.drive.proofs.Running.{runs_as, runs_front, runs_send}
use Rattle.drive.proofs.Turns.{turn_whole, turn_cut}
use Rattle.drive.proofs.Sending.{sends_as, alone_stopped, alone_sent, front_split, last_split}
use Rattle.drive.proofs.packet.write_last_alone.Goals as goal

pub write-requires-clause-begins : goal.write-requires-clause-begins
write-requires-clause-begins g c =
    omega (arith, begins_after (g.D.Drive.journal c.args.drive.now) c.args.at c.split_at.result.0.now c.requires.begins, ap (λ (bs : List (List ℕ)). next_of (g.D.Drive.journal c.args.drive.now ++ written c.args.at bs)) (append-nil c.split_at.result.0.now), ap next_of c.in_ok-write_run.ensures.ok)

pub returns-in_err-write_run-clause-err : goal.returns-in_err-write_run-clause-err
returns-in_err-write_run-clause-err g c =
    let p = err_from_is_err_and c.from_residual.result c.from_residual.ensures.1 in
    let J = g.D.Drive.journal c.args.drive.now in
    let J1 = g.D.Drive.journal c.write_run.new.self in
    let before = c.split_at.result.0.now in
    let last = c.split_at.result.1.now in
    let all : before ++ last ≡ c.args.blocks.now =
    rw (c.split_at.ensures.front, c.split_at.ensures.back) (take-append-drop (length c.args.blocks.now - 1) c.args.blocks.now) in
    rw p.1 (subst (λ (blocks : List (List ℕ)). AddsPrefix J c.args.at blocks J1) all
    (front_longer J J1 c.args.at before last (runs_front (runs_as (append-nil before) c.in_err-write_run.ensures.runs))))

pub returns-in_err-write_run-clause-alone : goal.returns-in_err-write_run-clause-alone
returns-in_err-write_run-clause-alone g c = λ before last is.
    let p = err_from_is_err_and c.from_residual.result c.from_residual.ensures.1 in
    let front = c.split_at.ensures.front ∙ front_split c.args.blocks.now before last (length c.args.blocks.now - 1) refl is in
    rw p.1 (alone_stopped last (sends_as front (runs_send (runs_as (append-nil c.split_at.result.0.now) c.in_err-write_run.ensures.runs))))

pub returns-then-is_empty-clause-alone : goal.returns-then-is_empty-clause-alone
returns-then-is_empty-clause-alone g c = λ before last is.
    let none : length c.args.blocks.now ≡ 0 = grind (arith, nat_tests, c.is_empty.ensures, c.if-is_empty.true) in
    absurd (omega (arith, none, ap length is, length-append before (last ∷ [])))

pub returns-in_err-write-clause-err : goal.returns-in_err-write-clause-err
returns-in_err-write-clause-err g c =
    let p = err_from_is_err_and c.from_residual-in_err-write.result c.from_residual-in_err-write.ensures.1 in
    let J = g.D.Drive.journal c.args.drive.now in
    let J1 = g.D.Drive.journal c.write_run.new.self in
    let J2 = g.D.Drive.journal c.write.new.self in
    let before = c.split_at.result.0.now in
    let last = c.split_at.result.1.now in
    let all : before ++ last ≡ c.args.blocks.now =
    rw (c.split_at.ensures.front, c.split_at.ensures.back) (take-append-drop (length c.args.blocks.now - 1) c.args.blocks.now) in
    rw p.1 (subst (λ (blocks : List (List ℕ)). AddsPrefix J c.args.at blocks J2) all
    (front_after J J1 J2 c.args.at (c.args.at + length before) before last (c.in_ok-write_run.ensures.ok ∙ ap (λ (bs : List (List ℕ)). J ++ written c.args.at bs) (append-nil before)) (omega arith) c.in_err-write.ensures.err))

pub returns-in_err-write-clause-alone : goal.returns-in_err-write-clause-alone
returns-in_err-write-clause-alone g c = λ before last is.
    let p = err_from_is_err_and c.from_residual-in_err-write.result c.from_residual-in_err-write.ensures.1 in
    let front = c.split_at.ensures.front ∙ front_split c.args.blocks.now before last (length c.args.blocks.now - 1) refl is in
    let back = c.split_at.ensures.back ∙ last_split c.args.blocks.now before last (length c.args.blocks.now - 1) refl is in
    rw p.1 (alone_sent last (ap (λ (bs : List (List ℕ)). c.args.at + length bs) front) (sends_as front (runs_send (runs_as (append-nil c.split_at.result.0.now) c.in_ok-write_run.ensures.runs)))
    (turn_cut (last ∷ []) (subst (λ (bs : List (List ℕ)). AddsPrefix (g.D.Drive.journal c.write_run.new.self) (c.args.at + length c.split_at.result.0.now) bs (g.D.Drive.journal c.write.new.self)) back c.in_err-write.ensures.err)) (c.write.ensures.writes ∙ ap (λ (b : List (List ℕ)). g.D.Drive.writes c.write_run.new.self ++ b ∷ []) back))

pub returns-clause-ok : goal.returns-clause-ok
returns-clause-ok g c =
    let J = g.D.Drive.journal c.args.drive.now in
    let J1 = g.D.Drive.journal c.write_run.new.self in
    let J2 = g.D.Drive.journal c.write.new.self in
    let before = c.split_at.result.0.now in
    let last = c.split_at.result.1.now in
    let all : before ++ last ≡ c.args.blocks.now =
    rw (c.split_at.ensures.front, c.split_at.ensures.back) (take-append-drop (length c.args.blocks.now - 1) c.args.blocks.now) in
    subst (λ (blocks : List (List ℕ)). J2 ≡ J ++ written c.args.at blocks) all
    (written_after J J1 J2 c.args.at (c.args.at + length before) before last (c.in_ok-write_run.ensures.ok ∙ ap (λ (bs : List (List ℕ)). J ++ written c.args.at bs) (append-nil before)) (omega arith) c.in_ok-write.ensures.ok)

pub returns-clause-alone : goal.returns-clause-alone
returns-clause-alone g c = λ before last is.
    let front = c.split_at.ensures.front ∙ front_split c.args.blocks.now before last (length c.args.blocks.now - 1) refl is in
    let back = c.split_at.ensures.back ∙ last_split c.args.blocks.now before last (length c.args.blocks.now - 1) refl is in
    alone_sent last (ap (λ (bs : List (List ℕ)). c.args.at + length bs) front) (sends_as front (runs_send (runs_as (append-nil c.split_at.result.0.now) c.in_ok-write_run.ensures.runs)))
    (turn_whole (last ∷ []) (c.in_ok-write.ensures.ok ∙ ap (λ (bs : List (List ℕ)). g.D.Drive.journal c.write_run.new.self ++ written (c.args.at + length c.split_at.result.0.now) bs) back)) (c.write.ensures.writes ∙ ap (λ (b : List (List ℕ)). g.D.Drive.writes c.write_run.new.self ++ b ∷ []) back)
