-- Calls that write nothing, or read nothing, one after another.
use Rattle.std.proofs.Common.{◌≡◌, ℕ, Bool, true, false, IsTrue, subst, ◌≤◌, ◌==◌, ◌∙◌, ap, sym, refl, arith}
use Rattle.drive.specs.declared.Drive.{Ghosts}
use Rattle.drive.proofs.Gathering.{keeps_none, keeps_same, keeps_then}
use Rattle.drive.specs.Reads.{ReadsAndWrites, ReadsOnly, WritesOnly, one_if}

-- where a count did not grow over two calls, it grew in neither
first_stays : (a b c : ℕ) → a ≤ b → b ≤ c → c ≡ a → b ≡ a
first_stays a b c p q same = omega (arith, p, q, same)

second_stays : (a b c : ℕ) → a ≤ b → b ≤ c → c ≡ a → c ≡ b
second_stays a b c p q same = omega (arith, p, q, same)

-- a drive that is honest by its count stays so where the count stayed
pub honest_stays : {D : Type 0} (drive : Ghosts D) → ((d : D) → drive.honest d ≡ (drive.misreads d == 0)) → (old new : D) → drive.misreads new ≡ drive.misreads old → IsTrue (drive.honest old) → IsTrue (drive.honest new)
honest_stays drive law old new same = subst IsTrue (law old ∙ (ap (λ n. n == 0) (sym same) ∙ sym (law new)))

-- nothing was called
pub reads_none : {D : Type 0} (drive : Ghosts D) (d : D) → ReadsOnly drive 0 d d
reads_none drive d = record { journal = refl; writes = refl; capacity = refl; failures = λ few. omega arith; misreads = omega arith; honest = λ h. h; stays = λ same h. h; gathering = refl }

-- a call after one that did not fail
pub reads_then : {D : Type 0} {drive : Ghosts D} {n : ℕ} {a b c : D} → ReadsOnly drive 0 a b → ReadsOnly drive n b c → ReadsOnly drive n a c
reads_then p q = record {
  journal = q.journal ∙ p.journal;
  writes = q.writes ∙ p.writes;
  capacity = q.capacity ∙ p.capacity;
  failures = λ few. let second = q.failures few in omega (arith, p.failures);
  misreads = omega (arith, p.misreads, q.misreads);
  honest = λ h. p.honest (q.honest h);
  stays = λ same h. q.stays (second_stays _ _ _ p.misreads q.misreads same) (p.stays (first_stays _ _ _ p.misreads q.misreads same) h);
  gathering = q.gathering ∙ p.gathering;
}

-- a call that writes nothing is one that may write
pub reads_are : {D : Type 0} {drive : Ghosts D} {n : ℕ} {a b : D} → ReadsOnly drive n a b → ReadsAndWrites drive n a b
reads_are p = record { capacity = p.capacity; failures = p.failures; misreads = p.misreads; honest = p.honest; stays = p.stays; gathering = keeps_same p.gathering p.writes }

-- nothing was called
pub writes_none : {D : Type 0} (drive : Ghosts D) (d : D) → WritesOnly drive false d d
writes_none drive d = record { capacity = refl; failures = refl; misreads = refl; honest = refl; gathering = keeps_none (drive.gathering d) (drive.writes d) }

-- a call after one that did not fail
pub writes_then : {D : Type 0} {drive : Ghosts D} {failed : Bool} {a b c : D} → WritesOnly drive false a b → WritesOnly drive failed b c → WritesOnly drive failed a c
writes_then p q = record { capacity = q.capacity ∙ p.capacity; failures = cc (q.failures, p.failures); misreads = q.misreads ∙ p.misreads; honest = q.honest ∙ p.honest; gathering = keeps_then p.gathering q.gathering }

-- a call that reads nothing is one that may read
pub writes_follow : {D : Type 0} {drive : Ghosts D} {failed : Bool} {a b : D} → WritesOnly drive failed a b → ReadsAndWrites drive (one_if failed) a b
writes_follow {failed = true} p = record { capacity = p.capacity; failures = λ few. omega (arith, p.failures); misreads = omega (arith, p.misreads); honest = subst IsTrue p.honest; stays = λ same. subst IsTrue (sym p.honest); gathering = p.gathering }
writes_follow {failed = false} p = record { capacity = p.capacity; failures = λ few. omega (arith, p.failures); misreads = omega (arith, p.misreads); honest = subst IsTrue p.honest; stays = λ same. subst IsTrue (sym p.honest); gathering = p.gathering }

-- nothing was called
pub follows_none : {D : Type 0} (drive : Ghosts D) (d : D) → ReadsAndWrites drive 0 d d
follows_none drive d = reads_are (reads_none drive d)

-- whatever was counted
pub follows_any : {D : Type 0} {drive : Ghosts D} {n : ℕ} {a b : D} → ReadsAndWrites drive n a b → ReadsAndWrites drive 0 a b
follows_any p = record { capacity = p.capacity; failures = λ few. omega (arith, p.failures); misreads = p.misreads; honest = p.honest; stays = p.stays; gathering = p.gathering }

-- a call after one that did not fail
pub follows_then : {D : Type 0} {drive : Ghosts D} {n : ℕ} {a b c : D} → ReadsAndWrites drive 0 a b → ReadsAndWrites drive n b c → ReadsAndWrites drive n a c
follows_then p q = record {
  capacity = q.capacity ∙ p.capacity;
  failures = λ few. let second = q.failures few in omega (arith, p.failures);
  misreads = omega (arith, p.misreads, q.misreads);
  honest = λ h. p.honest (q.honest h);
  stays = λ same h. q.stays (second_stays _ _ _ p.misreads q.misreads same) (p.stays (first_stays _ _ _ p.misreads q.misreads same) h);
  gathering = keeps_then p.gathering q.gathering;
}

-- a call that may write after one that only read
pub reads_follows : {D : Type 0} {drive : Ghosts D} {n : ℕ} {a b c : D} → ReadsOnly drive 0 a b → ReadsAndWrites drive n b c → ReadsAndWrites drive n a c
reads_follows p q = follows_then (reads_are p) q
