use Rattle.std.proofs.Common.{rules, refl, length, ◌≡◌, ◌<◌, ℕ, get_or, set, false, ltb, arith}
use Rattle.std.proofs.lemmas.Bool.Decides.{nat_tests}
use Rattle.programs.proofs.Tallies.{length_none, length_over}
use Rattle.programs.proofs.counting.FrameCount.take_of_length.Goals.{then-self-eq0-via-then-self-eq0, then-self-eq0-via-else-self-eq0+then-self}
use Rattle.programs.proofs.counting.FrameCount.take_of_length.Goals as goal

pub returns-then-self-eq0 : goal.returns-then-self-eq0
returns-then-self-eq0 c bytes h =
    let now = c.args.self.now in
    let four : length c.args.self.now.length ≡ 4 = search rules in
    let three : c.args.self.now.given ≡ 3 = omega (arith, c.args.self.now.short) in
    let small : (i : ℕ) → get_or (set c.args.self.now.length c.args.self.now.given c.args.byte) i 0 < 256 = λ i. search rules in
    elim c.then-self-eq0.branch [
      | then-self-eq0-via-then-self-eq0 w ↦
          let none : c.from_le_bytes-self.result ≡ 0 = w.if-self-eq0.true in
          let within : ltb 1114112 c.from_le_bytes-self.result ≡ false = grind (arith, nat_tests) in
          length_none now _ bytes c.args.byte c.requires.goes_on c.requires.none_left four three refl refl c.from_le_bytes-self.ensures small c.saturating_add-self.ensures within none h
      | then-self-eq0-via-else-self-eq0+then-self w ↦
          let long : 1114112 < c.from_le_bytes-self.result = grind (arith, nat_tests) in
          length_over now _ bytes c.args.byte c.requires.goes_on c.requires.none_left four three refl c.from_le_bytes-self.ensures c.saturating_add-self.ensures w.if-self.true long h
    ]
