use Rattle.std.proofs.Common.{◌≡◌, ◌<◌, ◌∙◌, ℕ, List, [], ◌∷◌, length, ap, subst, sym, arith}
use Rattle.std.specs.Prelude.{OnErr, OnOk}
use Rattle.std.proofs.lemmas.Bool.Decides.{nat_tests}
use Rattle.drive.specs.Waiting.{Stops, TakesBlocks}
use Rattle.std.proofs.lemmas.List.{nil_from_length}
use Rattle.drive.proofs.Packing.{stops_before, takes-nil}
use Rattle.durability.specs.Plan.{packed}
use Rattle.planning.proofs.Packing.{packed_short}
use Rattle.planning.proofs.Puttings.{err_weaker}
use Rattle.planning.proofs.write.Writer.put_text.Goals as goal

pub returns-clause-ok : goal.returns-clause-ok
returns-clause-ok g c =
    let some : 0 < length c.args.text.now = grind (arith, nat_tests, c.is_empty.ensures, c.if-is_empty.false) in
    let one : c.block_of.result ∷ [] ≡ packed c.args.text.now =
    ap (λ (b : List ℕ). b ∷ []) c.block_of.ensures ∙ sym (packed_short c.args.text.now some c.requires.size) in
    subst (λ (bs : List (List ℕ)). OnOk c.put.result (TakesBlocks g.D.Drive c.args.drive.now c.args.self.now.packets bs c.put.new.drive c.put.new.self.packets)) one
    c.put.ensures.ok

pub returns-clause-err : goal.returns-clause-err
returns-clause-err g c =
    let some : 0 < length c.args.text.now = grind (arith, nat_tests, c.is_empty.ensures, c.if-is_empty.false) in
    let one : c.block_of.result ∷ [] ≡ packed c.args.text.now =
    ap (λ (b : List ℕ). b ∷ []) c.block_of.ensures ∙ sym (packed_short c.args.text.now some c.requires.size) in
    subst (λ (bs : List (List ℕ)). OnErr c.put.result (Stops g.D.Drive c.args.drive.now c.args.self.now.packets bs c.put.new.drive)) one
    (err_weaker c.put.result (λ s. stops_before s) c.put.ensures.err)

pub returns-then-is_empty-clause-ok : goal.returns-then-is_empty-clause-ok
returns-then-is_empty-clause-ok g c =
    let none : length c.args.text.now ≡ 0 = grind (arith, nat_tests, c.is_empty.ensures, c.if-is_empty.true) in
    subst (λ (text : List ℕ). TakesBlocks g.D.Drive c.args.drive.now c.args.self.now.packets (packed text) c.args.drive.now c.args.self.now.packets) (sym (nil_from_length c.args.text.now none))
    (takes-nil g.D.Drive c.args.drive.now c.args.self.now.packets)
