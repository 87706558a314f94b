use Rattle.std.proofs.Common.{◌≡◌, ◌+◌, ◌∙◌, List, ℕ, ap, sym, subst, arith}
use Rattle.osta.specs.Compressed.{Named, compressed}
use Rattle.osta.proofs.Names.{name_spelled}
use Rattle.dir.specs.Directory.{of_name}
use Rattle.dir.specs.Identifier.{Identifier}
use Rattle.dir.proofs.Entries.{name_Fits, name_in_place}
use Rattle.dir.proofs.Errors.{each_err}
use Rattle.dir.proofs.Steps.{laid_found}
use Rattle.dir.proofs.fids.Fids.read_name.Goals as goal

pub returns-in_err-item-clause-err : goal.returns-in_err-item-clause-err
returns-in_err-item-clause-err c =
    each_err c.from_residual.result _ (λ fault apart text e rest entry short there stood.
    c.in_err-item.ensures.err (of_name text e) rest (name_Fits text e entry) (name_in_place text e) short there stood)

pub returns-in_default-clause-err : goal.returns-in_default-clause-err
returns-in_default-clause-err c = λ apart text e rest entry short there stood.
    let left = c.args.self.now.data.now in
    let found = laid_found (c.args.first + c.args.self.now.index) c.args.self.now.at left (of_name text e) rest c.requires.bytes c.requires.first (omega (arith, c.args.self.now.in_block)) c.requires.at (name_Fits text e entry) short there stood in
    let read = c.in_ok-item.ensures.ok in
    let name : c.in_ok-item.item.name.now ≡ compressed text = ap (λ (y : Identifier). y.name) (read.says ∙ found.says) in
    let none = rw c.in_default.is at c.in_ok-name.ensures in
    none text entry.name (subst (λ (b : List ℕ). Named text b) (sym name) (name_spelled text entry.name))
