use Rattle.std.proofs.Common.{◌≡◌, ◌+◌, ◌∙◌, List, ℕ, length, take, drop, refl, sym, ap, subst, arith}
use Rattle.std.specs.Prelude.{slice_index}
use Rattle.std.proofs.lemmas.List.{length-take}
use Rattle.dir.specs.Identifier.{Identifier}
use Rattle.dir.specs.Item.{said}
use Rattle.dir.specs.Reads.{IsInPlace}
use Rattle.dir.specs.Split.{HasHead, IsPadded, identifier_in, size_of, name_size, use_size}
use Rattle.dir.proofs.Errors.{if_err}
use Rattle.dir.proofs.Splits.{whole_front, name_size-front}
use Rattle.dir.proofs.Steps.{laid_found}
use Rattle.dir.proofs.fids.Fids.read.Goals as goal

pub returns-in_err-fid-clause-err : goal.returns-in_err-fid-clause-err
returns-in_err-fid-clause-err c =
    if_err c.from_residual.result _ (λ x rest f place short there stood.
    let left = c.args.self.now.data.now in
    let found = laid_found (c.args.first + c.args.self.now.index) c.args.self.now.at left x rest c.requires.bytes c.requires.first (omega (arith, c.args.self.now.in_block)) c.requires.at f short there stood in
    absurd (let so = c.in_err-fid.ensures.exactly.1 found.split in cc))

pub item-requires : goal.item-requires
item-requires c = whole_front c.args.self.now.at c.in_ok-fid.fid c.args.self.now.data.now (c.in_ok-fid.ensures.exactly.0 refl) c.in_ok-fid.ensures.prints

pub returns-in_default-clause-err : goal.returns-in_default-clause-err
returns-in_default-clause-err c = λ x rest f place short there stood.
    let left = c.args.self.now.data.now in
    let found = laid_found (c.args.first + c.args.self.now.index) c.args.self.now.at left x rest c.requires.bytes c.requires.first (omega (arith, c.args.self.now.in_block)) c.requires.at f short there stood in
    let front = c.in_ok-fid.ensures.prints.bytes_are in
    absurd (let so = c.in_default.ensures.exactly.1 (subst (λ (b : List ℕ). HasHead (c.args.first + c.args.self.now.index) b) (sym front) found.head) in cc)

pub returns-then-not-is_in_place-clause-err : goal.returns-then-not-is_in_place-clause-err
returns-then-not-is_in_place-clause-err c = λ x rest f place short there stood.
    let left = c.args.self.now.data.now in
    let found = laid_found (c.args.first + c.args.self.now.index) c.args.self.now.at left x rest c.requires.bytes c.requires.first (omega (arith, c.args.self.now.in_block)) c.requires.at f short there stood in
    let front = c.in_ok-fid.ensures.prints.bytes_are in
    let same : said c.in-Some.item ≡ x = c.in-Some.ensures.describes ∙ ap identifier_in front ∙ found.says in
    absurd (let so = c.is_in_place.ensures.1 (subst (λ (y : Identifier). IsInPlace c.args.is_first y) (sym same) place) in cc)

pub is_padded-requires-clause-whole : goal.is_padded-requires-clause-whole
is_padded-requires-clause-whole c =
    whole_front c.args.self.now.at c.in_ok-fid.fid c.args.self.now.data.now (c.in_ok-fid.ensures.exactly.0 refl) c.in_ok-fid.ensures.prints

pub returns-then-not-is_padded-clause-err : goal.returns-then-not-is_padded-clause-err
returns-then-not-is_padded-clause-err c = λ x rest f place short there stood.
    let left = c.args.self.now.data.now in
    let found = laid_found (c.args.first + c.args.self.now.index) c.args.self.now.at left x rest c.requires.bytes c.requires.first (omega (arith, c.args.self.now.in_block)) c.requires.at f short there stood in
    let front = c.in_ok-fid.ensures.prints.bytes_are in
    let after = c.in_ok-fid.ensures.«data» in
    let padded =
    subst (λ (b : List ℕ). IsPadded c.args.self.now.at b c.split.new.self.data.now) (sym front)
    (subst (λ (d : List ℕ). IsPadded c.args.self.now.at (take (size_of left) left) d) (sym after) found.padded) in
    absurd (let so = c.is_padded.ensures.1 padded in cc)

pub returns-clause-ok : goal.returns-clause-ok
returns-clause-ok c =
    let left = c.args.self.now.data.now in
    let front = c.in_ok-fid.ensures.prints.bytes_are in
    let after = c.in_ok-fid.ensures.«data» in
    record {
      split = c.in_ok-fid.ensures.exactly.0 refl;
      head = subst (λ (b : List ℕ). HasHead (c.args.first + c.args.self.now.index) b) front (c.in-Some.ensures.exactly.0 refl);
      says = c.in-Some.ensures.describes ∙ ap identifier_in front;
      place = c.is_in_place.ensures.0 c.if-not-is_in_place.false;
      padded =
          subst (λ (d : List ℕ). IsPadded c.args.self.now.at (take (size_of left) left) d) after
          (subst (λ (b : List ℕ). IsPadded c.args.self.now.at b c.split.new.self.data.now) front (c.is_padded.ensures.0 c.if-not-is_padded.false));
      rest = after;
      at = c.in_ok-fid.ensures.at;
      index = c.in_ok-fid.ensures.index;
    }

pub returns-clause-name : goal.returns-clause-name
returns-clause-name c =
    let left = c.args.self.now.data.now in
    let one = c.in_ok-fid.fid.bytes.now in
    let front = c.in_ok-fid.ensures.prints.bytes_are in
    let count : name_size one ≡ slice_index left 19 = ap name_size front ∙ name_size-front (size_of left) left (omega arith) in
    let byte = c.requires.bytes 19 in
    let name = ap (λ (y : Identifier). length y.name) c.in-Some.ensures.describes in
    omega (arith, name, count, byte, length-take (name_size one) (drop (38 + use_size one) one))
