use Rattle.std.proofs.Common.{◌≡◌, ℕ, ◌+◌, ◌-◌, ◌*◌, ◌<◌, ◌^◌, ◌∙◌, false, true, List, [], ◌∷◌, ◌++◌, length, take, map, replicate, sym, ap, subst, inl, arith}
use Rattle.std.specs.Prelude.{nat_eq}
use Rattle.std.specs.Cmp.Lexicographic.{pointwise}
use Rattle.std.specs.List.{All, concat}
use Rattle.std.proofs.lemmas.List.{length-take}
use Rattle.std.proofs.lemmas.Result.{err_from_is_err_and}
use Rattle.indexmap.proofs.CallerLemmas.{insert_entry-new}
use Rattle.ecma.specs.Numbers.{u32_at}
use Rattle.dir.specs.declared.entry.Entry.{Entry}
use Rattle.dir.specs.Directory.{of_parent, of_name, identifiers, IsDirectoryEntry}
use Rattle.dir.specs.Identifier.{Identifier}
use Rattle.dir.specs.Split.{size_of}
use Rattle.dir.proofs.Directories.{IsRead, read_start, read_more}
use Rattle.dir.proofs.Entries.{name_Fits, parent_Fits}
use Rattle.dir.proofs.Errors.{each_err}
use Rattle.dir.proofs.Refusals.{of_entry, all_push, directory_data, directory_tail, name_refused, no_more, twice, none_of, entries_pushed, parent_low, start_there, short_names, directory_found}
use Rattle.dir.proofs.Steps.{bytes_front}
use Rattle.dir.proofs.read.read_dir.Goals as goal

pub loop-fids-init : goal.loop-fids-init
loop-fids-init c =
    let whole = take c.args.size (concat c.args.blocks.now) in
    let f = c.new-fids.ensures in
    let parent = c.in_ok-parent.parent in
    let read = c.in_ok-parent.ensures.ok in
    let bytes = c.new-fids.result.data.now in
    let said : parent ≡ u32_at 24 (take (size_of bytes) bytes) = ap (λ (y : Identifier). y.icb) read.says in
    let low : parent < 2 ^ 32 = subst (λ (n : ℕ). n < 2 ^ 32) (sym said) (parent_low (take (size_of bytes) bytes) (bytes_front (size_of bytes) bytes f.bytes)) in
    let start = read_start whole c.args.first c.new-fids.result f.bytes f.«data» f.at f.index in
    let next =
    read_more true whole c.args.first [] c.new-fids.result c.read_parent.new.self (of_parent parent) start read (parent_Fits parent low)
    (omega (arith, f.index, c.requires.first)) in
    let none : c.new-entries.result.entries ≡ [] = c.new-entries.ensures.empty in (
      subst (λ (es : List (List ℕ × Entry)). IsRead whole c.args.first (identifiers parent es) c.read_parent.new.self) (sym none) next,
      low,
      subst (λ (es : List (List ℕ × Entry)). All IsDirectoryEntry es) (sym none) (λ k d lt. absurd (omega arith)),
    )

pub loop-fids-preserved : goal.loop-fids-preserved
loop-fids-preserved c =
    let whole = take c.args.size (concat c.args.blocks.now) in
    let f = c.new-fids.ensures in
    let parent = c.in_ok-parent.parent in
    let entries = c.loop-fids.entries.entries in
    let text = c.in_ok-name.name in
    let e = c.in_ok-name.entry in
    let inv = c.loop-fids.invariant in
    let entry = c.in_ok-name.ensures.entry in
    let far = inv.0.far in
    let size = c.ranges.size.fits in
    let in_range : c.args.first + c.loop-fids.fids.index < 2 ^ 32 = omega (arith, c.requires.first, length-take c.args.size (concat c.args.blocks.now)) in
    let next =
    read_more false whole c.args.first (identifiers parent entries) c.loop-fids.fids c.read_name.new.self (of_name text e) inv.0 c.in_ok-name.ensures.ok
    (name_Fits text e entry) in_range in
    let absent = none_of c.in_ok-insert.field-0 c.if-is_some.ensures in
    let pushed : c.insert.new.self.entries ≡ entries ++ (text, e) ∷ [] =
    c.in_ok-insert.ensures.entries ∙ insert_entry-new (pointwise nat_eq) c.loop-fids.entries text e (sym c.in_ok-insert.ensures.old ∙ absent) in (
      entries_pushed whole c.args.first parent entries c.insert.new.self.entries c.read_name.new.self text e pushed next,
      inv.1,
      subst (λ (es : List (List ℕ × Entry)). All IsDirectoryEntry es) (sym pushed) (all_push IsDirectoryEntry entries (text, e) inv.2 entry),
    )

pub returns-in_err-parent-clause-only : goal.returns-in_err-parent-clause-only
returns-in_err-parent-clause-only c =
    each_err c.from_residual.result _ (λ fault apart p es d.
    let f = c.new-fids.ensures in
    c.in_err-parent.ensures.err p (map of_entry es) d.parent_fits (short_names p es d.parent_fits d.named)
    (f.«data» ∙ directory_data p es c.args.first c.args.size c.args.blocks.now d ∙ start_there c.args.first c.new-fids.result.index c.new-fids.result.at (identifiers p es) f.index f.at)
    (inl f.at))

pub returns-in_err-name-clause-only : goal.returns-in_err-name-clause-only
returns-in_err-name-clause-only c =
    let told = err_from_is_err_and c.from_residual-in_err-name.result c.from_residual-in_err-name.ensures.1 in
    rw told.1 (λ apart p es d.
    let inv = c.loop-fids.invariant in
    name_refused (take c.args.size (concat c.args.blocks.now)) c.args.first c.in_ok-parent.parent p c.loop-fids.entries.entries es c.loop-fids.fids inv.0 d.parent_fits d.named
    (directory_data p es c.args.first c.args.size c.args.blocks.now d)
    (λ none. absurd (let so = c.is_empty.ensures.1 none in cc))
    (c.in_err-name.ensures.err (λ e. apart (let same = told.2 in cc))))

pub returns-in_err-insert-clause-only : goal.returns-in_err-insert-clause-only
returns-in_err-insert-clause-only c =
    let told = err_from_is_err_and c.from_residual-in_err-insert.result c.from_residual-in_err-insert.ensures.1 in
    rw told.1 (λ apart p es d. apart (let same = told.2 in cc))

pub returns-then-is_some-clause-only : goal.returns-then-is_some-clause-only
returns-then-is_some-clause-only c = λ apart p es d.
    let whole = take c.args.size (concat c.args.blocks.now) in
    let f = c.new-fids.ensures in
    let parent = c.in_ok-parent.parent in
    let entries = c.loop-fids.entries.entries in
    let text = c.in_ok-name.name in
    let e = c.in_ok-name.entry in
    let inv = c.loop-fids.invariant in
    let entry = c.in_ok-name.ensures.entry in
    let far = inv.0.far in
    let size = c.ranges.size.fits in
    let in_range : c.args.first + c.loop-fids.fids.index < 2 ^ 32 = omega (arith, c.requires.first, length-take c.args.size (concat c.args.blocks.now)) in
    let next =
    read_more false whole c.args.first (identifiers parent entries) c.loop-fids.fids c.read_name.new.self (of_name text e) inv.0 c.in_ok-name.ensures.ok
    (name_Fits text e entry) in_range in
    twice whole c.args.first parent p entries es c.read_name.new.self text e c.in_ok-insert.field-0 next entry inv.2 d.parent_fits d.named d.distinct
    (directory_data p es c.args.first c.args.size c.args.blocks.now d) c.in_ok-insert.ensures.old c.if-is_some.ensures

pub returns-then-len-gt-DIRECTORY_NAMES-clause-only : goal.returns-then-len-gt-DIRECTORY_NAMES-clause-only
returns-then-len-gt-DIRECTORY_NAMES-clause-only c = λ apart p es d.
    let inv = c.loop-fids.invariant in
    let same =
    no_more (take c.args.size (concat c.args.blocks.now)) c.args.first c.in_ok-parent.parent p c.loop-fids.entries.entries es c.loop-fids.fids inv.0 d.parent_fits d.named
    (directory_data p es c.args.first c.args.size c.args.blocks.now d) (c.is_empty.ensures.0 c.loop-fids-test.false) in
    let few = d.few in
    omega (arith, same, few, c.len.ensures.len, c.if-len-gt-DIRECTORY_NAMES.true)

pub returns-then-not-ends_in_zeros-clause-only : goal.returns-then-not-ends_in_zeros-clause-only
returns-then-not-ends_in_zeros-clause-only c = λ apart p es d.
    let tail = directory_tail p es c.args.first c.args.size c.args.blocks.now d in
    absurd (let so = c.ends_in_zeros.ensures.1 (tail ∙ ap (λ (n : ℕ). replicate (2048 * n - c.args.size) 0) (sym c.requires.count)) in cc)

pub returns-clause-found : goal.returns-clause-found
returns-clause-found c =
    let whole = take c.args.size (concat c.args.blocks.now) in
    let f = c.new-fids.ensures in
    let inv = c.loop-fids.invariant in
    directory_found c.args.first c.args.size c.in_ok-parent.parent c.loop-fids.entries.entries c.args.blocks.now c.loop-fids.fids inv.0 inv.1 inv.2
    (omega (arith, c.len.ensures.len, c.if-len-gt-DIRECTORY_NAMES.false)) c.len.ensures.unique (c.is_empty.ensures.0 c.loop-fids-test.false)
    (ap length (sym f.«data») ∙ f.length) c.requires.count (c.ends_in_zeros.ensures.0 c.if-not-ends_in_zeros.false)
