use Rattle.std.proofs.Common.{◌≡◌, ◌-◌, ◌^◌, ◌∙◌, min, Some, List, length, get_or, refl, subst, ap, arith}
use Rattle.std.specs.Prelude.{slice_get, All}
use Rattle.std.proofs.lemmas.List.{take_all}
use Rattle.std.proofs.lemmas.Option.{slice_get_read}
use Rattle.planning.specs.declared.change.NewDirectory.{NewDirectory}
use Rattle.planning.specs.Needs.{directories_need}
use Rattle.planning.specs.Writings.{IsProper}
use Rattle.planning.proofs.Names.{all_more}
use Rattle.planning.proofs.Plans.{need_more}
use Rattle.planning.proofs.plan.directories_need.Goals as goal

pub loop-directory-preserved : goal.loop-directory-preserved
loop-directory-preserved c =
    let ds = c.args.directories.now in
    let i = c.loop-directory.directory-index in
    let d = c.directory-item.result in
    let here : d ≡ get_or ds i d = (let told = c.directory-item.is in cc) in
    let found : slice_get ds i ≡ Some d = slice_get_read ds (length ds) i d refl (omega (arith, c.loop-directory-test.true)) here in
    record {
      value = omega (arith, c.loop-directory.invariant.value, need_more ds i d found, c.identifiers_size-size.ensures.size, c.saturating_add-blocks.ensures);
      proper = all_more (λ (x : NewDirectory). IsProper x.content.dir) ds i d found c.identifiers_size-size.ensures.proper c.loop-directory.invariant.proper;
    }

pub returns-clause-value : goal.returns-clause-value
returns-clause-value c =
    let ds = c.args.directories.now in
    let i = c.loop-directory.directory-index in
    c.loop-directory.invariant.value ∙ ap (λ (xs : List NewDirectory). min (directories_need xs) (2 ^ 64 - 1)) (take_all i ds (omega (arith, c.loop-directory-test.false)))

pub returns-clause-proper : goal.returns-clause-proper
returns-clause-proper c =
    let ds = c.args.directories.now in
    let i = c.loop-directory.directory-index in
    subst (λ (xs : List NewDirectory). All (λ d. IsProper d.content.dir) xs) (take_all i ds (omega (arith, c.loop-directory-test.false))) c.loop-directory.invariant.proper
