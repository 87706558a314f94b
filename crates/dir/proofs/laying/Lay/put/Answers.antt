use Rattle.std.proofs.Common.{◌≡◌, ◌+◌, ◌-◌, ◌∙◌, ℕ, Bool, not, drop, ap, sym}
use Rattle.std.specs.Prelude.{if◌then◌else◌}
use Rattle.std.specs.Option.{option_map}
use Rattle.dir.specs.Directory.{identifiers_of}
use Rattle.dir.specs.Item.{said}
use Rattle.dir.specs.Layout.{fits, stays}
use Rattle.dir.proofs.Filling.{put_end, stays-some, stays-none}
use Rattle.dir.proofs.laying.Lay.put.Goals as goal
use Rattle.dir.proofs.laying.Lay.put.Goals.{in-Some, in-None, then-full, else-full}

pub returns-clause-end : goal.returns-clause-end
returns-clause-end c =
    let ids = identifiers_of c.pass-kept.new.self.dir.now in
    let next = c.pass-kept.new.self.next in
    let end = c.args.at + c.plain_size.result in
    let full : c.match-self.full ≡ not (stays (drop next ids) (2048 - end)) = elim c.match-self.branch [
      | in-Some w ↦
          w.full-is ∙ ap not (w.fits.ensures ∙ ap (λ (n : ℕ). fits n (2048 - end)) w.plain_size-in-Some.ensures
          ∙ sym (stays-some ids next (2048 - end) (said w.in-Some.next) (sym c.pass-kept.new.self.said ∙ ap (option_map said) w.in-Some.is)))
      | in-None w ↦ w.full-is ∙ ap not (sym (stays-none ids next (2048 - end) (sym c.pass-kept.new.self.said ∙ ap (option_map said) w.in-None.is)))
    ] in
    let after : c.if-full.after ≡ (if c.match-self.full then 2048 else end) = elim c.if-full.branch [
      | then-full w ↦ w.after-is ∙ sym (ap (λ (b : Bool). if b then 2048 else end) w.if-full.true)
      | else-full w ↦ w.after-is ∙ sym (ap (λ (b : Bool). if b then 2048 else end) w.if-full.false)
    ] in
    put_end c.args.at end c.if-full.after (said c.args.item.now) (drop next ids) c.match-self.full (ap (λ (n : ℕ). c.args.at + n) c.plain_size.ensures) full after
