use Rattle.std.proofs.Common.{ℕ, sym, subst, arith}
use Rattle.volume.specs.Front.{HeaderBlock, HasContent, front_content}
use Rattle.volume.proofs.FrontLaws.{content_between}
use Rattle.volume.proofs.front.front_block.Goals as goal

pub returns-in-64 : goal.returns-in-64
returns-in-64 c =
    let stamp = c.to_bytes-stamp.result in
    record {
      label_is = c.dstring_32-volume.ensures.label;
      stamp = stamp;
      moment_is = c.to_bytes-stamp.ensures;
      holds = subst (λ (n : ℕ). HasContent n (front_content c.args.label.now c.args.moment stamp c.args.capacity n) c.integrity.result) (sym c.in-64.is) (subst (λ (n : ℕ). HasContent n (front_content c.args.label.now c.args.moment stamp c.args.capacity 64) c.integrity.result) c.in-64.is c.integrity.ensures);
    }

pub returns-in-32-to-63 : goal.returns-in-32-to-63
returns-in-32-to-63 c =
    let stamp = c.to_bytes-stamp.result in
    let label = c.args.label.now in
    let content = content_between label c.args.moment stamp c.args.capacity c.args.n (omega (arith, c.in-32-to-63)) (omega (arith, c.in-32-to-63)) in
    record {
      label_is = c.dstring_32-volume.ensures.label;
      stamp = stamp;
      moment_is = c.to_bytes-stamp.ensures;
      holds = subst (λ (x : HeaderBlock). HasContent c.args.n x c.sequence_block.result) (sym content) (rw c.moment.ensures.value at c.sequence_block.ensures);
    }
