use Rattle.std.proofs.Common.{◌≡◌, ℕ, ◌+◌, ◌-◌, ◌≤◌, List, length, take, drop, ◌++◌, sym, ap, ◌∙◌, arith, length-append}
use Rattle.std.proofs.lemmas.List.{drop-take, length-take-le, take_all, take-append-le, take-take}
use Rattle.request.proofs.frames.forget.Goals as goal

-- a list with three others after it, cut to no less than itself, begins with it
begins : (front second third last : List ℕ) (n most : ℕ) → n ≤ most → length front ≡ n
    → take n (take most (front ++ second ++ third ++ last)) ≡ front
begins front second third last n most within size =
    take-take n most (front ++ second ++ third ++ last) within
    ∙ take-append-le n (front ++ second ++ third) last
    (omega (arith, size, length-append (front ++ second) third, length-append front second))
    ∙ take-append-le n (front ++ second) third (omega (arith, size, length-append front second))
    ∙ take-append-le n front second (omega (arith, size))
    ∙ take_all n front (omega (arith, size))

-- the bytes between two numbers, as they are in what begins at the first
between : (xs : List ℕ) (from to : ℕ) → from ≤ to → take (to - from) (drop from xs) ≡ drop from (take to xs)
between xs from to order =
    let whole : from + (to - from) ≡ to = omega (arith, order) in
    sym (drop-take from (to - from) xs) ∙ ap (λ (n : ℕ). drop from (take n xs)) whole

pub returns-clause-held : goal.returns-clause-held
returns-clause-held c =
    let within : c.args.end - c.args.taken ≤ c.args.bytes.now.len = omega (arith, c.requires.to) in
    let size : length c.copy_from_slice.new.self ≡ c.args.end - c.args.taken =
    c.copy_from_slice.ensures.len
    ∙ length-take-le (c.args.end - c.args.taken) c.split_at_mut-front.result.0.now (omega (arith, c.split_at_mut-front.ensures.front_len, c.requires.apart)) in
    begins c.copy_from_slice.new.self
    (drop (c.args.end - c.args.taken) c.split_at_mut-front.result.0.now)
    c.split_at_mut-front.result.1.now
    (drop
    (length (c.copy_from_slice.new.self ++ drop (c.args.end - c.args.taken) c.split_at_mut-front.result.0.now ++ c.split_at_mut-front.result.1.now))
    c.args.bytes.now.items)
    (c.args.end - c.args.taken) c.args.bytes.now.len within size
    ∙ c.copy_from_slice.ensures.after
    ∙ ap (λ (xs : List ℕ). take (c.args.end - c.args.taken) xs) c.split_at_mut-front.ensures.back
    ∙ ap (λ (xs : List ℕ). take (c.args.end - c.args.taken) (drop c.args.taken xs)) c.deref_mut.ensures.value
    ∙ between c.args.bytes.now.items c.args.taken c.args.end c.requires.from
