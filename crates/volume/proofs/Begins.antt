-- How the blocks of a volume header begin.
use Rattle.std.proofs.Common.{◌≡◌, ◌≢◌, ℕ, ◌%◌, ◌<◌, ◌==◌, Bool, true, false, List, get_or, ap, arith}
use Rattle.std.specs.Prelude.{nat_lt, if◌then◌else◌}
use Rattle.ecma.specs.Numbers.{u16_at}
use Rattle.ecma.proofs.Seals.{begins}
use Rattle.volume.specs.Front.{HeaderBlock, HasContent, FrontIsNoEntry, front_content, recognition_content, sequence_content, later_content}
use Rattle.volume.specs.Front.HeaderBlock.{Nothing, Recognition, Descriptor}

-- the identifier of a descriptor
abbrev tag_of : HeaderBlock → ℕ
tag_of Nothing = 0
tag_of (Recognition identifier) = 0
tag_of (Descriptor identifier fields) = identifier

either : (b : Bool) (x y : HeaderBlock) → tag_of x < 10 → tag_of y < 10 → tag_of (if b then x else y) < 10
either true x y low other = low
either false x y other low = low

recognition_low : (n : ℕ) → tag_of (recognition_content n) < 10
recognition_low n =
    let none : 0 < 10 = omega arith in
    either (n == 16) _ _ none (either (n == 17) _ _ none (either (n == 18) _ _ none none))

sequence_low : (label : List ℕ) (moment : ℕ) (stamp : List ℕ) (capacity place : ℕ) → tag_of (sequence_content label moment stamp capacity place) < 10
sequence_low label moment stamp capacity place =
    let none : 0 < 10 = omega arith in
    let primary : 1 < 10 = omega arith in
    let used : 4 < 10 = omega arith in
    let partition : 5 < 10 = omega arith in
    let logical : 6 < 10 = omega arith in
    let unallocated : 7 < 10 = omega arith in
    let terminating : 8 < 10 = omega arith in
    either (place == 0) _ _ primary (either (place == 1) _ _ used (either (place == 2) _ _ partition
    (either (place == 3) _ _ logical (either (place == 4) _ _ unallocated (either (place == 5) _ _ terminating none)))))

later_low : (stamp : List ℕ) (capacity n : ℕ) → tag_of (later_content stamp capacity n) < 10
later_low stamp capacity n =
    let none : 0 < 10 = omega arith in
    let integrity : 9 < 10 = omega arith in
    let terminating : 8 < 10 = omega arith in
    let anchor : 2 < 10 = omega arith in
    either (n == 64) _ _ integrity (either (n == 65) _ _ terminating (either (n == 256) _ _ anchor none))

front_low : (label : List ℕ) (moment : ℕ) (stamp : List ℕ) (capacity n : ℕ) → tag_of (front_content label moment stamp capacity n) < 10
front_low label moment stamp capacity n =
    either (nat_lt n 32) _ _ (recognition_low n) (either (nat_lt n 64) _ _ (sequence_low label moment stamp capacity (n % 16)) (later_low stamp capacity n))

holds_other : (n : ℕ) (content : HeaderBlock) (block : List ℕ) → tag_of content < 10 → HasContent n content block → u16_at 0 block ≢ 261
holds_other n Nothing block low there = λ (e : u16_at 0 block ≡ 261). omega (arith, e, ap (u16_at 0) there)
holds_other n (Recognition identifier) block low there =
    λ (e : u16_at 0 block ≡ 261).
    let first : get_or block 0 0 ≡ 0 = ap (λ (t : List ℕ). get_or t 0 0) there in
    omega (arith, e, first)
holds_other n (Descriptor identifier fields) block low there =
    let few : identifier < 10 = low in
    λ (e : u16_at 0 block ≡ 261). omega (arith, e, begins identifier n fields block there, few)

pub front_is_no_entry : FrontIsNoEntry
front_is_no_entry label moment capacity n block front =
    holds_other n (front_content label moment front.stamp capacity n) block (front_low label moment front.stamp capacity n) front.holds
