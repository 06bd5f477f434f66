use Rattle.std.proofs.Common.{◌≡◌, ◌<◌, ◌≤◌, ◌+◌, ◌*◌, ℕ, length, arith, ap}
use Rattle.std.proofs.lemmas.Nat.{mul-add-lt}
use Rattle.cd_sub.proofs.OrderLemmas.{pairs_small}
use Rattle.cd_types.proofs.EntryLemmas.{table_small}
use Rattle.cd_sub.proofs.parts.Side.place.Goals as goal
use Rattle.cd_sub.proofs.parts.Side.place.Goals.{then-self, else-self}

-- the number of a pair in its half of the marks
number : (m n i j width : ℕ) → m ≤ 10000 → n ≤ 10000 → width ≡ n → i < m → j < n → i * width + j < 100000000
number m n i j width few few' is row column =
    let e : i * width ≡ i * n = ap (λ w. i * w) is in
    omega (arith, e, mul-add-lt i n j m row column, pairs_small n m few' few)

pub overflow_mul-half : goal.overflow_mul-half
overflow_mul-half c =
    let few = table_small c.args.self.now.upper.now c.len-width.ensures.well_formed in
    let few' = table_small c.args.self.now.lower.now c.len.ensures.well_formed in
    let half = pairs_small c.len.result c.len-width.result (omega arith) (omega arith) in
    omega arith

pub overflow_mul-result : goal.overflow_mul-result
overflow_mul-result c =
    let few = table_small c.args.self.now.upper.now c.len-width.ensures.well_formed in
    let few' = table_small c.args.self.now.lower.now c.len.ensures.well_formed in
    let n = number (length c.args.self.now.lower.now) (length c.args.self.now.upper.now) c.args.lower c.args.upper c.len-width.result few' few c.len-width.ensures.value c.requires.lower c.requires.upper in
    omega arith

pub overflow_add-result : goal.overflow_add-result
overflow_add-result c =
    let few = table_small c.args.self.now.upper.now c.len-width.ensures.well_formed in
    let few' = table_small c.args.self.now.lower.now c.len.ensures.well_formed in
    let n = number (length c.args.self.now.lower.now) (length c.args.self.now.upper.now) c.args.lower c.args.upper c.len-width.result few' few c.len-width.ensures.value c.requires.lower c.requires.upper in
    omega arith

pub overflow_add-result-2 : goal.overflow_add-result-2
overflow_add-result-2 c =
    let few = table_small c.args.self.now.upper.now c.len-width.ensures.well_formed in
    let few' = table_small c.args.self.now.lower.now c.len.ensures.well_formed in
    let half = pairs_small c.len.result c.len-width.result (omega arith) (omega arith) in
    let n = number (length c.args.self.now.lower.now) (length c.args.self.now.upper.now) c.args.lower c.args.upper c.len-width.result few' few c.len-width.ensures.value c.requires.lower c.requires.upper in
    elim c.if-self.branch [ then-self w ↦ omega (arith, w.before-is) | else-self w ↦ omega (arith, w.before-is) ]
