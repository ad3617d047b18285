use Rattle.std.proofs.Common.{◌≡◌, ℕ, ◌+◌, ◌*◌, ◌/◌, ◌^◌, ◌<◌, ◌≤◌, arith}
use lib.Pow.{pow_mono}
use Rattle.hypercube.proofs.Filled.{swept_none}
use Rattle.labels.proofs.Directions.{own_of}
use Rattle.labels.proofs.Flags.{cube_le, own_stay}
use Rattle.labels.proofs.Pairs.{even_below, row_swept, row-lowest, row_of, pairs_all, rows_all}
use Rattle.labels.proofs.flags_by_label.Goals as goal

pub returns-then-is_identity : goal.returns-then-is_identity
returns-then-is_identity c =
    own_stay c.requires.n_bound.0 c.requires.n_bound.1 (own_of _ c.is_identity.ensures c.if-is_identity.true) c.requires.empty_from

-- a cube of less than 32 nodes has at most 8 pairs
few : (n : ℕ) → n < 5 → 2 ^ n / 2 ≤ 16
few n h = omega (arith, pow_mono {i = n} {j = 4} (omega arith))

pub put_pairs-requires-clause-count_bound : goal.put_pairs-requires-clause-count_bound
put_pairs-requires-clause-count_bound c =
    let few : c.from-size.result / 2 ≤ 16 = omega (arith, c.pow2.ensures, c.from-size.ensures, few c.args.n c.if-n-lt5.true) in
    (few, omega arith, c.requires.empty_from.entries)

pub put_pairs-requires-clause-by_index : goal.put_pairs-requires-clause-by_index
put_pairs-requires-clause-by_index c = λ l b.
    even_below (row-lowest c.requires.n_bound.1 c.nodes_from-low.ensures c.pairs_of-pairs.ensures) l
    (omega (arith, c.pow2.ensures, c.from-size.ensures, few c.args.n c.if-n-lt5.true))

pub returns-then-n-lt5 : goal.returns-then-n-lt5
returns-then-n-lt5 c =
    let row = row-lowest c.requires.n_bound.1 c.nodes_from-low.ensures c.pairs_of-pairs.ensures in
    let few : c.from-size.result / 2 ≤ 16 = omega (arith, c.pow2.ensures, c.from-size.ensures, few c.args.n c.if-n-lt5.true) in
    pairs_all c.args.n c.args.map.now c.args.flags.now c.requires.empty_from
    (row_swept row few (swept_none (λ k h. absurd (omega arith))) c.put_pairs.ensures) (omega (arith, c.pow2.ensures, c.from-size.ensures))

pub put_pairs-requires-in-loop-h-clause-by_index : goal.put_pairs-requires-in-loop-h-clause-by_index
put_pairs-requires-in-loop-h-clause-by_index c =
    let below : c.loop-h.h < 32 = omega (arith, c.pow2.ensures, c.from-size.ensures, cube_le c.args.n c.requires.n_bound.0) in
    even_below (row_of c.requires.n_bound.1 c.nodes_from-low.ensures c.pairs_of-pairs.ensures c.nodes_from-high.ensures c.loop-h.h below)

pub loop-h-preserved : goal.loop-h-preserved
loop-h-preserved c =
    let h = c.loop-h.h in
    let below : h < 32 = omega (arith, c.pow2.ensures, c.from-size.ensures, cube_le c.args.n c.requires.n_bound.0) in
    let row = row_of c.requires.n_bound.1 c.nodes_from-low.ensures c.pairs_of-pairs.ensures c.nodes_from-high.ensures h below in
    let e : 32 * h + 2 * 16 ≡ 32 * (h + 1) = omega arith in
    rw e at (row_swept row (omega arith) c.loop-h.invariant c.put_pairs-in-loop-h.ensures)

pub returns : goal.returns
returns c =
    rows_all c.args.n c.args.map.now c.args.flags.now (omega arith) c.requires.empty_from c.loop-h.invariant
    (omega (arith, c.pow2.ensures, c.from-size.ensures))
