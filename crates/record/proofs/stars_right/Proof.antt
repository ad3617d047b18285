-- `record::stars_right` meets its contract. Assumes nothing.
use borrow.Author.Rules.{rules}
use borrow.Author.Tests.{not-true, not-false}
use Rattle.record.proofs.Parts.{not_beyond_stars, by_stars}
use Rattle.record.proofs.stars_right.Statement.{statement}
use Rattle.record.proofs.stars_right.Tie as tie

mul_nodes : tie.Need-overflow_mul-nodes
mul_nodes c = search rules

add_nodes : tie.Need-overflow_add-nodes
add_nodes c = search rules

sub_all_zero : tie.Need-slice_bounds-all_zero-count
sub_all_zero c = search rules

all_zero_requires : tie.Need-all_zero-requires
all_zero_requires c κs = search rules

returns : tie.Need-returns-then-not-all_zero
returns c =
    not_beyond_stars _ _ c.requires.0 c.requires.1.within c.requires.1.empty c.all_zero.ensures (not-true _ c.if-not-all_zero.true-raw)

none_stray_requires : tie.Need-none_stray-requires
none_stray_requires c κs = search rules

returns_2 : tie.Need-returns
returns_2 c =
    by_stars _ _ c.requires.0 c.requires.1.within c.requires.1.empty c.all_zero.ensures (not-false _ c.if-not-all_zero.false-raw)
    c.none_stray.ensures

slice_bounds_all_zero_start : tie.Need-slice_bounds-all_zero-start
slice_bounds_all_zero_start c = search rules

slice_bounds_all_zero_end : tie.Need-slice_bounds-all_zero-end
slice_bounds_all_zero_end c = search rules

pub stars_right_spec : {M : Type 1} → statement M
stars_right_spec =
    tie.close
    (tie.spec
    mul_nodes
    add_nodes
    sub_all_zero
    slice_bounds_all_zero_start
    slice_bounds_all_zero_end
    all_zero_requires
    returns
    none_stray_requires
    returns_2)
