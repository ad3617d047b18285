-- `record::nodes_right` meets its contract. Assumes nothing.
use borrow.Author.Rules.{rules}
use borrow.Author.Tests.{not-true, not-false}
use native.Mathlib.Omega.{arith}
use Rattle.record.proofs.Parts.{not_below, not_beyond, by_holders}
use Rattle.record.proofs.nodes_right.Statement.{statement}
use Rattle.record.proofs.nodes_right.Tie as tie

add_nodes : tie.Need-overflow_add-nodes
add_nodes c = search rules

sub_highest : tie.Need-slice_bounds-highest-count
sub_highest c = search rules

highest_requires : tie.Need-highest-requires
highest_requires c κs = search rules

returns : tie.Need-returns-then-highest-gt2
returns c =
    not_below _ _ c.requires.0 c.requires.1 c.highest.ensures (omega arith)

sub_all_zero : tie.Need-slice_bounds-all_zero-count
sub_all_zero c = search rules

all_zero_requires : tie.Need-all_zero-requires
all_zero_requires c κs = search rules

returns_2 : tie.Need-returns-then-not-all_zero
returns_2 c =
    not_beyond _ _ c.requires.0 c.requires.1 c.highest.ensures (omega arith) c.all_zero.ensures
    (not-true _ c.if-not-all_zero.true-raw)

mul_held : tie.Need-overflow_mul-held
mul_held c = search rules

add_held : tie.Need-overflow_add-held
add_held c = search rules

sub_all_zero_2 : tie.Need-slice_bounds-all_zero-count-2
sub_all_zero_2 c = search rules

all_zero_requires_2 : tie.Need-all_zero-requires-2
all_zero_requires_2 c κs = search rules

returns_3 : tie.Need-returns
returns_3 c =
    by_holders _ _ c.requires.0 c.requires.1 c.highest.ensures (omega arith)
    c.all_zero.ensures (not-false _ c.if-not-all_zero.false-raw) c.all_zero-2.ensures

slice_bounds_highest_start : tie.Need-slice_bounds-highest-start
slice_bounds_highest_start c = search rules

slice_bounds_highest_end : tie.Need-slice_bounds-highest-end
slice_bounds_highest_end c = search rules

slice_bounds_all_zero_start : tie.Need-slice_bounds-all_zero-start
slice_bounds_all_zero_start c = search rules

slice_bounds_all_zero_end : tie.Need-slice_bounds-all_zero-end
slice_bounds_all_zero_end c = search rules

slice_bounds_all_zero_start_2 : tie.Need-slice_bounds-all_zero-start-2
slice_bounds_all_zero_start_2 c = search rules

slice_bounds_all_zero_end_2 : tie.Need-slice_bounds-all_zero-end-2
slice_bounds_all_zero_end_2 c = search rules

pub nodes_right_spec : {M : Type 1} → statement M
nodes_right_spec =
    tie.close
    (tie.spec
    add_nodes
    sub_highest
    slice_bounds_highest_start
    slice_bounds_highest_end
    highest_requires
    returns
    sub_all_zero
    slice_bounds_all_zero_start
    slice_bounds_all_zero_end
    all_zero_requires
    returns_2
    mul_held
    add_held
    sub_all_zero_2
    slice_bounds_all_zero_start_2
    slice_bounds_all_zero_end_2
    all_zero_requires_2
    returns_3)
