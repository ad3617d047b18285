-- `record::state_right` meets its contract: the laws of a state, at the one that the record says. Assumes nothing.
use Prim.Native.Nat.{ℕ, ◌^◌}
use borrow.Author.Rules.{rules}
use borrow.Author.Tests.{not-true, not-false}
use mathlib.Core.Path.{◌≡◌, sym, ap, ap₂, ◌∙◌}
use mathlib.Core.Bool.{true}
use native.Mathlib.Omega.{arith}
use Rattle.state.specs.Valid.{map_right, nodes_right}
use Rattle.state.proofs.Valid.{not_small, not_permuted, not_nodes, by_stars, means_nodes}
use Rattle.record.specs.Layout.{decode}
use Rattle.record.proofs.Round.{sized-decode}
use Rattle.record.proofs.state_right.Statement.{statement}
use Rattle.record.proofs.state_right.Tie as tie

abbrev start : tie.After-map_right → tie.Start
start c = c.before.before.before.before.before.before

-- what was found of the map
map_test : (c : tie.After-map_right)
    → map_right (decode (start c).args.bytes.now).map (decode (start c).args.bytes.now).n ≡ c.map_right.result
map_test c =
    sym (c.map_right.ensures ∙ ap₂ map_right c.load_map-map.ensures c.dimension-n.ensures)

dimension_requires : tie.Need-dimension-n-requires
dimension_requires c κs = search rules

returns : tie.Need-returns-then-n-gt10
returns c = not_small _ (omega (arith, c.dimension-n.ensures))

load_map_requires : tie.Need-load_map-map-requires
load_map_requires c κs = search rules

map_right_requires : tie.Need-map_right-requires
map_right_requires c κs = search rules

returns_2 : tie.Need-returns-then-not-map_right
returns_2 c =
    not_permuted _ (omega (arith, c.dimension-n.ensures)) (map_test c.before ∙ not-true _ c.if-not-map_right.true-raw)

node_count_requires : tie.Need-node_count-size-requires
node_count_requires c κs = search rules

nodes_right_requires : tie.Need-nodes_right-requires
nodes_right_requires c κs = search rules

-- what was found of the nodes
nodes_test : (c : tie.After-nodes_right)
    → let s = decode c.args.bytes.now in
    nodes_right s.holders s.conditions (2 ^ s.n) ≡ c.nodes_right.result
nodes_test c =
    let e = c.dimension-n.ensures in
    sym (c.nodes_right.ensures ∙ ap (nodes_right _ _) (c.node_count-size.ensures.0 ∙ ap (λ (n : ℕ). 2 ^ n) e))

returns_3 : tie.Need-returns-then-not-nodes_right
returns_3 c =
    not_nodes _ (omega (arith, c.dimension-n.ensures)) (map_test c.before.before.before.before ∙ not-false _ c.if-not-map_right.false-raw)
    (nodes_test c.before ∙ not-true _ c.if-not-nodes_right.true-raw)

stars_right_requires : tie.Need-stars_right-requires
stars_right_requires c κs =
    let s = decode c.args.bytes.now in
    let N = c.node_count-size.ensures in
    let right : nodes_right s.holders s.conditions c.node_count-size.result ≡ true =
    sym c.nodes_right.ensures ∙ not-false _ c.if-not-nodes_right.false-raw in (
      search rules,
      record {
        entries = (sized-decode _).holders;
        within = N.1;
        empty = λ x g l. (((means_nodes s.holders s.conditions c.node_count-size.result).holds right x l).1 g).0;
      },
    )

returns_4 : tie.Need-returns
returns_4 c =
    c.stars_right.ensures
    ∙ by_stars _ (omega (arith, c.dimension-n.ensures)) (map_test c.before.before.before.before.before ∙ not-false _ c.if-not-map_right.false-raw)
    (nodes_test c.before.before ∙ not-false _ c.if-not-nodes_right.false-raw)

pub state_right_spec : {M : Type 1} → statement M
state_right_spec =
    tie.close
    (tie.spec
    dimension_requires
    returns
    load_map_requires
    map_right_requires
    returns_2
    node_count_requires
    nodes_right_requires
    returns_3
    stars_right_requires
    returns_4)
