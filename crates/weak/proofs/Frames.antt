-- The few calls by which the worthless programs are refuted, and what the history says of them. Assumes nothing.
use mathlib.Core.Path.{◌≡◌, refl}
use mathlib.Core.Option.{some}
use mathlib.Core.List.{List, [], ◌∷◌}
use mathlib.Core.Logic.{inl}
use Prim.Native.Nat.{ℕ, ◌+◌, ◌*◌}
use native.Mathlib.Omega.{arith}
use lib.ListN.{get_or}
use Rattle.hypercube.specs.Lists.{In, over, some_of, among, count_below, any_below}
use Rattle.hypercube.specs.Labels.{node, size, assign}
use Rattle.hypercube.specs.Subcubes.{vertices, free_at}
use Rattle.hypercube.specs.Families.{first_free}
use Rattle.hypercube.specs.BestFit.{maximal_in, smallest}
use Rattle.hypercube.specs.Conditions.{all_of}
use Rattle.hypercube.specs.Checks.{first_met}
use Rattle.hypercube.specs.Words.{word}
use Rattle.hypercube.specs.declared.Reply.TheVariants.{Refused, Done}
use Rattle.hypercube.specs.Replies.{granted}
use Rattle.history.specs.Calls.{Log, asking, kind_of, length_field, kind, node_field, job, dimension, strategy}
use Rattle.history.specs.Account.{fresh}
use Rattle.history.specs.Causes.{causes}
use Rattle.history.specs.Verdicts.{cause, accept, tell, step, verdict, verdicts}
use Rattle.history.specs.Held.{Held, without, held}
use Rattle.state.specs.declared.Call.TheVariants.{Good, Relabel, Request, Release, Grow}
use Rattle.state.specs.Acts.{call_of}
use Rattle.std.specs.Prelude.{Ok}
use Rattle.frames.specs.Parse.{sized, parsed}
use Rattle.cube.specs.Run.{Exchange, Exchanges, begin, ◌next◌, fed, feed, history_at}
use Rattle.no_waste.specs.NoWaste.{free_nodes}

-- a frame with twelve zeros to reply in
abbrev exchange : List ℕ → Exchange
exchange f = record { frame = f; buffer = 0 ∷ 0 ∷ 0 ∷ 0 ∷ 0 ∷ 0 ∷ 0 ∷ 0 ∷ 0 ∷ 0 ∷ 0 ∷ 0 ∷ [] }

-- 'good' of node x; job j asks for one node, by buddy
abbrev pub good : ℕ → Exchange
good x = exchange (6 ∷ 0 ∷ 0x01 ∷ 0x01 ∷ x ∷ 0 ∷ [])

abbrev pub asks : ℕ → Exchange
asks j = exchange (8 ∷ 0 ∷ 0x01 ∷ 0x02 ∷ j ∷ 0 ∷ 0 ∷ 0 ∷ [])

abbrev pub relabels : Exchange
relabels = exchange (4 ∷ 0 ∷ 0x03 ∷ 0x02 ∷ [])

-- job 1 asks for two nodes, by buddy; it releases what it holds
abbrev pub pair : Exchange
pair = exchange (8 ∷ 0 ∷ 0x01 ∷ 0x02 ∷ 1 ∷ 0 ∷ 1 ∷ 0 ∷ [])

abbrev pub gives_back : Exchange
gives_back = exchange (6 ∷ 0 ∷ 0x02 ∷ 0x02 ∷ 1 ∷ 0 ∷ [])

-- job 1 grows to two nodes, by buddy
abbrev pub grows : Exchange
grows = exchange (8 ∷ 0 ∷ 0x04 ∷ 0x02 ∷ 1 ∷ 0 ∷ 1 ∷ 0 ∷ [])

-- job 1 asks for one node, and for two, by best fit
abbrev pub fits : Exchange
fits = exchange (8 ∷ 0 ∷ 0x01 ∷ 0x02 ∷ 1 ∷ 0 ∷ 0 ∷ 4 ∷ [])

abbrev pub fits_pair : Exchange
fits_pair = exchange (8 ∷ 0 ∷ 0x01 ∷ 0x02 ∷ 1 ∷ 0 ∷ 1 ∷ 4 ∷ [])

-- job 2 asks for two nodes, by strategy f
abbrev pub second_pair : ℕ → Exchange
second_pair f = exchange (8 ∷ 0 ∷ 0x01 ∷ 0x02 ∷ 2 ∷ 0 ∷ 1 ∷ f ∷ [])

-- one node, or two, or three, good
abbrev pub one : Exchanges
one = begin next good 0

abbrev pub two : Exchanges
two = begin next good 0 next good 1

abbrev pub three : Exchanges
three = two next good 2

-- of four nodes two good, across direction 2
abbrev pub across : Exchanges
across = begin next good 0 next good 2

-- of four nodes job 1 holds node 2, and then nodes 0 and 1 are good
abbrev pub outside : Exchanges
outside = begin next good 2 next asks 1 next good 0 next good 1

-- of two nodes job 1 holds the first and job 2 the second
abbrev pub shared : Exchanges
shared = two next asks 1 next asks 2

pub parsed-good : (x : ℕ) → parsed (good x).frame ≡ Ok (Good (record { 0 = x }))
unfolding parsed call_of sized word kind_of
parsed-good x = let e : x + 256 * 0 ≡ x = omega arith in rw e

pub parsed_asks : (j : ℕ) → parsed (asks j).frame ≡ Ok (Request j 0 0)
unfolding parsed call_of sized word kind_of
parsed_asks j = let e : j + 256 * 0 ≡ j = omega arith in rw e

pub parsed-relabel : parsed relabels.frame ≡ Ok Relabel
unfolding parsed call_of sized word kind_of
parsed-relabel = refl

pub parsed-pair : parsed pair.frame ≡ Ok (Request 1 1 0)
unfolding parsed call_of sized word kind_of
parsed-pair = refl

pub parsed-release : parsed gives_back.frame ≡ Ok (Release 1)
unfolding parsed call_of sized word kind_of
parsed-release = refl

pub parsed-grow : parsed grows.frame ≡ Ok (Grow 1 1 0)
unfolding parsed call_of sized word kind_of
parsed-grow = refl

pub parsed_fits : parsed fits.frame ≡ Ok (Request 1 0 4)
unfolding parsed call_of sized word kind_of
parsed_fits = refl

pub parsed_fits_pair : parsed fits_pair.frame ≡ Ok (Request 1 1 4)
unfolding parsed call_of sized word kind_of
parsed_fits_pair = refl

pub parsed_second_pair : (f : ℕ) → parsed (second_pair f).frame ≡ Ok (Request 2 1 f)
unfolding parsed call_of sized word kind_of
parsed_second_pair f = refl

-- job j's subcube of node x alone, granted after the calls l
abbrev pub alone : ℕ → ℕ → Log → Held
alone j x l = record { holder = j; low = x; stars = 0; before = some l }

pub requests : In (kind (fed (asks 1))) asking
unfolding kind word kind_of
requests = inl refl

-- what the history says: a silent node is not granted; a good one is, and is held; of two the second is the second tried; two silent nodes differ in
-- a direction, and where one of them is good none do; by two silent nodes across direction 2 direction 1 moves to 2; a job that grows loses its
-- node outside the member; two jobs hold a node each; a job has two nodes with star bits 1, and gives both back; of three good nodes the first fits
-- by buddy and the third by best fit, beside a block of two, which is then left, and by buddy split; the only node fits; a lone node is a maximal
-- free block, and no pair is free
pub record Told : Type 0 where
  pub silent : verdict 0 (history_at 0 begin) (fed (asks 1)) ≡ Refused 14 1
  pub one_granted : verdict 0 (history_at 0 one) (fed (asks 1)) ≡ granted 1 0 0 1
  pub one_held : (history_at 0 (one next asks 1)).holder 0 ≡ 1
  pub one_free : (history_at 0 one).holder 0 ≡ 0
  pub none_held : (x : ℕ) → (history_at 1 two).holder x ≡ 0
  pub first_held : ((history_at 1 (two next asks 1)).holder 0 ≡ 1) × ((history_at 1 (two next asks 1)).holder 1 ≡ 0)
  pub second_granted : verdict 1 (history_at 1 (two next asks 1)) (fed (asks 2)) ≡ granted 2 1 0 2
  pub second_held : (history_at 1 (two next asks 1 next asks 2)).holder 1 ≡ 2
  pub both_silent : verdict 1 (history_at 1 begin) (fed relabels) ≡ Done 1
  pub second_silent : verdict 1 (history_at 1 one) (fed relabels) ≡ Done 0
  pub first_good : ((history_at 1 one).condition 0 ≡ 1) × ((history_at 1 one).condition 1 ≡ 0)
  pub first_unheld : (x : ℕ) → (history_at 1 one).holder x ≡ 0
  pub across_good : ((history_at 2 across).condition 0 ≡ 1) × ((history_at 2 across).condition 1 ≡ 0) × ((history_at 2 across).condition 2 ≡ 1)
      × ((history_at 2 across).condition 3 ≡ 0)
  pub across_unheld : (x : ℕ) → (history_at 2 across).holder x ≡ 0
  pub across_moved : get_or (history_at 2 (across next relabels)).directions 0 0 ≡ 2
  pub outside_held : (history_at 2 outside).holder 2 ≡ 1
  pub outside_granted : verdict 2 (history_at 2 outside) (fed grows) ≡ granted 1 0 1 1
  pub outside_lost : (history_at 2 (outside next grows)).holder 2 ≡ 0
  pub both_good : ((history_at 1 shared).condition 0 ≡ 1) × ((history_at 1 shared).condition 1 ≡ 1)
  pub both_held : ((history_at 1 shared).holder 0 ≡ 1) × ((history_at 1 shared).holder 1 ≡ 2)
  pub pair-granted : verdict 1 (history_at 1 two) (fed pair) ≡ granted 1 0 1 1
  pub none_starred : (history_at 1 two).stars 1 ≡ 0
  pub pair_held : (history_at 1 (two next pair)).holder 0 ≡ 1
  pub pair_starred : (history_at 1 (two next pair)).stars 0 ≡ 1
  pub pair_released : verdict 1 (history_at 1 (two next pair)) (fed gives_back) ≡ Done 2
  pub first_fit : verdict 2 (history_at 2 three) (fed (asks 1)) ≡ granted 1 0 0 1
  pub best_fit : verdict 2 (history_at 2 three) (fed fits) ≡ granted 1 2 0 2
  pub three_good : ((history_at 2 three).condition 0 ≡ 1) × ((history_at 2 three).condition 1 ≡ 1) × ((history_at 2 three).condition 2 ≡ 1)
  pub three_unheld : (x : ℕ) → (history_at 2 three).holder x ≡ 0
  pub two_left : free_nodes 2 (history_at 2 (three next fits)) ≡ 2
  pub one_unheld : (x : ℕ) → (history_at 0 one).holder x ≡ 0
  pub one_left : free_nodes 0 (history_at 0 one) ≡ 1
  pub pair_left : verdict 2 (history_at 2 (three next fits)) (fed (second_pair 4)) ≡ granted 2 0 1 1
  pub pair_split : verdict 2 (history_at 2 (three next asks 1)) (fed (second_pair 0)) ≡ Refused 14 2
  pub one_fits : verdict 0 (history_at 0 one) (fed fits) ≡ granted 1 0 0 1
  pub no_pair : verdict 1 (history_at 1 one) (fed fits_pair) ≡ Refused 14 1
  pub shared_held : held (verdicts 1 fresh) [] (feed shared) ≡ alone 2 1 (feed (two next asks 1)) ∷ alone 1 0 (feed two) ∷ []

pub told : Told
unfolding over some_of node size assign vertices free_at first_free maximal_in smallest any_below all_of word kind_of
    length_field kind node_field job dimension strategy among count_below causes first_met cause accept tell step verdict without
told = record {
  silent = refl;
  one_granted = refl;
  one_held = refl;
  one_free = refl;
  none_held = λ x. refl;
  first_held = (refl, refl);
  second_granted = refl;
  second_held = refl;
  both_silent = refl;
  second_silent = refl;
  first_good = (refl, refl);
  first_unheld = λ x. refl;
  across_good = (refl, refl, refl, refl);
  across_unheld = λ x. refl;
  across_moved = refl;
  outside_held = refl;
  outside_granted = refl;
  outside_lost = refl;
  both_good = (refl, refl);
  both_held = (refl, refl);
  pair-granted = refl;
  none_starred = refl;
  pair_held = refl;
  pair_starred = refl;
  pair_released = refl;
  first_fit = refl;
  best_fit = refl;
  three_good = (refl, refl, refl);
  three_unheld = λ x. refl;
  two_left = refl;
  one_unheld = λ x. refl;
  one_left = refl;
  pair_left = refl;
  pair_split = refl;
  one_fits = refl;
  no_pair = refl;
  shared_held = refl;
}
