-- What the levels show, one after the other.
use Rattle.std.specs.Prelude.{ℕ, zero, suc, ◌+◌, ◌-◌, ◌*◌, ◌^◌, Bool, true, false, not, cond, ◌&&◌, eqb, leb, ltb}
use Rattle.std.specs.declared.option.Option.{Option}
use Rattle.std.specs.declared.option.Option.TheVariants.{Some, None}
use Rattle.std.specs.Option.{is_none, option_or}
use Rattle.hypercube.specs.Lists.{count_below}
use Rattle.hypercube.specs.Levels.{lone, free_half}
use Rattle.hypercube.specs.Subcubes.{subcube}
use Rattle.hypercube.specs.declared.Walk.{Walk}
use Rattle.hypercube.specs.declared.Walk.TheVariants.{Found, NoneFree}
use Rattle.best_fit.specs.declared.Seen.{Seen}

abbrev pub lesser : ℕ → ℕ → ℕ
lesser a b = cond (ltb a b) a b

abbrev pub placed : Bool → ℕ → ℕ
placed t x = cond t x 512

-- the least number below N that passes the test, or 512 where none does: no place of a pair is so high
unfoldable pub first_below : ℕ → (ℕ → Bool) → ℕ
first_below zero test = 512
first_below (suc N) test = lesser (first_below N test) (placed (test N) N)

-- level d has the block that is taken: none is yet, its dimension is at least k, and some of its pairs have one free half alone
abbrev pub taking : ℕ → ℕ → Option ℕ → ℕ → Bool
taking k d taken alone = (is_none taken && leb k d) && not (eqb alone 0)

-- the block taken is the free half of the first such pair
abbrev pub after_level : Bool → ℕ → Seen → ℕ → Seen
after_level true low s alone = record { tried = s.tried + alone; taken = Some low }
after_level false low s alone = record { tried = s.tried + alone; taken = s.taken }

-- level d is looked at, whose N pairs g tells
abbrev pub seeing : ℕ → ℕ → ℕ → (ℕ → Bool) → Seen → Seen
seeing k d N g s =
    after_level (taking k d s.taken (count_below N (lone g))) (free_half g (first_below N (lone g)) * 2 ^ d) s (count_below N (lone g))

-- the top level is looked at: a block where the whole cube is free, which is taken where none is yet
abbrev pub at_top : Bool → Seen → Seen
at_top true s = record { tried = s.tried + 1; taken = option_or s.taken (Some 0) }
at_top false s = s

-- so many are tried, and of the block taken, which has this lowest label, the lowest part
abbrev pub answering : ℕ → Option ℕ → ℕ → Walk
answering k (Some low) tried = Found (subcube low (2 ^ k - 1)) tried
answering k None tried = NoneFree tried
