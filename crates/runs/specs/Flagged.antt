-- Which labels are free, by the flags: those whose flag is 1. And a run of them.
use Rattle.std.specs.Prelude.{ℕ, zero, suc, ◌+◌, Bool, true, ◌&&◌, List, eqb, get_or}

abbrev pub flagged : List ℕ → ℕ → Bool
flagged fs l = eqb (get_or fs l 0) 1

-- whether b, b + 1, .., c of them, all pass
unfoldable pub run_free : (ℕ → Bool) → ℕ → ℕ → Bool
run_free f b zero = true
run_free f b (suc c) = run_free f b c && f (b + c)
