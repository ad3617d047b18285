-- How long a line is. Assumes nothing.
use Prim.Native.Nat.{ℕ, ◌+◌, ◌≤◌}
use mathlib.Core.List.{List}
use native.Mathlib.Omega.{arith}
use lib.ListN.{length, length-append}
use Rattle.tally.specs.declared.Outcome.{Outcome}
use Rattle.tally.specs.declared.Tally.{Tally}
use Rattle.tally.specs.declared.Outcome.TheVariants.{Setup, Done, Granted, Refused}
use Rattle.lines.specs.Text.{ascii, item, last_item, said, line_of, totals_of}
use Rattle.lines.proofs.Digits.{decimal_short}

item-length : (text : List ℕ) (x : ℕ) → length (item text x) ≤ length text + 10
unfolding item
item-length text x = rw length-append (omega (arith, decimal_short x))

last_length : (text : List ℕ) (x : ℕ) → length (last_item text x) ≤ length text + 11
unfolding last_item
last_length text x = rw length-append (omega (arith, item-length text x))

said-length : (o : Outcome) → length (said o) ≤ 54
said-length (Setup n) = omega (arith, last_length (ascii " setup ") n)
said-length (Done v) = omega (arith, last_length (ascii " done ") v)
said-length (Granted j low stars t) =
    simp length-append (omega (
      arith,
      item-length (ascii " granted ") j,
      item-length (ascii " ") low,
      item-length (ascii " ") stars,
      last_length
          (ascii " ") t,
    ))
said-length (Refused m t) = simp length-append (omega (arith, item-length (ascii " refused ") m, last_length (ascii " ") t))

pub line_length : (place : ℕ) (o : Outcome) → length (line_of place o) ≤ 64
unfolding line_of
line_length place o = rw length-append (omega (arith, decimal_short place, said-length o))

pub totals_length : (t : Tally) → length (totals_of t) ≤ 88
unfolding totals_of
totals_length t =
    simp length-append
    (omega (
      arith,
      item-length (ascii "total ") t.total,
      item-length (ascii " setup ") t.setup,
      item-length (ascii " done ") t.done,
      item-length
          (ascii " granted ") t.granted,
      last_length (ascii " refused ") t.refused,
    ))
