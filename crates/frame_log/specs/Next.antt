-- What the input has next. Document 01: "A lone last byte, or a length under 4 or past the input's end, prints 'refused 3 0' and stops."
use Rattle.std.specs.Prelude.{ℕ, ◌+◌, Bool, cond, List, ltb, length}
use Rattle.hypercube.specs.Words.{word}
use Rattle.frame_log.specs.declared.Next.{Next}
use Rattle.frame_log.specs.declared.Next.TheVariants.{Frame, More, End, Broken}

-- of the bytes l from the place `at` on: `last` says that the input ends with them, otherwise more of it may follow
unfoldable pub next_of : Bool → ℕ → List ℕ → Next
next_of last at l =
    cond (ltb 0 (length l))
    (cond (ltb 1 (length l))
    (cond (ltb (word l 0) 4) Broken (cond (ltb (length l) (word l 0)) (cond last Broken More) (Frame (record { at = at + word l 0 }))))
    (cond last Broken More))
    (cond last End More)
