-- Numbers in decimal: how they are made digit by digit, how long they are, and that they read back. Assumes nothing.
use Prim.Native.Nat.{ℕ, zero, suc, ◌+◌, ◌*◌, ◌-◌, ◌/◌, ◌%◌, ◌^◌, ◌<◌, ◌≤◌}
use mathlib.Core.Path.{◌≡◌, refl, sym, ap, ◌∙◌}
use mathlib.Core.Logic.{◌≢◌}
use mathlib.Core.List.{List, [], ◌∷◌, ◌++◌}
use native.Mathlib.Nat.{pow-succ'}
use native.Mathlib.Omega.{arith}
use borrow.Author.Tests.{ltb-true, ltb-false, lt-ltb, le-ltb}
use lib.Dec.{ltb}
use lib.ListN.{length, get_or, length-append}
use Rattle.hypercube.specs.Tests.{cases}
use Rattle.lines.specs.Text.{digit, decimal_of, decimal}

one_digit : (k x : ℕ) → x < 10 → decimal_of (suc k) x ≡ digit x ∷ []
unfolding decimal_of
one_digit k x h = let e : x % 10 ≡ x = omega arith in rw (lt-ltb x 10 h, e)

more_digits : (k x : ℕ) → 10 ≤ x → decimal_of (suc k) x ≡ decimal_of k (x / 10) ++ (digit (x % 10) ∷ [])
unfolding decimal_of
more_digits k x h = rw (le-ltb x 10 h)

tenth : (k x : ℕ) → x < 10 ^ suc k → x / 10 < 10 ^ k
tenth k x h = let e : 10 ^ suc k ≡ 10 * 10 ^ k = pow-succ' 10 k in omega arith

-- digits to spare change nothing
to_spare : (k x : ℕ) → x < 10 ^ suc k → decimal_of (suc (suc k)) x ≡ decimal_of (suc k) x
to_spare zero x h = one_digit 1 x h ∙ sym (one_digit 0 x h)
to_spare (suc k) x h =
    cases (ltb x 10) (λ t. one_digit (suc (suc k)) x (ltb-true x 10 t) ∙ sym (one_digit (suc k) x (ltb-true x 10 t))) (λ t.
    let g : 10 ≤ x = ltb-false x 10 t in
    more_digits (suc (suc k)) x g
    ∙ ap (λ (l : List ℕ). l ++ (digit (x % 10) ∷ [])) (to_spare k (x / 10) (tenth (suc k) x h))
    ∙ sym (more_digits (suc k) x g)
    )

pub decimal_one : (x : ℕ) → x < 10 → decimal x ≡ digit x ∷ []
unfolding decimal
decimal_one x h = one_digit 9 x h

pub decimal_more : (x : ℕ) → 10 ≤ x → x < 10 ^ 10 → decimal x ≡ decimal (x / 10) ++ (digit (x % 10) ∷ [])
unfolding decimal
decimal_more x g h = more_digits 9 x g ∙ ap (λ (l : List ℕ). l ++ (digit (x % 10) ∷ [])) (sym (to_spare 8 (x / 10) (omega arith)))

pub length_one : (x : ℕ) → x < 10 → length (decimal x) ≡ 1
length_one x h = rw (decimal_one x h)

pub length_more : (x : ℕ) → 10 ≤ x → x < 10 ^ 10 → length (decimal x) ≡ length (decimal (x / 10)) + 1
length_more x g h = rw (decimal_more x g h) (length-append (decimal (x / 10)) (digit (x % 10) ∷ []))

-- ---- at most k digits

at_most : (k x : ℕ) → length (decimal_of k x) ≤ k
unfolding decimal_of
at_most zero x = omega arith
at_most (suc k) x = cases (ltb x 10) (λ t. rw t (omega arith)) (λ t. rw (t, length-append) (omega (arith, at_most k (x / 10))))

pub decimal_short : (x : ℕ) → length (decimal x) ≤ 10
unfolding decimal
decimal_short x = at_most 10 x

-- ---- what the digits say

-- the digits ds after the number a
abbrev pub value_from : ℕ → List ℕ → ℕ
value_from a [] = a
value_from a (d ∷ ds) = value_from (10 * a + (d - 48)) ds

value_last : (a : ℕ) (ds : List ℕ) (d : ℕ) → value_from a (ds ++ (d ∷ [])) ≡ 10 * value_from a ds + (d - 48)
value_last a [] d = refl
value_last a (e ∷ ds) d = value_last (10 * a + (e - 48)) ds d

value_of : (k x : ℕ) → x < 10 ^ k → value_from 0 (decimal_of k x) ≡ x
unfolding decimal_of
value_of zero x h = omega arith
value_of (suc k) x h =
    cases (ltb x 10) (λ t. rw (one_digit k x (ltb-true x 10 t)) (omega arith)) (λ t.
    rw (more_digits k x (ltb-false x 10 t), value_last 0 (decimal_of k (x / 10)) (digit (x % 10)), value_of k (x / 10) (tenth k x h)) (omega arith)
    )

-- a number of 32 bits reads back
pub decimal_value : (x : ℕ) → x < 2 ^ 32 → value_from 0 (decimal x) ≡ x
unfolding decimal
decimal_value x h = value_of 10 x (omega arith)

-- the first digit stays the first
stays_first : (ds es : List ℕ) → 48 < get_or ds 0 0 → 48 < get_or (ds ++ es) 0 0
stays_first [] es h = absurd (omega arith)
stays_first (d ∷ ds) es h = h

first_of : (k x : ℕ) → x < 10 ^ k → x ≢ 0 → 48 < get_or (decimal_of k x) 0 0
first_of zero x h z = absurd (z (omega arith))
first_of (suc k) x h z =
    cases (ltb x 10) (λ t. rw (one_digit k x (ltb-true x 10 t)) (omega arith)) (λ t.
    let g : 10 ≤ x = ltb-false x 10 t in
    rw (more_digits k x g) (stays_first (decimal_of k (x / 10)) (digit (x % 10) ∷ []) (first_of k (x / 10) (tenth k x h) (λ e. omega arith)))
    )

-- and has no zero in front, unless it is 0
pub decimal_first : (x : ℕ) → x < 2 ^ 32 → x ≢ 0 → 48 < get_or (decimal x) 0 0
unfolding decimal
decimal_first x h z = first_of 10 x (omega arith) z
