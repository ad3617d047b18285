-- Rows without a free member. Document 01, "Families and their order".
use Rattle.std.specs.Prelude.{ℕ, ◌-◌, ◌^◌, ◌<◌, ◌≤◌, ◌≡◌, Bool, false}
use Rattle.hypercube.specs.Bits.{bit}
use Rattle.hypercube.specs.Subcubes.{is_free}
use Rattle.hypercube.specs.Families.{tree_member}

-- no member is free of those whose top d and bottom l of n bits are stars, with one star more at a place p from `first` on, for any α
abbrev pub NoMember : (ℕ → Bool) → ℕ → ℕ → ℕ → ℕ → Type 0
NoMember f n d l first =
    (α p : ℕ) → first ≤ p → p < n - l - d → α < 2 ^ (n - l - d) → bit α p ≡ 0 → is_free f (tree_member n d l α p) ≡ false
