-- A verdict is heard from its number and its bytes, and a reply's are its verdict's. Assumes nothing.
use mathlib.Core.Path.{◌≡◌, refl}
use mathlib.Core.Logic.{◌⊎◌, inl, inr}
use mathlib.Core.List.{List}
use Prim.Native.Nat.{ℕ, ◌+◌, ◌*◌, ◌%◌, ◌/◌, ◌≤◌}
use native.Mathlib.Omega.{arith}
use borrow.Author.Tests.{eqb-true, ne_eqb}
use lib.Dec.{eqb}
use Rattle.hypercube.specs.Tests.{cases}
use Rattle.hypercube.specs.Words.{word, words}
use Rattle.hypercube.specs.Replies.{frame_of, written, number_of, replies, heard}
use Rattle.hypercube.specs.declared.Reply.{Reply}
use Rattle.hypercube.specs.declared.Reply.TheVariants.{Granted, Refused, Done}
use Rattle.history.specs.Claims.{Accepted}

-- no refusal is 0 or 1, and refusal 2, which has no reply, tried nothing
abbrev pub Plain : Reply → Type 0
Plain (Granted j low stars t) = Unit {0}
Plain (Refused m t) = (2 ≤ m) × (m ≡ 2 → t ≡ 0)
Plain (Done v) = Unit {0}

-- two bytes of a number
bytes : (x : ℕ) → x % 256 + 256 * (x / 256) ≡ x
bytes x = omega arith

pub heard_back : (v : Reply) (p : List ℕ) → Plain v → heard (number_of v) (replies v p) ≡ v
unfolding heard word words frame_of
heard_back (Granted j low stars t) p w = rw (bytes j, bytes low.0, bytes stars, bytes t)
heard_back (Refused m t) p w =
    rw (ne_eqb m 0 (λ e. omega (arith, w.0))) (cases (eqb m 2) (λ e. rw (e, eqb-true m 2 e, w.1 (eqb-true m 2 e))) (λ e. rw (e, bytes t)))
heard_back (Done v) p w = rw (bytes v)

pub accepted_zero : (v : Reply) → Accepted v → number_of v ≡ 0
accepted_zero (Granted j low stars t) a = refl
accepted_zero (Refused m t) a = absurd a
accepted_zero (Done v) a = refl

-- ---- a reply that accepts, or refuses with a number from 3 on

pub plain_of : (r : Reply) → Accepted r ⊎ (3 ≤ number_of r) → Plain r
plain_of (Granted j low stars t) l = tt
plain_of (Refused m t) (inl a) = absurd a
plain_of (Refused m t) (inr l) = (omega arith, λ e. absurd (omega arith))
plain_of (Done v) l = tt

pub replies_all : (r : Reply) (p : List ℕ) → Accepted r ⊎ (3 ≤ number_of r) → written (frame_of r) p ≡ replies r p
replies_all (Granted j low stars t) p l = refl
replies_all (Refused m t) p (inl a) = absurd a
replies_all (Refused m t) p (inr l) = rw (ne_eqb m 2 (λ e. omega arith))
replies_all (Done v) p l = refl
