-- A frame by its size and its kind: which of causes 3 to 5 it meets, or which call it is. Assumes nothing.
use Prim.Native.Nat.{ℕ, ◌<◌, ◌≤◌}
use mathlib.Core.Path.{◌≡◌, sym, ap, ◌∙◌}
use mathlib.Core.Logic.{◌≢◌}
use mathlib.Core.List.{List}
use mathlib.Core.Option.{some}
use borrow.Author.Tests.{eq-eqb, ne_eqb, lt-ltb, le-ltb}
use lib.ListN.{length}
use Rattle.std.specs.Prelude.{Ok, Err}
use Rattle.hypercube.specs.Words.{word}
use Rattle.hypercube.specs.declared.Refusal.{Refusal}
use Rattle.hypercube.specs.declared.Refusal.TheVariants.{WrongLength, UnknownKind, WrongSize}
use Rattle.history.specs.Calls as calls
use Rattle.history.specs.Calls.{good, fault, repaired, relabel, request, release, grow, other, kind_of, size}
use Rattle.state.specs.Acts.{call_of}
use Rattle.state.specs.declared.Call.{Call}
use Rattle.frames.specs.declared.Kind.{Kind}
use Rattle.frames.specs.declared.Kind.TheVariants.{Good, Fault, Repaired, Relabel, Request, Release, Grow}
use Rattle.frames.specs.Kinds.{in_table, of_table}
use Rattle.frames.specs.Parse.{sized, by_kind, parsed}

-- a number that the table doesn't have is of no kind
pub no_kind : (w : ℕ) → w ≢ 0x0101 → w ≢ 0x0102 → w ≢ 0x0103 → w ≢ 0x0203 → w ≢ 0x0201 → w ≢ 0x0202 → w ≢ 0x0204
    → Err UnknownKind ≡ of_table (kind_of w)
unfolding kind_of
no_kind w a b c d e f g =
    simp (ne_eqb _ _ a, ne_eqb _ _ b, ne_eqb _ _ c, ne_eqb _ _ d, ne_eqb _ _ e, ne_eqb _ _ f, ne_eqb _ _ g)

of_kind : (k : calls.Kind) (x : Kind) → Ok x ≡ of_table k → k ≡ in_table x
of_kind good x e = cc
of_kind fault x e = cc
of_kind repaired x e = cc
of_kind relabel x e = cc
of_kind request x e = cc
of_kind release x e = cc
of_kind grow x e = cc
of_kind other x e = cc

of_none : (f : List ℕ) (k : calls.Kind) (e : Refusal) → Err e ≡ of_table k → Err e ≡ by_kind f k
unfolding call_of sized
of_none f good x e = cc
of_none f fault x e = cc
of_none f repaired x e = cc
of_none f relabel x e = cc
of_none f request x e = cc
of_none f release x e = cc
of_none f grow x e = cc
of_none f other x e = cc

wrong_size : (f : List ℕ) (x : Kind) → length f ≢ size (in_table x) → Err WrongSize ≡ by_kind f (in_table x)
unfolding call_of sized
wrong_size f Good e = simp (ne_eqb _ _ e)
wrong_size f Fault e = simp (ne_eqb _ _ e)
wrong_size f Repaired e = simp (ne_eqb _ _ e)
wrong_size f Relabel e = simp (ne_eqb _ _ e)
wrong_size f Request e = simp (ne_eqb _ _ e)
wrong_size f Release e = simp (ne_eqb _ _ e)
wrong_size f Grow e = simp (ne_eqb _ _ e)

right_size : (f : List ℕ) (k : calls.Kind) (c : Call) → some c ≡ call_of f k → length f ≡ size k → Ok c ≡ by_kind f k
unfolding sized
right_size f k c h e = rw (← h, eq-eqb _ _ e)

module _ (f : List ℕ) where
  pub cause_3_short : length f < 4 → Err WrongLength ≡ parsed f
  unfolding parsed
  cause_3_short p = simp (lt-ltb _ _ p)

  module _ (p : 4 ≤ length f) where
    pub cause_3_length : word f 0 ≢ length f → Err WrongLength ≡ parsed f
    unfolding parsed
    cause_3_length q = simp (le-ltb _ _ p, ne_eqb _ _ q)

    module _ (q : word f 0 ≡ length f) (w : ℕ) (e : w ≡ word f 2) where
      parsed-kind : by_kind f (kind_of w) ≡ parsed f
      unfolding parsed
      parsed-kind = rw e (simp (le-ltb _ _ p, eq-eqb _ _ q))

      pub cause_4 : (u : Refusal) → Err u ≡ of_table (kind_of w) → Err u ≡ parsed f
      cause_4 u h = of_none f (kind_of w) u h ∙ parsed-kind

      module _ (x : Kind) (k : Ok x ≡ of_table (kind_of w)) where
        pub cause_5 : length f ≢ size (in_table x) → Err WrongSize ≡ parsed f
        cause_5 h = wrong_size f x h ∙ ap (by_kind f) (sym (of_kind (kind_of w) x k)) ∙ parsed-kind

        pub known : (c : Call) → some c ≡ call_of f (in_table x) → length f ≡ size (in_table x) → Ok c ≡ parsed f
        known c o h = right_size f (in_table x) c o h ∙ ap (by_kind f) (sym (of_kind (kind_of w) x k)) ∙ parsed-kind
