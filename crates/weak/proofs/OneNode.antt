-- A state with node 0 given to a job. Assumes nothing.
use Prim.Native.Nat.{ℕ, ◌^◌, ◌<◌, ◌≤◌}
use mathlib.Core.Path.{◌≡◌, sym, ◌∙◌}
use mathlib.Core.Bool.{true, false, cond}
use mathlib.Core.List.{List}
use native.Mathlib.Omega.{arith}
use native.Mathlib.Nat.{lt_of_lt_of_le}
use borrow.Author.Tests.{ne_eqb}
use lib.ListN.{get_or}
use lib.Pow.{pow_pos}
use Rattle.hypercube.specs.Bits.{width}
use Rattle.hypercube.specs.Lists.{among}
use Rattle.hypercube.specs.Subcubes.{vertices}
use Rattle.hypercube.specs.Tests.{cases}
use Rattle.hypercube.proofs.Lists.{get_or_each}
use Rattle.state.specs.declared.State.{State}
use Rattle.state.specs.States.{given, taken}
use Rattle.state.specs.Valid.{Valid}
use Rattle.state.proofs.Valid.{Sized, taken-sized, means_valid}
use Rattle.record.specs.Layout.{encode, valid_record}
use Rattle.record.proofs.Round.{valid-encode}

-- a node other than 0 is not of the subcube of node 0 alone
elsewhere : (x : ℕ) → 0 < x → among x (vertices width 0 0) ≡ false
unfolding among vertices
elsewhere x h = rw (ne_eqb x 0 (λ z. absurd (omega arith)))

entry : (l : List ℕ) (v x : ℕ) → x < 1024 → get_or (given l (vertices width 0 0) v) x 0 ≡ cond (among x (vertices width 0 0)) v (get_or l x 0)
entry l v x h = get_or_each (λ x. cond (among x (vertices width 0 0)) v (get_or l x 0)) 0 1024 x h

-- its entries
pub entry-given : (l : List ℕ) (v : ℕ) → get_or (given l (vertices width 0 0) v) 0 0 ≡ v
unfolding among vertices
entry-given l v = entry l v 0 (omega arith)

pub entry_left : (l : List ℕ) (v x : ℕ) → 0 < x → x < 1024 → get_or (given l (vertices width 0 0) v) x 0 ≡ get_or l x 0
entry_left l v x h b = entry l v x b ∙ (rw (elsewhere x h))

-- it is valid, and has no star bits where there is no job
pub stays_valid : (s : State) → Sized s → Valid s → (j v : ℕ) → (j ≡ 0 → v ≡ 0) → valid_record (encode (taken s (vertices width 0 0) j v)) ≡ true
stays_valid s z w j v set =
    valid-encode t (taken-sized z (vertices width 0 0) j v) ∙ (means_valid t z.directions).shows record {
      small = w.small;
      permutes = w.permutes;
      conditions = w.conditions;
      no_conditions = w.no_conditions;
      no_holders = λ x h l. entry_left s.holders j x (lt_of_lt_of_le (pow_pos s.n) h) l ∙ w.no_holders x h l;
      unstarred = λ x l e.
          let held = sym (entry s.holders j x l) ∙ e in
          entry s.stars v x l
          ∙ cases (among x (vertices width 0 0)) (λ b. rw b (set (rw b at held))) (λ b. rw b (w.unstarred x l (rw b at held)));
    }
  where
    t : State
    t = taken s (vertices width 0 0) j v
