-- The test of a block of nodes of which none is held. Assumes nothing.
use Prim.Native.Nat.{ℕ, ◌+◌, ◌*◌, ◌<◌, ◌≤◌}
use mathlib.Core.Logic.{⊎_elim}
use mathlib.Core.Path.{◌≡◌, sym, ◌∙◌}
use mathlib.Core.Bool.{Bool, true}
use mathlib.Core.List.{List}
use native.Mathlib.Omega.{arith}
use borrow.Author.Tests.{eq-eqb}
use lib.ListN.{length}
use Rattle.hypercube.specs.Lists.{all_below}
use Rattle.hypercube.specs.Tests.{same_test}
use Rattle.hypercube.proofs.Bits.{lt_or}
use Rattle.hypercube.proofs.Below.{means_all}
use Rattle.record.specs.Highest.{all_zero}
use Rattle.record.specs.Layout.{holders_at, record_size}
use Rattle.record.specs.Says.{says}
use Rattle.record.proofs.Maximum.{part}
use Rattle.record.proofs.Parts.{means_unheld}
use Rattle.loads.specs.Pass.{is_whole, whole_at}

unheld : (r : List ℕ) (n h s x : ℕ) → h ≡ 0 → true ≡ is_whole r n h s x
unheld r n h s x e = rw (eq-eqb h 0 e)

-- a block of nodes, from a to e, of which none is held
pub none_held : (r : List ℕ) (n a e : ℕ) → length r ≡ record_size → a ≤ e → e ≤ 1024
    → {z : Bool} → z ≡ all_zero (part r (holders_at + 2 * a) (holders_at + 2 * e)) → z ≡ true
    → all_below (whole_at r n) a ≡ all_below (whole_at r n) e
none_held r n a e long h k zero t =
    same_test (means_all (whole_at r n) a) (means_all (whole_at r n) e) (
      λ before x l. ⊎_elim (before x) (λ g. sym (unheld r n ((says r).holder x) ((says r).stars x) x (none x g l))) (lt_or x a),
      λ all x l. all x (omega arith),
    )
  where
    none : (x : ℕ) → a ≤ x → x < e → (says r).holder x ≡ 0
    none = (means_unheld r 1024 long (omega arith) a e k).holds (sym zero ∙ t)
