-- A record whose job lost its nodes, and was then given others. Assumes nothing.
use Prim.Native.Nat.{ℕ, ◌<◌}
use mathlib.Core.Path.{◌≡◌, refl, sym, ap, ◌∙◌}
use mathlib.Core.Bool.{true}
use mathlib.Core.List.{List}
use lib.ListN.{length, get_or}
use Rattle.state.proofs.Valid.{Sized, lost-sized}
use Rattle.state.specs.declared.State.{State}
use Rattle.state.specs.States.{lost, taken}
use Rattle.state.proofs.Steps.{holds_none}
use Rattle.state.proofs.Plain.{plain_lose}
use Rattle.record.specs.Layout.{record_size, encode, decode, head_right}
use Rattle.record.proofs.Round.{length-encode, head_encode, decode-encode, encode-decode, sized-decode}
use Rattle.steps.proofs.Ways.{state_valid, whole}
use Rattle.grants.specs.Grants.{Holding}

-- a job that has none loses none
pub lost_none : (r : List ℕ) {j held : ℕ} → ((i : ℕ) → get_or r i 0 < 256) → Holding r j held → held ≡ 0
    → r ≡ encode (lost (decode r) j)
lost_none r {j} bytes p e =
    let none = holds_none (decode r) j _ _ refl p.counted e in
    let same = plain_lose (decode r) (state_valid r p.right) (sized-decode r) j p.set none in
    sym (encode-decode r (whole r p.right).0 bytes (whole r p.right).1) ∙ ap encode (sym same)

module _ (s : State) (z : Sized s) (j : ℕ) {r : List ℕ} (e : r ≡ encode (lost s j)) where
  pub lost-whole : (length r ≡ record_size) × (head_right r ≡ true)
  lost-whole = rw e (length-encode _ (lost-sized z j), head_encode _ (lost-sized z j))

  pub lost-taken : (xs : List ℕ) (v : ℕ) {r' : List ℕ} → r' ≡ encode (taken (decode r) xs j v) → r' ≡ encode (taken (lost s j) xs j v)
  lost-taken xs v h = h ∙ rw (e, decode-encode _ (lost-sized z j))
