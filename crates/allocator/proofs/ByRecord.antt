-- A call on a state, by way of its record. Assumes nothing.
use mathlib.Core.Path.{◌≡◌, sym, ap, ◌∙◌}
use mathlib.Core.Bool.{true, false}
use mathlib.Core.List.{List}
use Prim.Native.Nat.{ℕ}
use Rattle.state.specs.declared.State.{State}
use Rattle.state.specs.declared.Call.{Call}
use Rattle.hypercube.specs.declared.Reply.{Reply}
use Rattle.state.specs.Valid.{valid}
use Rattle.state.specs.Effects.{step}
use Rattle.state.specs.Acts.{refuse, acted, called}
use Rattle.state.proofs.Valid.{Sized, means_valid}
use Rattle.state.proofs.Steps.{called_1, called_on}
use Rattle.record.specs.Layout.{encode, decode, valid_record}
use Rattle.record.proofs.Round.{decode-encode, valid-encode}
use Rattle.steps.specs.Carried.{Carried}
use Rattle.steps.proofs.Keeps.{kept, stored_kept}

module _ (s : State) (z : Sized s) (c : Call) {r : List ℕ} (a : r ≡ encode s) where
  pub by_record_1 : valid_record r ≡ false → {told : Reply} → told ≡ (refuse s 1).reply → step s told ≡ called s c
  by_record_1 v e = ap (step s) e ∙ called_1 s c (sym (ap valid_record a ∙ valid-encode s z) ∙ v)

  pub by_record : valid_record r ≡ true → {told : Reply} {r' : List ℕ} → Carried r c told r' → {t : State} → t ≡ decode r' → step t told ≡ called s c
  by_record v d e =
      let y : valid s ≡ true = sym (ap valid_record a ∙ valid-encode s z) ∙ v in
      let small = ((means_valid s z.directions).holds y).small in
      let q : decode r ≡ s = ap decode a ∙ decode-encode s z in
      let k = kept s z small c in
      rw (e, d.left, d.replied, q, a, stored_kept s z (acted s c) k, decode-encode (acted s c).state k.sized) (called_on s c y)
