use Rattle.std.proofs.Common.{◌≡◌, Bool, List, ℕ, length, take, sym, subst, arith}
use Rattle.std.proofs.lemmas.List.{take_all}
use Rattle.record.specs.Layout.{record_size, valid_record}
use Rattle.record.specs.Says.{formed_record}
use Rattle.record.proofs.Refusal.{not_size, not_head}
use Rattle.cube.proofs.Ways.{load_1, load_18, load_0}
use Rattle.cube.proofs.cube_load.Goals as goal

-- what holds of the slice of the whole holds of the whole
in_all : (test : List ℕ → Bool) (r : List ℕ) → length r ≡ record_size → {b : Bool} → b ≡ test (take record_size r) → test r ≡ b
in_all test r e {b} h = subst (λ (l : List ℕ). test l ≡ b) (take_all record_size r (omega arith)) (sym h)

pub returns-then-rec-ne-SIZE : goal.returns-then-rec-ne-SIZE
returns-then-rec-ne-SIZE c = rw c.told.ensures (load_1 _ (sym (not_size _ (omega arith))))

pub returns-then-not-head_right : goal.returns-then-not-head_right
returns-then-not-head_right c =
    rw c.told-then-not-head_right.ensures (load_1 _ (sym (not_head _ (omega arith) (sym c.if-not-head_right.ensures))))

pub returns-then-not-is_valid : goal.returns-then-not-is_valid
returns-then-not-is_valid c =
    let r = c.args.rec.now in
    rw c.told-then-not-is_valid.ensures (load_1 r (in_all valid_record r (omega arith) c.if-not-is_valid.ensures))

pub is_formed-requires : goal.is_formed-requires
is_formed-requires c = sym c.if-not-is_valid.ensures

pub returns-then-not-is_formed : goal.returns-then-not-is_formed
returns-then-not-is_formed c =
    let r = c.args.rec.now in
    rw c.told-then-not-is_formed.ensures
    (load_18 r (in_all valid_record r (omega arith) c.if-not-is_valid.ensures)
    (in_all (λ r. (formed_record r).test) r (omega arith) c.if-not-is_formed.ensures))

pub returns : goal.returns
returns c =
    let r = c.args.rec.now in
    load_0 r (in_all valid_record r (omega arith) c.if-not-is_valid.ensures)
    (in_all (λ r. (formed_record r).test) r (omega arith) c.if-not-is_formed.ensures)
