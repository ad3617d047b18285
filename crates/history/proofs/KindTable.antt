-- The table of kinds: what a test shows of every row holds of the kind of any number. Assumes nothing.
use mathlib.Core.Path.{◌≡◌, refl, sym, ap, ◌∙◌}
use mathlib.Core.Logic.{◌⊎◌, inl, inr, ⊎_elim, ◌≢◌}
use mathlib.Core.Bool.{Bool, true, false, cond, not, ◌&&◌, false≢true}
use mathlib.Core.List.{List, [], ◌∷◌}
use Prim.Native.Nat.{ℕ, ◌≤◌}
use borrow.Author.Tests.{eqb-true, eq-eqb, leb-true, not-true}
use lib.Dec.{eqb, leb}
use Rattle.hypercube.specs.Lists.{In}
use Rattle.hypercube.specs.Tests.{cases, means_true, means_and}
use Rattle.hypercube.specs.Conditions.{so, all_of, means_every}
use Rattle.history.specs.Calls.{other, ◌of◌, KindRow, kinds, lookup, is_row, kind_of, size}

passes : (test : KindRow → Bool) (rs : List KindRow) → all_of test rs ≡ true → (r : KindRow) → In r rs → test r ≡ true
passes test rs = (means_every rs (λ r. so (test r))).holds

-- no two rows are the same by some key
abbrev apart : (KindRow → KindRow → Bool) → List KindRow → Bool
apart same [] = true
apart same (q ∷ rs) = all_of (λ r. not (same r q)) rs && apart same rs

-- ---- what is looked up in a table

module _ {A : Type 0} (column : KindRow → A) (a : A) where
  -- it is a, or a row that passes has it
  pub found : (test : KindRow → Bool) (rs : List KindRow)
      → (lookup test column a rs ≡ a) ⊎ ((r : KindRow) × In r rs × (test r ≡ true) × (lookup test column a rs ≡ column r))
  found test [] = inl refl
  found test (r ∷ rs) =
      cases (test r) (λ e. inr (r, inl refl, e, rw e refl))
      (λ e. rw e (⊎_elim (λ z. inl z) (λ f. inr (f.0, inr f.1, f.2, f.3)) (found test rs)))

  -- what is looked up by a row's key is the row's, if no other row has that key
  module _ (same : KindRow → KindRow → Bool) (self : (r : KindRow) → same r r ≡ true) where
    own : (rs : List KindRow) → apart same rs ≡ true → (r : KindRow) → In r rs → lookup (same r) column a rs ≡ column r
    own [] d r i = absurd i
    own (q ∷ rs) d r (inl e) = rw (e, self q)
    own (q ∷ rs) d r (inr i) =
        let p = (means_and means_true means_true).holds d in
        rw (not-true (same r q) (passes (λ r. not (same r q)) rs p.0 r i)) (own rs p.1 r i)

-- ---- the rows of the table

module _ (r : KindRow) (i : In r kinds) where
  -- "A frame is length, kind, fields, two bytes each unless said": it has at least the first two
  pub row-size : 4 ≤ r.size
  unfolding all_of
  row-size = leb-true 4 r.size (passes (λ r. leb 4 r.size) kinds refl r i)

  -- a row's number is of the row's kind
  pub row-kind : kind_of r.number ≡ r.kind
  unfolding kind_of all_of
  row-kind = own (λ r. r.kind) other (λ r q. eqb r.number q.number) (λ r. eq-eqb r.number r.number refl) kinds refl r i

  -- a column, looked up by a row's kind, is the row's
  pub row-entry : {A : Type 0} (column : KindRow → A) (a : A) → lookup (is_row r.kind) column a kinds ≡ column r
  unfolding all_of
  row-entry column a = own column a (λ r q. is_row r.kind q) (λ r. (r.kind of (r.kind ∷ [])).means.shows (inl refl)) kinds refl r i

-- the row of the number w
pub record RowOf (w : ℕ) : Type 0 where
  pub row : KindRow
  pub listed : In row kinds
  pub number : w ≡ row.number
  pub kind : kind_of w ≡ row.kind
  pub size : size (kind_of w) ≡ row.size

module _ (w : ℕ) where
  -- a number of a kind has a row
  pub row_of : (kind_of w ≡ other) ⊎ RowOf w
  unfolding kind_of
  row_of =
      ⊎_elim (λ z. inl z)
      (λ f.
      inr record {
        row = f.0;
        listed = f.1;
        number = eqb-true w _ f.2;
        kind = f.3;
        size = rw f.3 (row-entry f.0 f.1 (λ r. r.size) 0);
      })
      (found (λ r. r.kind) other (λ r. eqb w r.number) kinds)

  -- what a test shows of every row it shows of the row of w
  pub shown : (test : KindRow → Bool) → all_of test kinds ≡ true → (R : RowOf w) → test R.row ≡ true
  shown test e R = passes test kinds e R.row R.listed

-- ---- a number that is none of some rows'

-- as the last arm of a `match` has it, after P
abbrev pub NoneOf : Type 0 → List KindRow → ℕ → Type 0
NoneOf P [] w = P
NoneOf P (r ∷ rs) w = NoneOf (P × (w ≢ r.number)) rs w

-- the rows that pass the test
abbrev pub keep : (KindRow → Bool) → List KindRow → List KindRow
keep test [] = []
keep test (r ∷ rs) = cond (test r) (r ∷ keep test rs) (keep test rs)

keeps : (test : KindRow → Bool) (rs : List KindRow) (r : KindRow) → test r ≡ true → In r rs → In r (keep test rs)
keeps test [] r e i = i
keeps test (q ∷ rs) r e i =
    cases (test q) (λ z. rw z (⊎_elim (λ y. inl y) (λ j. inr (keeps test rs r e j)) i))
    (λ z. rw z (⊎_elim (λ y. absurd (false≢true (sym z ∙ rw y at e))) (λ j. keeps test rs r e j) i))

module _ (w : ℕ) where
  none_of : (P : Type 0) (rs : List KindRow) → NoneOf P rs w → P × ((r : KindRow) → In r rs → w ≢ r.number)
  none_of P [] n = (n, λ r i. absurd i)
  none_of P (q ∷ rs) n =
      let h = none_of (P × (w ≢ q.number)) rs n in
      (h.0.0, λ r i. ⊎_elim (λ z e. h.0.1 (e ∙ ap (λ (p : KindRow). p.number) z)) (λ j. h.1 r j) i)

  -- if w is the number of none that pass, its row is one that doesn't
  pub row_left : (test : KindRow → Bool) → NoneOf (Unit {0}) (keep test kinds) w → (R : RowOf w) → test R.row ≡ false
  row_left test n R =
      cases (test R.row) (λ e. absurd ((none_of (Unit {0}) (keep test kinds) n).1 R.row (keeps test kinds R.row e R.listed) R.number))
      (λ e. e)
