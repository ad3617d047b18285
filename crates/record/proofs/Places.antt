-- Each part of a state's record, between what stands before it and after it. Assumes nothing.
use Prim.Native.Nat.{ℕ, ◌%◌, ◌/◌}
use mathlib.Core.Path.{◌≡◌, refl}
use mathlib.Core.List.{List, [], ◌∷◌, ◌++◌, append_assoc, append-nil}
use lib.ListN.{length, length-append}
use Rattle.hypercube.specs.Words.{words}
use Rattle.state.specs.declared.State.{State}
use Rattle.state.specs.States.{with_map, with_holders, with_stars}
use Rattle.state.proofs.Valid.{Sized}
use Rattle.record.specs.Layout.{record_size, record_kind, holders_at, conditions_at, stars_at, encode}
use Rattle.record.proofs.Between.{length-words}

module _ (s : State) where
  -- what stands before the map, the holders, the conditions and the star bits
  abbrev pub first : List ℕ
  first = (record_size % 256) ∷ (record_size / 256) ∷ (record_kind % 256) ∷ (record_kind / 256) ∷ s.n ∷ []

  abbrev pub head : List ℕ
  head = first ++ (s.map ++ (0 ∷ []))

  abbrev pub to_conditions : List ℕ
  to_conditions = head ++ words s.holders

  abbrev pub to_stars : List ℕ
  to_stars = to_conditions ++ s.conditions

  -- what stands after the map, the holders and the conditions
  abbrev pub after_holders : List ℕ
  after_holders = s.conditions ++ words s.stars

  abbrev pub after_map : List ℕ
  after_map = (0 ∷ []) ++ (words s.holders ++ after_holders)

  -- the record with another list in that place
  pub by_map : (ds : List ℕ) → encode (with_map s ds) ≡ first ++ (ds ++ after_map)
  unfolding encode
  by_map ds = refl

  pub by_holders : (hs : List ℕ) → encode (with_holders s hs) ≡ head ++ (words hs ++ after_holders)
  unfolding encode
  by_holders hs = simp append_assoc

  pub by_conditions : (cs : List ℕ)
      → encode (record { n = s.n; map = s.map; holders = s.holders; conditions = cs; stars = s.stars }) ≡ to_conditions ++ (cs ++ words s.stars)
  unfolding encode
  by_conditions cs = simp append_assoc

  pub by_stars : (vs : List ℕ) → encode (with_stars s vs) ≡ to_stars ++ (words vs ++ [])
  unfolding encode
  by_stars vs = simp (append_assoc, append-nil)

  -- each part begins at its place
  module _ (z : Sized s) where
    pub to_holders : length head ≡ holders_at
    to_holders = simp (length-append, z.directions)

    pub to_conditions_lem : length to_conditions ≡ conditions_at
    to_conditions_lem = simp (length-append, length-words, z.directions, z.holders)

    pub to_stars_lem : length to_stars ≡ stars_at
    to_stars_lem = simp (length-append, length-words, z.directions, z.holders, z.conditions)
