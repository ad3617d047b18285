-- The record's bytes. Document 01, "Node and record": "all fields little-endian: length [..] (2 bytes), kind [..] (2), n (1), the map (10 [..]), a
-- zero byte, 1024 holders (2 each), 1024 conditions (1 each)." Document 02, (f): "Each node gets two bytes more, the star bits of the grant that
-- holds it, 0 if unheld. The record becomes 5136 bytes, kind 0x0002; the new 1024 fields stand last."
use Rattle.std.specs.Prelude.{ℕ, ◌+◌, ◌*◌, ◌%◌, ◌/◌, ◌≡◌, Bool, ◌&&◌, List, [], ◌∷◌, ◌++◌, map, eqb, length, get_or}
use Rattle.hypercube.specs.Lists.{from}
use Rattle.hypercube.specs.Words.{word, words}
use Rattle.state.specs.declared.State.{State}
use Rattle.state.specs.Valid.{star_right, valid}

-- the record's size and kind, and the places of its parts
abbrev pub record_size : ℕ
record_size = 5136

abbrev pub record_kind : ℕ
record_kind = 2

abbrev pub map_at : ℕ
map_at = 5

abbrev pub holders_at : ℕ
holders_at = 16

abbrev pub conditions_at : ℕ
conditions_at = 2064

abbrev pub stars_at : ℕ
stars_at = 3088

-- the record that says a state
unfoldable pub encode : State → List ℕ
encode s =
    ((record_size % 256) ∷ (record_size / 256) ∷ (record_kind % 256) ∷ (record_kind / 256) ∷ s.n ∷ [])
    ++ (s.map ++ ((0 ∷ []) ++ (words s.holders ++ (s.conditions ++ words s.stars))))

-- the state that a record's bytes say
unfoldable pub decode : List ℕ → State
decode r = record {
  n = get_or r 4 0;
  map = map (λ i. get_or r (map_at + i) 0) (from 0 10);
  holders = map (λ x. word r (holders_at + 2 * x)) (from 0 1024);
  conditions = map (λ x. get_or r (conditions_at + x) 0) (from 0 1024);
  stars = map (λ x. word r (stars_at + 2 * x)) (from 0 1024);
}

-- r is the record of the state that it says
abbrev pub Encoded : List ℕ → Type 0
Encoded r = encode (decode r) ≡ r

-- refusal 1's whole test
unfoldable pub head_right : List ℕ → Bool
head_right r = eqb (word r 0) record_size && (eqb (word r 2) record_kind && eqb (get_or r 15 0) 0)

unfoldable pub valid_record : List ℕ → Bool
valid_record r = eqb (length r) record_size && (head_right r && valid (decode r))

-- what it tests of node x's star bits, by the two words of the record
abbrev pub star_of : List ℕ → ℕ → Bool
star_of r x = star_right (word r (holders_at + 2 * x)) (word r (stars_at + 2 * x))
