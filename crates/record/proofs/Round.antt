-- A state and its record say the same: decode undoes encode where the arrays have their lengths, and encode undoes decode on a record's bytes whose
-- head is right.
-- Assumes nothing.
use Prim.Native.Nat.{ℕ, zero, suc, ◌+◌, ◌*◌, ◌%◌, ◌/◌, ◌-◌, ◌<◌, ◌≤◌}
use mathlib.Core.Path.{◌≡◌, refl, sym, ap, subst, ◌∙◌}
use mathlib.Core.Logic.{⊎_elim}
use mathlib.Core.Bool.{true}
use mathlib.Core.List.{List, [], ◌++◌}
use native.Mathlib.Omega.{arith}
use borrow.Author.Tests.{eq-eqb}
use lib.ListN.{length, get_or, length-append}
use lib.Seq.{ext_get_or}
use Rattle.hypercube.specs.Words.{word, words}
use Rattle.hypercube.proofs.Bits.{lt_or}
use Rattle.hypercube.proofs.Lists.{get_d_past, length_of, get_or_each, is_each}
use Rattle.hypercube.specs.Tests.{means_true, means_eq, means_and}
use Rattle.state.specs.declared.State.{State}
use Rattle.state.specs.Valid.{valid}
use Rattle.state.proofs.Valid.{Sized}
use Rattle.record.specs.Layout.{record_size, record_kind, map_at, holders_at, conditions_at, stars_at}
use Rattle.record.specs.Layout.{encode, decode, Encoded, head_right, valid_record}
use Rattle.record.proofs.Between.{length-words, low_at_lem, high_at_lem, byte_between}
use Rattle.record.proofs.Places.{first, head, to_conditions, to_stars, after_holders, after_map, by_map, by_holders, by_conditions, by_stars}
use Rattle.record.proofs.Places.{to_holders, to_conditions_lem, to_stars_lem}

-- ---- the record of a state

-- r says the 1024 words l from place at on
pub record Says (r : List ℕ) (at : ℕ) (l : List ℕ) : Type 0 where
  pub entries : length l ≡ 1024
  pub byte : (i j : ℕ) → i < 2048 → at + i ≡ j → get_or r j 0 ≡ get_or (words l) i 0

module _ {r : List ℕ} {at : ℕ} {l : List ℕ} where
  between : (xs ys : List ℕ) → length xs ≡ at → length l ≡ 1024 → r ≡ xs ++ (words l ++ ys) → Says r at l
  between xs ys long e says = record {
    entries = e;
    byte = λ i j h k. ap (λ (b : List ℕ). get_or b j 0) says ∙ byte_between xs ys at long (words l) i j (omega (arith, length-words l)) k;
  }

  module _ (S : Says r at l) (x : ℕ) (h : x < 1024) where
    low-says : get_or r (at + 2 * x) 0 ≡ get_or l x 0 % 256
    low-says = S.byte (2 * x) (at + 2 * x) (omega arith) refl ∙ low_at_lem l x (omega (arith, S.entries))

    high-says : get_or r (at + 2 * x + 1) 0 ≡ get_or l x 0 / 256
    high-says = S.byte (2 * x + 1) (at + 2 * x + 1) (omega arith) (omega arith) ∙ high_at_lem l x (omega (arith, S.entries))

    pub word-says : word r (at + 2 * x) ≡ get_or l x 0
    unfolding word
    word-says = omega (arith, low-says, high-says)

module _ (s : State) (z : Sized s) where
  pub length-encode : length (encode s) ≡ record_size
  unfolding encode
  length-encode = simp (length-append, length-words, z.directions, z.holders, z.conditions, z.stars)

  pub encode_n : get_or (encode s) 4 0 ≡ s.n
  unfolding encode
  encode_n = refl

  pub encode-map : (i : ℕ) → i < 10 → get_or (encode s) (map_at + i) 0 ≡ get_or s.map i 0
  encode-map i h =
      ap (λ (r : List ℕ). get_or r (map_at + i) 0) (by_map s s.map)
      ∙ byte_between (first s) (after_map s) map_at refl s.map i (map_at + i) (omega (arith, z.directions)) refl

  pub encode-zero : get_or (encode s) 15 0 ≡ 0
  unfolding encode
  encode-zero = get_d_past (first s) (s.map ++ after_map s) 0 10 15 refl ∙ get_d_past s.map (after_map s) 0 0 10 (omega (arith, z.directions))

  pub encode_condition : (x : ℕ) → x < 1024 → get_or (encode s) (conditions_at + x) 0 ≡ get_or s.conditions x 0
  encode_condition x h =
      ap (λ (r : List ℕ). get_or r (conditions_at + x) 0) (by_conditions s s.conditions)
      ∙ byte_between (to_conditions s) (words s.stars) conditions_at (to_conditions_lem s z) s.conditions x (conditions_at + x)
      (omega (arith, z.conditions)) refl

  pub says_holders : Says (encode s) holders_at s.holders
  says_holders = between (head s) (after_holders s) (to_holders s z) z.holders (by_holders s s.holders)

  pub says_stars : Says (encode s) stars_at s.stars
  says_stars = between (to_stars s) [] (to_stars_lem s z) z.stars (by_stars s s.stars)

  pub decode-encode : decode (encode s) ≡ s
  unfolding decode
  decode-encode =
      rw (
        encode_n,
        ← is_each (λ i. get_or (encode s) (map_at + i) 0) 10 s.map z.directions (λ i h. sym (encode-map i h)),
        ← is_each (λ x. word (encode s) (holders_at + 2 * x)) 1024 s.holders z.holders (λ x h. sym (word-says says_holders x h)),
        ← is_each (λ x. get_or (encode s) (conditions_at + x) 0) 1024 s.conditions z.conditions (λ x h. sym (encode_condition x h)),
        ← is_each (λ x. word (encode s) (stars_at + 2 * x)) 1024 s.stars z.stars (λ x h. sym (word-says says_stars x h)),
      )

  pub head_encode : head_right (encode s) ≡ true
  unfolding head_right word encode
  head_encode = rw (eq-eqb _ _ encode-zero)

  pub valid-encode : valid_record (encode s) ≡ valid s
  unfolding valid_record
  valid-encode = rw (length-encode, head_encode, decode-encode)

-- ---- the state of a record

pub sized-decode : (r : List ℕ) → Sized (decode r)
unfolding decode
sized-decode r = record {
  directions = length_of (λ i. get_or r (map_at + i) 0) 0 10;
  holders = length_of (λ x. word r (holders_at + 2 * x)) 0 1024;
  conditions = length_of (λ x. get_or r (conditions_at + x) 0) 0 1024;
  stars = length_of (λ x. word r (stars_at + 2 * x)) 0 1024;
}

pub encoded_long : {r : List ℕ} → Encoded r → length r ≡ record_size
encoded_long {r} e = ap length (sym e) ∙ length-encode (decode r) (sized-decode r)

-- the state made of what was read, part by part
pub decode_parts : (r : List ℕ) (m : ℕ) (ds hs cs vs : List ℕ) → m ≡ (decode r).n → ds ≡ (decode r).map → hs ≡ (decode r).holders
    → cs ≡ (decode r).conditions → vs ≡ (decode r).stars
    → record { n = m; map = ds; holders = hs; conditions = cs; stars = vs } ≡ decode r
decode_parts r m ds hs cs vs e d h c v = rw (e, d, h, c, v)

pub decode-map : (r : List ℕ) (i : ℕ) → i < 10 → get_or (decode r).map i 0 ≡ get_or r (map_at + i) 0
unfolding decode
decode-map r i h = get_or_each (λ i. get_or r (map_at + i) 0) 0 10 i h

pub decode_holder : (r : List ℕ) (x : ℕ) → x < 1024 → get_or (decode r).holders x 0 ≡ word r (holders_at + 2 * x)
unfolding decode
decode_holder r x h = get_or_each (λ x. word r (holders_at + 2 * x)) 0 1024 x h

pub decode_condition : (r : List ℕ) (x : ℕ) → x < 1024 → get_or (decode r).conditions x 0 ≡ get_or r (conditions_at + x) 0
unfolding decode
decode_condition r x h = get_or_each (λ x. get_or r (conditions_at + x) 0) 0 1024 x h

pub decode_star : (r : List ℕ) (x : ℕ) → x < 1024 → get_or (decode r).stars x 0 ≡ word r (stars_at + 2 * x)
unfolding decode
decode_star r x h = get_or_each (λ x. word r (stars_at + 2 * x)) 0 1024 x h

-- what a right head says
pub record Head (r : List ℕ) : Type 0 where
  pub size : word r 0 ≡ record_size
  pub kind : word r 2 ≡ record_kind
  pub zero_byte : get_or r 15 0 ≡ 0

pub head_says : (r : List ℕ) → head_right r ≡ true → Head r
unfolding head_right
head_says r e =
    let h = (means_and (means_eq (word r 0) record_size) (means_and (means_eq (word r 2) record_kind) (means_eq (get_or r 15 0) 0))).holds e in
    record { size = h.0; kind = h.1.0; zero_byte = h.1.1 }

-- what the whole test says
pub record Right (r : List ℕ) : Type 0 where
  pub long : length r ≡ record_size
  pub head : head_right r ≡ true
  pub state : valid (decode r) ≡ true

pub record_says : (r : List ℕ) → valid_record r ≡ true → Right r
unfolding valid_record
record_says r e =
    let h = (means_and (means_eq (length r) record_size) (means_and means_true means_true)).holds e in
    record { long = h.0; head = h.1.0; state = h.1.1 }

-- the bytes of a word, low and high
word_low : (r : List ℕ) (i : ℕ) → get_or r i 0 < 256 → word r i % 256 ≡ get_or r i 0
unfolding word
word_low r i b = omega arith

word-high : (r : List ℕ) (i : ℕ) → get_or r i 0 < 256 → word r i / 256 ≡ get_or r (i + 1) 0
unfolding word
word-high r i b = omega arith

-- a byte among the words from place at on is the low or the high one of a word
pub each_word : (at : ℕ) (P : ℕ → Type 0) (i : ℕ) → at ≤ i → i < at + 2048
    → ((x : ℕ) → x < 1024 → at + 2 * x ≤ i → i ≤ at + 2 * x + 1 → P (at + 2 * x) × P (at + 2 * x + 1)) → P i
each_word at P i a b h =
    let both = h ((i - at) / 2) (omega arith) (omega arith) (omega arith) in
    ⊎_elim (λ (e : (i - at) % 2 < 1). subst P (omega arith) both.0) (λ (e : 1 ≤ (i - at) % 2). subst P (omega arith) both.1)
    (lt_or ((i - at) % 2) 1)

-- a record's bytes with a right head
module _ (r : List ℕ) (long : length r ≡ record_size) (bytes : (i : ℕ) → get_or r i 0 < 256) (right : head_right r ≡ true) where
  abbrev Same : ℕ → Type 0
  Same i = get_or (encode (decode r)) i 0 ≡ get_or r i 0

  said : Head r
  said = head_says r right

  same_first : (i : ℕ) → i < 5 → Same i
  unfolding encode decode
  same_first zero h = omega (arith, ap (λ (w : ℕ). w % 256) said.size, word_low r 0 (bytes 0))
  same_first (suc zero) h = omega (arith, ap (λ (w : ℕ). w / 256) said.size, word-high r 0 (bytes 0))
  same_first (suc (suc zero)) h = omega (arith, ap (λ (w : ℕ). w % 256) said.kind, word_low r 2 (bytes 2))
  same_first (suc (suc (suc zero))) h = omega (arith, ap (λ (w : ℕ). w / 256) said.kind, word-high r 2 (bytes 2))
  same_first (suc (suc (suc (suc zero)))) h = refl
  same_first (suc (suc (suc (suc (suc i))))) h = absurd (omega arith)

  same_map : (i : ℕ) → i < 10 → Same (map_at + i)
  same_map i h = encode-map (decode r) (sized-decode r) i h ∙ decode-map r i h

  same_zero : Same 15
  same_zero = encode-zero (decode r) (sized-decode r) ∙ sym said.zero_byte

  same_words : (at : ℕ) (l : List ℕ) → Says (encode (decode r)) at l → ((x : ℕ) → x < 1024 → get_or l x 0 ≡ word r (at + 2 * x))
      → (i : ℕ) → at ≤ i → i < at + 2048 → Same i
  same_words at l S d i a b = each_word at Same i a b (λ x h _ _. (
    low-says S x h ∙ ap (λ (w : ℕ). w % 256) (d x h) ∙ word_low r (at + 2 * x) (bytes (at + 2 * x)),
    high-says S x h ∙ ap (λ (w : ℕ). w / 256) (d x h) ∙ word-high r (at + 2 * x) (bytes (at + 2 * x)),
  ))

  same_condition : (x : ℕ) → x < 1024 → Same (conditions_at + x)
  same_condition x h = encode_condition (decode r) (sized-decode r) x h ∙ decode_condition r x h

  same_holder : (i : ℕ) → holders_at ≤ i → i < conditions_at → Same i
  same_holder = same_words holders_at (decode r).holders (says_holders (decode r) (sized-decode r)) (decode_holder r)

  same_star : (i : ℕ) → stars_at ≤ i → i < record_size → Same i
  same_star = same_words stars_at (decode r).stars (says_stars (decode r) (sized-decode r)) (decode_star r)

  same : (i : ℕ) → i < record_size → Same i
  same i h =
      ⊎_elim (same_first i)
      (λ (a : 5 ≤ i). ⊎_elim (λ (b : i < 15). subst Same (omega arith) (same_map (i - 5) (omega arith)))
      (λ (b : 15 ≤ i). ⊎_elim (λ (d : i < 16). subst Same (omega arith) same_zero)
      (λ (d : holders_at ≤ i). ⊎_elim (same_holder i d)
      (λ (e : conditions_at ≤ i). ⊎_elim (λ (g : i < stars_at). subst Same (omega arith) (same_condition (i - conditions_at) (omega arith)))
      (λ (g : stars_at ≤ i). same_star i g h)
      (lt_or i stars_at))
      (lt_or i conditions_at))
      (lt_or i 16))
      (lt_or i 15))
      (lt_or i 5)

  pub encode-decode : Encoded r
  encode-decode =
      let e = length-encode (decode r) (sized-decode r) in
      ext_get_or 0 (encode (decode r)) r (e ∙ sym long) (λ i h. same i (omega arith))
