-- A set of the 1024 labels as 128 bytes: plane j is bit j of every byte, and holds the labels from 128 * j on, in order.
use Rattle.std.specs.Prelude.{ℕ, ◌+◌, ◌-◌, ◌*◌, ◌/◌, ◌%◌, ◌^◌, ◌<◌, ◌≤◌, ◌≡◌, ◌⊎◌, Bool, false, cond, ◌&&◌, List, eqb, length, get_or}
use Rattle.std.specs.Int.Bits.{bit_and}
use Rattle.hypercube.specs.Bits.{width, bit, clear}
use Rattle.hypercube.specs.Subcubes.{subcube, is_free}
use Rattle.runs.specs.Flagged.{flagged}
use Rattle.planes.specs.Rows.{NoMember}

-- label x is in the set
abbrev pub in_planes : List ℕ → ℕ → Bool
in_planes bs x = eqb (bit (get_or bs (x % 128) 0) (x / 128)) 1

-- the planes from j on of entry e, packed so far in v
pub record Packed (fs : List ℕ) (e j v : ℕ) : Type 0 where
  pub small : v < 2 ^ (8 - j)
  pub plane : (k : ℕ) → j ≤ k → k < 8 → eqb (bit v (k - j)) 1 ≡ flagged fs (128 * k + e)

-- the same of all entries; the 64 bytes beyond them tell nothing
pub record PackedFrom (fs : List ℕ) (j : ℕ) (bs : List ℕ) : Type 0 where
  pub long : length bs ≡ 192
  pub entry : (e : ℕ) → e < 128 → Packed fs e j (get_or bs e 0)

-- a label without the star 2^i, and the one with it, are both in the set
abbrev pub paired : List ℕ → ℕ → ℕ → Bool
paired bs i x = clear x i && (in_planes bs x && in_planes bs (x + 2 ^ i))

-- cs is bs across the star 2^i: both halves, each pair at its lower label
abbrev pub Across : ℕ → List ℕ → List ℕ → Type 0
Across i bs cs = (x : ℕ) → x < 2 ^ width → in_planes cs x ≡ paired bs i x

-- no two are the star 2^i apart
abbrev pub NoPair : ℕ → List ℕ → Type 0
NoPair i bs = (x : ℕ) → x < 2 ^ width → paired bs i x ≡ false

-- the star 2^i of the highest three: it parts planes 2^(i - 7) apart, and `keep` has the planes without it
pub record High (i shift keep : ℕ) : Type 0 where
  pub least : 7 ≤ i
  pub step : shift ≡ 2 ^ (i - 7)
  pub kept : (j : ℕ) → j < 8 → bit keep j ≡ 1 - bit j (i - 7)

-- all eight planes of an entry that has no bit of the star, else none
abbrev pub planes_of : ℕ → ℕ → ℕ
planes_of e star = cond (eqb (bit_and e star) 0) 255 0

-- no label is in the set
abbrev pub Empty : List ℕ → Type 0
Empty bs = (x : ℕ) → x < 2 ^ width → in_planes bs x ≡ false

-- x is the lowest label of a subcube of the stars s: it has none of them
abbrev pub Lowest : ℕ → ℕ → Type 0
Lowest s x = (i : ℕ) → bit s i ≡ 1 → bit x i ≡ 0

-- bs has the free subcubes of the stars s, each at its lowest label
abbrev pub Folded : (ℕ → Bool) → ℕ → List ℕ → Type 0
Folded f s bs = (x : ℕ) → x < 2 ^ width → Lowest s x → in_planes bs x ≡ is_free f (subcube x s)

-- the top d of n bits
abbrev pub tops : ℕ → ℕ → ℕ
tops n d = (2 ^ d - 1) * 2 ^ (n - d)

-- r is 2^d, or else 0, and 0 says that no row of d has a free member, where bs has the top d stars folded
pub record Opened (bs : List ℕ) (n d l r : ℕ) : Type 0 where
  pub power : (r ≡ 0) ⊎ (r ≡ 2 ^ d)
  pub none : r ≡ 0 → (f : ℕ → Bool) → Folded f (tops n d) bs → NoMember f n d l 1

-- the lowest l bits are 0
abbrev pub ZeroBelow : ℕ → ℕ → Type 0
ZeroBelow l s = (i : ℕ) → i < l → bit s i ≡ 0
