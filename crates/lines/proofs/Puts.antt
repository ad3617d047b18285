-- Bytes put one after the other. Assumes nothing.
use Prim.Native.Nat.{ℕ, suc, ◌+◌, ◌-◌, ◌/◌, ◌%◌, ◌^◌, ◌<◌, ◌≤◌}
use mathlib.Core.Path.{◌≡◌, refl, ◌∙◌}
use mathlib.Core.List.{List, [], ◌∷◌, ◌++◌, append_assoc}
use native.Mathlib.Omega.{arith}
use lib.ListN.{length, set, take, drop, length-append}
use lib.Seq.{sets, sets-eq, length-sets}
use borrow.Rule.Slice.PartMut.{put_mid, Post-is}
use Rattle.lines.specs.Text.{digit, decimal, item, last_item, said, line_of}
use Rattle.tally.specs.declared.Outcome.{Outcome}
use Rattle.lines.specs.Put.{Put, Item}
use Rattle.lines.proofs.Digits.{decimal_one, decimal_more, decimal_short}

sets_append : (l : List ℕ) (i : ℕ) (bs cs : List ℕ) → sets (sets l i bs) (i + length bs) cs ≡ sets l i (bs ++ cs)
sets_append l i [] cs = let e : i + 0 ≡ i = omega arith in rw e
sets_append l i (b ∷ bs) cs = let e : i + suc (length bs) ≡ suc i + length bs = omega arith in rw e (sets_append (set l i b) (suc i) bs cs)

-- bs, and cs at the place after it, are bs ++ cs
pub put_then : {p p' p'' : List ℕ} {at next end : ℕ} (bs cs : List ℕ) → Put p at bs p' next → Put p' next cs p'' end → Put p at (bs ++ cs) p'' end
put_then {p} {p'} {p''} {at} {next} {end} bs cs f g = record {
  stored = rw (g.stored, f.stored, f.placed) (sets_append p at bs cs);
  placed = rw length-append (omega (arith, f.placed, g.placed));
  long = g.long ∙ f.long;
}

-- what a put leaves, cut at its place and after it
pub put_whole : {p p' : List ℕ} {at next : ℕ} (bs : List ℕ) → at + length bs ≤ length p → Put p at bs p' next → p' ≡ take at p ++ bs ++ drop next p
put_whole {p} {p'} {at} bs h f = rw (f.stored, f.placed) (sets-eq bs p at h)

-- a text written to the part from its place on
pub part_put : {p part : List ℕ} {at : ℕ} (text : List ℕ) → part ≡ text → at + length text ≤ length p
    → Put p at text (put_mid at (at + length text - at) p part) (at + length text)
part_put {p} {part} {at} text e h =
    let s : put_mid at (at + length text - at) p part ≡ sets p at text =
    rw (e, Post-is at (at + length text) p (omega arith), sets-eq text p at h, append_assoc) in
    record { stored = s; placed = refl; long = rw s (length-sets p at text) }

-- ---- a number: one digit, or the digits of a tenth and the last

pub number_one : {p p' : List ℕ} {at next : ℕ} (x d : ℕ) → x < 10 → d ≡ digit x → Put p at (d ∷ []) p' next → Put p at (decimal x) p' next
number_one x d h e f = rw (decimal_one x h) (rw e at f)

pub number_more : {p p' p'' : List ℕ} {at next end : ℕ} (x d : ℕ) → 10 ≤ x → x < 10 ^ 10 → d ≡ digit (x % 10)
    → Put p at (decimal (x / 10)) p' next → Put p' next (d ∷ []) p'' end → Put p at (decimal x) p'' end
number_more x d g h e f l = rw (decimal_more x g h) (put_then (decimal (x / 10)) (digit (x % 10) ∷ []) f (rw e at l))

-- a text, and a number after it
pub item-put : {p p' p'' : List ℕ} {at next end : ℕ} (text : List ℕ) (x : ℕ) → Put p at text p' next → Put p' next (decimal x) p'' end
    → Item p at text x p'' end
unfolding item
item-put text x f g = record { put = put_then text (decimal x) f g; short = omega (arith, decimal_short x, f.placed, g.placed) }

pub last_put : {p p' p'' : List ℕ} {at next end : ℕ} (text : List ℕ) (x : ℕ) → Item p at text x p' next → Put p' next (10 ∷ []) p'' end
    → Put p at (last_item text x) p'' end
unfolding last_item
last_put text x f g = put_then (item text x) (10 ∷ []) f.put g

-- an item, and the rest of the line
pub item_then : {p p' p'' : List ℕ} {at next end : ℕ} {text : List ℕ} {x : ℕ} (rest : List ℕ) → Item p at text x p' next → Put p' next rest p'' end
    → Put p at (item text x ++ rest) p'' end
item_then {text = text} {x = x} rest f g = put_then (item text x) rest f.put g

-- the outcome o is u, and what u says is put
pub said_put : {p p' : List ℕ} {at next : ℕ} (o u : Outcome) → o ≡ u → Put p at (said u) p' next → Put p at (said o) p' next
said_put o u e f = rw e f

pub line_put : {p p' p'' : List ℕ} {at next end : ℕ} (place : ℕ) (o : Outcome) → Put p at (decimal place) p' next → Put p' next (said o) p'' end
    → Put p at (line_of place o) p'' end
unfolding line_of
line_put place o f g = put_then (decimal place) (said o) f g
