-- What a call is told, its bytes, and how these are read back. Document 01, "Six calls and their frames", "Replies": "Reply bytes past the frame keep
-- their values."
use Rattle.std.specs.Prelude.{ℕ, cond, List, [], ◌∷◌, ◌++◌, eqb, length, drop}
use Rattle.hypercube.specs.Words.{word, words}
use Rattle.hypercube.specs.declared.Reply.{Reply}
use Rattle.hypercube.specs.declared.Reply.TheVariants.{Granted, Refused, Done}

-- job, lowest node, star bits, tried
abbrev pub granted : ℕ → ℕ → ℕ → ℕ → Reply
granted j low stars t = Granted j (record { 0 = low }) stars t

-- its number: 0, or the refusal's
abbrev pub number_of : Reply → ℕ
number_of (Granted j low stars t) = 0
number_of (Refused m t) = m
number_of (Done v) = 0

-- length, kind, values: granted job, lowest node, star bits, tried; refused number, tried; done value
abbrev pub fields : Reply → List ℕ
fields (Granted j low stars t) = 12 ∷ 0x8001 ∷ j ∷ low.0 ∷ stars ∷ t ∷ []
fields (Refused m t) = 8 ∷ 0x8002 ∷ m ∷ t ∷ []
fields (Done v) = 6 ∷ 0x8003 ∷ v ∷ []

-- the frame, two bytes each
unfoldable pub frame_of : Reply → List ℕ
frame_of r = words (fields r)

-- bs in the place of the first bytes of p
abbrev pub written : List ℕ → List ℕ → List ℕ
written bs p = bs ++ drop (length bs) p

-- the reply buffer p after it: a refusal with 2 leaves it
abbrev pub replies : Reply → List ℕ → List ℕ
replies r p = cond (eqb (number_of r) 2) p (written (frame_of r) p)

-- and read back: what the number returned and the reply's bytes say
unfoldable pub heard : ℕ → List ℕ → Reply
heard number p =
    cond (eqb number 0)
    (cond (eqb (word p 2) 0x8001) (granted (word p 4) (word p 6) (word p 8) (word p 10)) (Done (word p 4)))
    (cond (eqb number 2) (Refused 2 0) (Refused number (word p 6)))
