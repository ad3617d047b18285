-- Document 02, (f): "Each node gets two bytes more, the star bits of the grant that holds it, 0 if unheld." Two programs that do otherwise, and so
-- break demand 3.
use Rattle.std.specs.Prelude.{ℕ, ◌+◌, ◌*◌, ◌<◌, ◌≡◌, List, [], ◌∷◌}
use Rattle.hypercube.specs.Bits.{width}
use Rattle.hypercube.specs.Lists.{In}
use Rattle.hypercube.specs.Subcubes.{vertices}
use Rattle.hypercube.specs.Words.{word}
use Rattle.hypercube.specs.declared.Reply.{Reply}
use Rattle.hypercube.specs.declared.Reply.TheVariants.{Granted, Refused, Done}
use Rattle.history.specs.Held.{Held, nodes}
use Rattle.state.specs.declared.State.{State}
use Rattle.state.specs.States.{with_holders, with_stars, given, cleared}
use Rattle.state.specs.Effects.{step}
use Rattle.record.specs.Layout.{holders_at, stars_at}
use Rattle.cube.specs.Called.{Program}
use Rattle.cube.specs.Run.{Exchanges, record_after, held_at}
use Rattle.weak.specs.Programs.{Acts, by, Asks, Releases, relabel_step, request_step, grow_step, release_step, doing}
use Rattle.weak.specs.Parts.{Breaks}

module _ (P : Program) (n : ℕ) (b : List ℕ) where
  abbrev r₀ : List ℕ
  r₀ = P.setup_record b n

  -- 3: "every node of a job carries the same value, the one that its last grant replied"
  abbrev pub StarsRight : Type 0
  StarsRight =
      (es : Exchanges) (g : Held) → In g (held_at P r₀ [] es) → (x : ℕ) → In x (nodes g)
      → word (record_after P r₀ es) (stars_at + 2 * x) ≡ g.stars

  -- 3: 0 if unheld
  abbrev pub UnheldRight : Type 0
  UnheldRight =
      (es : Exchanges) (x : ℕ) → x < 1024 → word (record_after P r₀ es) (holders_at + 2 * x) ≡ 0 → word (record_after P r₀ es) (stars_at + 2 * x) ≡ 0

-- one that stores a grant's star bits at its lowest node only; the reply is the delivered program's
abbrev pub marked : State → Reply → State
marked s (Granted j low stars t) =
    with_stars (with_holders s (given s.holders (vertices width stars low.0) j)) (given s.stars (low.0 ∷ []) stars)
marked s (Refused m t) = s
marked s (Done v) = s

abbrev pub lowest_marked : Asks
lowest_marked s j k f = step (marked s (request_step s j k f).reply) (request_step s j k f).reply

abbrev pub marking : Acts
marking = doing relabel_step lowest_marked grow_step release_step

-- one that leaves them at a release
abbrev pub stars_left : Releases
stars_left s j = step (with_holders s (cleared s.holders s.holders j)) (release_step s j).reply

abbrev pub leaving : Acts
leaving = doing relabel_step request_step grow_step stars_left

-- on any buffer of the record's size, b
pub record StarsRefuted (b : List ℕ) : Type 0 where
  pub lowest_only : Breaks StarsRight (by marking) 1 b
  pub left_at_release : Breaks UnheldRight (by leaving) 1 b
