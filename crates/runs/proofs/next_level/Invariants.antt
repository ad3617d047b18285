-- The flags passed stand in the level, and `some` is 0 only where none of them is 1.
use Rattle.std.proofs.Common.{◌≡◌, ℕ, ◌+◌, ◌≤◌, ◌<◌}
use Rattle.runs.proofs.Levels.{Laid, both_at}
use Rattle.runs.proofs.next_level.Given as goal

abbrev pub invariant-loop-x : goal.invariant-loop-x
invariant-loop-x l = record {
  laid : Laid l.fn.levels l.start (both_at l.fn.levels l.before l.size) l.x l.levels;
  none : l.some ≡ 0 → (k : ℕ) → k < l.x → both_at l.fn.levels l.before l.size k ≡ 0;
  apart : l.before + l.size + l.size ≤ l.start;
  inside : l.start + l.size ≤ 2048;
}
