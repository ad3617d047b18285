-- A call's checks in order: the first that is met is its refusal, and where none is, the call does what it does. What a job is found to hold, and
-- what is told of a walk. Assumes nothing.
use Prim.Native.Nat.{ℕ, zero, suc, ◌≤◌}
use mathlib.Core.Logic.{◌≢◌}
use mathlib.Core.Path.{◌≡◌, refl, sym, ap, ◌∙◌}
use mathlib.Core.Bool.{Bool, true, false, not}
use mathlib.Core.List.{List, [], ◌∷◌, ◌++◌}
use borrow.Author.Tests.{ltb-false, eq-eqb, ne_eqb, eqb-false}
use lib.Dec.{eqb}
use lib.ListN.{get_or}
use Rattle.hypercube.specs.Lists.{any_below, count_below}
use Rattle.hypercube.specs.Bits.{width}
use Rattle.hypercube.specs.Checks.{Check, first_number, Clear, StopsAt, number_at}
use Rattle.hypercube.specs.Labels.{node}
use Rattle.hypercube.specs.Subcubes.{vertices}
use Rattle.hypercube.specs.Tests.{cases}
use Rattle.hypercube.specs.declared.Node.{Node}
use Rattle.hypercube.specs.declared.Subcube.{Subcube}
use Rattle.hypercube.specs.declared.Walk.{Walk}
use Rattle.hypercube.specs.declared.Walk.TheVariants.{Found, NoneFree}
use Rattle.hypercube.proofs.Checks.{clear_by}
use Rattle.labels.specs.Flags.{numbered}
use Rattle.labels.specs.Relabelling.{relabelling}
use Rattle.labels.specs.declared.Relabelled.{Relabelled}
use Rattle.state.specs.declared.State.{State}
use Rattle.state.specs.declared.Call.{Call}
use Rattle.state.specs.declared.Step.{Step}
use Rattle.hypercube.specs.declared.Reply.TheVariants.{Granted, Refused, Done}
use Rattle.state.specs.States.{with_map, lost, taken}
use Rattle.state.specs.Valid.{valid}
use Rattle.state.specs.Checks.{node_count, holds, held_by, any_held, field_checks, field_cause}
use Rattle.state.specs.Effects.{step, Relabels, effected, grant_step}
use Rattle.state.specs.Acts.{refuse, guarded, acted, called}
use Rattle.state.specs.Walked.{tried_in}
use Rattle.state.proofs.Below.{any_counted}

-- ---- any list of checks

module _ (s : State) where
  -- the first that is met is the refusal
  pub stopped : (ks : List Check) (t : Step) (i : ℕ) → StopsAt ks i → refuse s (number_at ks i) ≡ guarded s ks t
  unfolding guarded
  stopped [] t i e = absurd e
  stopped (k ∷ ks) t zero e = rw e
  stopped (k ∷ ks) t (suc i) e = rw e.0 (stopped ks t i e.1)

  -- where none is met, the call does what it does
  pub runs : (ks : List Check) (t : Step) → Clear ks → {u : Step} → u ≡ t → u ≡ guarded s ks t
  unfolding guarded
  runs [] t e h = h
  runs (k ∷ ks) t e h = rw e.0 (runs ks t e.1 h)

  -- what comes after those that are not met
  after : (ks ms : List Check) (t : Step) → Clear ks → guarded s ms t ≡ guarded s (ks ++ ms) t
  unfolding guarded
  after [] ms t e = refl
  after (k ∷ ks) ms t e = rw e.0 (after ks ms t e.1)

  -- by the number of the first that is met
  pub stopped_by : (ks ms : List Check) (t : Step) {m : ℕ} → m ≡ first_number ks → m ≢ 0 → refuse s m ≡ guarded s (ks ++ ms) t
  unfolding guarded first_number
  stopped_by [] ms t e p = absurd (p e)
  stopped_by (k ∷ ks) ms t e p =
      cases k.met (λ d. rw d (ap (refuse s) (rw d at e))) (λ d. rw d (stopped_by ks ms t (rw d at e) p))

-- ---- m is the first cause that the fields of a request or a growth meet

module _ (s : State) (fs : List ℕ) (j k f : ℕ) {m : ℕ} (e : m ≡ field_cause s fs j k f) where
  pub fields-refused : (ms : List Check) (t : Step) → m ≢ 0 → refuse s m ≡ guarded s (field_checks s fs j k f ++ ms) t
  unfolding field_cause
  fields-refused ms t = stopped_by s (field_checks s fs j k f) ms t e

  module _ (z : m ≡ 0) where
    clear : Clear (field_checks s fs j k f)
    unfolding field_cause
    clear = clear_by (field_checks s fs j k f) refl (sym e ∙ z)

    pub fields_fit : (j ≢ 0) × (k ≤ s.n)
    fields_fit = (eqb-false j 0 clear.0, ltb-false s.n k clear.1.0)

    -- then the first that is met of the checks after them is the refusal, and where none is, the call does what it does
    pub fields_stopped : (ms : List Check) (t : Step) (i : ℕ) → StopsAt ms i → refuse s (number_at ms i) ≡ guarded s (field_checks s fs j k f ++ ms) t
    fields_stopped ms t i h = stopped s ms t i h ∙ after s (field_checks s fs j k f) ms t clear

    pub fields_run : (ms : List Check) (t : Step) → Clear ms → {u : Step} → u ≡ t → u ≡ guarded s (field_checks s fs j k f ++ ms) t
    fields_run ms t c h = runs s ms t c h ∙ after s (field_checks s fs j k f) ms t clear

-- ---- a job j, and k, the number of nodes that it is found to hold below N

module _ (s : State) (j N k : ℕ) (e : N ≡ node_count s) (q : k ≡ count_below N (λ x. eqb (get_or s.holders x 0) j)) where
  pub counted : k ≡ held_by s j
  counted = q ∙ ap (λ (m : ℕ). count_below m (λ x. eqb (get_or s.holders x 0) j)) e

  pub holds_none : k ≡ 0 → holds s j ≡ false
  holds_none z = any_counted (λ x. eqb (get_or s.holders x 0) j) (node_count s) ∙ ap not (eq-eqb _ 0 (sym counted ∙ z))

  pub holds_some : k ≢ 0 → holds s j ≡ true
  holds_some z = any_counted (λ x. eqb (get_or s.holders x 0) j) (node_count s) ∙ ap not (ne_eqb _ 0 (λ y. z (counted ∙ y)))

-- ---- what was found: a value to tell, a relabelling, whether any node is held below N

pub done_as : (s : State) {k m : ℕ} → k ≡ m → step s (Done k) ≡ step s (Done m)
done_as s e = ap (λ (k : ℕ). step s (Done k)) e

pub relabelled_as : (s : State) (r : Relabelled) → r ≡ relabelling s.n s.conditions
    → step (with_map s r.map) (Done r.size) ≡ effected s Relabels
relabelled_as s r h = rw h

pub any_held_as : (s : State) (N : ℕ) → N ≡ node_count s → {b : Bool} → b ≡ any_below (λ x. not (eqb (get_or s.holders x 0) 0)) N → b ≡ any_held s
any_held_as s N e q = q ∙ ap (any_below (λ x. not (eqb (get_or s.holders x 0) 0))) e

-- ---- what is told of a walk

module _ (s : State) (j : ℕ) (w v : Walk) (a : w ≡ v) where
  pub grant_14 : (t : ℕ) → w ≡ NoneFree t → (tried : ℕ) → tried ≡ tried_in w → step s (Refused 14 tried) ≡ grant_step s j v
  grant_14 t e tried q = ap (λ (m : ℕ). step s (Refused 14 m)) (q ∙ ap tried_in e) ∙ ap (grant_step s j) (sym e ∙ a)

  -- ds is the map that the member was moved by
  pub grant_found : (c : Subcube) (t : ℕ) → w ≡ Found c t → {ds : List ℕ} → ds ≡ s.map → (low : Node) → low.0 ≡ node ds c.low.0
      → (stars : ℕ) → stars ≡ node ds c.stars
      → step (taken (lost s j) (vertices width stars low.0) j stars) (Granted j low stars t) ≡ grant_step s j v
  grant_found c t e {ds} ed low el stars es =
      let at : low ≡ numbered (node ds c.low.0) = ap numbered el in
      rw (sym a ∙ e, at, es, ed)

-- ---- a call on any state

module _ (s : State) (c : Call) where
  pub called_1 : valid s ≡ false → refuse s 1 ≡ called s c
  called_1 e = rw e

  pub called_on : valid s ≡ true → acted s c ≡ called s c
  called_on e = rw e
