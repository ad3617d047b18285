-- Document 02, (g): a loading call "tests that each job's nodes are exactly a subcube with the stored star bits". Three programs that load otherwise,
-- and so break demand 3.
use Rattle.std.specs.Prelude.{ℕ, ◌^◌, ◌<◌, ◌≡◌, cond, List, get_or}
use Rattle.hypercube.specs.Conditions.{Condition, ◌is◌, ◌is_not◌, ◌below◌, ◌and◌, ◌or◌, each_below}
use Rattle.record.specs.Layout.{valid_record}
use Rattle.record.specs.Says.{dimension_of, says, formed_record}
use Rattle.cube.specs.Called.{Program, setup_number, setup_record, call_number, call_record, call_reply}
use Rattle.cube.specs.Run.{Exchanges, record_after}
use Rattle.cube.specs.Demand3.{Recorded}
use Rattle.weak.specs.Parts.{Breaks}

-- the delivered program with another loading call
abbrev pub loading_by : (List ℕ → ℕ) → Program
loading_by load = record {
  setup_number = setup_number;
  setup_record = setup_record;
  load_number = load;
  call_number = call_number;
  call_record = call_record;
  call_reply = call_reply;
}

-- one that says 0 to all, and one that says 18 to all
abbrev pub passes_all : List ℕ → ℕ
passes_all r = 0

abbrev pub refuses_all : List ℕ → ℕ
refuses_all r = 18

-- one that tests star bits and not the nodes: each job's nodes store the same star bits of the cube
abbrev pub same_stars : ℕ → (ℕ → ℕ) → (ℕ → ℕ) → Condition
same_stars n f v = each_below (2 ^ n) (λ x. f x is 0 or v x below 2 ^ n and each_below (2 ^ n) (λ y. f y is_not f x or v y is v x))

abbrev pub stars_only : List ℕ → ℕ
stars_only r = cond (valid_record r) (cond (same_stars (dimension_of r) (says r).holder (says r).stars).test 0 18) 1

module _ (P : Program) (n : ℕ) (b : List ℕ) where
  -- 3: a list begins at a record
  abbrev pub LoadedRecorded : Type 0
  LoadedRecorded = (r : List ℕ) → ((i : ℕ) → get_or r i 0 < 256) → P.load_number r ≡ 0 → Recorded (dimension_of r) (says r) r r

  -- 3: a record that a list leaves loads
  abbrev pub LeftLoads : Type 0
  LeftLoads = (es : Exchanges) → P.load_number (record_after P (P.setup_record b n) es) ≡ 0

  -- 2: a record that loads has each job's nodes as a subcube
  abbrev pub LoadedFormed : Type 0
  LoadedFormed = (r : List ℕ) → P.load_number r ≡ 0 → (formed_record r).Met

-- on any buffer of the record's size, b
pub record LoadsRefuted (b : List ℕ) : Type 0 where
  pub to_all_0 : Breaks LoadedRecorded (loading_by passes_all) 0 b
  pub to_all_18 : Breaks LeftLoads (loading_by refuses_all) 0 b
  pub by_stars_only : Breaks LoadedFormed (loading_by stars_only) 1 b
