-- Document 01's examples of k-means: rows (1,2), (3,4), four centres.
use Prim.Native.Nat.{ℕ, ◌+◌, ◌*◌}
use mathlib.Core.Path.{◌≡◌, refl}
use mathlib.Core.List.{List, [], ◌∷◌, map}
use mathlib.Core.Bool.{true}
use lib.ListN.{get_or}
use lib.Ieee.{Float, nan, binary32, binary64, add, sub, mul, div, lt, of_bits, to_bits, of_int}
use Rattle.lists.specs.Lists.{tab, join, put_part}
use Rattle.lists.specs.Tests.{every, first, count}
use Rattle.lists.specs.Examples.{Example, agree}
use Rattle.metrics.specs.Distance.{sum_to, squared, worked}
use Rattle.std.specs.Prelude.{Option, Some, None}
use Rattle.answers.specs.declared.Stage.TheVariants.{Coarse}
use Rattle.answers.specs.Answers.{Clustered, cluster_said}
use Rattle.kmeans_assign.specs.Task.{Task}
use Rattle.kmeans_split.specs.Run.{Run}
use Rattle.kmeans_average.specs.Finite.{finite_center, lowest}
use Rattle.kmeans_start.specs.Start.{mean_at, start_at, started, mean_of}
use Rattle.kmeans_assign.specs.Assign.{nearest, assigned_of}
use Rattle.kmeans_average.specs.Average.{sum_where, average_at}
use Rattle.kmeans_split.specs.Split.{split_centers, split_counts, split_off, fill_center, split_to}
use Rattle.kmeans.specs.Kmeans.{averaged, epoch_of, beginning, epochs_to, train}

-- 1.0, 2.0, 3.0, 4.0, by their bits
abbrev f1 : ℕ
f1 = 0x3f80_0000

abbrev f2 : ℕ
f2 = 0x4000_0000

abbrev f3 : ℕ
f3 = 0x4040_0000

abbrev f4 : ℕ
f4 = 0x4080_0000

-- the draws 0.0, 0.25, 0.5, and 0.4
abbrev three_draws : List ℕ
three_draws = 0 ∷ 0x3fd0_0000_0000_0000 ∷ 0x3fe0_0000_0000_0000 ∷ []

abbrev four_draws : List ℕ
four_draws = 0 ∷ 0x3fd0_0000_0000_0000 ∷ 0x3fe0_0000_0000_0000 ∷ 0x3fd9_9999_9999_999a ∷ []

-- rows (1,2), (3,4), four centres
abbrev rows : List Float
rows = map (of_bits binary32) (f1 ∷ f2 ∷ f3 ∷ f4 ∷ [])

abbrev task : ℕ → List ℕ → Task
task epochs draws = record {
  value = λ (k j : ℕ). get_or rows (k * 2 + j) nan;
  n = 2;
  w = 2;
  centers = 4;
  epochs = epochs;
  draws = map (of_bits binary64) draws;
}

-- what an answer says: its number, the draws used, the step, the epoch and the centre
abbrev said_by : Clustered → List ℕ
said_by c =
    let said = cluster_said Coarse c in
    said.number ∷ said.used ∷ said.place.step ∷ said.place.epoch ∷ said.place.center ∷ []

abbrev bits : List Float → List ℕ
bits l = map (to_bits binary32) l

-- distances 4, 1, 1, and two marks before 1
abbrev tied : ℕ → Option Float
tied i = worked (get_or (map (of_bits binary32) (f4 ∷ f1 ∷ f1 ∷ [])) i nan)

abbrev marked : ℕ → Option Float
marked i = get_or (None ∷ None ∷ Some (of_bits binary32 f1) ∷ []) i None

abbrev averaged_run : Run
averaged_run = averaged (task 2 four_draws) 1 (beginning (task 2 four_draws) 0) 0

abbrev split_run : Run
split_run = split_to (task 2 four_draws) 1 averaged_run 4

abbrev row : List ℕ → List ℕ → Example
row found expected = record { found = found; expected = expected }

abbrev pub kmeans_table : List Example
kmeans_table =
    -- start
    row (bits (started (task 1 []))) (f1 ∷ f2 ∷ f3 ∷ f2 ∷ f1 ∷ f2 ∷ f3 ∷ f2 ∷ [])
    -- they are assigned 0 and 1; of equal distances the lower centre is taken, and a mark only if there are but marks
    ∷ row (assigned_of (task 1 []) (started (task 1 []))) (0 ∷ 1 ∷ [])
    ∷ row (nearest tied 3 ∷ nearest marked 2 ∷ nearest marked 3 ∷ []) (1 ∷ 0 ∷ 2 ∷ [])
    -- average
    ∷ row (bits averaged_run.centers) (f1 ∷ f2 ∷ f3 ∷ f4 ∷ 0 ∷ 0 ∷ 0 ∷ 0 ∷ [])
    ∷ row averaged_run.counts (1 ∷ 1 ∷ 0 ∷ 0 ∷ [])
    -- split of that
    ∷ row (bits split_run.centers) (0x3f80_2000 ∷ 0x3fff_c000 ∷ 0x4040_3000 ∷ 0x407f_c000 ∷ 0x3f7f_c000 ∷ 0x4000_2000 ∷ 0x403f_d000 ∷ 0x4080_2000 ∷ [])
    ∷ row split_run.counts (1 ∷ 1 ∷ 0 ∷ 0 ∷ [])
    ∷ row (said_by split_run.answer) (0 ∷ 4 ∷ 0 ∷ 0 ∷ 0 ∷ [])
    -- with three draws
    ∷ row (said_by (train (task 2 three_draws) 0).answer) (8 ∷ 0 ∷ 2 ∷ 1 ∷ 3 ∷ [])
    -- a donor count of 5
    ∷ row (split_counts (0 ∷ 5 ∷ []) 0 1) (2 ∷ 3 ∷ [])
    -- no epoch, one and two: no split in the last
    ∷ row (said_by (train (task 0 four_draws) 0).answer) (0 ∷ 0 ∷ 0 ∷ 0 ∷ 0 ∷ [])
    ∷ row (bits (train (task 0 four_draws) 0).centers) (f1 ∷ f2 ∷ f3 ∷ f2 ∷ f1 ∷ f2 ∷ f3 ∷ f2 ∷ [])
    ∷ row (said_by (train (task 1 four_draws) 0).answer) (0 ∷ 0 ∷ 0 ∷ 0 ∷ 0 ∷ [])
    ∷ row (bits (train (task 1 four_draws) 0).centers) (f1 ∷ f2 ∷ f3 ∷ f4 ∷ 0 ∷ 0 ∷ 0 ∷ 0 ∷ [])
    ∷ row (said_by (train (task 2 four_draws) 0).answer) (0 ∷ 4 ∷ 0 ∷ 0 ∷ 0 ∷ [])
    ∷ row (bits (train (task 2 four_draws) 0).centers) (f1 ∷ f2 ∷ f3 ∷ f4 ∷ 0 ∷ 0 ∷ 0 ∷ 0 ∷ [])
    ∷ []

pub kmeans-examples : agree kmeans_table ≡ true
unfolding start_at mean_at sum_to squared worked add sub mul div lt of_bits to_bits of_int tab join every first count nearest finite_center lowest sum_where mean_of average_at put_part split_centers split_counts split_off fill_center split_to averaged epoch_of beginning epochs_to
kmeans-examples = refl
