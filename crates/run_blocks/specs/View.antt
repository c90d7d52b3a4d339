-- What the machine's contracts are about: where it stands in a program that reads, and how a block's first statement runs.
use Rattle.std.specs.Prelude.{ℕ, suc, ◌+◌, ◌<◌, ◌≤◌, ◌≡◌, cond, List, eqb, length, Result, Ok, Err}
use Rattle.numbers.specs.Result as Answer
use Rattle.numbers.specs.Result.{ok, stop}
use Rattle.kernel.specs.File.{Rec, Statement}
use Rattle.kernel.specs.Reading.{open_loops}
use Rattle.kernel.specs.Blocks.{Block, stops, plain, loop, branch, said}
use Rattle.kernel.specs.Machine as Machine
use Rattle.kernel.specs.Machine.{Layout, State, stuck, step, choose, in_pass, repeat, run}
use Rattle.kernel.specs.declared.refusals.Reason.{Reason}
use Rattle.kernel.specs.Named.{reason}
use Rattle.kernel.specs.Guarantees.{Begins}
use Rattle.kernel.specs.Trees.{tree_at, stop_of}
use Rattle.run_loops.specs.declared.Counters.{Counters}
use Rattle.run_blocks.specs.declared.Stuck.{Stuck}

-- from record i on the program reads; the blocks around it are as many as the nesting left leaves, and as many loops as the level says
pub record Stands (rs : List Rec) (i : ℕ) (a : Counters) : Type 0 where
  pub begins : Begins rs i
  pub few_registers : begins.scope.registers ≤ 48
  pub few_arrays : length begins.scope.arrays ≤ 8
  pub left_is : length begins.opens + a.left ≡ 8
  pub level_is : open_loops begins.opens ≡ a.level

-- the statement at record i, which says s, is to run
pub record Due (rs : List Rec) (i : ℕ) (s : Statement) (a : Counters) : Type 0 where
  pub there : i < length rs
  pub says : said rs i ≡ s
  pub stands : Stands rs i a

-- an answer at statement n
unfoldable pub placed : {A : Type 0} → (n : ℕ) → Result A Reason → Result A Stuck
placed n (Ok x) = Ok x
placed n (Err why) = Err (record { reason = why; at = n })

-- it went on to s, or it is stuck
unfoldable pub ran : Result Unit Stuck → State → Answer.Result Machine.Stuck State
ran (Ok t) s = ok s
ran (Err e) s = stop (stuck (reason e.reason) e.at s)

-- the run of a block's first statement
unfoldable pub head : Layout → Block → Machine.Counters → State → Answer.Result Machine.Stuck State
head e (stops n) c s = ok s
head e (plain n o rest) c s = step e n o c s
head e (loop n l body rest) c s = repeat (λ m s. run e body (in_pass l c m) s) l.passes 0 s
head e (branch n p then other rest) c s = choose n p (λ s. run e then c s) (λ s. run e other c s) s

-- the record at which the block begins that an if at record i takes, by its register's word
unfoldable pub taken : List Rec → (i w : ℕ) → ℕ
taken rs i w = cond (eqb w 0) (suc (stop_of (tree_at rs (i + 1)))) (i + 1)
