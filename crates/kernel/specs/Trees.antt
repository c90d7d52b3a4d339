-- The block of a program, computed, so that a program can be run. `OneTree` ties it to the relation: of a program that reads, `tree` is the block that
-- its records are, and the only one.
use Rattle.std.specs.Prelude.{ℕ, suc, ◌≡◌, List, [], ◌∷◌, get_or, drop}
use Rattle.numbers.specs.Result.{ok}
use Rattle.kernel.specs.File.{Rec, Kernel, Statement, does, for, if, else, end, none, statement}
use Rattle.kernel.specs.Reading.{read_file}
use Rattle.kernel.specs.Blocks.{Block, stops, plain, loop, branch, OneBlock}

-- a statement in front of what follows it: the block that it stands in, then what comes after that block's else or end, and so on outward
unfoldable pub in_front : ℕ → Statement → List Block → List Block
in_front n (does o) [] = plain n o (stops (suc n)) ∷ []
in_front n (does o) (t ∷ ts) = plain n o t ∷ ts
in_front n (for l) [] = loop n l (stops (suc n)) (stops (suc n)) ∷ []
in_front n (for l) (b ∷ []) = loop n l b (stops (suc n)) ∷ []
in_front n (for l) (b ∷ t ∷ ts) = loop n l b t ∷ ts
in_front n (if p) [] = branch n p (stops (suc n)) (stops (suc n)) (stops (suc n)) ∷ []
in_front n (if p) (b ∷ []) = branch n p b (stops (suc n)) (stops (suc n)) ∷ []
in_front n (if p) (b ∷ c ∷ []) = branch n p b c (stops (suc n)) ∷ []
in_front n (if p) (b ∷ c ∷ t ∷ ts) = branch n p b c t ∷ ts
in_front n else ts = stops n ∷ ts
in_front n end ts = stops n ∷ ts
in_front n none ts = stops n ∷ ts

-- what follows from record n on
unfoldable pub blocks : ℕ → List Rec → List Block
blocks n [] = stops n ∷ []
blocks n (r ∷ rs) = in_front n (statement r) (blocks (suc n) rs)

-- the block that begins at record i
unfoldable pub tree_at : List Rec → (i : ℕ) → Block
tree_at rs i = get_or (blocks i (drop i rs)) 0 (stops i)

-- the block that begins at the program's first record
unfoldable pub tree : List Rec → Block
tree rs = tree_at rs 0

-- where a block stops: its else, its end or the program's
unfoldable pub stop_of : Block → ℕ
stop_of (stops n) = n
stop_of (plain n o rest) = stop_of rest
stop_of (loop n l body rest) = stop_of rest
stop_of (branch n p then other rest) = stop_of rest

-- the record after a block's first statement, or after the else or end that it has in its place
unfoldable pub after_first : Block → ℕ
after_first (stops n) = suc n
after_first (plain n o rest) = suc n
after_first (loop n l body rest) = suc (stop_of body)
after_first (branch n p then other rest) = suc (stop_of other)

-- each program of a file that reads is one block, its tree
pub record Trees (K : Kernel) : Type 0 where
  pub array_program : OneBlock K.array_program (tree K.array_program)
  pub stream_program : OneBlock K.stream_program (tree K.stream_program)

abbrev pub OneTree : Type 0
OneTree = (file : List ℕ) (K : Kernel) → read_file file ≡ ok K → Trees K
