-- "A block is a row of statements, and a for or an if holds blocks": which records of a program are which block.
use Rattle.std.specs.Prelude.{ℕ, suc, ◌≤◌, ◌≡◌, List, length, get_or}
use Rattle.forms.specs.Form.{Loop}
use Rattle.kernel.specs.File.{Rec, nothing, Op, Statement, does, for, if, else, end, statement}

-- a block as a tree: its statements in a row, each with its number, and the number of the else, the end or the place past the last record at which it stops
pub data Block : Type 0 where
  stops : (n : ℕ) → Block
  plain : (n : ℕ) → Op → (rest : Block) → Block
  loop : (n : ℕ) → Loop → (body rest : Block) → Block
  branch : (n p : ℕ) → (then other rest : Block) → Block

-- what record i says
abbrev pub said : List Rec → (i : ℕ) → Statement
said rs i = statement (get_or rs i nothing)

-- a row is over at an else, at an end, or past the last record
pub data StopsAt (rs : List Rec) (j : ℕ) : Type 0 where
  at_an_else : said rs j ≡ else → StopsAt rs j
  at_an_end : said rs j ≡ end → StopsAt rs j
  past_the_last : length rs ≤ j → StopsAt rs j

-- records i up to j are this block: j is where its row is over
pub data IsBlock (rs : List Rec) : Block → (i j : ℕ) → Type 0 where
  row_over : {j : ℕ} → StopsAt rs j → IsBlock rs (stops j) j j
  -- a statement that holds no block, then the rest of the row
  row_plain : {i j : ℕ} {o : Op} {rest : Block} → said rs i ≡ does o → IsBlock rs rest (suc i) j → IsBlock rs (plain i o rest) i j
  -- a for holds the block up to its end
  row_for : {i e j : ℕ} {l : Loop} {body rest : Block}
      → said rs i ≡ for l → IsBlock rs body (suc i) e → said rs e ≡ end → IsBlock rs rest (suc e) j → IsBlock rs (loop i l body rest) i j
  -- an if holds the block up to its else and the block from there up to its end
  row_if : {i m e j p : ℕ} {first second rest : Block}
      → said rs i ≡ if p → IsBlock rs first (suc i) m → said rs m ≡ else → IsBlock rs second (suc m) e → said rs e ≡ end → IsBlock rs rest (suc e) j
      → IsBlock rs (branch i p first second rest) i j

-- all these records are block t, and from the first record on there is no other
pub record OneBlock (rs : List Rec) (t : Block) : Type 0 where
  pub is : IsBlock rs t 0 (length rs)
  pub only : (u : Block) (j : ℕ) → IsBlock rs u 0 j → (u ≡ t) × (j ≡ length rs)
