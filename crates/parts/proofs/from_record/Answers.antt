-- `parts::from_record` meets its contract: a part to the end is what `drop` leaves.
use mathlib.Core.Path.{◌≡◌, sym, ◌∙◌}
use mathlib.Core.List.{List}
use Prim.Native.Nat.{ℕ, ◌-◌, ◌*◌, ◌≤◌}
use native.Mathlib.Nat.{mul_comm}
use native.Mathlib.Omega.{arith}
use lib.ListN.{length, take, drop, length-drop, drop_of_length-le}
use lib.Seq.{take_all, drop-length}
use Rattle.parts.proofs.from_record.Goals as goal

-- the part from a to the end
to_end : (a : ℕ) (s : List ℕ) → take (length s - a) (drop a s) ≡ drop a s
to_end a s = take_all (length s - a) (drop a s) (simp length-drop (omega arith))

-- past the end nothing is left
past : (a : ℕ) (s : List ℕ) → length s ≤ a → take (length s - length s) (drop (length s) s) ≡ drop a s
past a s h = to_end (length s) s ∙ drop-length s ∙ sym (drop_of_length-le s h)

pub returns-then-n-program : goal.returns-then-n-program
returns-then-n-program c = rw to_end (rw (mul_comm 32))

pub returns-else-n-program : goal.returns-else-n-program
returns-else-n-program c =
    let a = c.args in
    past (32 * a.n) a.program.now (omega arith)
