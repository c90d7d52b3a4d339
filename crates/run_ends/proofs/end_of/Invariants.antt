use Prim.Native.Nat.{◌*◌, ◌≤◌}
use Rattle.parts.specs.Tables.{rows}
use Rattle.run_ends.proofs.Scan.{Scanning}
use Rattle.run_ends.proofs.end_of.Given as goal

-- the block sought stops where the one stops that follows the next `depth` elses and ends
abbrev pub invariant-loop-j : goal.invariant-loop-j
invariant-loop-j l = Scanning (rows l.records) l.i l.depth l.j × (l.depth ≤ 2 * l.j)
