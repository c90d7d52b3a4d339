-- The code's names for numbers, sections, sides and codes, as those of document 01.
use Rattle.std.specs.Prelude.{ℕ, Option, None, Some, Result, Ok, Err, [], ◌∷◌, get_or}
use Rattle.kernel.specs.declared.refusals.Misread.{Misread}
use Rattle.kernel.specs.declared.refusals.Misread.TheVariants.{BadLength, CountOutside, FieldOutside, BlocksUnmatched, TooDeep}
use Rattle.kernel.specs.declared.refusals.Misfit.{Misfit}
use Rattle.kernel.specs.declared.refusals.Misfit.TheVariants.{DoesNotFit, PastCount, NotNextIndex, NotHeld, UntrueAtEntry, NotKept, BranchesDiffer, StatementsLeft, BlockOpen, NotCounted}
use Rattle.kernel.specs.declared.refusals.Reason.{Reason}
use Rattle.kernel.specs.declared.refusals.Reason.TheVariants.{Unset, ZeroDivisor, IndexOutside, StreamEmpty, StreamFull}
use Rattle.kernel.specs.declared.refusals.Section.{Section}
use Rattle.kernel.specs.declared.refusals.Section.TheVariants.{Registers, Buffers, Arrays, ArrayProgram, StreamProgram, Derivation}
use Rattle.kernel.specs.declared.refusals.Unread.{Unread}
use Rattle.kernel.specs.declared.codes.Side.{Side}
use Rattle.kernel.specs.declared.codes.Side.TheVariants.{Input, Output}
use Rattle.kernel.specs.declared.codes.Code.{Code}
use Rattle.kernel.specs.declared.codes.Code.TheVariants as C
use Rattle.kernel.specs.declared.codes.Rule.{Rule}
use Rattle.kernel.specs.declared.codes.Rule.TheVariants as R
use Rattle.kernel.specs.declared.codes.Row.{Row}
use Rattle.kernel.specs.declared.codes.Row.TheVariants.{Position, Buffer}
use Rattle.kernel.specs.declared.codes.NoCode.{NoCode}
use Rattle.kernel.specs.Numbers as N
use Rattle.kernel.specs.File as File
use Rattle.kernel.specs.Reading.{Fault, fault}
use Rattle.kernel.specs.Derivation as D

-- ---- numbers given back

unfoldable pub misread : Misread → ℕ
misread BadLength = N.bad_length
misread CountOutside = N.count_outside
misread FieldOutside = N.field_outside
misread BlocksUnmatched = N.blocks_unmatched
misread TooDeep = N.too_deep

unfoldable pub misfit : Misfit → ℕ
misfit DoesNotFit = N.does_not_fit
misfit PastCount = N.past_count
misfit NotNextIndex = N.not_next_index
misfit NotHeld = N.not_held
misfit UntrueAtEntry = N.untrue_at_entry
misfit NotKept = N.not_kept
misfit BranchesDiffer = N.branches_differ
misfit StatementsLeft = N.statements_left
misfit BlockOpen = N.block_open
misfit NotCounted = N.not_counted

unfoldable pub reason : Reason → ℕ
reason Unset = N.unset
reason ZeroDivisor = N.zero_divisor
reason IndexOutside = N.index_outside
reason StreamEmpty = N.stream_empty
reason StreamFull = N.stream_full

unfoldable pub section : Section → ℕ
section Registers = N.registers_section
section Buffers = N.buffers_section
section Arrays = N.arrays_section
section ArrayProgram = N.array_program_section
section StreamProgram = N.stream_program_section
section Derivation = N.derivation_section

-- where there is no section its number is 0
unfoldable pub section_of : Option Section → ℕ
section_of None = 0
section_of (Some s) = section s

unfoldable pub unread : Unread → Fault
unread u = fault (misread u.why) (section_of u.section) u.place

-- ---- codes

abbrev pub no_code : NoCode
no_code = record {}

unfoldable pub side : Side → ℕ
side Input = File.input
side Output = File.output

-- the side, the code or the rule that a number stands for
unfoldable pub sided : ℕ → Result Side NoCode
sided w = get_or (Err no_code ∷ Ok Input ∷ Ok Output ∷ []) w (Err no_code)

unfoldable pub code : Code → ℕ
code C.Set = File.sets
code C.Copy = File.copies
code C.Work = File.works
code C.Load = File.loads
code C.Store = File.stores
code C.Read = File.reads
code C.Write = File.writes
code C.For = File.fors
code C.If = File.ifs
code C.Else = File.elses
code C.End = File.ends

unfoldable pub coded : ℕ → Result Code NoCode
coded w =
    get_or (Err no_code ∷ Ok C.Set ∷ Ok C.Copy ∷ Ok C.Work ∷ Ok C.Load ∷ Ok C.Store ∷ Ok C.Read ∷ Ok C.Write ∷ Ok C.For ∷ Ok C.If ∷ Ok C.Else ∷ Ok C.End ∷ []) w (Err no_code)

unfoldable pub rule : Rule → D.Rule
rule R.Same = D.same_rule
rule R.Read = D.read_rule
rule R.Fill = D.fill_rule
rule R.Use = D.use_rule
rule R.Move = D.move_rule
rule R.Write = D.write_rule
rule R.For = D.for_rule
rule R.If = D.if_rule
rule R.Else = D.else_rule
rule R.End = D.end_rule

unfoldable pub rule_number : Rule → ℕ
rule_number R.Same = 1
rule_number R.Read = 2
rule_number R.Fill = 3
rule_number R.Use = 4
rule_number R.Move = 5
rule_number R.Write = 6
rule_number R.For = 7
rule_number R.If = 8
rule_number R.Else = 9
rule_number R.End = 10

unfoldable pub ruled : ℕ → Result Rule NoCode
ruled w =
    get_or (Err no_code ∷ Ok R.Same ∷ Ok R.Read ∷ Ok R.Fill ∷ Ok R.Use ∷ Ok R.Move ∷ Ok R.Write ∷ Ok R.For ∷ Ok R.If ∷ Ok R.Else ∷ Ok R.End ∷ []) w (Err no_code)

unfoldable pub row : Row → ℕ
row Position = File.position_row
row Buffer = File.buffer_row
