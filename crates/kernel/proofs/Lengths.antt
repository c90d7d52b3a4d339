-- The sections of a file that reads are the whole file: its words are six counts and eight for each record.
use mathlib.Core.Path.{◌≡◌, ◌∙◌}
use mathlib.Core.List.{List, [], ◌∷◌}
use Prim.Native.Nat.{ℕ, ◌+◌, ◌*◌, ◌/◌}
use native.Mathlib.Omega.{arith}
use lib.ListN.{length, length-drop}
use borrow.Author.Tests.{eqb-true, leb-true}
use Rattle.numbers.specs.Words.{words}
use Rattle.numbers.proofs.Areas.{words_length}
use Rattle.numbers.proofs.Results.{On, on_ok, on_stop, on_need, on_then, whatever}
use Rattle.kernel.specs.File.{Rec, Kernel}
use Rattle.kernel.specs.Reading.{count, section, sections, read_file}
use Rattle.kernel.proofs.Readable.{length_records}

count_length : (s low high : ℕ) (ws : List ℕ) → On (λ (t : ℕ × List ℕ). length ws ≡ 1 + length t.1) (count s low high ws)
unfolding count
count_length s low high [] = on_stop
count_length s low high (n ∷ ws) = on_then _ (on_need _ _) λ t h. on_ok (omega arith)

section_length : (s low high : ℕ) (ws : List ℕ) → On (λ (t : List Rec × List ℕ). length ws ≡ 1 + 8 * length t.0 + length t.1) (section s low high ws)
unfolding section
section_length s low high ws =
    on_then _ (count_length s low high ws) λ (n, rest) h.
    on_then _ (on_need _ _) λ t g.
    on_ok (omega (arith, h, leb-true (8 * n) (length rest) g, length_records n rest, length-drop (8 * n) rest))

-- the records of all sections
abbrev pub all_records : Kernel → ℕ
all_records K = length K.arrays + length K.array_program + length K.stream_program + length K.derivation

sections_length : (ws : List ℕ) → On (λ K. 6 + 8 * all_records K ≡ length ws) (sections ws)
unfolding sections
sections_length ws =
    on_then _ (count_length 1 1 32 ws) λ (n, ws) a.
    on_then _ (count_length 2 0 16 ws) λ (m, ws) b.
    on_then _ (section_length 3 1 8 ws) λ (xs, ws) c.
    on_then _ (section_length 4 0 256 ws) λ (ys, ws) d.
    on_then _ (section_length 5 0 256 ws) λ (zs, ws) e.
    on_then _ (section_length 6 0 1024 ws) λ (rs, ws) f.
    on_then _ (on_need _ _) λ t g.
    on_ok (omega (arith, a, b, c, d, e, f, eqb-true (length ws) 0 g))

pub file_length : (bytes : List ℕ) → On (λ K. 6 + 8 * all_records K ≡ length bytes / 4) (read_file bytes)
unfolding read_file
file_length bytes =
    on_then _ (on_need _ _) λ t h.
    on_then _ (sections_length (words bytes)) λ K k.
    on_then _ whatever λ t _. on_then _ whatever λ t _. on_then _ whatever λ t _. on_then _ whatever λ t _.
    on_ok (k ∙ words_length bytes)
