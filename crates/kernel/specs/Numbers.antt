-- "Numbers given back": a name for each, in document 01's order, and for the sections that a place names.
use Rattle.std.specs.Prelude.{ℕ}

-- ---- from reading

-- "length not a multiple of 4, too short, or something left over"
abbrev pub bad_length : ℕ
bad_length = 1

-- "a count outside its range"
abbrev pub count_outside : ℕ
count_outside = 2

-- "a field or code outside its range, or lengths over 8,192"
abbrev pub field_outside : ℕ
field_outside = 3

-- "blocks don't match"
abbrev pub blocks_unmatched : ℕ
blocks_unmatched = 4

-- "too deep, too many passes, or a counter not around"
abbrev pub too_deep : ℕ
too_deep = 5

-- ---- from the check

-- "rule doesn't fit the next statements, or hold rows missing, out of order, stray or naming a counter not around"
abbrev pub does_not_fit : ℕ
does_not_fit = 10

-- not "position below count (11)"
abbrev pub past_count : ℕ
past_count = 11

-- not "load index is the next index (12)"
abbrev pub not_next_index : ℕ
not_next_index = 12

-- not "buffer holds that array and index (13)"; not "the one copied holds something (13)"
abbrev pub not_held : ℕ
not_held = 13

-- not "hold rows true at entry (14)"
abbrev pub untrue_at_entry : ℕ
untrue_at_entry = 14

-- not "loop: hold rows kept (15)"
abbrev pub not_kept : ℕ
not_kept = 15

-- not "if: positions of both branches equal (16)"
abbrev pub branches_differ : ℕ
branches_differ = 16

-- "derivation over, statements left"
abbrev pub statements_left : ℕ
statements_left = 17

-- "none left, but a block open"
abbrev pub block_open : ℕ
block_open = 18

-- "some stream's position isn't its count"
abbrev pub not_counted : ℕ
not_counted = 19

-- ---- from runs, laying out and putting back

-- "memory of a wrong length"
abbrev pub wrong_memory : ℕ
wrong_memory = 21

-- "Using an unset register sticks (31)"
abbrev pub unset : ℕ
unset = 31

-- "then a zero divisor (32)"
abbrev pub zero_divisor : ℕ
zero_divisor = 32

-- "an index outside the array (33)"
abbrev pub index_outside : ℕ
index_outside = 33

-- "an empty stream (34)"
abbrev pub stream_empty : ℕ
stream_empty = 34

-- "a stream that has its full count (35)"
abbrev pub stream_full : ℕ
stream_full = 35

-- ---- "Sections: 1 registers, 2 buffers, 3 arrays, 4 array program, 5 stream program, 6 derivation"

abbrev pub registers_section : ℕ
registers_section = 1

abbrev pub buffers_section : ℕ
buffers_section = 2

abbrev pub arrays_section : ℕ
arrays_section = 3

abbrev pub array_program_section : ℕ
array_program_section = 4

abbrev pub stream_program_section : ℕ
stream_program_section = 5

abbrev pub derivation_section : ℕ
derivation_section = 6
